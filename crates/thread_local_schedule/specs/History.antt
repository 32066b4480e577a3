-- The history of a table over a schedule: what was done with its ids and slots, in the order in
-- which it happened, and whether each value is still as it was published.
use Rattle.std.specs.Prelude.{Bool, true, false, List, [], ◌∷◌, Option, Some}
use Rattle.thread_local_base.specs.IdMoves.{HistoryMove, noted}
use Rattle.thread_local_base.specs.Sheet.{OfHistory, Rewrite, Clear}
use Rattle.thread_local_schedule.specs.TableMoves.{TableMove, OfSheet, Drain}
use Rattle.thread_local_schedule.specs.Core.{Core}
use Rattle.thread_local_schedule.specs.Events.{Event, happens}
use Rattle.thread_local_schedule.specs.Schedule.{move}

-- the history after a move of the table, given the history before it: a take, a give and a
-- publishing are noted, and a clear begins anew
abbrev pub history_with : {V : Type 0} → List (HistoryMove V) → Option (TableMove V) → List (HistoryMove V)
history_with moves (Some (OfSheet (OfHistory move))) = noted moves move
history_with moves (Some (OfSheet Clear)) = []
history_with moves move = moves

-- the history after these events, given the history before them
abbrev pub history_after_all : {V E : Type 0} → List (HistoryMove V) → Core V E → List (Event V E) → List (HistoryMove V)
history_after_all moves core [] = moves
history_after_all moves core (event ∷ events) = history_after_all (history_with moves (move core event)) (happens core event) events

-- the history since a table with no id held was made, or cleared by these events
abbrev pub history : {V E : Type 0} → Core V E → List (Event V E) → List (HistoryMove V)
history core events = history_after_all [] core events

-- whether each value is as it was published after a move of the table, given whether each was
-- before it: a rewrite and a drain end that, and a clear begins anew
abbrev pub as_published_with : {V : Type 0} → Bool → Option (TableMove V) → Bool
as_published_with before (Some (OfSheet (Rewrite others))) = false
as_published_with before (Some (OfSheet Clear)) = true
as_published_with before (Some Drain) = false
as_published_with before move = before

-- whether each value is as it was published after these events, given whether each was before them
abbrev pub as_published_after_all : {V E : Type 0} → Bool → Core V E → List (Event V E) → Bool
as_published_after_all before core [] = before
as_published_after_all before core (event ∷ events) =
    as_published_after_all (as_published_with before (move core event)) (happens core event) events

-- whether no rewrite and no drain came since a table was made, or cleared by these events
abbrev pub is_as_published : {V E : Type 0} → Core V E → List (Event V E) → Bool
is_as_published core events = as_published_after_all true core events
