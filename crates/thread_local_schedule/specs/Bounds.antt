-- What the bounds count over a schedule: the most ids held at once since a clear, and the
-- publishings since a clear or a drain.
use Rattle.std.specs.Prelude.{◌≡◌, ℕ, suc, ◌<◌, max, false, ◌&&◌, List, [], ◌∷◌, Option, Some, IsTrue, ⊤, if◌then◌else◌}
use Rattle.thread_local_base.specs.Held.{held_count}
use Rattle.thread_local_base.specs.IdMoves.{Publish}
use Rattle.thread_local_base.specs.Sheet.{OfHistory, Clear}
use Rattle.thread_local_schedule.specs.TableMoves.{TableMove, OfSheet, Drain}
use Rattle.thread_local_schedule.specs.Core.{Core}
use Rattle.thread_local_schedule.specs.Events.{Event, is_enabled, happens}
use Rattle.thread_local_schedule.specs.Schedule.{move, is_take, is_clear, is_refused}

-- the most ids held at once after an event, given the most before it
abbrev pub most_after : {V E : Type 0} → ℕ → Core V E → Event V E → ℕ
most_after most core event =
    if is_enabled core event && is_clear event then 0 else max most (held_count (happens core event).manager.held)

-- the most ids held at once after these events, given the most before them
abbrev pub most_after_all : {V E : Type 0} → ℕ → Core V E → List (Event V E) → ℕ
most_after_all most core [] = most
most_after_all most core (event ∷ events) = most_after_all (most_after most core event) (happens core event) events

-- the most ids held at once since a table with no id held was made, or cleared by these events
abbrev pub most_held : {V E : Type 0} → Core V E → List (Event V E) → ℕ
most_held core events = most_after_all 0 core events

-- the number of publishings after a move, given the number before it: a clear and a drain start
-- anew
abbrev pub publishings_with : {V : Type 0} → ℕ → Option (TableMove V) → ℕ
publishings_with n (Some (OfSheet (OfHistory (Publish id value)))) = suc n
publishings_with n (Some (OfSheet Clear)) = 0
publishings_with n (Some Drain) = 0
publishings_with n move = n

-- the number of publishings after these events, given the number before them
abbrev pub publishings_after_all : {V E : Type 0} → ℕ → Core V E → List (Event V E) → ℕ
publishings_after_all n core [] = n
publishings_after_all n core (event ∷ events) = publishings_after_all (publishings_with n (move core event)) (happens core event) events

-- the number of publishings since a table without values was made, or cleared or drained by these
-- events
abbrev pub publishings : {V E : Type 0} → Core V E → List (Event V E) → ℕ
publishings core events = publishings_after_all 0 core events

-- each take of a schedule comes while fewer than this many ids are held
abbrev pub TakesBelow : {V E : Type 0} → ℕ → Core V E → List (Event V E) → Type 0
TakesBelow bound core [] = ⊤
TakesBelow bound core (event ∷ events) =
    (IsTrue (is_take event) → held_count core.manager.held < bound) × TakesBelow bound (happens core event) events

-- no event of a schedule ends in a refusal
abbrev pub NothingRefused : {V E : Type 0} → Core V E → List (Event V E) → Type 0
NothingRefused core [] = ⊤
NothingRefused core (event ∷ events) = (is_refused core event ≡ false) × NothingRefused (happens core event) events
