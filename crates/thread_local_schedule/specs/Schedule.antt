-- What the theorems say of an event: its move, its refusal, whose it is; and which cores schedules
-- reach.
use Rattle.std.specs.Prelude.{◌≡◌, ℕ, ◌^◌, ◌<◌, Bool, true, false, not, ◌&&◌, List, [], ◌∷◌, Option, Some, None}
use Rattle.std.specs.Prelude.{option_map, ⊤, ◌==◌, if◌then◌else◌}
use Rattle.thread_local_base.specs.Held.{is_granted}
use Rattle.thread_local_base.specs.IdMoves.{Take, Give, Publish}
use Rattle.thread_local_base.specs.Sheet.{OfHistory, Rewrite, Clear}
use Rattle.thread_local_schedule.specs.TableMoves.{TableMove, OfSheet, Drain}
use Rattle.thread_local_schedule.specs.Table.{Table}
use Rattle.thread_local_schedule.specs.Local.{Local, LocalStep, MakeBucket}
use Rattle.thread_local_schedule.specs.Fits.{value_set}
use Rattle.thread_local_schedule.specs.Core.{Core, made_core}
use Rattle.thread_local_schedule.specs.Events.{Event, TakeId, OfLocal, GiveBack, Forget, BeginWalk, OfWalk, EndWalk}
use Rattle.thread_local_schedule.specs.Events.{Owner, RewriteTable, DrainTable, ClearTable, IntoIter, DropTable, is_enabled, happens}
use Rattle.thread_local_schedule.specs.Events.{run}

-- the move of a Local's step: the value that it publishes, if any
abbrev pub publishing : {V E : Type 0} → Table V → Option (Local V E) → LocalStep V E → Option (TableMove V)
publishing table None step = None
publishing table (Some local) step = option_map (λ value. OfSheet (OfHistory (Publish local.id value))) (value_set table local step)

-- the move of an enabled event, if any: a granted take, the step that sets a flag, an id given
-- back, an owner's rewrite, drain and clear
abbrev pub move_of : {V E : Type 0} → Core V E → Event V E → Option (TableMove V)
move_of core (TakeId refused growth) = if is_granted core.manager refused then Some (OfSheet (OfHistory Take)) else None
move_of core (OfLocal number step) = publishing core.table (core.locals number) step
move_of core (GiveBack number) = option_map (λ local. OfSheet (OfHistory (Give local.id))) (core.locals number)
move_of core (Owner (RewriteTable others)) = Some (OfSheet (Rewrite others))
move_of core (Owner DrainTable) = Some Drain
move_of core (Owner ClearTable) = Some (OfSheet Clear)
move_of core event = None

-- the move of an event: none where it isn't enabled
abbrev pub move : {V E : Type 0} → Core V E → Event V E → Option (TableMove V)
move core event = if is_enabled core event then move_of core event else None

-- whether an event is a take
abbrev pub is_take : {V E : Type 0} → Event V E → Bool
is_take (TakeId refused growth) = true
is_take event = false

-- whether an event is the beginning of a walk
abbrev pub begins_walk : {V E : Type 0} → Event V E → Bool
begins_walk BeginWalk = true
begins_walk event = false

-- whether an event is an owner's call
abbrev pub is_exclusive : {V E : Type 0} → Event V E → Bool
is_exclusive (Owner call) = true
is_exclusive event = false

-- whether an event is a clear
abbrev pub is_clear : {V E : Type 0} → Event V E → Bool
is_clear (Owner ClearTable) = true
is_clear event = false

-- whether an event is an owner's rewrite, drain or clear
abbrev pub changes_values : {V E : Type 0} → Event V E → Bool
changes_values (Owner (RewriteTable others)) = true
changes_values (Owner DrainTable) = true
changes_values (Owner ClearTable) = true
changes_values event = false

-- whether an event ends the table: `into_iter`, and the drop
abbrev pub ends_table : {V E : Type 0} → Event V E → Bool
ends_table (Owner IntoIter) = true
ends_table (Owner DropTable) = true
ends_table event = false

-- whether an event is a step of this Local, its drop, or its being forgotten
abbrev pub is_of : {V E : Type 0} → ℕ → Event V E → Bool
is_of n (OfLocal number step) = number == n
is_of n (GiveBack number) = number == n
is_of n (Forget number) = number == n
is_of n event = false

-- whether an event is a step or the end of this walk
abbrev pub is_of_walk : {V E : Type 0} → ℕ → Event V E → Bool
is_of_walk n (OfWalk number step) = number == n
is_of_walk n (EndWalk number) = number == n
is_of_walk n event = false

-- there is no Local, and no walk is under way
pub record IsAlone {V E : Type 0} (core : Core V E) : Type 0 where
  pub locals : (n : ℕ) → core.locals n ≡ None
  pub walks : (n : ℕ) → core.walks n ≡ None

-- whether an enabled event ends in a refusal: a take that gets no id, a bucket that gets no memory
abbrev pub refuses : {V E : Type 0} → Core V E → Event V E → Bool
refuses core (TakeId refused growth) = not (is_granted core.manager refused)
refuses core (OfLocal number (MakeBucket refused)) = refused
refuses core event = false

-- whether an event ends in a refusal
abbrev pub is_refused : {V E : Type 0} → Core V E → Event V E → Bool
is_refused core event = is_enabled core event && refuses core event

-- whether an event gives an id to a Local: a take that is enabled and isn't refused
abbrev pub is_granted_take : {V E : Type 0} → Core V E → Event V E → Bool
is_granted_take core event = is_take event && is_enabled core event && not (refuses core event)

-- the Local that a granted take makes
abbrev pub newcomer : {V E : Type 0} → Core V E → Event V E → Option (Local V E)
newcomer core event = (happens core event).locals core.taken

-- the core of a table from `new`, or made with a capacity below 2^63, after some schedule
pub record IsReached {V E : Type 0} (core : Core V E) : Type 0 where
  pub capacity : ℕ
  pub extra : ℕ
  pub events : List (Event V E)
  pub bounded : capacity < 2 ^ 63
  pub leads : run (made_core capacity extra) events ≡ core

-- no event of a schedule gives an id to a Local
abbrev pub NoneTaken : {V E : Type 0} → Core V E → List (Event V E) → Type 0
NoneTaken core [] = ⊤
NoneTaken core (event ∷ events) = (is_granted_take core event ≡ false) × NoneTaken (happens core event) events
