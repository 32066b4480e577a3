-- The events of a schedule, and the core after each.
use Rattle.std.specs.Prelude.{ℕ, zero, suc, Bool, true, false, List, [], ◌∷◌, Option, Some, None, is_some, option_map}
use Rattle.std.specs.Prelude.{option_and_then, unwrap_or, if◌then◌else◌}
use Rattle.thread_local_base.specs.Held.{least, is_granted, taken_from, given_to}
use Rattle.thread_local_base.specs.Answers.{first_view}
use Rattle.thread_local_schedule.specs.Local.{Doing, Gets, Local, fresh_local, LocalStep, local_step}
use Rattle.thread_local_schedule.specs.Table.{Table}
use Rattle.thread_local_schedule.specs.SharedWalk.{SharedWalk, begun_walk, WalkStep, walk_step}
use Rattle.thread_local_schedule.specs.OwnerWalk.{rewritten}
use Rattle.thread_local_schedule.specs.Cleared.{cleared, drained}
use Rattle.thread_local_schedule.specs.Core.{Core, shadow, put, is_alone}

-- What an exclusive owner does: values are replaced, by `iter_mut`, `entries_mut` or `get_mut`;
-- slots are counted; `drain` takes all values out; `clear`; the table is taken apart, by
-- `into_iter`, `into_entries` or `into_buckets`; or it is dropped. There is no event for
-- `buckets_mut`, which may leave any buckets: the schedules are of tables that never lend theirs.
pub data OwnerCall (V : Type 0) : Type 0 where
  RewriteTable : (others : ℕ → V → V) → OwnerCall V
  Slots : OwnerCall V
  DrainTable : OwnerCall V
  ClearTable : OwnerCall V
  IntoIter : OwnerCall V
  DropTable : OwnerCall V

-- An event of a schedule, with what is chosen: a take, where memory may be refused and room may
-- grow; a step of a Local's call; a Local's drop, or its being forgotten; a walk's beginning, steps
-- and end; an owner's call.
pub data Event (V E : Type 0) : Type 0 where
  TakeId : (refused : Bool) → (growth : ℕ) → Event V E
  OfLocal : (number : ℕ) → (step : LocalStep V E) → Event V E
  GiveBack : (number : ℕ) → Event V E
  Forget : (number : ℕ) → Event V E
  BeginWalk : Event V E
  OfWalk : (number : ℕ) → (step : WalkStep) → Event V E
  EndWalk : (number : ℕ) → Event V E
  Owner : (call : OwnerCall V) → Event V E

-- The core after each kind of event.

-- the core after a Local has taken the least id that isn't held
abbrev pub take_id : {V E : Type 0} → Core V E → ℕ → Core V E
take_id core growth =
    let id = least core.manager.held in
    record core {
      manager = taken_from core.manager growth;
      locals = put core.locals core.taken (Some (fresh_local id (first_view (shadow core) id)));
      taken = suc core.taken;
    }

-- the core after a step of a Local, which leaves this table and Local
abbrev pub with_step : {V E : Type 0} → Core V E → ℕ → Table V × Local V E → Core V E
with_step core number after = record core { table = after.0; locals = put core.locals number (Some after.1) }

-- the core without a Local
abbrev pub without_local : {V E : Type 0} → Core V E → ℕ → Core V E
without_local core number = record core { locals = put core.locals number None }

-- the core without a Local, whose id isn't held any longer
abbrev pub with_id_given : {V E : Type 0} → Core V E → ℕ → ℕ → Core V E
with_id_given core number id = record (without_local core number) { manager = given_to core.manager id }

-- the core with this walk at a number
abbrev pub with_walk : {V E : Type 0} → Core V E → ℕ → SharedWalk V → Core V E
with_walk core number walk = record core { walks = put core.walks number (Some walk) }

-- the core without a walk
abbrev pub without_walk : {V E : Type 0} → Core V E → ℕ → Core V E
without_walk core number = record core { walks = put core.walks number None }

-- the core after an owner's call: a rewrite replaces values; a drain leaves the buckets without
-- values, and the ids as they are; a clear leaves no id held and the table cleared, with the same
-- room and capacity; `into_iter` and the drop end the table
abbrev pub after_owner : {V E : Type 0} → Core V E → OwnerCall V → Core V E
after_owner core (RewriteTable others) = record core { table = rewritten core.table others }
after_owner core Slots = core
after_owner core DrainTable = record core { table = drained core.table }
after_owner core ClearTable =
    record core { manager = record core.manager { held = [] }; table = cleared core.table core.capacity }
after_owner core IntoIter = record core { ended = true }
after_owner core DropTable = record core { ended = true }

-- whether a Local has no call under way
abbrev pub is_idle : {V E : Type 0} → Doing V E → Bool
is_idle (Gets zero) = true
is_idle doing = false

-- Each event below gives the core after it, or None where it isn't enabled.

-- a Local makes a step
abbrev pub of_local : {V E : Type 0} → Core V E → ℕ → LocalStep V E → Option (Core V E)
of_local core number step =
    option_and_then (λ local. option_map (with_step core number) (local_step core.table local step)) (core.locals number)

-- a Local with no call under way gives its id back
abbrev pub give_back : {V E : Type 0} → Core V E → ℕ → Option (Core V E)
give_back core number =
    option_and_then (λ local. if is_idle local.doing then Some (with_id_given core number local.id) else None) (core.locals number)

-- a Local with no call under way is forgotten: its id stays held
abbrev pub forget : {V E : Type 0} → Core V E → ℕ → Option (Core V E)
forget core number =
    option_and_then (λ local. if is_idle local.doing then Some (without_local core number) else None) (core.locals number)

-- a walk begins: it loads which buckets are announced
abbrev pub begin_walk : {V E : Type 0} → Core V E → Option (Core V E)
begin_walk core = Some (record (with_walk core core.walked (begun_walk core.table)) { walked = suc core.walked })

-- a walk under way makes a step
abbrev pub of_walk : {V E : Type 0} → Core V E → ℕ → WalkStep → Option (Core V E)
of_walk core number step =
    option_and_then (λ walk. option_map (with_walk core number) (walk_step core.table walk step)) (core.walks number)

-- a walk under way ends
abbrev pub end_walk : {V E : Type 0} → Core V E → ℕ → Option (Core V E)
end_walk core number = option_map (λ walk. without_walk core number) (core.walks number)

-- an owner's call is enabled where the table has an exclusive owner
abbrev pub owner_call : {V E : Type 0} → Core V E → OwnerCall V → Option (Core V E)
owner_call core call = if is_alone core then Some (after_owner core call) else None

-- the core after an event of a table that hasn't ended
abbrev pub step_of : {V E : Type 0} → Core V E → Event V E → Option (Core V E)
step_of core (TakeId refused growth) = Some (if is_granted core.manager refused then take_id core growth else core)
step_of core (OfLocal number step) = of_local core number step
step_of core (GiveBack number) = give_back core number
step_of core (Forget number) = forget core number
step_of core BeginWalk = begin_walk core
step_of core (OfWalk number step) = of_walk core number step
step_of core (EndWalk number) = end_walk core number
step_of core (Owner call) = owner_call core call

-- the core after an event, or None where the event isn't enabled; none is once the table has ended
unfoldable pub step : {V E : Type 0} → Core V E → Event V E → Option (Core V E)
step core event = if core.ended then None else step_of core event

-- whether an event is enabled
unfoldable pub is_enabled : {V E : Type 0} → Core V E → Event V E → Bool
is_enabled core event = is_some (step core event)

-- the core after an event; the same core where the event isn't enabled
unfoldable pub happens : {V E : Type 0} → Core V E → Event V E → Core V E
happens core event = unwrap_or (step core event) core

-- the core after a schedule, which is any list of events
unfoldable pub run : {V E : Type 0} → Core V E → List (Event V E) → Core V E
run core [] = core
run core (event ∷ events) = run (happens core event) events
