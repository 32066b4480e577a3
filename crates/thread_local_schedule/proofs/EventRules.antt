-- What every event needs and does, from its rule.
use Rattle.std.proofs.Common.{◌≡◌, ℕ, ◌+◌, ◌-◌, ◌^◌, ◌<◌, ◌≤◌, max, Bool, true, false, not, ◌&&◌, cond, List, [], ◌∷◌, ◌++◌, Option}
use Rattle.std.proofs.Common.{Some, None}
use Rattle.std.proofs.Common.{Result, Err, is_some, IsTrue, IfSome, IsSomeAnd, refl, ap, sym, ◌∙◌, subst, arith, ⊎_elim}
use Rattle.std.specs.Prelude.{option_map, option_and_then, unwrap_or, IsSome}
use Rattle.std.proofs.lemmas.Bool.{false≢true, cond_both, cases_Bool}
use Rattle.thread_local_base.specs.Held.{is_granted, HoldsAllBelow}
use Rattle.thread_local_base.proofs.HeldLaws.{needs-refused}
use Rattle.thread_local_base.specs.Learnt.{Unknown, Missing, Vacant}
use Rattle.thread_local_base.specs.Answers.{Failed}
use Rattle.thread_local_schedule.specs.Local.{Local, LocalStep, BeginGet, BeginGetOr, MakeBucket, WriteValue, local_step}
use Rattle.thread_local_schedule.specs.Calls.{closure_of, HasNoCall, GoesDown, EndsWith}
use Rattle.thread_local_schedule.proofs.EnabledSteps as step
use Rattle.thread_local_schedule.proofs.GoingOn as call
use Rattle.thread_local_schedule.specs.SharedWalk.{WalkStep, walk_step}
use Rattle.thread_local_schedule.specs.OwnerWalk.{rewritten}
use Rattle.thread_local_schedule.specs.Cleared.{drained}
use Rattle.thread_local_schedule.specs.Table.{Table, empty_slot, slot_at, bucket_stands}
use Rattle.thread_local_schedule.proofs.ClearedLaws.{slot_at-drained, bucket_stands-drained}
use Rattle.thread_local_schedule.specs.Core.{Core, made_core, shadow, peak, is_alone}
use Rattle.thread_local_schedule.specs.CoreFits.{CoreFits}
use Rattle.thread_local_schedule.proofs.OptionLaws.{if_enabled, if_there, if_then, some_and, some_step, unwrapped}
use Rattle.thread_local_schedule.specs.Events.{Event, TakeId, OfLocal, GiveBack, Forget, BeginWalk, OfWalk, EndWalk}
use Rattle.thread_local_schedule.specs.Events.{Owner, OwnerCall, RewriteTable, Slots, DrainTable, ClearTable, IntoIter, DropTable}
use Rattle.thread_local_schedule.specs.Events.{take_id, with_step, of_local, is_idle, without_local, with_id_given}
use Rattle.thread_local_schedule.specs.Events.{give_back, forget, with_walk, of_walk, after_owner, step_of, step}
use Rattle.thread_local_schedule.specs.Events.{is_enabled, happens, run}
use Rattle.thread_local_schedule.specs.Schedule.{is_take, is_refused, is_granted_take, newcomer, IsReached}
use Rattle.thread_local_schedule.proofs.Clauses as clause
use Rattle.thread_local_schedule.proofs.Clauses.{owner_goes, enabled_step}
use Rattle.thread_local_schedule.proofs.Enabled.{may, takes, step_goes}

-- a schedule and one event more
pub run-append : {V E : Type 0} (core : Core V E) (events more : List (Event V E))
    → run core (events ++ more) ≡ run (run core events) more
unfolding run
run-append core [] more = refl
run-append core (event ∷ events) more = run-append (happens core event) events more

pub run-none : {V E : Type 0} (core : Core V E) → run core [] ≡ core
unfolding run
run-none core = refl

pub run-one : {V E : Type 0} (core : Core V E) (events : List (Event V E)) (event : Event V E)
    → run core (events ++ event ∷ []) ≡ happens (run core events) event
unfolding run
run-one core events event = run-append core events (event ∷ [])

pub reached_first : {V E : Type 0} (capacity extra : ℕ) → capacity < 2 ^ 63 → IsReached {V = V} {E = E} (made_core capacity extra)
unfolding run
reached_first capacity extra l = record { capacity = capacity; extra = extra; events = []; bounded = l; leads = refl }

pub reached_next : {V E : Type 0} (core : Core V E) (event : Event V E) → IsReached core → IsReached (happens core event)
reached_next core event r = record {
  capacity = r.capacity;
  extra = r.extra;
  events = r.events ++ event ∷ [];
  bounded = r.bounded;
  leads = run-one (made_core r.capacity r.extra) r.events event ∙ ap (λ before. happens before event) r.leads;
}

-- what is enabled by a member of a family needs that member
then_there : {A B : Type 0} (f : A → Option B) (o : Option A) → IsTrue (is_some (option_and_then f o)) → IsSome o
then_there f None t = absurd (false≢true t)
then_there f (Some x) t = refl

map_there : {A B : Type 0} (f : A → B) (o : Option A) → IsTrue (is_some (option_map f o)) → IsSome o
map_there f None t = absurd (false≢true t)
map_there f (Some x) t = refl

pub lives : {V E : Type 0} (core : Core V E) (n : ℕ) (step : LocalStep V E)
    → IsTrue (is_enabled core (OfLocal n step))
    → IsSome (core.locals n)
lives core n step t = then_there _ (core.locals n) (enabled_step core (OfLocal n step) t)

pub walks : {V E : Type 0} (core : Core V E) (n : ℕ) (step : WalkStep)
    → IsTrue (is_enabled core (OfWalk n step))
    → IsSome (core.walks n)
walks core n step t = then_there _ (core.walks n) (enabled_step core (OfWalk n step) t)

pub ends : {V E : Type 0} (core : Core V E) (n : ℕ) → IsTrue (is_enabled core (EndWalk n)) → IsSome (core.walks n)
ends core n t = map_there _ (core.walks n) (enabled_step core (EndWalk n) t)

-- a Local's step is enabled where the step's own rule gives something
mapped : {A B : Type 0} (f : A → B) (o : Option A) → IsTrue (is_some o) → IsTrue (is_some (option_map f o))
mapped f None t = t
mapped f (Some x) t = refl

pub may_step : {V E : Type 0} (core : Core V E) (n : ℕ) (local : Local V E) (step : LocalStep V E)
    → core.ended ≡ false → core.locals n ≡ Some local
    → IsTrue (is_some (local_step core.table local step)) → IsTrue (is_enabled core (OfLocal n step))
may_step core n local step going at t =
    may core (OfLocal n step) going
    (subst (λ o.
    IsTrue
    (is_some
    (option_and_then (λ l. option_map (with_step core n) (local_step core.table l step))
    o)))
    (sym at) (mapped (with_step core n) (local_step core.table local step) t))

pub get_begins : {V E : Type 0} (core : Core V E) (n : ℕ) (local : Local V E) → core.ended ≡ false
    → core.locals n ≡ Some local → closure_of local.doing ≡ None
    → IsTrue (is_enabled core (OfLocal n BeginGet))
get_begins core n local going at none = may_step core n local BeginGet going at (step.begins_get core.table local none)

pub get_or_begins : {V E : Type 0} (core : Core V E) (n : ℕ) (local : Local V E)
    (create : Result V E)
    → core.ended ≡ false → core.locals n ≡ Some local → HasNoCall local
    → IsTrue (is_enabled core (OfLocal n (BeginGetOr create)))
get_or_begins core n local create going at none =
    may_step core n local (BeginGetOr create) going at
    (step.begins_get_or core.table local create none)

pub newcomers : {V E : Type 0} (core : Core V E) (event : Event V E) → IsTrue (is_granted_take core event)
    → IsSomeAnd (newcomer core event) (λ local. HasNoCall local × (local.learnt ≡ Unknown))
newcomers core event t =
    some_and (newcomer core event) _ (λ local. HasNoCall local × (local.learnt ≡ Unknown))
    (clause.new_local core event t) (record { gets = refl; closure = refl }, refl)

-- an owner's calls
pub slots : {V E : Type 0} (core : Core V E) → happens core (Owner Slots) ≡ core
slots core = ⊎_elim (λ t. owner_goes core Slots t) (λ f. clause.idle core (Owner Slots) f) (cases_Bool (is_enabled core (Owner Slots)))

pub rewrites : {V E : Type 0} (core : Core V E) (others : ℕ → V → V) → IsTrue (is_enabled core (Owner (RewriteTable others)))
    → happens core (Owner (RewriteTable others)) ≡ record core { table = rewritten core.table others }
rewrites core others t = owner_goes core (RewriteTable others) t

pub drained_core : {V E : Type 0} (core : Core V E) → IsTrue (is_enabled core (Owner DrainTable))
    → happens core (Owner DrainTable) ≡ record core { table = drained core.table }
drained_core core t = owner_goes core DrainTable t

pub drained_stands : {V E : Type 0} (core : Core V E) (bucket : ℕ)
    → IsTrue (is_enabled core (Owner DrainTable))
    → bucket_stands (happens core (Owner DrainTable)).table bucket ≡ bucket_stands core.table bucket
drained_stands core bucket t =
    ap (λ after. bucket_stands after.table bucket) (drained_core core t)
    ∙ bucket_stands-drained core.table bucket

pub drained_slots : {V E : Type 0} (core : Core V E) (id : ℕ)
    → IsTrue (is_enabled core (Owner DrainTable))
    → slot_at (happens core (Owner DrainTable)).table id ≡ empty_slot
drained_slots core id t =
    ap (λ after. slot_at after.table id) (drained_core core t)
    ∙ slot_at-drained core.table id

pub out_of_memory : {V E : Type 0} (core : Core V E) (n : ℕ)
    → IsTrue (is_enabled core (OfLocal n (MakeBucket true)))
    → IsTrue (is_refused core (OfLocal n (MakeBucket true)))
out_of_memory core n t = rw t refl

-- what is enabled is so in a table that hasn't ended
pub open_where : {V E : Type 0} (core : Core V E) (event : Event V E) → IsTrue (is_enabled core event) → core.ended ≡ false
unfolding is_enabled step
open_where core event t = (some_step core.ended (step_of core event) t).0

-- a take for which no room is left, and an id is, is refused exactly where memory is
as_chosen : (granted : Bool → Bool) (enabled refused : Bool) → IsTrue enabled → IsTrue (granted false) × (granted true ≡ false)
    → (enabled && not (granted refused)) ≡ refused
as_chosen granted true true t both = rw both.1 refl
as_chosen granted true false t both = rw both.0 refl
as_chosen granted false refused t both = absurd (false≢true t)

pub takes_need_memory : {V E : Type 0} (core : Core V E) (refused : Bool) (growth : ℕ)
    → CoreFits core → core.ended ≡ false
    → HoldsAllBelow (peak core) (shadow core).held → peak core ≡ core.manager.room → peak core < 2 ^ 63 - 1
    → is_refused core (TakeId refused growth) ≡ refused
takes_need_memory core refused growth h going full no_room left =
    as_chosen (is_granted core.manager) (is_enabled core (TakeId refused growth)) refused
    (takes core refused growth going)
    (needs-refused core.manager h.manager.peak_room
    (record { full = full; no_room = no_room; in_range = omega (arith, no_room, left) }))

pub room_of_take : {V E : Type 0} (core : Core V E) (refused : Bool) (growth : ℕ)
    → IsTrue (is_granted_take core (TakeId refused growth))
    → (happens core (TakeId refused growth)).manager.room
    ≡ max core.manager.room (peak (happens core (TakeId refused growth))) + growth
room_of_take core refused growth t =
    let done = clause.granted core refused growth t in rw done refl

-- the room changes by takes alone, and never falls
record RoomGoes {V E : Type 0} (core : Core V E) (event : Event V E) (after : Core V E) : Type 0 where
  stays : is_take event ≡ false → after.manager.room ≡ core.manager.room
  grows : core.manager.room ≤ after.manager.room

same_room : {V E : Type 0} (core : Core V E) (event : Event V E) (after : Core V E)
    → after.manager.room ≡ core.manager.room
    → RoomGoes core event after
same_room core event after e = record { stays = λ _. e; grows = omega (arith, e) }

taken-room : {V E : Type 0} (core : Core V E) (refused : Bool) (growth : ℕ) (granted : Bool)
    → RoomGoes core (TakeId refused growth) (cond granted (take_id core growth) core)
taken-room core refused growth true = record { stays = λ f. absurd (false≢true (sym f)); grows = omega arith }
taken-room core refused growth false = same_room core (TakeId refused growth) core refl

of_local-room : {V E : Type 0} (core : Core V E) (number : ℕ) (step : LocalStep V E)
    → IfSome (of_local core number step) (RoomGoes core (OfLocal number step))
of_local-room core number step =
    if_then (RoomGoes core (OfLocal number step)) _ (core.locals number) (λ local at.
    if_there (RoomGoes core (OfLocal number step)) (with_step core number)
    (local_step core.table local step)
    (λ after _. same_room core (OfLocal number step) (with_step core number after) refl))

give_back-room : {V E : Type 0} (core : Core V E) (number : ℕ) → IfSome (give_back core number) (RoomGoes core (GiveBack number))
give_back-room core number =
    if_then (RoomGoes core (GiveBack number)) _ (core.locals number) (λ local at.
    if_enabled (RoomGoes core (GiveBack number)) (is_idle local.doing)
    (with_id_given core number local.id)
    (same_room core (GiveBack number) (with_id_given core number local.id) refl))

forget-room : {V E : Type 0} (core : Core V E) (number : ℕ) → IfSome (forget core number) (RoomGoes core (Forget number))
forget-room core number =
    if_then (RoomGoes core (Forget number)) _ (core.locals number) (λ local at.
    if_enabled (RoomGoes core (Forget number)) (is_idle local.doing) (without_local core number)
    (same_room core (Forget number) (without_local core number) refl))

of_walk-room : {V E : Type 0} (core : Core V E) (number : ℕ) (step : WalkStep)
    → IfSome (of_walk core number step) (RoomGoes core (OfWalk number step))
of_walk-room core number step =
    if_then (RoomGoes core (OfWalk number step)) _ (core.walks number) (λ walk at.
    if_there (RoomGoes core (OfWalk number step)) (with_walk core number)
    (walk_step core.table walk step)
    (λ after _. same_room core (OfWalk number step) (with_walk core number after) refl))

after_owner-room : {V E : Type 0} (core : Core V E) (call : OwnerCall V) → RoomGoes core (Owner call) (after_owner core call)
after_owner-room core (RewriteTable others) = same_room core (Owner (RewriteTable others)) _ refl
after_owner-room core Slots = same_room core (Owner Slots) core refl
after_owner-room core DrainTable = same_room core (Owner DrainTable) _ refl
after_owner-room core ClearTable = same_room core (Owner ClearTable) _ refl
after_owner-room core IntoIter = same_room core (Owner IntoIter) _ refl
after_owner-room core DropTable = same_room core (Owner DropTable) _ refl

step_of-room : {V E : Type 0} (core : Core V E) (event : Event V E) → IfSome (step_of core event) (RoomGoes core event)
step_of-room core (TakeId refused growth) = taken-room core refused growth (is_granted core.manager refused)
step_of-room core (OfLocal number step) = of_local-room core number step
step_of-room core (GiveBack number) = give_back-room core number
step_of-room core (Forget number) = forget-room core number
step_of-room core BeginWalk = same_room core BeginWalk _ refl
step_of-room core (OfWalk number step) = of_walk-room core number step
step_of-room core (EndWalk number) =
    if_there (RoomGoes core (EndWalk number)) _ (core.walks number)
    (λ walk at. same_room core (EndWalk number) _ refl)
step_of-room core (Owner call) =
    if_enabled (RoomGoes core (Owner call)) (is_alone core) (after_owner core call)
    (after_owner-room core call)

room_goes : {V E : Type 0} (core : Core V E) (event : Event V E) → RoomGoes core event (happens core event)
unfolding happens step
room_goes core event =
    cond_both {A = Option (Core _ _)} core.ended None (step_of core event) (λ o. RoomGoes core event (unwrap_or o core))
    (λ _. same_room core event core refl)
    (λ _. unwrapped (RoomGoes core event) (step_of core event) core (step_of-room core event) (same_room core event core refl))

pub room_stays : {V E : Type 0} (core : Core V E) (event : Event V E) → is_take event ≡ false
    → (happens core event).manager.room ≡ core.manager.room
room_stays core event f = (room_goes core event).stays f

pub room_grows : {V E : Type 0} (core : Core V E) (event : Event V E) → core.manager.room ≤ (happens core event).manager.room
room_grows core event = (room_goes core event).grows

-- a step that leaves something of its Local is enabled, and the Local at its number is so
there : {A : Type 0} (o : Option A) (P : A → Type 0) → IsSomeAnd o P → IsTrue (is_some o) × IfSome o P
there None P p = absurd p
there (Some x) P p = (refl, p)

pub makes_step : {V E : Type 0} (core : Core V E) (n : ℕ) (local : Local V E) (step : LocalStep V E)
    (P : Table V × Local V E → Type 0)
    → core.ended ≡ false → core.locals n ≡ Some local
    → IsSomeAnd (local_step core.table local step) P
    → IsTrue (is_enabled core (OfLocal n step))
    × IsSomeAnd ((happens core (OfLocal n step)).locals n) (λ after. P ((happens core (OfLocal n step)).table, after))
makes_step core n local step P going at p =
    let both = there (local_step core.table local step) P p in
    let enabled = may_step core n local step going at both.0 in
    (enabled, step_goes core n step local P enabled at both.1)

pub goes_on : {V E : Type 0} (core : Core V E) (n : ℕ) (local : Local V E) → CoreFits core
    → core.ended ≡ false → core.locals n ≡ Some local → (HasNoCall local → ⊥)
    → (step : LocalStep V E) × IsTrue (is_enabled core (OfLocal n step))
    × IsSomeAnd ((happens core (OfLocal n step)).locals n)
    (λ after. GoesDown (core.table, local) ((happens core (OfLocal n step)).table, after))
goes_on core n local h going at busy =
    let next = call.goes_on core.table local (h.locals.each n local at).learnt busy in
    let made = makes_step core n local next.0 (GoesDown (core.table, local)) going at next.1 in
    (next.0, made.0, made.1)

pub fails : {V E : Type 0} (core : Core V E) (n : ℕ) (local : Local V E) (e : E) → CoreFits core
    → core.ended ≡ false → core.locals n ≡ Some local
    → closure_of local.doing ≡ Some (Err e) → local.learnt ≡ Vacant
    → IsTrue (is_enabled core (OfLocal n WriteValue))
    × IsSomeAnd ((happens core (OfLocal n WriteValue)).locals n) (EndsWith (Failed e) local)
fails core n local e h going at closure vacant =
    makes_step core n local WriteValue (λ after. EndsWith (Failed e) local after.1) going at
    (step.fails core.table local e (h.locals.each n local at).learnt closure vacant)

-- memory is asked for only where the bucket was missing
asked : {V E : Type 0} (core : Core V E) (n : ℕ) (refused : Bool) (o : Option (Local V E))
    → IsTrue
    (is_some
    (option_and_then (λ local.
    option_map (with_step core n) (local_step core.table local (MakeBucket refused)))
    o))
    → IsSomeAnd o (λ local. local.learnt ≡ Missing)
asked core n refused None t = absurd (false≢true t)
asked core n refused (Some local) t =
    step.asks core.table local refused
    (map_there (with_step core n) (local_step core.table local (MakeBucket refused)) t)

pub asks : {V E : Type 0} (core : Core V E) (n : ℕ) (refused : Bool)
    → IsTrue (is_enabled core (OfLocal n (MakeBucket refused)))
    → IsSomeAnd (core.locals n) (λ local. local.learnt ≡ Missing)
asks core n refused t = asked core n refused (core.locals n) (enabled_step core (OfLocal n (MakeBucket refused)) t)

-- a request that may be made with one answer may be made with the other, and goes on by it
pub memory_is_chosen : {V E : Type 0} (core : Core V E) (n : ℕ) (local : Local V E) (refused other : Bool)
    → IsTrue (is_enabled core (OfLocal n (MakeBucket refused))) → core.locals n ≡ Some local
    → IsTrue (is_enabled core (OfLocal n (MakeBucket other)))
    × IsSomeAnd ((happens core (OfLocal n (MakeBucket other))).locals n)
    (λ after. GoesDown (core.table, local) ((happens core (OfLocal n (MakeBucket other))).table, after))
memory_is_chosen core n local refused other t at =
    makes_step core n local (MakeBucket other) (GoesDown (core.table, local))
    (open_where core (OfLocal n (MakeBucket refused)) t) at
    (step.asks_either core.table local refused other
    (map_there (with_step core n) (local_step core.table local (MakeBucket refused))
    (subst (λ o.
    IsTrue
    (is_some
    (option_and_then (λ l.
    option_map (with_step core n) (local_step core.table l (MakeBucket refused)))
    o)))
    at (enabled_step core (OfLocal n (MakeBucket refused)) t))))
