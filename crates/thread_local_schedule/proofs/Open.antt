-- Only `into_iter` and the drop end a table, and no event is enabled after that.
use Rattle.std.proofs.Common.{◌≡◌, ℕ, true, false, Option, None, IfSome, refl, IsTrue, ap}
use Rattle.std.specs.Prelude.{unwrap_or}
use Rattle.std.proofs.lemmas.Bool.{cond_both}
use Rattle.thread_local_schedule.specs.Local.{LocalStep, local_step}
use Rattle.thread_local_schedule.specs.SharedWalk.{WalkStep, walk_step}
use Rattle.thread_local_schedule.specs.Core.{Core, is_alone}
use Rattle.thread_local_schedule.proofs.OptionLaws.{if_enabled, unwrapped, if_there, if_then}
use Rattle.thread_local_base.specs.Held.{is_granted}
use Rattle.thread_local_schedule.specs.Events.{Event, TakeId, OfLocal, GiveBack, Forget, BeginWalk, OfWalk, EndWalk}
use Rattle.thread_local_schedule.specs.Events.{Owner, OwnerCall, RewriteTable, Slots, DrainTable, ClearTable, IntoIter, DropTable}
use Rattle.thread_local_schedule.specs.Events.{take_id, with_step, of_local, is_idle, without_local, with_id_given}
use Rattle.thread_local_schedule.specs.Events.{give_back, forget, with_walk, of_walk, after_owner, step_of, step}
use Rattle.thread_local_schedule.specs.Events.{happens, is_enabled}
use Rattle.thread_local_schedule.specs.Schedule.{ends_table}
use Rattle.thread_local_schedule.proofs.Clauses.{owner_goes}

-- a table that hasn't ended
abbrev pub IsOpen : {V E : Type 0} → Core V E → Type 0
IsOpen core = core.ended ≡ false

of_local-open : {V E : Type 0} (core : Core V E) (number : ℕ) (step : LocalStep V E)
    → core.ended ≡ false
    → IfSome (of_local core number step) IsOpen
of_local-open core number step e =
    if_then IsOpen _ (core.locals number) (λ local at.
    if_there IsOpen (with_step core number) (local_step core.table local step) (λ after _. e))

give_back-open : {V E : Type 0} (core : Core V E) (number : ℕ) → core.ended ≡ false → IfSome (give_back core number) IsOpen
give_back-open core number e =
    if_then IsOpen _ (core.locals number) (λ local at. if_enabled IsOpen (is_idle local.doing) (with_id_given core number local.id) e)

forget-open : {V E : Type 0} (core : Core V E) (number : ℕ) → core.ended ≡ false → IfSome (forget core number) IsOpen
forget-open core number e =
    if_then IsOpen _ (core.locals number) (λ local at. if_enabled IsOpen (is_idle local.doing) (without_local core number) e)

of_walk-open : {V E : Type 0} (core : Core V E) (number : ℕ) (step : WalkStep) → core.ended ≡ false
    → IfSome (of_walk core number step) IsOpen
of_walk-open core number step e =
    if_then IsOpen _ (core.walks number) (λ walk at.
    if_there IsOpen (with_walk core number) (walk_step core.table walk step) (λ after _. e))

after_owner-open : {V E : Type 0} (core : Core V E) (call : OwnerCall V) → core.ended ≡ false
    → ends_table {V = V} {E = E} (Owner call) ≡ false
    → IsOpen (after_owner core call)
after_owner-open core (RewriteTable others) e f = e
after_owner-open core Slots e f = e
after_owner-open core DrainTable e f = e
after_owner-open core ClearTable e f = e
after_owner-open core IntoIter e f = cc
after_owner-open core DropTable e f = cc

step_of-open : {V E : Type 0} (core : Core V E) (event : Event V E) → core.ended ≡ false
    → ends_table event ≡ false
    → IfSome (step_of core event) IsOpen
step_of-open core (TakeId refused growth) e f =
    cond_both {A = Core _ _} (is_granted core.manager refused) (take_id core growth) core IsOpen (λ _. e) (λ _. e)
step_of-open core (OfLocal number step) e f = of_local-open core number step e
step_of-open core (GiveBack number) e f = give_back-open core number e
step_of-open core (Forget number) e f = forget-open core number e
step_of-open core BeginWalk e f = e
step_of-open core (OfWalk number step) e f = of_walk-open core number step e
step_of-open core (EndWalk number) e f = if_there IsOpen _ (core.walks number) (λ walk at. e)
step_of-open core (Owner call) e f = if_enabled IsOpen (is_alone core) (after_owner core call) (after_owner-open core call e f)

-- no event but `into_iter` and the drop ends a table
pub stays_open : {V E : Type 0} (core : Core V E) (event : Event V E) → core.ended ≡ false
    → ends_table event ≡ false
    → (happens core event).ended ≡ false
unfolding happens step
stays_open core event e f =
    cond_both {A = Option (Core _ _)} core.ended None (step_of core event) (λ o. IsOpen (unwrap_or o core))
    (λ _. e)
    (λ _. unwrapped IsOpen (step_of core event) core (step_of-open core event e f) e)

-- `into_iter` and the drop end the table
pub into_iter_ends : {V E : Type 0} (core : Core V E) → IsTrue (is_enabled core (Owner IntoIter))
    → (happens core (Owner IntoIter)).ended ≡ true
into_iter_ends core t = ap (λ after. after.ended) (owner_goes core IntoIter t)

pub drop_ends : {V E : Type 0} (core : Core V E) → IsTrue (is_enabled core (Owner DropTable))
    → (happens core (Owner DropTable)).ended ≡ true
drop_ends core t = ap (λ after. after.ended) (owner_goes core DropTable t)

-- once a table has ended no event is enabled
pub ended : {V E : Type 0} (core : Core V E) (event : Event V E) → core.ended ≡ true → is_enabled core event ≡ false
unfolding is_enabled step
ended core event e = rw e refl
