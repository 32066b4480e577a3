-- Only an install makes a bucket stand.
use Rattle.std.proofs.Common.{◌≡◌, ℕ, suc, Bool, true, false, cond, Option, Some, None, is_some, IsTrue, IfSome}
use Rattle.std.proofs.Common.{IsSomeAnd, refl, ap, sym, ◌∙◌, subst}
use Rattle.std.specs.Prelude.{unwrap_or}
use Rattle.std.proofs.lemmas.Bool.{false≢true, cond_both}
use Rattle.thread_local_base.specs.Place.{bucket_of}
use Rattle.thread_local_base.specs.Held.{is_granted}
use Rattle.thread_local_schedule.specs.Table.{Bucket, Table, bucket_stands}
use Rattle.thread_local_schedule.specs.Local.{LocalStep, InstallBucket, local_step}
use Rattle.thread_local_schedule.proofs.Installing.{installs}
use Rattle.thread_local_schedule.specs.SharedWalk.{begun_walk, WalkStep, walk_step}
use Rattle.thread_local_schedule.specs.Cleared.{emptied_bucket, cleared}
use Rattle.thread_local_base.specs.Capacity.{reserves_bucket}
use Rattle.thread_local_schedule.specs.Core.{Core, is_alone}
use Rattle.thread_local_schedule.proofs.OwnerLaws.{bucket_stands-rewritten}
use Rattle.thread_local_schedule.proofs.ClearedLaws.{bucket_stands-drained}
use Rattle.thread_local_schedule.proofs.OptionLaws.{if_enabled, if_mapped, if_there, if_then, unwrapped}
use Rattle.thread_local_schedule.specs.Events.{Event, TakeId, OfLocal, GiveBack, Forget, BeginWalk, OfWalk, EndWalk}
use Rattle.thread_local_schedule.specs.Events.{Owner, OwnerCall, RewriteTable, Slots, DrainTable, ClearTable, IntoIter, DropTable}
use Rattle.thread_local_schedule.specs.Events.{take_id, with_step, of_local, is_idle, without_local, with_id_given}
use Rattle.thread_local_schedule.specs.Events.{give_back, forget, with_walk, of_walk, without_walk, after_owner}
use Rattle.thread_local_schedule.specs.Events.{step_of, step, happens}

-- a bucket that doesn't stand before an event stands after it only where the event installs it
abbrev Installs : {V E : Type 0} → Core V E → Event V E → ℕ → Core V E → Type 0
Installs core event bucket after =
    IsTrue (bucket_stands after.table bucket)
    → (n : ℕ) × (event ≡ OfLocal n InstallBucket) × IsSomeAnd (core.locals n) (λ local. bucket_of local.id ≡ bucket)

-- an event after which it doesn't stand either
missing : {V E : Type 0} (core : Core V E) (event : Event V E) (bucket : ℕ) (after : Core V E)
    → bucket_stands after.table bucket ≡ false
    → Installs core event bucket after
missing core event bucket after none t = absurd (false≢true (sym none ∙ t))

of_local-installs : {V E : Type 0} (core : Core V E) (number : ℕ) (step : LocalStep V E)
    (bucket : ℕ)
    → bucket_stands core.table bucket ≡ false
    → IfSome (of_local core number step) (Installs core (OfLocal number step) bucket)
of_local-installs core number step bucket none =
    if_then (Installs core (OfLocal number step) bucket) _ (core.locals number) (λ local at.
    if_mapped (Installs core (OfLocal number step) bucket) (with_step core number)
    (local_step core.table local step) (installs core.table local step bucket none)
    (λ after s t. (
      number,
      ap (OfLocal number) (s t).0,
      subst (λ o. IsSomeAnd o (λ local. bucket_of local.id ≡ bucket)) (sym at) (s t).1,
    )))

give_back-installs : {V E : Type 0} (core : Core V E) (number bucket : ℕ)
    → bucket_stands core.table bucket ≡ false
    → IfSome (give_back core number) (Installs core (GiveBack number) bucket)
give_back-installs core number bucket none =
    if_then (Installs core (GiveBack number) bucket) _ (core.locals number) (λ local at.
    if_enabled (Installs core (GiveBack number) bucket) (is_idle local.doing)
    (with_id_given core number local.id)
    (missing core (GiveBack number) bucket (with_id_given core number local.id) none))

forget-installs : {V E : Type 0} (core : Core V E) (number bucket : ℕ)
    → bucket_stands core.table bucket ≡ false
    → IfSome (forget core number) (Installs core (Forget number) bucket)
forget-installs core number bucket none =
    if_then (Installs core (Forget number) bucket) _ (core.locals number) (λ local at.
    if_enabled (Installs core (Forget number) bucket) (is_idle local.doing)
    (without_local core number)
    (missing core (Forget number) bucket (without_local core number) none))

of_walk-installs : {V E : Type 0} (core : Core V E) (number : ℕ) (step : WalkStep) (bucket : ℕ)
    → bucket_stands core.table bucket ≡ false
    → IfSome (of_walk core number step) (Installs core (OfWalk number step) bucket)
of_walk-installs core number step bucket none =
    if_then (Installs core (OfWalk number step) bucket) _ (core.walks number) (λ walk at.
    if_there (Installs core (OfWalk number step) bucket) (with_walk core number) (walk_step core.table walk step)
    (λ after _. missing core (OfWalk number step) bucket (with_walk core number after) none))

-- a clear makes no bucket stand
emptied : {V : Type 0} (reserved : Bool) (pointer : Option (Bucket V)) → is_some pointer ≡ false
    → is_some (cond reserved (emptied_bucket pointer) None) ≡ false
emptied true None none = refl
emptied true (Some here) none = cc
emptied false pointer none = refl

missing_cleared : {V : Type 0} (table : Table V) (capacity bucket : ℕ)
    → bucket_stands table bucket ≡ false
    → bucket_stands (cleared table capacity) bucket ≡ false
unfolding bucket_stands cleared
missing_cleared table capacity bucket none = emptied (reserves_bucket capacity bucket) (table.pointers bucket) none

after_owner-installs : {V E : Type 0} (core : Core V E) (call : OwnerCall V) (bucket : ℕ)
    → bucket_stands core.table bucket ≡ false
    → Installs core (Owner call) bucket (after_owner core call)
after_owner-installs core (RewriteTable others) bucket none =
    missing core (Owner (RewriteTable others)) bucket (after_owner core (RewriteTable others))
    (bucket_stands-rewritten core.table others bucket ∙ none)
after_owner-installs core Slots bucket none = missing core (Owner Slots) bucket core none
after_owner-installs core DrainTable bucket none =
    missing core (Owner DrainTable) bucket (after_owner core DrainTable)
    (bucket_stands-drained core.table bucket ∙ none)
after_owner-installs core ClearTable bucket none =
    missing core (Owner ClearTable) bucket (after_owner core ClearTable)
    (missing_cleared core.table core.capacity bucket none)
after_owner-installs core IntoIter bucket none = missing core (Owner IntoIter) bucket (after_owner core IntoIter) none
after_owner-installs core DropTable bucket none = missing core (Owner DropTable) bucket (after_owner core DropTable) none

take-installs : {V E : Type 0} (core : Core V E) (refused : Bool) (growth bucket : ℕ)
    (granted : Bool)
    → bucket_stands core.table bucket ≡ false
    → Installs core (TakeId refused growth) bucket (cond granted (take_id core growth) core)
take-installs core refused growth bucket true none = missing core (TakeId refused growth) bucket (take_id core growth) none
take-installs core refused growth bucket false none = missing core (TakeId refused growth) bucket core none

step_of-installs : {V E : Type 0} (core : Core V E) (event : Event V E) (bucket : ℕ)
    → bucket_stands core.table bucket ≡ false
    → IfSome (step_of core event) (Installs core event bucket)
step_of-installs core (TakeId refused growth) bucket none = take-installs core refused growth bucket (is_granted core.manager refused) none
step_of-installs core (OfLocal number step) bucket none = of_local-installs core number step bucket none
step_of-installs core (GiveBack number) bucket none = give_back-installs core number bucket none
step_of-installs core (Forget number) bucket none = forget-installs core number bucket none
step_of-installs core BeginWalk bucket none =
    missing core BeginWalk bucket
    (record (with_walk core core.walked (begun_walk core.table)) { walked = suc core.walked }) none
step_of-installs core (OfWalk number step) bucket none = of_walk-installs core number step bucket none
step_of-installs core (EndWalk number) bucket none =
    if_there (Installs core (EndWalk number) bucket) _ (core.walks number)
    (λ walk at. missing core (EndWalk number) bucket (without_walk core number) none)
step_of-installs core (Owner call) bucket none =
    if_enabled (Installs core (Owner call) bucket) (is_alone core) (after_owner core call)
    (after_owner-installs core call bucket none)

pub event_installs : {V E : Type 0} (core : Core V E) (event : Event V E) (bucket : ℕ)
    → bucket_stands core.table bucket ≡ false
    → IsTrue (bucket_stands (happens core event).table bucket)
    → (n : ℕ) × (event ≡ OfLocal n InstallBucket) × IsSomeAnd (core.locals n) (λ local. bucket_of local.id ≡ bucket)
unfolding happens step
event_installs core event bucket none =
    cond_both {A = Option (Core _ _)} core.ended None (step_of core event) (λ o. Installs core event bucket (unwrap_or o core))
    (λ _. missing core event bucket core none)
    (λ _.
    unwrapped (Installs core event bucket) (step_of core event) core
    (step_of-installs core event bucket none) (missing core event bucket core none))
