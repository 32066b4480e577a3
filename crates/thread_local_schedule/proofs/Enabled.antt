-- Which events are enabled: an owner's call, a Local's end, a step.
use Rattle.std.proofs.Common.{◌≡◌, ℕ, zero, suc, Bool, true, false, cond, Option, Some, None, is_some, IsTrue, IfSome}
use Rattle.std.proofs.Common.{IsSomeAnd, refl, ap, sym, ◌∙◌, subst, arith}
use Rattle.std.specs.Prelude.{unwrap_or, option_map, option_and_then}
use Rattle.std.proofs.lemmas.Bool.{false≢true, and_parts, not-true}
use Rattle.thread_local_schedule.specs.Table.{Table}
use Rattle.thread_local_schedule.specs.Local.{Doing, Gets, Started, Private, Filled, Written, Local, LocalStep, local_step}
use Rattle.thread_local_schedule.specs.Calls.{gets_of, closure_of, HasNoCall, GoesOn}
use Rattle.thread_local_schedule.proofs.CallsLaws.{local_step-goes}
use Rattle.thread_local_schedule.specs.Core.{Core, none_below, is_alone}
use Rattle.thread_local_schedule.specs.CoreFits.{CoreFits}
use Rattle.thread_local_schedule.proofs.PutLaws.{put_same}
use Rattle.thread_local_schedule.proofs.InvariantParts.{no_locals, no_walks}
use Rattle.thread_local_base.specs.Held.{is_granted}
use Rattle.thread_local_schedule.specs.Events.{Event, TakeId, OfLocal, GiveBack, Forget, BeginWalk, Owner, OwnerCall}
use Rattle.thread_local_schedule.specs.Events.{take_id, with_step, is_idle, without_local, with_id_given, after_owner}
use Rattle.thread_local_schedule.specs.Events.{step_of, step, is_enabled, happens}
use Rattle.thread_local_schedule.specs.Schedule.{is_refused, IsAlone}
use Rattle.thread_local_schedule.proofs.OptionLaws.{tested}
use Rattle.thread_local_schedule.proofs.Clauses.{goes, enabled_step}

-- until the table has ended, the event's own rule decides whether it is enabled
pub may : {V E : Type 0} (core : Core V E) (event : Event V E) → core.ended ≡ false
    → IsTrue (is_some (step_of core event))
    → IsTrue (is_enabled core event)
unfolding is_enabled step
may core event going t = subst (λ b. IsTrue (is_some (cond b None (step_of core event)))) (sym going) t

pub takes : {V E : Type 0} (core : Core V E) (refused : Bool) (growth : ℕ) → core.ended ≡ false
    → IsTrue (is_enabled core (TakeId refused growth))
takes core refused growth going = may core (TakeId refused growth) going refl

pub walks_begin : {V E : Type 0} (core : Core V E) → core.ended ≡ false → IsTrue (is_enabled core BeginWalk)
walks_begin core going = may core BeginWalk going refl

-- an owner's call needs the table for itself, and nothing more
pub alone : {V E : Type 0} (core : Core V E) (call : OwnerCall V) → CoreFits core
    → IsTrue (is_enabled core (Owner call))
    → IsAlone core
alone core call h t =
    let own = (tested (is_alone core) (after_owner core call) core (enabled_step core (Owner call) t)).0 in
    record { locals = no_locals core h own; walks = no_walks core h own }

none_at_all : {A : Type 0} (all : ℕ → Option A) (n : ℕ) → ((j : ℕ) → all j ≡ None) → none_below all n ≡ true
none_at_all all zero none = refl
none_at_all all (suc n) none = rw (none_at_all all n none, none n) refl

pub owner_may : {V E : Type 0} (core : Core V E) (call : OwnerCall V) → core.ended ≡ false
    → IsAlone core
    → IsTrue (is_enabled core (Owner call))
owner_may core call going unused =
    may core (Owner call) going
    (rw (none_at_all core.locals core.taken unused.locals, none_at_all core.walks core.walked unused.walks) refl)

-- a Local with no call under way, by what it does
idle_gets : {V E : Type 0} (doing : Doing V E) → IsTrue (is_idle doing) → gets_of doing ≡ 0
idle_gets (Gets zero) t = refl
idle_gets (Gets (suc count)) t = absurd (false≢true t)
idle_gets (Started create) t = refl
idle_gets (Private create number) t = refl
idle_gets (Filled create number announced) t = refl
idle_gets (Written v announced) t = refl

idle_closure : {V E : Type 0} (doing : Doing V E) → IsTrue (is_idle doing) → closure_of doing ≡ None
idle_closure (Gets count) t = refl
idle_closure (Started create) t = absurd (false≢true t)
idle_closure (Private create number) t = absurd (false≢true t)
idle_closure (Filled create number announced) t = absurd (false≢true t)
idle_closure (Written v announced) t = absurd (false≢true t)

no_call_idle : {V E : Type 0} (doing : Doing V E) → gets_of doing ≡ 0 → closure_of doing ≡ None → is_idle doing ≡ true
no_call_idle (Gets zero) gets closure = refl
no_call_idle (Gets (suc count)) gets closure = absurd (omega arith)
no_call_idle (Started create) gets closure = cc
no_call_idle (Private create number) gets closure = cc
no_call_idle (Filled create number announced) gets closure = cc
no_call_idle (Written v announced) gets closure = cc

-- a Local gives its id back, or is forgotten, where no call of it is under way, and is gone then
leaves : {V E : Type 0} (core : Core V E) (n : ℕ) (after : Local V E → Core V E)
    (o : Option (Local V E))
    → ((local : Local V E) → (after local).locals n ≡ None)
    → let left = option_and_then (λ local. cond (is_idle local.doing) (Some (after local)) None) o in
    IsTrue (is_some left) → IsSomeAnd o HasNoCall × ((unwrap_or left core).locals n ≡ None)
leaves core n after None none t = absurd (false≢true t)
leaves core n after (Some local) none t =
    let done = tested (is_idle local.doing) (after local) core t in (
      record { gets = idle_gets local.doing done.0; closure = idle_closure local.doing done.0 },
      ap (λ left. left.locals n) done.1 ∙ none local,
    )

pub gives_back : {V E : Type 0} (core : Core V E) (n : ℕ) → IsTrue (is_enabled core (GiveBack n))
    → IsSomeAnd (core.locals n) HasNoCall × ((happens core (GiveBack n)).locals n ≡ None)
gives_back core n t =
    let done =
    leaves core n (λ local. with_id_given core n local.id) (core.locals n)
    (λ local. put_same core.locals n None) (enabled_step core (GiveBack n) t) in
    (done.0, ap (λ after. after.locals n) (goes core (GiveBack n) t) ∙ done.1)

pub forgotten : {V E : Type 0} (core : Core V E) (n : ℕ) → IsTrue (is_enabled core (Forget n))
    → IsSomeAnd (core.locals n) HasNoCall × ((happens core (Forget n)).locals n ≡ None)
forgotten core n t =
    let done =
    leaves core n (λ local. without_local core n) (core.locals n)
    (λ local. put_same core.locals n None) (enabled_step core (Forget n) t) in
    (done.0, ap (λ after. after.locals n) (goes core (Forget n) t) ∙ done.1)

pub may_leave : {V E : Type 0} (core : Core V E) (n : ℕ) (local : Local V E) → core.ended ≡ false
    → core.locals n ≡ Some local → HasNoCall local
    → IsTrue (is_enabled core (GiveBack n)) × IsTrue (is_enabled core (Forget n))
may_leave core n local going at none =
    let idle = no_call_idle local.doing none.gets none.closure in
    (may core (GiveBack n) going (rw (at, idle) refl), may core (Forget n) going (rw (at, idle) refl))

-- a refused take changes nothing
pub refusal : {V E : Type 0} (core : Core V E) (refused : Bool) (growth : ℕ)
    → IsTrue (is_refused core (TakeId refused growth))
    → happens core (TakeId refused growth) ≡ core
refusal core refused growth t =
    let parts = and_parts (is_enabled core (TakeId refused growth)) _ t in
    goes core (TakeId refused growth) parts.0
    ∙ ap (λ b. cond b (take_id core growth) core)
    (not-true (is_granted core.manager refused) parts.1)

-- what holds of the table and the Local after its step holds of the Local at its number
stepped : {V E : Type 0} (core : Core V E) (n : ℕ) (P : Table V × Local V E → Type 0)
    (o : Option (Table V × Local V E))
    → IfSome o P
    → IsTrue (is_some (option_map (with_step core n) o))
    → let then = unwrap_or (option_map (with_step core n) o) core in
    IsSomeAnd (then.locals n) (λ after. P (then.table, after))
stepped core n P None p t = absurd (false≢true t)
stepped core n P (Some after) p t = rw (put_same core.locals n (Some after.1)) p

pub step_goes : {V E : Type 0} (core : Core V E) (n : ℕ) (step : LocalStep V E)
    (local : Local V E) (P : Table V × Local V E → Type 0)
    → IsTrue (is_enabled core (OfLocal n step)) → core.locals n ≡ Some local
    → IfSome (local_step core.table local step) P
    → let then = happens core (OfLocal n step) in IsSomeAnd (then.locals n) (λ after. P (then.table, after))
step_goes core n step local P t at p =
    rw (goes core (OfLocal n step) t)
    (rw at (stepped core n P (local_step core.table local step) p
    (subst (λ o.
    IsTrue
    (is_some
    (option_and_then (λ l. option_map (with_step core n) (local_step core.table l step))
    o)))
    at (enabled_step core (OfLocal n step) t))))

-- a step of a Local changes its calls as the step says
pub goes_on : {V E : Type 0} (core : Core V E) (n : ℕ) (step : LocalStep V E) (local : Local V E)
    → IsTrue (is_enabled core (OfLocal n step)) → core.locals n ≡ Some local
    → IsSomeAnd ((happens core (OfLocal n step)).locals n) (GoesOn step local)
goes_on core n step local t at = step_goes core n step local (λ after. GoesOn step local after.1) t at (local_step-goes core.table local step)
