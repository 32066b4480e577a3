-- What every event does to the shared walks: only a walk's own steps and its end change it.
use Rattle.std.proofs.Common.{◌≡◌, ℕ, Bool, true, false, cond, Option, Some, None, is_some, IsTrue, IfSome, IsSomeAnd}
use Rattle.std.proofs.Common.{refl, ap, sym, ◌∙◌, subst, arith, ⊎_elim}
use Rattle.std.specs.Prelude.{option_map, option_and_then, unwrap_or, suc, ◌++◌, [], ◌∷◌, ◌&&◌, nat_lt}
use Rattle.std.proofs.lemmas.Option.{none-some}
use Rattle.std.proofs.lemmas.Bool.{false≢true, eqb-false, cond_both}
use Rattle.thread_local_base.specs.Cursor.{is_complete, cursor_id, after_load, after_look}
use Rattle.thread_local_schedule.specs.Table.{Table, bucket_stands}
use Rattle.thread_local_schedule.specs.Local.{LocalStep, local_step}
use Rattle.thread_local_schedule.specs.SharedWalk.{SharedWalk, begun_walk, with_pair, WalkStep, Pass, Load, Look, at_announced}
use Rattle.thread_local_schedule.specs.SharedWalk.{walk_step, next_step}
use Rattle.thread_local_schedule.specs.WalkFits.{Adds}
use Rattle.thread_local_schedule.proofs.WalkStepLaws.{walk_step-adds}
use Rattle.thread_local_schedule.specs.Core.{Core, shadow, is_alone}
use Rattle.thread_local_schedule.specs.CoreFits.{CoreFits}
use Rattle.thread_local_schedule.proofs.PutLaws.{put_cases, put_same, put_other, still}
use Rattle.thread_local_schedule.proofs.OptionLaws.{if_enabled, if_there, if_then}
use Rattle.thread_local_base.specs.Held.{is_granted}
use Rattle.thread_local_schedule.specs.Events.{Event, TakeId, OfLocal, GiveBack, Forget, BeginWalk, OfWalk, EndWalk}
use Rattle.thread_local_schedule.specs.Events.{Owner, OwnerCall, RewriteTable, Slots, DrainTable, ClearTable, IntoIter, DropTable}
use Rattle.thread_local_schedule.specs.Events.{take_id, with_step, of_local, is_idle, without_local, with_id_given}
use Rattle.thread_local_schedule.specs.Events.{give_back, forget, with_walk, begin_walk, of_walk, without_walk}
use Rattle.thread_local_schedule.specs.Events.{after_owner, step_of, step, is_enabled, happens}
use Rattle.thread_local_schedule.specs.Schedule.{begins_walk, is_of_walk}
use Rattle.thread_local_schedule.proofs.Clauses.{goes, enabled_step}
use Rattle.thread_local_schedule.proofs.Enabled.{may}

-- what an enabled event says of the walks
pub record WalksSay {V E : Type 0} (core : Core V E) (event : Event V E) (after : Core V E) : Type 0 where
  pub others : (n : ℕ) (walk : SharedWalk V) → is_of_walk n event ≡ false → core.walks n ≡ Some walk
      → after.walks n ≡ Some walk
  pub comes : (n : ℕ) (walk : SharedWalk V) → core.walks n ≡ None → after.walks n ≡ Some walk
      → (walk ≡ begun_walk core.table) × IsTrue (begins_walk event) × (n ≡ core.walked)

-- an event that leaves all walks
leaves : {V E : Type 0} (core : Core V E) (event : Event V E) (after : Core V E)
    → ((n : ℕ) → after.walks n ≡ core.walks n)
    → WalksSay core event after
leaves core event after same = record {
  others = λ n walk _ at. same n ∙ at;
  comes = λ n walk none at. absurd (none-some walk (sym none ∙ sym (same n) ∙ at));
}

of_local-says : {V E : Type 0} (core : Core V E) (number : ℕ) (step : LocalStep V E)
    → IfSome (of_local core number step) (WalksSay core (OfLocal number step))
of_local-says core number step =
    if_then (WalksSay core (OfLocal number step)) _ (core.locals number) (λ local at.
    if_there (WalksSay core (OfLocal number step)) (with_step core number) (local_step core.table local step)
    (λ after _. leaves core (OfLocal number step) (with_step core number after) (λ n. refl)))

give_back-says : {V E : Type 0} (core : Core V E) (number : ℕ) → IfSome (give_back core number) (WalksSay core (GiveBack number))
give_back-says core number =
    if_then (WalksSay core (GiveBack number)) _ (core.locals number) (λ local at.
    if_enabled (WalksSay core (GiveBack number)) (is_idle local.doing)
    (with_id_given core number local.id)
    (leaves core (GiveBack number) (with_id_given core number local.id) (λ n. refl)))

forget-says : {V E : Type 0} (core : Core V E) (number : ℕ) → IfSome (forget core number) (WalksSay core (Forget number))
forget-says core number =
    if_then (WalksSay core (Forget number)) _ (core.locals number) (λ local at.
    if_enabled (WalksSay core (Forget number)) (is_idle local.doing) (without_local core number)
    (leaves core (Forget number) (without_local core number) (λ n. refl)))

-- a new walk gets a number that none has
begin_walk-says : {V E : Type 0} (core : Core V E) → CoreFits core → IfSome (begin_walk core) (WalksSay core BeginWalk)
begin_walk-says core h = record {
  others = λ n walk _ at.
      put_other core.walks core.walked _ n (λ same.
      none-some walk
      (sym (h.walks.none_from core.walked (omega arith)) ∙ ap core.walks same ∙ at))
      ∙ at;
  comes = λ n walk none at.
      ⊎_elim
      (λ here. let same : begun_walk core.table ≡ walk = (let some = here.1 in cc) in (sym same, refl, sym here.0))
      (λ apart. absurd (none-some walk (sym none ∙ apart.1)))
      (put_cases core.walks core.walked (Some (begun_walk core.table)) n walk at);
}

of_walk-says : {V E : Type 0} (core : Core V E) (number : ℕ) (step : WalkStep)
    → IfSome (of_walk core number step) (WalksSay core (OfWalk number step))
of_walk-says core number step =
    if_then (WalksSay core (OfWalk number step)) _ (core.walks number) (λ walk at.
    if_there (WalksSay core (OfWalk number step)) (with_walk core number) (walk_step core.table walk step)
    (λ after _. record {
      others = λ n other f e. put_other core.walks number (Some after) n (eqb-false number n f) ∙ e;
      comes = λ n other none e.
          ⊎_elim
          (λ here. absurd (none-some walk (sym none ∙ ap core.walks (sym here.0) ∙ at)))
          (λ apart. absurd (none-some other (sym none ∙ apart.1)))
          (put_cases core.walks number (Some after) n other e);
    }))

end_walk-says : {V E : Type 0} (core : Core V E) (number : ℕ) → WalksSay core (EndWalk number) (without_walk core number)
end_walk-says core number = record {
  others = λ n other f e. put_other core.walks number None n (eqb-false number n f) ∙ e;
  comes = λ n other none e. absurd (none-some other (sym none ∙ (still core.walks number n other e).1));
}

after_owner-says : {V E : Type 0} (core : Core V E) (call : OwnerCall V) → WalksSay core (Owner call) (after_owner core call)
after_owner-says core (RewriteTable others) = leaves core (Owner (RewriteTable others)) _ (λ n. refl)
after_owner-says core Slots = leaves core (Owner Slots) core (λ n. refl)
after_owner-says core DrainTable = leaves core (Owner DrainTable) _ (λ n. refl)
after_owner-says core ClearTable = leaves core (Owner ClearTable) _ (λ n. refl)
after_owner-says core IntoIter = leaves core (Owner IntoIter) _ (λ n. refl)
after_owner-says core DropTable = leaves core (Owner DropTable) _ (λ n. refl)

step_of-says : {V E : Type 0} (core : Core V E) (event : Event V E) → CoreFits core → IfSome (step_of core event) (WalksSay core event)
step_of-says core (TakeId refused growth) h =
    leaves core (TakeId refused growth) _
    (λ n.
    cond_both (is_granted core.manager refused) (take_id core growth) core
    (λ after. after.walks n ≡ core.walks n) (λ _. refl) (λ _. refl))
step_of-says core (OfLocal number step) h = of_local-says core number step
step_of-says core (GiveBack number) h = give_back-says core number
step_of-says core (Forget number) h = forget-says core number
step_of-says core BeginWalk h = begin_walk-says core h
step_of-says core (OfWalk number step) h = of_walk-says core number step
step_of-says core (EndWalk number) h =
    if_there (WalksSay core (EndWalk number)) _ (core.walks number)
    (λ walk at. end_walk-says core number)
step_of-says core (Owner call) h =
    cond_both {A = Option (Core _ _)} (is_alone core) (Some (after_owner core call)) None
    (λ o. IfSome o (WalksSay core (Owner call))) (λ _. after_owner-says core call) (λ _. tt)

says_of : {V E : Type 0} (core : Core V E) (event : Event V E) (o : Option (Core V E))
    → IfSome o (WalksSay core event)
    → WalksSay core event (unwrap_or o core)
says_of core event None s = leaves core event core (λ n. refl)
says_of core event (Some after) s = s

pub walks_say : {V E : Type 0} (core : Core V E) (event : Event V E) → CoreFits core → WalksSay core event (happens core event)
unfolding happens step
walks_say core event h =
    cond_both {A = Option (Core _ _)} core.ended None (step_of core event) (λ o. WalksSay core event (unwrap_or o core))
    (λ _. leaves core event core (λ n. refl))
    (λ _. says_of core event (step_of core event) (step_of-says core event h))

-- a walk begins with what is announced and published
pub begins : {V E : Type 0} (core : Core V E) → IsTrue (is_enabled core BeginWalk)
    → (happens core BeginWalk).walks core.walked ≡ Some (begun_walk core.table)
begins core t = ap (λ after. after.walks core.walked) (goes core BeginWalk t) ∙ put_same core.walks core.walked (Some (begun_walk core.table))

-- a step of a walk adds to its record as it says
added : {V E : Type 0} (core : Core V E) (n : ℕ) (step : WalkStep) (o : Option (SharedWalk V))
    (before : SharedWalk V)
    → IfSome o (Adds core.table step before)
    → IsTrue (is_some (option_map (with_walk core n) o))
    → IsSomeAnd ((unwrap_or (option_map (with_walk core n) o) core).walks n)
    (Adds core.table step before)
added core n step None before a t = absurd (false≢true t)
added core n step (Some walk) before a t = rw (put_same core.walks n (Some walk)) a

pub adds : {V E : Type 0} (core : Core V E) (n : ℕ) (step : WalkStep) (before : SharedWalk V)
    → CoreFits core → IsTrue (is_enabled core (OfWalk n step))
    → core.walks n ≡ Some before → IsSomeAnd ((happens core (OfWalk n step)).walks n) (Adds core.table step before)
adds core n step before h t at =
    rw (goes core (OfWalk n step) t)
    (rw at (added core n step (walk_step core.table before step) before
    (walk_step-adds core.table before step (h.walks.each n before at))
    (subst (λ o.
    IsTrue
    (is_some
    (option_and_then (λ w. option_map (with_walk core n) (walk_step core.table w step))
    o)))
    at (enabled_step core (OfWalk n step) t))))

-- what holds of a walk holds of what it is some value of
some_and : {A : Type 0} (o : Option A) (P Q : A → Type 0) → ((x : A) → P x → Q x) → IsSomeAnd o P → IsSomeAnd o Q
some_and None P Q f p = p
some_and (Some x) P Q f p = f x p

pub load_adds : {V E : Type 0} (core : Core V E) (n : ℕ) (before : SharedWalk V) → CoreFits core
    → IsTrue (is_enabled core (OfWalk n Load))
    → core.walks n ≡ Some before
    → IsSomeAnd ((happens core (OfWalk n Load)).walks n) (λ after.
    (after.announced ≡ before.announced) × (after.first ≡ before.first)
    × (after.given ≡ before.given) × (after.read ≡ before.read) × (after.loads ≡ suc before.loads))
load_adds core n before h t at =
    some_and _ (Adds core.table Load before) _
    (λ after a. (a.keeps.announced, a.keeps.first, a.given, a.read, a.loads)) (adds core n Load before h t at)

pub pass_adds : {V E : Type 0} (core : Core V E) (n : ℕ) (before : SharedWalk V) → CoreFits core
    → IsTrue (is_enabled core (OfWalk n Pass))
    → core.walks n ≡ Some before
    → IsSomeAnd ((happens core (OfWalk n Pass)).walks n) (λ after.
    (after.announced ≡ before.announced) × (after.first ≡ before.first)
    × (after.given ≡ before.given) × (after.read ≡ before.read) × (after.loads ≡ before.loads))
pass_adds core n before h t at =
    some_and _ (Adds core.table Pass before) _
    (λ after a. (a.keeps.announced, a.keeps.first, a.given, a.read, a.loads)) (adds core n Pass before h t at)

pub look_adds : {V E : Type 0} (core : Core V E) (n : ℕ) (before : SharedWalk V) → CoreFits core
    → IsTrue (is_enabled core (OfWalk n Look))
    → core.walks n ≡ Some before
    → let id : ℕ = cursor_id before.cursor in IsSomeAnd ((happens core (OfWalk n Look)).walks n) (λ after.
    (after.announced ≡ before.announced) × (after.first ≡ before.first)
    × (after.given ≡ with_pair before.given id ((shadow core).values id))
    × (after.read ≡ before.read ++ id ∷ []) × (after.loads ≡ before.loads))
look_adds core n before h t at =
    some_and _ (Adds core.table Look before) _
    (λ after a. (a.keeps.announced, a.keeps.first, a.given, a.read, a.loads)) (adds core n Look before h t at)

-- and its cursor goes on as its step says
pub load_moves : {V E : Type 0} (core : Core V E) (n : ℕ) (before : SharedWalk V) → CoreFits core
    → IsTrue (is_enabled core (OfWalk n Load))
    → core.walks n ≡ Some before
    → IsSomeAnd ((happens core (OfWalk n Load)).walks n) (λ after.
    after.cursor ≡ after_load before.cursor (bucket_stands core.table before.cursor.bucket))
load_moves core n before h t at = some_and _ (Adds core.table Load before) _ (λ after a. a.cursor) (adds core n Load before h t at)

pub pass_moves : {V E : Type 0} (core : Core V E) (n : ℕ) (before : SharedWalk V) → CoreFits core
    → IsTrue (is_enabled core (OfWalk n Pass))
    → core.walks n ≡ Some before
    → IsSomeAnd ((happens core (OfWalk n Pass)).walks n) (λ after. after.cursor ≡ after_load before.cursor false)
pass_moves core n before h t at = some_and _ (Adds core.table Pass before) _ (λ after a. a.cursor) (adds core n Pass before h t at)

pub look_moves : {V E : Type 0} (core : Core V E) (n : ℕ) (before : SharedWalk V) → CoreFits core
    → IsTrue (is_enabled core (OfWalk n Look))
    → core.walks n ≡ Some before
    → IsSomeAnd ((happens core (OfWalk n Look)).walks n) (λ after.
    after.cursor ≡ after_look before.cursor (is_some ((shadow core).values (cursor_id before.cursor))))
look_moves core n before h t at = some_and _ (Adds core.table Look before) _ (λ after a. a.cursor) (adds core n Look before h t at)

-- a walk that isn't complete can make a step
going : {A : Type 0} (below : Bool) (x : A) → cond below false true ≡ false → IsTrue (is_some (cond (below && true) (Some x) None))
going true x f = refl
going false x f = absurd (false≢true (sym f))

steps : {V : Type 0} (table : Table V) (walk : SharedWalk V) (looks known : Bool)
    → walk.cursor.looks ≡ looks → at_announced walk ≡ known → is_complete walk.cursor ≡ false
    → IsTrue (is_some (walk_step table walk (cond looks Look (cond known Load Pass))))
unfolding walk_step
steps table walk true known e a f = rw e refl
steps table walk false true e a f = rw (e, a) (going (nat_lt walk.cursor.bucket 63) _ f)
steps table walk false false e a f = rw (e, a) (going (nat_lt walk.cursor.bucket 63) _ f)

stepped_on : {V E : Type 0} (core : Core V E) (n : ℕ) (o : Option (SharedWalk V))
    → IsTrue (is_some o)
    → IsTrue (is_some (option_map (with_walk core n) o))
stepped_on core n None t = absurd (false≢true t)
stepped_on core n (Some walk) t = refl

pub goes_on : {V E : Type 0} (core : Core V E) (n : ℕ) (walk : SharedWalk V) → core.ended ≡ false
    → core.walks n ≡ Some walk → is_complete walk.cursor ≡ false
    → IsTrue (is_enabled core (OfWalk n (next_step walk)))
goes_on core n walk going at f =
    may core (OfWalk n (next_step walk)) going
    (subst (λ o.
    IsTrue
    (is_some
    (option_and_then
    (λ w. option_map (with_walk core n) (walk_step core.table w (next_step walk))) o)))
    (sym at)
    (stepped_on core n (walk_step core.table walk (next_step walk))
    (steps core.table walk walk.cursor.looks (at_announced walk) refl refl f)))

-- the end of a walk
ended : {V E : Type 0} (core : Core V E) (n : ℕ) (o : Option (SharedWalk V))
    → IsTrue (is_some (option_map (λ walk. without_walk core n) o))
    → (unwrap_or (option_map (λ walk. without_walk core n) o) core).walks n ≡ None
ended core n None t = absurd (false≢true t)
ended core n (Some walk) t = put_same core.walks n None

pub ends : {V E : Type 0} (core : Core V E) (n : ℕ) → IsTrue (is_enabled core (EndWalk n))
    → (happens core (EndWalk n)).walks n ≡ None
ends core n t = ap (λ after. after.walks n) (goes core (EndWalk n) t) ∙ ended core n (core.walks n) (enabled_step core (EndWalk n) t)

pub may_end : {V E : Type 0} (core : Core V E) (n : ℕ) (walk : SharedWalk V) → core.ended ≡ false
    → core.walks n ≡ Some walk
    → IsTrue (is_enabled core (EndWalk n))
may_end core n walk going at = may core (EndWalk n) going (rw at refl)
