-- What each step of a `Local` and of a walk needs: it is enabled there, and nowhere else.
use Rattle.std.proofs.Common.{◌≡◌, ℕ, zero, suc, ◌<◌, ◌⊎◌, inl, inr, Bool, true, false, not, ◌&&◌, cond, Option, Some, None, Result, Ok, Err, is_some}
use Rattle.std.proofs.Common.{IsTrue, refl, ap, sym, ◌∙◌, ⊎_elim}
use Rattle.std.specs.Prelude.{◌↔◌, ◌≢◌, nat_lt, option_map, option_and_then}
use Rattle.std.proofs.lemmas.Bool.{false≢true, cond_both, lt-ltb, ltb-true, not-true}
use Rattle.thread_local_base.specs.Place.{bucket_of}
use Rattle.thread_local_base.specs.Learnt.{Learnt, Unknown, Missing, Standing, Vacant, Holding, learnt_by_load, learnt_by_look}
use Rattle.thread_local_base.specs.Learnt.{learnt_by_publish}
use Rattle.thread_local_schedule.specs.Table.{Table, published, bucket_stands}
use Rattle.thread_local_schedule.specs.Local.{Doing, Gets, Started, Private, Filled, Written, Local, LocalStep, local_step}
use Rattle.thread_local_schedule.specs.Local.{BeginGet, BeginGetOr, LoadPointer, LookAtFlag, MakeBucket, FillBucket, AnnounceBucket}
use Rattle.thread_local_schedule.specs.Local.{InstallBucket, WriteValue, SetFlag, Reply, doing_with_get, doing_with_get_or, may_look}
use Rattle.thread_local_schedule.specs.Local.{learns, closure_at_missing, empty_bucket, doing_announced, filled_bucket}
use Rattle.thread_local_schedule.specs.Local.{OwnBucket, installed_bucket, install_bucket, closure_at_vacant}
use Rattle.thread_local_schedule.specs.Local.{value_written, set_flag, ending_of}
use Rattle.thread_local_schedule.specs.Calls.{HasLearnt}
use Rattle.thread_local_schedule.specs.SharedWalk.{SharedWalk, WalkStep, Pass, Load, Look, at_announced, walk_step}
use Rattle.thread_local_schedule.specs.Core.{Core}
use Rattle.thread_local_schedule.specs.CoreFits.{CoreFits}
use Rattle.thread_local_schedule.specs.Events.{Event, OfLocal, OfWalk, with_step, with_walk, step_of, step, is_enabled}

-- an option has a value, in whatever way it is mapped
some_mapped : {A B : Type 0} (f : A → B) (o : Option A) → is_some (option_map f o) ≡ is_some o
some_mapped f None = refl
some_mapped f (Some x) = refl

-- in a table that hasn't ended, a step of a Local and of a walk is enabled where its own rule gives
-- something
open_enabled : {V E : Type 0} (core : Core V E) (event : Event V E) → core.ended ≡ false
    → is_enabled core event ≡ is_some (step_of core event)
unfolding is_enabled step
open_enabled core event going = ap (λ b. is_some (cond b None (step_of core event))) going

local_enabled : {V E : Type 0} (core : Core V E) (n : ℕ) (local : Local V E) (it : LocalStep V E)
    → core.ended ≡ false → core.locals n ≡ Some local
    → is_enabled core (OfLocal n it) ≡ is_some (local_step core.table local it)
local_enabled core n local it going at =
    open_enabled core (OfLocal n it) going
    ∙ ap (λ o. is_some (option_and_then (λ l. option_map (with_step core n) (local_step core.table l it)) o)) at
    ∙ some_mapped (with_step core n) (local_step core.table local it)

walk_enabled : {V E : Type 0} (core : Core V E) (n : ℕ) (walk : SharedWalk V) (it : WalkStep)
    → core.ended ≡ false → core.walks n ≡ Some walk
    → is_enabled core (OfWalk n it) ≡ is_some (walk_step core.table walk it)
walk_enabled core n walk it going at =
    open_enabled core (OfWalk n it) going
    ∙ ap (λ o. is_some (option_and_then (λ w. option_map (with_walk core n) (walk_step core.table w it)) o)) at
    ∙ some_mapped (with_walk core n) (walk_step core.table walk it)

-- a truth value that is another one is true where that is
equal_tests : {P : Type 0} (a b : Bool) → a ≡ b → IsTrue b ↔ P → IsTrue a ↔ P
equal_tests a b e both = (λ t. both.0 (sym e ∙ t), λ p. e ∙ both.1 p)

-- a get begins where only gets are under way, and a publishing call where no call is
gets : {V E : Type 0} (doing : Doing V E)
    → IsTrue (is_some (doing_with_get doing)) ↔ ((count : ℕ) × (doing ≡ Gets count))
gets (Gets count) = (λ t. (count, refl), λ p. refl)
gets (Started create) = (λ t. absurd (false≢true t), λ p. let e = p.1 in cc)
gets (Private create number) = (λ t. absurd (false≢true t), λ p. let e = p.1 in cc)
gets (Filled other number announced) = (λ t. absurd (false≢true t), λ p. let e = p.1 in cc)
gets (Written v announced) = (λ t. absurd (false≢true t), λ p. let e = p.1 in cc)

none_under_way : {V E : Type 0} (create : Result V E) (doing : Doing V E)
    → IsTrue (is_some (doing_with_get_or create doing)) ↔ (doing ≡ Gets 0)
none_under_way create (Gets zero) = (λ t. refl, λ e. refl)
none_under_way create (Gets (suc count)) = (λ t. absurd (false≢true t), λ e. cc)
none_under_way create (Started other) = (λ t. absurd (false≢true t), λ e. cc)
none_under_way create (Private other number) = (λ t. absurd (false≢true t), λ e. cc)
none_under_way create (Filled other number announced) = (λ t. absurd (false≢true t), λ e. cc)
none_under_way create (Written v announced) = (λ t. absurd (false≢true t), λ e. cc)

pub get_begins : {V E : Type 0} (core : Core V E) (n : ℕ) (local : Local V E) → core.ended ≡ false
    → core.locals n ≡ Some local
    → IsTrue (is_enabled core (OfLocal n BeginGet)) ↔ ((count : ℕ) × (local.doing ≡ Gets count))
unfolding local_step
get_begins core n local going at =
    equal_tests _ _
    (local_enabled core n local BeginGet going at ∙ some_mapped _ (doing_with_get local.doing))
    (gets local.doing)

pub get_or_begins : {V E : Type 0} (core : Core V E) (n : ℕ) (local : Local V E) (create : Result V E)
    → core.ended ≡ false → core.locals n ≡ Some local
    → IsTrue (is_enabled core (OfLocal n (BeginGetOr create))) ↔ (local.doing ≡ Gets 0)
unfolding local_step
get_or_begins core n local create going at =
    equal_tests _ _
    (local_enabled core n local (BeginGetOr create) going at
    ∙ some_mapped _ (doing_with_get_or create local.doing))
    (none_under_way create local.doing)

-- only gets are under way, or a publishing call that has neither a bucket of its own nor written
abbrev pub IsLooking : {V E : Type 0} → Doing V E → Type 0
IsLooking {V} {E} doing = ((count : ℕ) × (doing ≡ Gets count)) ⊎ ((create : Result V E) × (doing ≡ Started create))

looking : {V E A : Type 0} (doing : Doing V E) (o : Option A)
    → IsTrue (is_some (cond (may_look doing) o None)) ↔ (IsLooking doing × IsTrue (is_some o))
looking (Gets count) o = (λ t. (inl (count, refl), t), λ p. p.1)
looking (Started create) o = (λ t. (inr (create, refl), t), λ p. p.1)
looking (Private create number) o = (λ t. absurd (false≢true t), λ p. ⊎_elim (λ x. let e = x.1 in cc) (λ x. let e = x.1 in cc) p.0)
looking (Filled other number announced) o = (
  λ t. absurd (false≢true t),
  λ p. ⊎_elim (λ x. let e = x.1 in cc) (λ x. let e = x.1 in cc) p.0,
)
looking (Written v announced) o = (λ t. absurd (false≢true t), λ p. ⊎_elim (λ x. let e = x.1 in cc) (λ x. let e = x.1 in cc) p.0)

some_learnt : {V E : Type 0} (table : Table V) (local : Local V E) (o : Option (Learnt V))
    → is_some (learns table local o) ≡ is_some o
some_learnt table local None = refl
some_learnt table local (Some learnt) = refl

by_load : {V : Type 0} (learnt : Learnt V) (stands : Bool)
    → IsTrue (is_some (learnt_by_load learnt stands)) ↔ ((learnt ≡ Unknown) ⊎ (learnt ≡ Missing))
by_load Unknown stands = (λ t. inl refl, λ p. refl)
by_load Missing stands = (λ t. inr refl, λ p. refl)
by_load Standing stands = (λ t. absurd (false≢true t), λ p. ⊎_elim (λ e. cc) (λ e. cc) p)
by_load Vacant stands = (λ t. absurd (false≢true t), λ p. ⊎_elim (λ e. cc) (λ e. cc) p)
by_load (Holding v) stands = (λ t. absurd (false≢true t), λ p. ⊎_elim (λ e. cc) (λ e. cc) p)

by_look : {V : Type 0} (learnt : Learnt V) (shown : Option V)
    → IsTrue (is_some (learnt_by_look learnt shown)) ↔ (learnt ≡ Standing)
by_look Standing None = (λ t. refl, λ e. refl)
by_look Standing (Some v) = (λ t. refl, λ e. refl)
by_look Unknown shown = (λ t. absurd (false≢true t), λ e. cc)
by_look Missing shown = (λ t. absurd (false≢true t), λ e. cc)
by_look Vacant shown = (λ t. absurd (false≢true t), λ e. cc)
by_look (Holding v) shown = (λ t. absurd (false≢true t), λ e. cc)

-- what both of two tests need
needs_both : {P Q : Type 0} (a b : Bool) → IsTrue a ↔ (P × IsTrue b) → IsTrue b ↔ Q → IsTrue a ↔ (P × Q)
needs_both a b first second = (
  λ t. let p = first.0 t in (p.0, second.0 p.1),
  λ p. first.1 (p.0, second.1 p.1),
)

pub loads : {V E : Type 0} (core : Core V E) (n : ℕ) (local : Local V E) → core.ended ≡ false
    → core.locals n ≡ Some local
    → IsTrue (is_enabled core (OfLocal n LoadPointer))
    ↔ (IsLooking local.doing × ((local.learnt ≡ Unknown) ⊎ (local.learnt ≡ Missing)))
unfolding local_step
loads core n local going at =
    let stands = bucket_stands core.table (bucket_of local.id) in
    let o = learnt_by_load local.learnt stands in
    equal_tests _ _ (local_enabled core n local LoadPointer going at)
    (needs_both _ _ (looking local.doing (learns core.table local o))
    (equal_tests _ _ (some_learnt core.table local o) (by_load local.learnt stands)))

pub looks : {V E : Type 0} (core : Core V E) (n : ℕ) (local : Local V E) → core.ended ≡ false
    → core.locals n ≡ Some local
    → IsTrue (is_enabled core (OfLocal n LookAtFlag)) ↔ (IsLooking local.doing × (local.learnt ≡ Standing))
unfolding local_step
looks core n local going at =
    let shown = published core.table local.id in
    let o = learnt_by_look local.learnt shown in
    equal_tests _ _ (local_enabled core n local LookAtFlag going at)
    (needs_both _ _ (looking local.doing (learns core.table local o))
    (equal_tests _ _ (some_learnt core.table local o) (by_look local.learnt shown)))

-- memory is asked for by a publishing call that found its bucket missing, whatever stands by now
missing : {V E : Type 0} (doing : Doing V E) (learnt : Learnt V)
    → IsTrue (is_some (closure_at_missing doing learnt)) ↔ (((create : Result V E) × (doing ≡ Started create)) × (learnt ≡ Missing))
missing (Started create) Missing = (λ t. ((create, refl), refl), λ p. refl)
missing (Started create) Unknown = (λ t. absurd (false≢true t), λ p. let e = p.1 in cc)
missing (Started create) Standing = (λ t. absurd (false≢true t), λ p. let e = p.1 in cc)
missing (Started create) Vacant = (λ t. absurd (false≢true t), λ p. let e = p.1 in cc)
missing (Started create) (Holding v) = (λ t. absurd (false≢true t), λ p. let e = p.1 in cc)
missing (Gets count) learnt = (λ t. absurd (false≢true t), λ p. let e = p.0.1 in cc)
missing (Private create number) learnt = (λ t. absurd (false≢true t), λ p. let e = p.0.1 in cc)
missing (Filled other number announced) learnt = (λ t. absurd (false≢true t), λ p. let e = p.0.1 in cc)
missing (Written v announced) learnt = (λ t. absurd (false≢true t), λ p. let e = p.0.1 in cc)

pub asks : {V E : Type 0} (core : Core V E) (n : ℕ) (local : Local V E) (refused : Bool) → core.ended ≡ false
    → core.locals n ≡ Some local
    → IsTrue (is_enabled core (OfLocal n (MakeBucket refused)))
    ↔ (((create : Result V E) × (local.doing ≡ Started create)) × (local.learnt ≡ Missing))
unfolding local_step
asks core n local refused going at =
    equal_tests _ _
    (local_enabled core n local (MakeBucket refused) going at
    ∙ some_mapped _ (closure_at_missing local.doing local.learnt))
    (missing local.doing local.learnt)

-- a value is written, or an error handed on, by a publishing call that found its slot empty
vacant : {V E : Type 0} (doing : Doing V E) (learnt : Learnt V)
    → IsTrue (is_some (closure_at_vacant doing learnt)) ↔ (((create : Result V E) × (doing ≡ Started create)) × (learnt ≡ Vacant))
vacant (Started create) Vacant = (λ t. ((create, refl), refl), λ p. refl)
vacant (Started create) Unknown = (λ t. absurd (false≢true t), λ p. let e = p.1 in cc)
vacant (Started create) Missing = (λ t. absurd (false≢true t), λ p. let e = p.1 in cc)
vacant (Started create) Standing = (λ t. absurd (false≢true t), λ p. let e = p.1 in cc)
vacant (Started create) (Holding v) = (λ t. absurd (false≢true t), λ p. let e = p.1 in cc)
vacant (Gets count) learnt = (λ t. absurd (false≢true t), λ p. let e = p.0.1 in cc)
vacant (Private create number) learnt = (λ t. absurd (false≢true t), λ p. let e = p.0.1 in cc)
vacant (Filled other number announced) learnt = (λ t. absurd (false≢true t), λ p. let e = p.0.1 in cc)
vacant (Written v announced) learnt = (λ t. absurd (false≢true t), λ p. let e = p.0.1 in cc)

pub writes : {V E : Type 0} (core : Core V E) (n : ℕ) (local : Local V E) → core.ended ≡ false
    → core.locals n ≡ Some local
    → IsTrue (is_enabled core (OfLocal n WriteValue))
    ↔ (((create : Result V E) × (local.doing ≡ Started create)) × (local.learnt ≡ Vacant))
unfolding local_step
writes core n local going at =
    equal_tests _ _
    (local_enabled core n local WriteValue going at
    ∙ some_mapped _ (closure_at_vacant local.doing local.learnt))
    (vacant local.doing local.learnt)

-- a bucket is filled by the call that has made it
unfilled : {V E : Type 0} (doing : Doing V E)
    → IsTrue (is_some (empty_bucket doing)) ↔ ((create : Result V E) × (number : ℕ) × (doing ≡ Private create number))
unfilled (Private create number) = (λ t. (create, number, refl), λ p. refl)
unfilled (Filled other number announced) = (λ t. absurd (false≢true t), λ p. let e = p.2 in cc)
unfilled (Gets count) = (λ t. absurd (false≢true t), λ p. let e = p.2 in cc)
unfilled (Started create) = (λ t. absurd (false≢true t), λ p. let e = p.2 in cc)
unfilled (Written v announced) = (λ t. absurd (false≢true t), λ p. let e = p.2 in cc)

pub fills : {V E : Type 0} (core : Core V E) (n : ℕ) (local : Local V E) → core.ended ≡ false
    → core.locals n ≡ Some local
    → IsTrue (is_enabled core (OfLocal n FillBucket))
    ↔ ((create : Result V E) × (number : ℕ) × (local.doing ≡ Private create number))
unfolding local_step
fills core n local going at =
    equal_tests _ _
    (local_enabled core n local FillBucket going at ∙ some_mapped _ (empty_bucket local.doing))
    (unfilled local.doing)

-- a bucket is announced by the call that has filled it, or written its value there, and doesn't know it
-- to be announced
abbrev pub MayAnnounce : {V E : Type 0} → Doing V E → Type 0
MayAnnounce {V} {E} doing =
    ((create : Result V E) × (number : ℕ) × (doing ≡ Filled create number false)) ⊎ ((v : V) × (doing ≡ Written v false))

unknown : {V E : Type 0} (doing : Doing V E) → IsTrue (is_some (doing_announced doing)) ↔ MayAnnounce doing
unknown (Filled create number false) = (λ t. inl (create, number, refl), λ p. refl)
unknown (Written v false) = (λ t. inr (v, refl), λ p. refl)
unknown (Filled create number true) = (λ t. absurd (false≢true t), λ p. ⊎_elim (λ x. let e = x.2 in cc) (λ x. let e = x.1 in cc) p)
unknown (Written v true) = (λ t. absurd (false≢true t), λ p. ⊎_elim (λ x. let e = x.2 in cc) (λ x. let e = x.1 in cc) p)
unknown (Private create number) = (λ t. absurd (false≢true t), λ p. ⊎_elim (λ x. let e = x.2 in cc) (λ x. let e = x.1 in cc) p)
unknown (Gets count) = (λ t. absurd (false≢true t), λ p. ⊎_elim (λ x. let e = x.2 in cc) (λ x. let e = x.1 in cc) p)
unknown (Started create) = (λ t. absurd (false≢true t), λ p. ⊎_elim (λ x. let e = x.2 in cc) (λ x. let e = x.1 in cc) p)

pub announces : {V E : Type 0} (core : Core V E) (n : ℕ) (local : Local V E) → core.ended ≡ false
    → core.locals n ≡ Some local
    → IsTrue (is_enabled core (OfLocal n AnnounceBucket)) ↔ MayAnnounce local.doing
unfolding local_step
announces core n local going at =
    equal_tests _ _
    (local_enabled core n local AnnounceBucket going at ∙ some_mapped _ (doing_announced local.doing))
    (unknown local.doing)

-- a bucket is offered by the call that has filled it and knows it to be announced
installed : {V E : Type 0} (table : Table V) (local : Local V E) (number : ℕ) (create : Result V E)
    → IsTrue (is_some (installed_bucket table local number create Vacant))
installed table local number (Ok v) = refl
installed table local number (Err e) = refl

offered : {V E : Type 0} (table : Table V) (local : Local V E) (own : OwnBucket V E) → local.learnt ≡ Missing
    → IsTrue (is_some (install_bucket table local own))
offered table local own h =
    rw h (cond_both {A = Option (Table _ × Local _ _)} (bucket_stands table (bucket_of local.id)) _ _ (λ o. IsTrue (is_some o))
    (λ _. refl) (λ _. installed table local own.number own.create))

own : {V E : Type 0} (table : Table V) (local : Local V E) (doing : Doing V E) → HasLearnt doing local.learnt
    → IsTrue (is_some (option_and_then (install_bucket table local) (filled_bucket doing)))
    ↔ ((create : Result V E) × (number : ℕ) × (doing ≡ Filled create number true))
own table local (Filled create number true) h =
    (λ t. (create, number, refl), λ p. offered table local (record { create = create; number = number }) h)
own table local (Filled create number false) h = (λ t. absurd (false≢true t), λ p. let e = p.2 in cc)
own table local (Private create number) h = (λ t. absurd (false≢true t), λ p. let e = p.2 in cc)
own table local (Gets count) h = (λ t. absurd (false≢true t), λ p. let e = p.2 in cc)
own table local (Started create) h = (λ t. absurd (false≢true t), λ p. let e = p.2 in cc)
own table local (Written v announced) h = (λ t. absurd (false≢true t), λ p. let e = p.2 in cc)

pub installs : {V E : Type 0} (core : Core V E) (n : ℕ) (local : Local V E) → CoreFits core → core.ended ≡ false
    → core.locals n ≡ Some local
    → IsTrue (is_enabled core (OfLocal n InstallBucket))
    ↔ ((create : Result V E) × (number : ℕ) × (local.doing ≡ Filled create number true))
unfolding local_step
installs core n local h going at =
    equal_tests _ _ (local_enabled core n local InstallBucket going at)
    (own core.table local local.doing (h.locals.each n local at).learnt)

-- a flag is set by the call that has written its value and knows its bucket to be announced
wrote : {V E : Type 0} (table : Table V) (local : Local V E) (doing : Doing V E) → HasLearnt doing local.learnt
    → IsTrue (is_some (option_and_then (set_flag table local) (value_written doing))) ↔ ((v : V) × (doing ≡ Written v true))
wrote table local (Written v true) h = (λ t. (v, refl), λ p. rw (some_learnt _ _ (learnt_by_publish local.learnt v), h) refl)
wrote table local (Gets count) h = (λ t. absurd (false≢true t), λ p. let e = p.1 in cc)
wrote table local (Started create) h = (λ t. absurd (false≢true t), λ p. let e = p.1 in cc)
wrote table local (Private create number) h = (λ t. absurd (false≢true t), λ p. let e = p.1 in cc)
wrote table local (Filled other number announced) h = (λ t. absurd (false≢true t), λ p. let e = p.1 in cc)
wrote table local (Written v false) h = (λ t. absurd (false≢true t), λ p. let e = p.1 in cc)

pub sets : {V E : Type 0} (core : Core V E) (n : ℕ) (local : Local V E) → CoreFits core → core.ended ≡ false
    → core.locals n ≡ Some local
    → IsTrue (is_enabled core (OfLocal n SetFlag)) ↔ ((v : V) × (local.doing ≡ Written v true))
unfolding local_step
sets core n local h going at =
    equal_tests _ _ (local_enabled core n local SetFlag going at)
    (wrote core.table local local.doing (h.locals.each n local at).learnt)

-- a get ends that has learnt what its slot shows, and a publishing call that found a value
abbrev pub HasAnswer : {V E : Type 0} → Doing V E → Learnt V → Type 0
HasAnswer {V} {E} doing learnt =
    (((count : ℕ) × (doing ≡ Gets (suc count))) × ((learnt ≢ Unknown) × (learnt ≢ Standing)))
    ⊎ (((create : Result V E) × (doing ≡ Started create)) × ((v : V) × (learnt ≡ Holding v)))

no_answer : {V E : Type 0} (doing : Doing V E) (learnt : Learnt V)
    → ((count : ℕ) → doing ≡ Gets (suc count) → learnt ≢ Unknown → learnt ≢ Standing → ⊥)
    → ((create : Result V E) (v : V) → doing ≡ Started create → learnt ≡ Holding v → ⊥)
    → IsTrue false ↔ HasAnswer doing learnt
no_answer doing learnt first second = (
  λ t. absurd (false≢true t),
  λ p. ⊎_elim
      (λ x. absurd (first x.0.0 x.0.1 x.1.0 x.1.1))
      (λ x. absurd (second x.0.0 x.1.0 x.0.1 x.1.1))
      p,
)

answer : {V E : Type 0} (doing : Doing V E) (learnt : Learnt V)
    → IsTrue (is_some (ending_of doing learnt)) ↔ HasAnswer doing learnt
answer (Gets (suc count)) Missing = (λ t. inl ((count, refl), ((λ e. cc), (λ e. cc))), λ p. refl)
answer (Gets (suc count)) Vacant = (λ t. inl ((count, refl), ((λ e. cc), (λ e. cc))), λ p. refl)
answer (Gets (suc count)) (Holding v) = (λ t. inl ((count, refl), ((λ e. cc), (λ e. cc))), λ p. refl)
answer (Gets (suc count)) Unknown = no_answer (Gets (suc count)) Unknown (λ n e a b. a refl) (λ create v e f. cc)
answer (Gets (suc count)) Standing = no_answer (Gets (suc count)) Standing (λ n e a b. b refl) (λ create v e f. cc)
answer (Gets zero) learnt = no_answer (Gets zero) learnt (λ n e a b. cc) (λ create v e f. cc)
answer (Started create) (Holding v) = (λ t. inr ((create, refl), (v, refl)), λ p. refl)
answer (Started create) Unknown = no_answer (Started create) Unknown (λ n e a b. cc) (λ c v e f. cc)
answer (Started create) Missing = no_answer (Started create) Missing (λ n e a b. cc) (λ c v e f. cc)
answer (Started create) Standing = no_answer (Started create) Standing (λ n e a b. cc) (λ c v e f. cc)
answer (Started create) Vacant = no_answer (Started create) Vacant (λ n e a b. cc) (λ c v e f. cc)
answer (Private create number) learnt = no_answer (Private create number) learnt (λ n e a b. cc) (λ c v e f. cc)
answer (Filled other number announced) learnt = no_answer (Filled other number announced) learnt (λ n e a b. cc) (λ c v e f. cc)
answer (Written v announced) learnt = no_answer (Written v announced) learnt (λ n e a b. cc) (λ c w e f. cc)

pub replies : {V E : Type 0} (core : Core V E) (n : ℕ) (local : Local V E) → core.ended ≡ false
    → core.locals n ≡ Some local
    → IsTrue (is_enabled core (OfLocal n Reply)) ↔ HasAnswer local.doing local.learnt
unfolding local_step
replies core n local going at =
    equal_tests _ _ (local_enabled core n local Reply going at ∙ some_mapped _ (ending_of local.doing local.learnt))
    (answer local.doing local.learnt)

-- A walk loads a pointer where it doesn't look at a slot, isn't complete and is at a bucket that was
-- announced as it began. It passes any other bucket.
going_next : {A : Type 0} (looks below this : Bool) (x : A)
    → IsTrue (is_some (cond (cond looks false below && this) (Some x) None)) ↔ ((looks ≡ false) × IsTrue below × IsTrue this)
going_next true below this x = (λ t. absurd (false≢true t), λ p. absurd (false≢true (sym p.0)))
going_next false true true x = (λ t. (refl, refl, refl), λ p. refl)
going_next false true false x = (λ t. absurd (false≢true t), λ p. absurd (false≢true p.2))
going_next false false this x = (λ t. absurd (false≢true t), λ p. absurd (false≢true p.1))

pub walk_loads : {V E : Type 0} (core : Core V E) (n : ℕ) (walk : SharedWalk V) → core.ended ≡ false
    → core.walks n ≡ Some walk
    → IsTrue (is_enabled core (OfWalk n Load))
    ↔ ((walk.cursor.looks ≡ false) × (walk.cursor.bucket < 63) × IsTrue (at_announced walk))
unfolding walk_step
walk_loads core n walk going at =
    equal_tests _ _ (walk_enabled core n walk Load going at)
    (let all = going_next walk.cursor.looks (nat_lt walk.cursor.bucket 63) (at_announced walk) _ in (
      λ t. (let p = all.0 t in (p.0, ltb-true walk.cursor.bucket 63 p.1, p.2)),
      λ p. all.1 (p.0, lt-ltb walk.cursor.bucket 63 p.1, p.2),
    ))

pub walk_passes : {V E : Type 0} (core : Core V E) (n : ℕ) (walk : SharedWalk V) → core.ended ≡ false
    → core.walks n ≡ Some walk
    → IsTrue (is_enabled core (OfWalk n Pass))
    ↔ ((walk.cursor.looks ≡ false) × (walk.cursor.bucket < 63) × (at_announced walk ≡ false))
unfolding walk_step
walk_passes core n walk going at =
    equal_tests _ _ (walk_enabled core n walk Pass going at)
    (let all = going_next walk.cursor.looks (nat_lt walk.cursor.bucket 63) (not (at_announced walk)) _ in (
      λ t. (let p = all.0 t in (p.0, ltb-true walk.cursor.bucket 63 p.1, not-true (at_announced walk) p.2)),
      λ p. all.1 (p.0, lt-ltb walk.cursor.bucket 63 p.1, ap not p.2),
    ))

looks_next : {A : Type 0} (looks : Bool) (x : A) → IsTrue (is_some (cond looks (Some x) None)) ↔ IsTrue looks
looks_next true x = (λ t. refl, λ p. refl)
looks_next false x = (λ t. absurd (false≢true t), λ p. absurd (false≢true p))

pub walk_looks : {V E : Type 0} (core : Core V E) (n : ℕ) (walk : SharedWalk V) → core.ended ≡ false
    → core.walks n ≡ Some walk
    → IsTrue (is_enabled core (OfWalk n Look)) ↔ IsTrue walk.cursor.looks
unfolding walk_step
walk_looks core n walk going at =
    equal_tests _ _ (walk_enabled core n walk Look going at) (looks_next walk.cursor.looks _)
