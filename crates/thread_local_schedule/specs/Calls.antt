-- What a step does to the calls of its `Local`: one begins, none begins or ends, or one ends and is
-- recorded. And how many steps a call under way still needs.
use Rattle.std.specs.Prelude.{◌≡◌, ℕ, zero, suc, ◌+◌, ◌<◌, ◌⊎◌, ⊤, Bool, true, false, [], ◌∷◌, ◌++◌, Option, Some, None}
use Rattle.std.specs.Prelude.{IsSomeAnd, Result, Ok, if◌then◌else◌}
use Rattle.thread_local_base.specs.Place.{bucket_of}
use Rattle.thread_local_base.specs.Learnt.{Learnt, Unknown, Missing, Standing, Vacant, Holding}
use Rattle.thread_local_base.specs.Answers.{Answer, Get, GetOr, Refused}
use Rattle.thread_local_schedule.specs.Table.{Table}
use Rattle.thread_local_schedule.specs.Local.{Doing, Gets, Started, Private, Filled, Written, Local, LocalStep, BeginGet}
use Rattle.thread_local_schedule.specs.Local.{BeginGetOr, MakeBucket, InstallBucket, WriteValue, SetFlag, Reply}

-- how many gets are under way
abbrev pub gets_of : {V E : Type 0} → Doing V E → ℕ
gets_of (Gets count) = count
gets_of doing = 0

-- what the closure of the publishing call would answer, if one is under way
abbrev pub closure_of : {V E : Type 0} → Doing V E → Option (Result V E)
closure_of (Gets count) = None
closure_of (Started create) = Some create
closure_of (Private create number) = Some create
closure_of (Filled create number announced) = Some create
closure_of (Written v announced) = Some (Ok v)

-- no call of this Local is under way
pub record HasNoCall {V E : Type 0} (local : Local V E) : Type 0 where
  pub gets : gets_of local.doing ≡ 0
  pub closure : closure_of local.doing ≡ None

-- one more get is under way
pub record GetBegins {V E : Type 0} (before after : Local V E) : Type 0 where
  pub gets : gets_of after.doing ≡ suc (gets_of before.doing)
  pub closure : closure_of after.doing ≡ closure_of before.doing
  pub calls : after.calls ≡ before.calls

-- a publishing call is under way, with this closure, where none was
pub record PublishingBegins {V E : Type 0} (create : Result V E) (before after : Local V E) : Type 0 where
  pub none : closure_of before.doing ≡ None
  pub gets : gets_of after.doing ≡ gets_of before.doing
  pub closure : closure_of after.doing ≡ Some create
  pub calls : after.calls ≡ before.calls

-- no call begins or ends
pub record CallsStay {V E : Type 0} (before after : Local V E) : Type 0 where
  pub gets : gets_of after.doing ≡ gets_of before.doing
  pub closure : closure_of after.doing ≡ closure_of before.doing
  pub calls : after.calls ≡ before.calls

-- one get fewer is under way, and a get is recorded
pub record GetEnds {V E : Type 0} (before after : Local V E) : Type 0 where
  pub gets : gets_of before.doing ≡ suc (gets_of after.doing)
  pub closure : closure_of after.doing ≡ closure_of before.doing
  pub calls : after.calls ≡ before.calls ++ Get ∷ []

-- the publishing call ends, and is recorded with its closure, as refused memory or not
pub record PublishingEnds {V E : Type 0} (refused : Bool) (before after : Local V E) : Type 0 where
  pub none : closure_of after.doing ≡ None
  pub gets : gets_of after.doing ≡ gets_of before.doing
  pub calls : IsSomeAnd (closure_of before.doing) (λ create. after.calls ≡ before.calls ++ GetOr create refused ∷ [])

-- the publishing call ends as refused memory, and answers so
pub record MemoryRefused {V E : Type 0} (before after : Local V E) : Type 0 where
  pub ends : PublishingEnds true before after
  pub answered : after.answered ≡ before.answered ++ Refused ∷ []

-- what this step does to the calls of its Local
abbrev pub CallsGo : {V E : Type 0} → LocalStep V E → Local V E → Local V E → Type 0
CallsGo BeginGet before after = GetBegins before after
CallsGo (BeginGetOr create) before after = PublishingBegins create before after
CallsGo (MakeBucket true) before after = MemoryRefused before after
CallsGo InstallBucket before after = CallsStay before after ⊎ PublishingEnds false before after
CallsGo WriteValue before after = CallsStay before after ⊎ PublishingEnds false before after
CallsGo SetFlag before after = PublishingEnds false before after
CallsGo Reply before after = GetEnds before after ⊎ PublishingEnds false before after
CallsGo step before after = CallsStay before after

-- a step leaves the id and the first view of its Local, and changes its calls as the step says
pub record GoesOn {V E : Type 0} (step : LocalStep V E) (before after : Local V E) : Type 0 where
  pub id : after.id ≡ before.id
  pub start : after.start ≡ before.start
  pub calls : CallsGo step before after

-- a Local whose call has a bucket of its own found its bucket missing, and one whose call has
-- written its value found its slot vacant
abbrev pub HasLearnt : {V E : Type 0} → Doing V E → Learnt V → Type 0
HasLearnt (Private create number) learnt = learnt ≡ Missing
HasLearnt (Filled create number announced) learnt = learnt ≡ Missing
HasLearnt (Written v announced) learnt = learnt ≡ Vacant
HasLearnt doing learnt = ⊤

-- how many steps a call still makes until it has learnt what its slot shows
abbrev pub looks_left : {V : Type 0} → Learnt V → ℕ
looks_left Unknown = 2
looks_left Standing = 1
looks_left learnt = 0

-- how many steps a publishing call makes to announce its bucket, by whether it is announced
abbrev pub announces_left : Bool → ℕ
announces_left announced = if announced then 0 else 1

-- how many steps a publishing call still makes that has no bucket of its own and has written
-- nothing, by whether the bucket of its id is announced
abbrev pub started_left : {V : Type 0} → Bool → Learnt V → ℕ
started_left announced Unknown = 6 + announces_left announced
started_left announced Missing = 5 + announces_left announced
started_left announced Standing = 3 + announces_left announced
started_left announced Vacant = 2 + announces_left announced
started_left announced (Holding v) = 1

-- how many steps the calls under way still make until all have ended, if each makes no step twice:
-- fewer where one is refused memory, or its closure answers with an error
abbrev pub steps_left : {V E : Type 0} → Bool → Doing V E → Learnt V → ℕ
steps_left announced (Gets zero) learnt = 0
steps_left announced (Gets (suc count)) learnt = suc count + looks_left learnt
steps_left announced (Started create) learnt = started_left announced learnt
steps_left announced (Private create number) learnt = 4 + announces_left announced
steps_left announced (Filled create number false) learnt = 4
steps_left announced (Filled create number true) learnt = 3 + announces_left announced
steps_left announced (Written v false) learnt = 2
steps_left announced (Written v true) learnt = 1

-- how many steps the calls of this Local still make on this table
abbrev pub steps_left_on : {V E : Type 0} → Table V × Local V E → ℕ
steps_left_on at = steps_left (at.0.announced (bucket_of at.1.id)) at.1.doing at.1.learnt

-- after a step of a Local's call fewer steps are left
abbrev pub GoesDown : {V E : Type 0} → Table V × Local V E → Table V × Local V E → Type 0
GoesDown before after = steps_left_on after < steps_left_on before

-- a call ends with this answer, and none is under way any longer
pub record EndsWith {V E : Type 0} (told : Answer V E) (before after : Local V E) : Type 0 where
  pub none : HasNoCall after
  pub answered : after.answered ≡ before.answered ++ told ∷ []
