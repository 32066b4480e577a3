-- A call under way has an enabled step that leaves fewer steps to make.
use Rattle.std.proofs.Common.{◌≡◌, ℕ, zero, suc, ◌+◌, ◌<◌, ◌≤◌, Bool, true, false, cond, Option, Some, None, Result, Ok}
use Rattle.std.proofs.Common.{Err, IsSomeAnd, refl, ◌∙◌, arith}
use Rattle.thread_local_base.specs.Place.{bucket_of}
use Rattle.thread_local_base.specs.Learnt.{Learnt, Unknown, Missing, Standing, Vacant, Holding, learnt_by_look}
use Rattle.thread_local_schedule.specs.Table.{Table, published, bucket_stands, with_fresh_bucket, with_written}
use Rattle.thread_local_schedule.specs.Local.{Doing, Gets, Started, Private, Filled, Written, Local, LocalStep, local_step}
use Rattle.thread_local_schedule.specs.Local.{LoadPointer, LookAtFlag, MakeBucket, FillBucket, AnnounceBucket, InstallBucket}
use Rattle.thread_local_schedule.specs.Local.{OwnBucket, installed_bucket, install_bucket, WriteValue, SetFlag}
use Rattle.thread_local_schedule.specs.Local.{Reply, learns}
use Rattle.thread_local_schedule.specs.Calls.{gets_of, closure_of, HasNoCall, HasLearnt, GoesDown, looks_left, announces_left}
use Rattle.thread_local_schedule.specs.Calls.{started_left, steps_left, steps_left_on}
use Rattle.thread_local_schedule.proofs.TableLaws.{announced-own}
use Rattle.std.proofs.lemmas.Bool.{cond_both}

-- a step of this Local leaves fewer steps than this
abbrev HasStep : {V E : Type 0} → Table V → Local V E → ℕ → Type 0
HasStep {V} {E} table local n =
    (step : LocalStep V E)
    × IsSomeAnd (local_step table local step) (λ after. steps_left_on after < n)

few_gets : (T F : Type 0) (announced : Bool) (count : ℕ) (learnt : Learnt T) → looks_left learnt ≡ 0
    → steps_left {E = F} announced (Gets count) learnt ≤ count
few_gets T F announced zero learnt e = omega arith
few_gets T F announced (suc count) learnt e = omega (arith, e)

-- a load and a look leave fewer steps, whatever they teach
load_get : (T F : Type 0) (announced : Bool) (count : ℕ) (stands : Bool)
    → let learnt : Learnt T = cond stands Standing Missing in
    steps_left {E = F} announced (Gets (suc count)) learnt < suc count + 2
load_get T F announced count true = omega arith
load_get T F announced count false = omega arith

load_started : (T : Type 0) (announced stands : Bool)
    → let learnt : Learnt T = cond stands Standing Missing in
    started_left announced learnt < 6 + announces_left announced
load_started T announced true = omega arith
load_started T announced false = omega arith

look_get : {V E : Type 0} (table : Table V) (local : Local V E) (count : ℕ) (shown : Option V) → local.doing ≡ Gets (suc count)
    → IsSomeAnd (learns table local (learnt_by_look Standing shown)) (λ after. steps_left_on after < suc count + 1)
look_get table local count None e = rw e (omega arith)
look_get table local count (Some v) e = rw e (omega arith)

look_started : {V E : Type 0} (table : Table V) (local : Local V E) (create : Result V E)
    (shown : Option V)
    → local.doing ≡ Started create
    → IsSomeAnd (learns table local (learnt_by_look Standing shown))
    (λ after. steps_left_on after < 3 + announces_left (table.announced (bucket_of local.id)))
look_started table local create None e = rw e (omega arith)
look_started table local create (Some v) e = rw e (omega arith)

-- few steps are left once a bucket was filled or a value written, and once a bucket was installed
filled_few : (T F : Type 0) (create : Result T F) (number : ℕ) (announced : Bool) (learnt : Learnt T)
    → steps_left announced (Filled create number announced) learnt < 4 + announces_left announced
filled_few T F create number true learnt = omega arith
filled_few T F create number false learnt = omega arith

written_few : (T F : Type 0) (v : T) (then announced : Bool) (learnt : Learnt T)
    → steps_left {E = F} then (Written v announced) learnt < 2 + announces_left announced
written_few T F v then true learnt = omega arith
written_few T F v then false learnt = omega arith

-- the steps left after an install, if fewer than before
abbrev FewInstalled : {V E : Type 0} → Table V → Local V E → Option (Table V × Local V E) → Type 0
FewInstalled table local o =
    IsSomeAnd o (λ after. steps_left_on after < 3 + announces_left (table.announced (bucket_of local.id)))

installed_few : {V E : Type 0} (table : Table V) (local : Local V E) (number : ℕ) (create : Result V E)
    → FewInstalled table local (installed_bucket table local number create Vacant)
unfolding with_fresh_bucket
installed_few table local number (Ok v) = omega arith
installed_few table local number (Err e) = omega arith

install_few : {V E : Type 0} (table : Table V) (local : Local V E) (own : OwnBucket V E) → local.learnt ≡ Missing
    → FewInstalled table local (install_bucket table local own)
install_few table local own h =
    rw h (cond_both {A = Option (Table _ × Local _ _)} (bucket_stands table (bucket_of local.id)) _ _
    (FewInstalled table local) (λ _. omega arith)
    (λ _. installed_few table local own.number own.create))

goes_by : {V E : Type 0} (table : Table V) (local : Local V E) (doing : Doing V E)
    (learnt : Learnt V)
    → local.doing ≡ doing → local.learnt ≡ learnt → HasLearnt doing learnt
    → (gets_of doing ≡ 0 → closure_of doing ≡ None → ⊥)
    → HasStep table local (steps_left (table.announced (bucket_of local.id)) doing learnt)
unfolding local_step
goes_by {V} {E} table local (Gets zero) learnt e l h busy = absurd (busy refl refl)
goes_by {V} {E} table local (Gets (suc count)) Unknown e l h busy =
    (LoadPointer, rw (e, l) (load_get V E (table.announced (bucket_of local.id)) count (bucket_stands table (bucket_of local.id))))
goes_by {V} {E} table local (Gets (suc count)) Standing e l h busy = (
  LookAtFlag,
  rw (e, l) (look_get table (record local { learnt = Standing; doing = Gets (suc count) }) count
      (published table local.id) refl),
)
goes_by {V} {E} table local (Gets (suc count)) Missing e l h busy = (Reply, rw (e, l) (omega (arith, few_gets V E (table.announced (bucket_of local.id)) count Missing refl)))
goes_by {V} {E} table local (Gets (suc count)) Vacant e l h busy = (Reply, rw (e, l) (omega (arith, few_gets V E (table.announced (bucket_of local.id)) count Vacant refl)))
goes_by {V} {E} table local (Gets (suc count)) (Holding v) e l h busy =
    (Reply, rw (e, l) (omega (arith, few_gets V E (table.announced (bucket_of local.id)) count (Holding v) refl)))
goes_by {V} {E} table local (Started create) Unknown e l h busy =
    (LoadPointer, rw (e, l) (load_started V (table.announced (bucket_of local.id)) (bucket_stands table (bucket_of local.id))))
goes_by {V} {E} table local (Started create) Missing e l h busy =
    (MakeBucket false, rw (e, l) (omega arith))
goes_by {V} {E} table local (Started create) Standing e l h busy = (
  LookAtFlag,
  rw (e, l) (look_started table (record local { learnt = Standing; doing = Started create })
      create (published table local.id) refl),
)
goes_by {V} {E} table local (Started (Ok v)) Vacant e l h busy =
    (WriteValue, rw (e, l) (written_few V E v ((with_written table local.id v).announced (bucket_of local.id)) (table.announced (bucket_of local.id)) Vacant))
goes_by {V} {E} table local (Started (Err x)) Vacant e l h busy = (WriteValue, rw (e, l) (omega arith))
goes_by {V} {E} table local (Started create) (Holding v) e l h busy = (Reply, rw (e, l) (omega arith))
goes_by {V} {E} table local (Private create number) learnt e l h busy =
    (FillBucket, rw e (filled_few V E create number (table.announced (bucket_of local.id)) local.learnt))
goes_by {V} {E} table local (Filled create number false) learnt e l h busy =
    (AnnounceBucket, rw (e, announced-own table (bucket_of local.id)) (omega arith))
goes_by {V} {E} table local (Filled create number true) learnt e l h busy =
    (InstallBucket, rw e (install_few table local (record { create = create; number = number }) (l ∙ h)))
goes_by {V} {E} table local (Written v false) learnt e l h busy = (AnnounceBucket, rw e (omega arith))
goes_by {V} {E} table local (Written v true) learnt e l h busy = (SetFlag, rw (e, l, h) (omega arith))

pub goes_on : {V E : Type 0} (table : Table V) (local : Local V E) → HasLearnt local.doing local.learnt → (HasNoCall local → ⊥)
    → (step : LocalStep V E) × IsSomeAnd (local_step table local step) (GoesDown (table, local))
goes_on table local h busy =
    goes_by table local local.doing local.learnt refl refl h
    (λ gets closure. busy (record { gets = gets; closure = closure }))

-- few steps are left of any call, and none more where its bucket is announced
looks_few : {V : Type 0} (learnt : Learnt V) → looks_left learnt ≤ 2
looks_few Unknown = omega arith
looks_few Missing = omega arith
looks_few Standing = omega arith
looks_few Vacant = omega arith
looks_few (Holding v) = omega arith

started_few : {V : Type 0} (learnt : Learnt V) → (started_left true learnt ≤ started_left false learnt) × (started_left false learnt ≤ 7)
started_few Unknown = (omega arith, omega arith)
started_few Missing = (omega arith, omega arith)
started_few Standing = (omega arith, omega arith)
started_few Vacant = (omega arith, omega arith)
started_few (Holding v) = (omega arith, omega arith)

few_left : {V E : Type 0} (doing : Doing V E) (learnt : Learnt V)
    → (steps_left true doing learnt ≤ steps_left false doing learnt) × (steps_left false doing learnt ≤ gets_of doing + 7)
few_left (Gets zero) learnt = (omega arith, omega arith)
few_left (Gets (suc count)) learnt = (omega arith, omega (arith, looks_few learnt))
few_left (Started create) learnt = started_few learnt
few_left (Private create number) learnt = (omega arith, omega arith)
few_left (Filled create number false) learnt = (omega arith, omega arith)
few_left (Filled create number true) learnt = (omega arith, omega arith)
few_left (Written v false) learnt = (omega arith, omega arith)
few_left (Written v true) learnt = (omega arith, omega arith)

pub announced_fewer : {V E : Type 0} (doing : Doing V E) (learnt : Learnt V) → steps_left true doing learnt ≤ steps_left false doing learnt
announced_fewer doing learnt = (few_left doing learnt).0

pub few_steps : {V E : Type 0} (announced : Bool) (doing : Doing V E) (learnt : Learnt V)
    → steps_left announced doing learnt ≤ gets_of doing + 7
few_steps true doing learnt = let few = few_left doing learnt in omega (arith, few.0, few.1)
few_steps false doing learnt = (few_left doing learnt).1
