-- Which steps of a `Local` are enabled, and what they teach: a call under way always has one.
use Rattle.std.proofs.Common.{◌≡◌, ◌<◌, zero, suc, Bool, true, false, cond, Option, Some, None, Result, Ok, Err, is_some}
use Rattle.std.proofs.Common.{IsTrue, IfSome, IsSomeAnd, refl, arith}
use Rattle.std.specs.Prelude.{option_map, option_and_then, MatchOption}
use Rattle.std.proofs.lemmas.Bool.{false≢true}
use Rattle.thread_local_base.specs.Place.{bucket_of}
use Rattle.thread_local_base.specs.Learnt.{Learnt, Unknown, Missing, Standing, Vacant, Holding, learnt_by_load}
use Rattle.thread_local_base.specs.Learnt.{learnt_by_look, learnt_by_publish}
use Rattle.thread_local_base.specs.Answers.{Failed, Answered, GetOr}
use Rattle.thread_local_schedule.specs.Table.{Table, published, bucket_stands, with_flag}
use Rattle.thread_local_schedule.specs.Local.{Doing, Gets, Started, Private, Filled, Written, Local, LocalStep, local_step}
use Rattle.thread_local_schedule.specs.Local.{BeginGet, BeginGetOr, LoadPointer, LookAtFlag, MakeBucket, FillBucket, AnnounceBucket}
use Rattle.thread_local_schedule.specs.Local.{InstallBucket, WriteValue, SetFlag, Reply, doing_with_get, doing_with_get_or, begin_call}
use Rattle.thread_local_schedule.specs.Local.{may_look, learns, closure_at_missing, make_bucket, empty_bucket, fill_bucket}
use Rattle.thread_local_schedule.specs.Local.{doing_announced, announce_bucket, filled_bucket, install_bucket, closure_at_vacant, write_value}
use Rattle.thread_local_schedule.specs.Local.{value_written, set_flag, after_call, ending_of, reply}
use Rattle.thread_local_schedule.proofs.CallsLaws.{either_install}
use Rattle.thread_local_schedule.specs.Calls.{gets_of, closure_of, HasNoCall, HasLearnt, EndsWith, GoesDown, steps_left, steps_left_on}

-- a get begins where no publishing call is under way
get_begins : {V E : Type 0} (table : Table V) (local : Local V E) (doing : Doing V E)
    → closure_of doing ≡ None
    → IsTrue (is_some (option_map (begin_call table local) (doing_with_get doing)))
get_begins table local (Gets count) none = refl
get_begins table local (Started create) none = cc
get_begins table local (Private create number) none = cc
get_begins table local (Filled create number announced) none = cc
get_begins table local (Written v announced) none = cc

pub begins_get : {V E : Type 0} (table : Table V) (local : Local V E)
    → closure_of local.doing ≡ None
    → IsTrue (is_some (local_step table local BeginGet))
unfolding local_step
begins_get table local none = get_begins table local local.doing none

-- a publishing call begins where no call is under way
get_or_begins : {V E : Type 0} (table : Table V) (local : Local V E) (create : Result V E)
    (doing : Doing V E)
    → gets_of doing ≡ 0 → closure_of doing ≡ None
    → IsTrue (is_some (option_map (begin_call table local) (doing_with_get_or create doing)))
get_or_begins table local create (Gets zero) gets none = refl
get_or_begins table local create (Gets (suc count)) gets none = absurd (omega arith)
get_or_begins table local create (Started other) gets none = cc
get_or_begins table local create (Private other number) gets none = cc
get_or_begins table local create (Filled other number announced) gets none = cc
get_or_begins table local create (Written v announced) gets none = cc

pub begins_get_or : {V E : Type 0} (table : Table V) (local : Local V E) (create : Result V E)
    → HasNoCall local
    → IsTrue (is_some (local_step table local (BeginGetOr create)))
unfolding local_step
begins_get_or table local create none = get_or_begins table local create local.doing none.gets none.closure

-- what each step leaves of a call with a bucket of its own, or with a written value
load-learnt : {V E : Type 0} (table : Table V) (local : Local V E) (doing : Doing V E) (o : Option (Learnt V)) → local.doing ≡ doing
    → IfSome (cond (may_look doing) (learns table local o) None) (λ after. HasLearnt after.1.doing after.1.learnt)
load-learnt table local (Gets count) None e = tt
load-learnt table local (Gets count) (Some learnt) e = rw e tt
load-learnt table local (Started create) None e = tt
load-learnt table local (Started create) (Some learnt) e = rw e tt
load-learnt table local (Private create number) o e = tt
load-learnt table local (Filled create number announced) o e = tt
load-learnt table local (Written v announced) o e = tt

begin_get-learnt : {V E : Type 0} (table : Table V) (local : Local V E) (doing : Doing V E)
    → IfSome (option_map (begin_call table local) (doing_with_get doing))
    (λ after. HasLearnt after.1.doing after.1.learnt)
begin_get-learnt table local (Gets count) = tt
begin_get-learnt table local _ = tt

begin_get_or-learnt : {V E : Type 0} (table : Table V) (local : Local V E) (create : Result V E) (doing : Doing V E)
    → IfSome (option_map (begin_call table local) (doing_with_get_or create doing)) (λ after. HasLearnt after.1.doing after.1.learnt)
begin_get_or-learnt table local create (Gets zero) = tt
begin_get_or-learnt table local create _ = tt

make_bucket-learnt : {V E : Type 0} (table : Table V) (local : Local V E) (refused : Bool)
    (doing : Doing V E) (learnt : Learnt V)
    → local.learnt ≡ learnt
    → IfSome (option_map (make_bucket table local refused) (closure_at_missing doing learnt))
    (λ after. HasLearnt after.1.doing after.1.learnt)
make_bucket-learnt table local true (Started create) Missing e = tt
make_bucket-learnt table local false (Started create) Missing e = e
make_bucket-learnt table local refused _ _ e = tt

fill_bucket-learnt : {V E : Type 0} (table : Table V) (local : Local V E) (doing : Doing V E)
    → HasLearnt doing local.learnt
    → IfSome (option_map (fill_bucket table local) (empty_bucket doing)) (λ after. HasLearnt after.1.doing after.1.learnt)
fill_bucket-learnt table local (Private create number) h = h
fill_bucket-learnt table local _ h = tt

announce_bucket-learnt : {V E : Type 0} (table : Table V) (local : Local V E) (doing : Doing V E)
    → HasLearnt doing local.learnt
    → IfSome (option_map (announce_bucket table local) (doing_announced doing)) (λ after. HasLearnt after.1.doing after.1.learnt)
announce_bucket-learnt table local (Filled create number false) h = h
announce_bucket-learnt table local (Written v false) h = h
announce_bucket-learnt table local _ h = tt

install_bucket-learnt : {V E : Type 0} (table : Table V) (local : Local V E) (doing : Doing V E)
    → IfSome (option_and_then (install_bucket table local) (filled_bucket doing)) (λ after. HasLearnt after.1.doing after.1.learnt)
install_bucket-learnt table local (Filled create number true) =
    either_install table local (λ after. HasLearnt after.1.doing after.1.learnt) (record { create = create; number = number })
    (λ _. tt) (λ _ v _. tt) (λ _ e _. tt)
install_bucket-learnt table local _ = tt

write_value-learnt : {V E : Type 0} (table : Table V) (local : Local V E) (doing : Doing V E) (learnt : Learnt V)
    → IfSome (option_map (write_value table local) (closure_at_vacant doing learnt)) (λ after. HasLearnt after.1.doing after.1.learnt)
write_value-learnt table local (Started (Ok v)) Vacant = refl
write_value-learnt table local (Started (Err e)) Vacant = tt
write_value-learnt table local _ _ = tt

publish-learnt : {V E : Type 0} (table : Table V) (local : Local V E) (v : V) (o : Option (Learnt V))
    → IfSome
    (learns table (after_call local (GetOr (Ok v) false) (Answered v) local.learnt (Gets 0)) o)
    (λ after. HasLearnt after.1.doing after.1.learnt)
publish-learnt table local v None = tt
publish-learnt table local v (Some learnt) = tt

set_flag-learnt : {V E : Type 0} (table : Table V) (local : Local V E) (doing : Doing V E)
    → IfSome (option_and_then (set_flag table local) (value_written doing)) (λ after. HasLearnt after.1.doing after.1.learnt)
set_flag-learnt table local (Written v true) = publish-learnt (with_flag table local.id) local v (learnt_by_publish local.learnt v)
set_flag-learnt table local _ = tt

reply-learnt : {V E : Type 0} (table : Table V) (local : Local V E) (doing : Doing V E) (learnt : Learnt V)
    → IfSome (option_map (reply table local) (ending_of doing learnt)) (λ after. HasLearnt after.1.doing after.1.learnt)
reply-learnt table local (Gets (suc count)) Missing = tt
reply-learnt table local (Gets (suc count)) Vacant = tt
reply-learnt table local (Gets (suc count)) (Holding v) = tt
reply-learnt table local (Started create) (Holding v) = tt
reply-learnt table local _ _ = tt

pub learnt : {V E : Type 0} (table : Table V) (local : Local V E) (step : LocalStep V E) → HasLearnt local.doing local.learnt
    → IfSome (local_step table local step) (λ after. HasLearnt after.1.doing after.1.learnt)
unfolding local_step
learnt table local BeginGet h = begin_get-learnt table local local.doing
learnt table local (BeginGetOr create) h = begin_get_or-learnt table local create local.doing
learnt table local LoadPointer h =
    load-learnt table local local.doing
    (learnt_by_load local.learnt (bucket_stands table (bucket_of local.id))) refl
learnt table local LookAtFlag h = load-learnt table local local.doing (learnt_by_look local.learnt (published table local.id)) refl
learnt table local (MakeBucket refused) h = make_bucket-learnt table local refused local.doing local.learnt refl
learnt table local FillBucket h = fill_bucket-learnt table local local.doing h
learnt table local AnnounceBucket h = announce_bucket-learnt table local local.doing h
learnt table local InstallBucket h = install_bucket-learnt table local local.doing
learnt table local WriteValue h = write_value-learnt table local local.doing local.learnt
learnt table local SetFlag h = set_flag-learnt table local local.doing
learnt table local Reply h = reply-learnt table local local.doing local.learnt

-- what a load and a look teach
loaded : {V E : Type 0} (table : Table V) (local : Local V E) (calling : Bool) (stands : Bool) (before : Learnt V)
    → IfSome (cond calling (learns table local (learnt_by_load before stands)) None)
    (λ after. after.1.learnt ≡ cond stands Standing Missing)
loaded table local true stands Unknown = refl
loaded table local true stands Missing = refl
loaded table local true stands Standing = tt
loaded table local true stands Vacant = tt
loaded table local true stands (Holding v) = tt
loaded table local false stands before = tt

pub loads : {V E : Type 0} (table : Table V) (local : Local V E)
    → IfSome (local_step table local LoadPointer)
    (λ after. after.1.learnt ≡ cond (bucket_stands table (bucket_of local.id)) Standing Missing)
unfolding local_step
loads table local = loaded table local (may_look local.doing) (bucket_stands table (bucket_of local.id)) local.learnt

looked : {V E : Type 0} (table : Table V) (local : Local V E) (calling : Bool) (shown : Option V) (before : Learnt V)
    → IfSome (cond calling (learns table local (learnt_by_look before shown)) None)
    (λ after. MatchOption shown (after.1.learnt ≡ Vacant) (λ v. after.1.learnt ≡ Holding v))
looked table local true None Standing = refl
looked table local true (Some v) Standing = refl
looked table local true shown Unknown = tt
looked table local true shown Missing = tt
looked table local true shown Vacant = tt
looked table local true shown (Holding v) = tt
looked table local false shown before = tt

pub looks : {V E : Type 0} (table : Table V) (local : Local V E)
    → IfSome (local_step table local LookAtFlag) (λ after.
    MatchOption (published table local.id) (after.1.learnt ≡ Vacant)
    (λ v. after.1.learnt ≡ Holding v))
unfolding local_step
looks table local = looked table local (may_look local.doing) (published table local.id) local.learnt

-- memory is asked for only where the bucket was missing
asked : {V E : Type 0} (table : Table V) (local : Local V E) (refused : Bool) (doing : Doing V E) (before : Learnt V)
    → IsTrue (is_some (option_map (make_bucket table local refused) (closure_at_missing doing before))) → before ≡ Missing
asked table local refused (Started create) Missing t = refl
asked table local refused (Started create) Unknown t = absurd (false≢true t)
asked table local refused (Started create) Standing t = absurd (false≢true t)
asked table local refused (Started create) Vacant t = absurd (false≢true t)
asked table local refused (Started create) (Holding v) t = absurd (false≢true t)
asked table local refused (Gets count) before t = absurd (false≢true t)
asked table local refused (Private create number) before t = absurd (false≢true t)
asked table local refused (Filled create number announced) before t = absurd (false≢true t)
asked table local refused (Written v announced) before t = absurd (false≢true t)

pub asks : {V E : Type 0} (table : Table V) (local : Local V E) (refused : Bool)
    → IsTrue (is_some (local_step table local (MakeBucket refused)))
    → local.learnt ≡ Missing
unfolding local_step
asks table local refused t = asked table local refused local.doing local.learnt t

-- a request for memory may be made with either answer, and goes on by both
asked_either : {V E : Type 0} (table : Table V) (local : Local V E) (refused other : Bool) (doing : Doing V E) (before : Learnt V)
    → IsTrue (is_some (option_map (make_bucket table local refused) (closure_at_missing doing before)))
    → IsSomeAnd (option_map (make_bucket table local other) (closure_at_missing doing before))
    (λ after. steps_left_on after < steps_left (table.announced (bucket_of local.id)) doing before)
asked_either table local refused true (Started create) Missing t = omega arith
asked_either table local refused false (Started create) Missing t = omega arith
asked_either table local refused other (Started create) Unknown t = absurd (false≢true t)
asked_either table local refused other (Started create) Standing t = absurd (false≢true t)
asked_either table local refused other (Started create) Vacant t = absurd (false≢true t)
asked_either table local refused other (Started create) (Holding v) t = absurd (false≢true t)
asked_either table local refused other (Gets count) before t = absurd (false≢true t)
asked_either table local refused other (Private create number) before t = absurd (false≢true t)
asked_either table local refused other (Filled create number announced) before t = absurd (false≢true t)
asked_either table local refused other (Written v announced) before t = absurd (false≢true t)

pub asks_either : {V E : Type 0} (table : Table V) (local : Local V E) (refused other : Bool)
    → IsTrue (is_some (local_step table local (MakeBucket refused)))
    → IsSomeAnd (local_step table local (MakeBucket other)) (GoesDown (table, local))
unfolding local_step
asks_either table local refused other t = asked_either table local refused other local.doing local.learnt t

-- a closure's error is handed on where the slot is vacant
failed : {V E : Type 0} (table : Table V) (local : Local V E) (e : E) (doing : Doing V E)
    (before : Learnt V)
    → HasLearnt doing before → closure_of doing ≡ Some (Err e) → before ≡ Vacant
    → IsSomeAnd (option_map (write_value table local) (closure_at_vacant doing before)) (λ after. EndsWith (Failed e) local after.1)
failed table local e (Started (Err x)) before h c v =
    let same : x ≡ e = cc in
    rw (v, same) (record { none = record { gets = refl; closure = refl }; answered = refl })
failed table local e (Started (Ok x)) before h c v = cc
failed table local e (Gets count) before h c v = cc
failed table local e (Private create number) before h c v = cc
failed table local e (Filled create number announced) before h c v = cc
failed table local e (Written x announced) before h c v = cc

pub fails : {V E : Type 0} (table : Table V) (local : Local V E) (e : E)
    → HasLearnt local.doing local.learnt → closure_of local.doing ≡ Some (Err e)
    → local.learnt ≡ Vacant
    → IsSomeAnd (local_step table local WriteValue) (λ after. EndsWith (Failed e) local after.1)
unfolding local_step
fails table local e h c v = failed table local e local.doing local.learnt h c v
