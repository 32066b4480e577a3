-- No step confuses two buckets: only the next number is given out, and only a call's own bucket is
-- offered.
use Rattle.std.proofs.Common.{◌≡◌, ℕ, zero, suc, ◌⊎◌, Bool, cond, true, false, Option, Some, None, Result, Ok, Err}
use Rattle.std.proofs.Common.{IfSome, refl, ap, sym, ◌∙◌, arith, ⊎_elim, inl, inr}
use Rattle.std.specs.Prelude.{option_map, option_and_then}
use Rattle.std.proofs.lemmas.Bool.{cases_eq, eq-eqb}
use Rattle.thread_local_base.specs.Place.{bucket_of}
use Rattle.thread_local_base.specs.Answers.{GetOr, Answered}
use Rattle.thread_local_base.specs.Learnt.{Learnt, Missing, Vacant, Holding, learnt_by_load, learnt_by_look}
use Rattle.thread_local_base.specs.Learnt.{learnt_by_publish}
use Rattle.thread_local_schedule.specs.Table.{Table, Slot, published, bucket_stands, with_announced, with_fresh_bucket, with_filled_bucket}
use Rattle.thread_local_schedule.specs.Table.{with_table_slot, with_flag}
use Rattle.thread_local_schedule.specs.Local.{Doing, Gets, Started, Private, Filled, Written, Local, after_call, may_look}
use Rattle.thread_local_schedule.specs.Local.{learns, load_pointer, look_at_flag, make_bucket, fill_bucket, announce_bucket, install_bucket}
use Rattle.thread_local_schedule.specs.Local.{write_value, set_flag, reply, local_step, LocalStep, BeginGet, BeginGetOr}
use Rattle.thread_local_schedule.specs.Local.{LoadPointer, LookAtFlag, MakeBucket, FillBucket, AnnounceBucket, InstallBucket}
use Rattle.thread_local_schedule.specs.Local.{WriteValue, SetFlag}
use Rattle.thread_local_schedule.specs.Local.{Reply, doing_with_get, doing_with_get_or, begin_call, closure_at_missing}
use Rattle.thread_local_schedule.specs.Local.{closure_at_vacant, ending_of, empty_bucket, doing_announced, filled_bucket, value_written}
use Rattle.thread_local_schedule.specs.Fits.{number_at}
use Rattle.thread_local_schedule.specs.Numbers.{own_number, NumbersGo}
use Rattle.thread_local_schedule.proofs.CallsLaws.{whatever_is_learnt, either_install}
use Rattle.thread_local_schedule.proofs.TableLaws.{number_at-made, number_at-with_announced, number_at-with_fresh_bucket}
use Rattle.thread_local_schedule.proofs.TableLaws.{number_at-with_table_slot}

-- a step that makes no bucket, changes no pointer, and gives the call no bucket
same_numbers : {V E : Type 0} (table after : Table V) (local then : Local V E)
    → after.made ≡ table.made → ((bucket : ℕ) → number_at after bucket ≡ number_at table bucket)
    → ((number : ℕ) → own_number then.doing ≡ Some number → own_number local.doing ≡ Some number)
    → NumbersGo table local (after, then)
same_numbers table after local then made names own = record {
  made = omega arith;
  standing_before = λ bucket number e. inl (sym (names bucket) ∙ e);
  own_before = λ number e. inl (own number e);
}

-- the table stays, and the call has no bucket of its own afterwards
none_own : {V E : Type 0} (table : Table V) (local then : Local V E) → own_number then.doing ≡ None
    → NumbersGo table local (table, then)
none_own table local then none = same_numbers table table local then refl (λ bucket. refl) (λ number e. cc)

made-with_table_slot : {V : Type 0} (table : Table V) (id : ℕ) (slot : Slot V) → (with_table_slot table id slot).made ≡ table.made
unfolding with_table_slot
made-with_table_slot table id slot = refl

none_own-with_table_slot : {V E : Type 0} (table : Table V) (id : ℕ) (slot : Slot V)
    (local then : Local V E)
    → own_number then.doing ≡ None
    → NumbersGo table local (with_table_slot table id slot, then)
none_own-with_table_slot table id slot local then none =
    same_numbers table (with_table_slot table id slot) local then
    (made-with_table_slot table id slot) (λ bucket. number_at-with_table_slot table id bucket slot)
    (λ number e. cc)

made-with_announced : {V : Type 0} (table : Table V) (bucket : ℕ) → (with_announced table bucket).made ≡ table.made
unfolding with_announced
made-with_announced table bucket = refl

begin_get-numbers : {V E : Type 0} (table : Table V) (local : Local V E) (doing : Doing V E)
    → IfSome (option_map (begin_call table local) (doing_with_get doing)) (NumbersGo table local)
begin_get-numbers table local (Gets count) = none_own table local _ refl
begin_get-numbers table local _ = tt

begin_get_or-numbers : {V E : Type 0} (table : Table V) (local : Local V E) (create : Result V E)
    (doing : Doing V E)
    → IfSome (option_map (begin_call table local) (doing_with_get_or create doing))
    (NumbersGo table local)
begin_get_or-numbers table local create (Gets zero) = none_own table local _ refl
begin_get_or-numbers table local create _ = tt

learns-numbers : {V E : Type 0} (table : Table V) (local : Local V E) (o : Option (Learnt V))
    → IfSome (learns table local o) (NumbersGo table local)
learns-numbers table local o =
    whatever_is_learnt table local o (NumbersGo table local) (λ learnt.
    same_numbers table table local (record local { learnt = learnt }) refl (λ bucket. refl)
    (λ number e. e))

load_pointer-numbers : {V E : Type 0} (table : Table V) (local : Local V E) (b : Bool)
    → IfSome (cond b (load_pointer table local) None) (NumbersGo table local)
load_pointer-numbers table local false = tt
load_pointer-numbers table local true = learns-numbers table local (learnt_by_load local.learnt (bucket_stands table (bucket_of local.id)))

look_at_flag-numbers : {V E : Type 0} (table : Table V) (local : Local V E) (b : Bool)
    → IfSome (cond b (look_at_flag table local) None) (NumbersGo table local)
look_at_flag-numbers table local false = tt
look_at_flag-numbers table local true = learns-numbers table local (learnt_by_look local.learnt (published table local.id))

make_bucket-numbers : {V E : Type 0} (table : Table V) (local : Local V E) (refused : Bool) (doing : Doing V E) (learnt : Learnt V)
    → IfSome (option_map (make_bucket table local refused) (closure_at_missing doing learnt)) (NumbersGo table local)
make_bucket-numbers table local true (Started create) Missing = none_own table local _ refl
make_bucket-numbers table local false (Started create) Missing = record {
  made = omega arith;
  standing_before = λ bucket number e. inl (sym (number_at-made table (suc table.made) bucket) ∙ e);
  own_before = λ number e. inr ((let same : table.made ≡ number = cc in sym same), omega arith);
}
make_bucket-numbers table local refused _ _ = tt

fill_bucket-numbers : {V E : Type 0} (table : Table V) (local : Local V E) (doing : Doing V E)
    → local.doing ≡ doing
    → IfSome (option_map (fill_bucket table local) (empty_bucket doing)) (NumbersGo table local)
fill_bucket-numbers table local (Private create number) at =
    same_numbers table table local _ refl (λ bucket. refl) (λ k e. ap own_number at ∙ e)
fill_bucket-numbers table local _ at = tt

announce_bucket-numbers : {V E : Type 0} (table : Table V) (local : Local V E) (doing : Doing V E)
    → local.doing ≡ doing
    → IfSome (option_map (announce_bucket table local) (doing_announced doing)) (NumbersGo table local)
announce_bucket-numbers table local (Filled create number false) at =
    same_numbers table (with_announced table (bucket_of local.id)) local _
    (made-with_announced table (bucket_of local.id))
    (number_at-with_announced table (bucket_of local.id))
    (λ k e. ap own_number at ∙ e)
announce_bucket-numbers table local (Written v false) at =
    same_numbers table (with_announced table (bucket_of local.id)) local _
    (made-with_announced table (bucket_of local.id))
    (number_at-with_announced table (bucket_of local.id))
    (λ k e. cc)
announce_bucket-numbers table local _ at = tt

-- a pointer that isn't null after an install led to the same bucket before, or is the one that was
-- null, which leads to the installed bucket
pub number_at-with_bucket_same : {V : Type 0} (table : Table V) (bucket number : ℕ)
    → number_at (with_fresh_bucket table bucket number) bucket ≡ Some number
unfolding number_at with_fresh_bucket
number_at-with_bucket_same table bucket number = rw (eq-eqb bucket bucket refl) refl

made-with_fresh_bucket : {V : Type 0} (table : Table V) (bucket number : ℕ)
    → (with_fresh_bucket table bucket number).made ≡ table.made
unfolding with_fresh_bucket
made-with_fresh_bucket table bucket number = refl

numbered_by_install : {V : Type 0} (table : Table V) (bucket number other k : ℕ)
    → number_at (with_fresh_bucket table bucket number) other ≡ Some k
    → (number_at table other ≡ Some k) ⊎ ((Some number ≡ Some k) × (bucket ≡ other))
numbered_by_install table bucket number other k e =
    ⊎_elim
    (λ here.
    inr (
      sym (number_at-with_bucket_same table bucket number)
          ∙ ap (number_at (with_fresh_bucket table bucket number)) here
          ∙ e,
      here,
    ))
    (λ apart. inl (sym (number_at-with_fresh_bucket table bucket number other apart) ∙ e))
    (cases_eq bucket other)

-- the call's own bucket is installed, and is its own no longer
own_installed : {V E : Type 0} (table after : Table V) (local then : Local V E) (number : ℕ) → own_number local.doing ≡ Some number
    → after.made ≡ table.made
    → ((bucket : ℕ) → number_at after bucket ≡ number_at (with_fresh_bucket table (bucket_of local.id) number) bucket)
    → own_number then.doing ≡ None
    → NumbersGo table local (after, then)
own_installed table after local then number own made names none = record {
  made = omega (arith, made);
  standing_before = λ bucket k e.
      ⊎_elim
      (λ before. inl before)
      (λ here. inr (own ∙ here.0, here.1, none))
      (numbered_by_install table (bucket_of local.id) number bucket k (sym (names bucket) ∙ e));
  own_before = λ k e. cc;
}

install_bucket-numbers : {V E : Type 0} (table : Table V) (local : Local V E) (doing : Doing V E)
    → local.doing ≡ doing
    → IfSome (option_and_then (install_bucket table local) (filled_bucket doing)) (NumbersGo table local)
install_bucket-numbers table local (Filled create number true) at =
    let here = bucket_of local.id in
    let there = with_fresh_bucket table here number in
    either_install table local (NumbersGo table local) (record { create = create; number = number })
    (λ _. none_own table local _ refl)
    (λ _ v _.
    let slot : Slot _ = record { written = Some v; flag = true } in
    own_installed table (with_filled_bucket table local.id number v) local _ number (ap own_number at)
    (made-with_table_slot there local.id slot ∙ made-with_fresh_bucket table here number)
    (λ bucket. number_at-with_table_slot there local.id bucket slot) refl)
    (λ _ e _. own_installed table there local _ number (ap own_number at) (made-with_fresh_bucket table here number) (λ bucket. refl) refl)
install_bucket-numbers table local _ at = tt

write_value-numbers : {V E : Type 0} (table : Table V) (local : Local V E) (doing : Doing V E)
    (learnt : Learnt V)
    → IfSome (option_map (write_value table local) (closure_at_vacant doing learnt))
    (NumbersGo table local)
write_value-numbers table local (Started (Ok v)) Vacant = none_own-with_table_slot table local.id _ local _ refl
write_value-numbers table local (Started (Err e)) Vacant = none_own table local _ refl
write_value-numbers table local _ _ = tt

set_flag-numbers : {V E : Type 0} (table : Table V) (local : Local V E) (doing : Doing V E)
    → IfSome (option_and_then (set_flag table local) (value_written doing)) (NumbersGo table local)
set_flag-numbers table local (Written v true) =
    whatever_is_learnt (with_flag table local.id)
    (after_call local (GetOr (Ok v) false) (Answered v) local.learnt (Gets 0))
    (learnt_by_publish local.learnt v)
    (NumbersGo table local) (λ learnt. none_own-with_table_slot table local.id _ local _ refl)
set_flag-numbers table local _ = tt

reply-numbers : {V E : Type 0} (table : Table V) (local : Local V E) (doing : Doing V E)
    (learnt : Learnt V)
    → IfSome (option_map (reply table local) (ending_of doing learnt)) (NumbersGo table local)
reply-numbers table local (Gets (suc count)) Missing = none_own table local _ refl
reply-numbers table local (Gets (suc count)) Vacant = none_own table local _ refl
reply-numbers table local (Gets (suc count)) (Holding v) = none_own table local _ refl
reply-numbers table local (Started create) (Holding v) = none_own table local _ refl
reply-numbers table local _ _ = tt

-- every step changes the numbers as it says
pub local_step-numbers : {V E : Type 0} (table : Table V) (local : Local V E) (step : LocalStep V E)
    → IfSome (local_step table local step) (NumbersGo table local)
unfolding local_step
local_step-numbers table local BeginGet = begin_get-numbers table local local.doing
local_step-numbers table local (BeginGetOr create) = begin_get_or-numbers table local create local.doing
local_step-numbers table local LoadPointer = load_pointer-numbers table local (may_look local.doing)
local_step-numbers table local LookAtFlag = look_at_flag-numbers table local (may_look local.doing)
local_step-numbers table local (MakeBucket refused) = make_bucket-numbers table local refused local.doing local.learnt
local_step-numbers table local FillBucket = fill_bucket-numbers table local local.doing refl
local_step-numbers table local AnnounceBucket = announce_bucket-numbers table local local.doing refl
local_step-numbers table local InstallBucket = install_bucket-numbers table local local.doing refl
local_step-numbers table local WriteValue = write_value-numbers table local local.doing local.learnt
local_step-numbers table local SetFlag = set_flag-numbers table local local.doing
local_step-numbers table local Reply = reply-numbers table local local.doing local.learnt
