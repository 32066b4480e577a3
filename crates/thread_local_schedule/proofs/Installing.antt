-- Only an install makes a bucket stand, and it makes its own stand.
use Rattle.std.proofs.Common.{◌≡◌, ℕ, zero, suc, Bool, true, false, cond, eqb, Option, Some, None, Result, Ok, Err, IsTrue}
use Rattle.std.proofs.Common.{IfSome, refl, ap, sym, ◌∙◌, ⊎_elim}
use Rattle.std.specs.Prelude.{option_map, option_and_then}
use Rattle.std.proofs.lemmas.Bool.{cases_eq, ne_eqb, false≢true}
use Rattle.thread_local_base.specs.Place.{bucket_of}
use Rattle.thread_local_base.specs.Learnt.{Learnt, Missing, Vacant, Holding, learnt_by_load, learnt_by_look}
use Rattle.thread_local_base.specs.Learnt.{learnt_by_publish}
use Rattle.thread_local_base.specs.Answers.{Answered, GetOr}
use Rattle.thread_local_schedule.specs.Table.{Table, Slot, published, bucket_stands, with_announced, with_fresh_bucket, with_filled_bucket}
use Rattle.thread_local_schedule.specs.Table.{with_flag, with_table_slot}
use Rattle.thread_local_schedule.specs.Local.{Doing, Gets, Started, Private, Filled, Local, LocalStep, local_step, BeginGet}
use Rattle.thread_local_schedule.specs.Local.{BeginGetOr, LoadPointer, LookAtFlag, MakeBucket, FillBucket, AnnounceBucket, InstallBucket}
use Rattle.thread_local_schedule.specs.Local.{WriteValue, SetFlag, Reply, doing_with_get, doing_with_get_or, begin_call}
use Rattle.thread_local_schedule.specs.Local.{may_look, learns, closure_at_missing, make_bucket, empty_bucket, fill_bucket}
use Rattle.thread_local_schedule.specs.Local.{doing_announced, announce_bucket, filled_bucket, install_bucket, closure_at_vacant}
use Rattle.thread_local_schedule.specs.Local.{write_value, value_written, set_flag, after_call, ending_of, reply}
use Rattle.thread_local_schedule.proofs.TableLaws.{bucket_stands-with_filled_bucket, bucket_stands-with_table_slot, bucket_stands-made}
use Rattle.thread_local_schedule.proofs.TableLaws.{bucket_stands-with_announced, bucket_stands-with_fresh_bucket}
use Rattle.thread_local_schedule.proofs.CallsLaws.{whatever_is_learnt, either_install}

-- a bucket that doesn't stand before a step stands after it only where the step installs it
abbrev Installs : {V E : Type 0} → LocalStep V E → ℕ → ℕ → Table V → Type 0
Installs step id bucket after = IsTrue (bucket_stands after bucket) → (step ≡ InstallBucket) × (bucket_of id ≡ bucket)

-- a step that leaves every bucket standing or missing
leaves : {V E : Type 0} (step : LocalStep V E) (table after : Table V) (id bucket : ℕ)
    → bucket_stands table bucket ≡ false → bucket_stands after bucket ≡ bucket_stands table bucket
    → Installs step id bucket after
leaves step table after id bucket none same t = absurd (false≢true (sym none ∙ sym same ∙ t))

slot-leaves : {V E : Type 0} (step : LocalStep V E) (table : Table V) (id bucket : ℕ)
    (slot : Slot V)
    → bucket_stands table bucket ≡ false
    → Installs step id bucket (with_table_slot table id slot)
slot-leaves step table id bucket slot none =
    leaves step table (with_table_slot table id slot) id bucket none
    (bucket_stands-with_table_slot table id bucket slot)

begin_get-installs : {V E : Type 0} (table : Table V) (local : Local V E) (bucket : ℕ)
    (doing : Doing V E)
    → bucket_stands table bucket ≡ false
    → IfSome (option_map (begin_call table local) (doing_with_get doing)) (λ after. Installs {E = E} BeginGet local.id bucket after.0)
begin_get-installs table local bucket (Gets count) none = leaves BeginGet table table local.id bucket none refl
begin_get-installs table local bucket _ none = tt

begin_get_or-installs : {V E : Type 0} (table : Table V) (local : Local V E) (bucket : ℕ)
    (create : Result V E) (doing : Doing V E)
    → bucket_stands table bucket ≡ false
    → IfSome (option_map (begin_call table local) (doing_with_get_or create doing))
    (λ after. Installs (BeginGetOr create) local.id bucket after.0)
begin_get_or-installs table local bucket create (Gets zero) none = leaves (BeginGetOr create) table table local.id bucket none refl
begin_get_or-installs table local bucket create _ none = tt

learns-installs : {V E : Type 0} (step : LocalStep V E) (table : Table V) (local : Local V E)
    (bucket : ℕ) (calling : Bool) (o : Option (Learnt V))
    → bucket_stands table bucket ≡ false
    → IfSome (cond calling (learns table local o) None) (λ after. Installs step local.id bucket after.0)
learns-installs step table local bucket false o none = tt
learns-installs step table local bucket true o none =
    whatever_is_learnt table local o (λ after. Installs step local.id bucket after.0)
    (λ learnt. leaves step table table local.id bucket none refl)

make_bucket-installs : {V E : Type 0} (table : Table V) (local : Local V E) (bucket : ℕ)
    (refused : Bool) (o : Option (Result V E))
    → bucket_stands table bucket ≡ false
    → IfSome (option_map (make_bucket table local refused) o) (λ after. Installs {E = E} (MakeBucket refused) local.id bucket after.0)
make_bucket-installs table local bucket true (Some create) none = leaves (MakeBucket true) table table local.id bucket none refl
make_bucket-installs table local bucket false (Some create) none =
    leaves (MakeBucket false) table (record table { made = suc table.made }) local.id bucket none
    (bucket_stands-made table (suc table.made) bucket)
make_bucket-installs table local bucket refused None none = tt

fill_bucket-installs : {V E : Type 0} (table : Table V) (local : Local V E) (bucket : ℕ)
    (doing : Doing V E)
    → bucket_stands table bucket ≡ false
    → IfSome (option_map (fill_bucket table local) (empty_bucket doing)) (λ after. Installs {E = E} FillBucket local.id bucket after.0)
fill_bucket-installs table local bucket (Private create number) none = leaves FillBucket table table local.id bucket none refl
fill_bucket-installs table local bucket _ none = tt

announce_bucket-installs : {V E : Type 0} (table : Table V) (local : Local V E) (bucket : ℕ)
    (o : Option (Doing V E))
    → bucket_stands table bucket ≡ false
    → IfSome (option_map (announce_bucket table local) o) (λ after. Installs {E = E} AnnounceBucket local.id bucket after.0)
announce_bucket-installs table local bucket (Some doing) none =
    leaves AnnounceBucket table (with_announced table (bucket_of local.id)) local.id bucket none
    (bucket_stands-with_announced table (bucket_of local.id) bucket)
announce_bucket-installs table local bucket None none = tt

-- a table in which a bucket was installed installs that one alone
own-installs : {V E : Type 0} (table after : Table V) (id bucket : ℕ) → bucket_stands table bucket ≡ false
    → bucket_stands after bucket ≡ cond (eqb (bucket_of id) bucket) true (bucket_stands table bucket)
    → Installs {E = E} InstallBucket id bucket after
own-installs table after id bucket none stands t = let own = bucket_of id in (
  refl,
  ⊎_elim
      (λ same. same)
      (λ apart.
      absurd
      (false≢true (sym none
      ∙ sym (stands ∙ ap (λ b. cond b true (bucket_stands table bucket)) (ne_eqb own bucket apart))
      ∙ t)))
      (cases_eq own bucket),
)

install_bucket-installs : {V E : Type 0} (table : Table V) (local : Local V E) (bucket : ℕ)
    (doing : Doing V E)
    → bucket_stands table bucket ≡ false
    → IfSome (option_and_then (install_bucket table local) (filled_bucket doing))
    (λ after. Installs {E = E} InstallBucket local.id bucket after.0)
install_bucket-installs {V} {E} table local bucket (Filled create number true) none =
    let here = bucket_of local.id in
    either_install table local (λ after. Installs {E = E} InstallBucket local.id bucket after.0)
    (record { create = create; number = number })
    (λ _. leaves InstallBucket table table local.id bucket none refl)
    (λ _ v _.
    own-installs table (with_filled_bucket table local.id number v) local.id bucket none
    (bucket_stands-with_filled_bucket table local.id number v bucket))
    (λ _ e _.
    own-installs table (with_fresh_bucket table here number) local.id bucket none
    (bucket_stands-with_fresh_bucket table here number bucket))
install_bucket-installs table local bucket _ none = tt

write_value-installs : {V E : Type 0} (table : Table V) (local : Local V E) (bucket : ℕ)
    (o : Option (Result V E))
    → bucket_stands table bucket ≡ false
    → IfSome (option_map (write_value table local) o) (λ after. Installs {E = E} WriteValue local.id bucket after.0)
write_value-installs table local bucket (Some (Ok v)) none = slot-leaves WriteValue table local.id bucket _ none
write_value-installs table local bucket (Some (Err e)) none = leaves WriteValue table table local.id bucket none refl
write_value-installs table local bucket None none = tt

set_flag-installs : {V E : Type 0} (table : Table V) (local : Local V E) (bucket : ℕ) (o : Option V)
    → bucket_stands table bucket ≡ false
    → IfSome (option_and_then (set_flag table local) o) (λ after. Installs {E = E} SetFlag local.id bucket after.0)
set_flag-installs table local bucket (Some v) none =
    whatever_is_learnt (with_flag table local.id)
    (after_call local (GetOr (Ok v) false) (Answered v) local.learnt (Gets 0))
    (learnt_by_publish local.learnt v)
    (λ after. Installs {E = _} SetFlag local.id bucket after.0) (λ learnt. slot-leaves SetFlag table local.id bucket _ none)
set_flag-installs table local bucket None none = tt

reply-installs : {V E : Type 0} (table : Table V) (local : Local V E) (bucket : ℕ)
    (doing : Doing V E) (learnt : Learnt V)
    → bucket_stands table bucket ≡ false
    → IfSome (option_map (reply table local) (ending_of doing learnt)) (λ after. Installs {E = E} Reply local.id bucket after.0)
reply-installs table local bucket (Gets (suc count)) Missing none = leaves Reply table table local.id bucket none refl
reply-installs table local bucket (Gets (suc count)) Vacant none = leaves Reply table table local.id bucket none refl
reply-installs table local bucket (Gets (suc count)) (Holding v) none = leaves Reply table table local.id bucket none refl
reply-installs table local bucket (Started create) (Holding v) none = leaves Reply table table local.id bucket none refl
reply-installs table local bucket _ _ none = tt

pub installs : {V E : Type 0} (table : Table V) (local : Local V E) (step : LocalStep V E)
    (bucket : ℕ)
    → bucket_stands table bucket ≡ false
    → IfSome (local_step table local step) (λ after.
    IsTrue (bucket_stands after.0 bucket)
    → (step ≡ InstallBucket) × (bucket_of local.id ≡ bucket))
unfolding local_step
installs table local BeginGet bucket none = begin_get-installs table local bucket local.doing none
installs table local (BeginGetOr create) bucket none = begin_get_or-installs table local bucket create local.doing none
installs table local LoadPointer bucket none =
    learns-installs LoadPointer table local bucket (may_look local.doing)
    (learnt_by_load local.learnt (bucket_stands table (bucket_of local.id))) none
installs table local LookAtFlag bucket none =
    learns-installs LookAtFlag table local bucket (may_look local.doing)
    (learnt_by_look local.learnt (published table local.id)) none
installs table local (MakeBucket refused) bucket none =
    make_bucket-installs table local bucket refused
    (closure_at_missing local.doing local.learnt) none
installs table local FillBucket bucket none = fill_bucket-installs table local bucket local.doing none
installs table local AnnounceBucket bucket none = announce_bucket-installs table local bucket (doing_announced local.doing) none
installs table local InstallBucket bucket none = install_bucket-installs table local bucket local.doing none
installs table local WriteValue bucket none = write_value-installs table local bucket (closure_at_vacant local.doing local.learnt) none
installs table local SetFlag bucket none = set_flag-installs table local bucket (value_written local.doing) none
installs table local Reply bucket none = reply-installs table local bucket local.doing local.learnt none
