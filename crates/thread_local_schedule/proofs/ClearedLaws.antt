-- What a clear and a drain leave of a table: empty slots and no value. A clear leaves the reserved
-- buckets, and a drain every one.
use Rattle.std.proofs.Common.{◌≡◌, ℕ, Bool, true, false, cond, Option, Some, None, is_some, IsTrue, refl, ap}
use Rattle.std.specs.Prelude.{option_map}
use Rattle.std.proofs.lemmas.Bool.{false≢true}
use Rattle.thread_local_base.specs.Place.{bucket_of, index_of}
use Rattle.thread_local_base.specs.Capacity.{reserves_bucket}
use Rattle.thread_local_schedule.specs.Table.{Bucket, Table, empty_slot, slot_of, slot_at, published, bucket_stands}
use Rattle.thread_local_schedule.specs.Fits.{number_at}
use Rattle.thread_local_schedule.proofs.TableLaws.{same_function, published_unset}
use Rattle.thread_local_schedule.specs.Cleared.{emptied_bucket, cleared, drained}

-- a pointer that a clear keeps or sets to null: its slots are empty, and if kept it leads to the
-- same bucket
slot_of-kept : {V : Type 0} (b : Bool) (pointer : Option (Bucket V)) (index : ℕ)
    → slot_of (cond b (emptied_bucket pointer) None) index ≡ empty_slot
slot_of-kept true None index = refl
slot_of-kept true (Some here) index = refl
slot_of-kept false pointer index = refl

some-kept : {V : Type 0} (b : Bool) (pointer : Option (Bucket V))
    → (IsTrue b → IsTrue (is_some pointer))
    → is_some (cond b (emptied_bucket pointer) None) ≡ b
some-kept true None stood = absurd (false≢true (stood refl))
some-kept true (Some here) stood = refl
some-kept false pointer stood = refl

number-kept : {V : Type 0} (b : Bool) (pointer : Option (Bucket V)) (k : ℕ)
    → option_map (λ here. here.number) (cond b (emptied_bucket pointer) None) ≡ Some k
    → option_map (λ here. here.number) pointer ≡ Some k
number-kept true None k e = cc
number-kept true (Some here) k e = e
number-kept false pointer k e = cc

number-stays : {V : Type 0} (b : Bool) (pointer : Option (Bucket V)) → IsTrue b
    → option_map (λ here. here.number) (cond b (emptied_bucket pointer) None)
    ≡ option_map (λ here. here.number) pointer
number-stays true None t = refl
number-stays true (Some here) t = refl
number-stays false pointer t = absurd (false≢true t)

-- every slot is empty
pub slot_at-cleared : {V : Type 0} (table : Table V) (capacity id : ℕ) → slot_at (cleared table capacity) id ≡ empty_slot
unfolding slot_at cleared
slot_at-cleared table capacity id = slot_of-kept (reserves_bucket capacity (bucket_of id)) (table.pointers (bucket_of id)) (index_of id)

-- nothing is published
pub none_cleared : {V : Type 0} (table : Table V) (capacity : ℕ) → published (cleared table capacity) ≡ (λ _. None)
none_cleared table capacity =
    same_function (published (cleared table capacity)) (λ _. None) (λ id.
    published_unset (cleared table capacity) id
    (ap (λ slot. slot.flag) (slot_at-cleared table capacity id)))

-- exactly the reserved buckets stand, if they stood before
pub bucket_stands-cleared : {V : Type 0} (table : Table V) (capacity bucket : ℕ)
    → (IsTrue (reserves_bucket capacity bucket) → IsTrue (bucket_stands table bucket))
    → bucket_stands (cleared table capacity) bucket ≡ reserves_bucket capacity bucket
unfolding bucket_stands cleared
bucket_stands-cleared table capacity bucket stood = some-kept (reserves_bucket capacity bucket) (table.pointers bucket) stood

-- the pointer of a reserved bucket leads to the same bucket, and no pointer leads to another than
-- before
pub number_at-cleared : {V : Type 0} (table : Table V) (capacity bucket : ℕ)
    → IsTrue (reserves_bucket capacity bucket)
    → number_at (cleared table capacity) bucket ≡ number_at table bucket
unfolding number_at cleared
number_at-cleared table capacity bucket reserved = number-stays (reserves_bucket capacity bucket) (table.pointers bucket) reserved

pub standing_before_clear : {V : Type 0} (table : Table V) (capacity bucket k : ℕ)
    → number_at (cleared table capacity) bucket ≡ Some k
    → number_at table bucket ≡ Some k
unfolding number_at cleared
standing_before_clear table capacity bucket k e = number-kept (reserves_bucket capacity bucket) (table.pointers bucket) k e

-- a clear makes no bucket
pub made-cleared : {V : Type 0} (table : Table V) (capacity : ℕ) → (cleared table capacity).made ≡ table.made
unfolding cleared
made-cleared table capacity = refl

-- and it leaves which buckets are announced
pub announced-cleared : {V : Type 0} (table : Table V) (capacity : ℕ) → (cleared table capacity).announced ≡ table.announced
unfolding cleared
announced-cleared table capacity = refl

-- the same of a drain, which keeps every bucket
pub slot_at-drained : {V : Type 0} (table : Table V) (id : ℕ) → slot_at (drained table) id ≡ empty_slot
unfolding slot_at drained
slot_at-drained table id = slot_of-kept true (table.pointers (bucket_of id)) (index_of id)

pub none_drained : {V : Type 0} (table : Table V) → published (drained table) ≡ (λ _. None)
none_drained table =
    same_function (published (drained table)) (λ _. None)
    (λ id. published_unset (drained table) id (ap (λ slot. slot.flag) (slot_at-drained table id)))

some-emptied : {V : Type 0} (pointer : Option (Bucket V)) → is_some (emptied_bucket pointer) ≡ is_some pointer
some-emptied None = refl
some-emptied (Some here) = refl

pub bucket_stands-drained : {V : Type 0} (table : Table V) (bucket : ℕ) → bucket_stands (drained table) bucket ≡ bucket_stands table bucket
unfolding bucket_stands drained
bucket_stands-drained table bucket = some-emptied (table.pointers bucket)

pub number_at-drained : {V : Type 0} (table : Table V) (bucket : ℕ) → number_at (drained table) bucket ≡ number_at table bucket
unfolding number_at drained
number_at-drained table bucket = number-stays true (table.pointers bucket) refl

pub made-drained : {V : Type 0} (table : Table V) → (drained table).made ≡ table.made
unfolding drained
made-drained table = refl

pub announced-drained : {V : Type 0} (table : Table V) → (drained table).announced ≡ table.announced
unfolding drained
announced-drained table = refl
