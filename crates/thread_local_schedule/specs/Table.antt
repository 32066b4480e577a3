-- The model of a table: 63 pointers to buckets, and slots that hold a value and its flag.
use Rattle.std.specs.Prelude.{ℕ, Bool, true, false, nat_lt, Option, Some, None, is_some, ◌==◌, if◌then◌else◌}
use Rattle.thread_local_base.specs.Place.{bucket_of, index_of}
use Rattle.thread_local_base.specs.Capacity.{binary_digits, reserves_bucket}
use Rattle.thread_local_base.specs.Walk.{with_value}

-- a slot: what is written in it, if anything, and whether its flag is set
pub record Slot (V : Type 0) : Type 0 where
  pub written : Option V
  pub flag : Bool

-- a new slot
abbrev pub empty_slot : {V : Type 0} → Slot V
empty_slot = record { written = None; flag = false }

-- what a slot shows to others: what is written, where the flag is set
abbrev pub value_of : {V : Type 0} → Slot V → Option V
value_of slot = if slot.flag then slot.written else None

-- a bucket: its number, counted as buckets are made, and its slots by index
pub record Bucket (V : Type 0) : Type 0 where
  pub number : ℕ
  pub slot : ℕ → Slot V

-- a new bucket, with this number
abbrev pub fresh_bucket : {V : Type 0} → ℕ → Bucket V
fresh_bucket number = record { number = number; slot = λ _. empty_slot }

-- the buckets' pointers, each null or leading to a bucket, which buckets are announced, and how many
-- buckets were made so far
pub record Table (V : Type 0) : Type 0 where
  pub pointers : ℕ → Option (Bucket V)
  pub announced : ℕ → Bool
  pub made : ℕ

-- the slot at an index of the bucket that a pointer leads to; an empty one where the pointer is
-- null
abbrev pub slot_of : {V : Type 0} → Option (Bucket V) → ℕ → Slot V
slot_of None index = empty_slot
slot_of (Some bucket) index = bucket.slot index

-- the slot of an id
unfoldable pub slot_at : {V : Type 0} → Table V → ℕ → Slot V
slot_at table id = slot_of (table.pointers (bucket_of id)) (index_of id)

-- the value that is published at an id: what is written in its slot, where the bucket stands and
-- the flag is set
unfoldable pub published : {V : Type 0} → Table V → ℕ → Option V
published table id = value_of (slot_at table id)

-- whether a bucket stands
unfoldable pub bucket_stands : {V : Type 0} → Table V → ℕ → Bool
bucket_stands table bucket = is_some (table.pointers bucket)

-- the table of a capacity: exactly the buckets that it reserves, numbered from 0 up. The first seven
-- buckets are announced, reserved or not, and no other.
unfoldable pub made_table : {V : Type 0} → ℕ → Table V
made_table capacity = record {
  pointers = λ bucket. if reserves_bucket capacity bucket then Some (fresh_bucket bucket) else None;
  announced = λ bucket. nat_lt bucket 7;
  made = binary_digits capacity;
}

-- the table after a bucket was announced
unfoldable pub with_announced : {V : Type 0} → Table V → ℕ → Table V
with_announced table bucket = record table { announced = λ b. if bucket == b then true else table.announced b }

-- the table after a new bucket was installed
unfoldable pub with_fresh_bucket : {V : Type 0} → Table V → ℕ → ℕ → Table V
with_fresh_bucket table bucket number = record table { pointers = with_value table.pointers bucket (fresh_bucket number) }

-- the bucket that a pointer leads to, with this slot at an index
abbrev pub with_slot_of : {V : Type 0} → Option (Bucket V) → ℕ → Slot V → Option (Bucket V)
with_slot_of None index slot = None
with_slot_of (Some bucket) index slot = Some (record bucket { slot = λ i. if index == i then slot else bucket.slot i })

-- the table with this slot at an id
unfoldable pub with_table_slot : {V : Type 0} → Table V → ℕ → Slot V → Table V
with_table_slot table id slot = record table {
  pointers = λ bucket. if bucket_of id == bucket then with_slot_of (table.pointers bucket) (index_of id) slot else table.pointers bucket;
}

-- the table after a new bucket was installed that holds one published value, at an id
abbrev pub with_filled_bucket : {V : Type 0} → Table V → ℕ → ℕ → V → Table V
with_filled_bucket table id number v =
    with_table_slot (with_fresh_bucket table (bucket_of id) number) id (record { written = Some v; flag = true })

-- the table after a value was written at an id; the flag stays
abbrev pub with_written : {V : Type 0} → Table V → ℕ → V → Table V
with_written table id v = with_table_slot table id (record (slot_at table id) { written = Some v })

-- the table after the flag at an id was set
abbrev pub with_flag : {V : Type 0} → Table V → ℕ → Table V
with_flag table id = with_table_slot table id (record (slot_at table id) { flag = true })
