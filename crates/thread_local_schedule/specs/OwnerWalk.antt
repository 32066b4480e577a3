-- What an owner's walk gives, and what a table holds after the owner has written through it.
use Rattle.std.specs.Prelude.{ℕ, zero, suc, ◌^◌, List, [], ◌++◌, Option, Some, None, option_map, if◌then◌else◌}
use Rattle.thread_local_base.specs.Place.{id_at}
use Rattle.thread_local_base.specs.Walk.{walk_below}
use Rattle.thread_local_schedule.specs.Table.{Slot, Bucket, Table, value_of}

-- what an owner finds in the bucket that a pointer leads to, by ascending index: the values of the
-- slots whose flag is set
abbrev pub values_in : {V : Type 0} → Option (Bucket V) → ℕ → List V
values_in None bucket = []
values_in (Some here) bucket = walk_below (λ index. value_of (here.slot index)) (2 ^ bucket)

-- what an owner finds in the buckets below n, one after another
unfoldable pub owner_walk_below : {V : Type 0} → Table V → ℕ → List V
owner_walk_below table zero = []
owner_walk_below table (suc bucket) = owner_walk_below table bucket ++ values_in (table.pointers bucket) bucket

-- what an owner's walk gives: the values of all 63 buckets
unfoldable pub owner_walk : {V : Type 0} → Table V → List V
owner_walk table = owner_walk_below table 63

-- a slot after the owner replaced the value that its flag shows
abbrev pub rewritten_slot : {V : Type 0} → (V → V) → Slot V → Slot V
rewritten_slot other slot = if slot.flag then record { written = option_map other slot.written; flag = slot.flag } else slot

-- the bucket that a pointer leads to, after the owner replaced its values
abbrev pub rewritten_bucket : {V : Type 0} → (ℕ → V → V) → Option (Bucket V) → Option (Bucket V)
rewritten_bucket others None = None
rewritten_bucket others (Some here) = Some (record here { slot = λ index. rewritten_slot (others index) (here.slot index) })

-- the table after the owner replaced the value at each id that has one
unfoldable pub rewritten : {V : Type 0} → Table V → (ℕ → V → V) → Table V
rewritten table others =
    record table {
      pointers =
          λ bucket. rewritten_bucket (λ index. others (id_at bucket index)) (table.pointers bucket);
    }
