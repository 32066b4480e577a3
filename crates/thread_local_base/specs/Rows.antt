-- Reading and changing contents at a slot or a whole row.
use Rattle.std.specs.Prelude.{ℕ, ◌^◌, List, Option, None, replicate, slice_index_or, slice_set}
use Rattle.thread_local_base.specs.Buckets.{Contents, row}

-- the value in a slot, if one is published there
abbrev pub value_in : {V : Type 0} → Contents V → ℕ → ℕ → Option V
value_in contents bucket index = slice_index_or (row contents bucket) index None

-- the contents with another row for a bucket
abbrev pub with_row : {V : Type 0} → Contents V → ℕ → List (Option V) → Contents V
with_row contents bucket slots = record { rows = slice_set contents.rows bucket slots }

-- the contents with another value, or none, in a slot
abbrev pub with_slot : {V : Type 0} → Contents V → ℕ → ℕ → Option V → Contents V
with_slot contents bucket index held = with_row contents bucket (slice_set (row contents bucket) index held)

-- the slots of a new bucket: all empty
abbrev pub empty_row : {V : Type 0} → ℕ → List (Option V)
empty_row bucket = replicate (2 ^ bucket) None
