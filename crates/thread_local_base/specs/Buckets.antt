-- A table's contents: 63 rows of slots, each empty (the bucket doesn't stand) or whole, and each
-- slot with a value or without.
use Rattle.std.specs.Prelude.{◌≡◌, ℕ, zero, suc, ◌+◌, ◌^◌, ◌⊎◌, Bool, if◌then◌else◌, nat_lt, List, [], length}
use Rattle.std.specs.Prelude.{replicate, Option, None, slice_index_or}
use Rattle.thread_local_base.specs.Place.{bucket_of, index_of}

-- the sum of 2 ^ b over the buckets b below n that stand
unfoldable pub slots_below : (ℕ → Bool) → ℕ → ℕ
slots_below stands zero = 0
slots_below stands (suc b) = slots_below stands b + (if stands b then 2 ^ b else 0)

-- how many slots the buckets that stand have together
unfoldable pub slots : (ℕ → Bool) → ℕ
slots stands = slots_below stands 63

-- How contracts see an owner's buckets: a row of slots for each of the 63 buckets, empty where the
-- bucket doesn't stand. A slot has a value where one is published.
pub record Contents (V : Type 0) : Type 0 where
  pub rows : List (List (Option V))

-- the slots of a bucket, none where it doesn't stand
abbrev pub row : {V : Type 0} → Contents V → ℕ → List (Option V)
row contents bucket = slice_index_or contents.rows bucket []

-- whether a bucket stands
abbrev pub stands : {V : Type 0} → Contents V → ℕ → Bool
stands contents bucket = nat_lt 0 (length (row contents bucket))

-- the value at an id, as a map
abbrev pub values : {V : Type 0} → Contents V → ℕ → Option V
values contents id = slice_index_or (row contents (bucket_of id)) (index_of id) None

-- no bucket stands
abbrev pub no_contents : {V : Type 0} → Contents V
no_contents = record { rows = replicate 63 [] }

-- there are 63 rows, and each is empty or has all the slots of its bucket
pub record IsTable {V : Type 0} (contents : Contents V) : Type 0 where
  pub buckets : length contents.rows ≡ 63
  pub whole : (bucket : ℕ) → (length (row contents bucket) ≡ 0) ⊎ (length (row contents bucket) ≡ 2 ^ bucket)
