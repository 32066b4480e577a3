-- The place of an id: its bucket, and its index in the bucket. Bucket b has 2 ^ b slots, and ids
-- fill the buckets in order.
use Rattle.std.specs.Prelude.{◌≡◌, ℕ, zero, suc, ◌+◌, ◌-◌, ◌^◌, ◌==◌, if◌then◌else◌}

-- where an id's slot is
pub record Place : Type 0 where
  pub bucket : ℕ
  pub index : ℕ

-- the place after this one: at the next index of its bucket, or first in the next bucket
unfoldable pub next_place : Place → Place
next_place p =
    if p.index + 1 == 2 ^ p.bucket
    then record { bucket = p.bucket + 1; index = 0 }
    else record { bucket = p.bucket; index = p.index + 1 }

-- id 0 is first in bucket 0, and each further id is at the place after the one before
unfoldable pub place : ℕ → Place
place zero = record { bucket = 0; index = 0 }
place (suc id) = next_place (place id)

-- the bucket of an id
unfoldable pub bucket_of : ℕ → ℕ
bucket_of id = (place id).bucket

-- the index of an id in its bucket
unfoldable pub index_of : ℕ → ℕ
index_of id = (place id).index

-- the id at a place
abbrev pub id_at : ℕ → ℕ → ℕ
id_at bucket index = index + (2 ^ bucket - 1)

-- this bucket and this index are the place of an id
abbrev pub IsPlaceOf : ℕ → ℕ → ℕ → Type 0
IsPlaceOf bucket index id = (bucket ≡ bucket_of id) × (index ≡ index_of id)
