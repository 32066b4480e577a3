-- An owner's buckets: their contents, and how many of the first slots are reserved.
use Rattle.std.specs.Prelude.{◌≡◌, ℕ, ◌-◌, ◌^◌, ◌<◌, ◌≤◌, IsTrue}
use Rattle.thread_local_base.specs.Place.{id_at}
use Rattle.thread_local_base.specs.Buckets.{Contents, stands, IsTable}

-- how contracts see an owner's buckets
pub record Owned (V : Type 0) : Type 0 where
  pub contents : Contents V
  pub reserved : ℕ

-- this many slots are exactly those of the first n buckets, for some n
pub record AreOfFirstBuckets (slots : ℕ) : Type 0 where
  pub buckets : ℕ
  pub in_table : buckets ≤ 63
  pub all : slots ≡ 2 ^ buckets - 1

-- the contents are a table's, the reserved slots are those of its first buckets, and these stand
pub record IsOwned {V : Type 0} (owned : Owned V) : Type 0 where
  pub table : IsTable owned.contents
  pub first : AreOfFirstBuckets owned.reserved
  pub standing : (bucket : ℕ) → bucket < 63 → id_at bucket 0 < owned.reserved → IsTrue (stands owned.contents bucket)
