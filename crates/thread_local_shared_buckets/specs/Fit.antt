-- How many slots an owner's pointer has where it fits a shared bucket.
use Rattle.std.specs.Prelude.{◌≡◌, ◌^◌, ◌⊎◌, false, List, length, Option}
use Rattle.thread_local_shared_buckets.specs.Shared.{BucketView}

-- the pointer has no slots and its bucket isn't reserved, or it has all slots of its bucket
abbrev pub Fit : {V : Type 0} → BucketView → List (Option V) → Type 0
Fit d slots = ((length slots ≡ 0) × (d.reserved ≡ false)) ⊎ (length slots ≡ 2 ^ d.bucket)
