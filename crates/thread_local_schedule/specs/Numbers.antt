-- The numbers of buckets, by which the theorems tell one bucket from another, and what a step does
-- to them.
use Rattle.std.specs.Prelude.{◌≡◌, ℕ, ◌<◌, ◌≤◌, ◌⊎◌, Option, Some, None}
use Rattle.thread_local_base.specs.Place.{bucket_of}
use Rattle.thread_local_schedule.specs.Table.{Table}
use Rattle.thread_local_schedule.specs.Local.{Doing, Private, Filled, Local}
use Rattle.thread_local_schedule.specs.Fits.{number_at}

-- the number of the bucket that a call has made and not yet offered, if any
abbrev pub own_number : {V E : Type 0} → Doing V E → Option ℕ
own_number (Private create number) = Some number
own_number (Filled create number announced) = Some number
own_number doing = None

-- What a step does to the numbers. A bucket that stands stood here before, or was the call's own,
-- and is its own no longer. The call's own bucket was so before, or is the next one made.
pub record NumbersGo {V E : Type 0} (table : Table V) (local : Local V E) (after : Table V × Local V E) : Type 0 where
  pub made : table.made ≤ after.0.made
  pub standing_before : (bucket number : ℕ) → number_at after.0 bucket ≡ Some number
      → (number_at table bucket ≡ Some number)
      ⊎ ((own_number local.doing ≡ Some number) × (bucket_of local.id ≡ bucket)
      × (own_number after.1.doing ≡ None))
  pub own_before : (number : ℕ) → own_number after.1.doing ≡ Some number
      → (own_number local.doing ≡ Some number) ⊎ ((number ≡ table.made) × (table.made < after.0.made))
