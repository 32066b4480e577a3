-- The limits of a tally.
use Rattle.std.specs.Prelude.{ℕ, ◌≤◌, ◌&&◌, nat_le, Option, Some, None, if◌then◌else◌}

-- how many workers a tally may have, and up to which number it may add
abbrev pub most_workers : ℕ
most_workers = 64

abbrev pub most_numbers : ℕ
most_numbers = 1000000

-- a tally may have this many workers, at least one, and add this many numbers
pub record IsWithinLimits (workers numbers : ℕ) : Type 0 where
  pub has_worker : 1 ≤ workers
  pub few_workers : workers ≤ most_workers
  pub few_numbers : numbers ≤ most_numbers

-- the workers and the numbers of a tally, if they are within the limits
abbrev pub limited : ℕ → ℕ → Option (ℕ × ℕ)
limited workers numbers =
    if nat_le 1 workers && nat_le workers most_workers
    && nat_le numbers most_numbers then Some (workers, numbers) else None
