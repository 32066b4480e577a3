-- How many slots a table's capacity reserves: those of one bucket for each binary digit of the
-- capacity.
use Rattle.std.specs.Prelude.{ℕ, zero, suc, ◌+◌, ◌-◌, ◌^◌, Bool, nat_lt}
use Rattle.thread_local_base.specs.Place.{bucket_of}

-- how many binary digits a number has: 0 has none, and n + 1 has one more than the bucket number of
-- id n
unfoldable pub binary_digits : ℕ → ℕ
binary_digits zero = 0
binary_digits (suc n) = bucket_of n + 1

-- how many slots a table of this capacity reserves
unfoldable pub reserved_slots : ℕ → ℕ
reserved_slots capacity = 2 ^ binary_digits capacity - 1

-- whether a table of this capacity reserves a bucket: it reserves the first ones, one for each
-- binary digit
abbrev pub reserves_bucket : ℕ → ℕ → Bool
reserves_bucket capacity bucket = nat_lt bucket (binary_digits capacity)

-- whether an id's slot is reserved
abbrev pub is_reserved : ℕ → ℕ → Bool
is_reserved capacity id = nat_lt id (reserved_slots capacity)
