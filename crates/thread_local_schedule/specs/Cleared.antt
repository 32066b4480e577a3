-- The table after a clear, which leaves the reserved buckets, and after a drain, which leaves every
-- bucket: their slots are empty.
use Rattle.std.specs.Prelude.{ℕ, Option, Some, None, if◌then◌else◌}
use Rattle.thread_local_base.specs.Capacity.{reserves_bucket}
use Rattle.thread_local_schedule.specs.Table.{Bucket, fresh_bucket, Table}

-- the same bucket with empty slots
abbrev pub emptied_bucket : {V : Type 0} → Option (Bucket V) → Option (Bucket V)
emptied_bucket None = None
emptied_bucket (Some here) = Some (fresh_bucket here.number)

-- the table after a clear: the pointer of a bucket that the capacity reserves still leads to it,
-- with empty slots, and every other pointer is null. The count of made buckets stays, so later
-- buckets get new numbers.
unfoldable pub cleared : {V : Type 0} → Table V → ℕ → Table V
cleared table capacity = record table {
  pointers = λ bucket. if reserves_bucket capacity bucket then emptied_bucket (table.pointers bucket) else None;
}

-- the table after a drain: each bucket that stood still stands, with empty slots
unfoldable pub drained : {V : Type 0} → Table V → Table V
drained table = record table { pointers = λ bucket. emptied_bucket (table.pointers bucket) }
