-- How many values a table has before a chunk of a bucket.
use Rattle.std.specs.Prelude.{ℕ, ◌*◌, ◌^◌, min}
use Rattle.thread_local_base.specs.Place.{id_at}
use Rattle.thread_local_base.specs.Buckets.{Contents, values}
use Rattle.thread_local_base.specs.Counting.{count_below}

abbrev pub counted_to : {V : Type 0} → Contents V → ℕ → ℕ → ℕ
counted_to contents bucket chunk = count_below (values contents) (id_at bucket (min (chunk * 64) (2 ^ bucket)))
