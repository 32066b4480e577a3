-- What the model's table shows to an owner: the slots of each bucket, by its pointer.
use Rattle.std.specs.Prelude.{ℕ, ◌^◌, List, [], Option, Some, None, map}
use Rattle.std.specs.List.{range_with_len}
use Rattle.thread_local_base.specs.Buckets.{Contents}
use Rattle.thread_local_schedule.specs.Table.{Bucket, Table, value_of}

-- the row of a bucket, by its pointer: no slots where the pointer is null
abbrev pub shown_row : {V : Type 0} → Option (Bucket V) → ℕ → List (Option V)
shown_row None bucket = []
shown_row (Some here) bucket = map (λ index. value_of (here.slot index)) (range_with_len 0 (2 ^ bucket))

-- what the exclusive owner of a table sees of it: the contents of an owner's buckets
unfoldable pub shown : {V : Type 0} → Table V → Contents V
shown table = record { rows = map (λ bucket. shown_row (table.pointers bucket) bucket) (range_with_len 0 63) }
