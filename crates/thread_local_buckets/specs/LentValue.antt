-- A bucket's pointer with another value in a slot.
use Rattle.std.specs.Prelude.{ℕ, Some, slice_set}
use Rattle.thread_local_buckets.specs.declared.bucket_pointer.BucketPointer.{BucketPointer}

abbrev pub with_slot_value : {X : Type 0} → BucketPointer X → ℕ → X → BucketPointer X
with_slot_value pointer index x = record pointer { slots = slice_set pointer.slots index (Some x) }
