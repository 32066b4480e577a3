use Rattle.std.proofs.Common.{◌≡◌, ℕ, ◌<◌, length, None}
use Rattle.thread_local_buckets.specs.Slots.{slot_value}
use Rattle.thread_local_buckets.proofs.bucket_pointer.BucketPointer.empty.Given as goal

-- the slots so far are empty, and there are as many as before
abbrev pub invariant-slots : goal.invariant-slots
invariant-slots g l = record {
  whole : length l.self.slots ≡ l.fn.len;
  empty : (k : ℕ) → k < l.index → slot_value l.self.slots k ≡ None;
}
