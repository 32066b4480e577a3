use Rattle.std.proofs.Common.{◌≡◌, ◌+◌, length}
use Rattle.thread_local_buckets.proofs.bucket_pointer.BucketPointer.release.Given as goal

abbrev pub invariant-slots : goal.invariant-slots
invariant-slots g l = (l.emptying.heap ≡ l.alloc) × (l.emptying.gone ≡ l.index) × (length l.emptying.slots + l.index ≡ l.len)
