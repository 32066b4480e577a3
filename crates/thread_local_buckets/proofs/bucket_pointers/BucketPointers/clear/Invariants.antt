use Rattle.std.proofs.Common.{◌+◌, ◌-◌, ◌<◌}
use Rattle.thread_local_buckets.specs.Pointers.{contents_of}
use Rattle.thread_local_buckets.proofs.Clearing.{AreClearing}
use Rattle.thread_local_buckets.proofs.bucket_pointers.BucketPointers.clear.Given as goal

-- the last buckets are cleared, and the others are unchanged
abbrev pub invariant-buckets : goal.invariant-buckets
invariant-buckets g l = record {
  low : l.last < 63;
  clearing : AreClearing l.fn.self (contents_of l.self-inside.pointers) l.self-inside.announced.bits
      l.self-inside.made.bits l.fn.reserved (l.last + 1 - l.done);
}
