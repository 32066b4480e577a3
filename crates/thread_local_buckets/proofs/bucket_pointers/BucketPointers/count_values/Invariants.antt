use Rattle.std.proofs.Common.{◌≡◌}
use Rattle.thread_local_base.specs.Place.{id_at}
use Rattle.thread_local_base.specs.Buckets.{values}
use Rattle.thread_local_base.specs.Counting.{count_below}
use Rattle.thread_local_buckets.proofs.bucket_pointers.BucketPointers.count_values.Given as goal

-- the values in the buckets so far
abbrev pub invariant-loop-bucket : goal.invariant-loop-bucket
invariant-loop-bucket g l = record {
  counted : l.count ≡ count_below (values l.initial.self) (id_at l.bucket 0);
  same : l.self ≡ l.initial.self;
}
