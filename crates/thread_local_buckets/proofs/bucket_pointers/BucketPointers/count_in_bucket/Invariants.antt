use Rattle.std.proofs.Common.{◌≡◌, ◌+◌, ◌*◌}
use Rattle.thread_local_buckets.specs.Counted.{counted_to}
use Rattle.thread_local_buckets.proofs.bucket_pointers.BucketPointers.count_in_bucket.Given as goal

-- the values of the chunks so far, eight in each step
abbrev pub invariant-loop-group : goal.invariant-loop-group
invariant-loop-group g l = record {
  counted : counted_to l.initial.self l.fn.bucket 0 + l.count ≡ counted_to l.initial.self l.fn.bucket (l.group * 8);
  same : l.self ≡ l.initial.self;
}
