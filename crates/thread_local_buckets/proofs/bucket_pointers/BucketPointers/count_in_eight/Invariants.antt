use Rattle.std.proofs.Common.{◌≡◌, ◌+◌}
use Rattle.thread_local_buckets.specs.Counted.{counted_to}
use Rattle.thread_local_buckets.proofs.bucket_pointers.BucketPointers.count_in_eight.Given as goal

-- where the words so far are all 0, their chunks have no value
abbrev pub invariant-loop-at : goal.invariant-loop-at
invariant-loop-at g l = record {
  none : l.any ≡ 0 → counted_to l.initial.self l.fn.bucket l.fn.chunk ≡ counted_to l.initial.self l.fn.bucket (l.fn.chunk + l.at);
  same : l.self ≡ l.initial.self;
}
