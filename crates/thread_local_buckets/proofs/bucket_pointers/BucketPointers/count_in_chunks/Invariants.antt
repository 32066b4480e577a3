use Rattle.std.proofs.Common.{◌≡◌, ◌+◌}
use Rattle.thread_local_buckets.specs.Counted.{counted_to}
use Rattle.thread_local_buckets.proofs.bucket_pointers.BucketPointers.count_in_chunks.Given as goal

-- the values of the chunks so far
abbrev pub invariant-loop-chunk : goal.invariant-loop-chunk
invariant-loop-chunk g l = record {
  counted : counted_to l.initial.self l.fn.bucket l.fn.from + l.count ≡ counted_to l.initial.self l.fn.bucket l.chunk;
  same : l.self ≡ l.initial.self;
}
