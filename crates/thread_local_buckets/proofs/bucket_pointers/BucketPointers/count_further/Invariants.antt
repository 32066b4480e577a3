use Rattle.std.proofs.Common.{◌≡◌}
use Rattle.thread_local_buckets.proofs.Counting.{IsCounted}
use Rattle.thread_local_buckets.proofs.bucket_pointers.BucketPointers.count_further.Given as goal

-- the values of the buckets that are taken out of the word are counted
abbrev pub invariant-buckets : goal.invariant-buckets
invariant-buckets g l = record { counted : IsCounted l.fn.self l.left l.count; same : l.self ≡ l.fn.self }

abbrev pub decreases-buckets : goal.decreases-buckets
decreases-buckets g l = l.left
