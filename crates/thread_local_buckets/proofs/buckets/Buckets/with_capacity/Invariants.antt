use Rattle.std.proofs.Common.{◌≡◌}
use Rattle.thread_local_base.specs.Capacity.{binary_digits}
use Rattle.thread_local_base.proofs.FillingLaws.{IsFilled}
use Rattle.thread_local_buckets.proofs.buckets.Buckets.with_capacity.Given as goal

-- the buckets so far stand, without values
abbrev pub invariant-loop-bucket : goal.invariant-loop-bucket
invariant-loop-bucket g l = record { filled : IsFilled l.pointers l.bucket; first : l.first ≡ binary_digits l.fn.capacity }
