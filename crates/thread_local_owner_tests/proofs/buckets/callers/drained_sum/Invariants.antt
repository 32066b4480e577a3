use Rattle.std.proofs.Common.{◌≡◌, ◌+◌, ◌*◌, ◌^◌, ◌≤◌}
use Rattle.std.specs.Prelude.{sum}
use Rattle.thread_local_base.specs.Buckets.{values}
use Rattle.thread_local_base.specs.Walk.{walk}
use Rattle.thread_local_buckets.specs.Drain.{drain_rest, drain_left, DrainCanStep}
use Rattle.thread_local_owner_tests.proofs.buckets.callers.drained_sum.Given as goal

-- what was added, and what is still to come
abbrev pub invariant-loop-value : goal.invariant-loop-value
invariant-loop-value l = record {
  can : DrainCanStep l.value-iterator;
  summed : l.total + sum (drain_rest l.value-iterator) ≡ sum (walk (values l.fn.buckets.contents));
  fits : l.total + drain_left l.value-iterator * 2 ^ 32 ≤ 2 ^ 95;
}
