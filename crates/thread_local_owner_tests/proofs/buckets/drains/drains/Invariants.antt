-- `next` may be called at each turn.
use Rattle.thread_local_buckets.specs.Drain.{DrainCanStep}
use Rattle.thread_local_owner_tests.proofs.buckets.drains.drains.Given as goal

abbrev pub invariant-loop-left : goal.invariant-loop-left
invariant-loop-left l = DrainCanStep l.walk
