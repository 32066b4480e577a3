use Rattle.thread_local_base.specs.Held.{HoldsAllBelow}
use Rattle.thread_local_bench.proofs.ids.many.Given as goal

-- each id is taken again
abbrev pub invariant-loop : goal.invariant-loop
invariant-loop g l = HoldsAllBelow l.held l.manager.held
