use Rattle.thread_local_base.specs.Held.{HoldsAllBelow}
use Rattle.thread_local_bench.proofs.ids.holding.Given as goal

-- as many ids as were taken are held
abbrev pub invariant-loop : goal.invariant-loop
invariant-loop l = HoldsAllBelow l.counter l.manager.held
