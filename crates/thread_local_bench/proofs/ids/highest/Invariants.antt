use Rattle.std.proofs.Common.{◌<◌}
use Rattle.thread_local_base.specs.Held.{HoldsAllBelow}
use Rattle.thread_local_bench.proofs.ids.highest.Given as goal

-- the id is taken again
abbrev pub invariant-loop : goal.invariant-loop
invariant-loop g l = record { below : l.id < l.held; held : HoldsAllBelow l.held l.manager.held }
