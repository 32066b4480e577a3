use Rattle.thread_local_bench.proofs.Held.{one_more}
use Rattle.thread_local_bench.proofs.ids.holding.Goals as goal

pub loop-preserved : goal.loop-preserved
loop-preserved c = one_more c.loop.manager c.alloc.new.self c.loop.counter c.in-Ok.field-0 c.loop.invariant c.in-Ok.ensures.ok
