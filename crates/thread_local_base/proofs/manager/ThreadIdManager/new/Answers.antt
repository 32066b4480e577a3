use Rattle.std.proofs.Common.{arith}
use Rattle.thread_local_base.proofs.Words.{of_zeros}
use Rattle.thread_local_base.proofs.manager.ThreadIdManager.new.Goals as goal

pub invariant_of-result : goal.invariant_of-result
invariant_of-result c = of_zeros _ 0 c.new.ensures.items (omega arith)
