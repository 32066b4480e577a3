use Rattle.std.proofs.Common.{arith}
use Rattle.thread_local_base.proofs.Words.{of_zeros, zeros}
use Rattle.thread_local_base.proofs.manager.ThreadIdManager.with_room.Goals as goal

pub invariant_of-result : goal.invariant_of-result
invariant_of-result c =
    of_zeros _ c.div_ceil.result (zeros _ _ _ _ c.new-words.ensures.items c.new-words.ensures.len c.in_ok-resize.ensures.items)
    (omega (arith, c.min.ensures, c.div_ceil.ensures))
