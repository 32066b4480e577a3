use Rattle.std.proofs.Common.{arith}
use Rattle.thread_local_ids.proofs.further.Further.peak.Goals as goal

pub overflow_add-result : goal.overflow_add-result
overflow_add-result c = record { fits = omega (arith, c.self.invariant.few, c.peak.ensures) }
