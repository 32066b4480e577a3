-- the peak goes with the counter, and of the further ids nothing changes
use Rattle.std.proofs.Common.{◌≡◌, ◌≤◌, length}
use Rattle.thread_local_ids.specs.FirstIds.{IsSameBeyond}
use Rattle.thread_local_ids.specs.Filled.{IsFilled}
use Rattle.thread_local_ids.proofs.further.alloc.Given as goal

abbrev pub invariant-loop : goal.invariant-loop
invariant-loop l =
    (length l.manager.held ≡ l.counter)
    × IsFilled l.manager.held
    × IsSameBeyond l.fn.manager.held l.manager.held
    × (l.fn.manager.room ≤ l.manager.room)
