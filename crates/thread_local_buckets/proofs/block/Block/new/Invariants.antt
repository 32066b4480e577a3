use Rattle.std.proofs.Common.{◌≡◌, ◌+◌}
use Rattle.thread_local_buckets.specs.Slots.{empty_slots, chunks}
use Rattle.thread_local_buckets.proofs.block.Block.new.Given as goal

abbrev pub invariant-chunks : goal.invariant-chunks
invariant-chunks g l = (l.block.heap ≡ l.alloc) × (l.block.slots ≡ empty_slots l.len) × (l.block.left + l.chunk ≡ chunks l.len)
