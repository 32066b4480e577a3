-- The id is that of its right, and the right is of the table.
use Rattle.std.proofs.Common.{ℕ, ◌*◌, ◌%◌, ◌^◌, ap}
use Rattle.thread_local_ids.proofs.shared_ids.SharedIds.give.Goals as goal

pub give-requires-clause-bit : goal.give-requires-clause-bit
give-requires-clause-bit g c = ap (λ (n : ℕ). 64 * 2 ^ n % 2 ^ 64) c.args.held.least
