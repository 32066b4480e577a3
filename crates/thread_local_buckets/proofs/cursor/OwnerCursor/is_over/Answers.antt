use Rattle.std.proofs.Common.{arith}
use Rattle.thread_local_buckets.proofs.NextValue.{some_ones}
use Rattle.thread_local_buckets.proofs.cursor.OwnerCursor.is_over.Goals as goal

pub returns-else-self-eq0-clause-goes_on : goal.returns-else-self-eq0-clause-goes_on
returns-else-self-eq0-clause-goes_on g c = omega (arith, some_ones g.args.self.now.rest (omega arith))
