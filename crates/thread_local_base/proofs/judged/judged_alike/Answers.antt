-- Any two proofs of the fact are equal.
use Rattle.thread_local_base.proofs.Alike.{judged_alike}
use Rattle.thread_local_base.proofs.judged.judged_alike.Goals as goal

pub returns : goal.returns
returns g c = record { alike = judged_alike g.row.T }
