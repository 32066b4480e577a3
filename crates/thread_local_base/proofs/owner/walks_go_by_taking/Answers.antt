use Rattle.std.proofs.Common.{refl}
use Rattle.thread_local_base.specs.Buckets.{values}
use Rattle.thread_local_base.specs.Rows.{with_slot}
use Rattle.std.proofs.Common.{None}
use Rattle.thread_local_base.proofs.TakingLaws.{taking, walk-none}
use Rattle.thread_local_base.proofs.owner.walks_go_by_taking.Goals as goal

pub returns-clause-taken : goal.returns-clause-taken
returns-clause-taken g c = λ contents bucket index v low inside whole none here.
    (taking contents (with_slot contents bucket index None) bucket index v low inside whole none
    here refl).walked

pub returns-clause-met : goal.returns-clause-met
returns-clause-met g c = λ contents none. walk-none (values contents) none
