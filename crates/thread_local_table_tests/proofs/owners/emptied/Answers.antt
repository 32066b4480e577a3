use Rattle.std.proofs.Common.{◌∙◌}
use Rattle.thread_local_base.proofs.TakingLaws.{walk-none}
use Rattle.thread_local_table_tests.proofs.owners.emptied.Goals as goal

pub returns : goal.returns
returns g c = c.iter_mut.ensures.rest ∙ walk-none _ (λ id low. c.clear.ensures.empty id)
