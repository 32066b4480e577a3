use Rattle.thread_local_base.proofs.InsertingLaws.{published_values}
use Rattle.thread_local_base.proofs.owner.publishing_changes_one_id.Goals as goal

pub returns-clause-values : goal.returns-clause-values
returns-clause-values g c = λ contents bucket index v id table low inside. published_values contents bucket table low index v id inside
