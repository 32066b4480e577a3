use Rattle.thread_local_base.proofs.HeldLaws as laws
use Rattle.thread_local_base.proofs.held.giving_changes_that_id.Goals as goal

pub returns-clause-count : goal.returns-clause-count
returns-clause-count c = laws.held_count-without
