use Rattle.thread_local_base.proofs.HeldLaws as laws
use Rattle.thread_local_base.proofs.held.taking_changes_the_least.Goals as goal

pub returns-clause-at : goal.returns-clause-at
returns-clause-at c = laws.is_held-with_least

pub returns-clause-peak : goal.returns-clause-peak
returns-clause-peak c = laws.length-with_least

pub returns-clause-count : goal.returns-clause-count
returns-clause-count c = laws.held_count-with_least
