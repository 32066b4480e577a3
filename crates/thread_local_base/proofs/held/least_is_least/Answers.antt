use Rattle.thread_local_base.proofs.HeldLaws as laws
use Rattle.thread_local_base.proofs.held.least_is_least.Goals as goal

pub returns-clause-free : goal.returns-clause-free
returns-clause-free c = laws.least_free

pub returns-clause-lower : goal.returns-clause-lower
returns-clause-lower c = laws.least_lower

pub returns-clause-only : goal.returns-clause-only
returns-clause-only c = laws.least_only

pub returns-clause-bounded : goal.returns-clause-bounded
returns-clause-bounded c = laws.least_bounded
