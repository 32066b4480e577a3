use Rattle.thread_local_base.proofs.HeldLaws as laws
use Rattle.thread_local_base.proofs.held.takes_are_granted.Goals as goal

pub returns-clause-memory : goal.returns-clause-memory
returns-clause-memory c = λ manager within range. (laws.needs-refused manager within, laws.refused-needs manager within range)

pub returns-clause-exhausted : goal.returns-clause-exhausted
returns-clause-exhausted c = λ manager within range. (laws.exhausted-refused manager, laws.refused-exhausted manager within range)
