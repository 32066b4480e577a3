use Rattle.thread_local_base.proofs.SlotsLaws as laws
use Rattle.thread_local_base.proofs.slots.slots_add_up.Goals as goal

pub returns-clause-none : goal.returns-clause-none
returns-clause-none c = laws.slots-none

pub returns-clause-further : goal.returns-clause-further
returns-clause-further c = laws.slots-more
