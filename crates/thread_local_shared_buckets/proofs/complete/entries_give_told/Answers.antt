use Rattle.thread_local_shared_buckets.proofs.CompleteWalks as laws
use Rattle.thread_local_shared_buckets.proofs.complete.entries_give_told.Goals as goal

pub returns-clause-begins : goal.returns-clause-begins
returns-clause-begins g c = laws.begins

pub returns-clause-goes : goal.returns-clause-goes
returns-clause-goes g c = λ sharing told walk left item given more step kept is.
    laws.goes sharing told walk left item.0 item.1 given more step.goes kept step.id is

pub returns-clause-ends : goal.returns-clause-ends
returns-clause-ends g c = λ sharing told walk left given step kept. laws.ends sharing told walk left given step.goes kept
