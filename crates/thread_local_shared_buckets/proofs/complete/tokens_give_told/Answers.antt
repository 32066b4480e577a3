use Rattle.std.proofs.Common.{suc, sym, ap, ◌∙◌}
use Rattle.thread_local_shared_buckets.proofs.CompleteWalks as laws
use Rattle.thread_local_shared_buckets.proofs.complete.tokens_give_told.Goals as goal

pub returns-clause-begins : goal.returns-clause-begins
returns-clause-begins g c = laws.begins

pub returns-clause-goes : goal.returns-clause-goes
returns-clause-goes g c = λ sharing told walk left item id given more step kept same is.
    laws.goes sharing told walk left id item.1 given more step.goes kept (step.told.id ∙ ap suc (sym same)) is

pub returns-clause-ends : goal.returns-clause-ends
returns-clause-ends g c = λ sharing told walk left given step kept. laws.ends sharing told walk left given step.goes kept
