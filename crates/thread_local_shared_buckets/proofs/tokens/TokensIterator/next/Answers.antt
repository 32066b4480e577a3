-- The search for these takes a second.
use Rattle.std.proofs.Common.{subst}
use denote.Param.{param}
use Rattle.thread_local_shared_buckets.specs.Walks.{WalkView, IsNextWithToken}
use Rattle.thread_local_shared_buckets.proofs.NextLaws.{progress}
use Rattle.thread_local_shared_buckets.proofs.tokens.TokensIterator.next.Goals as goal

pub returns-clause-steps : goal.returns-clause-steps
returns-clause-steps g c =
    subst (λ (w : WalkView _). IsNextWithToken w c.step.result c.step.new.self) c.self.view_is c.step.ensures

pub returns-clause-goes : goal.returns-clause-goes
returns-clause-goes g c =
    progress (param 0 g.row.T) c.self.inside.walk c.args.self.now c.step.new.self c.step.result c.self.view_is
    c.step.ensures.goes c.requires
