use Rattle.std.proofs.Common.{◌∙◌, ap}
use Rattle.thread_local_shared_buckets.specs.Known.{state_of}
use Rattle.thread_local_shared_buckets.specs.ClaimViews.{ClaimView}
use Rattle.thread_local_shared_buckets.proofs.Fills.{filled_already}
use Rattle.thread_local_shared_buckets.proofs.claim.Claim.fill.Goals as goal

pub returns-then-state-eq-HOLDING-clause-ok : goal.returns-then-state-eq-HOLDING-clause-ok
returns-then-state-eq-HOLDING-clause-ok g c =
    filled_already _ c.args.self.now c.state.result (c.state.ensures ∙ ap (λ (view : ClaimView _). state_of view.learnt) c.self.view_is)
    c.if-state-eq-HOLDING.true
