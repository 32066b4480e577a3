use Rattle.thread_local_base.proofs.Words.{of_zeros}
use Rattle.thread_local_base.proofs.manager.IdBits.clear.Goals as goal

pub invariant_of-self : goal.invariant_of-self
invariant_of-self c =
    of_zeros _ _ (c.fill.ensures.items (λ y same. same)) (rw c.self.inside.words.ok.0 c.self.invariant.few)
