use Rattle.std.proofs.Common.{◌∙◌, sym}
use Rattle.thread_local_examples_contracts.proofs.sums.total.Goals as goal

pub tells_all-requires-clause-sharing : goal.tells_all-requires-clause-sharing
tells_all-requires-clause-sharing c = λ k d low. c.requires.sharing k d low ∙ sym c.into_iter_and_book-values.ensures.sharing
