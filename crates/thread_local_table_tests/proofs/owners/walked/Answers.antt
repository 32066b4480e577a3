use Rattle.std.proofs.Common.{◌∙◌, sym}
use Rattle.thread_local_table_tests.proofs.owners.walked.Goals as goal

pub tells_all-requires-clause-sharing : goal.tells_all-requires-clause-sharing
tells_all-requires-clause-sharing g c = λ k d low. c.requires.sharing k d low ∙ sym c.into_iter_and_book-walked.ensures.sharing
