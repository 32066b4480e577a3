use Rattle.std.proofs.Common.{◌∙◌, sym}
use Rattle.thread_local_table_tests.proofs.owners.lent_as_told.Goals as goal

pub tells_all-requires-clause-sharing : goal.tells_all-requires-clause-sharing
tells_all-requires-clause-sharing g c = λ k d low. c.requires.sharing k d low ∙ sym c.buckets_mut_and_book-buckets.ensures.book.0
