use Rattle.std.proofs.Common.{◌∙◌, sym}
use Rattle.thread_local_history_tests.proofs.history.cleared_and_walked.Goals as goal

pub returns-clause-nothing : goal.returns-clause-nothing
returns-clause-nothing g c = λ id in_range free none.
    c.a_value_left_is_found.ensures.nothing _ (sym (c.into_iter_and_book.ensures.left c.clear.ensures.first id in_range free) ∙ none)
