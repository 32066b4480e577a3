use Rattle.std.proofs.Common.{refl, sym}
use Rattle.thread_local_history_tests.proofs.history.walked_after.Goals as goal

pub returns-clause-found : goal.returns-clause-found
returns-clause-found g c = λ id value says in_range free.
    rw c.extends.ensures.same (c.a_value_left_is_found.ensures.found _ _ _ _ _ value says c.extends.ensures.early (sym (c.into_iter_and_book-values.ensures.left c.requires.first id in_range (rw (sym c.extends.ensures.same) free))) refl)
