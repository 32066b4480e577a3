use Rattle.std.proofs.Common.{◌≡◌, ◌≤◌, ℕ, false, sym, subst}
use Rattle.thread_local_base.specs.Held.{is_held}
use Rattle.thread_local_base.specs.IdMoves.{held_after}
use Rattle.thread_local_history_tests.proofs.Least.{least_at_most}
use Rattle.thread_local_history_tests.proofs.id_callers.after_a_return.Goals as goal

pub returns-clause-no_greater : goal.returns-clause-no_greater
returns-clause-no_greater g c = λ free.
    let taken = c.in_ok-local in
    subst (λ (id : ℕ). id ≤ c.args.returned.id) (sym taken.ensures.least)
    (least_at_most (held_after taken.local.before) c.args.returned.id free)

pub returns-clause-seen : goal.returns-clause-seen
returns-clause-seen g c = (c.give_back-page.result.moves, c.give_back-page.ensures.moves, c.in_ok-local.ensures.since)
