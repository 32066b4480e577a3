use Rattle.std.proofs.Common.{◌∙◌, ℕ, Option, ap}
use Rattle.thread_local_ids.specs.Sharings.{is_first}
use Rattle.thread_local.specs.Tables.{ThreadLocalView}
use Rattle.thread_local.proofs.table.ThreadLocal.into_iter_and_book.Goals as goal

-- the buckets' sharing and the ids' table are the table's
pub returns-clause-left : goal.returns-clause-left
returns-clause-left g c = λ first.
    let sharing = c.into_parts-pointers.ensures.book.0 ∙ ap (λ (v : ThreadLocalView). v.sharing) c.self.view_is in
    let table = c.self.invariant.0 ∙ ap (λ (v : ThreadLocalView). v.table) c.self.view_is in
    c.with_history-book.ensures.left
    (ap (λ (z : Option ℕ). is_first z c.self.inside.ids.table) sharing
    ∙ ap (λ (t : ℕ). is_first c.args.self.sharing t) table ∙ first)
