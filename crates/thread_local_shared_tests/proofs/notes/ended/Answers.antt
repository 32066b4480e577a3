-- the book is as it was before its page was shown
use Rattle.std.proofs.Common.{◌≡◌, ◌∙◌, ℕ, Option, false, ap, subst}
use denote.RattleType.{RattleType}
use denote.Param.{param}
use Rattle.thread_local_base.specs.Buckets.{Contents, values}
use Rattle.thread_local_base.specs.Held.{is_held}
use Rattle.thread_local_base.specs.IdMoves.{held_after, published_in}
use Rattle.thread_local_ids.specs.Sharings.{is_first, left_of}
use Rattle.thread_local_ids.specs.declared.tokens.book.Book.{Book}
use Rattle.thread_local_shared_tests.proofs.notes.ended.Goals as goal

-- src/notes.rt
pub returns-clause-left : goal.returns-clause-left
returns-clause-left g c = λ id within free.
    let R : RattleType = param 0 g.row.T in
    let found = c.take_back-buckets in
    let book = c.with_history-book in
    let first =
    ap (λ (s : Option ℕ). is_first s c.args.ids.table) found.ensures.sharing
    ∙ ap (λ (t : ℕ). is_first c.args.shared.sharing t) c.requires.table.0 ∙ c.requires.first in
    let contents = book.ensures.book.1 ∙ found.ensures.contents in
    let same = c.extends.ensures.same in
    let moves = ap (λ (b : Book _). b.moves) same in
    ap (λ m. published_in m id) moves
    ∙ book.ensures.left first id within (subst (λ m. is_held (held_after m) id ≡ false) moves free)
    ∙ ap (λ (w : Contents g.row.T.Denot). left_of R (values w id)) contents
