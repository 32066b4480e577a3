-- what was published stays
use Rattle.std.proofs.Common.{◌≡◌, ◌∙◌, ℕ, List, Option, None, Some, refl, sym, ap, subst}
use Rattle.std.specs.Prelude.{IsSome}
use mathlib.Core.List.{IsPrefix}
use base.Stored.{Gv}
use Rattle.thread_local_base.specs.IdMoves.{IdMove, published_in, or_else}
use Rattle.thread_local_base.proofs.IdMoveLaws.{published_apart}
use Rattle.thread_local_ids_tests.proofs.callers.give_and_take.Goals as goal

first_stays : (v w : Option Gv) → IsSome v → or_else v w ≡ v
first_stays None w some = cc
first_stays (Some g) w some = refl

stays : (before later : List IdMove) (id : ℕ) (v : Option Gv) → IsPrefix before later → published_in before id ≡ v → IsSome v
    → published_in later id ≡ v
stays before later id v early is some =
    ap (λ (l : List IdMove). published_in l id) (sym early.1) ∙ published_apart before early.0 id
    ∙ ap (λ (w : Option Gv). or_else w (published_in early.0 id)) is ∙ first_stays v (published_in early.0 id) some

pub returns-clause-value : goal.returns-clause-value
returns-clause-value g c = λ same some.
    let taken = c.in_ok-again.ensures.taken in
    let since = subst (λ (l : List IdMove). IsPrefix l c.in_ok-again.again.right.before) c.again.ensures.page.1 taken.since in
    taken.left ∙ ap (published_in c.in_ok-again.again.right.before) same
    ∙ stays c.give-page.result.moves c.in_ok-again.again.right.before c.args.given.id c.args.given.right.left since
    c.give-page.ensures.left some
