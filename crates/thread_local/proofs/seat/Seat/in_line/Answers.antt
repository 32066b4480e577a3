use Rattle.std.proofs.Common.{subst}
use Rattle.std.specs.Prelude.{List}
use mathlib.Core.List.{IsPrefix}
use mathlib.Core.Logic.{◌∨₁◌}
use Rattle.thread_local_base.specs.IdMoves.{IdMove, Take, noted}
use Rattle.thread_local.proofs.seat.Seat.in_line.Goals as goal

abbrev Line : List IdMove → List IdMove → Type 0
Line a b = IsPrefix a b ∨₁ IsPrefix b a

pub returns : goal.returns
returns g c =
    subst (λ (b : List IdMove). Line (noted c.args.self.now.before Take) b) c.page-2.ensures.1
    (subst (λ (a : List IdMove). Line a c.page-2.result.moves) c.page.ensures.1 c.in_line.ensures.line)
