-- What a right has and shows, in each of its states. Assumes `Logic`.
use Rattle.std.proofs.Common.{Bool, true, false, Option, List, [], ◌∷◌}
use seplogic.Ra.Ura.{Ura}
use base.Fml.{GName}
use base.Shift.{Keyless}
use base.Stored.{Gv}
use types.Logic.{Logic}
use types.Kit.{‵, ◌⊛◌, ◌$◌, ◌∵◌, !, qed, move, split, fsplit, fjoin, use1, done}
use Rattle.thread_local_base.specs.IdMoves.{IdMove, Take, noted}
use Rattle.thread_local_base.proofs.Signs.{signs}
use Rattle.thread_local_ids.specs.Returns.{gives}
use Rattle.thread_local_ids.specs.Rights.{page_owns, tenure_of, taken_id, right_unless, right_in, seen_by}
use Rattle.thread_local_ids.proofs.MoveElements.{page_twice, tenure_shows, page_keyless, held_keyless}
use Rattle.thread_local_ids.proofs.NoteElements.{note_keyless}
use Rattle.thread_local_ids.proofs.RightElements.{right_keyless}

module _ {M : Type 1} {𝓤 : Ura M} (𝓛 : Logic 𝓤) where
  open signs 𝓛 use {⟦◌⟧, ◌⊢◌, ◌∗◌}

  infix 26 ◌⊢◌
  infixr 35 ◌∗◌
  pub right_shows : (γ : GName) (before : List IdMove) (held lent : Bool) (left : Option Gv)
      → ⟦ right_in γ before held lent left ⟧ ⊢ ⟦ right_in γ before held lent left ⟧ ∗ ⟦ page_owns γ (seen_by before held) ⟧
  right_shows γ before true lent left =
      qed 𝓛 (‵ (right_in γ before true lent left) ∷ []) ∵ fsplit ! $
      use1 𝓛 (‵ (tenure_of γ before) ⊛ ‵ (page_owns γ (noted before Take))) (tenure_shows 𝓛 γ before) $ split ! $
      move ! (0 ∷ 2 ∷ []) $ fjoin ! $ done !
  right_shows γ before false lent left = page_twice 𝓛 γ before

unless_keyless : (lent : Bool) (γ : GName) (before : List IdMove) (left : Option Gv) → Keyless (right_unless lent γ (taken_id before) left)
unless_keyless true γ before left = tt
unless_keyless false γ before left = (right_keyless γ (taken_id before), note_keyless γ (taken_id before) left)

pub right_in_keyless : (γ : GName) (before : List IdMove) (held lent : Bool) (left : Option Gv) → Keyless (right_in γ before held lent left)
right_in_keyless γ before true lent left = (
  (page_keyless γ (noted before Take), held_keyless γ (taken_id before) (gives before (taken_id before))),
  unless_keyless lent γ before left,
)
right_in_keyless γ before false lent left = page_keyless γ before
