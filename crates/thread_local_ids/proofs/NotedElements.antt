-- What was noted for good at a key: how it is noted, had twice and compared. Assumes `Logic`.
use Rattle.std.proofs.Common.{◌≡◌, ℕ, List, [], ◌∷◌, refl, sym, ap, ◌∙◌}
use mathlib.Core.List.{IsPrefix}
use mathlib.Core.Option.{none, some}
use seplogic.Ra.Ura.{Ura}
use base.Fraction.{full_share}
use base.Logic.{SProp, guard, upd, upd_i}
use base.Fml.{GName}
use base.Stored.{Gv, gnil}
use base.Shift.{Keyless}
use types.Logic.{Logic}
use types.Kit.{‵, raw, ◌⊛◌, given, settle, suffices, ◌$◌, ◌∵◌, !, qed, learn, keep, split, use1, use2, done}
use Rattle.thread_local_base.specs.IdMoves.{IdMove, Take, Give, Publish}
use Rattle.thread_local_ids.specs.Rights.{right_owns, noted_at, element_at}
use Rattle.thread_local_ids.proofs.Logs.{O, shows, part_off, part_twice, grown}
use Rattle.thread_local_base.proofs.Signs.{signs}

abbrev first_value : List IdMove → Gv
first_value [] = gnil
first_value (Take ∷ moves) = gnil
first_value (Give id ∷ moves) = gnil
first_value (Publish id value ∷ moves) = value

not_before : (id : ℕ) (g : Gv) → IsPrefix (Publish id g ∷ []) [] → ⊥
not_before id g p = let e = p.1 in cc

same_value : (id : ℕ) (g h : Gv) (c : List IdMove) → IsPrefix (Publish id g ∷ []) c → IsPrefix (Publish id h ∷ []) c → g ≡ h
same_value id g h c p q = ap first_value p.1 ∙ sym (ap first_value q.1)

module _ {M : Type 1} {𝓤 : Ura M} (𝓛 : Logic 𝓤) (key : ℕ) (γ : GName) where
  open signs 𝓛 use {⟦◌⟧, ◌⊢◌, ◌∗◌}

  infix 26 ◌⊢◌
  infixr 35 ◌∗◌
  pub at_twice : (id : ℕ) (g : Gv) → ⟦ noted_at key γ id g ⟧ ⊢ ⟦ noted_at key γ id g ⟧ ∗ ⟦ noted_at key γ id g ⟧
  unfolding noted_at
  at_twice id g = part_twice 𝓛 key γ (Publish id g ∷ [])

  -- whoever has the right at the key notes a value there
  pub notes_at : (id : ℕ) (g : Gv) → ⟦ right_owns γ key ⟧ ⊢ upd 𝓤 ⟦ noted_at key γ id g ⟧
  unfolding right_owns noted_at
  notes_at id g =
      let E = λ (a : List IdMove). element_at key γ (some full_share, a) in
      let P = element_at key γ (none, Publish id g ∷ []) in
      let Z : SProp 𝓤 = ⟦ P ⟧ in
      qed 𝓛 (‵ (E []) ∷ []) ∵
      use1 𝓛 (raw (upd 𝓤 ⟦ E (Publish id g ∷ []) ⟧)) (grown 𝓛 key γ [] (Publish id g ∷ []) (Publish id g ∷ [], refl)) $
      settle 𝓛 Z (‵ (E (Publish id g ∷ []))) $
      use1 𝓛 (‵ P ⊛ ‵ (E (Publish id g ∷ [])))
      (part_off 𝓛 key γ (Publish id g ∷ []) (Publish id g ∷ []) (O.same (Publish id g ∷ []))) $
      split ! $ keep ! (0 ∷ []) $ suffices ! _ (upd_i 𝓤 Z) $ done !

  -- what may still be noted wasn't noted
  pub never_at : (id : ℕ) (g : Gv) (Z : SProp 𝓤) → ⟦ right_owns γ key ⟧ ∗ ⟦ noted_at key γ id g ⟧ ⊢ Z
  unfolding right_owns noted_at
  never_at id g Z =
      let A = element_at key γ (some full_share, []) in
      let P = element_at key γ (none, Publish id g ∷ []) in
      qed 𝓛 (‵ A ∷ ‵ P ∷ []) ∵
      use2 𝓛 (given ⊥ (‵ A ⊛ ‵ P))
      (shows 𝓛 key γ (some full_share, []) (none, Publish id g ∷ []) ⊥
      (λ d. not_before id g (O.trans (Publish id g ∷ []) d.0.1 [] d.1.1.0.1 (d.1.1.1.0 tt)))) $
      learn ! (λ never. absurd never)

  pub at_alike : (id : ℕ) (g h : Gv)
      → ⟦ noted_at key γ id g ⟧ ∗ ⟦ noted_at key γ id h ⟧
      ⊢ guard 𝓤 (g ≡ h) (⟦ noted_at key γ id g ⟧ ∗ ⟦ noted_at key γ id h ⟧)
  unfolding noted_at
  at_alike id g h =
      shows 𝓛 key γ (none, Publish id g ∷ []) (none, Publish id h ∷ []) (g ≡ h)
      (λ d. same_value id g h d.0.1 d.1.1.0.0 d.1.1.0.1)

pub at_keyless : (key γ id : ℕ) (g : Gv) → Keyless (noted_at key γ id g)
unfolding noted_at
at_keyless key γ id g = tt
