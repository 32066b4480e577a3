-- An atomic step on a pointer that is part of a shared borrow. Assumes `Logic`.
use Rattle.std.proofs.Common.{ℕ, Bool, true, false, List, [], ◌∷◌, refl, subst, ◌≡◌}
use mathlib.Core.Bool.{cond}
use seplogic.Ra.Ura.{Ura}
use mir.Val.{vnull, ptr_same}
use base.Logic.{SProp, ex, emp, upd, apply∗, upd_i}
use base.Fml.{Lft, Share, Fml, ftrue, fsep, flft, fbor}
use types.Logic.{Logic}
use types.Kit.{‵, raw, ◌⊛◌, some, ◌$◌, ◌∵◌, !, qed, by, move, split3, pick, show, frame, assume, suffices, settle, done}
use types.Kit.{fpack, keep, use2}
use denote.RawPtr.{Ptr, block_ptr, ptr_val, Testable, tests_null}
use denote.Steps.{nothing}
use Rattle.std.specs.Sync.RawAtomic.Pointer.{cell, alike, found_ptr, asks_by_cases, compares}
use Rattle.thread_local_base.proofs.Opened.{enters_for, leaves_with}
use Rattle.thread_local_base.proofs.Signs.{signs}

module _ {M : Type 1} {𝓤 : Ura M} (𝓛 : Logic 𝓤) where
  open 𝓛 use {A}
  open signs 𝓛 use {⟦◌⟧, ◌⊢◌, ◌∗◌, ◌-∗◌}

  infix 26 ◌⊢◌
  infixr 35 ◌∗◌
  infixr 30 ◌-∗◌
  module _ (κ : Lft) (q : Share) (I : Fml) (b o : ℕ) (C : Type 0) (was new : C → Ptr) (tells after : C → Fml) where
    -- the way back: the new pointer completes the borrow's content
    abbrev pub Again : C → SProp 𝓤
    Again p = ⟦ cell b o (new p) ⟧ -∗ upd 𝓤 (⟦ I ⟧ ∗ ⟦ after p ⟧)

    abbrev pub Lies : C → SProp 𝓤
    Lies p = ⟦ cell b o (was p) ⟧ ∗ ⟦ tells p ⟧ ∗ Again p

    pub opened : (X : SProp 𝓤) → ⟦ I ⟧ ∗ X ⊢ upd 𝓤 (ex 𝓤 Lies)
        → A.inv (fbor κ I) ∗ (A.lft κ q ∗ X)
        ⊢ asks_by_cases 𝓛 C was new tells (λ p. fsep (flft κ q) (after p)) (block_ptr b o)
    opened X h =
        let told : C → Fml = λ p. fsep (flft κ q) (after p) in
        let K : List (ℕ × Fml) → SProp 𝓤 = λ l. ex 𝓤 (found_ptr 𝓛 C was new tells told l b o) in
        enters_for 𝓛 κ q I X K (λ j.
        let L : List (ℕ × Fml) = (j, fbor κ I) ∷ [] in
        qed 𝓛 (raw (A.obor κ q I) ∷ ‵ I ∷ raw X ∷ []) ∵ move ! (1 ∷ 2 ∷ []) $
        use2 𝓛 (raw (upd 𝓤 (ex 𝓤 Lies))) h $
        settle 𝓛 (K L) (some (λ (p : C). ‵ (cell b o (was p)) ⊛ ‵ (tells p) ⊛ raw (Again p))) $
        suffices ! _ (upd_i 𝓤 (K L)) $ pick ! (λ p. split3 ! $
        show ! (found_ptr 𝓛 C was new tells told L b o) p $ frame ! $ frame ! $ assume ! (‵ (cell b o (new p))) $
        use2 𝓛 (raw (upd 𝓤 (⟦ I ⟧ ∗ ⟦ after p ⟧)))
        (apply∗ 𝓤 ⟦ cell b o (new p) ⟧ (upd 𝓤 (⟦ I ⟧ ∗ ⟦ after p ⟧))) $
        by ! (leaves_with 𝓛 κ q I j (after p))))

  in_each : (y : Bool) (L P Q : Fml) → fsep L (cond y P Q) ≡ cond y (fsep L P) (fsep L Q)
  in_each true L P Q = refl
  in_each false L P Q = refl

  module _ (κ : Lft) (q : Share) (I : Fml) (b o : ℕ) (current new : Ptr) (after missed : Ptr → Fml) where
    abbrev pub Compared : Ptr × Bool → SProp 𝓤
    Compared =
        Lies κ q I b o (Ptr × Bool) (λ i. i.0) (λ i. cond i.1 new i.0) (λ i. alike i.0 current i.1)
        (λ i. cond i.1 (after i.0) (missed i.0))

    pub opened_to_compare : (X : SProp 𝓤) → ⟦ I ⟧ ∗ X ⊢ upd 𝓤 (ex 𝓤 Compared)
        → A.inv (fbor κ I) ∗ (A.lft κ q ∗ X)
        ⊢ compares 𝓛 (block_ptr b o) current new (λ p. fsep (flft κ q) (after p))
        (λ p. fsep (flft κ q) (missed p))
    opened_to_compare X h =
        subst (λ (F : Ptr × Bool → Fml).
        A.inv (fbor κ I) ∗ (A.lft κ q ∗ X)
        ⊢ asks_by_cases 𝓛 (Ptr × Bool) (λ i. i.0) (λ i. cond i.1 new i.0)
        (λ i. alike i.0 current i.1) F (block_ptr b o))
        (λ j i. in_each i.1 (flft κ q) (after i.0) (missed i.0) j)
        (opened κ q I b o (Ptr × Bool) (λ i. i.0) (λ i. cond i.1 new i.0)
        (λ i. alike i.0 current i.1) (λ i. cond i.1 (after i.0) (missed i.0)) X h)

  -- a pointer that may be compared with null
  pub alike_null : (p : Ptr) → Testable p → emp 𝓤 ⊢ ⟦ alike p denote.RawPtr.null_ptr (ptr_same (ptr_val p) vnull) ⟧
  alike_null p t =
      qed 𝓛 (raw (emp 𝓤) ∷ []) ∵ nothing ! $ fpack ! _ (λ _. ftrue) (tests_null p t, refl) $
      keep ! (0 ∷ []) $ done !
