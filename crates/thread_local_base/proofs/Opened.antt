-- An atomic step on a word that is part of a shared borrow: a token of the borrow's lifetime opens
-- it for the step. `Pointers` does the same for a pointer. Assumes `Logic`.
use Rattle.std.proofs.Common.{ℕ, List, [], ◌∷◌}
use mathlib.Core.List.{Mem, not-mem-nil}
use seplogic.Ra.Ura.{Ura}
use base.Logic.{SProp, ex, guard, upd, apply∗, ex_i, upd_i}
use base.Fml.{Lft, Share, Fml, fsep, flft, fbor, finv, fnamed}
use types.Logic.{Logic}
use types.Kit.{‵, raw, ◌⊛◌, some, ◌$◌, ◌∵◌, !, qed, by, move, split, join, pick, show, check, frame, each, assume}
use types.Kit.{suffices, settle, done, use1, use2}
use denote.RawPtr.{block_ptr}
use Rattle.std.specs.Sync.RawAtomic.{Shift, rests, opens, shuts, enters, leaves, word, if_none, along, shifted, back, found, asks, always}
use Rattle.thread_local_base.proofs.Signs.{signs}

module _ {M : Type 1} {𝓤 : Ura M} (𝓛 : Logic 𝓤) (κ : Lft) (q : Share) (I : Fml) where
  open 𝓛 use {A}
  open signs 𝓛 use {⟦◌⟧, ◌⊢◌, ◌∗◌, ◌-∗◌}

  infix 26 ◌⊢◌
  infixr 35 ◌∗◌
  infixr 30 ◌-∗◌
  -- the open borrow
  abbrev O : SProp 𝓤
  O = A.obor κ q I

  -- opens the invariant for a step, whatever the step needs
  pub enters_for : (X : SProp 𝓤) (K : List (ℕ × Fml) → SProp 𝓤)
      → ((j : ℕ) → O ∗ ⟦ I ⟧ ∗ X ⊢ upd 𝓤 (K ((j, fbor κ I) ∷ [])))
      → A.inv (fbor κ I) ∗ (A.lft κ q ∗ X) ⊢ shifted 𝓛 K []
  enters_for X K h =
      let P : Fml = fbor κ I in
      qed 𝓛 (‵ (finv P) ∷ raw (A.lft κ q) ∷ raw X ∷ []) ∵
      use1 𝓛 (some (λ (j : ℕ). ‵ (fnamed j P))) (𝓛.invs.inv_named P) $ pick ! (λ j.
      let F : SProp 𝓤 = K ((j, P) ∷ []) in
      let Opened : SProp 𝓤 = (A.bor κ I ∗ A.lft κ q) ∗ ((O ∗ ⟦ I ⟧) -∗ upd 𝓤 F) in
      suffices ! _ (ex_i 𝓤 (λ (s : Shift). along 𝓛 s K []) (enters j P (opens κ q I rests))) $
      suffices ! _ (upd_i 𝓤 (guard 𝓤 (¬ Mem j []) (A.named j P ∗ (⟦ P ⟧ -∗ upd 𝓤 Opened)))) $
      check ! (λ m. not-mem-nil m) $ frame ! $ assume ! (‵ P) $
      suffices ! _ (upd_i 𝓤 Opened) $ join ! $ frame ! $ assume ! (raw O ⊛ ‵ I) $ split ! $ by ! (h j))

  -- closes it after the step, with what the step made of it
  pub leaves_with : (j : ℕ) (after : Fml)
      → upd 𝓤 (⟦ I ⟧ ∗ ⟦ after ⟧) ∗ O
      ⊢ shifted 𝓛 (if_none 𝓛 ⟦ fsep (flft κ q) after ⟧) ((j, fbor κ I) ∷ [])
  leaves_with j after =
      let P : Fml = fbor κ I in
      let L : List (ℕ × Fml) = (j, P) ∷ [] in
      let T : SProp 𝓤 = ⟦ fsep (flft κ q) after ⟧ in
      let Q : SProp 𝓤 = ⟦ P ⟧ ∗ upd 𝓤 T in
      let N : SProp 𝓤 = (A.bor κ I ∗ A.lft κ q) -∗ upd 𝓤 Q in
      qed 𝓛 (raw (upd 𝓤 (⟦ I ⟧ ∗ ⟦ after ⟧)) ∷ raw O ∷ []) ∵
      suffices ! _
      (ex_i 𝓤 (λ (s : Shift). along 𝓛 s (if_none 𝓛 T) L) (shuts κ q I (leaves rests))) $
      settle 𝓛 ((O ∗ ⟦ I ⟧) ∗ N) (‵ I ⊛ ‵ after) $ suffices ! _ (upd_i 𝓤 ((O ∗ ⟦ I ⟧) ∗ N)) $
      split ! $ move ! (2 ∷ 0 ∷ []) $ join ! $ frame ! $
      assume ! (‵ P ⊛ ‵ (flft κ q)) $ suffices ! _ (upd_i 𝓤 Q) $ split ! $ frame ! $ suffices ! _ (upd_i 𝓤 T) $ done !

  module _ (b o : ℕ) (f : ℕ → ℕ) (after : ℕ → Fml) where
    -- the way back: the new word completes the borrow's content
    abbrev pub Again : ℕ → SProp 𝓤
    Again n = ⟦ word b o (f n) ⟧ -∗ upd 𝓤 (⟦ I ⟧ ∗ ⟦ after n ⟧)

    abbrev pub Lies : ℕ → SProp 𝓤
    Lies n = ⟦ word b o n ⟧ ∗ Again n

    pub opened : (X : SProp 𝓤) → ⟦ I ⟧ ∗ X ⊢ upd 𝓤 (ex 𝓤 Lies)
        → A.inv (fbor κ I) ∗ (A.lft κ q ∗ X)
        ⊢ asks 𝓛 (block_ptr b o) f always (λ n. fsep (flft κ q) (after n))
    opened X h =
        let told : ℕ → Fml = λ n. fsep (flft κ q) (after n) in
        let K : List (ℕ × Fml) → SProp 𝓤 = λ l. ex 𝓤 (found 𝓛 l b o f always told) in
        enters_for X K (λ j.
        let L : List (ℕ × Fml) = (j, fbor κ I) ∷ [] in
        qed 𝓛 (raw O ∷ ‵ I ∷ raw X ∷ []) ∵ move ! (1 ∷ 2 ∷ []) $
        use2 𝓛 (raw (upd 𝓤 (ex 𝓤 Lies))) h $
        settle 𝓛 (K L) (some (λ (n : ℕ). ‵ (word b o n) ⊛ raw (Again n))) $
        suffices ! _ (upd_i 𝓤 (K L)) $ pick ! (λ n. split ! $
        show ! (found 𝓛 L b o f always told) n $ frame ! $
        each ! (λ (_ : always n). back 𝓛 L b o f told n) (λ y. assume ! (‵ (word b o (f n))) $
        use2 𝓛 (raw (upd 𝓤 (⟦ I ⟧ ∗ ⟦ after n ⟧)))
        (apply∗ 𝓤 ⟦ word b o (f n) ⟧ (upd 𝓤 (⟦ I ⟧ ∗ ⟦ after n ⟧))) $
        by ! (leaves_with j (after n)))))
