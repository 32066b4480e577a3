-- Taking one pointer, or the value of one slot, out of all of them, and putting it back. Assumes
-- `Logic`.
use Rattle.thread_local_base.proofs.Names.{◌≡◌, ℕ, zero, suc, ◌+◌, ◌*◌, ◌<◌, List, [], ◌∷◌, length, set, get_or, refl}
use Rattle.thread_local_base.proofs.Names.{sym, arith, Option, None, Ura, SProp, all, all_e, apply∗}
use Rattle.thread_local_base.proofs.Names.{never_e, Fml, Logic, ‵, raw, ◌⊛◌, ◌$◌, ◌∵◌, !, qed, move, split}
use Rattle.thread_local_base.proofs.Names.{frame, each as for_each, assume, use1, use2, rewrite, done, RattleType}
use Rattle.thread_local_base.proofs.Names.{Ptr, null_ptr, block_of, count_of}
use Rattle.thread_local_buckets.specs.Slots.{each, slot_value}
use Rattle.thread_local_buckets.proofs.Each.{each_at, Put}
use Rattle.thread_local_buckets.specs.LoanOwns.{valued, framed, frames, values_at}
use Rattle.thread_local_base.proofs.Signs.{signs}

abbrev pub pointer : List Ptr → ℕ → Ptr
pointer ps k = get_or ps k null_ptr

abbrev pub in_row : {X : Type 0} → List (List (Option X)) → ℕ → List (Option X)
in_row rs k = get_or rs k []

module _ {M : Type 1} {𝓤 : Ura M} (𝓛 : Logic 𝓤) (R : RattleType) where
  open 𝓛 use {H, A}
  open signs 𝓛 use {⟦◌⟧, ◌⊢◌, ◌∗◌, ◌-∗◌}

  infix 26 ◌⊢◌
  infixr 35 ◌∗◌
  infixr 30 ◌-∗◌
  abbrev Slots : Type 0
  Slots = List (Option R.Denot)

  -- ---- a pointer
  abbrev pub Frame : ℕ → ℕ → List Ptr → List Slots → ℕ → ℕ → SProp 𝓤
  Frame b e ps rs k e' = ⟦ framed R b e' (pointer ps k) (in_row rs k) ⟧ -∗ ⟦ frames R b e ps rs ⟧

  pub frame_out : (b : ℕ) (ps : List Ptr) (rs : List Slots) (k e e' : ℕ) → e' ≡ k * 8 + e
      → k < length rs
      → ⟦ frames R b e ps rs ⟧
      ⊢ ⟦ framed R b e' (pointer ps k) (in_row rs k) ⟧ ∗ Frame b e ps rs k e'
  frame_out b ps [] k e e' is near = absurd (omega arith)
  frame_out b [] (r ∷ rs) k e e' is near = never_e 𝓤 _
  frame_out b (p ∷ ps) (r ∷ rs) zero e e' is near =
      let same : e ≡ e' = omega arith in
      qed 𝓛 (‵ (framed R b e p r) ∷ ‵ (frames R b (e + 8) ps rs) ∷ []) ∵
      rewrite ! 0 (λ (i : ℕ). ‵ (framed R b i p r)) same refl $ frame ! $
      assume ! (‵ (framed R b e' p r)) $ rewrite ! 0 (λ (i : ℕ). ‵ (framed R b i p r)) (sym same) refl $ done !
  frame_out b (p ∷ ps) (r ∷ rs) (suc k) e e' is near =
      qed 𝓛 (‵ (framed R b e p r) ∷ ‵ (frames R b (e + 8) ps rs) ∷ []) ∵ move ! (1 ∷ []) $
      use1 𝓛 (‵ (framed R b e' (pointer ps k) (in_row rs k)) ⊛ raw (Frame b (e + 8) ps rs k e'))
      (frame_out b ps rs k (e + 8) e' (omega arith) (omega arith)) $
      split ! $ frame ! $
      assume ! (‵ (framed R b e' (pointer ps k) (in_row rs k))) $ move ! (0 ∷ 1 ∷ []) $
      use2 𝓛 (‵ (frames R b (e + 8) ps rs))
      (apply∗ 𝓤 ⟦ framed R b e' (pointer ps k) (in_row rs k) ⟧ ⟦ frames R b (e + 8) ps rs ⟧) $
      move ! (1 ∷ 0 ∷ []) $ done !

  -- ---- the values of a block
  abbrev pub there : List Ptr → ℕ → Option R.Denot → ℕ → Fml
  there ps k = valued R (block_of (pointer ps k)) (count_of (pointer ps k))

  abbrev pub Block : List Ptr → List Slots → ℕ → Slots → SProp 𝓤
  Block ps rs k r = ⟦ each (there ps k) r 0 ⟧ -∗ ⟦ values_at R ps (set rs k r) ⟧

  block_out : (ps : List Ptr) (rs : List Slots) (k : ℕ) → k < length rs
      → ⟦ values_at R ps rs ⟧ ⊢ ⟦ each (there ps k) (in_row rs k) 0 ⟧ ∗ all 𝓤 (Block ps rs k)
  block_out ps [] k near = absurd (omega arith)
  block_out [] (r ∷ rs) k near = never_e 𝓤 _
  block_out (p ∷ ps) (r ∷ rs) zero near =
      qed 𝓛 (‵ (each (valued R (block_of p) (count_of p)) r 0) ∷ ‵ (values_at R ps rs) ∷ []) ∵
      frame ! $
      for_each ! (Block (p ∷ ps) (r ∷ rs) 0) (λ q. assume ! (‵ (each (valued R (block_of p) (count_of p)) q 0)) $ done !)
  block_out (p ∷ ps) (r ∷ rs) (suc k) near =
      qed 𝓛 (‵ (each (valued R (block_of p) (count_of p)) r 0) ∷ ‵ (values_at R ps rs) ∷ []) ∵
      move ! (1 ∷ []) $
      use1 𝓛 (‵ (each (there ps k) (in_row rs k) 0) ⊛ raw (all 𝓤 (Block ps rs k)))
      (block_out ps rs k (omega arith)) $
      split ! $ frame ! $
      for_each ! (Block (p ∷ ps) (r ∷ rs) (suc k)) (λ q.
      use1 𝓛 (raw (Block ps rs k q)) (all_e 𝓤 (Block ps rs k) q) $
      assume ! (‵ (each (there ps k) q 0)) $
      use2 𝓛 (‵ (values_at R ps (set rs k q)))
      (apply∗ 𝓤 ⟦ each (there ps k) q 0 ⟧ ⟦ values_at R ps (set rs k q) ⟧) $
      move ! (1 ∷ 0 ∷ []) $ done !)

  -- ---- the value of a slot
  module _ (ps : List Ptr) (rs : List Slots) (k i : ℕ) (near : k < length rs) (inside : i < length (in_row rs k)) where
    abbrev F : Option R.Denot → ℕ → Fml
    F = there ps k

    abbrev pub Value : Option R.Denot → SProp 𝓤
    Value c = ⟦ F c i ⟧ -∗ ⟦ values_at R ps (set rs k (set (in_row rs k) i c)) ⟧

    pub value_out : ⟦ values_at R ps rs ⟧ ⊢ ⟦ F (slot_value (in_row rs k) i) i ⟧ ∗ all 𝓤 Value
    value_out = let r : Slots = in_row rs k in let first : i ≡ i + 0 = omega arith in qed 𝓛 (‵ (values_at R ps rs) ∷ []) ∵
        use1 𝓛 (‵ (each F r 0) ⊛ raw (all 𝓤 (Block ps rs k))) (block_out ps rs k near) $ split ! $
        use1 𝓛 (‵ (F (slot_value r i) i) ⊛ raw (all 𝓤 (Put 𝓛 F r 0 i i)))
        (each_at 𝓛 F r 0 i i None first inside) $
        split ! $ frame ! $
        for_each ! Value (λ c.
        let r' : Slots = set r i c in
        use1 𝓛 (raw (Put 𝓛 F r 0 i i c)) (all_e 𝓤 (Put 𝓛 F r 0 i i) c) $ assume ! (‵ (F c i)) $
        use2 𝓛 (‵ (each F r' 0)) (apply∗ 𝓤 ⟦ F c i ⟧ ⟦ each F r' 0 ⟧) $ move ! (1 ∷ []) $
        use1 𝓛 (raw (Block ps rs k r')) (all_e 𝓤 (Block ps rs k) r') $ move ! (1 ∷ 0 ∷ []) $
        use2 𝓛 (‵ (values_at R ps (set rs k r'))) (apply∗ 𝓤 ⟦ each F r' 0 ⟧ ⟦ values_at R ps (set rs k r') ⟧) $ done !)
