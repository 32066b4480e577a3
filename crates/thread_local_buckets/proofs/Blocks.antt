-- A pointer is split into what doesn't change, its values and the rest, and put together again with
-- any values in the same slots. Assumes `Logic`.
use Rattle.thread_local_base.proofs.Names.{◌≡◌, ℕ, suc, ◌+◌, List, [], ◌∷◌, length, refl, sym, ap, ◌∙◌, subst, arith}
use Rattle.thread_local_base.proofs.Names.{Bool, false, is_some, Option, Some, None, Ura, Fml, ftrue}
use Rattle.thread_local_base.proofs.Names.{fsep, Logic, ‵, ◌⊛◌, given, ◌$◌, ◌∵◌, !, qed, by, move, drop, split}
use Rattle.thread_local_base.proofs.Names.{fsplit, fsplit3, fjoin, fjoin3, fpick, fpack, learn, check, use1, use2}
use Rattle.thread_local_base.proofs.Names.{rewrite, done, guard, guard_i, fact_use, RattleType, Ptr, null_ptr}
use Rattle.thread_local_base.proofs.Names.{block_of, count_of, InBlock, nothing}
use contract.Monad.{fact as said}
use denote.RawPtr.{Testable}
use Rattle.std.proofs.lemmas.Bool.{true≢false, false≢true}
use Rattle.std.proofs.lemmas.List.{length-map}
use Rattle.std.proofs.GlobalToken.{dealloc_token-Testable}
use Rattle.thread_local_buckets.specs.Slots.{block_ty, chunks, Fits, AreFlags, flags_at, slot, each, flags, flags_own, back, heap_token}
use Rattle.thread_local_base.specs.Fact.{fact}
use Rattle.thread_local_buckets.specs.PointerOwns.{pointer_owns}
use Rattle.thread_local_buckets.specs.LoanOwns.{flagged, valued, bare, PointsTo}
use Rattle.thread_local_buckets.proofs.Shapes.{has, slot_has}
use Rattle.thread_local_base.proofs.Signs.{signs}

abbrev pub first_of : List Bool → Bool
first_of [] = false
first_of (y ∷ ys) = y

abbrev pub rest_of : List Bool → List Bool
rest_of [] = []
rest_of (y ∷ ys) = ys

module _ (R : RattleType) where
  -- the rest, put aside until the pointer's flags and values are back
  abbrev pub rested : Ptr → List (Option R.Denot) → Fml
  rested p [] = ftrue
  rested p (c ∷ cs) =
      fsep (each (bare R (block_of p) (count_of p)) (c ∷ cs) 0)
      (fsep (back R (block_of p) (count_of p) (length (c ∷ cs)))
      (heap_token (block_ty R (length (c ∷ cs))) p))

module _ {M : Type 1} {𝓤 : Ura M} (𝓛 : Logic 𝓤) (R : RattleType) where
  open signs 𝓛 use {⟦◌⟧, ◌⊢◌, ◌∗◌}

  infix 26 ◌⊢◌
  infixr 35 ◌∗◌
  abbrev C : Type 0
  C = Option R.Denot

  long : (cs ws : List C) → has ws ≡ has cs → length cs ≡ length ws
  long cs ws same = sym (length-map cs is_some) ∙ ap length (sym same) ∙ length-map ws is_some

  module _ (b o : ℕ) where
    one_apart : (c : C) (j : ℕ) → ⟦ slot R b o c j ⟧ ⊢ ⟦ valued R b o c j ⟧ ∗ ⟦ bare R b o c j ⟧
    one_apart None j = qed 𝓛 (‵ (slot R b o None j) ∷ []) ∵ nothing ! $ done !
    one_apart (Some x) j = qed 𝓛 (‵ (slot R b o (Some x) j) ∷ []) ∵ nothing ! $ move ! (1 ∷ 0 ∷ []) $ done !

    one_whole : (c w : C) (j : ℕ) → is_some w ≡ is_some c
        → ⟦ valued R b o w j ⟧ ∗ ⟦ bare R b o c j ⟧ ⊢ ⟦ slot R b o w j ⟧
    one_whole None None j same = qed 𝓛 (‵ ftrue ∷ ‵ (bare R b o None j) ∷ []) ∵ drop ! $ done !
    one_whole (Some x) (Some y) j same =
        qed 𝓛 (‵ (valued R b o (Some y) j) ∷ ‵ ftrue ∷ []) ∵ move ! (1 ∷ []) $ drop ! $ done !
    one_whole None (Some y) j same = absurd (true≢false same)
    one_whole (Some x) None j same = absurd (false≢true same)

    apart : (cs : List C) (j : ℕ)
        → ⟦ each (slot R b o) cs j ⟧ ⊢ ⟦ each (valued R b o) cs j ⟧ ∗ ⟦ each (bare R b o) cs j ⟧
    apart [] j = qed 𝓛 (‵ ftrue ∷ []) ∵ nothing ! $ done !
    apart (c ∷ cs) j =
        qed 𝓛 (‵ (each (slot R b o) (c ∷ cs) j) ∷ []) ∵ fsplit ! $
        use1 𝓛 (‵ (valued R b o c j) ⊛ ‵ (bare R b o c j)) (one_apart c j) $ split ! $
        move ! (2 ∷ []) $
        use1 𝓛 (‵ (each (valued R b o) cs (suc j)) ⊛ ‵ (each (bare R b o) cs (suc j))) (apart cs (suc j)) $ split ! $
        move ! (2 ∷ 0 ∷ []) $ fjoin ! $ move ! (2 ∷ 1 ∷ []) $ fjoin ! $ move ! (1 ∷ 0 ∷ []) $ done !

    whole : (cs ws : List C) (j : ℕ) → has ws ≡ has cs
        → ⟦ each (valued R b o) ws j ⟧ ∗ ⟦ each (bare R b o) cs j ⟧ ⊢ ⟦ each (slot R b o) ws j ⟧
    whole [] [] j same = qed 𝓛 (‵ ftrue ∷ ‵ ftrue ∷ []) ∵ drop ! $ done !
    whole [] (w ∷ ws) j same = absurd (let n = ap length same in omega arith)
    whole (c ∷ cs) [] j same = absurd (let n = ap length same in omega arith)
    whole (c ∷ cs) (w ∷ ws) j same =
        qed 𝓛 (‵ (each (valued R b o) (w ∷ ws) j) ∷ ‵ (each (bare R b o) (c ∷ cs) j) ∷ []) ∵
        fsplit ! $ move ! (2 ∷ []) $ fsplit ! $
        -- [the first's rest; the rests; the first's value; the values]
        move ! (2 ∷ 0 ∷ []) $ use2 𝓛 (‵ (slot R b o w j)) (one_whole c w j (ap first_of same)) $ move ! (2 ∷ 1 ∷ []) $
        use2 𝓛 (‵ (each (slot R b o) ws (suc j))) (whole cs ws (suc j) (ap rest_of same)) $ move ! (1 ∷ 0 ∷ []) $ done !

    -- flags are the same for any values in the same slots
    same_flags : (cs ws : List C) → has ws ≡ has cs → ⟦ flags R b o cs ⟧ ⊢ ⟦ flags R b o ws ⟧
    same_flags cs ws same = qed 𝓛 (‵ (flags R b o cs) ∷ []) ∵ fpick ! (λ ns. fsplit3 ! $ fpick ! (λ so. drop ! $
        rewrite ! 0 (λ (m : ℕ). ‵ (each (flags_at R m b o) ns 0)) (long cs ws same) refl $
        nothing ! $ fpack ! ((length ns + 0 ≡ chunks (length ws)) × AreFlags ns ws) (λ _. ftrue)
        (so.0 ∙ ap chunks (long cs ws same), record { words = so.1.words; flags = λ j. so.1.flags j ∙ sym (slot_has ws cs j same) }) $
        fjoin3 ! $ fpack ! (List ℕ) (flags_own R b o ws 0) ns $ done !))

  starts : (n : ℕ) (p : Ptr) → ⟦ heap_token (block_ty R n) p ⟧ ⊢ said 𝓤 (Testable p)
  starts n p = qed 𝓛 (‵ (heap_token (block_ty R n) p) ∷ []) ∵ fpick ! (λ a. by ! (dealloc_token-Testable 𝓛 a (block_ty R n) p))

  pub pointer_apart : (p : Ptr) (cs : List C)
      → ⟦ pointer_owns R heap_token p cs ⟧
      ⊢ guard 𝓤 (PointsTo R p cs) (⟦ flagged R p cs ⟧
      ∗ ⟦ each (valued R (block_of p) (count_of p)) cs 0 ⟧ ∗ ⟦ rested R p cs ⟧)
  pointer_apart p [] = qed 𝓛 (‵ (fact (p ≡ null_ptr)) ∷ []) ∵ fpick ! (λ null. check ! null $ nothing ! $ nothing ! $ done !)
  pointer_apart p (c ∷ cs) =
      let b : ℕ = block_of p in
      let o : ℕ = count_of p in
      let n : ℕ = length (c ∷ cs) in
      let τ = block_ty R n in
      qed 𝓛 (‵ (pointer_owns R heap_token p (c ∷ cs)) ∷ []) ∵ fsplit3 ! $ fpick ! (λ so. drop ! $
      move ! (1 ∷ []) $ fsplit3 ! $ move ! (2 ∷ []) $
      use1 𝓛 (given (Testable p) (‵ (heap_token τ p)))
      (fact_use 𝓤 (Testable p) (starts n p) (guard_i 𝓤 (Testable p) ⟦ heap_token τ p ⟧)) $
      learn ! (λ low.
      check ! (so.0, low, so.1) $ move ! (1 ∷ []) $
      use1 𝓛 (‵ (each (valued R b o) (c ∷ cs) 0) ⊛ ‵ (each (bare R b o) (c ∷ cs) 0))
      (apart b o (c ∷ cs) 0) $
      split ! $
      -- [the values; the rests; the token; the way back; the flags]
      move ! (1 ∷ 3 ∷ 2 ∷ []) $ fjoin3 ! $ move ! (2 ∷ 1 ∷ 0 ∷ []) $ done !))

  pub pointer_whole : (p : Ptr) (cs ws : List C) → has ws ≡ has cs → PointsTo R p cs
      → ⟦ flagged R p cs ⟧ ∗ ⟦ each (valued R (block_of p) (count_of p)) ws 0 ⟧ ∗ ⟦ rested R p cs ⟧
      ⊢ ⟦ pointer_owns R heap_token p ws ⟧
  pointer_whole p [] [] same null =
      qed 𝓛 (‵ ftrue ∷ ‵ ftrue ∷ ‵ ftrue ∷ []) ∵ drop ! $ drop ! $ drop ! $ nothing ! $
      fpack ! (p ≡ null_ptr) (λ _. ftrue) null $ done !
  pointer_whole p [] (w ∷ ws) same lead = absurd (let n = ap length same in omega arith)
  pointer_whole p (c ∷ cs) [] same lead = absurd (let n = ap length same in omega arith)
  pointer_whole p (c ∷ cs) (w ∷ ws) same lead =
      let b : ℕ = block_of p in
      let o : ℕ = count_of p in
      let n : ℕ = length (c ∷ cs) in
      let m : ℕ = length (w ∷ ws) in
      let e : n ≡ m = long (c ∷ cs) (w ∷ ws) same in
      qed 𝓛 (‵ (flagged R p (c ∷ cs)) ∷ ‵ (each (valued R b o) (w ∷ ws) 0)
      ∷ ‵ (rested R p (c ∷ cs)) ∷ []) ∵
      use1 𝓛 (‵ (flags R b o (w ∷ ws))) (same_flags b o (c ∷ cs) (w ∷ ws) same) $ move ! (2 ∷ []) $
      fsplit3 ! $
      -- [the rests; the way back; the token; the flags; the values]
      rewrite ! 1 (λ (k : ℕ). ‵ (back R b o k)) e refl $ rewrite ! 2 (λ (k : ℕ). ‵ (heap_token (block_ty R k) p)) e refl $
      move ! (4 ∷ 0 ∷ []) $ use2 𝓛 (‵ (each (slot R b o) (w ∷ ws) 0)) (whole b o (c ∷ cs) (w ∷ ws) 0 same) $
      -- [the slots; the way back; the token; the flags]
      fjoin3 ! $ move ! (1 ∷ 0 ∷ []) $ fjoin ! $ nothing ! $
      fpack ! (InBlock p × Fits R m) (λ _. ftrue) (lead.0, subst (Fits R) e lead.2) $ fjoin ! $
      done !
