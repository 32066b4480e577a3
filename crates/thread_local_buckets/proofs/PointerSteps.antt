-- A bucket's pointer as a value, and taking a slot or a chunk's word out of its block and putting
-- it back. Assumes `Logic`.
use Rattle.thread_local_base.proofs.Names.{◌≡◌, ℕ, ◌*◌, ◌<◌, List, [], ◌∷◌, ◌++◌, length, length-set, set, refl, sym}
use Rattle.thread_local_base.proofs.Names.{ap, ◌∙◌, subst, arith, lit<, T, Option, Ura, Ty, ty_ptr, ty_struct, tcons}
use Rattle.thread_local_base.proofs.Names.{tnil, Val, vstruct, vcons, vnil, of_list, has_ty, WT, SProp, ent}
use Rattle.thread_local_base.proofs.Names.{ex, all, guard, emp, via, id⊢, apply∗, Fml, Logic, sem, ‵, raw, ◌⊛◌}
use Rattle.thread_local_base.proofs.Names.{some, given, ◌$◌, ◌∵◌, !, qed, by, move, keep, drop, split, fsplit3}
use Rattle.thread_local_base.proofs.Names.{fjoin3, fpick, fpack, pick, check, show, learn, frame, assume, use1, use2}
use Rattle.thread_local_base.proofs.Names.{done, fact_i, RattleType, Is, Ptr, block_ptr, null_ptr, InBlock, ptr_val}
use Rattle.std.specs.Prelude.{◌/◌, not, nat_lt}
use Rattle.std.proofs.lemmas.Bool.{lt-ltb}
use mir.Val.{ptr_same, vnull}
use contract.Monad.{fact, fact_mono}
use denote.RawPtr.{Testable}
use denote.Shadow.{makes_shadow}
use denote.Struct.Struct.{Struct}
use denote.Struct.Owning.{shape}
use Rattle.std.specs.declared.alloc.Global.{Global}
use Rattle.std.specs.contracts.impls.GlobalAllocator.TheImpl.{ghosts}
use Rattle.std.proofs.GlobalToken.{dealloc_token-Testable}
use Rattle.thread_local_buckets.specs.Slots.{slot_value, block_ty, heap_token, block_owns}
use Rattle.thread_local_buckets.specs.PointerOwns.{pointer_owns}
use Rattle.thread_local_buckets.specs.contracts.bucket_pointer.BucketPointer as one_pointer
use Rattle.thread_local_buckets.proofs.Slots.{IsWordIn, IsSlotIn, Change, flags_of, slot_of, Back, slot_out, slot_back, word_out}
use Rattle.thread_local_base.proofs.Signs.{signs}

abbrev pub pointer_val : Ptr → Val
pointer_val p = vstruct (vcons (ptr_val p) vnil)

pub pointer_good : (p : Ptr) → T (has_ty (ty_struct [] (tcons ty_ptr tnil)) (pointer_val p)) × WT (pointer_val p)
pointer_good (block_ptr b o) = (tt, (tt, tt))
pointer_good null_ptr = (tt, (record { fits = lit< tt }, tt))

module _ (R : RattleType) where
  abbrev pub FieldsType : RattleType
  FieldsType = Struct (shape (one_pointer.the_type R))

  pub told : (p : Ptr) (vs : List Val) → Is FieldsType (p, tt) vs → vs ≡ pointer_val p ∷ []
  told p vs is = is.1.0 ∙ ap (λ (ws : List Val). vstruct (of_list (ws ++ [])) ∷ []) is.1.1.0

  pub made : {M : Type 1} {𝓤 : Ura M} (𝓛 : Logic 𝓤) (p : Ptr)
      → ent 𝓤 (emp 𝓤) (sem 𝓛 (FieldsType.own_val (p, tt) (pointer_val p ∷ [])))
  made 𝓛 p =
      makes_shadow 𝓛 (FieldsType.own_val (p, tt) (pointer_val p ∷ [])) (λ vss. (tt, (tt, tt)))
      ((ptr_val p ∷ [], tt), (refl, (refl, tt)))

  module _ {M : Type 1} {𝓤 : Ura M} (𝓛 : Logic 𝓤) where
    open signs 𝓛 use {⟦◌⟧, ◌⊢◌, ◌∗◌, ◌-∗◌}

    infix 26 ◌⊢◌
    infixr 35 ◌∗◌
    infixr 30 ◌-∗◌
    abbrev C : Type 0
    C = Option R.Denot

    abbrev W : Ptr → List C → Fml
    W = pointer_owns R heap_token

    abbrev B : Ptr → List C → Fml
    B p cs = block_owns R heap_token p cs 0

    pub to_block : (p : Ptr) (cs : List C) → 0 < length cs → ⟦ W p cs ⟧ ⊢ ⟦ B p cs ⟧
    to_block p [] some_slot = absurd (omega arith)
    to_block p (c ∷ cs) some_slot = id⊢ 𝓤 _

    pub to_pointer : (p : Ptr) (cs : List C) → 0 < length cs → ⟦ B p cs ⟧ ⊢ ⟦ W p cs ⟧
    to_pointer p [] some_slot = absurd (omega arith)
    to_pointer p (c ∷ cs) some_slot = id⊢ 𝓤 _

    -- the way back for a slot and its chunk's word, whatever they become
    abbrev pub Again : Ptr → List C → (j word : ℕ) → SProp 𝓤
    Again p cs j word = all 𝓤 (Back 𝓛 R heap_token p cs j word)

    pub pointer_slot : (p : Ptr) (cs : List C) (j : ℕ) → j < length cs
        → ⟦ W p cs ⟧
        ⊢ ex 𝓤 (λ (word : ℕ).
        guard 𝓤 (IsSlotIn R p cs j word)
        (⟦ flags_of R (length cs) p word (j / 64) ⟧ ∗ ⟦ slot_of R p (slot_value cs j) j ⟧
        ∗ Again p cs j word))
    pointer_slot p cs j near = via 𝓤 _ (to_block p cs (omega arith)) (slot_out 𝓛 R heap_token p cs j near)

    pub pointer_again : (p : Ptr) (cs : List C) (j word : ℕ) (x : Change R.Denot j word) → j < length cs
        → ⟦ flags_of R (length cs) p x.new (j / 64) ⟧ ∗ ⟦ slot_of R p x.value j ⟧
        ∗ Again p cs j word
        ⊢ ⟦ W p (set cs j x.value) ⟧
    pointer_again p cs j word x near =
        via 𝓤 _ (slot_back 𝓛 R heap_token p cs j word x)
        (to_pointer p (set cs j x.value) (let long = length-set cs j x.value in omega arith))

    -- the way back for a chunk's word, which is only read
    abbrev pub Same : Ptr → List C → (c word : ℕ) → SProp 𝓤
    Same p cs c word = ⟦ flags_of R (length cs) p word c ⟧ -∗ ⟦ W p cs ⟧

    pub pointer_chunk : (p : Ptr) (cs : List C) (c : ℕ) → c * 64 < length cs
        → ⟦ W p cs ⟧
        ⊢ ex 𝓤 (λ (word : ℕ).
        guard 𝓤 (IsWordIn R p cs c word)
        (⟦ flags_of R (length cs) p word c ⟧ ∗ Same p cs c word))
    pointer_chunk p cs c near =
        let Out : ℕ → SProp 𝓤 = λ word.
        guard 𝓤 (IsWordIn R p cs c word)
        (⟦ flags_of R (length cs) p word c ⟧ ∗ Same p cs c word) in
        qed 𝓛 (‵ (W p cs) ∷ []) ∵ use1 𝓛 (‵ (B p cs)) (to_block p cs (omega arith)) $
        use1 𝓛 (some (λ (word : ℕ).
        given (IsWordIn R p cs c word)
        (‵ (flags_of R (length cs) p word c)
        ⊛ raw (⟦ flags_of R (length cs) p word c ⟧ -∗ ⟦ B p cs ⟧))))
        (word_out 𝓛 R heap_token p cs c near) $
        pick ! (λ word. learn ! (λ so.
        show ! Out word $ check ! so $ split ! $ frame ! $
        assume ! (‵ (flags_of R (length cs) p word c)) $
        use2 𝓛 (‵ (B p cs)) (apply∗ 𝓤 ⟦ flags_of R (length cs) p word c ⟧ ⟦ B p cs ⟧) $
        by ! (to_pointer p cs (omega arith))))

    -- what a test against null says
    abbrev pub Tells : Ptr → List C → Type 0
    Tells p cs = Testable p × (not (ptr_same (ptr_val p) vnull) ≡ nat_lt 0 (length cs))

    tells_null : (p : Ptr) → p ≡ null_ptr → Tells p []
    tells_null p e = subst (λ (z : Ptr). Tells z []) (sym e) (lit< tt, refl)

    tells_block : (p : Ptr) (c : C) (cs : List C) → InBlock p → Testable p → Tells p (c ∷ cs)
    tells_block (block_ptr b o) c cs i t = (t, sym (lt-ltb 0 (length (c ∷ cs)) (omega arith)))
    tells_block null_ptr c cs i t = absurd i

    pub pointer_tells : (p : Ptr) (cs : List C) → ⟦ W p cs ⟧ ⊢ fact 𝓤 (Tells p cs)
    pointer_tells p [] = qed 𝓛 (‵ (W p []) ∷ []) ∵ fpick ! (λ e. by ! (fact_i 𝓤 (Tells p []) _ (tells_null p e)))
    pointer_tells p (c ∷ cs) =
        let τ : Ty = block_ty R (length (c ∷ cs)) in
        qed 𝓛 (‵ (W p (c ∷ cs)) ∷ []) ∵ fsplit3 ! $ fpick ! (λ so. drop ! $ move ! (1 ∷ []) $
        fsplit3 ! $ move ! (2 ∷ []) $ fpick ! (λ a.
        keep ! (0 ∷ []) $
        by ! (via 𝓤 _ (dealloc_token-Testable 𝓛 a τ p)
        (fact_mono 𝓤 (Testable p) (Tells p (c ∷ cs)) (λ t. tells_block p c cs so.0 t)))))

    -- a block of any handle to the heap may become a pointer's
    pub lays : (a : Global) (p : Ptr) (cs : List C) → 0 < length cs
        → ⟦ block_owns R (ghosts.dealloc_token a) p cs 0 ⟧ ⊢ ⟦ W p cs ⟧
    lays a p cs some_slot =
        let τ : Ty = block_ty R (length cs) in
        qed 𝓛 (‵ (block_owns R (ghosts.dealloc_token a) p cs 0) ∷ []) ∵ fsplit3 ! $
        move ! (2 ∷ []) $ fsplit3 ! $ move ! (2 ∷ []) $
        fpack ! Global (λ z. ghosts.dealloc_token z τ p) a $ move ! (1 ∷ 2 ∷ 0 ∷ []) $ fjoin3 ! $
        move ! (1 ∷ 2 ∷ 0 ∷ []) $ fjoin3 ! $ by ! (to_pointer p cs some_slot)

    -- and a pointer's block may become any handle's
    pub lifts : (a : Global) (p : Ptr) (cs : List C) → 0 < length cs
        → ⟦ W p cs ⟧ ⊢ ⟦ block_owns R (ghosts.dealloc_token a) p cs 0 ⟧
    lifts a p cs some_slot =
        let τ : Ty = block_ty R (length cs) in
        qed 𝓛 (‵ (W p cs) ∷ []) ∵ use1 𝓛 (‵ (B p cs)) (to_block p cs some_slot) $ fsplit3 ! $
        move ! (2 ∷ []) $ fsplit3 ! $ move ! (2 ∷ []) $
        fpick ! (λ z.
        use1 𝓛 (‵ (ghosts.dealloc_token a τ p)) (id⊢ 𝓤 _) $ move ! (1 ∷ 2 ∷ 0 ∷ []) $ fjoin3 ! $
        move ! (1 ∷ 2 ∷ 0 ∷ []) $ fjoin3 ! $ done !)
