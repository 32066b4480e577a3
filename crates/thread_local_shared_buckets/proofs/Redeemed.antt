-- Turns a bucket at rest into an owner's pointer, once what is due from a sharing comes back, and
-- an owner's pointer into a bucket at rest. Assumes `Logic`.
use Rattle.std.proofs.Common.{◌≡◌, ◌∙◌, ℕ, zero, suc, ◌+◌, ◌^◌, ◌<◌, ◌≤◌, nat_lt, Bool, true, false, is_some, List, []}
use Rattle.std.proofs.Common.{◌∷◌, length, refl, sym, ap, subst, arith, pow_pos, Option, None}
use Rattle.std.proofs.lemmas.Bool.{ltb-true, ltb-false}
use Rattle.std.proofs.lemmas.List.{get_or_past}
use mathlib.Core.Logic.{inl, inr}
use seplogic.Ra.Ura.{Ura}
use mir.Syntax.{Ty}
use base.Fml.{GName, Fml, ftrue, fsep, fex}
use base.Logic.{SProp, ex, guard, id⊢, guard_i}
use contract.Monad.{fact_use}
use types.Logic.{Logic}
use types.Kit.{‵, some, given, later, split, split3, use2, use3, ◌⊛◌, ◌$◌, ◌∵◌, !, qed, move, keep, drop, use0, use1, fsplit, fsplit3}
use types.Kit.{fjoin, fjoin3, fpick, fpack, pick, learn, check, show, await, updating, now, rewrite, done}
use denote.RattleType.{RattleType}
use denote.RawPtr.{Ptr, block_ptr, null_ptr, InBlock, Testable}
use denote.Steps.{nothing}
use denote.Param.Laws.{Laws}
use Rattle.std.specs.declared.alloc.Global.{Global}
use Rattle.std.specs.contracts.impls.GlobalAllocator.TheImpl.{ghosts}
use Rattle.std.proofs.GlobalToken.{dealloc_token-Testable}
use Rattle.thread_local_base.proofs.TakingLaws.{shows_none}
use Rattle.thread_local_base.specs.Bits.{is_set_in}
use Rattle.thread_local_buckets.specs.Slots.{heap_token, chunks, each, AreFlags, flags_at, slot_value, block_ty, Fits}
use Rattle.thread_local_buckets.specs.Slots.{value_offset, content_at, slot, flags_own, back}
use Rattle.thread_local_buckets.specs.PointerOwns.{pointer_owns}
use Rattle.thread_local_shared_buckets.specs.Shared.{BucketView, AreFlagWords, slots_under, slot_rests_as, slot_rests}
use Rattle.thread_local_shared_buckets.specs.Shared.{slots_rest, Sized, len, first, at_rest, announced_where, NoneSet}
use Rattle.thread_local_shared_buckets.specs.Announcing.{announced_or}
use Rattle.thread_local_shared_buckets.proofs.AnnouncingLaws.{announced_so}
use Rattle.thread_local_ids.specs.Told.{told_or_untold, all_told_or_untold, whole_row}
use Rattle.thread_local_ids.specs.Rights.{reached_owns}
use Rattle.thread_local_ids.proofs.ReachedElements.{reached_none}
use Rattle.thread_local_shared_buckets.proofs.GrownLaws.{row_grown, row_announced, row_known, whole_grown, IsBare}
use Rattle.thread_local_shared_buckets.proofs.Rested.{redeems}
use Rattle.thread_local_shared_buckets.specs.Fit.{Fit}
use Rattle.thread_local_base.proofs.Signs.{signs}

-- the bits of these words, from the index i on, say which of the slots hold a value
abbrev Told : {V : Type 0} → List ℕ → ℕ → List (Option V) → Type 0
Told ns i cs = (j : ℕ) → j < length cs → is_set_in ns (j + i) ≡ is_some (slot_value cs j)

module _ {V : Type 0} (ns : List ℕ) where
  told_more : (i : ℕ) (v : Option V) (cs : List (Option V)) → is_set_in ns i ≡ is_some v
      → Told ns (suc i) cs
      → Told ns i (v ∷ cs)
  told_more i v cs is told zero near = let same : i ≡ 0 + i = omega arith in subst (λ (m : ℕ). is_set_in ns m ≡ is_some v) same is
  told_more i v cs is told (suc j) near =
      let same : j + suc i ≡ suc j + i = omega arith in
      subst (λ (m : ℕ). is_set_in ns m ≡ is_some (slot_value cs j)) same (told j (omega arith))

  told_first : (i : ℕ) (v : Option V) (cs : List (Option V)) → Told ns i (v ∷ cs) → is_set_in ns i ≡ is_some v
  told_first i v cs told =
      let same : 0 + i ≡ i = omega arith in
      subst (λ (m : ℕ). is_set_in ns m ≡ is_some v) same (told 0 (omega arith))

  told_rest : (i : ℕ) (v : Option V) (cs : List (Option V)) → Told ns i (v ∷ cs) → Told ns (suc i) cs
  told_rest i v cs told j near =
      let same : suc j + i ≡ j + suc i = omega arith in
      subst (λ (m : ℕ). is_set_in ns m ≡ is_some (slot_value cs j)) same
      (told (suc j) (omega arith))

  told_flags : (cs : List (Option V)) → AreFlags ns cs → Told ns 0 cs
  told_flags cs are j near =
      let same : j ≡ j + 0 = omega arith in
      subst (λ (m : ℕ). is_set_in ns m ≡ is_some (slot_value cs j)) same (are.flags j)

  flag_if : (n : ℕ) (cs : List (Option V)) → length cs ≡ n
      → ((i : ℕ) → n ≤ i → is_set_in ns i ≡ false) → Told ns 0 cs → (j : ℕ) (t : Bool)
      → nat_lt j n ≡ t
      → is_set_in ns j ≡ is_some (slot_value cs j)
  flag_if n cs long past told j true e = let near : j < n = ltb-true j n e in let same : j + 0 ≡ j = omega arith in
      subst (λ (m : ℕ). is_set_in ns m ≡ is_some (slot_value cs j)) same (told j (omega arith))
  flag_if n cs long past told j false e =
      let far : n ≤ j = ltb-false j n e in
      past j far ∙ sym (ap is_some (get_or_past cs j None (omega arith)))

module _ (R : RattleType) (n : ℕ) (ns : List ℕ) (cs : List (Option R.Denot)) (long : length cs ≡ n) where
  -- words whose bits say which slots hold a value are their flags
  are_flags : AreFlagWords R n ns → Told ns 0 cs → (length ns + 0 ≡ chunks (length cs)) × AreFlags ns cs
  are_flags are told = (
    omega arith ∙ are.0 ∙ ap chunks (sym long),
    record { words = are.1; flags = λ j. flag_if ns n cs long are.2 told j (nat_lt j n) refl },
  )

  -- the flags of slots are words whose bits say which slots hold a value
  are_words : (length ns + 0 ≡ chunks (length cs)) × AreFlags ns cs → AreFlagWords R n ns
  are_words are = (
    omega arith ∙ are.0 ∙ ap chunks long,
    are.1.words,
    λ j far. are.1.flags j ∙ ap is_some (get_or_past cs j None (omega arith)),
  )

module _ {M : Type 1} {𝓤 : Ura M} (𝓛 : Logic 𝓤) (R : RattleType) (L : Laws R) where
  open 𝓛 use {H, A}
  open signs 𝓛 use {⟦◌⟧, ◌⊢◌, ◌∗◌}

  infix 26 ◌⊢◌
  infixr 35 ◌∗◌
  abbrev C : Type 0
  C = Option R.Denot

  -- ---- the slots of a block: their contents, and what is told of them
  module _ (sharing : Option GName) (k b : ℕ) where
    abbrev OneRedeemed : Bool → ℕ → ℕ → C → SProp 𝓤
    OneRedeemed set id e v = guard 𝓤 (set ≡ is_some v) (⟦ content_at R v b e ⟧ ∗ ⟦ told_or_untold R sharing id v ⟧)

    redeems_slot : (set : Bool) (id e : ℕ) → ⟦ slot_rests R sharing id set b e ⟧ ⊢ H.⇛ (ex 𝓤 (OneRedeemed set id e))
    redeems_slot set id e =
        qed 𝓛 (‵ (slot_rests R sharing id set b e) ∷ []) ∵ updating ! $ fpick ! (λ s. fsplit3 ! $
        fpick ! (λ is. drop ! $ move ! (1 ∷ []) $
        use1 𝓛 (later (‵ (content_at R s.0 b e))) (redeems 𝓛 R L b e s.1 s.0) $ await ! tt $
        now ! $ show ! (OneRedeemed set id e) s.0 $ check ! is $ done !))

    module _ (o : ℕ) (ns : List ℕ) where
      abbrev AllRedeemed : ℕ → ℕ → List C → SProp 𝓤
      AllRedeemed n i cs =
          guard 𝓤 ((length cs ≡ n) × Told ns i cs)
          (⟦ each (slot R b o) cs i ⟧ ∗ ⟦ all_told_or_untold R sharing (i + k) cs ⟧)

      -- the first slot, and then the others
      redeems_next : (n i : ℕ) → ⟦ slots_rest R sharing k n (suc i) b o ns ⟧ ⊢ H.⇛ (ex 𝓤 (AllRedeemed n (suc i)))
          → ⟦ slots_rest R sharing k (suc n) i b o ns ⟧ ⊢ H.⇛ (ex 𝓤 (AllRedeemed (suc n) i))
      redeems_next n i others =
          let e : ℕ = value_offset R o i in
          let set : Bool = is_set_in ns i in
          let next : suc i + k ≡ suc (i + k) = omega arith in
          qed 𝓛 (‵ (slots_rest R sharing k (suc n) i b o ns) ∷ []) ∵ updating ! $ fsplit ! $
          use1 𝓛 (later (some (λ (v : C).
          given (set ≡ is_some v) (‵ (content_at R v b e) ⊛ ‵ (told_or_untold R sharing (i + k) v)))))
          (redeems_slot set (i + k) e) $
          await ! tt $ pick ! (λ v. learn ! (λ is. move ! (1 ∷ []) $
          use1 𝓛 (later (some (λ (cs : List C).
          given ((length cs ≡ n) × Told ns (suc i) cs)
          (‵ (each (slot R b o) cs (suc i)) ⊛ ‵ (all_told_or_untold R sharing (suc i + k) cs)))))
          others $
          await ! tt $ pick ! (λ cs. learn ! (λ so.
          split ! $ move ! (2 ∷ []) $ split ! $
          -- [the slot; what is told of it; the other slots; what is told of them]
          move ! (0 ∷ 2 ∷ []) $ fjoin ! $ move ! (2 ∷ []) $
          rewrite ! 0 (λ (m : ℕ). ‵ (all_told_or_untold R sharing m cs)) next refl $ move ! (2 ∷ 0 ∷ []) $
          fjoin ! $ move ! (1 ∷ 0 ∷ []) $
          now ! $ show ! (AllRedeemed (suc n) i) (v ∷ cs) $ check ! (ap suc so.0, told_more ns i v cs is so.1) $ done !))))

      redeems_slots : (n i : ℕ) → ⟦ slots_rest R sharing k n i b o ns ⟧ ⊢ H.⇛ (ex 𝓤 (AllRedeemed n i))
      redeems_slots zero i =
          qed 𝓛 (‵ ftrue ∷ []) ∵ updating ! $ now ! $ show ! (AllRedeemed 0 i) [] $
          check ! (refl, λ j near. absurd (omega arith)) $ nothing ! $ done !
      redeems_slots (suc n) i = redeems_next n i (redeems_slots n (suc i))

      rests_slot : (i : ℕ) (v : C) → is_set_in ns i ≡ is_some v
          → ⟦ slot R b o v i ⟧ ∗ ⟦ told_or_untold R sharing (i + k) v ⟧
          ⊢ ⟦ slot_rests R sharing (i + k) (is_set_in ns i) b (value_offset R o i) ⟧
      rests_slot i v is = let e : ℕ = value_offset R o i in let set : Bool = is_set_in ns i in
          qed 𝓛 (‵ (content_at R v b e) ∷ ‵ (told_or_untold R sharing (i + k) v) ∷ []) ∵
          move ! (1 ∷ 0 ∷ []) $ nothing ! $ fpack ! (set ≡ is_some v) (λ _. ftrue) is $ fjoin3 ! $
          fpack ! (C × Bool) (slot_rests_as R sharing (i + k) set b e) (v, false) $ done !

      rests_next : (c : C) (cs : List C) (i : ℕ) → Told ns i (c ∷ cs)
          → ⟦ each (slot R b o) cs (suc i) ⟧ ∗ ⟦ all_told_or_untold R sharing (suc i + k) cs ⟧ ⊢ ⟦ slots_rest R sharing k (length cs) (suc i) b o ns ⟧
          → ⟦ each (slot R b o) (c ∷ cs) i ⟧ ∗ ⟦ all_told_or_untold R sharing (i + k) (c ∷ cs) ⟧
          ⊢ ⟦ slots_rest R sharing k (suc (length cs)) i b o ns ⟧
      rests_next c cs i told others =
          let next : suc (i + k) ≡ suc i + k = omega arith in
          qed 𝓛
          (‵ (each (slot R b o) (c ∷ cs) i) ∷ ‵ (all_told_or_untold R sharing (i + k) (c ∷ cs)) ∷ []) ∵
          fsplit ! $ move ! (2 ∷ []) $ fsplit ! $
          -- [what is told of the slot, and of the others; the slot; the others]
          move ! (2 ∷ 0 ∷ []) $
          use2 𝓛 (‵ (slot_rests R sharing (i + k) (is_set_in ns i) b (value_offset R o i)))
          (rests_slot i c (told_first ns i c cs told)) $
          move ! (1 ∷ []) $
          rewrite ! 0 (λ (m : ℕ). ‵ (all_told_or_untold R sharing m cs)) next refl $ move ! (2 ∷ 0 ∷ []) $
          use2 𝓛 (‵ (slots_rest R sharing k (length cs) (suc i) b o ns)) others $
          move ! (1 ∷ 0 ∷ []) $ fjoin ! $ done !

      rests_slots : (cs : List C) (i : ℕ) → Told ns i cs
          → ⟦ each (slot R b o) cs i ⟧ ∗ ⟦ all_told_or_untold R sharing (i + k) cs ⟧
          ⊢ ⟦ slots_rest R sharing k (length cs) i b o ns ⟧
      rests_slots [] i told = qed 𝓛 (‵ ftrue ∷ ‵ ftrue ∷ []) ∵ drop ! $ done !
      rests_slots (c ∷ cs) i told = rests_next c cs i told (rests_slots cs (suc i) (told_rest ns i c cs told))

  -- ---- the pointer
  -- whoever may free a block may compare its address with null
  tested : (τ : Ty) (p : Ptr) → ⟦ heap_token τ p ⟧ ⊢ guard 𝓤 (Testable p) ⟦ heap_token τ p ⟧
  tested τ p = qed 𝓛 (‵ (heap_token τ p) ∷ []) ∵ fpick ! (λ a. let token : Fml = ghosts.dealloc_token a τ p in
      use1 𝓛 (given (Testable p) (‵ token))
      (fact_use 𝓤 (Testable p) (dealloc_token-Testable 𝓛 a τ p)
      (guard_i 𝓤 (Testable p) ⟦ token ⟧)) $
      learn ! (λ so. check ! so $
      fpack ! Global (λ h. ghosts.dealloc_token h τ p) a $ done !))

  module _ (d : BucketView) where
    abbrev n : ℕ
    n = len R d

    -- the words of flags and the slots of a block, each slot a value or room
    abbrev Slots : ℕ → ℕ → List C → Fml
    Slots b o cs = fsep (fex (List ℕ) (flags_own R b o cs 0)) (each (slot R b o) cs 0)

    -- the id of the first slot
    abbrev k : ℕ
    k = first R d

    -- what is told of the bucket's slots, by its row
    abbrev Telling : List C → Fml
    Telling cs = all_told_or_untold R d.sharing k (whole_row d.bucket cs)

    -- the same, with what the row shows
    abbrev pub Tells : List C → Fml
    Tells cs = row_known R d cs

    abbrev Slotted : ℕ → ℕ → Fml
    Slotted b o = fex (List ℕ) (slots_under R n b o (λ ns. fsep (announced_where d ns) (slots_rest R d.sharing k n 0 b o ns)))

    -- that the bucket is announced, or that an owner made it and it has no value
    abbrev Announced : List C → Fml
    Announced cs = announced_or d.word d.bucket (IsBare cs)

    abbrev Redeemed : ℕ → ℕ → List C → SProp 𝓤
    Redeemed b o cs = guard 𝓤 (length cs ≡ n) (⟦ Slots b o cs ⟧ ∗ ⟦ all_told_or_untold R d.sharing k cs ⟧ ∗ ⟦ Announced cs ⟧)

    redeems_block : (b o : ℕ) → ⟦ Slotted b o ⟧ ⊢ H.⇛ (ex 𝓤 (Redeemed b o))
    redeems_block b o =
        let at : 0 + k ≡ k = omega arith in
        qed 𝓛 (‵ (Slotted b o) ∷ []) ∵ updating ! $ fpick ! (λ ns. fsplit3 ! $ fpick ! (λ are.
        drop ! $ move ! (1 ∷ []) $ fsplit ! $ move ! (1 ∷ []) $
        use1 𝓛 (later (some (λ (cs : List C).
        given ((length cs ≡ n) × Told ns 0 cs)
        (‵ (each (slot R b o) cs 0) ⊛ ‵ (all_told_or_untold R d.sharing (0 + k) cs)))))
        (redeems_slots d.sharing k b o ns n 0) $
        await ! tt $ pick ! (λ cs. learn ! (λ so. split ! $
        -- [the slots; what is told of them; what the flags show; the words]
        move ! (3 ∷ []) $
        rewrite ! 0 (λ (m : ℕ). ‵ (each (flags_at R m b o) ns 0)) (sym so.0) refl $ nothing ! $
        move ! (1 ∷ 0 ∷ []) $ fjoin ! $
        nothing ! $
        fpack ! ((length ns + 0 ≡ chunks (length cs)) × AreFlags ns cs) (λ _. ftrue)
        (are_flags R n ns cs so.0 are so.1) $
        fjoin ! $ fpack ! (List ℕ) (flags_own R b o cs 0) ns $ fjoin ! $
        move ! (1 ∷ []) $ rewrite ! 0 (λ (m : ℕ). ‵ (all_told_or_untold R d.sharing m cs)) at refl $ move ! (2 ∷ []) $
        let flags = (are_flags R n ns cs so.0 are so.1).1.flags in
        use1 𝓛 (‵ (Announced cs)) (announced_so 𝓛 d.word d.bucket (NoneSet ns) (IsBare cs)
        (λ none j. shows_none (slot_value cs j) (sym (flags j) ∙ none j))) $
        move ! (2 ∷ 1 ∷ 0 ∷ []) $ now ! $ show ! (Redeemed b o) cs $ check ! so.0 $ done !))))

    rests_block : (b o : ℕ) (cs : List C) → length cs ≡ n
        → ⟦ Slots b o cs ⟧ ∗ ⟦ all_told_or_untold R d.sharing k cs ⟧ ∗ ⟦ Announced cs ⟧ ⊢ ⟦ Slotted b o ⟧
    rests_block b o cs long =
        let at : k ≡ 0 + k = omega arith in
        qed 𝓛 (‵ (Slots b o cs) ∷ ‵ (all_told_or_untold R d.sharing k cs) ∷ ‵ (Announced cs) ∷ []) ∵ fsplit ! $ fpick ! (λ ns.
        fsplit3 ! $ fpick ! (λ are. drop ! $ move ! (1 ∷ []) $ drop ! $
        -- [the words; the slots; what is told of them; that the bucket is announced]
        move ! (2 ∷ []) $ rewrite ! 0 (λ (m : ℕ). ‵ (all_told_or_untold R d.sharing m cs)) at refl $ move ! (2 ∷ 0 ∷ []) $
        use2 𝓛 (‵ (slots_rest R d.sharing k (length cs) 0 b o ns))
        (rests_slots d.sharing k b o ns cs 0 (told_flags ns cs are.1)) $
        rewrite ! 0 (λ (m : ℕ). ‵ (slots_rest R d.sharing k m 0 b o ns)) long refl $ move ! (2 ∷ []) $
        use1 𝓛 (‵ (announced_where d ns)) (announced_so 𝓛 d.word d.bucket (IsBare cs) (NoneSet ns)
        (λ bare j. are.1.flags j ∙ ap is_some (bare j))) $
        move ! (0 ∷ 1 ∷ []) $ fjoin ! $ move ! (1 ∷ 0 ∷ []) $ rewrite ! 0 (λ (m : ℕ). ‵ (each (flags_at R m b o) ns 0)) long refl $
        nothing ! $ fpack ! (AreFlagWords R n ns) (λ _. ftrue) (are_words R n ns cs long are) $
        fjoin3 ! $
        fpack ! (List ℕ) (slots_under R n b o (λ z. fsep (announced_where d z) (slots_rest R d.sharing k n 0 b o z))) ns $
        done !))

    plain_slots : (b o : ℕ) (c : C) (cs : List C) → length (c ∷ cs) ≡ n → Sized R n (block_ptr b o)
        → ⟦ Slots b o (c ∷ cs) ⟧ ∗ ⟦ back R b o n ⟧ ∗ ⟦ heap_token (block_ty R n) (block_ptr b o) ⟧
        ⊢ ⟦ pointer_owns R heap_token (block_ptr b o) (c ∷ cs) ⟧
    plain_slots b o c cs long so =
        let p : Ptr = block_ptr b o in
        let all : List C = c ∷ cs in
        let same : n ≡ length all = sym long in
        qed 𝓛 (‵ (Slots b o all) ∷ ‵ (back R b o n) ∷ ‵ (heap_token (block_ty R n) p) ∷ []) ∵
        rewrite ! 1 (λ (m : ℕ). ‵ (back R b o m)) same refl $
        rewrite ! 2 (λ (m : ℕ). ‵ (heap_token (block_ty R m) p)) same refl $
        move ! (1 ∷ 2 ∷ []) $ fjoin ! $ move ! (1 ∷ []) $ fsplit ! $ move ! (0 ∷ 1 ∷ 2 ∷ []) $ fjoin3 ! $
        nothing ! $ fpack ! (InBlock p × Fits R (length all)) (λ _. ftrue) (tt, subst (Fits R) same so.2) $ fjoin ! $ done !

    plain_block : (b o : ℕ) (cs : List C) → length cs ≡ n → Sized R n (block_ptr b o)
        → ⟦ Slots b o cs ⟧ ∗ ⟦ back R b o n ⟧ ∗ ⟦ heap_token (block_ty R n) (block_ptr b o) ⟧
        ⊢ ⟦ pointer_owns R heap_token (block_ptr b o) cs ⟧
    plain_block b o [] long so = let some_slots : 0 < 2 ^ d.bucket = pow_pos d.bucket in absurd (omega arith)
    plain_block b o (c ∷ cs) long so = plain_slots b o c cs long so

    abbrev pub Plain : Ptr → List C → SProp 𝓤
    Plain p cs = guard 𝓤 (Fit d cs) (⟦ pointer_owns R heap_token p cs ⟧ ∗ ⟦ Tells cs ⟧)

    has_slots : (cs : List C) → length cs ≡ n → 0 < length cs
    has_slots cs long = let some_slots : 0 < 2 ^ d.bucket = pow_pos d.bucket in omega (arith, some_slots, long)

    -- what is told of the slots of a bucket that stands
    tells_whole : (cs : List C) → length cs ≡ n → ⟦ all_told_or_untold R d.sharing k cs ⟧ ⊢ ⟦ Telling cs ⟧
    tells_whole [] long = let some_slots : 0 < 2 ^ d.bucket = pow_pos d.bucket in absurd (omega arith)
    tells_whole (c ∷ cs) long = id⊢ 𝓤 _

    redeems_standing : (b o : ℕ) → ⟦ at_rest R d (block_ptr b o) ⟧ ⊢ H.⇛ (ex 𝓤 (Plain (block_ptr b o)))
    redeems_standing b o =
        let p : Ptr = block_ptr b o in
        qed 𝓛 (‵ (at_rest R d p) ∷ []) ∵ updating ! $ fsplit3 ! $ fpick ! (λ so. drop ! $ fsplit ! $
        move ! (2 ∷ []) $ fsplit ! $ move ! (2 ∷ 3 ∷ 0 ∷ 1 ∷ []) $
        use1 𝓛 (later (some (λ (cs : List C).
        given (length cs ≡ n) (‵ (Slots b o cs) ⊛ ‵ (all_told_or_untold R d.sharing k cs) ⊛ ‵ (Announced cs)))))
        (redeems_block b o) $
        await ! tt $ pick ! (λ cs. learn ! (λ long. split3 ! $
        -- [the slots; what is told of them; that the bucket is announced; the way back; the right to free; what the block shows]
        move ! (0 ∷ 3 ∷ 4 ∷ []) $
        use3 𝓛 (‵ (pointer_owns R heap_token p cs)) (plain_block b o cs long so) $ move ! (1 ∷ []) $
        use1 𝓛 (‵ (Telling cs)) (tells_whole cs long) $ move ! (3 ∷ 2 ∷ []) $
        use2 𝓛 (‵ (fsep (row_grown R d cs) (row_announced R d.word d.bucket cs))) (whole_grown 𝓛 R d cs (has_slots cs long)) $
        move ! (1 ∷ 0 ∷ []) $ fjoin ! $ move ! (1 ∷ 0 ∷ []) $
        now ! $ show ! (Plain p) cs $ check ! (inr long) $ done !)))

    redeems_missing : ⟦ at_rest R d null_ptr ⟧ ⊢ H.⇛ (ex 𝓤 (Plain null_ptr))
    redeems_missing =
        qed 𝓛 (‵ (at_rest R d null_ptr) ∷ []) ∵ updating ! $ fsplit ! $ fpick ! (λ free. drop ! $
        use0 𝓛 (‵ (reached_owns d.table 0)) (reached_none 𝓛 d.table) $ nothing ! $ move ! (2 ∷ 1 ∷ 0 ∷ []) $ fjoin3 ! $
        now ! $ show ! (Plain null_ptr) [] $ check ! (inl (refl, free)) $
        nothing ! $ fpack ! (null_ptr ≡ null_ptr) (λ _. ftrue) refl $ done !)

    -- what is due from a sharing comes back
    pub redeems_bucket : (p : Ptr) → ⟦ at_rest R d p ⟧ ⊢ H.⇛ (ex 𝓤 (Plain p))
    redeems_bucket null_ptr = redeems_missing
    redeems_bucket (block_ptr b o) = redeems_standing b o

    rests_standing : (b o : ℕ) (c : C) (cs : List C) → length (c ∷ cs) ≡ n
        → ⟦ pointer_owns R heap_token (block_ptr b o) (c ∷ cs) ⟧ ∗ ⟦ Tells (c ∷ cs) ⟧ ⊢ ⟦ at_rest R d (block_ptr b o) ⟧
    rests_standing b o c cs fit = let p : Ptr = block_ptr b o in let all : List C = c ∷ cs in
        qed 𝓛 (‵ (pointer_owns R heap_token p all) ∷ ‵ (Tells all) ∷ []) ∵ fsplit3 ! $
        fpick ! (λ so. drop ! $ move ! (1 ∷ []) $ fsplit3 ! $
        -- [the slots; the way back; the right to free; the words; what is told]
        move ! (1 ∷ []) $ rewrite ! 0 (λ (m : ℕ). ‵ (back R b o m)) fit refl $ move ! (2 ∷ []) $
        rewrite ! 0 (λ (m : ℕ). ‵ (heap_token (block_ty R m) p)) fit refl $
        use1 𝓛 (given (Testable p) (‵ (heap_token (block_ty R n) p))) (tested (block_ty R n) p) $
        learn ! (λ test. move ! (3 ∷ 2 ∷ []) $ fjoin ! $ move ! (3 ∷ []) $ fsplit3 ! $ move ! (3 ∷ 0 ∷ 2 ∷ []) $
        -- [the words and the slots; what is told; that the bucket is announced; how many ids were held; the right to free; the
        -- way back]
        use3 𝓛 (‵ (Slotted b o)) (rests_block b o all fit) $ move ! (0 ∷ 3 ∷ []) $ fjoin ! $
        move ! (2 ∷ 1 ∷ []) $ fjoin ! $ move ! (1 ∷ 0 ∷ []) $
        nothing ! $ fpack ! (Sized R n p) (λ _. ftrue) (tt, test, subst (Fits R) fit so.1) $ fjoin3 ! $ done !))

    -- an owner's pointer is a bucket at rest
    pub rests_bucket : (p : Ptr) (cs : List C) → Fit d cs
        → ⟦ pointer_owns R heap_token p cs ⟧ ∗ ⟦ Tells cs ⟧ ⊢ ⟦ at_rest R d p ⟧
    rests_bucket null_ptr [] (inl fit) =
        qed 𝓛 (‵ (pointer_owns R heap_token null_ptr []) ∷ ‵ (Tells []) ∷ []) ∵ drop ! $ fsplit ! $
        keep ! (0 ∷ []) $ nothing ! $
        fpack ! (d.reserved ≡ false) (λ _. ftrue) fit.1 $ fjoin ! $ done !
    rests_bucket (block_ptr b o) [] (inl fit) =
        qed 𝓛 (‵ (pointer_owns R heap_token (block_ptr b o) []) ∷ ‵ (Tells []) ∷ []) ∵
        fpick ! (λ e. absurd (cc))
    rests_bucket p [] (inr fit) = let some_slots : 0 < 2 ^ d.bucket = pow_pos d.bucket in absurd (omega arith)
    rests_bucket p (c ∷ cs) (inl fit) = absurd (omega arith)
    rests_bucket null_ptr (c ∷ cs) (inr fit) =
        qed 𝓛 (‵ (pointer_owns R heap_token null_ptr (c ∷ cs)) ∷ ‵ (Tells (c ∷ cs)) ∷ []) ∵
        fsplit ! $ fpick ! (λ so. absurd so.0)
    rests_bucket (block_ptr b o) (c ∷ cs) (inr fit) = rests_standing b o c cs fit
