-- Making a block: its room is cut into slots, and the flags of one chunk after another are made.
-- Assumes `Logic`.
use Rattle.thread_local_base.proofs.Names.{◌≡◌, ℕ, suc, ◌+◌, List, [], ◌∷◌, ◌++◌, length, length-append, sym, refl}
use Rattle.thread_local_base.proofs.Names.{ap, ◌∙◌, subst, arith, w64, Option, None, Ura, Ty, ty_int, SProp}
use Rattle.thread_local_base.proofs.Names.{guard, Fml, ftrue, froom, Logic, ‵, ◌⊛◌, ◌$◌, ◌∵◌, !, qed, move}
use Rattle.thread_local_base.proofs.Names.{drop, split3, fsplit, fsplit3, fjoin, fpick, fpack, check, frame, assume}
use Rattle.thread_local_base.proofs.Names.{use1, use2, rewrite, done, RattleType, Ptr, block_ptr, block_of, count_of}
use Rattle.thread_local_base.proofs.Names.{InBlock, nothing, word}
use Rattle.std.specs.Prelude.{replicate}
use Rattle.std.proofs.lemmas.List.{length-replicate}
use Rattle.thread_local_buckets.specs.Slots.{empty_slots, chunks, AreFlags, Fits, each, word_offset, flags_at, flag_room}
use Rattle.thread_local_buckets.specs.Slots.{flags_own, slot, back, block_ty, block_owns}
use Rattle.thread_local_buckets.proofs.Flags.{flags_none, flags_more}
use Rattle.thread_local_buckets.proofs.Slots.{IsWordNear, word_is_near}
use Rattle.thread_local_buckets.proofs.Rooms.{each_joined, block_cut}
use Rattle.thread_local_base.proofs.Signs.{signs}

module _ {M : Type 1} {𝓤 : Ura M} (𝓛 : Logic 𝓤) (R : RattleType) where
  open 𝓛 use {H}
  open signs 𝓛 use {⟦◌⟧, ◌⊢◌, ◌∗◌, ◌-∗◌}

  infix 26 ◌⊢◌
  infixr 35 ◌∗◌
  infixr 30 ◌-∗◌
  abbrev C : Type 0
  C = Option R.Denot

  module _ (token : Ty → Ptr → Fml) where
    abbrev Owns : Ptr → List C → ℕ → Fml
    Owns = block_owns R token

    -- room for n slots is a block whose flags aren't made
    pub fresh : (b o n : ℕ) → Fits R n
        → H.room (block_ty R n) b o ∗ ⟦ token (block_ty R n) (block_ptr b o) ⟧
        ⊢ ⟦ Owns (block_ptr b o) (empty_slots n) (chunks n) ⟧
    fresh b o n fits =
        let p : Ptr = block_ptr b o in
        let cs : List C = empty_slots n in
        let long : length cs ≡ n = length-replicate n None in
        let none : List ℕ = [] in
        let Made : Type 0 = (length none + chunks n ≡ chunks (length cs)) × AreFlags none cs in
        let all : length none + chunks n ≡ chunks (length cs) =
        (let z : 0 + chunks n ≡ chunks n = omega arith in z)
        ∙ ap (λ (m : ℕ). chunks m) (sym long) in
        qed 𝓛 (‵ (froom (block_ty R n) b o) ∷ ‵ (token (block_ty R n) p) ∷ []) ∵
        use1 𝓛 (‵ (each (flag_room R n b o) (replicate (chunks n) 0) 0) ⊛ ‵ (each (slot R b o) cs 0)
        ⊛ ‵ (back R b o n))
        (block_cut 𝓛 R n b o) $
        split3 ! $
        rewrite ! 0 (λ (m : ℕ). ‵ (each (flag_room R m b o) (replicate (chunks n) 0) 0))
        (sym long) refl $
        nothing ! $ fjoin ! $ nothing ! $ fpack ! Made (λ _. ftrue) (all, flags_none 0 n) $
        fjoin ! $ fpack ! (List ℕ) (flags_own R b o cs (chunks n)) none $
        move ! (2 ∷ 3 ∷ []) $ rewrite ! 0 (λ (m : ℕ). ‵ (back R b o m)) (sym long) refl $
        rewrite ! 1 (λ (m : ℕ). ‵ (token (block_ty R m) p)) (sym long) refl $ fjoin ! $
        move ! (2 ∷ 0 ∷ []) $ fjoin ! $ move ! (1 ∷ 0 ∷ []) $ fjoin ! $
        nothing ! $ fpack ! (InBlock p × Fits R (length cs)) (λ _. ftrue) (tt, subst (Fits R) (sym long) fits) $ fjoin ! $ done !

    -- the flags of the next chunk are made once its word is 0
    abbrev pub Filled : Ptr → List C → ℕ → ℕ → SProp 𝓤
    Filled p cs left c = ⟦ word (block_of p) (word_offset R (length cs) (count_of p) c) 0 ⟧ -∗ ⟦ Owns p cs left ⟧

    pub next_room : (p : Ptr) (cs : List C) (left c : ℕ) → c + suc left ≡ chunks (length cs)
        → ⟦ Owns p cs (suc left) ⟧
        ⊢ guard 𝓤 (InBlock p × IsWordNear R (length cs) c)
        (H.room (ty_int w64) (block_of p) (word_offset R (length cs) (count_of p) c)
        ∗ Filled p cs left c)
    next_room p cs left c is =
        let b : ℕ = block_of p in
        let o : ℕ = count_of p in
        let n : ℕ = length cs in
        let words : List ℕ → ℕ → Fml = each (flags_at R n b o) in
        qed 𝓛 (‵ (Owns p cs (suc left)) ∷ []) ∵ fsplit3 ! $ fpick ! (λ so. drop ! $
        check ! (so.0, word_is_near R n c so.1 (omega arith)) $ fpick ! (λ ns. fsplit3 ! $
        fpick ! (λ are. drop ! $
        let here : length ns ≡ c = (let z = are.0 in omega arith) in
        let ms : List ℕ = ns ++ 0 ∷ [] in
        let long : length ms ≡ suc c = length-append ns (0 ∷ []) ∙ (omega arith) in
        let ends : c ≡ length ns + 0 = omega arith in
        -- [the words; the rooms after; the slots; the way back and the token]
        move ! (1 ∷ []) $
        rewrite ! 0 (λ (m : ℕ). ‵ (each (flag_room R n b o) (replicate (suc left) 0) m)) here refl $
        fsplit ! $ frame ! $ assume ! (‵ (flags_at R n b o 0 c)) $ nothing ! $ move ! (1 ∷ 0 ∷ []) $
        fjoin ! $
        move ! (2 ∷ 0 ∷ []) $
        use2 𝓛 (‵ (words ms 0)) (each_joined 𝓛 (flags_at R n b o) ns (0 ∷ []) 0 c ends) $
        move ! (1 ∷ []) $
        rewrite ! 0 (λ (m : ℕ). ‵ (each (flag_room R n b o) (replicate left 0) m)) (sym long) refl $
        move ! (1 ∷ 0 ∷ []) $ fjoin ! $ nothing ! $
        fpack ! ((length ms + left ≡ chunks n) × AreFlags ms cs) (λ _. ftrue)
        ((omega (arith, long, is)), flags_more ns cs are.1) $
        fjoin ! $ fpack ! (List ℕ) (flags_own R b o cs left) ms $
        fjoin ! $ nothing ! $ fpack ! (InBlock p × Fits R n) (λ _. ftrue) so $ fjoin ! $ done !)))
