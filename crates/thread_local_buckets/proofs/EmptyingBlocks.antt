-- Retiring a block: its slots become room one by one, from the first on. Assumes `Logic`.
use Rattle.thread_local_base.proofs.Names.{◌≡◌, ℕ, suc, ◌+◌, ◌*◌, ◌^◌, ◌<◌, List, [], ◌∷◌, ◌++◌, length}
use Rattle.thread_local_base.proofs.Names.{length-append, set, sym, refl, ap, ◌∙◌, subst, arith, Option, Some, None}
use Rattle.thread_local_base.proofs.Names.{Ura, Ty, SProp, ex, all, all_e, guard, apply∗}
use Rattle.thread_local_base.proofs.Names.{Fml, ftrue, fsep, froom, Logic, ‵, raw, ◌⊛◌, given, learn, ◌$◌, ◌∵◌}
use Rattle.thread_local_base.proofs.Names.{ !, qed, by, move, drop, split, fsplit, fsplit3, fjoin, fjoin3, fpick}
use Rattle.thread_local_base.proofs.Names.{fpack, show, check, frame, assume, use1, use2, rewrite, done, RattleType}
use Rattle.thread_local_base.proofs.Names.{Ptr, block_ptr, block_of, count_of, InBlock, nothing}
use Rattle.std.specs.Prelude.{◌/◌, ◌%◌, is_some, slice_index, replicate, take, drop as but_first, if◌then◌else◌}
use Rattle.std.proofs.lemmas.List.{take-append-drop, get_or-drop, length-replicate, replicate_more, set-get_or}
use Rattle.thread_local_base.specs.Bits.{is_set}
use Rattle.thread_local_buckets.specs.Slots.{empty_slots, slot_value, chunks, Fits, AreWords, AreFlagsFrom, each, stride}
use Rattle.thread_local_buckets.specs.Slots.{flags_at, flag_room, slot, back, block_ty, block_owns}
use Rattle.thread_local_buckets.proofs.Each.{Put, each_at}
use Rattle.thread_local_buckets.proofs.Flags.{in_chunks, value_near, flag_first, flags_behind}
use Rattle.thread_local_buckets.proofs.Slots.{IsWordNear, word_is_near, flags_of}
use Rattle.thread_local_buckets.proofs.Rooms.{each_cut, each_joined, words_room}
use Rattle.thread_local_buckets.specs.Emptying.{emptying_owns, flags_left, rest}
use Rattle.thread_local_base.proofs.Signs.{signs}

module _ {M : Type 1} {𝓤 : Ura M} (𝓛 : Logic 𝓤) (R : RattleType) where
  open 𝓛 use {H}
  open signs 𝓛 use {⟦◌⟧, ◌⊢◌, ◌∗◌, ◌-∗◌}

  infix 26 ◌⊢◌
  infixr 35 ◌∗◌
  infixr 30 ◌-∗◌
  abbrev C : Type 0
  C = Option R.Denot

  module _ (token : Ty → Ptr → Fml) where
    abbrev Owns : Ptr → ℕ → List C → Fml
    Owns = emptying_owns R token

    -- the words are the flags of the slots that are left
    abbrev Say : ℕ → List C → List ℕ → Type 0
    Say k cs ns = (length ns ≡ chunks (k + length cs)) × AreWords ns × AreFlagsFrom k ns cs

    -- the word of the next slot, and the way back
    abbrev pub Again : Ptr → ℕ → List C → ℕ → SProp 𝓤
    Again p k cs n = ⟦ flags_of R (k + length cs) p n (k / 64) ⟧ -∗ ⟦ Owns p k cs ⟧

    abbrev pub Shown : Ptr → ℕ → List C → ℕ → Type 0
    Shown p k cs n = InBlock p × IsWordNear R (k + length cs) (k / 64) × (n < 2 ^ 64) × (is_set n (k % 64) ≡ is_some (slot_value cs 0))

    pub next_word : (p : Ptr) (k : ℕ) (cs : List C) → 0 < length cs
        → ⟦ Owns p k cs ⟧
        ⊢ ex 𝓤 (λ (n : ℕ).
        guard 𝓤 (Shown p k cs n)
        (⟦ flags_of R (k + length cs) p n (k / 64) ⟧ ∗ Again p k cs n))
    next_word p k [] near = absurd (omega arith)
    next_word p k (c ∷ cs) near =
        let b : ℕ = block_of p in
        let o : ℕ = count_of p in
        let ds : List C = c ∷ cs in
        let m : ℕ = k + length ds in
        let within : k < m = omega arith in
        let i : ℕ = k / 64 in
        let F : ℕ → ℕ → Fml = flags_at R m b o in
        qed 𝓛 (‵ (Owns p k ds) ∷ []) ∵ fsplit3 ! $ fpick ! (λ so. drop ! $ fpick ! (λ ns. fsplit ! $
        fpick ! (λ are. drop ! $
        let n : ℕ = slice_index ns i in
        let has : i < length ns = subst (λ (z : ℕ). i < z) (sym are.0) (in_chunks m k within) in let ends : i ≡ i + 0 = omega arith in
        show ! (λ (z : ℕ). guard 𝓤 (Shown p k ds z) (⟦ F z i ⟧ ∗ Again p k ds z)) n $
        check ! (so.0, word_is_near R m i so.1 (in_chunks m k within), are.1 i, flag_first k ns c cs are.2) $
        use1 𝓛 (‵ (F n i) ⊛ raw (all 𝓤 (Put 𝓛 F ns 0 i i))) (each_at 𝓛 F ns 0 i i 0 ends has) $
        split ! $ frame ! $ assume ! (‵ (F n i)) $ move ! (1 ∷ []) $
        use1 𝓛 (raw (Put 𝓛 F ns 0 i i n)) (all_e 𝓤 (Put 𝓛 F ns 0 i i) n) $ move ! (1 ∷ 0 ∷ []) $
        use2 𝓛 (‵ (each F (set ns i n) 0)) (apply∗ 𝓤 ⟦ F n i ⟧ ⟦ each F (set ns i n) 0 ⟧) $
        rewrite ! 0 (λ (ms : List ℕ). ‵ (each F ms 0)) (set-get_or ns i 0) refl $ nothing ! $
        fpack ! (Say k ds ns) (λ _. ftrue) are $ fjoin ! $
        fpack ! (List ℕ) (flags_left R b o k ds) ns $
        fjoin ! $ nothing ! $ fpack ! (InBlock p × Fits R m) (λ _. ftrue) so $ fjoin ! $ done !)))

    -- the next slot, which becomes room once it is empty
    abbrev pub Emptied : Ptr → ℕ → List C → SProp 𝓤
    Emptied p k cs = ⟦ slot R (block_of p) (count_of p) None k ⟧ -∗ ⟦ Owns p (k + 1) (rest cs) ⟧

    pub next_slot : (p : Ptr) (k : ℕ) (cs : List C) → 0 < length cs
        → ⟦ Owns p k cs ⟧
        ⊢ guard 𝓤 (InBlock p × (k * stride R < 2 ^ 64))
        (⟦ slot R (block_of p) (count_of p) (slot_value cs 0) k ⟧ ∗ Emptied p k cs)
    next_slot p k [] near = absurd (omega arith)
    next_slot p k (c ∷ cs) near =
        let b : ℕ = block_of p in
        let o : ℕ = count_of p in
        let ds : List C = c ∷ cs in
        let m : ℕ = k + length ds in
        let within : k < m = omega arith in
        let F : C → ℕ → Fml = slot R b o in
        let m' : ℕ = k + 1 + length cs in
        let same : m ≡ m' = omega arith in
        let one : suc k ≡ k + 1 = omega arith in
        let none : List C = empty_slots k in
        let ends : k ≡ length none + 0 = (let z = length-replicate {A = C} k None in omega arith) in
        qed 𝓛 (‵ (Owns p k ds) ∷ []) ∵ fsplit3 ! $ fpick ! (λ so. drop ! $
        check ! (so.0, value_near R m k so.1 within) $ fpick ! (λ ns. fsplit ! $ fpick ! (λ are.
        drop ! $
        move ! (1 ∷ []) $ fsplit3 ! $ move ! (1 ∷ []) $ fsplit ! $ frame ! $ assume ! (‵ (F None k)) $
        -- [the room of the value; the slots after; the empty slots before; the way back and the
        -- token; the words]
        nothing ! $ move ! (1 ∷ 0 ∷ []) $ fjoin ! $ move ! (2 ∷ 0 ∷ []) $
        use2 𝓛 (‵ (each F (none ++ None ∷ []) 0)) (each_joined 𝓛 F none (None ∷ []) 0 k ends) $
        rewrite ! 0 (λ (es : List C). ‵ (each F es 0)) (replicate_more k None) refl $
        move ! (1 ∷ []) $ rewrite ! 0 (λ (i : ℕ). ‵ (each F cs i)) one refl $ move ! (2 ∷ []) $
        fsplit ! $
        rewrite ! 0 (λ (i : ℕ). ‵ (back R b o i)) same refl $
        rewrite ! 1 (λ (i : ℕ). ‵ (token (block_ty R i) p)) same refl $ fjoin ! $
        move ! (2 ∷ 1 ∷ 0 ∷ []) $ fjoin3 ! $ move ! (1 ∷ []) $
        rewrite ! 0 (λ (i : ℕ). ‵ (each (flags_at R i b o) ns 0)) same refl $ nothing ! $
        fpack ! (Say (k + 1) cs ns) (λ _. ftrue) (
          are.0 ∙ ap (λ (i : ℕ). chunks i) same,
          are.1,
          subst (λ (i : ℕ). AreFlagsFrom i ns cs) one (flags_behind k ns c cs are.2),
        ) $
        fjoin ! $ fpack ! (List ℕ) (flags_left R b o (k + 1) cs) ns $
        fjoin ! $ nothing ! $ fpack ! (InBlock p × Fits R m') (λ _. ftrue) (so.0, subst (Fits R) same so.1) $ fjoin ! $ done !)))

    -- the next slot becomes room where it has no value
    pub looked : (p : Ptr) (k : ℕ) (cs : List C) → 0 < length cs
        → let r = is_some (slot_value cs 0) in
        ⟦ Owns p k cs ⟧ ⊢ ⟦ Owns p (if r then k else k + 1) (if r then cs else rest cs) ⟧
    looked p k [] near = absurd (omega arith)
    looked p k (None ∷ cs) near = let ds : List C = None ∷ cs in let none : Fml = slot R (block_of p) (count_of p) None k in
        qed 𝓛 (‵ (Owns p k ds) ∷ []) ∵
        use1 𝓛 (given (InBlock p × (k * stride R < 2 ^ 64)) (‵ none ⊛ raw (Emptied p k ds)))
        (next_slot p k ds near) $
        learn ! (λ so. split ! $ by ! (apply∗ 𝓤 ⟦ none ⟧ ⟦ Owns p (k + 1) cs ⟧))
    looked p k (Some x ∷ cs) near = qed 𝓛 (‵ (Owns p k (Some x ∷ cs)) ∷ []) ∵ done !

    -- a whole block whose first slots are empty: these become room
    pub starts_at : (p : Ptr) (n : ℕ) (cs : List C) → take n cs ≡ empty_slots n
        → ⟦ block_owns R token p cs 0 ⟧ ⊢ ⟦ Owns p n (but_first n cs) ⟧
    starts_at p n cs empty =
        let b : ℕ = block_of p in
        let o : ℕ = count_of p in
        let ds : List C = but_first n cs in
        let none : List C = empty_slots n in
        let F : C → ℕ → Fml = slot R b o in
        let parts : cs ≡ none ++ ds = sym (take-append-drop n cs) ∙ ap (λ (fs : List C). fs ++ ds) empty in
        let count : length none ≡ n = length-replicate n None in
        let long : length cs ≡ n + length ds =
        ap (λ (fs : List C). length fs) parts
        ∙ length-append none ds
        ∙ ap (λ (i : ℕ). i + length ds) count in
        let ends : n ≡ length none + 0 = omega arith in
        qed 𝓛 (‵ (block_owns R token p cs 0) ∷ []) ∵ fsplit3 ! $ fpick ! (λ so. drop ! $
        fpick ! (λ ns. fsplit3 ! $ fpick ! (λ are. drop ! $ move ! (1 ∷ []) $ drop ! $
        let all : length ns ≡ chunks (n + length ds) =
        (let z = are.0 in let y : length ns ≡ chunks (length cs) = omega arith in y)
        ∙ ap (λ (i : ℕ). chunks i) long in
        let flags : AreFlagsFrom n ns ds = λ j.
        are.1.flags (j + n)
        ∙ ap is_some ((let z : j + n ≡ n + j = omega arith in ap (λ (i : ℕ). slot_value cs i) z)
        ∙ sym (get_or-drop n cs j None)) in
        move ! (1 ∷ []) $ fsplit3 ! $ rewrite ! 0 (λ (fs : List C). ‵ (each F fs 0)) parts refl $
        use1 𝓛 (‵ (each F none 0) ⊛ ‵ (each F ds n)) (each_cut 𝓛 F none ds 0 n ends) $ split ! $
        move ! (2 ∷ 3 ∷ []) $ rewrite ! 0 (λ (i : ℕ). ‵ (back R b o i)) long refl $
        rewrite ! 1 (λ (i : ℕ). ‵ (token (block_ty R i) p)) long refl $ fjoin ! $
        move ! (1 ∷ 2 ∷ 0 ∷ []) $ fjoin3 ! $ move ! (1 ∷ []) $
        rewrite ! 0 (λ (i : ℕ). ‵ (each (flags_at R i b o) ns 0)) long refl $ nothing ! $
        fpack ! (Say n ds ns) (λ _. ftrue) (all, are.1.words, flags) $ fjoin ! $
        fpack ! (List ℕ) (flags_left R b o n ds) ns $
        fjoin ! $ nothing ! $
        fpack ! (InBlock p × Fits R (n + length ds)) (λ _. ftrue) (so.0, subst (Fits R) long so.1) $
        fjoin ! $ done !)))

    -- all slots are room
    pub all_gone : (b o n : ℕ)
        → ⟦ Owns (block_ptr b o) n [] ⟧
        ⊢ guard 𝓤 (Fits R n)
        (H.room (block_ty R n) b o ∗ ⟦ token (block_ty R n) (block_ptr b o) ⟧)
    all_gone b o n =
        let p : Ptr = block_ptr b o in
        let none : List C = [] in
        let same : n + length none ≡ n = omega arith in
        let words : ℕ → Fml = λ m. each (flag_room R n b o) (replicate m 0) 0 in
        let slots : Fml = each (slot R b o) (empty_slots n) 0 in
        qed 𝓛 (‵ (Owns p n []) ∷ []) ∵ fsplit3 ! $ fpick ! (λ so. drop ! $
        check ! (subst (Fits R) same so.1) $ fpick ! (λ ns. fsplit ! $ fpick ! (λ are. drop ! $
        let long : length ns ≡ chunks n = are.0 ∙ ap (λ (i : ℕ). chunks i) same in
        rewrite ! 0 (λ (i : ℕ). ‵ (each (flags_at R i b o) ns 0)) same refl $
        use1 𝓛 (‵ (words (length ns))) (words_room 𝓛 R n b o ns 0) $
        rewrite ! 0 (λ (m : ℕ). ‵ (words m)) long refl $ move ! (1 ∷ []) $ fsplit3 ! $
        move ! (1 ∷ []) $ drop ! $
        -- [the empty slots; the way back and the token; the words]
        move ! (2 ∷ 0 ∷ []) $ fjoin ! $ move ! (1 ∷ []) $ fsplit ! $
        rewrite ! 0 (λ (i : ℕ). ‵ (back R b o i)) same refl $
        rewrite ! 1 (λ (i : ℕ). ‵ (token (block_ty R i) p)) same refl $ move ! (2 ∷ 0 ∷ []) $
        use2 𝓛 (‵ (froom (block_ty R n) b o))
        (apply∗ 𝓤 ⟦ fsep (words (chunks n)) slots ⟧ (H.room (block_ty R n) b o)) $
        done !)))
