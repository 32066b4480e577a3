-- The room of a block, cut into room for each word and for each value, with the way back. Assumes
-- `Logic`.
use Rattle.thread_local_base.proofs.Names.{◌≡◌, ℕ, zero, suc, ◌+◌, ◌*◌, List, [], ◌∷◌, ◌++◌, length, refl, sym, ap}
use Rattle.thread_local_base.proofs.Names.{◌∙◌, subst, arith, w64, suc-mul, zero-mul, Option, None, Ura, Ty, ty_int}
use Rattle.thread_local_base.proofs.Names.{ty_array, tcons, tnil, bare, vint, SProp, id⊢, apply∗, Fml}
use Rattle.thread_local_base.proofs.Names.{ftrue, fsep, froom, Logic, ‵, raw, ◌⊛◌, ◌$◌, ◌∵◌, !, qed, by, move}
use Rattle.thread_local_base.proofs.Names.{drop, split, fsplit, fsplit3, fjoin, fjoin3, frame, assume, use1, rewrite}
use Rattle.thread_local_base.proofs.Names.{done, RattleType, lone, nothing}
use Rattle.std.specs.Prelude.{replicate}
use prog.Memory.{size, up, align}
use prog.RawLaws.{size-raw, align-raw}
use Rattle.thread_local_buckets.proofs.Flags.{values_start, words_start}
use Rattle.thread_local_buckets.specs.Slots.{empty_slots, chunks, each, stride, value_words, block_ty, word_offset}
use Rattle.thread_local_buckets.specs.Slots.{value_offset, flags_at, flag_room, slot, back}
use Rattle.thread_local_base.proofs.Signs.{signs}

module _ {M : Type 1} {𝓤 : Ura M} (𝓛 : Logic 𝓤) where
  open signs 𝓛 use {⟦◌⟧, ◌⊢◌, ◌∗◌, ◌-∗◌}

  infix 26 ◌⊢◌
  infixr 35 ◌∗◌
  infixr 30 ◌-∗◌
  open 𝓛 use {H}

  -- `each` of a concatenation is `each` of its parts
  pub each_cut : {X : Type 0} (F : X → ℕ → Fml) (xs ys : List X) (j k : ℕ) → k ≡ length xs + j
      → ⟦ each F (xs ++ ys) j ⟧ ⊢ ⟦ each F xs j ⟧ ∗ ⟦ each F ys k ⟧
  each_cut F [] ys j k is =
      let same : j ≡ k = omega arith in
      qed 𝓛 (‵ (each F ys j) ∷ []) ∵ rewrite ! 0 (λ (m : ℕ). ‵ (each F ys m)) same refl $
      nothing ! $ done !
  each_cut F (x ∷ xs) ys j k is = qed 𝓛 (‵ (F x j) ∷ ‵ (each F (xs ++ ys) (suc j)) ∷ []) ∵ move ! (1 ∷ []) $
      use1 𝓛 (‵ (each F xs (suc j)) ⊛ ‵ (each F ys k)) (each_cut F xs ys (suc j) k (omega arith)) $
      split ! $ move ! (2 ∷ 0 ∷ []) $ fjoin ! $ done !

  pub each_joined : {X : Type 0} (F : X → ℕ → Fml) (xs ys : List X) (j k : ℕ) → k ≡ length xs + j
      → ⟦ each F xs j ⟧ ∗ ⟦ each F ys k ⟧ ⊢ ⟦ each F (xs ++ ys) j ⟧
  each_joined F [] ys j k is =
      let same : k ≡ j = omega arith in
      qed 𝓛 (‵ ftrue ∷ ‵ (each F ys k) ∷ []) ∵ drop ! $
      rewrite ! 0 (λ (m : ℕ). ‵ (each F ys m)) same refl $ done !
  each_joined F (x ∷ xs) ys j k is =
      qed 𝓛 (‵ (each F (x ∷ xs) j) ∷ ‵ (each F ys k) ∷ []) ∵ fsplit ! $ frame ! $
      by ! (each_joined F xs ys (suc j) k (omega arith))

  -- the room of an array is room for each of its elements, one after another, and the other way
  -- round
  module _ {X : Type 0} (F : X → ℕ → Fml) (x : X) (τ : Ty) (b : ℕ) (at : ℕ → ℕ)
      (next : (j : ℕ) → at j + size τ ≡ at (suc j)) where
    apart : ((j : ℕ) → 𝓛.H.room τ b (at j) ⊢ ⟦ F x j ⟧) → (n j : ℕ)
        → 𝓛.H.room (ty_array τ n) b (at j) ⊢ ⟦ each F (replicate n x) j ⟧
    apart one zero j = qed 𝓛 (‵ (froom (ty_array τ 0) b (at j)) ∷ []) ∵ drop ! $ done !
    apart one (suc n) j =
        qed 𝓛 (‵ (froom (ty_array τ (suc n)) b (at j)) ∷ []) ∵
        use1 𝓛 (‵ (froom τ b (at j)) ⊛ ‵ (froom (ty_array τ n) b (at j + size τ)))
        (𝓛.laws.room_uncons τ n b (at j)) $
        split ! $
        use1 𝓛 (‵ (F x j)) (one j) $ frame ! $
        rewrite ! 0 (λ (e : ℕ). ‵ (froom (ty_array τ n) b e)) (next j) refl $
        by ! (apart one n (suc j))

    together : ((j : ℕ) → ⟦ F x j ⟧ ⊢ 𝓛.H.room τ b (at j)) → (n j : ℕ)
        → ⟦ each F (replicate n x) j ⟧ ⊢ 𝓛.H.room (ty_array τ n) b (at j)
    together one zero j = qed 𝓛 (‵ ftrue ∷ []) ∵ drop ! $ by ! (𝓛.laws.room_nil τ b (at j))
    together one (suc n) j =
        qed 𝓛 (‵ (F x j) ∷ ‵ (each F (replicate n x) (suc j)) ∷ []) ∵
        use1 𝓛 (‵ (froom τ b (at j))) (one j) $ move ! (1 ∷ []) $
        use1 𝓛 (‵ (froom (ty_array τ n) b (at (suc j)))) (together one n (suc j)) $
        rewrite ! 0 (λ (e : ℕ). ‵ (froom (ty_array τ n) b e)) (sym (next j)) refl $
        move ! (1 ∷ 0 ∷ []) $ by ! (𝓛.laws.room_cons τ n b (at j))

  module _ (R : RattleType) (n b o : ℕ) where
    abbrev C : Type 0
    C = Option R.Denot

    abbrev τ : Ty
    τ = bare (lone R.mir)

    -- a word is room for one
    word_room : (word c : ℕ) → ⟦ flags_at R n b o word c ⟧ ⊢ ⟦ flag_room R n b o 0 c ⟧
    word_room word c = 𝓛.laws.at_room (ty_int w64) b (word_offset R n o c) (vint w64 word)

    pub words_room : (ns : List ℕ) (c : ℕ)
        → ⟦ each (flags_at R n b o) ns c ⟧
        ⊢ ⟦ each (flag_room R n b o) (replicate (length ns) 0) c ⟧
    words_room [] c = qed 𝓛 (‵ ftrue ∷ []) ∵ done !
    words_room (word ∷ ns) c =
        qed 𝓛 (‵ (flags_at R n b o word c) ∷ ‵ (each (flags_at R n b o) ns (suc c)) ∷ []) ∵
        use1 𝓛 (‵ (flag_room R n b o 0 c)) (word_room word c) $ frame ! $
        by ! (words_room ns (suc c))

    next_word : (c : ℕ) → word_offset R n o c + 8 ≡ word_offset R n o (suc c)
    next_word c = omega arith

    next_value : (j : ℕ) → value_offset R o j + size τ ≡ value_offset R o (suc j)
    next_value j = ap (λ (s : ℕ). value_offset R o j + s) (size-raw (lone R.mir)) ∙ (omega (arith, suc-mul j (stride R)))

    -- ---- a block's values and words
    abbrev Values : Fml
    Values = froom (ty_array τ n) b (value_offset R o 0)

    abbrev Flags : Fml
    Flags = froom (ty_array (ty_int w64) (chunks n)) b (word_offset R n o 0)

    abbrev Parts : Fml
    Parts = fsep Values (fsep Flags ftrue)

    spreads : 𝓛.H.room (block_ty R n) b o ⊢ ⟦ Parts ⟧ ∗ (⟦ Parts ⟧ -∗ 𝓛.H.room (block_ty R n) b o)
    spreads =
        let X : SProp 𝓤 = 𝓛.H.room (block_ty R n) b o in
        let k : ℕ = chunks n in
        let a : ℕ = align τ in
        let z : ℕ = up a 0 in
        let at : ℕ × ℕ → Fml = λ u.
        fsep (froom (ty_array τ n) b u.0) (fsep (froom (ty_array (ty_int w64) k) b u.1) ftrue) in
        let raws : z ≡ up (align (lone R.mir)) 0 = ap (λ (e : ℕ). up e 0) (align-raw (lone R.mir)) in
        let first : o + z ≡ value_offset R o 0 = (let s : z ≡ 0 = raws ∙ values_start R in omega (arith, zero-mul (stride R))) in
        let w : ℕ = up 8 (z + n * size τ) in
        let second : o + w ≡ word_offset R n o 0 =
        (let s : w ≡ value_words R n * 8 =
        (λ i. up 8 (raws i + n * size-raw (lone R.mir) i)) ∙ words_start R n in
        omega arith) in
        subst (λ (u : ℕ × ℕ). X ⊢ ⟦ at u ⟧ ∗ (⟦ at u ⟧ -∗ X)) {x = (o + z, o + w)}
        {y = (value_offset R o 0, word_offset R n o 0)} (λ i. (first i, second i))
        (𝓛.laws.room_fields [] (tcons (ty_array τ n) (tcons (ty_array (ty_int w64) k) tnil)) b o)

    abbrev Slots : Fml
    Slots = each (slot R b o) (empty_slots n) 0

    abbrev FlagWords : Fml
    FlagWords = each (flag_room R n b o) (replicate (chunks n) 0) 0

    values_apart : ⟦ Values ⟧ ⊢ ⟦ Slots ⟧
    values_apart = apart (slot R b o) None τ b (value_offset R o) next_value (λ j. id⊢ 𝓤 _) n 0

    values_together : ⟦ Slots ⟧ ⊢ ⟦ Values ⟧
    values_together = together (slot R b o) None τ b (value_offset R o) next_value (λ j. id⊢ 𝓤 _) n 0

    words_apart : ⟦ Flags ⟧ ⊢ ⟦ FlagWords ⟧
    words_apart = apart (flag_room R n b o) 0 (ty_int w64) b (word_offset R n o) next_word (λ c. id⊢ 𝓤 _) (chunks n) 0

    words_together : ⟦ FlagWords ⟧ ⊢ ⟦ Flags ⟧
    words_together = together (flag_room R n b o) 0 (ty_int w64) b (word_offset R n o) next_word (λ c. id⊢ 𝓤 _) (chunks n) 0

    pub block_cut : 𝓛.H.room (block_ty R n) b o ⊢ ⟦ FlagWords ⟧ ∗ ⟦ Slots ⟧ ∗ ⟦ back R b o n ⟧
    block_cut =
        let X : SProp 𝓤 = 𝓛.H.room (block_ty R n) b o in
        qed 𝓛 (‵ (froom (block_ty R n) b o) ∷ []) ∵
        use1 𝓛 (‵ Parts ⊛ raw (⟦ Parts ⟧ -∗ X)) spreads $ split ! $ fsplit3 ! $
        use1 𝓛 (‵ Slots) values_apart $ move ! (1 ∷ []) $ use1 𝓛 (‵ FlagWords) words_apart $ frame ! $ frame ! $ drop ! $
        assume ! (‵ (fsep FlagWords Slots)) $ fsplit ! $ use1 𝓛 (‵ Flags) words_together $
        move ! (1 ∷ []) $ use1 𝓛 (‵ Values) values_together $ nothing ! $ move ! (1 ∷ 2 ∷ 0 ∷ []) $
        fjoin3 ! $ by ! (apply∗ 𝓤 ⟦ Parts ⟧ X)
