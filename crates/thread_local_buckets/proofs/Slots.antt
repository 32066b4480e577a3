-- Taking a slot and its chunk's word out of a block, and putting them back. Assumes `Logic`.
use Rattle.thread_local_base.proofs.Names.{◌≡◌, ℕ, ◌+◌, ◌*◌, ◌^◌, ◌<◌, List, [], ◌∷◌, length, length-set, set}
use Rattle.thread_local_base.proofs.Names.{get_or, refl, sym, ap, ◌∙◌, subst, arith, lit<, T, Option, Some}
use Rattle.thread_local_base.proofs.Names.{None, is_some, Ura, Ty, ty_ptr, has_ty, WT, SProp, ex, all}
use Rattle.thread_local_base.proofs.Names.{all_e, guard, apply∗, Fml, ftrue, Logic, ‵, raw, ◌⊛◌, ◌$◌, ◌∵◌, ! }
use Rattle.thread_local_base.proofs.Names.{qed, by, move, drop, split, fsplit, fsplit3, fjoin3, fpick, fpack, check}
use Rattle.thread_local_base.proofs.Names.{show, frame, each as for_each, assume, use1, use2, rewrite, done}
use Rattle.thread_local_base.proofs.Names.{RattleType, Ptr, block_ptr, null_ptr, ptr_val, block_of, count_of, InBlock}
use Rattle.thread_local_base.proofs.Names.{nothing}
use Rattle.std.specs.Prelude.{◌/◌, ◌%◌, IsSome}
use Rattle.std.proofs.Common.{true≢false}
use Rattle.std.proofs.lemmas.List.{set-get_or}
use Rattle.thread_local_base.specs.Bits.{is_set, IsWordBut}
use Rattle.thread_local_buckets.specs.Slots.{slot_value, chunks, stride, value_words, Fits, flag_word_at, AreFlags, each}
use Rattle.thread_local_buckets.specs.Slots.{flags_at, slot, back, flags_own, block_ty, block_owns}
use Rattle.thread_local_buckets.proofs.ChunkFlags.{HasFlags}
use Rattle.thread_local_buckets.proofs.Each.{Put, each_at}
use Rattle.thread_local_buckets.proofs.Flags.{in_chunks, chunk_in, word_near, value_near, number_is, flag_read, flags_set}
use Rattle.thread_local_base.proofs.Signs.{signs}

pub value_of : {X : Type 0} (v : Option X) → IsSome v → (x : X) × (v ≡ Some x)
value_of None i = absurd (true≢false (sym i))
value_of (Some x) i = (x, refl)

-- a pointer is a value of its type
pub ptr_good : (p : Ptr) → T (has_ty ty_ptr (ptr_val p)) × WT (ptr_val p)
ptr_good (block_ptr b o) = (tt, tt)
ptr_good null_ptr = (tt, record { fits = lit< tt })

-- a word whose bits are the flags of a chunk of these slots
pub record IsWordOf {X : Type 0} (slots : List (Option X)) (chunk word : ℕ) : Type 0 where
  pub fits : word < 2 ^ 64
  pub flags : HasFlags slots chunk word

-- a chunk's word is inside a block of n slots, and code finds it
pub record IsWordNear (R : RattleType) (n chunk : ℕ) : Type 0 where
  pub number : flag_word_at R n chunk ≡ value_words R n + chunk
  pub near : (value_words R n + chunk) * 8 < 2 ^ 64

-- what is known of a chunk's word in a block
pub record IsWordIn (R : RattleType) (p : Ptr) (slots : List (Option R.Denot)) (chunk word : ℕ) : Type 0 where
  pub lies : InBlock p
  pub place : IsWordNear R (length slots) chunk
  pub is_word : IsWordOf slots chunk word

-- what is known of a slot in a block, and of its chunk's word
pub record IsSlotIn (R : RattleType) (p : Ptr) (slots : List (Option R.Denot)) (j word : ℕ) : Type 0 where
  pub lies : InBlock p
  pub place : IsWordNear R (length slots) (j / 64)
  pub value_near : j * stride R < 2 ^ 64
  pub is_word : IsWordOf slots (j / 64) word

-- what a chunk's word and one of its slots may become: no flag but the slot's changes
pub record Change (X : Type 0) (j word : ℕ) : Type 0 where
  pub new : ℕ
  pub value : Option X
  pub fits : new < 2 ^ 64
  pub but : IsWordBut new word (j % 64) (is_some value)

module _ {X : Type 0} (slots : List (Option X)) where
  -- the flag of a slot is its bit in its chunk's word
  pub slot_flag : (j word : ℕ) → IsWordOf slots (j / 64) word → is_set word (j % 64) ≡ is_some (slot_value slots j)
  slot_flag j word is =
      let same : j / 64 * 64 + j % 64 ≡ j = omega arith in
      is.flags (j % 64) (omega arith) ∙ ap (λ (i : ℕ). is_some (slot_value slots i)) same

  pub word_of : (ns : List ℕ) (c : ℕ) → AreFlags ns slots → IsWordOf slots c (get_or ns c 0)
  word_of ns c are = record { fits = are.words c; flags = λ bit within. flag_read ns slots c bit are within }

module _ (R : RattleType) where
  -- the word of a chunk of a block of n slots
  abbrev pub flags_of : ℕ → Ptr → ℕ → ℕ → Fml
  flags_of n p word c = flags_at R n (block_of p) (count_of p) word c

  pub word_is_near : (n c : ℕ) → Fits R n → c < chunks n → IsWordNear R n c
  word_is_near n c fits near = record { number = number_is R n c fits (omega arith); near = word_near R n c fits near }

  -- a slot of a block
  abbrev pub slot_of : Ptr → Option R.Denot → ℕ → Fml
  slot_of p v j = slot R (block_of p) (count_of p) v j

module _ {M : Type 1} {𝓤 : Ura M} (𝓛 : Logic 𝓤) (R : RattleType) (token : Ty → Ptr → Fml) where
  open signs 𝓛 use {⟦◌⟧, ◌⊢◌, ◌∗◌, ◌-∗◌}

  infix 26 ◌⊢◌
  infixr 35 ◌∗◌
  infixr 30 ◌-∗◌
  abbrev C : Type 0
  C = Option R.Denot

  -- a block all of whose words are made
  abbrev Owns : Ptr → List C → Fml
  Owns p slots = block_owns R token p slots 0

  -- the way back, for whatever the word and the slot become
  abbrev pub Back : Ptr → List C → (j word : ℕ) → Change R.Denot j word → SProp 𝓤
  Back p slots j word x =
      ⟦ flags_of R (length slots) p x.new (j / 64) ⟧ -∗ ⟦ slot_of R p x.value j ⟧
      -∗ ⟦ Owns p (set slots j x.value) ⟧

  pub slot_out : (p : Ptr) (slots : List C) (j : ℕ) → j < length slots
      → ⟦ Owns p slots ⟧
      ⊢ ex 𝓤 (λ (word : ℕ).
      guard 𝓤 (IsSlotIn R p slots j word)
      (⟦ flags_of R (length slots) p word (j / 64) ⟧
      ∗ ⟦ slot_of R p (slot_value slots j) j ⟧ ∗ all 𝓤 (Back p slots j word)))
  slot_out p slots j near =
      let b : ℕ = block_of p in
      let o : ℕ = count_of p in
      let n : ℕ = length slots in
      let c : ℕ = j / 64 in
      let F : ℕ → ℕ → Fml = flags_at R n b o in
      let G : C → ℕ → Fml = slot R b o in
      let Out : ℕ → SProp 𝓤 = λ word.
      guard 𝓤 (IsSlotIn R p slots j word)
      (⟦ F word c ⟧ ∗ ⟦ G (slot_value slots j) j ⟧ ∗ all 𝓤 (Back p slots j word)) in
      qed 𝓛 (‵ (Owns p slots) ∷ []) ∵ fsplit3 ! $ fpick ! (λ so. drop ! $ fpick ! (λ ns. fsplit3 ! $ fpick ! (λ are. drop ! $
      let word : ℕ = get_or ns c 0 in let inside : c < length ns = (let within = in_chunks n j near in let long = are.0 in omega arith) in
      show ! Out word $
      check ! (record {
        lies = so.0;
        place = word_is_near R n c so.1 (in_chunks n j near);
        value_near = value_near R n j so.1 near;
        is_word = word_of slots ns c are.1;
      }) $
      use1 𝓛 (‵ (F word c) ⊛ raw (all 𝓤 (Put 𝓛 F ns 0 c c)))
      (each_at 𝓛 F ns 0 c c 0 (let r : c ≡ c + 0 = omega arith in r) inside) $
      split ! $ frame ! $ move ! (2 ∷ []) $ fsplit ! $
      use1 𝓛 (‵ (G (slot_value slots j) j) ⊛ raw (all 𝓤 (Put 𝓛 G slots 0 j j)))
      (each_at 𝓛 G slots 0 j j None (let r : j ≡ j + 0 = omega arith in r) near) $
      split ! $ frame ! $
      -- [the way back of the slots; the rest of the block; the way back of the words; no room for
      -- words]
      for_each ! (Back p slots j word) (λ x.
      let ms : List ℕ = set ns c x.new in
      let new : List C = set slots j x.value in
      let long : n ≡ length new = sym (length-set slots j x.value) in
      assume ! (‵ (F x.new c)) $ assume ! (‵ (G x.value j)) $ move ! (2 ∷ 0 ∷ []) $
      use1 𝓛 (raw (Put 𝓛 G slots 0 j j x.value)) (all_e 𝓤 (Put 𝓛 G slots 0 j j) x.value) $
      move ! (1 ∷ 0 ∷ []) $
      use2 𝓛 (‵ (each G new 0)) (apply∗ 𝓤 ⟦ G x.value j ⟧ ⟦ each G new 0 ⟧) $ move ! (3 ∷ 1 ∷ []) $
      use1 𝓛 (raw (Put 𝓛 F ns 0 c c x.new)) (all_e 𝓤 (Put 𝓛 F ns 0 c c) x.new) $
      move ! (1 ∷ 0 ∷ []) $
      use2 𝓛 (‵ (each F ms 0)) (apply∗ 𝓤 ⟦ F x.new c ⟧ ⟦ each F ms 0 ⟧) $
      -- [the words; the slots; the way back and the right to free; no room for words]
      move ! (0 ∷ 3 ∷ []) $ rewrite ! 0 (λ (m : ℕ). ‵ (each (flags_at R m b o) ms 0)) long refl $
      nothing ! $ fpack ! ((length ms + 0 ≡ chunks (length new)) × AreFlags ms new) (λ _. ftrue) (
        ap (λ (m : ℕ). m + 0) (length-set ns c x.new) ∙ are.0 ∙ ap chunks long,
        flags_set ns slots j x.new x.value are.1 near inside x.fits x.but,
      ) $
      fjoin3 ! $ fpack ! (List ℕ) (flags_own R b o new 0) ms $ move ! (2 ∷ []) $ fsplit ! $
      rewrite ! 0 (λ (m : ℕ). ‵ (back R b o m)) long refl $
      rewrite ! 1 (λ (m : ℕ). ‵ (token (block_ty R m) p)) long refl $ move ! (3 ∷ 0 ∷ 1 ∷ []) $
      fjoin3 ! $ move ! (1 ∷ 0 ∷ []) $
      nothing ! $ fpack ! (InBlock p × Fits R (length new)) (λ _. ftrue) (so.0, subst (Fits R) long so.1) $ fjoin3 ! $ done !))))

  pub slot_back : (p : Ptr) (slots : List C) (j word : ℕ) (x : Change R.Denot j word)
      → ⟦ flags_of R (length slots) p x.new (j / 64) ⟧ ∗ ⟦ slot_of R p x.value j ⟧
      ∗ all 𝓤 (Back p slots j word)
      ⊢ ⟦ Owns p (set slots j x.value) ⟧
  slot_back p slots j word x =
      let F : Fml = flags_of R (length slots) p x.new (j / 64) in
      let G : Fml = slot_of R p x.value j in
      let new : Fml = Owns p (set slots j x.value) in
      qed 𝓛 (‵ F ∷ ‵ G ∷ raw (all 𝓤 (Back p slots j word)) ∷ []) ∵ move ! (2 ∷ []) $
      use1 𝓛 (raw (Back p slots j word x)) (all_e 𝓤 (Back p slots j word) x) $ move ! (1 ∷ 0 ∷ []) $
      use2 𝓛 (raw (⟦ G ⟧ -∗ ⟦ new ⟧)) (apply∗ 𝓤 ⟦ F ⟧ (⟦ G ⟧ -∗ ⟦ new ⟧)) $ move ! (1 ∷ 0 ∷ []) $
      by ! (apply∗ 𝓤 ⟦ G ⟧ ⟦ new ⟧)

  -- a chunk's word of a block, for reading
  pub word_out : (p : Ptr) (slots : List C) (c : ℕ) → c * 64 < length slots
      → ⟦ Owns p slots ⟧
      ⊢ ex 𝓤 (λ (word : ℕ).
      guard 𝓤 (IsWordIn R p slots c word)
      (⟦ flags_of R (length slots) p word c ⟧
      ∗ (⟦ flags_of R (length slots) p word c ⟧ -∗ ⟦ Owns p slots ⟧)))
  word_out p slots c near =
      let b : ℕ = block_of p in
      let o : ℕ = count_of p in
      let n : ℕ = length slots in
      let F : ℕ → ℕ → Fml = flags_at R n b o in
      let Out : ℕ → SProp 𝓤 = λ word.
      guard 𝓤 (IsWordIn R p slots c word) (⟦ F word c ⟧ ∗ (⟦ F word c ⟧ -∗ ⟦ Owns p slots ⟧)) in
      qed 𝓛 (‵ (Owns p slots) ∷ []) ∵ fsplit3 ! $ fpick ! (λ so. drop ! $ fpick ! (λ ns. fsplit3 ! $ fpick ! (λ are. drop ! $
      let word : ℕ = get_or ns c 0 in let inside : c < length ns = (let within = chunk_in n c near in let long = are.0 in omega arith) in
      show ! Out word $
      check ! (record {
        lies = so.0;
        place = word_is_near R n c so.1 (chunk_in n c near);
        is_word = word_of slots ns c are.1;
      }) $
      use1 𝓛 (‵ (F word c) ⊛ raw (all 𝓤 (Put 𝓛 F ns 0 c c)))
      (each_at 𝓛 F ns 0 c c 0 (let r : c ≡ c + 0 = omega arith in r) inside) $
      split ! $ frame ! $ assume ! (‵ (F word c)) $ move ! (1 ∷ []) $
      use1 𝓛 (raw (Put 𝓛 F ns 0 c c word)) (all_e 𝓤 (Put 𝓛 F ns 0 c c) word) $ move ! (1 ∷ 0 ∷ []) $
      use2 𝓛 (‵ (each F (set ns c word) 0)) (apply∗ 𝓤 ⟦ F word c ⟧ ⟦ each F (set ns c word) 0 ⟧) $
      rewrite ! 0 (λ (ms : List ℕ). ‵ (each F ms 0)) (set-get_or ns c 0) refl $ nothing ! $
      fpack ! ((length ns + 0 ≡ chunks n) × AreFlags ns slots) (λ _. ftrue) are $ fjoin3 ! $
      fpack ! (List ℕ) (flags_own R b o slots 0) ns $
      nothing ! $ fpack ! (InBlock p × Fits R n) (λ _. ftrue) so $ fjoin3 ! $ done !)))
