-- The arithmetic of a block: how many chunks it has, the offsets of its words and values, and what
-- its words of flags say of its slots.
use Rattle.thread_local_base.proofs.Names.{◌≡◌, ℕ, zero, suc, ◌+◌, ◌*◌, ◌^◌, ◌<◌, ◌≤◌, List, [], ◌∷◌, ◌++◌, length}
use Rattle.thread_local_base.proofs.Names.{set, is_some, refl, sym, ap, ◌∙◌, subst, arith, lit<, mul-le-mul_right}
use Rattle.thread_local_base.proofs.Names.{suc-mul, zero-mul, RattleType, lone, Option, None}
use Rattle.std.specs.Prelude.{◌/◌, ◌%◌, min, replicate, slice_index}
use Rattle.std.proofs.Common.{⊎_elim, le_of_lt, ap₂}
use Rattle.std.proofs.lemmas.Bool.{cases_lt, cases_eq, eq-eqb, ne_eqb}
use Rattle.std.proofs.lemmas.List.{get_or-set_same, get_or-set_other, get_or-replicate, get_or_past, length-replicate}
use mir.Syntax.{Width, w8, w16, w32, w64, w128}
use mir.Val.{bytes}
use prog.Memory.{size, align, up, capped}
use prog.Capped.{capped_is}
use prog.Align.{up-ge, align_w, align-bytes}
use Rattle.thread_local_base.specs.Bits.{is_set, is_set_in, IsWordBut}
use Rattle.thread_local_base.proofs.WordBits.{is_set_in-set, is_set_in-zeros, get_or-push_zero, is_set_in-push_zero}
use Rattle.thread_local_buckets.specs.Slots.{empty_slots, slot_value, chunks, AreFlagsFrom, AreFlags, stride}
use Rattle.thread_local_buckets.specs.Slots.{value_words, slots_ty, Fits, flag_word_at}

-- ---- how many chunks there are

-- as code counts them
pub chunks_counted : (n : ℕ) → n / 64 + min 1 (n % 64) ≡ chunks n
chunks_counted n = omega arith

-- a slot's chunk is one of them
pub in_chunks : (n j : ℕ) → j < n → j / 64 < chunks n
in_chunks n j near = omega arith

-- a chunk in which a slot lies is one of them
pub chunk_in : (n c : ℕ) → c * 64 < n → c < chunks n
chunk_in n c near = omega arith

-- ---- the offsets of words and values

-- m bytes rounded up to whole words
pub whole_words : (m : ℕ) → up 8 m ≡ (m + 7) / 8 * 8
whole_words m = omega arith

-- the first field of a struct is at the struct's offset
starts : (w : Width) → up (bytes w) 0 ≡ 0
starts w8 = refl
starts w16 = refl
starts w32 = refl
starts w64 = refl
starts w128 = refl

-- where a product is below 2 ^ 64, capping the size in it changes nothing
pub uncapped : (i k : ℕ) → i * k < 2 ^ 64 → i * capped k ≡ i * k
uncapped zero k h = zero-mul (capped k) ∙ sym (zero-mul k)
uncapped (suc i) k h = let more = suc-mul i k in ap (λ (j : ℕ). suc i * j) (capped_is k (omega arith))

module _ (R : RattleType) where
  pub values_start : up (align (lone R.mir)) 0 ≡ 0
  values_start = subst (λ (a : ℕ). up a 0 ≡ 0) (sym (align-bytes (lone R.mir))) (starts (align_w (lone R.mir)))

  pub words_start : (n : ℕ) → up 8 (up (align (lone R.mir)) 0 + n * stride R) ≡ value_words R n * 8
  words_start n =
      let m : ℕ = n * stride R in
      let first : up (align (lone R.mir)) 0 + m ≡ m = (let z = values_start in omega arith) in
      ap (up 8) first ∙ whole_words m

  -- a block holds its values and its words, and is aligned
  pub slots_size : (n : ℕ) → size (slots_ty R n) ≡ up (align (slots_ty R n)) ((value_words R n + chunks n) * 8)
  slots_size n = ap (up (align (slots_ty R n))) (ap (λ (z : ℕ). z + chunks n * 8) (words_start n) ∙ (omega arith))

  holds : (n : ℕ) → (value_words R n + chunks n) * 8 ≤ size (slots_ty R n)
  holds n =
      subst (λ (z : ℕ). (value_words R n + chunks n) * 8 ≤ z) (sym (slots_size n))
      (up-ge (align (slots_ty R n)) ((value_words R n + chunks n) * 8))

  pub words_near : (n c : ℕ) → Fits R n → c ≤ chunks n → (value_words R n + c) * 8 < 2 ^ 63
  words_near n c fits near = let most = holds n in omega arith

  pub word_near : (n c : ℕ) → Fits R n → c < chunks n → (value_words R n + c) * 8 < 2 ^ 64
  word_near n c fits near = let less = words_near n c fits (omega arith) in omega arith

  -- the offset of a slot's value is below 2 ^ 64
  pub value_near : (n j : ℕ) → Fits R n → j < n → j * stride R < 2 ^ 64
  value_near n j fits near =
      let most : j * stride R ≤ n * stride R = mul-le-mul_right (stride R) (le_of_lt near) in
      let less = words_near n 0 fits (omega arith) in
      omega arith

  -- what code computes is the number of the word
  pub number_is : (n c : ℕ) → Fits R n → c ≤ chunks n → flag_word_at R n c ≡ value_words R n + c
  number_is n c fits near =
      let less = words_near n c fits near in
      let plain : n * capped (stride R) ≡ n * stride R = uncapped n (stride R) (omega arith) in
      omega arith

-- ---- what the words say

-- a word of flags says of each slot of its chunk whether it has a value
module _ {X : Type 0} where
  pub flag_read : (ns : List ℕ) (slots : List (Option X)) (c bit : ℕ) → AreFlags ns slots → bit < 64
      → is_set (slice_index ns c) bit ≡ is_some (slot_value slots (c * 64 + bit))
  flag_read ns slots c bit are within =
      let here : (c * 64 + bit) / 64 ≡ c = omega arith in
      let place : (c * 64 + bit) % 64 ≡ bit = omega arith in
      ap₂ (λ a i. is_set (slice_index ns a) i) (sym here) (sym place) ∙ are.flags (c * 64 + bit)

  -- a slot gets a value or loses it: its bit changes, and no other
  pub flags_set : (ns : List ℕ) (slots : List (Option X)) (j word : ℕ) (v : Option X)
      → AreFlags ns slots → j < length slots → j / 64 < length ns → word < 2 ^ 64
      → IsWordBut word (slice_index ns (j / 64)) (j % 64) (is_some v) → AreFlags (set ns (j / 64) word) (set slots j v)
  flags_set ns slots j word v are near chunk fits but = record {
    words = λ c. ⊎_elim
        (λ (here : c ≡ j / 64). rw (here, get_or-set_same ns (j / 64) word 0 chunk) fits)
        (λ apart. rw (get_or-set_other ns (j / 64) c word 0 apart) (are.words c))
        (cases_eq c (j / 64));
    flags = λ i. is_set_in-set ns j word (is_some v) chunk but i ∙ ⊎_elim
        (λ (here : j ≡ i). rw (eq-eqb j i here, ← here, get_or-set_same slots j v None near) refl)
        (λ apart. rw (ne_eqb j i apart, get_or-set_other slots j i v None (λ e. apart (sym e))) (are.flags i))
        (cases_eq j i);
  }

  -- words that are 0 are the flags of slots without values
  no_value : (n j : ℕ) → slot_value (empty_slots {X = X} n) j ≡ None
  no_value n j = ⊎_elim
      (λ within. get_or-replicate n j None None within)
      (λ past. get_or_past (empty_slots n) j None (omega (arith, length-replicate {A = Option X} n None)))
      (cases_lt j n)

  pub flags_none : (k n : ℕ) → AreFlags (replicate k 0) (empty_slots {X = X} n)
  flags_none k n = record {
    words = λ c. ⊎_elim
        (λ within. rw (get_or-replicate {A = ℕ} k c 0 0 within) (lit< tt))
        (λ past. rw (get_or_past {X = ℕ} (replicate k 0) c 0 (omega (arith, length-replicate {A = ℕ} k 0))) (lit< tt))
        (cases_lt c k);
    flags = λ j. is_set_in-zeros k j ∙ sym (ap is_some (no_value n j));
  }

  -- the same with a further word that is 0
  pub flags_more : (ns : List ℕ) (slots : List (Option X)) → AreFlags ns slots → AreFlags (ns ++ 0 ∷ []) slots
  flags_more ns slots are = record {
    words = λ c. rw (get_or-push_zero ns c) (are.words c);
    flags = λ j. is_set_in-push_zero ns j ∙ are.flags j;
  }

  -- the flags from a slot on are that slot's flag and the flags after it
  pub flag_first : (from : ℕ) (ns : List ℕ) (v : Option X) (slots : List (Option X))
      → AreFlagsFrom from ns (v ∷ slots)
      → is_set_in ns from ≡ is_some v
  flag_first from ns v slots are = let same : 0 + from ≡ from = omega arith in ap (is_set_in ns) (sym same) ∙ are 0

  pub flags_behind : (from : ℕ) (ns : List ℕ) (v : Option X) (slots : List (Option X))
      → AreFlagsFrom from ns (v ∷ slots)
      → AreFlagsFrom (suc from) ns slots
  flags_behind from ns v slots are j = let same : j + suc from ≡ suc j + from = omega arith in ap (is_set_in ns) same ∙ are (suc j)
