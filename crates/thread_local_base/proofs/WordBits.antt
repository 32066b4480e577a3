-- A list of 64-bit words as one list of bits: writing a bit, finding the next unset one, and counting
-- the set ones.
use Rattle.std.proofs.Common.{◌≡◌, ◌≢◌, ℕ, zero, suc, ◌+◌, ◌-◌, ◌*◌, ◌/◌, ◌%◌, ◌^◌, ◌<◌, ◌≤◌, Bool, true, false, cond}
use Rattle.std.proofs.Common.{eqb, List, [], ◌∷◌, ◌++◌, length, get_or, set, replicate, count_ones, refl, ap, sym, ◌∙◌}
use Rattle.std.proofs.Common.{arith, ⊎_elim}
use Rattle.std.specs.Int.{w64, trailing_ones}
use Rattle.std.specs.List.{sum_by, count_by}
use Rattle.std.proofs.lemmas.Bool.{eq-eqb, ne_eqb, cases_eq, cases_lt}
use Rattle.std.proofs.lemmas.List.{length-append, append_assoc, get_or_append_left, get_or-append_right}
use Rattle.std.proofs.lemmas.List.{get_or-set_same, get_or-set_other, length-set, ext_get_or, get_or-replicate}
use Rattle.std.proofs.lemmas.List.{get_or_past, length-replicate}
use Rattle.std.proofs.lemmas.List.Sums.{sum_by-cons, sum_by-append}
use Rattle.thread_local_base.specs.Bits.{is_set, is_set_in, low_bits, bits_of, IsNextUnset, IsWordBut}
use Rattle.thread_local_base.proofs.Word.{is_set-zero, is_set-all_ones, lowest_unset, length-low_bits, get_or-low_bits, count_ones-counts}

-- there are 64 bits for each word
pub length-bits_of : (words : List ℕ) → length (bits_of words) ≡ length words * 64
unfolding bits_of
length-bits_of [] = refl
length-bits_of (word ∷ words) =
    omega (arith, length-append (low_bits 64 word) (bits_of words), length-low_bits 64 word, length-bits_of words)

-- bit j is bit j % 64 of word j / 64, and past the last word no bit is set
pub get_or-bits_of : (words : List ℕ) (bit : ℕ) → get_or (bits_of words) bit false ≡ is_set_in words bit
unfolding bits_of
get_or-bits_of [] bit = sym (is_set-zero (bit % 64))
get_or-bits_of (word ∷ words) bit =
    ⊎_elim
    (λ (below : bit < 64).
    let inside : bit < length (low_bits 64 word) = omega (arith, length-low_bits 64 word) in
    let first : bit / 64 ≡ 0 = omega arith in
    let same : bit % 64 ≡ bit = omega arith in
    rw (first, same) (get_or_append_left (low_bits 64 word) (bits_of words) false bit inside ∙ get_or-low_bits 64 word bit below))
    (λ (from : 64 ≤ bit).
    let next : bit / 64 ≡ suc ((bit - 64) / 64) = omega arith in
    let same : bit % 64 ≡ (bit - 64) % 64 = omega arith in
    rw (next, same) (get_or-append_right (low_bits 64 word) (bits_of words) 64 bit false
    (length-low_bits 64 word) from
    ∙ get_or-bits_of words (bit - 64)))
    (cases_lt bit 64)

-- appending words appends their bits
pub bits_of-append : (words more : List ℕ) → bits_of (words ++ more) ≡ bits_of words ++ bits_of more
unfolding bits_of
bits_of-append [] more = refl
bits_of-append (word ∷ words) more =
    ap (λ bits. low_bits 64 word ++ bits) (bits_of-append words more)
    ∙ sym (append_assoc (low_bits 64 word) (bits_of words) (bits_of more))

-- where one bit of a word changes, that bit of the list changes and no other
pub is_set_in-set : (words : List ℕ) (bit word : ℕ) (value : Bool) → bit / 64 < length words
    → IsWordBut word (get_or words (bit / 64) 0) (bit % 64) value
    → (i : ℕ) → is_set_in (set words (bit / 64) word) i ≡ cond (eqb bit i) value (is_set_in words i)
is_set_in-set words bit word value within but i =
    ⊎_elim
    (λ (same : i / 64 ≡ bit / 64).
    let read : get_or (set words (bit / 64) word) (i / 64) 0 ≡ word = rw same (get_or-set_same words (bit / 64) word 0 within) in
    let now : is_set_in (set words (bit / 64) word) i
    ≡ cond (eqb (bit % 64) (i % 64)) value (is_set_in words i) =
    rw (read, same) (but (i % 64) (omega arith)) in
    ⊎_elim
    (λ (here : bit ≡ i). now ∙ rw (here, eq-eqb i i refl, eq-eqb (i % 64) (i % 64) refl) refl)
    (λ apart. now ∙ rw (ne_eqb bit i apart, ne_eqb (bit % 64) (i % 64) (λ e. apart (omega arith))) refl)
    (cases_eq bit i))
    (λ (apart : i / 64 ≢ bit / 64).
    rw (ne_eqb bit i (λ e. apart (ap (λ n. n / 64) (sym e))))
    (ap (λ w. is_set w (i % 64)) (get_or-set_other words (bit / 64) (i / 64) word 0 apart)))
    (cases_eq (i / 64) (bit / 64))

pub bits_of-set : (words : List ℕ) (bit word : ℕ) (value : Bool) → bit / 64 < length words
    → IsWordBut word (get_or words (bit / 64) 0) (bit % 64) value
    → bits_of (set words (bit / 64) word) ≡ set (bits_of words) bit value
bits_of-set words bit word value within but =
    let many = length-bits_of words in
    ext_get_or false _ _ (length-bits_of (set words (bit / 64) word)
    ∙ ap (λ n. n * 64) (length-set words (bit / 64) word)
    ∙ sym many
    ∙ sym (length-set (bits_of words) bit value))
    (λ i _.
    get_or-bits_of (set words (bit / 64) word) i ∙ is_set_in-set words bit word value within but i
    ∙ ⊎_elim
    (λ (here : bit ≡ i). rw (here, eq-eqb i i refl) (sym (get_or-set_same (bits_of words) i value false (omega arith))))
    (λ apart.
    rw (ne_eqb bit i apart) (sym (get_or-bits_of words i)
    ∙ sym (get_or-set_other (bits_of words) bit i value false (λ e. apart (sym e)))))
    (cases_eq bit i))

-- in words that are 0 no bit is set
pub is_set_in-zeros : (count bit : ℕ) → is_set_in (replicate count 0) bit ≡ false
is_set_in-zeros count bit =
    let zeros : List ℕ = replicate count 0 in
    ⊎_elim
    (λ within. ap (λ w. is_set w (bit % 64)) (get_or-replicate count (bit / 64) 0 0 within) ∙ is_set-zero (bit % 64))
    (λ past.
    ap (λ w. is_set w (bit % 64))
    (get_or_past zeros (bit / 64) 0 (omega (arith, length-replicate {A = ℕ} count 0)))
    ∙ is_set-zero (bit % 64))
    (cases_lt (bit / 64) count)

-- appending a word that is 0 sets no bit
pub get_or-push_zero : (words : List ℕ) (at : ℕ) → get_or (words ++ 0 ∷ []) at 0 ≡ get_or words at 0
get_or-push_zero [] zero = refl
get_or-push_zero [] (suc at) = refl
get_or-push_zero (word ∷ words) zero = refl
get_or-push_zero (word ∷ words) (suc at) = get_or-push_zero words at

pub is_set_in-push_zero : (words : List ℕ) (bit : ℕ) → is_set_in (words ++ 0 ∷ []) bit ≡ is_set_in words bit
is_set_in-push_zero words bit = ap (λ word. is_set word (bit % 64)) (get_or-push_zero words (bit / 64))

-- in a word that is all ones every bit is set
pub is_set_in-all_ones : (words : List ℕ) (at bit : ℕ) → get_or words at 0 ≡ 2 ^ 64 - 1
    → at * 64 ≤ bit → bit < (at + 1) * 64
    → is_set_in words bit ≡ true
is_set_in-all_ones words at bit full from below =
    let here : bit / 64 ≡ at = omega arith in
    rw (here, full) (is_set-all_ones (bit % 64) (omega arith))

-- in a word that isn't all ones, `trailing_ones` is the next unset bit
pub next_unset : (words : List ℕ) (at word : ℕ) → word ≡ get_or words at 0 → word < 2 ^ 64 → word ≢ 2 ^ 64 - 1
    → IsNextUnset words (at * 64) (at * 64 + trailing_ones w64 word)
next_unset words at word read fits apart =
    let low = lowest_unset word fits apart in
    let bit : ℕ = trailing_ones w64 word in
    let within : bit < 64 = low.within in
    let here : (at * 64 + bit) / 64 ≡ at = omega arith in
    let place : (at * 64 + bit) % 64 ≡ bit = omega arith in
    record {
      after = omega arith;
      unset = rw (here, place, ← read) low.unset;
      between = λ i from below.
          let word_of : i / 64 ≡ at = omega arith in
          rw (word_of, ← read) (low.lower (i % 64) (omega arith));
    }

-- the same from a lower bit on, where every bit between it and that word is set
pub next_unset_from : (words : List ℕ) (from at bit : ℕ) → from ≤ at
    → ((i : ℕ) → from ≤ i → i < at → is_set_in words i ≡ true) → IsNextUnset words at bit
    → IsNextUnset words from bit
next_unset_from words from at bit before full next = record {
  after = let after = next.after in omega arith;
  unset = next.unset;
  between = λ i lower below. ⊎_elim (λ first. full i lower first) (λ then. next.between i then below) (cases_lt i at);
}

-- the sum of `count_ones` over the words counts the bits that are set
pub count_ones-sum : (words : List ℕ) → ((at : ℕ) → at < length words → get_or words at 0 < 2 ^ 64)
    → sum_by count_ones words ≡ count_by (λ b. b) (bits_of words)
unfolding bits_of
count_ones-sum [] fit = refl
count_ones-sum (word ∷ words) fit =
    sum_by-cons count_ones word words
    ∙ (let first = count_ones-counts 64 word (fit 0 (omega arith)) in
    let rest = count_ones-sum words (λ at within. fit (suc at) (omega arith)) in
    rw (first, rest) (sym (sum_by-append (λ b. cond b 1 0) (low_bits 64 word) (bits_of words))))
