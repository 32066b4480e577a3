-- The lowest bit of a word that isn't set, by itself.
use Rattle.std.proofs.Common.{◌≡◌, ◌≢◌, ℕ, suc, ◌+◌, ◌-◌, ◌*◌, ◌/◌, ◌%◌, ◌^◌, ◌<◌, ◌≤◌, sym, ap, ◌∙◌, arith, ⊎_elim, bit_and, pow_pos}
use Rattle.std.specs.Int.{w64, bit_not, bit_at}
use Rattle.std.proofs.Math.Nat.{div-add-mod, mod-lt, mul_comm, suc-mul}
use Rattle.std.proofs.lemmas.Bool.{cases_eq, cases_lt, eqb-true}
use Rattle.std.proofs.lemmas.Nat.{pow_below}
use Rattle.std.proofs.lemmas.Nat.Bits.{bit_at-zero, bit_at-lt, bit_at_lowest, bit_at_and, bit_at_not, bit_at_ones, bit_at-pow_same, bit_at-pow_other}
use Rattle.std.proofs.lemmas.Nat.Bits.{bit_at_cat_low, bit_at_cat_high, same_from_bits_below}
use Rattle.thread_local_base.specs.Bits.{IsLowestUnset}
use Rattle.thread_local_base.proofs.Word.{bit_at-unset, masked_fits}

-- What lies from this bit on is even, since the bit isn't set; and all bits below it are set. So with
-- one more the bits below are 0, the bit is set, and those above it are the same.
module _ (word bit : ℕ) (fits : word + 1 < 2 ^ 64) (at : IsLowestUnset word bit) where
  abbrev high : ℕ
  high = word / 2 ^ bit

  abbrev low : ℕ
  low = word % 2 ^ bit

  small : low < 2 ^ bit
  small = mod-lt word (pow_pos bit)

  parts : high * 2 ^ bit + low ≡ word
  parts = ap (λ (n : ℕ). n + low) (mul_comm high (2 ^ bit)) ∙ div-add-mod word (2 ^ bit)

  ones : low ≡ 2 ^ bit - 1
  ones =
      let some = pow_pos bit in
      same_from_bits_below bit low (2 ^ bit - 1) small (omega (arith, some))
      (λ i below.
      sym (bit_at_cat_low high bit low i below) ∙ ap (λ (n : ℕ). bit_at n i) parts
      ∙ eqb-true (bit_at word i) 1 (at.lower i below)
      ∙ sym (bit_at_ones bit i below))

  more : suc high * 2 ^ bit + 0 ≡ word + 1
  more =
      let some = pow_pos bit in
      let sum = suc-mul high (2 ^ bit) in
      omega (arith, some, sum, parts, ones)

  above : (i : ℕ) → bit ≤ i → bit_at word i ≡ bit_at high (i - bit)
  above i after = ap (λ (n : ℕ). bit_at n i) (sym parts) ∙ bit_at_cat_high high bit low i small after

  even : high % 2 ≡ 0
  even =
      let none : bit - bit ≡ 0 = omega arith in
      sym (bit_at_lowest high) ∙ ap (λ (n : ℕ). bit_at high n) (sym none) ∙ sym (above bit (omega arith))
      ∙ bit_at-unset word bit at.unset

  -- behind the bit one more changes nothing
  behind : (i : ℕ) → bit < i → bit_at (word + 1) i ≡ bit_at word i
  behind i after =
      let half : ℕ = high / 2 in
      let whole : half * 2 ^ 1 + 0 ≡ high = omega (arith, even) in
      let next : half * 2 ^ 1 + 1 ≡ suc high = omega (arith, even) in
      let none = pow_pos bit in
      ap (λ (n : ℕ). bit_at n i) (sym more) ∙ bit_at_cat_high (suc high) bit 0 i none (omega arith)
      ∙ ap (λ (n : ℕ). bit_at n (i - bit)) (sym next) ∙ bit_at_cat_high half 1 1 (i - bit) (omega arith) (omega arith)
      ∙ sym (bit_at_cat_high half 1 0 (i - bit) (omega arith) (omega arith))
      ∙ ap (λ (n : ℕ). bit_at n (i - bit)) whole
      ∙ sym (above i (omega arith))

  at_bit : bit_at (word + 1) bit ≡ 1
  at_bit =
      let none : bit - bit ≡ 0 = omega arith in
      let some = pow_pos bit in
      let odd : suc high % 2 ≡ 1 = omega (arith, even) in
      ap (λ (n : ℕ). bit_at n bit) (sym more) ∙ bit_at_cat_high (suc high) bit 0 bit some (omega arith)
      ∙ ap (λ (n : ℕ). bit_at (suc high) n) none
      ∙ bit_at_lowest (suc high)
      ∙ odd

  before : (i : ℕ) → i < bit → bit_at (word + 1) i ≡ 0
  before i below = ap (λ (n : ℕ). bit_at n i) (sym more) ∙ bit_at_cat_low (suc high) bit 0 i below ∙ bit_at-zero i

  -- `(word + 1) & !word`
  pub lowest_alone : bit_and (word + 1) (bit_not w64 word) ≡ 2 ^ bit
  lowest_alone =
      same_from_bits_below 64 (bit_and (word + 1) (bit_not w64 word)) (2 ^ bit)
      (masked_fits (word + 1) (bit_not w64 word) fits)
      (pow_below bit 64 at.within)
      (λ i inside.
      let both = bit_at_and (word + 1) (bit_not w64 word) i in
      let turned = bit_at_not w64 word i (omega (arith, fits)) inside in
      let few = bit_at-lt word i in
      ⊎_elim
      (λ (here : i ≡ bit).
      let one : bit_at (word + 1) i ≡ 1 = ap (λ (n : ℕ). bit_at (word + 1) n) here ∙ at_bit in
      let none : bit_at word i ≡ 0 = ap (λ (n : ℕ). bit_at word n) here ∙ bit_at-unset word bit at.unset in
      let set : bit_at (2 ^ bit) i ≡ 1 = ap (λ (n : ℕ). bit_at (2 ^ bit) n) here ∙ bit_at-pow_same bit in
      omega (arith, both, turned, one, none, set))
      (λ (apart : i ≢ bit).
      let unset = bit_at-pow_other bit i apart in
      ⊎_elim
      (λ (below : i < bit). let zero = before i below in omega (arith, both, zero, unset))
      (λ (after : bit ≤ i). let same = behind i (omega (arith, apart)) in omega (arith, both, turned, same, few, unset))
      (cases_lt i bit))
      (cases_eq i bit))
