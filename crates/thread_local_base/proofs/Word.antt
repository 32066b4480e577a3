-- One 64-bit word: testing, setting and clearing a bit, finding the lowest set or unset one, keeping
-- or clearing the highest, and counting the set ones. What is left of the others then.
use Rattle.std.proofs.Common.{◌≡◌, ◌≢◌, ℕ, zero, suc, ◌+◌, ◌-◌, ◌*◌, ◌/◌, ◌%◌, ◌^◌, ◌<◌, ◌≤◌, Bool, true, false, cond}
use Rattle.std.proofs.Common.{eqb, min, max, length, get_or, bit_and, bit_or, bit_xor, not, count_ones, zero-mul, refl, ap, sym}
use Rattle.std.proofs.Common.{subst, ◌∙◌, arith, ⊎_elim, ◌⊎◌, inl, inr}
use Rattle.std.specs.Int.{w64, bit_not, bit_at, trailing_ones, trailing_zeros}
use Rattle.std.specs.Int.Bits.{or_add_and, xor_add_and}
use Rattle.std.specs.List.{count_by}
use Rattle.std.proofs.lemmas.Bool.{cond_both, eqb-true, eqb-false, eq-eqb, ne_eqb, cases_eq, cases_lt}
use Rattle.std.proofs.lemmas.List.{map-id}
use Rattle.std.proofs.lemmas.List.FromFn.{length-map-range_with_len, get_or-map-range_with_len}
use Rattle.std.proofs.Math.Nat.{div-le_self, two-pow-succ}
use Rattle.std.proofs.lemmas.Nat.{pow_pos, pow_below, le-div, div_below, one_shl, or_lt, and_le_l, and_mask}
use Rattle.std.proofs.lemmas.Nat.Bits.{shr_and_one, bit_at-zero, bit_at-lt, bit_at_and, bit_at_or, bit_at_xor, and_pow, bit_at_ones}
use Rattle.std.proofs.lemmas.Nat.Bits.{bit_at-pow_same, bit_at-pow_other}
use Rattle.std.proofs.lemmas.Nat.Bits.{bit_at_ones_above, bit_at-trailing_zeros, bit_at_set_same, bit_at_set_other}
use Rattle.std.proofs.lemmas.Nat.Bits.{bit_at_clear_same, bit_at_clear_other, bit_at-trailing_ones}
use Rattle.std.proofs.lemmas.Nat.Bits.{same_from_bits_below}
use Rattle.std.proofs.lemmas.Simd.{mask_l-lt, bit_mask_l, ones-mask_l}
use lib.Lanes.{mask_l}
use Rattle.thread_local_base.specs.Bits.{is_set, low_bits, IsLowestUnset, IsLowestSet, IsWordBut}

-- a test as code makes it, `word >> bit & 1 == 1`, tells whether the bit is set
pub is_set-test : (word bit : ℕ) → eqb (bit_and (word / 2 ^ bit) 1) 1 ≡ is_set word bit
is_set-test word bit = ap (λ b. eqb b 1) (shr_and_one word bit)

-- no bit of 0 is set
pub is_set-zero : (bit : ℕ) → is_set 0 bit ≡ false
is_set-zero bit = ap (λ b. eqb b 1) (bit_at-zero bit)

-- setting a bit, `word | 1 << bit`, changes that bit and no other
pub set_bit : (word bit : ℕ) → bit < 64 → IsWordBut (bit_or word (1 * 2 ^ bit % 2 ^ 64)) word bit true
set_bit word bit within i inside =
    ⊎_elim
    (λ (same : bit ≡ i). rw (same, eq-eqb i i refl) (ap (λ b. eqb b 1) (bit_at_set_same w64 word i inside)))
    (λ apart. rw (ne_eqb bit i apart) (ap (λ b. eqb b 1) (bit_at_set_other w64 word bit within i (λ e. apart (sym e)))))
    (cases_eq bit i)

-- clearing a bit, `word & !(1 << bit)`, changes that bit and no other
pub clear_bit : (word bit : ℕ) → bit < 64 → IsWordBut (bit_and word (bit_not w64 (1 * 2 ^ bit % 2 ^ 64))) word bit false
clear_bit word bit within i inside =
    ⊎_elim
    (λ (same : bit ≡ i). rw (same, eq-eqb i i refl) (ap (λ b. eqb b 1) (bit_at_clear_same w64 word i inside)))
    (λ apart. rw (ne_eqb bit i apart) (ap (λ b. eqb b 1) (bit_at_clear_other w64 word bit within i inside (λ e. apart (sym e)))))
    (cases_eq bit i)

-- a bit that is added to 1 turns
turned : (bit : ℕ) → bit < 2 → eqb ((bit + 1) % 2) 1 ≡ not (eqb bit 1)
turned zero within = refl
turned (suc zero) within = refl
turned (suc (suc bit)) within = absurd (omega arith)

-- turning a bit, `word ^ 1 << bit`, changes that bit and no other
pub turn_bit : (word bit : ℕ) → bit < 64
    → IsWordBut (bit_xor word (1 * 2 ^ bit % 2 ^ 64)) word bit (not (is_set word bit))
turn_bit word bit within i inside =
    let here = bit_at-lt word i in
    rw (one_shl bit 64 within)
    (⊎_elim
    (λ (same : bit ≡ i).
    rw (same, eq-eqb i i refl)
    (ap (λ b. eqb b 1) (bit_at_xor word (2 ^ i) i ∙ ap (λ b. (bit_at word i + b) % 2) (bit_at-pow_same i))
    ∙ turned (bit_at word i) here))
    (λ apart.
    rw (ne_eqb bit i apart)
    (ap (λ b. eqb b 1)
    (bit_at_xor word (2 ^ bit) i
    ∙ ap (λ b. (bit_at word i + b) % 2) (bit_at-pow_other bit i (λ e. apart (sym e)))
    ∙ omega arith)))
    (cases_eq bit i))

-- every bit of the largest word is set
pub is_set-all_ones : (bit : ℕ) → bit < 64 → is_set (2 ^ 64 - 1) bit ≡ true
is_set-all_ones bit within = ap (λ b. eqb b 1) (bit_at_ones 64 bit within)

-- `trailing_ones` of any other word is the lowest bit that isn't set
pub lowest_unset : (word : ℕ) → word < 2 ^ 64 → word ≢ 2 ^ 64 - 1 → IsLowestUnset word (trailing_ones w64 word)
lowest_unset word fits apart =
    let at = bit_at-trailing_ones w64 word (omega arith) in
    record { within = at.0; unset = ap (λ b. eqb b 1) at.1; lower = λ i below. ap (λ b. eqb b 1) (at.2 i below) }

-- `low_bits` has `count` bits, each of which says whether that bit is set
pub length-low_bits : (count word : ℕ) → length (low_bits count word) ≡ count
unfolding low_bits
length-low_bits count word = length-map-range_with_len (is_set word) 0 count

pub get_or-low_bits : (count word bit : ℕ) → bit < count → get_or (low_bits count word) bit false ≡ is_set word bit
unfolding low_bits
get_or-low_bits count word bit below = get_or-map-range_with_len (is_set word) 0 count bit bit false below (omega arith)

-- a bit as a number is 1 exactly where the bit is set
bit_at-is : (word bit : ℕ) → bit_at word bit ≡ cond (is_set word bit) 1 0
bit_at-is word bit =
    ⊎_elim
    (λ one. rw one refl)
    (λ other. let none : bit_at word bit ≡ 0 = omega (arith, bit_at-lt word bit) in rw none refl)
    (cases_eq (bit_at word bit) 1)

-- a word is the number that its bits make
low_bits-make : (count word : ℕ) → word < 2 ^ count → word ≡ mask_l (low_bits count word)
low_bits-make count word fits =
    same_from_bits_below count word (mask_l (low_bits count word)) fits
    (subst (λ n. mask_l (low_bits count word) < 2 ^ n) (length-low_bits count word)
    (mask_l-lt (low_bits count word)))
    (λ i below.
    bit_at-is word i
    ∙ ap (λ b. cond b 1 0) (sym (get_or-low_bits count word i below))
    ∙ sym (bit_mask_l (low_bits count word) i))

-- `count_ones` counts the bits that are set
pub count_ones-counts : (count word : ℕ) → word < 2 ^ count → count_ones word ≡ count_by (λ b. b) (low_bits count word)
count_ones-counts count word fits =
    ap count_ones (low_bits-make count word fits ∙ ap mask_l (sym (map-id (low_bits count word))))
    ∙ ones-mask_l (λ b. b) (low_bits count word)

-- a bit that isn't set is 0
pub bit_at-unset : (word bit : ℕ) → is_set word bit ≡ false → bit_at word bit ≡ 0
bit_at-unset word bit unset = bit_at-is word bit ∙ ap (λ b. cond b 1 0) unset

-- words with the same bits are equal
pub same_bits : (a b : ℕ) → a < 2 ^ 64 → b < 2 ^ 64 → ((i : ℕ) → i < 64 → is_set a i ≡ is_set b i) → a ≡ b
same_bits a b fits fit same =
    same_from_bits_below 64 a b fits fit
    (λ i inside. bit_at-is a i ∙ ap (λ v. cond v 1 0) (same i inside) ∙ sym (bit_at-is b i))

-- a word without a set bit is 0
pub none_set : (word : ℕ) → word < 2 ^ 64 → ((i : ℕ) → i < 64 → is_set word i ≡ false) → word ≡ 0
none_set word fits none =
    same_from_bits_below 64 word 0 fits (omega arith)
    (λ i within. bit_at-unset word i (none i within) ∙ sym (bit_at-zero i))

-- writing a bit as it is doesn't change the word
pub same_bit : (word bit : ℕ) (value : Bool) → is_set word bit ≡ value → IsWordBut word word bit value
same_bit word bit value told i inside =
    ⊎_elim (λ (same : bit ≡ i). rw (eq-eqb bit i same, ← same) told) (λ apart. rw (ne_eqb bit i apart) refl) (cases_eq bit i)

-- where a bit isn't set, adding it sets it: nothing carries
pub added_is : (word bit : ℕ) → is_set word bit ≡ false → word + 2 ^ bit ≡ bit_or word (2 ^ bit)
added_is word bit unset =
    let none : bit_and word (2 ^ bit) ≡ 0 =
    and_pow word bit ∙ ap (λ b. b * 2 ^ bit) (bit_at-unset word bit unset) ∙ zero-mul (2 ^ bit) in
    omega (arith, or_add_and word (2 ^ bit))

pub added_fits : (word bit : ℕ) → bit < 64 → word < 2 ^ 64 → is_set word bit ≡ false → word + 2 ^ bit < 2 ^ 64
added_fits word bit within fits unset = rw (added_is word bit unset) (or_lt 64 word (2 ^ bit) fits (pow_below bit 64 within))

-- so adding a bit that isn't set, `word + (1 << bit)`, changes that bit and no other
pub add_bit : (word bit : ℕ) → bit < 64 → word < 2 ^ 64 → is_set word bit ≡ false
    → IsWordBut ((word + 2 ^ bit) % 2 ^ 64) word bit true
add_bit word bit within fits unset =
    let fit = added_fits word bit within fits unset in
    let plain : (word + 2 ^ bit) % 2 ^ 64 ≡ bit_or word (1 * 2 ^ bit % 2 ^ 64) =
    (let same : (word + 2 ^ bit) % 2 ^ 64 ≡ word + 2 ^ bit = omega arith in
    same ∙ added_is word bit unset ∙ ap (bit_or word) (sym (one_shl bit 64 within))) in
    rw plain (set_bit word bit within)

-- the same in the form that code has
pub add_shifted : (word bit : ℕ) → bit < 64 → word < 2 ^ 64 → is_set word bit ≡ false
    → IsWordBut ((word + 1 * 2 ^ bit % 2 ^ 64) % 2 ^ 64) word bit true
add_shifted word bit within fits unset = rw (one_shl bit 64 within) (add_bit word bit within fits unset)

-- a word with a bit set or cleared is a word
pub set_fits : (word bit : ℕ) → bit < 64 → word < 2 ^ 64 → bit_or word (1 * 2 ^ bit % 2 ^ 64) < 2 ^ 64
set_fits word bit within fits = or_lt 64 word _ fits (omega arith)

pub masked_fits : (word mask : ℕ) → word < 2 ^ 64 → bit_and word mask < 2 ^ 64
masked_fits word mask fits = omega (arith, and_le_l word mask)

-- and so is a shifted word
pub shifted_right : (word places : ℕ) → word < 2 ^ 64 → word / 2 ^ places < 2 ^ 64
shifted_right word places fits = omega (arith, div-le_self word (2 ^ places))

pub shifted_left : (word places : ℕ) → word * 2 ^ places % 2 ^ 64 < 2 ^ 64
shifted_left word places = omega arith

-- the number of a slot's bit in its word is below 64
pub place_below : (slot : ℕ) → slot % 64 < 64
place_below slot = omega arith

pub bit_fits : (slot : ℕ) → slot % 64 < 2 ^ 64
bit_fits slot = omega arith

-- `trailing_zeros` of a word that isn't 0 is the lowest bit that is set
pub lowest_set : (word : ℕ) → word < 2 ^ 64 → word ≢ 0 → IsLowestSet word (trailing_zeros w64 word)
lowest_set word fits apart =
    let at = bit_at-trailing_zeros w64 word (omega arith) fits in
    record { within = at.0; set = ap (λ b. eqb b 1) at.1; lower = λ i below. ap (λ b. eqb b 1) (at.2 i below) }

-- a word is the sum of one of its set bits and the word without it
cleared_and_bit : (word bit : ℕ) → bit < 64 → word < 2 ^ 64 → is_set word bit ≡ true
    → bit_and word (bit_not w64 (1 * 2 ^ bit % 2 ^ 64)) + 2 ^ bit ≡ word
cleared_and_bit word bit within fits here =
    let rest : ℕ = bit_and word (bit_not w64 (1 * 2 ^ bit % 2 ^ 64)) in
    let but = clear_bit word bit within in
    let gone : is_set rest bit ≡ false = but bit within ∙ rw (eq-eqb bit bit refl) refl in
    let back = set_bit rest bit within in
    let again : (i : ℕ) → i < 64 → is_set (bit_or rest (1 * 2 ^ bit % 2 ^ 64)) i ≡ is_set word i =
    λ i inside. back i inside ∙ ⊎_elim
    (λ (same : bit ≡ i). rw (eq-eqb bit i same, ← same) (sym here))
    (λ apart. rw (ne_eqb bit i apart) (but i inside ∙ rw (ne_eqb bit i apart) refl))
    (cases_eq bit i) in
    added_is rest bit gone ∙ ap (bit_or rest) (sym (one_shl bit 64 within))
    ∙ same_bits (bit_or rest (1 * 2 ^ bit % 2 ^ 64)) word (set_fits rest bit within (masked_fits word _ fits)) fits again

-- so it is the sum of a set bit and any word that has all others
pub rest_and_bit : (rest word bit : ℕ) → bit < 64 → rest < 2 ^ 64 → word < 2 ^ 64 → is_set word bit ≡ true
    → IsWordBut rest word bit false → rest + 2 ^ bit ≡ word
rest_and_bit rest word bit within less fits here but =
    let cleared : ℕ = bit_and word (bit_not w64 (1 * 2 ^ bit % 2 ^ 64)) in
    let same : rest ≡ cleared = same_bits rest cleared less (masked_fits word _ fits)
    (λ i inside. but i inside ∙ sym (clear_bit word bit within i inside)) in
    ap (λ n. n + 2 ^ bit) same ∙ cleared_and_bit word bit within fits here

-- subtracting 1 clears the lowest set bit, and sets those below it
one_less : (word : ℕ) → word < 2 ^ 64 → (bit : ℕ) → IsLowestSet word bit
    → word - 1 ≡ bit_or (bit_and word (bit_not w64 (1 * 2 ^ bit % 2 ^ 64))) (2 ^ bit - 1)
one_less word fits bit low =
    let rest : ℕ = bit_and word (bit_not w64 (1 * 2 ^ bit % 2 ^ 64)) in
    let whole : rest + 2 ^ bit ≡ word = cleared_and_bit word bit low.within fits low.set in
    let but = clear_bit word bit low.within in
    let apart : bit_and rest (2 ^ bit - 1) ≡ 0 = none_set _ (masked_fits rest _ (masked_fits word _ fits)) (λ i inside.
    let both = bit_at_and rest (2 ^ bit - 1) i in
    let none : bit_at (bit_and rest (2 ^ bit - 1)) i ≡ 0 = ⊎_elim
    (λ (below : i < bit).
    let off : bit_at rest i ≡ 0 =
    bit_at-unset rest i
    (but i inside ∙ rw (ne_eqb bit i (λ e. absurd (omega arith))) (low.lower i below)) in
    omega arith)
    (λ from. let off : bit_at (2 ^ bit - 1) i ≡ 0 = bit_at_ones_above bit i from in omega arith)
    (cases_lt i bit) in
    ap (λ b. eqb b 1) none) in
    omega (arith, or_add_and rest (2 ^ bit - 1), pow_pos bit)

-- `word & (word - 1)` clears the lowest set bit, and changes no other
pub clear_lowest_at : (word bit : ℕ) → word < 2 ^ 64 → IsLowestSet word bit → IsWordBut (bit_and word (word - 1)) word bit false
clear_lowest_at word bit fits low i inside =
    let rest : ℕ = bit_and word (bit_not w64 (1 * 2 ^ bit % 2 ^ 64)) in
    let but = clear_bit word bit low.within in
    let less : bit_at (word - 1) i ≡ max (bit_at rest i) (bit_at (2 ^ bit - 1) i) =
    ap (λ w. bit_at w i) (one_less word fits bit low) ∙ bit_at_or rest (2 ^ bit - 1) i in
    let both : bit_at (bit_and word (word - 1)) i ≡ min (bit_at word i) (bit_at (word - 1) i) = bit_at_and word (word - 1) i in
    ⊎_elim
    (λ (same : bit ≡ i).
    let gone : bit_at rest i ≡ 0 = bit_at-unset rest i (but i inside ∙ rw (eq-eqb bit i same) refl) in
    let above : bit_at (2 ^ bit - 1) i ≡ 0 = bit_at_ones_above bit i (omega arith) in
    let none : bit_at (bit_and word (word - 1)) i ≡ 0 = omega arith in
    rw (eq-eqb bit i same) (ap (λ b. eqb b 1) none))
    (λ (apart : bit ≢ i).
    let keeps : bit_at rest i ≡ bit_at word i =
    bit_at-is rest i
    ∙ ap (λ b. cond b 1 0) (but i inside ∙ rw (ne_eqb bit i apart) refl)
    ∙ sym (bit_at-is word i) in
    let same : bit_at (bit_and word (word - 1)) i ≡ bit_at word i = ⊎_elim
    (λ (below : i < bit). let off : bit_at word i ≡ 0 = bit_at-unset word i (low.lower i below) in omega arith)
    (λ from. let above : bit_at (2 ^ bit - 1) i ≡ 0 = bit_at_ones_above bit i from in omega arith)
    (cases_lt i bit) in
    rw (ne_eqb bit i apart) (ap (λ b. eqb b 1) same))
    (cases_eq bit i)

-- setting the lowest bit, `word | 1`, adds 1 to an even number
set_lowest : (word : ℕ) → bit_or word 1 ≡ word + 1 - word % 2
set_lowest word = omega (arith, or_add_and word 1, and_mask word 1)

-- so it keeps the highest bit of a number that isn't 0
pub highest_kept : (word bit : ℕ) → 0 < word → 2 ^ bit ≤ bit_or word 1 → bit_or word 1 < 2 * 2 ^ bit
    → (2 ^ bit ≤ word) × (word < 2 * 2 ^ bit)
highest_kept word zero some low high = let set = set_lowest word in (omega arith, omega arith)
highest_kept word (suc bit) some low high = let set = set_lowest word in let twice = two-pow-succ bit in (omega arith, omega arith)

-- `word ^ (1 << bit)` clears the highest bit
pub without_highest : (word bit size : ℕ) → 2 ^ bit ≤ word → word < 2 * 2 ^ bit → size ≡ 2 ^ bit
    → bit_xor word size + size ≡ word
without_highest word bit size low high same =
    let some = pow_pos bit in
    let one : word / 2 ^ bit ≡ 1 = omega (arith, le-div 1 word (2 ^ bit) some (omega arith), div_below word (2 ^ bit) 2 some high) in
    let kept : bit_and word (2 ^ bit) ≡ 2 ^ bit = and_pow word bit ∙ ap (λ quotient. quotient % 2 * 2 ^ bit) one ∙ omega arith in
    rw same (omega (arith, xor_add_and word (2 ^ bit), kept))

-- What is known of a bit once another one is cleared, or set.
-- no bit of 0 is set
pub never_set : {X : Type 0} (word bit : ℕ) → word ≡ 0 → is_set word bit ≡ true → X
never_set word bit none set =
    let never : true ≡ false = sym set ∙ ap (λ (n : ℕ). is_set n bit) none ∙ is_set-zero bit in
    cc

-- a bit that is set once one is cleared: it is another one, and was set
pub still_set : (rest word low bit : ℕ) → IsWordBut rest word low false → bit < 64 → is_set rest bit ≡ true
    → (low ≢ bit) × (is_set word bit ≡ true)
still_set rest word low bit but small set =
    let e : cond (eqb low bit) false (is_set word bit) ≡ true = sym (but bit small) ∙ set in
    cond_both {A = Bool} (eqb low bit) false (is_set word bit)
    (λ (u : Bool). u ≡ true → (low ≢ bit) × (is_set word bit ≡ true))
    (λ t unset. let never : false ≡ true = unset in cc) (λ f here. (eqb-false low bit f, here)) e

-- once the lowest is cleared, it is higher, too
pub record IsLater (word low bit : ℕ) : Type 0 where
  pub set : is_set word bit ≡ true
  pub higher : low < bit

pub later : (rest word low bit : ℕ) → IsLowestSet word low → IsWordBut rest word low false → bit < 64 → is_set rest bit ≡ true
    → IsLater word low bit
later rest word low bit lowest but small set =
    let both = still_set rest word low bit but small set in
    record {
      set = both.1;
      higher =
          ⊎_elim (λ (below : bit < low). let never : true ≡ false = sym both.1 ∙ lowest.lower bit below in cc)
          (λ (above : low ≤ bit). let apart = both.0 in omega arith) (cases_lt bit low);
    }

-- any bit but the one that was cleared is as it was
pub as_before : (rest word low bit : ℕ) → IsWordBut rest word low false → bit < 64 → low ≢ bit → is_set rest bit ≡ is_set word bit
as_before rest word low bit but small apart =
    but bit small ∙ ap (λ (u : Bool). cond u false (is_set word bit)) (ne_eqb low bit apart)

-- a bit that was set, and isn't the lowest, is set still
pub stays_set : (rest word low bit : ℕ) → IsWordBut rest word low false → bit < 64 → low ≢ bit → is_set word bit ≡ true
    → is_set rest bit ≡ true
stays_set rest word low bit but small apart set = as_before rest word low bit but small apart ∙ set

-- where one bit is set in addition, that bit is set, and any other was set before
pub added_set : (word old bit : ℕ) → IsWordBut word old bit true → bit < 64 → is_set word bit ≡ true
added_set word old bit but small =
    but bit small ∙ ap (λ (u : Bool). cond u true (is_set old bit)) (eq-eqb bit bit refl)

pub was_set : (word old one bit : ℕ) → IsWordBut word old one true → bit < 64 → is_set word bit ≡ true
    → (one ≡ bit) ⊎ (is_set old bit ≡ true)
was_set word old one bit but small set =
    let e : cond (eqb one bit) true (is_set old bit) ≡ true = sym (but bit small) ∙ set in
    cond_both {A = Bool} (eqb one bit) true (is_set old bit) (λ (u : Bool). u ≡ true → (one ≡ bit) ⊎ (is_set old bit ≡ true))
    (λ t _. inl (eqb-true one bit t)) (λ f here. inr here) e

-- where one bit is set in addition, every bit that was set is
pub keeps_bit : (word old one bit : ℕ) → IsWordBut word old one true → bit < 64 → is_set old bit ≡ true → is_set word bit ≡ true
keeps_bit word old one bit but small set =
    but bit small ∙ cond_both {A = Bool} (eqb one bit) true (is_set old bit) (λ (u : Bool). u ≡ true) (λ t. refl) (λ f. set)
