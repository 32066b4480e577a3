-- What takes and returns make of the word of the first ids, and of which rights are out.
use Rattle.std.proofs.Common.{◌≡◌, ◌≢◌, ℕ, ◌+◌, ◌-◌, ◌*◌, ◌/◌, ◌%◌, ◌^◌, ◌<◌, ◌≤◌, ◌==◌, ◌&&◌, min, Bool, true, false, cond}
use Rattle.std.proofs.Common.{List, [], ◌∷◌, length, if◌then◌else◌, refl, sym, ap, subst, ◌∙◌, arith, ⊎_elim, eqb, bit_or, bit_and}
use Rattle.std.specs.Int.{w64, bit_not}
use Rattle.std.proofs.lemmas.Bool.{eq-eqb, ne_eqb, eqb-true, cases_eq, cases_lt}
use Rattle.std.proofs.lemmas.Nat.{one_shl, or_lt, pow_below}
use Rattle.std.proofs.lemmas.Nat.Bits.{bit_at_ones}
use Rattle.thread_local_base.specs.Bits.{is_set, IsLowestUnset}
use Rattle.thread_local_base.specs.Held.{is_held, least, with_least, without, HoldsAllBelow}
use Rattle.thread_local_base.proofs.HeldLaws.{least_free, least_lower, least_only, is_held-with_least, length-with_least, is_held-without, length-without}
use Rattle.thread_local_base.proofs.HeldLaws.{least_bounded}
use Rattle.thread_local_base.proofs.Word.{is_set-zero, set_bit, clear_bit, added_is, same_bits, set_fits, masked_fits}
use Rattle.thread_local_ids.specs.Rights.{less}
use Rattle.thread_local_ids.specs.FirstIds.{IsWordOf, IsSameBeyond, HasFurther, AreOutOf, is_full, word_with}
use Rattle.thread_local_ids.proofs.RightElements.{is_out-less}

-- ---- the word
-- the lowest bit of the first ids that isn't set is the least id that isn't held
pub lowest_is_least : (n id : ℕ) (held : List Bool) → IsWordOf n held → IsLowestUnset (n / 64) id → id < 58 → id ≡ least held
lowest_is_least n id held w low first =
    least_only held id (sym (w.bits id first) ∙ low.unset)
    (λ i below. sym (w.bits i (omega (arith, below, first))) ∙ low.lower i below)

-- where an id's bit isn't set, adding it sets it
added : (w id : ℕ) → id < 58 → is_set w id ≡ false → (i : ℕ) → i < 58 → is_set (w + 2 ^ id) i ≡ cond (eqb id i) true (is_set w i)
added w id first unset i inside =
    let same : w + 2 ^ id ≡ bit_or w (1 * 2 ^ id % 2 ^ 64) =
    added_is w id unset ∙ ap (bit_or w) (sym (one_shl id 64 (omega (arith, first)))) in
    ap (λ (n : ℕ). is_set n i) same ∙ set_bit w id (omega (arith, first)) i (omega (arith, inside))

added_fits : (w id : ℕ) → id < 58 → w < 2 ^ 58 → is_set w id ≡ false → w + 2 ^ id < 2 ^ 58
added_fits w id first fits unset =
    subst (λ (n : ℕ). n < 2 ^ 58) (sym (added_is w id unset)) (or_lt 58 w (2 ^ id) fits (pow_below id 58 first))

-- a word is the sum of one of its set bits and the word without it
without_bit : (w id : ℕ) → id < 58 → w < 2 ^ 64 → is_set w id ≡ true
    → bit_and w (bit_not w64 (1 * 2 ^ id % 2 ^ 64)) + 2 ^ id ≡ w
without_bit w id first fits here =
    let within : id < 64 = omega (arith, first) in
    let rest : ℕ = bit_and w (bit_not w64 (1 * 2 ^ id % 2 ^ 64)) in
    let but = clear_bit w id within in
    let gone : is_set rest id ≡ false = but id within ∙ rw (eq-eqb id id refl) refl in
    let back = set_bit rest id within in
    let again : (i : ℕ) → i < 64 → is_set (bit_or rest (1 * 2 ^ id % 2 ^ 64)) i ≡ is_set w i =
    λ i inside. back i inside ∙ ⊎_elim
    (λ (same : id ≡ i). rw (eq-eqb id i same, ← same) (sym here))
    (λ apart. rw (ne_eqb id i apart) (but i inside ∙ rw (ne_eqb id i apart) refl))
    (cases_eq id i) in
    added_is rest id gone ∙ ap (bit_or rest) (sym (one_shl id 64 within))
    ∙ same_bits (bit_or rest (1 * 2 ^ id % 2 ^ 64)) w (set_fits rest id within (masked_fits w _ fits)) fits again

-- subtracting a bit that is set unsets it
pub taken_off : (w id : ℕ) → id < 58 → w < 2 ^ 64 → is_set w id ≡ true
    → (2 ^ id ≤ w) × ((i : ℕ) → i < 58 → is_set (w - 2 ^ id) i ≡ cond (eqb id i) false (is_set w i))
taken_off w id first fits here =
    let rest : ℕ = bit_and w (bit_not w64 (1 * 2 ^ id % 2 ^ 64)) in
    let sum : rest + 2 ^ id ≡ w = without_bit w id first fits here in
    let same : w - 2 ^ id ≡ rest = omega (arith, sum) in (
      omega (arith, sum),
      λ i inside. ap (λ (n : ℕ). is_set n i) same ∙ clear_bit w id (omega (arith, first)) i (omega (arith, inside)),
    )

peak_same : (id a : ℕ) (t : Bool) → (id == a) ≡ t → id ≤ a → id < 58
    → (min 58 a) + (if t then 1 else 0) ≡ min 58 (cond t (a + 1) a)
peak_same id a true e below first = let same : id ≡ a = eqb-true id a e in omega (arith, same, first)
peak_same id a false e below first = omega arith

-- tests of equal numbers
test_at : (id a : ℕ) → id < 58 → (id == min 58 a) ≡ (id == a)
test_at id a first =
    ⊎_elim
    (λ (same : id ≡ a). let cut : id ≡ min 58 a = omega (arith, same, first) in eq-eqb id (min 58 a) cut ∙ sym (eq-eqb id a same))
    (λ (apart : id ≢ a).
    let off : id ≢ min 58 a = λ e. apart (omega (arith, e, first)) in ne_eqb id (min 58 a) off ∙ sym (ne_eqb id a apart))
    (cases_eq id a)

-- where it grows, the peak is below 58
grows_below : (id p : ℕ) → id < 58 → p < 59 → p + (if id == p then 1 else 0) < 59
grows_below id p first few =
    ⊎_elim
    (λ (same : id ≡ p). rw (eq-eqb id p same) (omega (arith, same, first)))
    (λ apart. rw (ne_eqb id p apart) (omega (arith, few)))
    (cases_eq id p)

-- the word once the least id is taken
pub word_taken : (n id : ℕ) (held : List Bool) → IsWordOf n held → IsLowestUnset (n / 64) id → id < 58
    → IsWordOf (word_with n id) (with_least held)
word_taken n id held w low first =
    let p : ℕ = n % 64 in
    let more : ℕ = if id == p then 1 else 0 in
    let few : p < 59 = subst (λ (k : ℕ). k < 59) (sym w.peak) (omega arith) in
    let small : p + more < 59 = grows_below id p first few in
    let fits : n / 64 + 2 ^ id < 2 ^ 58 = added_fits (n / 64) id first (omega (arith, w.fits)) low.unset in
    let high : word_with n id / 64 ≡ n / 64 + 2 ^ id = omega (arith, small) in
    let below : word_with n id % 64 ≡ p + more = omega (arith, small) in
    let is : id ≡ least held = lowest_is_least n id held w low first in
    let bound : id ≤ length held = subst (λ (k : ℕ). k ≤ length held) (sym is) (least_bounded held) in
    record {
      fits = omega (arith, fits, small);
      bits = λ i inside.
          ap (λ (k : ℕ). is_set k i) high
          ∙ added (n / 64) id first low.unset i inside
          ∙ ap (cond (eqb id i) true) (w.bits i inside)
          ∙ ap (λ (k : ℕ). cond (eqb k i) true (is_held held i)) is
          ∙ sym (is_held-with_least held i);
      peak =
          below
          ∙ ap (λ (k : ℕ). k + (if id == k then 1 else 0)) w.peak
          ∙ ap (λ (t : Bool). min 58 (length held) + (if t then 1 else 0)) (test_at id (length held) first)
          ∙ peak_same id (length held) (id == length held) refl bound first
          ∙ ap (λ (k : ℕ). min 58 (cond (eqb k (length held)) (length held + 1) (length held))) is
          ∙ ap (min 58) (sym (length-with_least held));
    }

-- the word once a first id is given back
pub word_given : (n id : ℕ) (held : List Bool) → IsWordOf n held → id < 58 → is_held held id ≡ true
    → IsWordOf ((n + (2 ^ 64 - 64 * 2 ^ id)) % 2 ^ 64) (without held id)
word_given n id held w first is =
    let off = taken_off (n / 64) id first (omega (arith, w.fits)) (w.bits id first ∙ is) in
    let low : 2 ^ id ≤ n / 64 = off.0 in
    let new : (n + (2 ^ 64 - 64 * 2 ^ id)) % 2 ^ 64 ≡ n - 64 * 2 ^ id = omega (arith, low, w.fits) in
    let high : (n - 64 * 2 ^ id) / 64 ≡ n / 64 - 2 ^ id = omega (arith, low) in
    let below : (n - 64 * 2 ^ id) % 64 ≡ n % 64 = omega (arith, low) in
    subst (λ (k : ℕ). IsWordOf k (without held id)) (sym new) (record {
      fits = omega (arith, w.fits);
      bits = λ i inside.
          ap (λ (k : ℕ). is_set k i) high
          ∙ off.1 i inside
          ∙ ap (cond (eqb id i) false) (w.bits i inside)
          ∙ sym (is_held-without held id i);
      peak = below ∙ w.peak ∙ ap (min 58) (sym (length-without held id));
    })

-- where a word is full, all first ids are held
pub full_holds : (n : ℕ) (held : List Bool) → IsWordOf n held → is_full n ≡ true → HoldsAllBelow 58 held
full_holds n held w full id first =
    let all : n / 64 ≡ 2 ^ 58 - 1 = eqb-true (n / 64) (2 ^ 58 - 1) full in
    sym (w.bits id first) ∙ ap (λ (k : ℕ). is_set k id) all ∙ ap (λ (b : ℕ). eqb b 1) (bit_at_ones 58 id first)

-- the word once a further id is taken or given back is as it was
pub word_stays : (n : ℕ) (held new : List Bool) → IsWordOf n held → ((id : ℕ) → id < 58 → is_held new id ≡ is_held held id)
    → min 58 (length new) ≡ min 58 (length held) → IsWordOf n new
word_stays n held new w same peak = record {
  fits = w.fits;
  bits = λ i inside. w.bits i inside ∙ sym (same i inside);
  peak = w.peak ∙ sym peak;
}

-- ---- the further ids
pub beyond_taken : (log held : List Bool) → IsSameBeyond log held → least held < 58 → IsSameBeyond log (with_least held)
beyond_taken log held same low id further =
    same id further ∙ sym (is_held-with_least held id ∙ rw (ne_eqb (least held) id (λ e. absurd (omega (arith, e, low, further)))) refl)

pub beyond_given : (log held : List Bool) (id : ℕ) → IsSameBeyond log held → id < 58 → IsSameBeyond log (without held id)
beyond_given log held id same first j further =
    same j further ∙ sym (is_held-without held id j ∙ rw (ne_eqb id j (λ e. absurd (omega (arith, e, first, further)))) refl)

pub peak_taken : (held : List Bool) → least held < 58 → length (with_least held) - 58 ≡ length held - 58
peak_taken held low =
    ⊎_elim
    (λ (same : least held ≡ length held).
    let all : length (with_least held) ≡ length held + 1 =
    length-with_least held ∙ rw (eq-eqb (least held) (length held) same) refl in
    omega (arith, all, same, low))
    (λ apart.
    let all : length (with_least held) ≡ length held =
    length-with_least held ∙ rw (ne_eqb (least held) (length held) apart) refl in
    omega (arith, all))
    (cases_eq (least held) (length held))

-- a further id that isn't held bounds the least one
pub least_in_range : (log held : List Bool) → IsSameBeyond log held → HasFurther log → least held < 2 ^ 63 - 1
least_in_range log held same has =
    ⊎_elim
    (λ (below : least held < 2 ^ 63 - 1). below)
    (λ above.
    let is : is_held held has.id ≡ true = least_lower held has.id (omega (arith, above, has.in_range)) in
    let not : is_held held has.id ≡ false = sym (same has.id has.further) ∙ has.free in
    let no : true ≡ false = sym is ∙ not in cc)
    (cases_lt (least held) (2 ^ 63 - 1))

pub full_least : (held : List Bool) → HoldsAllBelow 58 held → 58 ≤ least held
full_least held full =
    ⊎_elim
    (λ (below : least held < 58). let no : false ≡ true = sym (least_free held) ∙ full (least held) below in cc)
    (λ above. omega (arith, above))
    (cases_lt (least held) 58)

-- ---- the rights
pub out_taken : (out : List ℕ) (held : List Bool) (id : ℕ) → AreOutOf out held → id ≡ least held
    → AreOutOf (id ∷ out) (with_least held)
out_taken out held id are is j inside =
    ap (cond (eqb id j) true) (are j inside)
    ∙ ap (λ (k : ℕ). cond (eqb k j) true (is_held held j)) is
    ∙ sym (is_held-with_least held j)

pub out_given : (out : List ℕ) (held : List Bool) (id : ℕ) → AreOutOf out held → AreOutOf (less out id) (without held id)
out_given out held id are j inside =
    is_out-less out id j ∙ ap (cond (eqb id j) false) (are j inside) ∙ sym (is_held-without held id j)

-- what a further id changes of the first ones: nothing
pub low_taken : (held : List Bool) → 58 ≤ least held → (id : ℕ) → id < 58 → is_held (with_least held) id ≡ is_held held id
low_taken held high id first = is_held-with_least held id ∙ rw (ne_eqb (least held) id (λ e. absurd (omega (arith, e, high, first)))) refl

pub low_peak : (held : List Bool) → 58 ≤ least held → min 58 (length (with_least held)) ≡ min 58 (length held)
low_peak held high =
    let bound : least held ≤ length held = least_bounded held in
    ⊎_elim
    (λ (same : least held ≡ length held).
    let all : length (with_least held) ≡ length held + 1 =
    length-with_least held ∙ rw (eq-eqb (least held) (length held) same) refl in
    omega (arith, all, bound, high))
    (λ apart.
    ap (min 58) (length-with_least held ∙ rw (ne_eqb (least held) (length held) apart) refl))
    (cases_eq (least held) (length held))

pub low_given : (held : List Bool) (id : ℕ) → 58 ≤ id → (j : ℕ) → j < 58 → is_held (without held id) j ≡ is_held held j
low_given held id further j first = is_held-without held id j ∙ rw (ne_eqb id j (λ e. absurd (omega (arith, e, further, first)))) refl

-- the bit of a first id in the word, as code has it
pub bit_in_word : (id : ℕ) → id < 58 → 64 * 2 ^ id % 2 ^ 64 ≡ 64 * 2 ^ id
bit_in_word id first = let low : 2 ^ id < 2 ^ 58 = pow_below id 58 first in omega (arith, low)

-- no id is held at the beginning
pub word_begins : IsWordOf 0 []
word_begins = record { fits = omega arith; bits = λ id _. is_set-zero id; peak = refl }

pub both_left : (a b : Bool) → (a && b) ≡ true → a ≡ true
both_left true b e = refl
both_left false b e = cc

pub both_right : (a b : Bool) → (a && b) ≡ true → b ≡ true
both_right true b e = e
both_right false b e = cc

-- the word has room for the bit of the least id, and for one more at its peak
pub word_fits : (n id : ℕ) → n < 2 ^ 64 → id < 58 → is_set (n / 64) id ≡ false → n + 64 * 2 ^ id % 2 ^ 64 + (63 - n % 64) < 2 ^ 64
word_fits n id fits first unset =
    let low : n / 64 + 2 ^ id < 2 ^ 58 = added_fits (n / 64) id first (omega (arith, fits)) unset in
    let plain : 64 * 2 ^ id % 2 ^ 64 ≡ 64 * 2 ^ id = bit_in_word id first in
    omega (arith, low, plain)
