use Rattle.std.proofs.Common.{◌≡◌, ◌≢◌, ◌∙◌, ℕ, ◌+◌, ◌*◌, ◌/◌, ◌%◌, ◌^◌, ◌<◌, ◌≤◌, bit_and, sym, ap, arith, ⊎_elim, if◌then◌else◌, Bool}
use Rattle.std.specs.Int.{w64, bit_not}
use Rattle.std.proofs.lemmas.Bool.{eq-eqb, ne_eqb, cases_lt, cases_eq}
use Rattle.std.proofs.lemmas.Nat.{one_shl, pow_below}
use Rattle.thread_local_base.specs.Bits.{IsLowestUnset}
use Rattle.thread_local_ids.proofs.FirstLaws.{bit_in_word, word_fits}
use Rattle.thread_local_ids.proofs.LowestUnset.{lowest_alone}
use Rattle.thread_local_ids.proofs.first.word_with.Goals as goal

-- the lowest bit of the ids in a word that isn't set, by itself
abbrev lowest_of : ℕ → ℕ
lowest_of word = bit_and (word / 64 + 1) (bit_not w64 (word / 64))

alone : (word id : ℕ) → word < 2 ^ 64 → IsLowestUnset (word / 64) id → lowest_of word ≡ 2 ^ id
alone word id fits at = lowest_alone (word / 64) id (omega (arith, fits)) at

same_power : (a b : ℕ) → 2 ^ a ≡ 2 ^ b → a ≡ b
same_power a b same =
    ⊎_elim
    (λ (equal : a ≡ b). equal)
    (λ (apart : a ≢ b). ⊎_elim
    (λ (below : a < b). let less = pow_below a b below in absurd (omega (arith, less, same)))
    (λ (above : b ≤ a). let less = pow_below b a (omega (arith, above, apart)) in absurd (omega (arith, less, same)))
    (cases_lt a b))
    (cases_eq a b)

-- the bit tells whether the id is the peak
at_peak : (word id : ℕ) → lowest_of word ≡ 2 ^ id → lowest_of word ≡ 1 * 2 ^ (word % 64) % 2 ^ 64 → id ≡ word % 64
at_peak word id is told = same_power id (word % 64) (sym is ∙ told ∙ one_shl (word % 64) 64 (omega arith))

not_at_peak : (word id : ℕ) → lowest_of word ≡ 2 ^ id → lowest_of word ≢ 1 * 2 ^ (word % 64) % 2 ^ 64 → id ≢ word % 64
not_at_peak word id is told =
    λ same. told (is ∙ ap (λ (n : ℕ). 2 ^ n) same ∙ sym (one_shl (word % 64) 64 (omega arith)))

-- the word with that bit
with_bit : (word id : ℕ) → id < 58 → lowest_of word ≡ 2 ^ id → word + lowest_of word * 64 % 2 ^ 64 ≡ word + 64 * 2 ^ id
with_bit word id first is = omega (arith, is, bit_in_word id first)

pub overflow_add-taken : goal.overflow_add-taken
overflow_add-taken c =
    let is = alone c.args.word c.args.id c.ranges.word.fits c.requires.lowest in
    let fits = word_fits c.args.word c.args.id c.ranges.word.fits c.requires.first c.requires.lowest.unset in
    record { fits = omega (arith, is, fits) }

pub overflow_add-result : goal.overflow_add-result
overflow_add-result c =
    let is = alone c.args.word c.args.id c.ranges.word.fits c.requires.lowest in
    let same = at_peak c.args.word c.args.id is c.if-lowest-word.true in
    let fits = word_fits c.args.word c.args.id c.ranges.word.fits c.requires.first c.requires.lowest.unset in
    record { fits = omega (arith, is, same, c.requires.first, fits) }

pub returns-then-lowest-word : goal.returns-then-lowest-word
returns-then-lowest-word c =
    let is = alone c.args.word c.args.id c.ranges.word.fits c.requires.lowest in
    ap (λ (n : ℕ). n + 1) (with_bit c.args.word c.args.id c.requires.first is)
    ∙ sym (ap (λ (t : Bool). c.args.word + 64 * 2 ^ c.args.id + (if t then 1 else 0))
    (eq-eqb c.args.id (c.args.word % 64) (at_peak c.args.word c.args.id is c.if-lowest-word.true)))

pub returns-else-lowest-word : goal.returns-else-lowest-word
returns-else-lowest-word c =
    let is = alone c.args.word c.args.id c.ranges.word.fits c.requires.lowest in
    let none : c.args.word + 64 * 2 ^ c.args.id + 0 ≡ c.args.word + 64 * 2 ^ c.args.id = omega arith in
    with_bit c.args.word c.args.id c.requires.first is
    ∙ sym none
    ∙ sym (ap (λ (t : Bool). c.args.word + 64 * 2 ^ c.args.id + (if t then 1 else 0))
    (ne_eqb c.args.id (c.args.word % 64) (not_at_peak c.args.word c.args.id is c.if-lowest-word.false)))
