-- A loop that takes one bucket after another out of a word: it passes buckets that aren't in the word.
use Rattle.std.proofs.Common.{◌≡◌, ◌≢◌, ℕ, zero, suc, ◌+◌, ◌-◌, ◌*◌, ◌^◌, ◌<◌, ◌≤◌, true, false, [], List, Option, None, eqb, bit_and, refl, sym, ap, ◌∙◌, subst, arith}
use Rattle.std.proofs.Common.{⊎_elim}
use Rattle.std.specs.Prelude.{slice_index_or}
use Rattle.std.specs.Int.{w64, bit_not, bit_at}
use Rattle.std.proofs.lemmas.Bool.{cases_eq, cases_lt, eq-eqb, ne_eqb, false≢true}
use Rattle.std.proofs.lemmas.Nat.{pow_below}
use Rattle.std.proofs.lemmas.Nat.Bits.{bit_at-lt, bit_at_and, bit_at_not, bit_at_ones, bit_at_ones_above, bit_at_cat_high}
use Rattle.thread_local_base.specs.Bits.{is_set, IsLowestSet, IsWordBut}
use Rattle.thread_local_base.specs.Place.{bucket_of, index_of, id_at}
use Rattle.thread_local_base.specs.Buckets.{Contents, row, values}
use Rattle.thread_local_base.specs.Rows.{value_in}
use Rattle.thread_local_base.specs.Owner.{NoneBelow}
use Rattle.thread_local_base.proofs.CapacityLaws.{in_first, below_first}
use Rattle.thread_local_base.proofs.Word.{is_set-zero}
use Rattle.thread_local_buckets.specs.Announced.{AllBut, AreAhead, HasNone}
use Rattle.thread_local_buckets.proofs.Announcing.{unset}
use Rattle.thread_local_buckets.specs.Cursor.{read_to, IsAt}
use Rattle.thread_local_buckets.specs.declared.cursor.RawIter.{RawIter}

-- the highest set bit of a number
pub is_set-highest : (word bit : ℕ) → 2 ^ bit ≤ word → word < 2 * 2 ^ bit → is_set word bit ≡ true
is_set-highest word bit low high =
    let parts : 1 * 2 ^ bit + (word - 2 ^ bit) ≡ word = omega arith in
    let none : bit - bit ≡ 0 = omega arith in
    ap (λ b. eqb b 1)
    (ap (λ w. bit_at w bit) (sym parts) ∙ bit_at_cat_high 1 bit (word - 2 ^ bit) bit (omega arith) (omega arith)
    ∙ ap (bit_at 1) none)

-- a word without its first bits
module _ (word count : ℕ) (few : count ≤ 63) where
  abbrev rest : ℕ
  rest = bit_and word (bit_not w64 (2 ^ count - 1))

  pub first_cleared : (bit : ℕ) → bit < count → is_set rest bit ≡ false
  first_cleared bit low =
      let both = bit_at_and word (bit_not w64 (2 ^ count - 1)) bit in
      let fits : 2 ^ count < 2 ^ 64 = pow_below count 64 (omega arith) in
      let turned = bit_at_not w64 (2 ^ count - 1) bit (omega arith) (omega arith) in
      let one = bit_at_ones count bit low in
      unset rest bit (omega arith)

  pub others_kept : (bit : ℕ) → count ≤ bit → bit < 64 → is_set rest bit ≡ is_set word bit
  others_kept bit high within =
      let both = bit_at_and word (bit_not w64 (2 ^ count - 1)) bit in
      let fits : 2 ^ count < 2 ^ 64 = pow_below count 64 (omega arith) in
      let turned = bit_at_not w64 (2 ^ count - 1) bit (omega arith) within in
      let none = bit_at_ones_above count bit high in
      let small = bit_at-lt word bit in
      ap (λ b. eqb b 1) (let same : bit_at rest bit ≡ bit_at word bit = omega arith in same)

-- what a loop knows once it has taken the first bucket out of a word
pub record Takes (Lacks : ℕ → Type 0) (rest from bucket : ℕ) : Type 0 where
  pub after : from ≤ bucket
  pub in_table : bucket < 63
  pub passed : (k : ℕ) → from ≤ k → k < bucket → Lacks k
  pub ahead : AreAhead Lacks rest (bucket + 1)

-- what a walk knows that has read these flags last: where they are 0, no value stands before the
-- next bucket. The word has the announced buckets from there on
pub record IsReading {V : Type 0} (contents : Contents V) (left given : ℕ) (raw : RawIter) (word : ℕ) : Type 0 where
  pub at : IsAt contents raw word
  pub ahead : given ≤ read_to raw
  pub announced : AreAhead (HasNone contents) left (raw.bucket + 1)
  pub none : word ≡ 0 → NoneBelow (values contents) (id_at (raw.bucket + 1) 0)

module _ (Lacks : ℕ → Type 0) where
  pub takes : (word rest from b : ℕ) → AreAhead Lacks word from → IsLowestSet word b → IsWordBut rest word b false
      → Takes Lacks rest from b
  takes word rest from b ahead low but =
      let inside = ahead.inside b low.within low.set in record {
        after = inside.0;
        in_table = inside.1;
        passed = λ k after below. ahead.others k after (omega arith) (low.lower k below);
        ahead = record {
          others = λ k after near out.
              let apart : b ≢ k = omega arith in
              ahead.others k (omega arith) near (sym (but k (omega arith) ∙ rw (ne_eqb b k apart) refl) ∙ out);
          inside = λ k near here. ⊎_elim
              (λ (same : b ≡ k). absurd (false≢true (sym (but k near ∙ rw (eq-eqb b k same) refl) ∙ here)))
              (λ (apart : b ≢ k).
              let was : is_set word k ≡ true = sym (but k near ∙ rw (ne_eqb b k apart) refl) ∙ here in
              let before = ahead.inside k near was in (
                ⊎_elim
                    (λ (below : k < b). absurd (false≢true (sym (low.lower k below) ∙ was)))
                    (λ (above : b ≤ k). omega arith)
                    (cases_lt k b),
                before.1,
              ))
              (cases_eq b k);
        };
      }

  -- all buckets of a word are ahead of the first, and those behind the first ones of these
  pub AreAhead-all : (word : ℕ) → AllBut Lacks word → AreAhead Lacks word 0
  AreAhead-all word all = record {
    others = λ b _ low out. all.others b low out;
    inside = λ b near here. (
      omega arith,
      ⊎_elim
          (λ (last : b ≡ 63). absurd (false≢true (sym all.none_past ∙ ap (is_set word) (sym last) ∙ here)))
          (λ (other : b ≢ 63). omega arith)
          (cases_eq b 63),
    );
  }

  pub AreAhead-behind : (word count : ℕ) → count ≤ 63 → AllBut Lacks word
      → AreAhead Lacks (bit_and word (bit_not w64 (2 ^ count - 1))) count
  AreAhead-behind word count few all = record {
    others = λ b after low out. all.others b low (sym (others_kept word count few b after (omega arith)) ∙ out);
    inside = λ b near here. ⊎_elim
        (λ (low : b < count). absurd (false≢true (sym (first_cleared word count few b low) ∙ here)))
        (λ (high : count ≤ b).
        (high, ((AreAhead-all word all).inside b near (sym (others_kept word count few b high near) ∙ here)).1))
        (cases_lt b count);
  }

  -- where no bucket is left in the word, none is ahead
  pub none_ahead : (word from : ℕ) → AreAhead Lacks word from → word ≡ 0 → (b : ℕ) → from ≤ b → b < 63 → Lacks b
  none_ahead word from ahead none b after low = ahead.others b after low (ap (λ w. is_set w b) none ∙ is_set-zero b)

module _ {V : Type 0} where
  -- a bucket that doesn't stand has no value
  pub none_missing : (c : Contents V) (b : ℕ) → row c b ≡ [] → HasNone c b
  none_missing c b missing k = ap (λ (s : List (Option V)). slice_index_or s k None) missing

  -- no value is before the bucket after one that has none
  none_behind : (c : Contents V) (b : ℕ) → NoneBelow (values c) (id_at b 0) → HasNone c b → NoneBelow (values c) (id_at (b + 1) 0)
  none_behind c b none here id below =
      ⊎_elim
      (λ (same : bucket_of id ≡ b). ap (λ (k : ℕ). value_in c k (index_of id)) same ∙ here (index_of id))
      (λ (apart : bucket_of id ≢ b).
      let before : bucket_of id < b + 1 = in_first (b + 1) id (omega arith) in
      let lower : id < 2 ^ b - 1 = below_first b id (omega arith) in
      none id (omega arith))
      (cases_eq (bucket_of id) b)

  NoneBelow-each : (c : Contents V) (from n : ℕ) → NoneBelow (values c) (id_at from 0)
      → ((k : ℕ) → from ≤ k → k < from + n → HasNone c k)
      → NoneBelow (values c) (id_at (from + n) 0)
  NoneBelow-each c from zero none all =
      let same : from ≡ from + 0 = omega arith in subst (λ b. NoneBelow (values c) (id_at b 0)) same none
  NoneBelow-each c from (suc n) none all =
      let next : from + n + 1 ≡ from + suc n = omega arith in
      subst (λ b. NoneBelow (values c) (id_at b 0)) next
      (none_behind c (from + n)
      (NoneBelow-each c from n none (λ k after below. all k after (omega (arith, below))))
      (all (from + n) (omega arith) (omega arith)))

  pub NoneBelow-passed : (c : Contents V) (from to : ℕ) → from ≤ to → NoneBelow (values c) (id_at from 0)
      → ((k : ℕ) → from ≤ k → k < to → HasNone c k)
      → NoneBelow (values c) (id_at to 0)
  NoneBelow-passed c from to order none all =
      let whole : from + (to - from) ≡ to = omega arith in
      subst (λ b. NoneBelow (values c) (id_at b 0)) whole
      (NoneBelow-each c from (to - from) none (λ k after below. all k after (omega (arith, below))))
