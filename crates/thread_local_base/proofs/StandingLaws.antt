-- Which buckets stand after a change, and how many slots they have together.
use Rattle.std.proofs.Common.{◌≡◌, ◌≢◌, ℕ, zero, suc, ◌+◌, ◌^◌, ◌<◌, ◌⊎◌, inl, inr, Bool, true, false, cond, eqb}
use Rattle.std.proofs.Common.{length, List, [], ◌∷◌, Option, refl, ap, sym, ◌∙◌, subst, arith, ⊎_elim, add-one, pow_pos}
use Rattle.std.specs.Prelude.{nat_lt}
use Rattle.std.proofs.lemmas.Bool.{cases_eq, cond-true, cond-false, eq-eqb, ne_eqb, lt-ltb, ltb-true}
use Rattle.thread_local_base.specs.Buckets.{Contents, row, stands, slots, slots_below, IsTable}
use Rattle.thread_local_base.specs.Rows.{with_row, empty_row}
use Rattle.thread_local_base.specs.Owner.{with_bucket}
use Rattle.thread_local_base.proofs.RowLaws.{row-with_row-same, row-with_row-other, length-empty_row}

pub slots_below-zero : (f : ℕ → Bool) → slots_below f 0 ≡ 0
unfolding slots_below
slots_below-zero f = refl

pub slots_below-standing : (f : ℕ → Bool) (b : ℕ) → f b ≡ true → slots_below f (b + 1) ≡ slots_below f b + 2 ^ b
unfolding slots_below
slots_below-standing f b h =
    let here : cond (f b) (2 ^ b) 0 ≡ 2 ^ b = cond-true (f b) (2 ^ b) 0 h in
    rw add-one (ap (λ k. slots_below f b + k) here)

pub slots_below-absent : (f : ℕ → Bool) (b : ℕ) → f b ≡ false → slots_below f (b + 1) ≡ slots_below f b
unfolding slots_below
slots_below-absent f b h =
    let none : cond (f b) (2 ^ b) 0 ≡ 0 = cond-false (f b) (2 ^ b) 0 h in
    rw add-one (ap (λ k. slots_below f b + k) none ∙ omega arith)

pub slots-all : (f : ℕ → Bool) (n : ℕ) → n ≡ 63 → slots_below f n ≡ slots f
unfolding slots
slots-all f n h = ap (slots_below f) h

slots_below-same : (f g : ℕ → Bool) (n : ℕ) → ((b : ℕ) → f b ≡ g b) → slots_below f n ≡ slots_below g n
unfolding slots_below
slots_below-same f g zero h = refl
slots_below-same f g (suc n) h =
    ap (λ k. k + cond (f n) (2 ^ n) 0) (slots_below-same f g n h)
    ∙ ap (λ b. slots_below g n + cond b (2 ^ n) 0) (h n)

-- the number of slots depends only on which buckets stand
pub slots-same : (f g : ℕ → Bool) → ((b : ℕ) → f b ≡ g b) → slots f ≡ slots g
unfolding slots
slots-same f g h = slots_below-same f g 63 h

-- a row of all its slots stands
pub standing-whole : {V : Type 0} (r : List (Option V)) (b : ℕ) → length r ≡ 2 ^ b → nat_lt 0 (length r) ≡ true
standing-whole r b h = lt-ltb 0 (length r) (omega (arith, pow_pos b))

module _ {V : Type 0} where
  -- making a bucket makes it stand, and changes no other
  pub stands-made : (c : Contents V) (b j : ℕ) → b < length c.rows
      → stands (with_row c b (empty_row b)) j ≡ cond (eqb b j) true (stands c j)
  stands-made c b j h =
      ⊎_elim
      (λ (here : b ≡ j).
      let P : ℕ → Type 0 = λ k. stands (with_row c b (empty_row b)) k ≡ true in
      subst P here (ap (λ (r : List (Option V)). nat_lt 0 (length r))
      (row-with_row-same c b (empty_row b) h)
      ∙ standing-whole (empty_row b) b (length-empty_row V b))
      ∙ sym (cond-true (eqb b j) true (stands c j) (eq-eqb b j here)))
      (λ (apart : b ≢ j).
      ap (λ (r : List (Option V)). nat_lt 0 (length r)) (row-with_row-other c b j (empty_row b) (λ e. apart (sym e)))
      ∙ sym (cond-false (eqb b j) true (stands c j) (ne_eqb b j apart)))
      (cases_eq b j)

  -- a bucket that doesn't stand has no slots
  pub row-absent : (c : Contents V) (b : ℕ) → stands c b ≡ false → row c b ≡ []
  row-absent c b h = go (row c b) h
    where
      go : (r : List (Option V)) → nat_lt 0 (length r) ≡ false → r ≡ []
      go [] none = refl
      go (o ∷ r) none = let some : nat_lt 0 (length (o ∷ r)) ≡ true = lt-ltb 0 (length (o ∷ r)) (omega arith) in cc

  -- a table's bucket that stands or is made has all its slots
  pub whole-with_bucket : (c : Contents V) (b : ℕ) → IsTable c → b < 63 → length (row (with_bucket c b) b) ≡ 2 ^ b
  whole-with_bucket c b t low = go (stands c b) refl (t.whole b)
    where
      go : (s : Bool) → stands c b ≡ s → (length (row c b) ≡ 0) ⊎ (length (row c b) ≡ 2 ^ b)
          → length (row (cond s c (with_row c b (empty_row b))) b) ≡ 2 ^ b
      go true h (inr whole) = whole
      go true h (inl none) = absurd (omega (arith, ltb-true 0 (length (row c b)) h))
      go false h _ = ap length (row-with_row-same c b (empty_row b) (omega (arith, t.buckets))) ∙ length-empty_row V b
