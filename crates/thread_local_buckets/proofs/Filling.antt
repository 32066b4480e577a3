-- Contents without values, in which the first buckets are made one by one.
use Rattle.std.proofs.Common.{◌≡◌, ◌≢◌, ℕ, ◌+◌, ◌<◌, ◌≤◌, inr, Bool, true, false, cond, eqb, length, [], sym, ◌∙◌, subst, arith, ⊎_elim}
use Rattle.std.specs.Prelude.{nat_lt}
use Rattle.std.proofs.lemmas.Bool.{cases_eq, cases_lt, cond-true, cond-false, eq-eqb, ne_eqb, lt-ltb, le-ltb}
use Rattle.thread_local_base.specs.Buckets.{Contents, row, stands, no_contents}
use Rattle.thread_local_base.specs.Rows.{with_row, empty_row}
use Rattle.thread_local_base.specs.Owner.{with_bucket}
use Rattle.thread_local_base.proofs.FillingLaws.{IsFilled, IsTable-no_contents}
use Rattle.thread_local_base.proofs.RowLaws.{IsTable-with_row, length-empty_row}
use Rattle.thread_local_base.proofs.ValueLaws.{values-no_contents, stands-no_contents, values-with_empty_row}
use Rattle.thread_local_base.proofs.StandingLaws.{stands-made}

pub IsFilled-none : (V : Type 0) → IsFilled (no_contents {V = V}) 0
IsFilled-none V = record {
  table = IsTable-no_contents V;
  standing = λ b. stands-no_contents V b ∙ sym (le-ltb b 0 (omega arith));
  empty = values-no_contents V;
}

-- a further bucket stands
next_standing : (b j : ℕ) (s : Bool) → s ≡ nat_lt j b → cond (eqb b j) true s ≡ nat_lt j (b + 1)
next_standing b j s h =
    ⊎_elim
    (λ (here : b ≡ j). cond-true (eqb b j) true s (eq-eqb b j here) ∙ sym (lt-ltb j (b + 1) (omega arith)))
    (λ (apart : b ≢ j). cond-false (eqb b j) true s (ne_eqb b j apart) ∙ h
    ∙ ⊎_elim
    (λ (low : j < b). lt-ltb j b low ∙ sym (lt-ltb j (b + 1) (omega arith)))
    (λ (high : b ≤ j). le-ltb j b high ∙ sym (le-ltb j (b + 1) (omega arith)))
    (cases_lt j b))
    (cases_eq b j)

pub IsFilled-more : {V : Type 0} (c d : Contents V) (b : ℕ) → IsFilled c b → b < 63
    → (stands c b ≡ false → row c b ≡ []) → d ≡ with_bucket c b
    → IsFilled d (b + 1)
IsFilled-more c d b h low absent made =
    let none : stands c b ≡ false = h.standing b ∙ le-ltb b b (omega arith) in
    let so : d ≡ with_row c b (empty_row b) = made ∙ cond-false (stands c b) c (with_row c b (empty_row b)) none in
    let within : b < length c.rows = omega (arith, h.table.buckets) in
    let P : Contents _ → Type 0 = λ e. IsFilled e (b + 1) in
    subst P (sym so) (record {
      table = IsTable-with_row c b (empty_row b) h.table (inr (length-empty_row _ b));
      standing = λ j. stands-made c b j within ∙ next_standing b j (stands c j) (h.standing j);
      empty = λ id. values-with_empty_row c b id within (absent none) ∙ h.empty id;
    })
