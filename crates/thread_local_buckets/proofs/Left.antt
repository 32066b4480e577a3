-- What a loan has left once it has given the value of a slot.
use Rattle.thread_local_base.proofs.Names.{◌≡◌, ℕ, zero, suc, ◌+◌, ◌≤◌, List, [], ◌∷◌, length, length-set, set}
use Rattle.thread_local_base.proofs.Names.{get_or, refl, sym, ap, ◌∙◌, subst, arith, Option, None}
use Rattle.std.proofs.lemmas.List.{get_or-set_other}
use Rattle.std.proofs.Common.{inl, inr, true, false}
use Rattle.std.proofs.lemmas.Bool.{lt-ltb, ltb-true, true≢false}
use Rattle.std.specs.Prelude.{nat_lt, ◌⊎◌, ◌^◌}
use Rattle.thread_local_base.specs.Place.{id_at}
use Rattle.thread_local_base.specs.Buckets.{Contents, row, IsTable}
use Rattle.thread_local_base.specs.Rows.{with_slot}
use Rattle.thread_local_buckets.specs.LoanOwns.{IsLeft}

long_set : {A : Type 0} (rs : List (List A)) (k b : ℕ) (r : List A)
    → length r ≡ length (get_or rs k [])
    → length (get_or (set rs k r) b []) ≡ length (get_or rs b [])
long_set [] k b r same = refl
long_set (q ∷ rs) zero zero r same = same
long_set (q ∷ rs) zero (suc b) r same = refl
long_set (q ∷ rs) (suc k) zero r same = refl
long_set (q ∷ rs) (suc k) (suc b) r same = long_set rs k b r same

slot_other : {A : Type 0} (rs : List (List A)) (k i b j : ℕ) (c d : A) → (b ≡ k → j ≡ i → ⊥)
    → get_or (get_or (set rs k (set (get_or rs k []) i c)) b []) j d ≡ get_or (get_or rs b []) j d
slot_other [] k i b j c d apart = refl
slot_other (r ∷ rs) zero i zero j c d apart = get_or-set_other r i j c d (λ e. apart refl e)
slot_other (r ∷ rs) zero i (suc b) j c d apart = refl
slot_other (r ∷ rs) (suc k) i zero j c d apart = refl
slot_other (r ∷ rs) (suc k) i (suc b) j c d apart = slot_other rs k i b j c d (λ e. apart (ap suc e))

module _ {X : Type 0} (left : Contents X) (k i : ℕ) (c : Option X) where
  pub row_long : (bucket : ℕ) → length (row (with_slot left k i c) bucket) ≡ length (row left bucket)
  row_long bucket = long_set left.rows k bucket (set (row left k) i c) (length-set (row left k) i c)

  pub table_after : IsTable left → IsTable (with_slot left k i c)
  table_after t = record {
    buckets = length-set left.rows k (set (row left k) i c) ∙ t.buckets;
    whole =
        λ bucket. subst (λ n. (n ≡ 0) ⊎ (n ≡ 2 ^ bucket)) (sym (row_long bucket)) (t.whole bucket);
  }

pub left_after : {X : Type 0} (whole left : Contents X) (given k i : ℕ) → IsLeft whole left given
    → given ≤ id_at k i
    → IsLeft whole (with_slot left k i None) (id_at k i + 1)
left_after whole left given k i so ahead = record {
  table = table_after left k i None so.table;
  rows = so.rows;
  long = λ bucket. so.long bucket ∙ sym (row_long left k i None bucket);
  ahead = λ bucket index later.
      slot_other left.rows k i bucket index None None (λ e e'.
      let same : id_at bucket index ≡ id_at k i = λ t. id_at (e t) (e' t) in absurd (omega arith))
      ∙ so.ahead bucket index (omega arith);
}

-- a bucket that stands has all its slots
pub whole_row : (n m : ℕ) → (n ≡ 0) ⊎ (n ≡ m) → nat_lt 0 n ≡ true → n ≡ m
whole_row n m (inl e) stands = absurd (let some = ltb-true 0 n stands in omega arith)
whole_row n m (inr e) stands = e

-- a bucket that doesn't stand has none
pub no_row : {A : Type 0} (r : List A) → nat_lt 0 (length r) ≡ false → r ≡ []
no_row [] absent = refl
no_row (x ∷ xs) absent = absurd (true≢false (sym (lt-ltb 0 (length (x ∷ xs)) (omega arith)) ∙ absent))
