-- Whether an owner's buckets have no value, as a test and as a fact.
use Rattle.std.proofs.Common.{◌≡◌, ◌∙◌, ◌^◌, ◌<◌, ◌≤◌, ℕ, zero, suc, Bool, true, false, List, [], ◌∷◌, length, Option, None, Some, if◌then◌else◌, replicate, refl, ap, arith, subst}
use Rattle.std.specs.Prelude.{nat_lt, slice_index_or}
use Rattle.std.proofs.lemmas.Bool.{ltb-true, ltb-false}
use Rattle.thread_local_base.specs.Buckets.{Contents, IsTable, row}
use Rattle.thread_local_base.specs.Owner.{cleared_row}
use Rattle.thread_local_base.specs.Place.{id_at}
use Rattle.thread_local_base.specs.Rows.{empty_row}
use Rattle.thread_local_ids.specs.Blank.{IsBlank, AreBlank}
use Rattle.thread_local_shared_buckets.specs.AfterLoan.{is_blank, blank_below, has_no_value}

new_blank : (V : Type 0) (n : ℕ) → is_blank {V = V} (replicate n None) ≡ true
new_blank V zero = refl
new_blank V (suc n) = new_blank V n

cleared_blank : (V : Type 0) (t : Bool) (bucket : ℕ) → is_blank {V = V} (if t then empty_row bucket else []) ≡ true
cleared_blank V true bucket = new_blank V (2 ^ bucket)
cleared_blank V false bucket = refl

both : (one other : Bool) → (if one then other else false) ≡ true → (one ≡ true) × (other ≡ true)
both true other so = (refl, so)
both false other so = let never : false ≡ true = so in cc

module _ {V : Type 0} where
  row_blank : (slots : List (Option V)) → is_blank slots ≡ true → IsBlank slots
  row_blank [] is = tt
  row_blank (None ∷ slots) is = row_blank slots is
  row_blank (Some x ∷ slots) is = let never : false ≡ true = is in cc

  rows_blank : (rows : List (List (Option V))) → ((b : ℕ) → b < length rows → is_blank (slice_index_or rows b []) ≡ true) → AreBlank rows
  rows_blank [] all = tt
  rows_blank (slots ∷ rows) all = (row_blank slots (all 0 (omega arith)), rows_blank rows (λ b near. all (suc b) (omega (arith, near))))

  each_blank : (contents : Contents V) (n : ℕ) → blank_below contents n ≡ true → (b : ℕ) → b < n → is_blank (row contents b) ≡ true
  unfolding blank_below
  each_blank contents zero is b near = absurd (omega (arith, near))
  each_blank contents (suc n) is b near =
      let so = both (is_blank (row contents n)) (blank_below contents n) is in
      last (nat_lt b n) refl so.0 (each_blank contents n so.1 b)
    where
      last : (t : Bool) → nat_lt b n ≡ t → is_blank (row contents n) ≡ true → (b < n → is_blank (row contents b) ≡ true)
          → is_blank (row contents b) ≡ true
      last true e here below = below (ltb-true b n e)
      last false e here below =
          let late : n ≤ b = ltb-false b n e in
          let same : n ≡ b = omega (arith, near, late) in
          subst (λ (k : ℕ). is_blank (row contents k) ≡ true) same here

  pub none_blank : (contents : Contents V) → IsTable contents → has_no_value contents ≡ true → AreBlank contents.rows
  none_blank contents is none =
      let long : length contents.rows ≡ 63 = is.buckets in
      rows_blank contents.rows (λ b near. each_blank contents 63 none b (omega (arith, near, long)))

  all_blank : (contents : Contents V) → ((b : ℕ) → is_blank (row contents b) ≡ true) → (n : ℕ) → blank_below contents n ≡ true
  unfolding blank_below
  all_blank contents all zero = refl
  all_blank contents all (suc n) =
      ap (λ (t : Bool). if t then blank_below contents n else false) (all n) ∙ all_blank contents all n

  -- a cleared table has no value
  pub cleared_has_none : (contents : Contents V) (reserved : ℕ)
      → ((bucket : ℕ) → row contents bucket ≡ cleared_row reserved bucket) → has_no_value contents ≡ true
  cleared_has_none contents reserved are =
      all_blank contents (λ b. ap is_blank (are b) ∙ cleared_blank V (nat_lt (id_at b 0) reserved) b) 63
