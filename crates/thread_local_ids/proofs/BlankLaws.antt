-- Which rows have no value.
use Rattle.std.proofs.Common.{◌≡◌, ℕ, zero, suc, ◌^◌, ◌<◌, List, [], ◌∷◌, length, Option, None, Some, replicate, arith, subst}
use Rattle.std.specs.Prelude.{◌⊎◌, slice_index_or}
use mathlib.Core.Logic.{inl, inr}
use Rattle.thread_local_base.specs.Buckets.{Contents, IsTable, row, values}
use Rattle.thread_local_base.specs.Place.{bucket_of, id_at}
use Rattle.thread_local_base.proofs.PlaceLaws.{place-id_at}
use Rattle.thread_local_base.specs.Rows.{empty_row}
use Rattle.thread_local_ids.specs.Blank.{IsBlank, AreBlank}
use Rattle.thread_local_ids.specs.Told.{whole_row}

module _ (V : Type 0) where
  abbrev none : Option V
  none = None

  blank_replicate : (n : ℕ) → IsBlank (replicate n none)
  blank_replicate zero = tt
  blank_replicate (suc n) = blank_replicate n

  abbrev empty : ℕ → List (Option V)
  empty bucket = empty_row bucket

  -- a new bucket has no value
  pub blank_empty : (bucket : ℕ) → IsBlank (empty bucket)
  blank_empty bucket = blank_replicate (2 ^ bucket)

  pub blank_whole : (bucket : ℕ) (row : List (Option V)) → IsBlank row → IsBlank (whole_row bucket row)
  blank_whole bucket [] blank = blank_empty bucket
  blank_whole bucket (v ∷ slots) blank = blank

-- a row has at most the slots of its bucket
low : (n m i : ℕ) → (n ≡ 0) ⊎ (n ≡ m) → i < n → i < m
low n m i (inl none) near = absurd (omega (arith, none, near))
low n m i (inr all) near = omega (arith, all, near)

module _ {V : Type 0} where
  blank_slots : (slots : List (Option V)) → ((i : ℕ) → i < length slots → slice_index_or slots i None ≡ None) → IsBlank slots
  blank_slots [] all = tt
  blank_slots (None ∷ slots) all = blank_slots slots (λ i near. all (suc i) (omega (arith, near)))
  blank_slots (Some x ∷ slots) all = let e : Some x ≡ None = all 0 (omega arith) in cc

  blank_rows : (rows : List (List (Option V)))
      → ((b : ℕ) → b < length rows → (i : ℕ) → i < length (slice_index_or rows b [])
      → slice_index_or (slice_index_or rows b []) i None ≡ None)
      → AreBlank rows
  blank_rows [] all = tt
  blank_rows (row ∷ rows) all = (blank_slots row (all 0 (omega arith)), blank_rows rows (λ b near. all (suc b) (omega (arith, near))))

  -- a table of which no id has a value has none
  pub blank_contents : (contents : Contents V) → IsTable contents → ((id : ℕ) → values contents id ≡ None) → AreBlank contents.rows
  blank_contents contents is none =
      blank_rows contents.rows (λ b near i inside.
      let fits : i < 2 ^ b = low (length (row contents b)) (2 ^ b) i (is.whole b) inside in
      let at = place-id_at b i fits in
      subst (λ (c : ℕ). slice_index_or (row contents c) i None ≡ None) at.0
      (subst (λ (j : ℕ). slice_index_or (row contents (bucket_of (id_at b i))) j None ≡ None) at.1 (none (id_at b i))))
