-- Contents with other values in the same slots, row by row.
use Rattle.std.proofs.Common.{◌≡◌, ℕ, zero, suc, List, [], ◌∷◌, length, get_or, refl, ap, sym, Option, Some, None}
use Rattle.thread_local_base.specs.Refilled.{refilled_slot, refilled_row, refilled_rows}

module _ {V : Type 0} where
  pub length-refilled_row : (cs ws : List (Option V)) → length (refilled_row cs ws) ≡ length cs
  length-refilled_row [] ws = refl
  length-refilled_row (c ∷ cs) [] = refl
  length-refilled_row (c ∷ cs) (w ∷ ws) = ap suc (length-refilled_row cs ws)

  pub length-refilled_rows : (rs ws : List (List (Option V))) → length (refilled_rows rs ws) ≡ length rs
  length-refilled_rows [] ws = refl
  length-refilled_rows (r ∷ rs) [] = refl
  length-refilled_rows (r ∷ rs) (w ∷ ws) = ap suc (length-refilled_rows rs ws)

  refilled_slot-none : (c : Option V) → refilled_slot c None ≡ c
  refilled_slot-none None = refl
  refilled_slot-none (Some x) = refl

  refilled_row-none : (cs : List (Option V)) → refilled_row cs [] ≡ cs
  refilled_row-none [] = refl
  refilled_row-none (c ∷ cs) = refl

  -- a slot of the refilled row is the row's slot, refilled
  pub refilled_row-at : (cs ws : List (Option V)) (i : ℕ)
      → get_or (refilled_row cs ws) i None ≡ refilled_slot (get_or cs i None) (get_or ws i None)
  refilled_row-at [] ws i = refl
  refilled_row-at (c ∷ cs) [] i = sym (refilled_slot-none (get_or (c ∷ cs) i None))
  refilled_row-at (c ∷ cs) (w ∷ ws) zero = refl
  refilled_row-at (c ∷ cs) (w ∷ ws) (suc i) = refilled_row-at cs ws i

  -- a row of the refilled contents is the contents' row, refilled
  pub refilled_rows-at : (rs ws : List (List (Option V))) (b : ℕ)
      → get_or (refilled_rows rs ws) b [] ≡ refilled_row (get_or rs b []) (get_or ws b [])
  refilled_rows-at [] ws b = refl
  refilled_rows-at (r ∷ rs) [] b = sym (refilled_row-none (get_or (r ∷ rs) b []))
  refilled_rows-at (r ∷ rs) (w ∷ ws) zero = refl
  refilled_rows-at (r ∷ rs) (w ∷ ws) (suc b) = refilled_rows-at rs ws b
