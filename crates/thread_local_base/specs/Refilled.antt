-- Contents with other values in the same slots.
use Rattle.std.specs.Prelude.{List, [], ◌∷◌, Option, Some, None}
use Rattle.thread_local_base.specs.Buckets.{Contents}

-- a slot that has a value gets another, where there is one
abbrev pub refilled_slot : {V : Type 0} → Option V → Option V → Option V
refilled_slot None w = None
refilled_slot (Some x) None = Some x
refilled_slot (Some x) (Some y) = Some y

abbrev pub refilled_row : {V : Type 0} → List (Option V) → List (Option V) → List (Option V)
refilled_row [] ws = []
refilled_row (c ∷ cs) [] = c ∷ cs
refilled_row (c ∷ cs) (w ∷ ws) = refilled_slot c w ∷ refilled_row cs ws

abbrev pub refilled_rows : {V : Type 0} → List (List (Option V)) → List (List (Option V)) → List (List (Option V))
refilled_rows [] ws = []
refilled_rows (r ∷ rs) [] = r ∷ rs
refilled_rows (r ∷ rs) (w ∷ ws) = refilled_row r w ∷ refilled_rows rs ws

-- whatever the other values are, the same buckets stand and the same slots have a value
abbrev pub refilled : {V : Type 0} → Contents V → Contents V → Contents V
refilled old with = record { rows = refilled_rows old.rows with.rows }
