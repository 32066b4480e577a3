-- Slots without a value.
use Rattle.std.specs.Prelude.{List, [], ◌∷◌, Option, None, Some, ⊤}

-- none of these slots has a value
abbrev pub IsBlank : {V : Type 0} → List (Option V) → Type 0
IsBlank [] = ⊤
IsBlank (None ∷ slots) = IsBlank slots
IsBlank (Some x ∷ slots) = ⊥

-- none of these rows has a slot with a value
abbrev pub AreBlank : {V : Type 0} → List (List (Option V)) → Type 0
AreBlank [] = ⊤
AreBlank (row ∷ rows) = IsBlank row × AreBlank rows
