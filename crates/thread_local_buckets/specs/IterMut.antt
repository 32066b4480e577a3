-- What contracts see of an `IterMut` and of an `EntriesMut`: what is still to come, the name of the
-- loan, and the id after the last one whose value was given, or 0.
use Rattle.std.specs.Prelude.{ℕ, List}
use base.Fml.{GName}

module _ {X : Type 0} where
  -- the values still to come
  abbrev pub iter_mut_rest : List X × (GName × ℕ) → List X
  iter_mut_rest s = s.0

  -- the name of its loan
  abbrev pub iter_mut_name : List X × (GName × ℕ) → GName
  iter_mut_name s = s.1.0

  -- the id after the last one whose value was given
  abbrev pub iter_mut_given : List X × (GName × ℕ) → ℕ
  iter_mut_given s = s.1.1

  -- the ids and values still to come
  abbrev pub entries_mut_rest : List (ℕ × X) × (GName × ℕ) → List (ℕ × X)
  entries_mut_rest s = s.0

  -- the name of its loan
  abbrev pub entries_mut_name : List (ℕ × X) × (GName × ℕ) → GName
  entries_mut_name s = s.1.0

  -- the id after the last one whose value was given
  abbrev pub entries_mut_given : List (ℕ × X) × (GName × ℕ) → ℕ
  entries_mut_given s = s.1.1
