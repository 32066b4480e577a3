-- What a walk over a map from ids to values gives: the values by ascending id.
use Rattle.std.specs.Prelude.{ℕ, zero, suc, ◌-◌, ◌^◌, ◌<◌, length, slice_index, ◌==◌, if◌then◌else◌, List, [], ◌++◌}
use Rattle.std.specs.Prelude.{Option, Some, option_map, option_to_list}
use Rattle.std.specs.List.Sorted.{IsStrictlyIncreasing}

-- the values of a map at the ids below n, by ascending id
unfoldable pub walk_below : {V : Type 0} → (ℕ → Option V) → ℕ → List V
walk_below values zero = []
walk_below values (suc id) = walk_below values id ++ option_to_list (values id)

-- the values of a map, by ascending id
unfoldable pub walk : {V : Type 0} → (ℕ → Option V) → List V
walk values = walk_below values (2 ^ 63 - 1)

-- the map with this value at this id, and unchanged at every other
abbrev pub with_value : {V : Type 0} → (ℕ → Option V) → ℕ → V → ℕ → Option V
with_value values id v j = if id == j then Some v else values j

-- the map from each id to its value, paired with the id
abbrev pub paired : {V : Type 0} → (ℕ → Option V) → ℕ → Option (ℕ × V)
paired values id = option_map (λ v. (id, v)) (values id)

-- strictly ascending ids, all below n
pub record IsAscendingBelow (ids : List ℕ) (n : ℕ) : Type 0 where
  pub increasing : IsStrictlyIncreasing ids
  pub below : (k : ℕ) → k < length ids → slice_index ids k < n
