-- That one lifetime ends before another names no thread, so a `&` to an atomic word names none.
use Rattle.std.specs.Prelude.{List, [], ◌∷◌, ◌++◌}
use base.Fml.{Lft}
use base.Shift.{Keyless}
use base.Before.{chain}

pub chain_keyless : (νs : List Lft) (κ α : Lft) → Keyless (chain νs κ α)
chain_keyless [] κ α = λ _. tt
chain_keyless (ν ∷ νs) κ α = ((λ q. tt), chain_keyless νs (ν ++ κ) α)
