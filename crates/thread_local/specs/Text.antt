-- How Debug writes a `Local`.
use Rattle.std.specs.Prelude.{ℕ, List, ◌++◌, Option, option_map, codes}
use Rattle.std.specs.Fmt.{debug_option}

-- the text of a `Local`, by the value of its slot and the text of a value
abbrev pub local_text : {V : Type 0} → (V → Option (List ℕ)) → Option V → Option (List ℕ)
local_text text value = option_map (λ shown. codes "ThreadLocal { local_data: " ++ shown ++ codes " }") (debug_option text value)
