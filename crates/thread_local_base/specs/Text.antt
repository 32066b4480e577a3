-- What errors print.
use Rattle.std.specs.Prelude.{ℕ, List, codes}
use Rattle.thread_local_base.specs.declared.manager.LocalError.{LocalError}
use Rattle.thread_local_base.specs.declared.manager.LocalError.TheVariants.{Memory, Exhausted}

abbrev pub local_error_text : LocalError → List ℕ
local_error_text (Memory refused) = codes "memory allocation failed"
local_error_text Exhausted = codes "every id is held"
