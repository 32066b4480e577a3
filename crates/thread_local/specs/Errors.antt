-- What errors say, and what they print.
use Rattle.std.specs.Prelude.{⊤, ℕ, List, codes, Option, Some}
use Rattle.thread_local.specs.declared.error.TryError as try_error
use Rattle.thread_local.specs.declared.error.SetError as set_error

-- this holds of the closure's error, if it is one
abbrev pub IfCreate : {E : Type 0} → try_error.TryError E → (E → Type 0) → Type 0
IfCreate (try_error.TheVariants.Memory refused) P = ⊤
IfCreate (try_error.TheVariants.Create error) P = P error

-- the closure's error prints what it prints by itself
abbrev pub try_error_text : {E : Type 0} → (E → Option (List ℕ)) → try_error.TryError E → Option (List ℕ)
try_error_text output (try_error.TheVariants.Memory refused) = Some (codes "memory allocation failed")
try_error_text output (try_error.TheVariants.Create error) = output error

abbrev pub set_error_text : {T : Type 0} → set_error.SetError T → List ℕ
set_error_text (set_error.TheVariants.Occupied value) = codes "the slot holds a value already"
set_error_text (set_error.TheVariants.Memory value) = codes "memory allocation failed"
