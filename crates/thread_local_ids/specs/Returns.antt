-- How often each id was given back, as ghost state: the history has the count of each id that is
-- free, and whoever holds an id has the count of that one.
use Rattle.std.specs.Prelude.{ℕ, suc, ◌==◌, Bool, true, false, List, [], ◌∷◌, if◌then◌else◌}
use mathlib.Core.Option.{Option, none, some}
use base.Fraction.{full_share}
use base.Algebra.{Algebra}
use base.Growing.{numbers, growing}
use base.Fml.{Share, Fml, fown}
use types.Keyed.{keyed}
use Rattle.thread_local_base.specs.Held.{is_held}
use Rattle.thread_local_base.specs.IdMoves.{IdMove, Take, Give, Publish, held_after}

-- how often an id was given back
abbrev pub gives : List IdMove → ℕ → ℕ
gives [] id = 0
gives (Take ∷ moves) id = gives moves id
gives (Give other ∷ moves) id = if other == id then suc (gives moves id) else gives moves id
gives (Publish other value ∷ moves) id = gives moves id

abbrev pub counting : Algebra
counting = growing numbers

abbrev pub Count : Type 0
Count = Option Share × ℕ

-- what the history has of an id's count: all of it, or where the id is held what it has reached
abbrev pub count_of : Bool → ℕ → Count
count_of true n = (none, n)
count_of false n = (some full_share, n)

abbrev pub counts : List IdMove → ℕ → Option Count
counts moves j = some (count_of (is_held (held_after moves) j) (gives moves j))

abbrev pub pages : List IdMove → ℕ → Option Count
pages moves j = some (none, gives moves j)

abbrev pub count_if : Bool → ℕ → Option Count
count_if true n = some (some full_share, n)
count_if false n = none

abbrev pub counts_own : ℕ → List IdMove → Fml
counts_own δ moves = fown (keyed counting) δ (counts moves)

abbrev pub counts_page : ℕ → List IdMove → Fml
counts_page δ moves = fown (keyed counting) δ (pages moves)

-- what the holder of an id has
abbrev pub tenure_owns : ℕ → ℕ → ℕ → Fml
tenure_owns δ id n = fown (keyed counting) δ (λ j. count_if (id == j) n)
