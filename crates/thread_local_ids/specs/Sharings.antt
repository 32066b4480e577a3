-- Sharings as contracts see them, and what a slot was left with.
use Rattle.std.specs.Prelude.{◌≡◌, ℕ, ◌+◌, ◌*◌, ◌/◌, ◌%◌, ◌==◌, Bool, true, false, Option, None, Some, if◌then◌else◌, ⊤}
use base.Stored.{Gv}
use base.Fml.{GName}
use denote.RattleType.{RattleType}

-- A sharing is the first of a table, whose history says of each id what its slot was published with, or a
-- later one, which has a name of its own.
pub data Sharing : Type 0 where
  First : (table : ℕ) → Sharing
  Later : (name : GName) → Sharing

-- the number of each, by which contracts see it
abbrev pub first_of : ℕ → ℕ
first_of table = 2 * table + 1

abbrev pub later_of : GName → ℕ
later_of name = 2 * name

-- the sharing of a number: the first of a table where that is odd
abbrev pub sharing_by : Bool → ℕ → Sharing
sharing_by true table = First table
sharing_by false name = Later name

abbrev pub sharing_of : ℕ → Sharing
sharing_of n = sharing_by (n % 2 == 1) (n / 2)

-- whether a sharing, which is seen as its number or none, is the first of this table
abbrev pub is_first : Option ℕ → ℕ → Bool
is_first None table = false
is_first (Some n) table = n == first_of table

-- the same as a fact
abbrev pub IsFirst : Option ℕ → ℕ → Type 0
IsFirst sharing table = is_first sharing table ≡ true

-- a sharing may be one of this table: it isn't the first of another
abbrev pub belongs : Sharing → ℕ → Type 0
belongs (First other) table = other ≡ table
belongs (Later name) table = ⊤

-- the same of its number or none
abbrev pub Belongs : Option ℕ → ℕ → Type 0
Belongs None table = ⊤
Belongs (Some n) table = belongs (sharing_of n) table

-- what a slot holds, by the code of its value
abbrev pub left_of : (R : RattleType) → Option R.Denot → Option Gv
left_of R None = None
left_of R (Some x) = Some (R.coded.code x)

-- what an id's note says once the slot holds this: in the first sharing of the table the value, if there is
-- one
abbrev pub left_after : (R : RattleType) → Option ℕ → ℕ → Option Gv → Option R.Denot → Option Gv
left_after R sharing table left None = left
left_after R sharing table left (Some x) = if is_first sharing table then Some (R.coded.code x) else left
