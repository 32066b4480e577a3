-- What rights own: elements of ghost state, one at the key of each id under the table's name, with
-- one holder each. At one more key lies what was done with the ids, which only grows. At others lie the
-- notes of ids, and the rights to tell what slots are published with.
use Rattle.std.specs.Prelude.{◌≡◌, ℕ, ◌+◌, ◌-◌, ◌^◌, ◌<◌, ◌≤◌, ◌==◌, nat_lt, nat_le, Bool, true, false, not, ◌&&◌, ◌||◌, List, [], ◌∷◌, length, if◌then◌else◌}
use Rattle.std.specs.Prelude.{Option as Maybe, None, Some, is_some}
use mathlib.Core.Option.{Option, none, some}
use base.Fraction.{full_share}
use base.Algebra.{Algebra}
use base.Growing.{prefixes, growing}
use base.Stored.{Gv}
use base.Fml.{Share, Fml, ftrue, fown, fsep, fex}
use types.Keyed.{keyed}
use Rattle.thread_local_base.specs.Fact.{fact}
use Rattle.thread_local_base.specs.Held.{least, is_held}
use Rattle.thread_local_base.specs.IdMoves.{IdMove, Take, Give, Publish, left_coded, move_coded, held_after, noted, published_in}
use Rattle.thread_local_ids.specs.Returns.{gives, counts_own, counts_page, tenure_owns}

-- whether an id is among those whose right is out
abbrev pub is_out : List ℕ → ℕ → Bool
is_out [] id = false
is_out (x ∷ out) id = if x == id then true else is_out out id

-- the ids without this one
abbrev pub less : List ℕ → ℕ → List ℕ
less [] id = []
less (x ∷ out) id = if x == id then less out id else x ∷ less out id

-- moves that only grow: whoever has the whole share appends to them, and what was reached once is a
-- fact that anybody may have
abbrev pub telling : Algebra
telling = growing (prefixes move_coded)

abbrev pub Element : Type 0
Element = Option Share × List IdMove

-- an element at a key where the test of the key is true, and none elsewhere
abbrev pub at_if : Bool → Element → Option Element
at_if true a = some a
at_if false a = none

abbrev pub element_if : Bool → Option Element
element_if t = at_if t (some full_share, [])

-- the one element at a key under a name: under a table's name, the right to an id of the table
unfoldable pub right_owns : ℕ → ℕ → Fml
right_owns table id = fown (keyed telling) table (λ j. element_if (id == j))

-- The keys from this one on are those of slots: whoever has the right to one of them may tell what the
-- slot of an id is published with. They lie behind the keys of all other rights.
abbrev pub slot_key : ℕ → ℕ
slot_key id = id + 2 ^ 66

-- whether the right at a key is one of a table's, and isn't out
abbrev pub is_kept : List ℕ → ℕ → Bool
is_kept out j = nat_lt j (slot_key 0) && not (is_out out j)

-- the rights of a table to all ids but those that are out
unfoldable pub rights_own : ℕ → List ℕ → Fml
rights_own table out = fown (keyed telling) table (λ j. element_if (is_kept out j))

-- the rights to the slots of a table from the id k on
unfoldable pub slots_own : ℕ → ℕ → Fml
slots_own table k = fown (keyed telling) table (λ j. element_if (nat_le (slot_key k) j))

-- an element at one key under a table's name
abbrev pub element_at : ℕ → ℕ → Element → Fml
element_at key table a = fown (keyed telling) table (λ j. at_if (key == j) a)

-- the key of the moves
abbrev pub moves_key : ℕ
moves_key = 2 ^ 64 - 1

abbrev pub moves_own : ℕ → Element → Fml
moves_own table a = element_at moves_key table a

-- what the moves begin with as they are kept: a name for what the table has of its ids' counts, and
-- for how many ids there was room
abbrev pub Head : Type 0
Head = ℕ × ℕ

abbrev pub kept : Head → List IdMove → List IdMove
kept h moves = Give h.0 ∷ Give h.1 ∷ moves

abbrev pub history_as : ℕ → List IdMove → Head → Fml
history_as table moves h = fsep (moves_own table (some full_share, kept h moves)) (counts_own h.0 moves)

abbrev pub page_as : ℕ → List IdMove → Head → Fml
page_as table moves h = fsep (moves_own table (none, kept h moves)) (counts_page h.0 moves)

abbrev pub held_as : ℕ → ℕ → ℕ → Head → Fml
held_as table id n h = fsep (moves_own table (none, kept h [])) (tenure_owns h.0 id n)

-- these are all moves of a table, and whoever has this appends to them
unfoldable pub history_owns : ℕ → List IdMove → Fml
history_owns table moves = fex Head (history_as table moves)

-- these were all moves of a table once, which began with room for so many ids
unfoldable pub page_with : ℕ → List IdMove → ℕ → Fml
page_with table moves room = fex ℕ (λ δ. page_as table moves (δ, room))

-- these were all moves of a table once
abbrev pub page_owns : ℕ → List IdMove → Fml
page_owns table moves = fex ℕ (page_with table moves)

-- an id is held, which was given back n times before
unfoldable pub held_owns : ℕ → ℕ → ℕ → Fml
held_owns table id n = fex Head (held_as table id n)

-- the least id was taken after these moves, and is held
abbrev pub taken_id : List IdMove → ℕ
taken_id before = least (held_after before)

abbrev pub tenure_of : ℕ → List IdMove → Fml
tenure_of table before = fsep (page_owns table (noted before Take)) (held_owns table (taken_id before) (gives before (taken_id before)))

-- these were all moves of a table once; that there were none is so of every table
abbrev pub page_if : ℕ → List IdMove → Fml
page_if table [] = ftrue
page_if table (move ∷ moves) = page_owns table (move ∷ moves)

-- these moves held n ids of a table at once
abbrev pub reached_by : ℕ → ℕ → List IdMove → Fml
reached_by table n moves = fsep (fact (n ≤ length (held_after moves))) (page_if table moves)

-- n ids of a table were held at once
unfoldable pub reached_owns : ℕ → ℕ → Fml
reached_owns table n = fex (List IdMove) (reached_by table n)

-- It is noted for good at a key that the slot of an id was published with this, where whoever had the
-- right at that key noted it.
unfoldable pub noted_at : ℕ → ℕ → ℕ → Gv → Fml
noted_at key table id value = element_at key table (none, Publish id value ∷ [])

-- Each id has a second right, its note: the right to this number. Whoever holds the id has it, until
-- its slot is published.
abbrev pub note_key : ℕ → ℕ
note_key id = id + 2 ^ 65

-- it is noted for good, and told, that the slot of an id was published with the value of this code
abbrev pub noted_owns : ℕ → ℕ → Gv → Fml
noted_owns table id value =
    fsep (noted_at (note_key id) table id value) (noted_at (slot_key id) table id (left_coded.code (Some value)))

-- the note of an id: its right, or what was noted for it
abbrev pub note_owns : ℕ → ℕ → Maybe Gv → Fml
note_owns table id None = right_owns table (note_key id)
note_owns table id (Some value) = noted_owns table id value

-- the right to an id, with its note
abbrev pub right_with : ℕ → ℕ → Maybe Gv → Fml
right_with table id left = fsep (right_owns table id) (note_owns table id left)

-- the right to an id, with its note, where it isn't lent
abbrev pub right_unless : Bool → ℕ → ℕ → Maybe Gv → Fml
right_unless true table id left = ftrue
right_unless false table id left = right_with table id left

-- the moves that a right has seen: those before a step on the word, and the take where the id is held
abbrev pub seen_by : List IdMove → Bool → List IdMove
seen_by before true = noted before Take
seen_by before false = before

-- what a right owns: where its id is held the tenure, and all else where it isn't lent
abbrev pub right_in : ℕ → List IdMove → Bool → Bool → Maybe Gv → Fml
right_in table before true lent left =
    fsep (tenure_of table before) (right_unless lent table (taken_id before) left)
right_in table before false lent left = page_owns table before

-- all that was published is noted
abbrev pub all_noted : ℕ → List IdMove → Fml
all_noted table [] = ftrue
all_noted table (Take ∷ moves) = all_noted table moves
all_noted table (Give id ∷ moves) = all_noted table moves
all_noted table (Publish id value ∷ moves) = fsep (noted_owns table id value) (all_noted table moves)

-- the note of an id is out exactly where the id is held or its slot was published
abbrev pub AreNotedOut : List ℕ → List IdMove → Type 0
AreNotedOut out moves =
    (id : ℕ) → id < 2 ^ 63 - 1
    → is_out out (note_key id) ≡ (is_held (held_after moves) id || is_some (published_in moves id))
