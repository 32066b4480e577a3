-- The history of a table: what was done with its ids and slots, in the order of its atomic steps.
use Rattle.std.specs.Prelude.{ℕ, ◌==◌, if◌then◌else◌, Bool, List, [], ◌∷◌, ◌++◌, Option, None, Some, refl, ◌≡◌}
use Rattle.std.specs.Coded.{Coded, coded_option, coded_ℕ, coded×, code_by}
use base.Stored.{Gv, coded_list}
use Rattle.thread_local_base.specs.Held.{with_least, without}

-- the least id that wasn't held was taken, this id was given back, or its slot was published with
-- this value
pub data HistoryMove (V : Type 0) : Type 0 where
  Take : HistoryMove V
  Give : (id : ℕ) → HistoryMove V
  Publish : (id : ℕ) → (value : V) → HistoryMove V

-- a move of a running table's history, which has the code of a published value
abbrev pub IdMove : Type 0
IdMove = HistoryMove Gv

-- A move as plain data, which ghost state can keep: none for the take, or an id with what was
-- published.
abbrev pub move_data : IdMove → Option (ℕ × Option Gv)
move_data Take = None
move_data (Give id) = Some (id, None)
move_data (Publish id value) = Some (id, Some value)

abbrev pub move_of : Option (ℕ × Option Gv) → IdMove
move_of None = Take
move_of (Some (id, None)) = Give id
move_of (Some (id, Some value)) = Publish id value

pub same_move : (move : IdMove) → move_of (move_data move) ≡ move
same_move Take = refl
same_move (Give id) = refl
same_move (Publish id value) = refl

-- a code is its own code
abbrev pub value_coded : Coded Gv
value_coded = record { code = λ g. g; inj = λ x y e. e }

-- an injective code of what was left in a slot
abbrev pub left_coded : Coded (Option Gv)
left_coded = coded_option value_coded

abbrev pub move_coded : Coded IdMove
move_coded =
    code_by (Option (ℕ × Option Gv)) (coded_option (coded× coded_ℕ (coded_option value_coded))) move_data move_of same_move

-- a history as plain data
abbrev pub moves_coded : Coded (List IdMove)
moves_coded = coded_list move_coded

-- the held ids after moves, where these were held before
abbrev pub held_from : {V : Type 0} → List Bool → List (HistoryMove V) → List Bool
held_from held [] = held
held_from held (Take ∷ moves) = held_from (with_least held) moves
held_from held (Give id ∷ moves) = held_from (without held id) moves
held_from held (Publish id value ∷ moves) = held_from held moves

-- the ids that are held after all these moves of a running table, where none was held before
abbrev pub held_after : List IdMove → List Bool
held_after moves = held_from [] moves

-- the history once one more move was made
abbrev pub noted : {V : Type 0} → List (HistoryMove V) → HistoryMove V → List (HistoryMove V)
noted before move = before ++ (move ∷ [])

-- the value of a slot where one was there before, and another is published: the first stays
abbrev pub or_else : {V : Type 0} → Option V → Option V → Option V
or_else None v = v
or_else (Some kept) v = Some kept

-- what a history says that the slot of an id was published with: the first value stays
abbrev pub published_in : {V : Type 0} → List (HistoryMove V) → ℕ → Option V
published_in [] id = None
published_in (Take ∷ moves) id = published_in moves id
published_in (Give other ∷ moves) id = published_in moves id
published_in (Publish other value ∷ moves) id = if other == id then Some value else published_in moves id
