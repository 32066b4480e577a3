-- The moves of `tls ids`: which ids they take, and when they may run.
use Rattle.std.specs.Prelude.{◌≡◌, ℕ, ◌-◌, ◌^◌, Bool, false, List, [], ◌∷◌, map, take, slice_get, Some, IsTrue}
use Rattle.thread_local_base.specs.Held.{is_held, least, HoldsAllBelow}
use Rattle.thread_local_base.specs.IdMoves as ids
use Rattle.thread_local_base.specs.IdMoves.{IdMove, held_after, noted}
use Rattle.thread_local_tls.specs.declared.moves.Move.{Move}
use Rattle.thread_local_tls.specs.declared.moves.Move.TheVariants.{Take, Give}

-- a move as a history of ids notes it
abbrev pub id_move : Move → IdMove
id_move Take = ids.Take
id_move (Give id) = ids.Give id

-- the history of ids that these moves leave
abbrev pub history_of : List Move → List IdMove
history_of moves = map id_move moves

-- The ids that the takes give, in order, after this history. Each is the least id that the history
-- before it leaves free.
abbrev pub ids_given : List IdMove → List Move → List ℕ
ids_given before [] = []
ids_given before (Take ∷ moves) = least (held_after before) ∷ ids_given (noted before ids.Take) moves
ids_given before (Give id ∷ moves) = ids_given (noted before (ids.Give id)) moves

-- a move may run: the id of a give is held
abbrev pub MayMove : List Bool → Move → Type 0
MayMove held Take = Unit {0}
MayMove held (Give id) = IsTrue (is_held held id)

-- moves may run after this history: each give is of an id that is held then
abbrev pub MayRun : List IdMove → List Move → Type 0
MayRun before [] = Unit {0}
MayRun before (move ∷ moves) = MayMove (held_after before) move × MayRun (noted before (id_move move)) moves

-- a move gives back an id that isn't held, and the moves before it may run
pub record GivesWhatIsNotHeld (moves : List Move) : Type 0 where
  pub number : ℕ
  pub id : ℕ
  pub gives : slice_get moves number ≡ Some (Give id)
  pub may_run_before : MayRun [] (take number moves)
  pub is_free : is_held (held_after (history_of (take number moves))) id ≡ false

-- a move takes an id where every one is held, and the moves before it may run
pub record RunsOutOfIds (moves : List Move) : Type 0 where
  pub number : ℕ
  pub takes : slice_get moves number ≡ Some Take
  pub may_run_before : MayRun [] (take number moves)
  pub all_held : HoldsAllBelow (2 ^ 63 - 1) (held_after (history_of (take number moves)))
