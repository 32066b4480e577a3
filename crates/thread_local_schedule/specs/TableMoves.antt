-- The moves of a table: those of a sheet, and a drain.
use Rattle.std.specs.Prelude.{Option, Some, None, ⊤}
use Rattle.thread_local_base.specs.Sheet.{Sheet, Move, moved, IsAllowed}

-- a move of the sheet, or a drain of its values
pub data TableMove (V : Type 0) : Type 0 where
  OfSheet : (move : Move V) → TableMove V
  Drain : TableMove V

-- the sheet after a move of the table: a drain leaves the held ids and the capacity, and no value
abbrev pub moved_by : {V : Type 0} → Sheet V → TableMove V → Sheet V
moved_by sheet (OfSheet move) = moved sheet move
moved_by sheet Drain = record sheet { values = λ _. None }

-- the sheet after a move of the table, or as it was where there was none
abbrev pub moved_by_if : {V : Type 0} → Sheet V → Option (TableMove V) → Sheet V
moved_by_if sheet None = sheet
moved_by_if sheet (Some move) = moved_by sheet move

-- what a move of the table requires: what that of the sheet does, and a drain nothing
abbrev pub IsMoveAllowed : {V : Type 0} → Sheet V → TableMove V → Type 0
IsMoveAllowed sheet (OfSheet move) = IsAllowed sheet move
IsMoveAllowed sheet Drain = ⊤
