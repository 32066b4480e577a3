-- A table as its users see it, and its moves: those of its history (take an id, give one back,
-- publish a value), keep a value, rewrite values, clear.
use Rattle.std.specs.Prelude.{◌≡◌, ℕ, List, [], Bool, Option, None, option_map, IsTrue, IsSome, ⊤}
use Rattle.thread_local_base.specs.Held.{is_held, with_least, without}
use Rattle.thread_local_base.specs.IdMoves.{HistoryMove, Take, Give, Publish}
use Rattle.thread_local_base.specs.Walk.{with_value}

-- Which ids are held, with a truth value for each id below some number; the value of each id that
-- has one; and the capacity that was asked for.
pub record Sheet (V : Type 0) : Type 0 where
  pub held : List Bool
  pub values : ℕ → Option V
  pub capacity : ℕ

-- the sheet of a table from `new`
abbrev pub new_sheet : {V : Type 0} → Sheet V
new_sheet = record { held = []; values = λ _. None; capacity = 0 }

-- the ways in which a sheet may change
pub data Move (V : Type 0) : Type 0 where
  OfHistory : (move : HistoryMove V) → Move V
  Keep : (id : ℕ) → (offered : V) → Move V
  Rewrite : (others : ℕ → V → V) → Move V
  Clear : Move V

-- the sheet after a move
abbrev pub moved : {V : Type 0} → Sheet V → Move V → Sheet V
moved sheet (OfHistory Take) = record sheet { held = with_least sheet.held }
moved sheet (OfHistory (Give id)) = record sheet { held = without sheet.held id }
moved sheet (OfHistory (Publish id value)) = record sheet { values = with_value sheet.values id value }
moved sheet (Keep id offered) = sheet
moved sheet (Rewrite others) = record sheet { values = λ id. option_map (others id) (sheet.values id) }
moved sheet Clear = record new_sheet { capacity = sheet.capacity }

-- what a move requires: an id that is given back is held, one that is published is held and has no
-- value, and one that is kept has a value
abbrev pub IsAllowed : {V : Type 0} → Sheet V → Move V → Type 0
IsAllowed sheet (OfHistory Take) = ⊤
IsAllowed sheet (OfHistory (Give id)) = IsTrue (is_held sheet.held id)
IsAllowed sheet (OfHistory (Publish id value)) = (sheet.values id ≡ None) × IsTrue (is_held sheet.held id)
IsAllowed sheet (Keep id offered) = IsSome (sheet.values id)
IsAllowed sheet (Rewrite others) = ⊤
IsAllowed sheet Clear = ⊤
