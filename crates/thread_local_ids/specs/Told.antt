-- What is told of the slots of a table in one sharing: of an id nothing yet, or for good what its slot
-- was published with, or that nothing was published there until the sharing ended.
--
-- In a table's first sharing the same is noted for whoever holds the id, who hands it to the history when
-- the id is given back. So the history of the ids says what a slot was left with.
use Rattle.std.specs.Prelude.{ℕ, suc, Bool, true, false, List, [], ◌∷◌, Option, None, Some}
use Rattle.std.specs.Coded.{coded_option}
use seplogic.Ra.Instances.{OneShot}
use seplogic.Ra.Instances.OneShot.{pending, shot, op, inst_pcs}
use base.Stored.{Gv, Gv-set, coded_unit, coded⊎}
use base.Algebra.{Algebra}
use base.SetCodes.{coded}
use base.Fml.{GName, Fml, ftrue, fsep}
use types.Keyed.{entry}
use denote.RattleType.{RattleType}
use Rattle.thread_local_base.specs.Place.{id_at}
use Rattle.thread_local_base.specs.Rows.{empty_row}
use Rattle.thread_local_base.specs.Buckets.{Contents, IsTable}
use Rattle.thread_local_base.specs.Fact.{fact}
use Rattle.thread_local_base.specs.IdMoves.{IdMove, value_coded}
use Rattle.thread_local_ids.specs.Sharings.{Sharing, First, Later, sharing_of}
use Rattle.thread_local_ids.specs.Rights.{right_owns, slot_key, note_key, noted_at, history_owns}

-- the ghost state of one id: one holder may still tell something, or this is told for good
abbrev pub once : Algebra
once = record { El = OneShot Gv; op = op Gv-set; laws = inst_pcs Gv-set; set_coded = coded (coded⊎ coded_unit value_coded) }

-- under a name of a sharing's own, nothing is told of an id yet, and whoever has this may tell it
unfoldable pub untold : GName → ℕ → Fml
untold γ id = entry once γ id pending

-- this is told of an id for good
unfoldable pub told : GName → ℕ → Gv → Fml
told γ id g = entry once γ id (shot g)

-- Nothing is told of an id yet in a sharing, and whoever has this may tell it. In the first sharing of a
-- table that is a right of the table's.
abbrev pub untold_of : Sharing → ℕ → Fml
untold_of (First table) id = right_owns table (slot_key id)
untold_of (Later γ) id = untold γ id

-- this is told of an id for good
abbrev pub told_of : Sharing → ℕ → Gv → Fml
told_of (First table) id g = noted_at (slot_key id) table id g
told_of (Later γ) id g = told γ id g

-- where the sharing is the first of a table, it is noted for whoever holds the id what is told of it
abbrev pub noted_of : Sharing → ℕ → Gv → Fml
noted_of (First table) id g = noted_at (note_key id) table id g
noted_of (Later γ) id g = ftrue

-- where there is no sharing nothing is told, so this asks for nothing
abbrev pub untold_in : Option ℕ → ℕ → Fml
untold_in None id = ftrue
untold_in (Some n) id = untold_of (sharing_of n) id

abbrev pub told_in : Option ℕ → ℕ → Gv → Fml
told_in None id g = ftrue
told_in (Some n) id g = told_of (sharing_of n) id g

abbrev pub noted_in : Option ℕ → ℕ → Gv → Fml
noted_in None id g = ftrue
noted_in (Some n) id g = noted_of (sharing_of n) id g

module _ (R : RattleType) (sharing : Option ℕ) where
  -- it is told that the slot of an id was published with this value, or that it was not published
  abbrev pub tells : ℕ → Option R.Denot → Fml
  tells id None = told_in sharing id ((coded_option R.coded).code None)
  tells id (Some x) =
      fsep (told_in sharing id ((coded_option R.coded).code (Some x)))
      (noted_in sharing id (R.coded.code x))

  -- what lies with the slot of an id that holds this: told of a value, and untold of none
  abbrev pub told_or_untold : ℕ → Option R.Denot → Fml
  told_or_untold id None = untold_in sharing id
  told_or_untold id (Some x) = tells id (Some x)

  -- `tells` of slots one after another, the first of which is for this id
  abbrev pub all_tell : ℕ → List (Option R.Denot) → Fml
  all_tell id [] = ftrue
  all_tell id (v ∷ slots) = fsep (tells id v) (all_tell (suc id) slots)

  -- `told_or_untold` of slots one after another
  abbrev pub all_told_or_untold : ℕ → List (Option R.Denot) → Fml
  all_told_or_untold id [] = ftrue
  all_told_or_untold id (v ∷ slots) = fsep (told_or_untold id v) (all_told_or_untold (suc id) slots)

-- the slots of a bucket by its row: empty ones where it doesn't stand
abbrev pub whole_row : {V : Type 0} → ℕ → List (Option V) → List (Option V)
whole_row bucket [] = empty_row bucket
whole_row bucket (v ∷ slots) = v ∷ slots

module _ (R : RattleType) (sharing : Option ℕ) where
  -- what lies with the slots of the buckets from this number on, by their rows
  abbrev pub rows_telling : ℕ → List (List (Option R.Denot)) → Fml
  rows_telling bucket [] = ftrue
  rows_telling bucket (row ∷ rows) = fsep (all_told_or_untold R sharing (id_at bucket 0) (whole_row bucket row)) (rows_telling (suc bucket) rows)

  -- it is told of every id of these buckets what its slot was published with
  abbrev pub rows_tell : ℕ → List (List (Option R.Denot)) → Fml
  rows_tell bucket [] = ftrue
  rows_tell bucket (row ∷ rows) = fsep (all_tell R sharing (id_at bucket 0) (whole_row bucket row)) (rows_tell (suc bucket) rows)

  -- it is told of every id what its slot was published with: these are a table's contents
  abbrev pub book_owns : Contents R.Denot → Fml
  book_owns contents = fsep (fact (IsTable contents)) (rows_tell 0 contents.rows)

  -- the same, and where they are known, all moves of a table's ids
  abbrev pub book_with : Contents R.Denot → ℕ → Bool → List IdMove → Fml
  book_with contents table false moves = fsep (book_owns contents) ftrue
  book_with contents table true moves = fsep (book_owns contents) (history_owns table moves)
