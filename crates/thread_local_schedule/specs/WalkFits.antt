-- The invariant of a shared walk, and what each step adds to its record.
use Rattle.std.specs.Prelude.{◌≡◌, ℕ, suc, ◌+◌, ◌<◌, false, List, [], ◌∷◌, ◌++◌, map, Contains, Option, Some}
use Rattle.std.specs.Prelude.{IsTrue, is_some, if◌then◌else◌}
use Rattle.thread_local_base.specs.Place.{bucket_of}
use Rattle.thread_local_base.specs.Walk.{IsAscendingBelow}
use Rattle.thread_local_base.specs.Cursor.{cursor_id, after_load, after_look, CursorFits}
use Rattle.thread_local_schedule.specs.Table.{Table, published, bucket_stands}
use Rattle.thread_local_schedule.specs.SharedWalk.{SharedWalk, with_pair, WalkStep, Pass, Load, Look, at_announced, buckets_among}

-- What holds of a walk's record, where `ahead` is the first id that the walk hasn't passed: what it
-- saw at first is still published, and so is what it gave; ids were given and read in ascending
-- order, below `ahead`; and what it saw at first below `ahead` was given.
pub record RecordFits {V : Type 0} (table : Table V) (first : ℕ → Option V) (given : List (ℕ × V))
    (read : List ℕ) (ahead : ℕ) : Type 0 where
  pub first_stays : (id : ℕ) (v : V) → first id ≡ Some v → published table id ≡ Some v
  pub given_stays : (id : ℕ) (v : V) → Contains {X = ℕ × V} given (id, v) → published table id ≡ Some v
  pub given_ascend : IsAscendingBelow (map (λ pair. pair.0) given) ahead
  pub read_ascend : IsAscendingBelow read ahead
  pub passed : (id : ℕ) (v : V) → first id ≡ Some v → id < ahead → Contains {X = ℕ × V} given (id, v)

-- The invariant of a walk: its record and its cursor fit; what it saw at first lies in buckets that
-- were announced then; it looks only in such buckets; and of each of these that it passed, and of the
-- one in which it looks, it loaded the pointer once.
pub record WalkFits {V : Type 0} (table : Table V) (walk : SharedWalk V) : Type 0 where
  pub fits : RecordFits table walk.first walk.given walk.read (cursor_id walk.cursor)
  pub cursor : CursorFits walk.cursor
  pub seen_announced : (id : ℕ) (v : V) → walk.first id ≡ Some v → IsTrue (walk.announced (bucket_of id))
  pub looks_announced : IsTrue walk.cursor.looks → IsTrue (at_announced walk)
  pub loads : walk.loads ≡ buckets_among walk.announced walk.cursor.bucket + (if walk.cursor.looks then 1 else 0)

-- what no step changes: the announced buckets and the values that the walk saw as it began
pub record Keeps {V : Type 0} (before after : SharedWalk V) : Type 0 where
  pub announced : after.announced ≡ before.announced
  pub first : after.first ≡ before.first

-- what a pass adds to a walk's record: nothing, and the cursor goes on to the next bucket
pub record Passes {V : Type 0} (before after : SharedWalk V) : Type 0 where
  pub keeps : Keeps before after
  pub given : after.given ≡ before.given
  pub read : after.read ≡ before.read
  pub loads : after.loads ≡ before.loads
  pub cursor : after.cursor ≡ after_load before.cursor false

-- what a load adds: it is counted, and the cursor goes on by whether its bucket stands
pub record Loads {V : Type 0} (table : Table V) (before after : SharedWalk V) : Type 0 where
  pub keeps : Keeps before after
  pub given : after.given ≡ before.given
  pub read : after.read ≡ before.read
  pub loads : after.loads ≡ suc before.loads
  pub cursor : after.cursor ≡ after_load before.cursor (bucket_stands table before.cursor.bucket)

-- what a look adds: the slot at the cursor is read, its value, if it shows one, is given, and the
-- cursor goes on
pub record Looks {V : Type 0} (table : Table V) (before after : SharedWalk V) : Type 0 where
  pub keeps : Keeps before after
  pub given : after.given ≡ with_pair before.given (cursor_id before.cursor) (published table (cursor_id before.cursor))
  pub read : after.read ≡ before.read ++ cursor_id before.cursor ∷ []
  pub loads : after.loads ≡ before.loads
  pub cursor : after.cursor ≡ after_look before.cursor (is_some (published table (cursor_id before.cursor)))

-- what each step adds
abbrev pub Adds : {V : Type 0} → Table V → WalkStep → SharedWalk V → SharedWalk V → Type 0
Adds table Pass before after = Passes before after
Adds table Load before after = Loads table before after
Adds table Look before after = Looks table before after
