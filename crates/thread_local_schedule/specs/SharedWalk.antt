-- A walk over a table that threads share. It loads once which buckets are announced, as it begins.
-- Then it goes on by three kinds of steps: it passes a bucket that wasn't announced then, loads the
-- pointer of another, or looks at a slot.
use Rattle.std.specs.Prelude.{ℕ, zero, suc, ◌+◌, Bool, false, not, ◌&&◌, List, [], ◌∷◌, ◌++◌, Option, Some, None}
use Rattle.std.specs.Prelude.{is_some, if◌then◌else◌}
use Rattle.thread_local_base.specs.Cursor.{Cursor, fresh_cursor, cursor_id, may_load, after_load, after_look}
use Rattle.thread_local_schedule.specs.Table.{Table, slot_of, value_of, published, bucket_stands}

-- A shared walk: its cursor, and the buckets that were announced when it began; and a record of what
-- was published then, the ids and values given so far, the ids of the slots read, and how often a
-- pointer was loaded.
pub record SharedWalk (V : Type 0) : Type 0 where
  pub cursor : Cursor
  pub announced : ℕ → Bool
  pub first : ℕ → Option V
  pub given : List (ℕ × V)
  pub read : List ℕ
  pub loads : ℕ

-- a walk that begins
abbrev pub begun_walk : {V : Type 0} → Table V → SharedWalk V
begun_walk table = record {
  cursor = fresh_cursor;
  announced = table.announced;
  first = published table;
  given = [];
  read = [];
  loads = 0;
}

-- the walk after it has passed the bucket at its cursor, with no load
abbrev pub walk_pass : {V : Type 0} → SharedWalk V → SharedWalk V
walk_pass walk = record walk { cursor = after_load walk.cursor false }

-- the walk after it has loaded the pointer at its cursor
abbrev pub walk_load : {V : Type 0} → Table V → SharedWalk V → SharedWalk V
walk_load table walk =
    record walk { cursor = after_load walk.cursor (bucket_stands table walk.cursor.bucket); loads = suc walk.loads }

-- what the slot at a cursor shows
abbrev pub shown_at : {V : Type 0} → Table V → Cursor → Option V
shown_at table cursor = value_of (slot_of (table.pointers cursor.bucket) cursor.index)

-- the pairs with one more, if there is a value
abbrev pub with_pair : {V : Type 0} → List (ℕ × V) → ℕ → Option V → List (ℕ × V)
with_pair pairs id None = pairs
with_pair pairs id (Some v) = pairs ++ (id, v) ∷ []

-- the walk after it has looked at the slot at its cursor, and given the value that the slot shows,
-- if any
abbrev pub walk_look : {V : Type 0} → Table V → SharedWalk V → SharedWalk V
walk_look table walk =
    record walk {
      cursor = after_look walk.cursor (is_some (shown_at table walk.cursor));
      given = with_pair walk.given (cursor_id walk.cursor) (shown_at table walk.cursor);
      read = walk.read ++ cursor_id walk.cursor ∷ [];
    }

-- a step of a walk
pub data WalkStep : Type 0 where
  Pass : WalkStep
  Load : WalkStep
  Look : WalkStep

-- whether the bucket at the walk's cursor was announced when the walk began
abbrev pub at_announced : {V : Type 0} → SharedWalk V → Bool
at_announced walk = walk.announced walk.cursor.bucket

-- the step that a walk makes next
abbrev pub next_step : {V : Type 0} → SharedWalk V → WalkStep
next_step walk = if walk.cursor.looks then Look else if at_announced walk then Load else Pass

-- the walk after a step, or None where the step isn't enabled
unfoldable pub walk_step : {V : Type 0} → Table V → SharedWalk V → WalkStep → Option (SharedWalk V)
walk_step table walk Pass = if may_load walk.cursor && not (at_announced walk) then Some (walk_pass walk) else None
walk_step table walk Load = if may_load walk.cursor && at_announced walk then Some (walk_load table walk) else None
walk_step table walk Look = if walk.cursor.looks then Some (walk_look table walk) else None

-- how many of the buckets below n are among these
unfoldable pub buckets_among : (ℕ → Bool) → ℕ → ℕ
buckets_among these zero = 0
buckets_among these (suc bucket) = buckets_among these bucket + (if these bucket then 1 else 0)
