-- A walk's cursor over shared buckets: it loads a bucket's pointer next, or looks at a slot next,
-- or is complete.
use Rattle.std.specs.Prelude.{◌≡◌, ℕ, suc, ◌^◌, ◌<◌, ◌≤◌, Bool, true, false, IsTrue, ◌==◌, nat_lt, if◌then◌else◌}
use Rattle.thread_local_base.specs.Place.{id_at}

-- Where a walk is: at a bucket, at an index of it, and whether it looks at the slot there next.
-- Where it doesn't look, it loads the bucket's pointer next.
pub record Cursor : Type 0 where
  pub bucket : ℕ
  pub index : ℕ
  pub looks : Bool

-- where a walk begins
abbrev pub fresh_cursor : Cursor
fresh_cursor = record { bucket = 0; index = 0; looks = false }

-- the id at a cursor: the first that the walk hasn't passed
abbrev pub cursor_id : Cursor → ℕ
cursor_id cursor = id_at cursor.bucket cursor.index

-- whether the walk is past the last bucket, and so returns `None`
abbrev pub is_complete : Cursor → Bool
is_complete cursor = if nat_lt cursor.bucket 63 then false else true

-- whether the walk loads a pointer next: it doesn't look, and isn't complete
abbrev pub may_load : Cursor → Bool
may_load cursor = if cursor.looks then false else nat_lt cursor.bucket 63

-- at the first index of the next bucket
abbrev pub at_next_bucket : Cursor → Cursor
at_next_bucket cursor = record { bucket = suc cursor.bucket; index = 0; looks = false }

-- in a bucket that stands the walk looks next; at the bucket's end it goes to the next bucket
abbrev pub at_place : Cursor → Cursor
at_place cursor = if cursor.index == 2 ^ cursor.bucket then at_next_bucket cursor else record cursor { looks = true }

-- the cursor after a load, by whether the bucket stands: a bucket that doesn't is skipped
abbrev pub after_load : Cursor → Bool → Cursor
after_load cursor true = at_place cursor
after_load cursor false = at_next_bucket cursor

-- the cursor after a look: whether or not the flag was set, the walk keeps the bucket's pointer and
-- goes on in the bucket
abbrev pub after_look : Cursor → Bool → Cursor
after_look cursor published = at_place (record cursor { index = suc cursor.index })

-- A cursor is well-formed: it is in its bucket or at its end, it looks only inside a bucket, and
-- where it doesn't look it is at index 0.
pub record CursorFits (cursor : Cursor) : Type 0 where
  pub in_table : cursor.bucket ≤ 63
  pub within : cursor.index ≤ 2 ^ cursor.bucket
  pub looks_in_table : IsTrue cursor.looks → cursor.bucket < 63
  pub looks_inside : IsTrue cursor.looks → cursor.index < 2 ^ cursor.bucket
  pub at_first : cursor.looks ≡ false → cursor.index ≡ 0
