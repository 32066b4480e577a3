-- Where a walk is, by what its code keeps, as the model's cursor.
use Rattle.std.specs.Prelude.{◌≡◌, ℕ, ◌+◌, ◌^◌, ◌≤◌, ◌<◌, ◌==◌, ◌⊎◌, Bool, false, Option, Some, None, IfSome}
use Rattle.std.specs.Prelude.{if◌then◌else◌}
use Rattle.thread_local_base.specs.Place.{id_at}
use Rattle.thread_local_base.specs.Cursor.{Cursor, at_place}
use Rattle.thread_local_buckets.specs.declared.cursor.RawIter.{RawIter}
use Rattle.thread_local_shared_buckets.specs.declared.steps.Own.{Own}
use Rattle.thread_local_shared_buckets.specs.Walks.{Owed}

-- the cursor at the walk's place, before a load of the bucket's pointer
abbrev pub loading : RawIter → Cursor
loading raw = record { bucket = raw.bucket; index = raw.index; looks = false }

-- the cursor of a walk between two calls: at a bucket's first slot it loads the pointer next, and behind
-- a slot whose value it gave it looks on
abbrev pub resting : RawIter → Cursor
resting raw = if raw.index == 0 then loading raw else at_place (loading raw)

-- the first id that the walk hasn't passed
abbrev pub next_id : RawIter → ℕ
next_id raw = id_at raw.bucket raw.index

-- the walk past a slot of its bucket, whose value it gave
abbrev pub past : RawIter → ℕ → RawIter
past raw index = record { yielded = raw.yielded + 1; bucket = raw.bucket; bucket_size = raw.bucket_size; index = index + 1 }

-- the walk goes from one place to another, and an id doesn't lie between
abbrev pub Skips : RawIter → RawIter → ℕ → Type 0
Skips from to id = (id < next_id from) ⊎ (next_id to ≤ id)

-- an id that lies in the walk's bucket lies behind the walk
abbrev pub IsBehind : RawIter → ℕ → Type 0
IsBehind raw id = (i : ℕ) → i < 2 ^ raw.bucket → id ≡ id_at raw.bucket i → i < raw.index

-- the walk at the first slot of this bucket, which has so many slots
abbrev pub at_bucket : RawIter → ℕ → ℕ → RawIter
at_bucket raw bucket size = record { yielded = raw.yielded; bucket = bucket; bucket_size = size; index = 0 }

module _ {V : Type 0} where
  -- an own value with its id
  abbrev pub owed : Own V → Owed V
  owed own = record { id = id_at own.thread.bucket own.thread.index; value = own.value.now }

  -- whether the own value, if there is one, lies in a bucket
  abbrev pub lies_in : Option (Own V) → ℕ → Bool
  lies_in None bucket = false
  lies_in (Some own) bucket = own.thread.bucket == bucket

  -- whether it lies at this index of a bucket
  abbrev pub is_at : Option (Own V) → ℕ → ℕ → Bool
  is_at None bucket index = false
  is_at (Some own) bucket index = if own.thread.bucket == bucket then own.thread.index == index else false

  -- the own value's token says of its id that its slot was published with this value, in this
  -- sharing
  pub record OwnIsTold (name : Option ℕ) (own : Own V) : Type 0 where
    pub sharing : own.token.sharing ≡ name
    pub id : own.token.id ≡ id_at own.thread.bucket own.thread.index
    pub value : own.token.value ≡ own.value.now

  -- the walk hasn't passed the own value
  pub record IsAhead (raw : RawIter) (own : Own V) : Type 0 where
    pub bucket : raw.bucket ≤ own.thread.bucket
    pub index : own.thread.bucket ≡ raw.bucket → raw.index ≤ own.thread.index

  -- the walk is in a bucket or past the last, it hasn't passed the own value, and it gave no more
  -- values than it passed ids
  pub record IsSharedWalk (raw : RawIter) (own : Option (Own V)) : Type 0 where
    pub in_table : raw.bucket ≤ 63
    pub within : raw.index ≤ 2 ^ raw.bucket
    pub complete : raw.bucket ≡ 63 → raw.index ≡ 0
    pub size : raw.bucket_size ≡ 2 ^ raw.bucket
    pub own_ahead : IfSome own (IsAhead raw)
    pub yielded : raw.yielded ≤ next_id raw
