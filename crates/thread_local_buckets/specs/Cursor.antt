-- Where an owner's walk is: behind slots whose flags it has read. No slot before these has a value.
use Rattle.std.specs.Prelude.{◌≡◌, ℕ, ◌+◌, ◌-◌, ◌*◌, ◌/◌, ◌%◌, ◌^◌, ◌<◌, ◌≤◌, min, length, is_some, count_ones}
use Rattle.thread_local_base.specs.Bits.{is_set}
use Rattle.thread_local_base.specs.Place.{id_at}
use Rattle.thread_local_base.specs.Buckets.{Contents, row, values}
use Rattle.thread_local_base.specs.Rows.{value_in}
use Rattle.thread_local_base.specs.Walk.{walk}
use Rattle.thread_local_base.specs.Owner.{NoneBelow}
use Rattle.thread_local_buckets.specs.Announced.{AreAhead, HasNone}
use Rattle.thread_local_buckets.specs.declared.cursor.RawIter.{RawIter}
use Rattle.thread_local_buckets.specs.declared.cursor.OwnerCursor.{OwnerCursor}

-- the walk behind the next chunk of its bucket
abbrev pub behind_next : RawIter → RawIter
behind_next raw =
    record { yielded = raw.yielded; bucket = raw.bucket; bucket_size = raw.bucket_size; index = raw.index + 64 }

-- these are the flags of the chunk that a place is in, a bit each
abbrev pub AreFlagsAt : {V : Type 0} → Contents V → ℕ → ℕ → ℕ → Type 0
AreFlagsAt contents bucket index flags =
    (bit : ℕ) → bit < 64
    → is_set flags bit ≡ is_some (value_in contents bucket (index / 64 * 64 + bit))

-- the first id whose flag the walk hasn't read
abbrev pub read_to : RawIter → ℕ
read_to raw = id_at raw.bucket (min raw.index raw.bucket_size)

-- the index of a slot, by the number of its flag's bit in the word that was read last
abbrev pub slot_at : RawIter → ℕ → ℕ
slot_at raw bit = raw.index - 64 + bit

-- how many values the walk has left: those whose flags it has at hand, and those behind
abbrev pub values_left : OwnerCursor → ℕ
values_left cursor = count_ones cursor.rest + cursor.later

-- The walk is at the start of a bucket, and `rest` is 0; or it is behind 64 slots, and `rest` are
-- the flags of the values that these still have. No value stands before them.
pub record IsAt {V : Type 0} (contents : Contents V) (raw : RawIter) (rest : ℕ) : Type 0 where
  pub in_table : raw.bucket < 63
  pub size : raw.bucket_size ≡ 2 ^ raw.bucket
  pub round : raw.index % 64 ≡ 0
  pub within : raw.index < raw.bucket_size + 64
  pub behind : NoneBelow (values contents) (id_at raw.bucket (raw.index - 64))
  pub whole : 0 < raw.index → length (row contents raw.bucket) ≡ raw.bucket_size
  pub flags : 0 < raw.index → AreFlagsAt contents raw.bucket (raw.index - 64) rest
  pub none : raw.index ≡ 0 → rest ≡ 0

-- the walk has as many values to come as the cursor says
pub record IsOwnerWalk {V : Type 0} (contents : Contents V) (cursor : OwnerCursor) : Type 0 where
  pub at : IsAt contents cursor.raw cursor.rest
  pub announced : AreAhead (HasNone contents) cursor.left (cursor.raw.bucket + 1)
  pub counted : values_left cursor ≡ length (walk (values contents))
  pub few : values_left cursor < 2 ^ 63
  pub fits : cursor.raw.yielded + cursor.later < 2 ^ 63
  pub chunk : cursor.chunk ≡ (cursor.raw.index - 64) / 64

-- the walk has a value left, and the flags that it hasn't read are of ids from `given` on
pub record MayRead {V : Type 0} (contents : Contents V) (given : ℕ) (cursor : OwnerCursor) : Type 0 where
  pub walk : IsOwnerWalk contents cursor
  pub ahead : given ≤ read_to cursor.raw
  pub some : 0 < values_left cursor

-- the walk has flags at hand now, and has passed no value
pub record HasRead {V : Type 0} (contents : Contents V) (given : ℕ) (before after : OwnerCursor) : Type 0 where
  pub walk : IsOwnerWalk contents after
  pub ahead : given ≤ read_to after.raw
  pub some : 0 < after.rest
  pub left : values_left after ≡ values_left before
