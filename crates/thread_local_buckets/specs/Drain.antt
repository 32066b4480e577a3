-- What contracts see of a `Drain`: the values still to come, and what it leaves once it is dropped.
use Rattle.std.specs.Prelude.{◌≡◌, ℕ, List, Option}
use Rattle.std.specs.Borrow.{GName}
use Rattle.std.specs.Iterator.{YieldsFirst, Yields}
use Rattle.thread_local_base.specs.Buckets.{values}
use Rattle.thread_local_base.specs.Owned.{Owned}
use Rattle.thread_local_base.specs.Walk.{walk}
use Rattle.thread_local_buckets.specs.Cursor.{values_left, IsOwnerWalk}
use Rattle.thread_local_buckets.specs.Emptied.{owned_emptied}
use Rattle.thread_local_buckets.specs.declared.drain.Drain.{Drain}

module _ {X : Type 0} where
  -- the values still to come
  abbrev pub drain_rest : Drain X → List X
  drain_rest d = walk (values d.buckets.now.contents)

  -- how many there are, as `len` counts them
  abbrev pub drain_left : Drain X → ℕ
  drain_left d = values_left d.cursor

  -- the buckets once the `Drain` is dropped
  abbrev pub drain_leaves : Drain X → Owned X
  drain_leaves d = owned_emptied d.buckets.now

  -- the ghost name of the reference to the buckets
  abbrev pub drain_lender : Drain X → GName
  drain_lender d = d.buckets.ghost_name

  -- the cursor is right: it has counted exactly the values that are still in the buckets. `drain` and
  -- `next` leave it so
  abbrev pub DrainCanStep : Drain X → Type 0
  DrainCanStep d = IsOwnerWalk d.buckets.now.contents d.cursor

  -- the walk has passed no slot
  abbrev pub DrainIsFresh : Drain X → Type 0
  DrainIsFresh d = d.cursor.raw ≡ record { yielded = 0; bucket = 0; bucket_size = 1; index = 0 }

  -- old and new borrow the same buckets, and leave the same once dropped
  abbrev pub DrainKeeps : Drain X → Drain X → Type 0
  DrainKeeps old new = (drain_lender new ≡ drain_lender old) × (drain_leaves new ≡ drain_leaves old)

  -- `next` took old to new, and returned the first value
  abbrev pub DrainSteps : Drain X → Option X → Drain X → Type 0
  DrainSteps old item new = YieldsFirst drain_rest old item new × DrainKeeps old new × DrainCanStep new

  -- after any number of calls of `next` it borrows the same buckets, and leaves them the same once
  -- dropped
  abbrev pub DrainKeepsAlong : Drain X → Type 0
  DrainKeepsAlong first = (items : List X) (later : Drain X) → Yields DrainSteps first items later → DrainKeeps first later
