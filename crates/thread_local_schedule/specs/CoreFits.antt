-- The invariant of a core, kept by every event, in its parts.
use Rattle.std.specs.Prelude.{◌≢◌}
use Rattle.std.proofs.Common.{◌≡◌, ℕ, ◌^◌, ◌-◌, ◌<◌, ◌≤◌, max, Bool, false, List, length, Option, Some, None, IsTrue}
use Rattle.thread_local_base.specs.Held.{Manager, is_held}
use Rattle.thread_local_base.specs.Capacity.{reserves_bucket, is_reserved}
use Rattle.thread_local_schedule.specs.Table.{Table, published, bucket_stands}
use Rattle.thread_local_schedule.specs.Local.{Local}
use Rattle.thread_local_schedule.specs.SharedWalk.{SharedWalk}
use Rattle.thread_local_schedule.specs.Fits.{AllWritten, AllAnnounced, LocalFits, number_at}
use Rattle.thread_local_schedule.specs.Calls.{HasLearnt}
use Rattle.thread_local_schedule.specs.Numbers.{own_number}
use Rattle.thread_local_schedule.specs.WalkFits.{WalkFits}
use Rattle.thread_local_schedule.specs.Core.{Core}

-- the manager has room for the peak and for the capacity, and both are numbers of ids
pub record ManagerFits (manager : Manager) (capacity : ℕ) : Type 0 where
  pub peak_room : length manager.held ≤ manager.room
  pub capacity_room : capacity ≤ manager.room
  pub peak_ids : length manager.held ≤ 2 ^ 63 - 1
  pub capacity_ids : capacity < 2 ^ 63

-- flags are set only over written values; a bucket that stands has no more slots than the capacity
-- or the peak, whichever is greater; the reserved buckets stand; published values lie below the
-- peak; and the first seven buckets are announced, that of each published value, and each that stands
-- and isn't reserved
pub record TableFits {V : Type 0} (table : Table V) (capacity peak : ℕ) : Type 0 where
  pub written : AllWritten table
  pub small : (bucket : ℕ) → IsTrue (bucket_stands table bucket) → 2 ^ bucket ≤ max capacity peak
  pub reserved : (bucket : ℕ) → IsTrue (reserves_bucket capacity bucket) → IsTrue (bucket_stands table bucket)
  pub below : (id : ℕ) (v : V) → published table id ≡ Some v → id < peak
  pub first_announced : (bucket : ℕ) → bucket < 7 → IsTrue (table.announced bucket)
  pub announced : AllAnnounced table
  pub standing_announced : (bucket : ℕ) → IsTrue (bucket_stands table bucket) → reserves_bucket capacity bucket ≡ false
      → IsTrue (table.announced bucket)

-- a Local fits its table, what it does fits what it has learnt, its id is held, and if that is
-- reserved its bucket is known to stand from the start
pub record LiveFits {V E : Type 0} (table : Table V) (held : List Bool) (capacity : ℕ) (local : Local V E) : Type 0 where
  pub local_fits : LocalFits table local
  pub learnt : HasLearnt local.doing local.learnt
  pub id_held : IsTrue (is_held held local.id)
  pub known : IsTrue (is_reserved capacity local.id) → IsTrue local.start.known

-- each Local does so, and no two have the same id
pub record LocalsFit {V E : Type 0} (table : Table V) (held : List Bool) (capacity : ℕ)
    (locals : ℕ → Option (Local V E)) (taken : ℕ) : Type 0 where
  pub each : (n : ℕ) (local : Local V E) → locals n ≡ Some local → LiveFits table held capacity local
  pub unshared : (m n : ℕ) (a b : Local V E) → locals m ≡ Some a → locals n ≡ Some b → a.id ≡ b.id → m ≡ n
  pub none_from : (n : ℕ) → taken ≤ n → locals n ≡ None

-- each walk under way fits
pub record WalksFit {V : Type 0} (table : Table V) (walks : ℕ → Option (SharedWalk V)) (walked : ℕ) : Type 0 where
  pub each : (n : ℕ) (walk : SharedWalk V) → walks n ≡ Some walk → WalkFits table walk
  pub none_from : (n : ℕ) → walked ≤ n → walks n ≡ None

-- the buckets that stand, and those that calls own, have numbers already given out, and no two have
-- the same
pub record NumbersFit {V E : Type 0} (table : Table V) (locals : ℕ → Option (Local V E)) : Type 0 where
  pub standing_made : (bucket number : ℕ) → number_at table bucket ≡ Some number → number < table.made
  pub standing_apart : (a b number : ℕ) → number_at table a ≡ Some number → number_at table b ≡ Some number → a ≡ b
  pub own_made : (n : ℕ) (local : Local V E) (number : ℕ) → locals n ≡ Some local
      → own_number local.doing ≡ Some number
      → number < table.made
  pub own_nowhere : (n : ℕ) (local : Local V E) (number bucket : ℕ) → locals n ≡ Some local
      → own_number local.doing ≡ Some number
      → number_at table bucket ≢ Some number
  pub own_apart : (m n : ℕ) (a b : Local V E) (number : ℕ) → locals m ≡ Some a → locals n ≡ Some b
      → own_number a.doing ≡ Some number → own_number b.doing ≡ Some number → m ≡ n

pub record CoreFits {V E : Type 0} (core : Core V E) : Type 0 where
  pub manager : ManagerFits core.manager core.capacity
  pub table : TableFits core.table core.capacity (length core.manager.held)
  pub locals : LocalsFit core.table core.manager.held core.capacity core.locals core.taken
  pub walks : WalksFit core.table core.walks core.walked
  pub numbers : NumbersFit core.table core.locals
