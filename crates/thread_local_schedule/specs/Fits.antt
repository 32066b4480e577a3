-- The invariant of a `Local` and its table, and what a step may change of both.
use Rattle.std.specs.Prelude.{◌≡◌, ◌≢◌, ℕ, ◌⊎◌, false, Option, Some, None, option_map, option_and_then, IsTrue, is_some, IfSome, ⊤}
use Rattle.std.specs.Prelude.{if◌then◌else◌}
use Rattle.std.specs.Result.{result_ok}
use Rattle.thread_local_base.specs.Place.{bucket_of}
use Rattle.thread_local_base.specs.Walk.{with_value}
use Rattle.thread_local_base.specs.Answers.{View, answers, view_after_all}
use Rattle.thread_local_schedule.specs.Table.{Slot, Table, slot_at, published, bucket_stands}
use Rattle.thread_local_base.specs.Learnt.{Learnt, Unknown, Missing, Standing, Vacant, Holding}
use Rattle.thread_local_schedule.specs.Local.{Doing, Gets, Started, Private, Filled, Written, Local, LocalStep, InstallBucket}
use Rattle.thread_local_schedule.specs.Local.{SetFlag, filled_bucket, value_written}

-- a slot whose flag is set holds the value that was written
abbrev pub IsWritten : {V : Type 0} → Slot V → Type 0
IsWritten slot = IsTrue slot.flag → IsTrue (is_some slot.written)

-- every slot of the table that has its flag set does so
abbrev pub AllWritten : {V : Type 0} → Table V → Type 0
AllWritten table = (id : ℕ) → IsWritten (slot_at table id)

-- the bucket of every published value is announced
abbrev pub AllAnnounced : {V : Type 0} → Table V → Type 0
AllAnnounced {V} table = (id : ℕ) (v : V) → published table id ≡ Some v → IsTrue (table.announced (bucket_of id))

-- the view of a Local now: its first view, after its ended calls
abbrev pub view_now : {V E : Type 0} → Local V E → View V
view_now local = view_after_all local.start local.calls

-- what a Local has learnt still holds, and agrees with its view
abbrev pub IsLearnt : {V : Type 0} → Table V → ℕ → View V → Learnt V → Type 0
IsLearnt table id view Unknown = ⊤
IsLearnt table id view Missing = ((slot_at table id).flag ≡ false) × (view.known ≡ false)
IsLearnt table id view Standing = IsTrue (bucket_stands table (bucket_of id))
IsLearnt table id view Vacant = IsTrue (bucket_stands table (bucket_of id)) × ((slot_at table id).flag ≡ false)
IsLearnt table id view (Holding v) = published table id ≡ Some v

-- a Local with a bucket of its own finds its flag unset, and one that has written into a bucket that
-- stands also finds its value; and either finds its bucket announced where it knows that
abbrev pub IsDoing : {V E : Type 0} → Table V → ℕ → Doing V E → Type 0
IsDoing table id (Gets count) = ⊤
IsDoing table id (Started create) = ⊤
IsDoing table id (Private create number) = (slot_at table id).flag ≡ false
IsDoing table id (Filled create number announced) =
    ((slot_at table id).flag ≡ false) × (IsTrue announced → IsTrue (table.announced (bucket_of id)))
IsDoing table id (Written v announced) =
    IsTrue (bucket_stands table (bucket_of id))
    × (slot_at table id ≡ record { written = Some v; flag = false })
    × (IsTrue announced → IsTrue (table.announced (bucket_of id)))

-- A view has the value that its slot shows, a bucket that it knows to stand does stand, and what
-- was learnt and done holds.
pub record ViewFits {V E : Type 0} (table : Table V) (id : ℕ) (view : View V) (learnt : Learnt V) (doing : Doing V E) : Type 0 where
  pub value : view.value ≡ published table id
  pub known : IsTrue view.known → IsTrue (bucket_stands table (bucket_of id))
  pub learnt_so : IsLearnt table id view learnt
  pub doing_so : IsDoing table id doing

-- The invariant of a Local: its answers are those of its first view and its calls, and its view now
-- fits.
pub record LocalFits {V E : Type 0} (table : Table V) (local : Local V E) : Type 0 where
  pub answered : local.answered ≡ answers local.start local.calls
  pub view : ViewFits table local.id (view_now local) local.learnt local.doing

-- the number of the bucket that stands here, if one does
unfoldable pub number_at : {V : Type 0} → Table V → ℕ → Option ℕ
number_at table bucket = option_map (λ here. here.number) (table.pointers bucket)

-- a bucket stands in the new table, and it is the one that stood in the old table
abbrev pub IsSameBucket : {V : Type 0} → Table V → Table V → ℕ → Type 0
IsSameBucket old new bucket = IsTrue (bucket_stands new bucket) × (number_at new bucket ≡ number_at old bucket)

-- Between two tables only the slot of this id may differ, and only its bucket may be new, where that
-- was announced. A bucket that stands stays the same one, and one that is announced stays so.
pub record ChangesOnly {V : Type 0} (old new : Table V) (id : ℕ) : Type 0 where
  pub others : (other : ℕ) → id ≢ other → slot_at new other ≡ slot_at old other
  pub standing : (bucket : ℕ) → IsTrue (bucket_stands old bucket) → IsSameBucket old new bucket
  pub installed : (bucket : ℕ) → IsTrue (bucket_stands new bucket) → IsTrue (bucket_stands old bucket)
      ⊎ ((bucket_of id ≡ bucket) × IsTrue (old.announced bucket))
  pub announced : (bucket : ℕ) → IsTrue (old.announced bucket) → IsTrue (new.announced bucket)
  pub written : AllWritten new

-- the value that a step publishes, if any: an install publishes that of its bucket, where no bucket
-- stands yet
abbrev pub value_set : {V E : Type 0} → Table V → Local V E → LocalStep V E → Option V
value_set table local InstallBucket =
    if bucket_stands table (bucket_of local.id)
    then None
    else option_and_then (λ own. result_ok own.create) (filled_bucket local.doing)
value_set table local SetFlag = value_written local.doing
value_set table local step = None

-- a map with one value more, if there is one
abbrev pub with_value_if : {V : Type 0} → (ℕ → Option V) → ℕ → Option V → ℕ → Option V
with_value_if values id None = values
with_value_if values id (Some v) = with_value values id v

-- a Local keeps its id and its first view
pub record IsSameLocal {V E : Type 0} (before after : Local V E) : Type 0 where
  pub id : after.id ≡ before.id
  pub start : after.start ≡ before.start

-- What a step leaves of a Local and its table. It publishes this value, where none was published and
-- the bucket was announced, or none.
pub record StepFits {V E : Type 0} (table : Table V) (local : Local V E) (set : Option V) (after : Table V × Local V E) : Type 0 where
  pub fits : LocalFits after.0 after.1
  pub changes : ChangesOnly table after.0 local.id
  pub shown : (id : ℕ) → published after.0 id ≡ with_value_if (published table) local.id set id
  pub empty : IfSome set (λ _. published table local.id ≡ None)
  pub announced : IfSome set (λ _. IsTrue (table.announced (bucket_of local.id)))
  pub same : IsSameLocal local after.1
