-- The core of the model: a table with its id manager, its `Local`s and its walks.
use Rattle.std.specs.Prelude.{ℕ, zero, suc, ◌+◌, ◌^◌, length, Bool, true, false, ◌&&◌, [], Option, None, is_none, ◌==◌}
use Rattle.std.specs.Prelude.{if◌then◌else◌}
use Rattle.thread_local_base.specs.Place.{bucket_of}
use Rattle.thread_local_base.specs.Held.{Manager}
use Rattle.thread_local_base.specs.Buckets.{slots}
use Rattle.thread_local_base.specs.Sheet.{Sheet}
use Rattle.thread_local_schedule.specs.Table.{Table, made_table, published, bucket_stands}
use Rattle.thread_local_schedule.specs.Local.{Local, Doing, Private, Filled}
use Rattle.thread_local_schedule.specs.SharedWalk.{SharedWalk}

-- A core: the manager of ids; the capacity; the table of buckets; the Locals and the walks under
-- way, numbered in the order in which they began, and how many began so far; and whether the table
-- has ended.
pub record Core (V E : Type 0) : Type 0 where
  pub manager : Manager
  pub capacity : ℕ
  pub table : Table V
  pub locals : ℕ → Option (Local V E)
  pub taken : ℕ
  pub walks : ℕ → Option (SharedWalk V)
  pub walked : ℕ
  pub ended : Bool

-- the core of a table made with a capacity; its manager has this much more room
abbrev pub made_core : {V E : Type 0} → ℕ → ℕ → Core V E
made_core capacity extra = record {
  manager = record { held = []; room = capacity + extra };
  capacity = capacity;
  table = made_table capacity;
  locals = λ _. None;
  taken = 0;
  walks = λ _. None;
  walked = 0;
  ended = false;
}

-- the core of a table from `new`
abbrev pub new_core : {V E : Type 0} → Core V E
new_core = made_core 0 0

-- what users see of a core: the held ids, what is published at each id, and the capacity
abbrev pub shadow : {V E : Type 0} → Core V E → Sheet V
shadow core = record { held = core.manager.held; values = published core.table; capacity = core.capacity }

-- how many slots the installed buckets have together
abbrev pub installed_slots : {V E : Type 0} → Core V E → ℕ
installed_slots core = slots (bucket_stands core.table)

-- a numbered family, with this member or none at a number
abbrev pub put : {A : Type 0} → (ℕ → Option A) → ℕ → Option A → ℕ → Option A
put all number it n = if number == n then it else all n

-- whether a family has no member below a number
abbrev pub none_below : {A : Type 0} → (ℕ → Option A) → ℕ → Bool
none_below all zero = true
none_below all (suc n) = none_below all n && is_none (all n)

-- whether the table has an exclusive owner: there is no Local, and no walk is under way
abbrev pub is_alone : {V E : Type 0} → Core V E → Bool
is_alone core = none_below core.locals core.taken && none_below core.walks core.walked

-- the manager's peak
abbrev pub peak : {V E : Type 0} → Core V E → ℕ
peak core = length core.manager.held

-- how many slots the bucket has that a call has made and not yet offered
abbrev pub private_slots : {V E : Type 0} → ℕ → Doing V E → ℕ
private_slots id (Private create number) = 2 ^ bucket_of id
private_slots id (Filled create number announced) = 2 ^ bucket_of id
private_slots id doing = 0
