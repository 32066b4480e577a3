-- An owner's buckets while their values are lent to a walk that writes.
use Rattle.std.specs.Prelude.{◌≡◌, ℕ, is_some}
use Rattle.std.specs.Borrow.{follows, MutBor, Fml, RattleType}
use base.Fml.{GName}
use Rattle.thread_local_base.specs.Buckets.{stands, values}
use Rattle.thread_local_base.specs.Owned.{Owned}
use Rattle.thread_local_base.specs.Refilled.{refilled}
use Rattle.thread_local_buckets.specs.contracts.buckets.Buckets.{the_row}

-- the buckets with other values in the same slots
abbrev pub owned_refilled : {V : Type 0} → Owned V → Owned V → Owned V
owned_refilled old with = record old { contents = refilled old.contents with.contents }

-- the buckets end with some values in the slots that had one, and are unchanged elsewhere
abbrev pub LendsValues : (R : RattleType) → MutBor (Owned R.Denot) → GName → Fml
LendsValues R s name = follows (the_row R) (the_row R) s.ghost_name name (owned_refilled s.now)

-- whatever is written, the same buckets stand
abbrev pub WouldStand : {V : Type 0} → Owned V → Type 0
WouldStand {V} old =
    (written : Owned V) (bucket : ℕ)
    → stands (owned_refilled old written).contents bucket ≡ stands old.contents bucket

-- whatever is written, the same ids have a value
abbrev pub WouldBePublished : {V : Type 0} → Owned V → Type 0
WouldBePublished {V} old =
    (written : Owned V) (id : ℕ)
    → is_some (values (owned_refilled old written).contents id) ≡ is_some (values old.contents id)
