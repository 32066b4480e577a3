-- An owner's buckets while the value of one slot is lent for writing.
use Rattle.std.specs.Prelude.{ℕ, Option}
use Rattle.std.specs.Borrow.{LendsIf, MutBor, Fml, RattleType}
use Rattle.thread_local_base.specs.Owned.{Owned}
use Rattle.thread_local_buckets.specs.Inserting.{owned_with}
use Rattle.thread_local_buckets.specs.contracts.buckets.Buckets.{the_row}

-- at `Some` the buckets end with the value last written through `r` in the slot; at `None` they are
-- unchanged
abbrev pub LendsSlot : (R : RattleType) → MutBor (Owned R.Denot) → ℕ → ℕ → Option (MutBor R.Denot) → Fml
LendsSlot R s bucket index r = LendsIf (the_row R) R s r (owned_with s.now bucket index) s.now
