-- An owner's buckets after a value is inserted at a place, and what a reference to that value
-- lends.
use Rattle.std.specs.Prelude.{ℕ, Result}
use Rattle.std.specs.Borrow.{LendsIfOk, MutBor, Fml, RattleType}
use Rattle.thread_local_base.specs.Owned.{Owned}
use Rattle.thread_local_base.specs.Owner.{with_published}
use Rattle.thread_local_buckets.specs.contracts.buckets.Buckets.{the_row}

-- the buckets with this bucket standing, and this value in one of its slots
abbrev pub owned_with : {V : Type 0} → Owned V → ℕ → ℕ → V → Owned V
owned_with owned bucket index v = record owned { contents = with_published owned.contents bucket index v }

-- at `Ok` the buckets end with the bucket standing and the value last written through `r` in the
-- slot; at `Err` they are unchanged
abbrev pub LendsInserted : (R : RattleType) → MutBor (Owned R.Denot) → ℕ → ℕ → Result (MutBor R.Denot) R.Denot → Fml
LendsInserted R s bucket index r = LendsIfOk (the_row R) R s r (owned_with s.now bucket index) s.now
