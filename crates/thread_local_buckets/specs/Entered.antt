-- Where a walk that writes has entered the chunk that it is in.
use Rattle.std.specs.Prelude.{◌≡◌, ◌-◌}
use Rattle.thread_local_buckets.specs.declared.loan.Loan.{Loan}
use Rattle.thread_local_buckets.specs.declared.cursor.RawIter.{RawIter}

-- the loan has entered the chunk whose flags the walk read last
abbrev pub IsEntered : {V : Type 0} → Loan V → RawIter → Type 0
IsEntered loan raw = (loan.bucket ≡ raw.bucket) × (loan.first ≡ raw.index - 64)
