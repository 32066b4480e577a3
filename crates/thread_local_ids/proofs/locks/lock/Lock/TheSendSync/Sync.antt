-- Threads may share a lock if its value may go to another thread.
use Rattle.std.proofs.Common.{ℕ, zero, suc, ◌+◌}
use base.Fraction.{full_share}
use base.Shift.{Keyless}
use denote.RattleType.{RattleType}
use denote.Param.Send.{IsSend, IsSync, part_keyless}
use Rattle.thread_local_base.specs.Chain.{chain_keyless}
use Rattle.thread_local_ids.specs.Locking.{Fitting, offset, LockTurn, with_word}
use Rattle.thread_local_ids.specs.declared.locks.lock.Fits.{Ghosts}
use Rattle.thread_local_ids.specs.contracts.locks.lock.Lock.{the_row}

with_word_keyless : (R : RattleType) (ok : R.Denot → Type 0) → IsSend R
    → (b o : ℕ) (t : LockTurn) (n : ℕ)
    → Keyless (with_word R ok b o t n)
with_word_keyless R ok s b o t zero = λ x. ((λ _. tt), (tt, λ z. (part_keyless R s full_share z b (o + offset R), tt)))
with_word_keyless R ok s b o t (suc n) = tt

pub sync : (V : RattleType) (g : Ghosts V.Denot) → IsSend V → IsSync (the_row V g)
sync V g s = record {
  shared = λ d b o κ t. ((λ νs. chain_keyless νs κ t.0), λ n. (tt, with_word_keyless V (Fitting g.tag g.fits d.tag) s b o t n));
}
