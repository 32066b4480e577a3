-- What a contract sees of a guard, and of an owner's lock, once the value was written through a `&mut`.
use Rattle.std.specs.Prelude.{ℕ}
use Rattle.thread_local_ids.specs.declared.locks.lock.LockGuard.{LockGuard}
use Rattle.thread_local_ids.specs.Locking.{LockView}

-- the guard with another value behind it
abbrev pub guard_with_value : {X : Type 0} → LockGuard X → X → LockGuard X
guard_with_value guard x = record guard { value = x }

-- the lock with this value behind it
abbrev pub lock_of : {X : Type 0} → (X → ℕ) → X → LockView
lock_of tag x = record { tag = tag x }
