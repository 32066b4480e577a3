-- Threads may share a guard if they may share its value.
use Rattle.std.proofs.Common.{◌+◌, ◌++◌}
use denote.RattleType.{RattleType}
use denote.RawPtr.{Ptr, block_ptr, null_ptr}
use denote.Ref.{NamedLft}
use denote.Param.Send.{IsSync, Common}
use Rattle.thread_local_ids.specs.Locking.{offset, guard_shares}
use Rattle.thread_local_ids.specs.declared.locks.lock.Fits.{Ghosts}
use Rattle.thread_local_ids.specs.contracts.locks.lock.LockGuard.{the_row}
use Rattle.thread_local_ids.proofs.Fields.{FieldsType}

pub sync : (a : NamedLft) (V : RattleType) (g : Ghosts V.Denot) → IsSync V → IsSync (the_row a V g)
sync a V g y =
    let fields : IsSync (FieldsType a V g) = search denote.Param.Send.sendable depth 20 in
    record { shared = λ d b o κ. (fields.shared (d.lock, (tt, tt)) b o κ, seen d.lock d.value κ) }
  where
    seen : (p : Ptr) (x : V.Denot) → Common (guard_shares a.lft V p x)
    seen (block_ptr b o) x κ = y.shared x b (o + offset V) (κ ++ a.lft)
    seen null_ptr x κ = tt
