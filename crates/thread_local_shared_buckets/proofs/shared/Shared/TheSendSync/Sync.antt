-- Threads may share the buckets if they may share their parts.
use denote.RattleType.{RattleType}
use denote.Param.Send.{IsSend, IsSync}
use Rattle.thread_local_shared_buckets.specs.contracts.shared.Shared.{the_row}
use Rattle.thread_local_shared_buckets.proofs.parts.SharedParts.TheSendSync.{the_sync}

pub sync : (T : RattleType) → IsSend T → IsSync (the_row T)
sync T s = record { shared = λ d b o κ. (the_sync T s).shared d b o κ }
