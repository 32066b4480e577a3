-- Shared buckets may go to another thread if their parts may.
use denote.RattleType.{RattleType}
use denote.Param.Send.{IsSend}
use Rattle.thread_local_shared_buckets.specs.contracts.shared.Shared.{the_row}
use Rattle.thread_local_shared_buckets.proofs.parts.SharedParts.TheSendSync.{the_send}

pub send : (T : RattleType) → IsSend T → IsSend (the_row T)
send T s = record { owned = λ d vs. ((λ _. tt), (the_send T s).owned d vs); leaving = λ k d w. tt }
