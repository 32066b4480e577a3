-- Threads may share a bucket if its values may go to another thread.
use denote.RattleType.{RattleType}
use denote.Param.Send.{IsSend, IsSync}
use Rattle.thread_local_shared_buckets.specs.contracts.shared_bucket.SharedBucket.{the_row}
use Rattle.thread_local_shared_buckets.proofs.BucketSent.{kept_keyless}

pub sync : (T : RattleType) → IsSend T → IsSync (the_row T)
sync T s = record { shared = λ d b o κ. ((λ _. tt), λ t. kept_keyless T s d t b (Prim.Native.Nat.◌+◌ o 0) κ) }
