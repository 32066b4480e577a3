-- A bucket may go to another thread if its values may.
use denote.RattleType.{RattleType}
use denote.Param.Send.{IsSend}
use Rattle.thread_local_shared_buckets.specs.contracts.shared_bucket.SharedBucket.{the_row}
use Rattle.thread_local_shared_buckets.proofs.BucketSent.{at_rest_keyless}

pub send : (T : RattleType) → IsSend T → IsSend (the_row T)
send T s = record {
  owned = λ d vs. ((λ _. tt), ((λ _. tt), λ p. ((λ vss. (tt, (tt, tt))), at_rest_keyless T s d p)));
  leaving = λ k d w. tt;
}
