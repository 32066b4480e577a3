-- What was seen may go to another thread if the values may.
use denote.RattleType.{RattleType}
use denote.Ref.{NamedLft}
use denote.Param.Send.{IsSend}
use Rattle.thread_local_shared_buckets.specs.contracts.seen.Seen.{the_row}
use Rattle.thread_local_shared_buckets.proofs.BucketSent.{seen_keyless}

pub send : (a : NamedLft) (T : RattleType) → IsSend T → IsSend (the_row a T)
send a T s = record {
  owned = λ d vs.
      ((λ vss. (tt, (tt, ((tt, tt), ((λ uss. (tt, tt)), tt))))), seen_keyless T s d.of d.at d.names d.chunk d.flags d.values a.lft);
  leaving = λ k f vs. tt;
}
