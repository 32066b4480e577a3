-- A row may go to another thread if the values may.
use denote.RattleType.{RattleType}
use denote.Ref.{NamedLft}
use denote.Param.Send.{IsSend}
use Rattle.thread_local_shared_buckets.specs.contracts.row.Row.{the_row}
use Rattle.thread_local_shared_buckets.proofs.BucketSent.{found_keyless}

pub send : (a : NamedLft) (T : RattleType) → IsSend T → IsSend (the_row a T)
send a T s = record {
  owned = λ d vs.
      ((λ vss. (tt, (tt, ((λ uss. (tt, tt)), tt)))), found_keyless T s d.of d.names a.lft d.at);
  leaving = λ k f vs. tt;
}
