-- The word of the first ids may go to another thread.
use denote.Param.Send.{IsSend}
use Rattle.thread_local_ids.proofs.FirstElements.{lies_keyless}
use Rattle.thread_local_ids.specs.contracts.first.FirstIds.{the_row}

pub send : IsSend the_row
send = record {
  owned = λ d vs. ((λ _. tt), λ n. ((λ vss. (tt, ((tt, tt), tt))), lies_keyless d.table n));
  leaving = λ k d w. tt;
}
