-- A right may go to another thread: its elements name none.
use denote.Param.Send.{IsSend}
use Rattle.thread_local_ids.proofs.RightStates.{right_in_keyless}
use Rattle.thread_local_ids.specs.contracts.rights.right.Right.{the_row}

pub send : IsSend the_row
send = record {
  owned = λ d vs. ((λ vss. (tt, ((λ uss. (tt, tt)), tt))), right_in_keyless d.table d.before d.held d.lent d.left);
  leaving = λ k f vs. tt;
}
