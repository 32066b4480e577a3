-- The rights to slots may go to another thread: their elements name none.
use denote.Param.Send.{IsSend}
use Rattle.thread_local_ids.proofs.RightElements.{slots_keyless}
use Rattle.thread_local_ids.specs.contracts.rights.right.SlotRights.{the_row}

pub send : IsSend the_row
send = record { owned = λ d vs. ((λ vss. (tt, ((λ uss. (tt, tt)), tt))), slots_keyless d.table 0); leaving = λ k f vs. tt }
