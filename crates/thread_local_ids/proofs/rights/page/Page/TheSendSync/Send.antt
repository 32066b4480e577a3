-- It may go to another thread: its element names none.
use denote.Param.Send.{IsSend}
use Rattle.thread_local_ids.proofs.MoveElements.{page_with_keyless}
use Rattle.thread_local_ids.specs.contracts.rights.page.Page.{the_row}

pub send : IsSend the_row
send = record { owned = λ d vs. ((λ vss. (tt, ((λ uss. (tt, tt)), tt))), page_with_keyless d.table d.moves d.room); leaving = λ k f vs. tt }
