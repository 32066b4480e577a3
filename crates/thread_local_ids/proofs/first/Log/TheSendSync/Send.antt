-- It may go to another thread: its element names none.
use Rattle.std.proofs.Common.{false}
use denote.Param.Send.{IsSend}
use Rattle.thread_local_ids.proofs.FirstElements.{log_keyless}
use Rattle.thread_local_ids.specs.contracts.first.Log.{the_row}

pub send : IsSend the_row
send = record { owned = λ d vs. ((λ vss. (tt, ((λ uss. (tt, tt)), tt))), log_keyless d.table false d.moves); leaving = λ k f vs. tt }
