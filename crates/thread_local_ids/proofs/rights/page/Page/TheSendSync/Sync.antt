-- Threads may share it: its element names none.
use denote.Param.Send.{IsSync}
use Rattle.thread_local_ids.proofs.MoveElements.{page_with_keyless}
use Rattle.thread_local_ids.specs.contracts.rights.page.Page.{the_row}

pub sync : IsSync the_row
sync = record { shared = λ d b o κ. ((((tt, λ _. tt), tt), λ _. tt), page_with_keyless d.table d.moves d.room) }
