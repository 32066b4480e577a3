-- Threads may share a right: its elements name none.
use denote.Param.Send.{IsSync}
use Rattle.thread_local_ids.specs.Rights.{seen_by}
use Rattle.thread_local_ids.proofs.MoveElements.{page_keyless}
use Rattle.thread_local_ids.specs.contracts.rights.right.Right.{the_row}

pub sync : IsSync the_row
sync = record { shared = λ d b o κ. ((((tt, λ _. tt), tt), λ _. tt), page_keyless d.table (seen_by d.before d.held)) }
