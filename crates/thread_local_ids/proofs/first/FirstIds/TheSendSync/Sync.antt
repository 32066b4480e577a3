-- Threads may share the word of the first ids.
use denote.Param.Send.{IsSync}
use Rattle.thread_local_base.specs.Chain.{chain_keyless}
use Rattle.thread_local_ids.proofs.FirstElements.{lies_keyless}
use Rattle.thread_local_ids.specs.contracts.first.FirstIds.{the_row}

pub sync : IsSync the_row
sync = record { shared = λ d b o κ α. ((λ νs. chain_keyless νs κ α), λ n. (tt, lies_keyless d.table n)) }
