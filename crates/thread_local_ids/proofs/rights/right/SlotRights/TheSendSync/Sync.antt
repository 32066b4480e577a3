-- Threads may share the rights to slots: their elements name none.
use denote.Param.Send.{IsSync, part_keyless}
use Rattle.thread_local_ids.proofs.rights.right.SlotRights.TheSendSync.Send.{send}
use Rattle.thread_local_ids.specs.contracts.rights.right.SlotRights.{the_row}

pub sync : IsSync the_row
sync = record { shared = λ d b o κ q. part_keyless the_row send q d b o }
