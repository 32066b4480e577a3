-- Threads may share what shows that a bucket is announced.
use denote.Param.Send.{IsSync, part_keyless}
use Rattle.thread_local_shared_buckets.proofs.announcements.Announced.TheSendSync.Send.{send}
use Rattle.thread_local_shared_buckets.specs.contracts.announcements.Announced.{the_row}

pub sync : IsSync the_row
sync = record { shared = λ d b o κ q. part_keyless the_row send q d b o }
