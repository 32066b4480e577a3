-- Threads may share the word of announced buckets.
use denote.Param.Send.{IsSync}
use Rattle.thread_local_shared_buckets.proofs.AnnouncingSent.{word_keyless}
use Rattle.thread_local_base.specs.Chain.{chain_keyless}
use Rattle.thread_local_shared_buckets.specs.contracts.announcements.Announcements.{the_row}

pub sync : IsSync the_row
sync = record { shared = λ d b o κ α. ((λ νs. chain_keyless νs κ α), λ n. (tt, word_keyless d n)) }
