-- What shows that a bucket is announced may go to another thread.
use denote.Param.Send.{IsSend}
use Rattle.thread_local_shared_buckets.proofs.AnnouncingSent.{announced_keyless}
use Rattle.thread_local_shared_buckets.specs.contracts.announcements.Announced.{the_row}

pub send : IsSend the_row
send = record { owned = λ d vs. ((λ vss. (tt, ((λ uss. (tt, tt)), tt))), announced_keyless d.by d.bucket); leaving = λ k f vs. tt }
