-- The word of announced buckets may go to another thread.
use denote.Param.Send.{IsSend}
use Rattle.thread_local_shared_buckets.proofs.AnnouncingSent.{word_keyless}
use Rattle.thread_local_shared_buckets.specs.contracts.announcements.Announcements.{the_row}

pub send : IsSend the_row
send = record {
  owned = λ d vs. ((λ _. tt), λ n. ((λ vss. (tt, ((tt, tt), tt))), word_keyless d n));
  leaving = λ k d w. tt;
}
