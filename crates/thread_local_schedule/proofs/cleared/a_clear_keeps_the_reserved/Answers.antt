use Rattle.thread_local_schedule.proofs.ClearedLaws as laws
use Rattle.thread_local_schedule.proofs.cleared.a_clear_keeps_the_reserved.Goals as goal

pub returns : goal.returns
returns g c = record {
  empty = laws.slot_at-cleared;
  stands = laws.bucket_stands-cleared;
  same = laws.number_at-cleared;
  made = laws.made-cleared;
  announced = laws.announced-cleared;
}
