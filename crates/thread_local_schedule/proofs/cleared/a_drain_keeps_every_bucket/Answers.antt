use Rattle.thread_local_schedule.proofs.ClearedLaws as laws
use Rattle.thread_local_schedule.proofs.cleared.a_drain_keeps_every_bucket.Goals as goal

pub returns : goal.returns
returns g c = record {
  empty = laws.slot_at-drained;
  stands = laws.bucket_stands-drained;
  same = laws.number_at-drained;
  made = laws.made-drained;
  announced = laws.announced-drained;
}
