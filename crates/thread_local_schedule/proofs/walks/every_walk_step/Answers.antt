use Rattle.thread_local_schedule.proofs.WalkStepLaws as laws
use Rattle.thread_local_schedule.proofs.walks.every_walk_step.Goals as goal

pub returns : goal.returns
returns g c = record {
  begins = laws.begun_walk-fits;
  fits = laws.walk_step-fits;
  adds = laws.walk_step-adds;
  others = laws.walk_carried;
  complete = laws.complete_cursor;
}
