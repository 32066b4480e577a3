use Rattle.thread_local_schedule.proofs.StepNeeds as needs
use Rattle.thread_local_schedule.proofs.Clauses as clause
use Rattle.thread_local_schedule.proofs.steps.steps_happen.Goals as goal

pub returns : goal.returns
returns g c = record {
  get_begins = needs.get_begins;
  get_or_begins = needs.get_or_begins;
  loads = needs.loads;
  looks = needs.looks;
  asks = needs.asks;
  announces = needs.announces;
  installs = λ core n local r. needs.installs core n local (clause.fits core r);
  fills = needs.fills;
  writes = needs.writes;
  sets = λ core n local r. needs.sets core n local (clause.fits core r);
  replies = needs.replies;
  walk_loads = needs.walk_loads;
  walk_passes = needs.walk_passes;
  walk_looks = needs.walk_looks;
}
