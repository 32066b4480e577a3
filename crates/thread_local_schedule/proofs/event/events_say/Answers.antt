use Rattle.std.proofs.Common.{refl}
use Rattle.thread_local_schedule.specs.Local.{LoadPointer, LookAtFlag}
use Rattle.thread_local_schedule.proofs.EnabledSteps as step
use Rattle.thread_local_schedule.proofs.GoingOn.{few_steps, announced_fewer}
use Rattle.thread_local_schedule.proofs.Clauses as clause
use Rattle.thread_local_schedule.proofs.Enabled as may
use Rattle.thread_local_schedule.proofs.EventRules as rule
use Rattle.thread_local_schedule.proofs.Installs.{event_installs}
use Rattle.thread_local_schedule.proofs.Announcing as announcing
use Rattle.thread_local_schedule.proofs.event.events_say.Goals as goal

pub returns : goal.returns
returns g c = record {
  made_open = λ capacity extra. refl;
  made_room = λ capacity extra. refl;
  made_new = refl;
  reached_first = rule.reached_first;
  reached_next = rule.reached_next;
  lives = rule.lives;
  walks = rule.walks;
  ends = rule.ends;
  begins_get = rule.get_begins;
  begins_get_or = rule.get_or_begins;
  newcomers = rule.newcomers;
  goes_on = λ core n local r. rule.goes_on core n local (clause.fits core r);
  few_steps = λ announced local. few_steps announced local.doing local.learnt;
  announced_fewer = λ local. announced_fewer local.doing local.learnt;
  loads = λ core n local t at. may.step_goes core n LoadPointer local _ t at (step.loads core.table local);
  looks = λ core n local t at. may.step_goes core n LookAtFlag local _ t at (step.looks core.table local);
  asks = rule.asks;
  installs = event_installs;
  announces = announcing.announced_by;
  stays_announced = announcing.stays_announced;
  announced_before = λ core event bucket r. announcing.announced_before core event bucket (clause.fits core r);
  announced_first = λ core event id v r. announcing.announced_first core event id v (clause.fits core r);
  fails = λ core n local e r. rule.fails core n local e (clause.fits core r);
  slots = rule.slots;
  rewrites = rule.rewrites;
  drained_core = rule.drained_core;
  drained_stands = rule.drained_stands;
  drained_slots = rule.drained_slots;
  cleared_core = clause.cleared_core;
  cleared_stands = clause.cleared_stands;
  cleared_slots = clause.cleared_slots;
  memory_is_chosen = rule.memory_is_chosen;
  takes_need_memory = λ core refused growth r. rule.takes_need_memory core refused growth (clause.fits core r);
  out_of_memory = rule.out_of_memory;
  room_stays = rule.room_stays;
  room_grows = rule.room_grows;
  room_of_take = rule.room_of_take;
}
