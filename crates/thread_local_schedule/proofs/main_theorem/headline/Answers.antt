use Rattle.thread_local_schedule.specs.Core.{made_core}
use Rattle.thread_local_schedule.specs.Events.{run}
use Rattle.thread_local_schedule.proofs.Clauses as clause
use Rattle.thread_local_schedule.proofs.Enabled as may
use Rattle.thread_local_schedule.proofs.TakingBelow as bound
use Rattle.thread_local_schedule.proofs.MainTheorem as main
use Rattle.thread_local_schedule.proofs.History as ids
use Rattle.thread_local_schedule.proofs.main_theorem.headline.Goals as goal

pub returns : goal.returns
returns g c = record {
  least_id = λ capacity extra events event l. clause.least_taken (run (made_core capacity extra) events) event;
  history = ids.held_by_history;
  least_after = ids.least_after;
  first_value = λ capacity extra before between id v l.
      main.value_stays (run (made_core capacity extra) before) between id v
      (main.reached-fits capacity extra before l);
  alone = λ capacity extra events call l.
      may.alone (run (made_core capacity extra) events) call
      (main.reached-fits capacity extra events l);
  owner = λ capacity extra events l.
      main.owner (run (made_core capacity extra) events) (main.reached-fits capacity extra events l);
  slots = bound.bounded;
  refuses_nothing = bound.refuses_nothing;
}
