use Rattle.thread_local_schedule.proofs.FirstCalls as first
use Rattle.thread_local_schedule.proofs.LocalLaws as laws
use Rattle.thread_local_schedule.proofs.CallsLaws as calls
use Rattle.thread_local_schedule.proofs.NumbersLaws as numbers
use Rattle.thread_local_schedule.proofs.EnabledSteps as enabled
use Rattle.thread_local_schedule.proofs.Installing as installing
use Rattle.thread_local_schedule.proofs.GoingOn as going
use Rattle.thread_local_schedule.proofs.locals.every_local_step.Goals as goal

pub returns : goal.returns
returns g c = record {
  fits = laws.local_step-fits;
  calls = calls.local_step-goes;
  numbers = numbers.local_step-numbers;
  others = laws.other_fits;
  answers = first.answers_come _ _;
  learnt = enabled.learnt;
  begins_get = enabled.begins_get;
  begins_get_or = enabled.begins_get_or;
  goes_on = going.goes_on;
  loads = enabled.loads;
  looks = enabled.looks;
  asks = enabled.asks;
  installs = installing.installs;
  fails = enabled.fails;
}
