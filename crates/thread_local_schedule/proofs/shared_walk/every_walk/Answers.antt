use Rattle.thread_local_schedule.proofs.CoreLaws as known
use Rattle.thread_local_schedule.proofs.Clauses as clause
use Rattle.thread_local_schedule.proofs.WalkEvents as event
use Rattle.thread_local_schedule.proofs.shared_walk.every_walk.Goals as goal

pub returns : goal.returns
returns g c = record {
  begins = event.begins;
  comes = λ core now n walk r. (event.walks_say core now (clause.fits core r)).comes n walk;
  others = λ core now n walk r. (event.walks_say core now (clause.fits core r)).others n walk;
  goes_on = event.goes_on;
  ends = event.ends;
  may_end = event.may_end;
  pass_adds = λ core n before r. event.pass_adds core n before (clause.fits core r);
  load_adds = λ core n before r. event.load_adds core n before (clause.fits core r);
  look_adds = λ core n before r. event.look_adds core n before (clause.fits core r);
  pass_moves = λ core n before r. event.pass_moves core n before (clause.fits core r);
  load_moves = λ core n before r. event.load_moves core n before (clause.fits core r);
  look_moves = λ core n before r. event.look_moves core n before (clause.fits core r);
  complete = λ core n walk r at done id v e. known.complete core n walk (clause.fits core r) at done id v e;
  published = λ core n walk r at. ((clause.fits core r).walks.each n walk at).fits.given_stays;
  ascending = λ core n walk r at. ((clause.fits core r).walks.each n walk at).fits.given_ascend.increasing;
  reads_once = λ core n walk r at. ((clause.fits core r).walks.each n walk at).fits.read_ascend.increasing;
  loads = λ core n walk r at. known.loads core n walk (clause.fits core r) at;
  loads_announced = λ core n walk r at. known.all_loaded core n walk (clause.fits core r) at;
}
