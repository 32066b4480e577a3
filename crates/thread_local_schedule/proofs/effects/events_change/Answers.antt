use Rattle.std.proofs.Common.{ap}
use Rattle.thread_local_schedule.specs.Local.{doing_announced}
use Rattle.thread_local_schedule.proofs.EffectLaws as laws
use Rattle.thread_local_schedule.proofs.Clauses as clause
use Rattle.thread_local_schedule.proofs.effects.events_change.Goals as goal

pub returns : goal.returns
returns g c = record {
  takes = laws.takes;
  gives_back = laws.gives_back;
  publishes = laws.publishes;
  installs_value = laws.installs_value;
  installs_beside = laws.beside_stays;
  fills = laws.fills;
  fill_stays = laws.fill_stays;
  installs_nothing = laws.installs_nothing;
  installed_empty = laws.installed_empty;
  rewrites = laws.rewrites;
  sheet_stays = λ core event r other. laws.sheet_stays core event r (λ t. let it = other t in record {
    take = it.0;
    give = it.1;
    publish = it.2;
    install = it.3;
    rewrite = it.4;
    drain = it.5;
    clear = it.6;
  });
  shows = laws.shows;
  writes = λ core n local v r. laws.writes_value core n local v (clause.fits core r);
  wrote = laws.wrote;
  sets_flag = λ core n local r. laws.sets_flag core n local (clause.fits core r);
  makes = laws.makes;
  announces = laws.announces;
  announced = λ core n local create number t at own. laws.announced core n local _ t at (ap doing_announced own);
  announced_beside = λ core n local v t at own. laws.announced core n local _ t at (ap doing_announced own);
  installs = laws.installs;
  installs_own = laws.installs_own;
  installed = laws.installed;
  holds = laws.holds;
}
