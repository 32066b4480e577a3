use Rattle.thread_local_schedule.proofs.CoreLaws as known
use Rattle.thread_local_schedule.proofs.Clauses as clause
use Rattle.thread_local_schedule.proofs.Enabled as may
use Rattle.thread_local_schedule.proofs.OwnerLaws.{owner_walk-walk}
use Rattle.thread_local_schedule.proofs.Open as ending
use Rattle.std.proofs.Common.{refl, arith}
use Rattle.thread_local_schedule.proofs.PeakLaws as bound
use Rattle.thread_local_schedule.proofs.Publishings as publishing
use Rattle.thread_local_schedule.proofs.TakingBelow as below
use Rattle.thread_local_schedule.proofs.History as ids
use Rattle.thread_local_schedule.proofs.AsPublished as values
use Rattle.thread_local_schedule.proofs.TableLaws.{at_one_place}
use Rattle.thread_local_schedule.specs.Core.{made_core}
use Rattle.thread_local_schedule.proofs.InvariantParts.{made_core-fits}
use Rattle.thread_local_schedule.proofs.HeldCounts.{held_below}
use Rattle.thread_local_schedule.proofs.FourLocals as story
use Rattle.thread_local_schedule.proofs.FourValues as four
use Rattle.thread_local_schedule.proofs.FourReached as reach
use Rattle.thread_local_schedule.proofs.schedule.every_schedule.Goals as goal

pub returns : goal.returns
returns g c = record {
  moves = λ core event r. (clause.says core event r).moves;
  allowed = λ core event r. (clause.says core event r).allowed;
  idle = clause.idle;
  takes = may.takes;
  walks_begin = may.walks_begin;
  alone = λ core call r. may.alone core call (clause.fits core r);
  owners_call = may.owner_may;
  gives_back = λ core n t. (may.gives_back core n t).0;
  given_back = λ core n t. (may.gives_back core n t).1;
  forgets = λ core n t. (may.forgotten core n t).0;
  forgotten = λ core n t. (may.forgotten core n t).1;
  still_held = λ core n local r at. clause.still_held core n local r at;
  may_leave = may.may_leave;
  comes = λ core event n local r. clause.comes core event n local (clause.fits core r);
  least = λ core event r. clause.least_taken core event;
  held = λ core n local r at. ((clause.fits core r).locals.each n local at).id_held;
  unshared = λ core m n a b r. (clause.fits core r).locals.unshared m n a b;
  first_values_stay = λ core event id v r quiet. (clause.says core event r).stays quiet id v;
  owner_walk = λ core r. owner_walk-walk core.table;
  flagged = λ core id r. (clause.fits core r).table.written id;
  start = λ core event r. clause.start core event;
  answers = λ core n local r at. ((clause.fits core r).locals.each n local at).local_fits.answered;
  goes_on = may.goes_on;
  others = λ core event n local r. (clause.says core event r).others n local;
  history = ids.held_by_history;
  as_published = λ capacity extra events id. values.as_published capacity extra events id;
  published_since = λ core events id r. values.published_since core events id (clause.fits core r);
  drained = clause.drained_sheet;
  cleared = clause.cleared_sheet;
  after_clear = clause.after_clear;
  refused_take = λ core refused growth r. clause.refused_take core refused growth (clause.fits core r);
  refusal = may.refusal;
  into_iter_ends = ending.into_iter_ends;
  drop_ends = ending.drop_ends;
  ended = ending.ended;
  stays_open = ending.stays_open;
  bucket_stays = clause.bucket_stays;
  reserved_stands = λ core bucket r. (clause.fits core r).table.reserved bucket;
  reserved_stays = clause.reserved_stays;
  at_one_place = λ core a b r. at_one_place core.table a b ((clause.fits core r).numbers.standing_apart a b);
  stands_nowhere = λ core n local number bucket r. (clause.fits core r).numbers.own_nowhere n local number bucket;
  one_call = λ core m n a b number r. (clause.fits core r).numbers.own_apart m n a b number;
  announced = λ core id v r. (clause.fits core r).table.announced id v;
  standing_announced = λ core bucket r. (clause.fits core r).table.standing_announced bucket;
  first_announced = λ core bucket r. (clause.fits core r).table.first_announced bucket;
  peak = λ capacity extra events l.
      bound.peak_run (made_core capacity extra) events 0 (made_core-fits capacity extra l) refl;
  below_peak = λ core n local r at.
      held_below core.manager.held local.id ((clause.fits core r).locals.each n local at).id_held;
  ids = λ core n local r at. bound.ids core n local (clause.fits core r) at;
  room = λ core r. (clause.fits core r).manager.peak_room;
  capacity = λ capacity extra events l.
      bound.run_capacity (made_core capacity extra) events (made_core-fits capacity extra l);
  slots_of_new = bound.slots_of_new;
  no_slots = λ events none. omega (arith, bound.slots_of_new events);
  slots_of_capacity = bound.slots_of_capacity;
  slots_of_cleared = bound.slots_of_cleared;
  private_slots = λ core n local r at.
      known.private_bound core.manager.held local.id local.doing
      ((clause.fits core r).locals.each n local at).id_held;
  values = λ core r. known.published_bound core (clause.fits core r);
  publishings = publishing.as_many_as_values;
  few_publishings = publishing.at_most_the_peak;
  within_capacity = λ core refused growth r. bound.within_capacity core refused growth (clause.fits core r);
  reserved_publishes = λ core n local refused r. bound.reserved core n local refused (clause.fits core r);
  reserved_answers = λ core n local told r. bound.reserved_answers core n local told (clause.fits core r);
  slots = below.bounded;
  refuses_nothing = below.refuses_nothing;
  four_are_reached = λ a b c d. reach.four_are_reached a b c d;
  four_values = four.four_values _ _;
  seven_slots = story.first_slots _ _;
  walk_of_four = story.walk_gives _ _;
  next_of_four = story.next_gets _ _;
  owner_of_four = story.owner_gets _ _;
  clear_of_four = four.clear_of_four _ _;
}
