-- Each core of the schedule of four `Local`s is reached from a new table.
use Rattle.std.proofs.Common.{List, [], ◌∷◌, arith}
use Rattle.thread_local_schedule.specs.Core.{Core}
use Rattle.thread_local_schedule.specs.Events.{Event, happens, run}
use Rattle.thread_local_schedule.specs.Schedule.{IsReached}
use Rattle.thread_local_schedule.specs.Story.{after_publishing, after_walking, after_giving_back, after_next, after_all}
use Rattle.thread_local_schedule.proofs.EventRules.{reached_first, reached_next}

-- a schedule reaches what it makes of a reached core
reached_run : {V E : Type 0} (core : Core V E) (events : List (Event V E)) → IsReached core → IsReached (run core events)
unfolding run
reached_run core [] r = r
reached_run core (event ∷ events) r = reached_run (happens core event) events (reached_next core event r)

module _ {V E : Type 0} (a b c d : V) where
  published : IsReached (after_publishing {V = V} {E = E} a b c d)
  unfolding after_publishing
  published = reached_run _ _ (reached_first 0 0 (omega arith))

  walked : IsReached (after_walking {V = V} {E = E} a b c d)
  unfolding after_walking
  walked = reached_run _ _ published

  given_back : IsReached (after_giving_back {V = V} {E = E} a b c d)
  unfolding after_giving_back
  given_back = reached_run _ _ walked

  next : IsReached (after_next {V = V} {E = E} a b c d)
  unfolding after_next
  next = reached_run _ _ given_back

  all : IsReached (after_all {V = V} {E = E} a b c d)
  unfolding after_all
  all = reached_run _ _ next

  pub four_are_reached : IsReached (after_publishing {V = V} {E = E} a b c d)
      × IsReached (after_walking {V = V} {E = E} a b c d)
      × IsReached (after_next {V = V} {E = E} a b c d)
      × IsReached (after_all {V = V} {E = E} a b c d)
  four_are_reached = (published, walked, next, all)
