-- The main theorem's parts that follow from the invariant of a reached core.
use Rattle.std.proofs.Common.{◌≡◌, ℕ, ◌-◌, ◌^◌, ◌<◌, false, List, [], ◌∷◌, map, Some, ◌∙◌, sym, arith}
use Rattle.std.specs.Prelude.{◌↔◌, Contains}
use Rattle.std.specs.List.{AllByRecursion}
use Rattle.std.specs.List.Sorted.{IsStrictlyIncreasing}
use Rattle.thread_local_base.specs.Walk.{walk, paired}
use Rattle.thread_local_base.proofs.WalkLaws.{map-walk_below, strictly_ascends, listed, in_list}
use Rattle.thread_local_schedule.specs.OwnerWalk.{owner_walk}
use Rattle.thread_local_schedule.specs.Core.{Core, made_core, shadow}
use Rattle.thread_local_schedule.specs.CoreFits.{CoreFits}
use Rattle.thread_local_schedule.proofs.OwnerLaws.{owner_walk-walk}
use Rattle.thread_local_schedule.proofs.InvariantParts.{made_core-fits}
use Rattle.thread_local_schedule.specs.Events.{Event, happens, run}
use Rattle.thread_local_schedule.specs.Schedule.{is_exclusive}
use Rattle.thread_local_schedule.proofs.Kept.{happens-fits, run-fits}
use Rattle.thread_local_schedule.proofs.EventSays.{event_says}

-- a core that a schedule reaches fits
pub reached-fits : {V E : Type 0} (capacity extra : ℕ) (events : List (Event V E))
    → capacity < 2 ^ 63
    → CoreFits (run (made_core {V = V} {E = E} capacity extra) events)
reached-fits capacity extra events l = run-fits (made_core capacity extra) events (made_core-fits capacity extra l)

-- a published value stays over events that are no owner's call
pub value_stays : {V E : Type 0} (core : Core V E) (between : List (Event V E)) (id : ℕ) (v : V)
    → CoreFits core → (shadow core).values id ≡ Some v
    → AllByRecursion (λ event. is_exclusive event ≡ false) between → (shadow (run core between)).values id ≡ Some v
unfolding run
value_stays core [] id v h e quiet = e
value_stays core (event ∷ between) id v h e quiet =
    value_stays (happens core event) between id v (happens-fits core event h) ((event_says core event h).stays quiet.0 id v e) quiet.1

-- an owner's walk gives exactly the published values, by ascending id
pub owner : {V E : Type 0} (core : Core V E) → CoreFits core
    → let pairs = walk (paired (shadow core).values) in
    (owner_walk core.table ≡ map (λ pair. pair.1) pairs) × IsStrictlyIncreasing (map (λ pair. pair.0) pairs)
    × ((id : ℕ) (v : V) → Contains pairs (id, v) ↔ ((shadow core).values id ≡ Some v))
unfolding walk
owner core h = (
  (owner_walk-walk core.table ∙ sym (map-walk_below (shadow core).values (2 ^ 63 - 1))),
  (strictly_ascends (shadow core).values (2 ^ 63 - 1)),
  (λ id v. (
    (λ c. (listed (shadow core).values (2 ^ 63 - 1) id v c).1),
    (λ e. in_list (shadow core).values (2 ^ 63 - 1) id v (omega (arith, h.manager.peak_ids, h.table.below id v e)) e),
  )),
)
