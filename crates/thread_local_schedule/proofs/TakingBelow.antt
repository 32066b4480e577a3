-- If each take comes while fewer than p ids are held, the peak stays within p, and a table of
-- capacity p refuses nothing.
use Rattle.std.proofs.Common.{◌≡◌, ℕ, ◌-◌, ◌*◌, ◌^◌, ◌<◌, ◌≤◌, Bool, false, List, [], ◌∷◌, length, Option, Some, None}
use Rattle.std.proofs.Common.{IsTrue, refl, ap, ◌∙◌, arith, ⊎_elim}
use Rattle.std.proofs.lemmas.Bool.{cases_Bool, lt-ltb, and_left, and_right}
use Rattle.thread_local_base.specs.Held.{held_count}
use Rattle.thread_local_base.specs.IdMoves.{Take, Give, Publish}
use Rattle.thread_local_base.specs.Sheet.{OfHistory}
use Rattle.thread_local_schedule.specs.TableMoves.{TableMove, OfSheet}
use Rattle.thread_local_base.specs.Capacity.{reserved_slots}
use Rattle.thread_local_schedule.specs.Local.{Local, LocalStep, MakeBucket}
use Rattle.thread_local_schedule.specs.Table.{Table}
use Rattle.thread_local_schedule.specs.Fits.{value_set}
use Rattle.thread_local_schedule.specs.Core.{Core, made_core, new_core, shadow, installed_slots, peak}
use Rattle.thread_local_schedule.specs.Events.{Event, TakeId, OfLocal, GiveBack, Owner, RewriteTable, DrainTable, ClearTable, step_of}
use Rattle.thread_local_schedule.specs.Events.{step, is_enabled, happens, run}
use Rattle.thread_local_schedule.specs.Schedule.{publishing, move, move_of, is_take, refuses, is_refused}
use Rattle.thread_local_schedule.proofs.HeldCounts.{held_below}
use Rattle.thread_local_schedule.specs.CoreFits.{CoreFits}
use Rattle.thread_local_schedule.proofs.Kept.{happens-fits, run-fits}
use Rattle.thread_local_schedule.proofs.EventSays.{event_says}
use Rattle.thread_local_schedule.specs.Bounds.{TakesBelow, NothingRefused}
use Rattle.thread_local_schedule.proofs.PeakLaws.{capacity_stays, run_capacity, within_capacity, reserved}
use Rattle.thread_local_schedule.proofs.InvariantParts.{made_core-fits}
use Rattle.thread_local_schedule.proofs.CoreLaws.{installed_bound}
use Rattle.thread_local_schedule.proofs.SheetLaws.{moved_peak, same_peak}
use Rattle.thread_local_schedule.proofs.OptionLaws.{not_mapped, not_if, none_enabled}
use Rattle.thread_local_base.proofs.CapacityLaws as reserve

-- the only move of a Local's step is a publishing
not_published : {V E : Type 0} (table : Table V) (o : Option (Local V E)) (step : LocalStep V E) (m : TableMove V)
    → ((id : ℕ) (v : V) → OfSheet (OfHistory (Publish id v)) ≡ m → ⊥) → publishing table o step ≡ Some m
    → ⊥
not_published table None step m other e = cc
not_published table (Some local) step m other e = not_mapped (value_set table local step) (λ v. OfSheet (OfHistory (Publish local.id v))) m (λ v. other local.id v) e

-- an event that is no take makes no move of a take
no_take : {V E : Type 0} (core : Core V E) (event : Event V E) → is_take event ≡ false → move_of core event ≡ Some (OfSheet (OfHistory Take)) → ⊥
no_take core (TakeId refused growth) f e = cc
no_take core (OfLocal number step) f e = not_published core.table (core.locals number) step (OfSheet (OfHistory Take)) (λ id v same. cc) e
no_take core (GiveBack number) f e = not_mapped (core.locals number) (λ local. OfSheet (OfHistory (Give local.id))) (OfSheet (OfHistory Take)) (λ local same. cc) e
no_take core (Owner (RewriteTable others)) f e = cc
no_take core (Owner DrainTable) f e = cc
no_take core (Owner ClearTable) f e = cc
no_take core _ f e = cc

-- so the peak stays within p
event_peak : {V E : Type 0} (p : ℕ) (core : Core V E) (event : Event V E) → CoreFits core
    → (IsTrue (is_take event) → held_count core.manager.held < p) → peak core ≤ p
    → peak (happens core event) ≤ p
event_peak p core event h few l =
    let after = ap (λ sheet. length sheet.held) (event_says core event h).moves in
    ⊎_elim
    (λ t. omega (arith, moved_peak (shadow core) (move core event), few t))
    (λ f.
    omega (
      arith,
      same_peak (shadow core) (move core event)
          (not_if (is_enabled core event) (move_of core event) (OfSheet (OfHistory Take)) (no_take core event f)),
    ))
    (cases_Bool (is_take event))

run_peak : {V E : Type 0} (p : ℕ) (core : Core V E) (events : List (Event V E)) → CoreFits core
    → TakesBelow p core events → peak core ≤ p
    → peak (run core events) ≤ p
unfolding run
run_peak p core [] h few l = l
run_peak p core (event ∷ events) h few l =
    run_peak p (happens core event) events (happens-fits core event h) few.1
    (event_peak p core event h few.0 l)

pub bounded : {V E : Type 0} (p : ℕ) (events : List (Event V E)) → TakesBelow p new_core events
    → installed_slots (run new_core events) ≤ 2 * p - 1
bounded p events few =
    let made = made_core-fits 0 0 (omega arith) in
    installed_bound (run new_core events) p (run-fits new_core events made)
    (omega (arith, run_capacity new_core events made))
    (run_peak p new_core events made few (omega arith))

-- a step of a Local that doesn't exist is not enabled
step_of_none : {V E : Type 0} (core : Core V E) (n : ℕ) (step : LocalStep V E)
    → core.locals n ≡ None
    → is_enabled core (OfLocal n step) ≡ false
unfolding is_enabled step
step_of_none core n step none = none_enabled core.ended (step_of core (OfLocal n step)) (rw none refl)

-- while the peak is within the capacity, no event is refused
asks_nothing : {V E : Type 0} (core : Core V E) (n : ℕ) (refused : Bool) (o : Option (Local V E))
    → core.locals n ≡ o → CoreFits core → peak core ≤ core.capacity
    → is_refused core (OfLocal n (MakeBucket refused)) ≡ false
asks_nothing core n refused None at h l =
    and_left (is_enabled core (OfLocal n (MakeBucket refused))) refused
    (step_of_none core n (MakeBucket refused) at)
asks_nothing core n refused (Some local) at h l =
    let below = held_below core.manager.held local.id (h.locals.each n local at).id_held in
    reserved core n local refused h at
    (lt-ltb local.id (reserved_slots core.capacity)
    (omega (arith, reserve.capacity-reserved_slots core.capacity)))

granted : {V E : Type 0} (core : Core V E) (event : Event V E) → CoreFits core
    → peak core ≤ core.capacity
    → (IsTrue (is_take event) → held_count core.manager.held < core.capacity)
    → is_refused core event ≡ false
granted core (TakeId refused growth) h l few = within_capacity core refused growth h (few refl)
granted core (OfLocal number (MakeBucket refused)) h l few = asks_nothing core number refused (core.locals number) refl h l
granted core event h l few = and_right (is_enabled core event) (refuses core event) refl

nothing_refused : {V E : Type 0} (n p : ℕ) (core : Core V E) (events : List (Event V E))
    → CoreFits core → core.capacity ≡ n → p ≤ n → peak core ≤ p → TakesBelow p core events
    → NothingRefused core events
nothing_refused n p core [] h c l top few = tt
nothing_refused n p core (event ∷ events) h c l top few = (
  (granted core event h (omega arith) (λ t. omega (arith, few.0 t))),
  (nothing_refused n p (happens core event) events (happens-fits core event h)
      (capacity_stays core event h ∙ c) l (event_peak p core event h few.0 top) few.1),
)

pub refuses_nothing : {V E : Type 0} (capacity extra p : ℕ) (events : List (Event V E))
    → capacity < 2 ^ 63 → p ≤ capacity → TakesBelow p (made_core capacity extra) events
    → NothingRefused (made_core capacity extra) events
refuses_nothing capacity extra p events l le few =
    nothing_refused capacity p (made_core capacity extra) events (made_core-fits capacity extra l)
    refl le (omega arith) few
