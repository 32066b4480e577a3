-- The peak of held ids over a schedule, and what it bounds: ids, installed slots, values and
-- refusals.
use Rattle.std.proofs.Common.{◌≡◌, ℕ, ◌-◌, ◌*◌, ◌^◌, ◌<◌, ◌≤◌, max, Bool, true, false, ◌&&◌, cond, List, [], ◌∷◌, Some}
use Rattle.std.proofs.Common.{IsTrue, refl, ap, ◌∙◌, subst, arith}
use Rattle.std.specs.Prelude.{◌≢◌, Contains}
use Rattle.std.proofs.lemmas.Bool.{and_left, and_right, ne_eqb}
use Rattle.thread_local_base.specs.Held.{Manager, least, held_count, is_granted}
use Rattle.thread_local_base.specs.Capacity.{reserves_bucket, reserved_slots, is_reserved}
use Rattle.thread_local_base.specs.Buckets.{slots}
use Rattle.thread_local_base.specs.Answers.{Answer, Refused, answers}
use Rattle.thread_local_base.proofs.AnswersLaws.{none_refused}
use Rattle.thread_local_schedule.specs.Table.{bucket_stands}
use Rattle.thread_local_schedule.specs.Local.{Local, MakeBucket, local_step}
use Rattle.thread_local_schedule.proofs.TableLaws.{same_function}
use Rattle.thread_local_schedule.specs.Core.{Core, made_core, new_core, shadow, installed_slots, peak}
use Rattle.thread_local_schedule.specs.Events.{Event, TakeId, OfLocal, Owner, ClearTable, step_of, step, is_enabled, happens, run}
use Rattle.thread_local_schedule.specs.Schedule.{move, is_clear, is_refused, IsReached}
use Rattle.thread_local_schedule.specs.CoreFits.{CoreFits, ManagerFits}
use Rattle.thread_local_schedule.proofs.Kept.{happens-fits, run-fits}
use Rattle.thread_local_schedule.proofs.EventSays.{event_says}
use Rattle.thread_local_schedule.proofs.HeldCounts.{held_below, least-le-held_count}
use Rattle.thread_local_schedule.proofs.InvariantParts.{made_core-fits}
use Rattle.thread_local_schedule.proofs.CoreLaws.{installed_bound, never_missing}
use Rattle.thread_local_schedule.proofs.SheetLaws.{same_capacity}
use Rattle.thread_local_schedule.proofs.OptionLaws.{none_enabled, makes_none}
use Rattle.thread_local_schedule.specs.Bounds.{most_after_all}
use Rattle.thread_local_schedule.proofs.Clauses as clause
use Rattle.thread_local_base.proofs.CapacityLaws as reserve

-- each id taken is below 2^63 - 1
pub ids : {V E : Type 0} (core : Core V E) (n : ℕ) (local : Local V E) → CoreFits core
    → core.locals n ≡ Some local
    → local.id < 2 ^ 63 - 1
ids core n local h at = omega (arith, h.manager.peak_ids, held_below core.manager.held local.id (h.locals.each n local at).id_held)

-- the peak changes as the number of held ids says
pub peak_run : {V E : Type 0} (core : Core V E) (events : List (Event V E)) (most : ℕ)
    → CoreFits core → peak core ≡ most
    → peak (run core events) ≡ most_after_all most core events
unfolding run
peak_run core [] most h e = e
peak_run core (event ∷ events) most h e =
    peak_run (happens core event) events _ (happens-fits core event h)
    ((event_says core event h).peak
    ∙ ap (λ n.
    cond (is_enabled core event && is_clear event) 0
    (max n (held_count (happens core event).manager.held)))
    e)

-- the capacity never changes
pub capacity_stays : {V E : Type 0} (core : Core V E) (event : Event V E) → CoreFits core
    → (happens core event).capacity ≡ core.capacity
capacity_stays core event h =
    ap (λ sheet. sheet.capacity) (event_says core event h).moves
    ∙ same_capacity (shadow core) (move core event)

pub run_capacity : {V E : Type 0} (core : Core V E) (events : List (Event V E)) → CoreFits core
    → (run core events).capacity ≡ core.capacity
unfolding run
run_capacity core [] h = refl
run_capacity core (event ∷ events) h =
    run_capacity (happens core event) events (happens-fits core event h)
    ∙ capacity_stays core event h

-- so the installed slots are bounded by the capacity and the peak
pub slots_of_capacity : {V E : Type 0} (capacity extra : ℕ) (events : List (Event V E)) → capacity < 2 ^ 63
    → installed_slots (run (made_core capacity extra) events) ≤ 2 * max capacity (peak (run (made_core capacity extra) events)) - 1
slots_of_capacity capacity extra events l =
    let made = made_core-fits capacity extra l in
    installed_bound (run (made_core capacity extra) events)
    (max capacity (peak (run (made_core capacity extra) events)))
    (run-fits (made_core capacity extra) events made)
    (omega (arith, run_capacity (made_core capacity extra) events made)) (omega arith)

pub slots_of_new : {V E : Type 0} (events : List (Event V E))
    → installed_slots (run new_core events) ≤ 2 * peak (run new_core events) - 1
slots_of_new events = omega (arith, slots_of_capacity 0 0 events (omega arith))

-- while fewer ids than the capacity are held, every take is granted
within : (manager : Manager) (capacity : ℕ) (refused : Bool) → ManagerFits manager capacity
    → held_count manager.held < capacity
    → is_granted manager refused ≡ true
within manager capacity refused h l =
    let low = least-le-held_count manager.held in
    rw (
      ne_eqb (least manager.held) (2 ^ 63 - 1) (λ e. omega (arith, h.capacity_ids)),
      ne_eqb (least manager.held) manager.room (λ e. omega (arith, h.capacity_room)),
      and_right refused false refl,
    )
    refl

pub within_capacity : {V E : Type 0} (core : Core V E) (refused : Bool) (growth : ℕ) → CoreFits core
    → held_count (shadow core).held < (shadow core).capacity
    → is_refused core (TakeId refused growth) ≡ false
within_capacity core refused growth h l =
    rw (within core.manager core.capacity refused h.manager l)
    (and_right (is_enabled core (TakeId refused growth)) false refl)

reserved_idle : {V E : Type 0} (core : Core V E) (n : ℕ) (local : Local V E) (refused : Bool)
    → CoreFits core → core.locals n ≡ Some local → IsTrue (is_reserved core.capacity local.id)
    → is_enabled core (OfLocal n (MakeBucket refused)) ≡ false
unfolding is_enabled step local_step
reserved_idle core n local refused h at reserved =
    none_enabled core.ended (step_of core (OfLocal n (MakeBucket refused)))
    (rw (
      at,
      makes_none core.table local refused local.doing local.learnt
          (never_missing core n local h at reserved),
    )
    refl)

pub reserved : {V E : Type 0} (core : Core V E) (n : ℕ) (local : Local V E) (refused : Bool)
    → CoreFits core → core.locals n ≡ Some local → IsTrue (is_reserved core.capacity local.id)
    → is_refused core (OfLocal n (MakeBucket refused)) ≡ false
reserved core n local refused h at here =
    and_left (is_enabled core (OfLocal n (MakeBucket refused))) refused
    (reserved_idle core n local refused h at here)

pub reserved_answers : {V E : Type 0} (core : Core V E) (n : ℕ) (local : Local V E)
    (told : Answer V E)
    → CoreFits core → core.locals n ≡ Some local → IsTrue (is_reserved core.capacity local.id)
    → Contains local.answered told → told ≢ Refused
reserved_answers core n local told h at here c refused =
    let live = h.locals.each n local at in
    none_refused local.start local.calls (live.known here)
    (subst (λ answer. Contains (answers local.start local.calls) answer) refused
    (subst (λ all. Contains all told) live.local_fits.answered c))

-- after a clear exactly the reserved slots are installed
pub slots_of_cleared : {V E : Type 0} (core : Core V E) → IsReached core
    → IsTrue (is_enabled core (Owner ClearTable))
    → installed_slots (happens core (Owner ClearTable)) ≡ reserved_slots core.capacity
slots_of_cleared core r t =
    ap slots (same_function (bucket_stands (happens core (Owner ClearTable)).table)
    (reserves_bucket core.capacity) (λ bucket. clause.cleared_stands core bucket r t))
    ∙ reserve.slots-reserved core.capacity (clause.fits core r).manager.capacity_ids
