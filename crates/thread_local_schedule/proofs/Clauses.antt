-- The clauses of the theorems, from the invariant and from what every event says.
use Rattle.std.proofs.Common.{◌≡◌, ℕ, ◌-◌, ◌^◌, ◌⊎◌, Bool, true, false, not, ◌||◌, cond, List, [], ◌∷◌, Some, None}
use Rattle.std.proofs.Common.{is_some, IsTrue, IsSomeAnd, refl, ap, sym, ◌∙◌, subst}
use Rattle.std.specs.Prelude.{◌≢◌, unwrap_or}
use Rattle.thread_local_schedule.specs.Fits.{IsSameBucket}
use Rattle.thread_local_schedule.proofs.TableLaws.{same_bucket}
use Rattle.std.proofs.lemmas.Bool.{false≢true, and_parts, not-true, not-false, cond_both}
use Rattle.thread_local_base.specs.Held.{is_held, least, HoldsAllBelow, is_granted}
use Rattle.thread_local_base.specs.Capacity.{reserves_bucket, is_reserved}
use Rattle.thread_local_base.specs.Sheet.{Sheet, new_sheet, Clear}
use Rattle.thread_local_schedule.specs.TableMoves.{OfSheet, Drain, moved_by_if}
use Rattle.thread_local_base.specs.Answers.{View, first_view}
use Rattle.thread_local_schedule.specs.Table.{empty_slot, slot_at, bucket_stands}
use Rattle.thread_local_schedule.specs.Local.{Local, fresh_local}
use Rattle.thread_local_schedule.specs.Cleared.{cleared}
use Rattle.thread_local_schedule.specs.Core.{Core, made_core, shadow, peak, is_alone}
use Rattle.thread_local_schedule.specs.Events.{Event, TakeId, OfLocal, Owner, ClearTable, take_id, step_of, step}
use Rattle.thread_local_schedule.specs.Events.{is_enabled, happens, run, GiveBack, Forget, OwnerCall, RewriteTable, DrainTable}
use Rattle.thread_local_schedule.specs.Events.{after_owner}
use Rattle.thread_local_schedule.specs.Schedule.{move, is_refused, is_granted_take, newcomer, IsReached, publishing, move_of, is_clear, NoneTaken}
use Rattle.thread_local_schedule.specs.CoreFits.{CoreFits}
use Rattle.thread_local_schedule.proofs.Kept.{happens-fits, run-fits}
use Rattle.thread_local_schedule.proofs.EventSays.{Says, event_says}
use Rattle.thread_local_schedule.proofs.PutLaws.{put_same}
use Rattle.thread_local_schedule.proofs.InvariantParts.{made_core-fits, no_locals}
use Rattle.thread_local_schedule.proofs.ClearedLaws.{slot_at-cleared, bucket_stands-cleared}
use Rattle.thread_local_schedule.proofs.CoreLaws.{none_if}
use Rattle.thread_local_schedule.proofs.SheetLaws.{settled, untaken}
use Rattle.thread_local_schedule.proofs.Takes.{not_granted}
use Rattle.thread_local_schedule.proofs.OptionLaws.{stays, some_step, some_and, tested}

-- a reached core fits
pub fits : {V E : Type 0} (core : Core V E) → IsReached core → CoreFits core
fits core r = subst CoreFits r.leads (run-fits (made_core r.capacity r.extra) r.events (made_core-fits r.capacity r.extra r.bounded))

-- each event of a reached core says what it changes
pub says : {V E : Type 0} (core : Core V E) (event : Event V E) → IsReached core
    → Says core event (is_enabled core event) (happens core event)
says core event r = event_says core event (fits core r)

-- an event that isn't enabled changes nothing
pub idle : {V E : Type 0} (core : Core V E) (event : Event V E) → is_enabled core event ≡ false → happens core event ≡ core
unfolding is_enabled happens
idle core event none = stays (step core event) core none

-- the core after an enabled event is the one of its rule
pub enabled_step : {V E : Type 0} (core : Core V E) (event : Event V E)
    → IsTrue (is_enabled core event)
    → IsTrue (is_some (step_of core event))
unfolding is_enabled step
enabled_step core event t = (some_step core.ended (step_of core event) t).1

pub goes : {V E : Type 0} (core : Core V E) (event : Event V E) → IsTrue (is_enabled core event)
    → happens core event ≡ unwrap_or (step_of core event) core
unfolding is_enabled happens step
goes core event t = let open_table = (some_step core.ended (step_of core event) t).0 in rw open_table refl

-- after an owner's call the core is that of the call
pub owner_goes : {V E : Type 0} (core : Core V E) (call : OwnerCall V)
    → IsTrue (is_enabled core (Owner call))
    → happens core (Owner call) ≡ after_owner core call
owner_goes core call t =
    goes core (Owner call) t
    ∙ (tested (is_alone core) (after_owner core call) core (enabled_step core (Owner call) t)).1

-- the core after a granted take
pub granted : {V E : Type 0} (core : Core V E) (refused : Bool) (growth : ℕ)
    → IsTrue (is_granted_take core (TakeId refused growth))
    → happens core (TakeId refused growth) ≡ take_id core growth
granted core refused growth t =
    let parts = and_parts (is_enabled core (TakeId refused growth)) (not (not (is_granted core.manager refused))) t in
    goes core (TakeId refused growth) parts.0
    ∙ ap (λ b. cond b (take_id core growth) core)
    (not-false (is_granted core.manager refused)
    (not-true (not (is_granted core.manager refused)) parts.1))

-- a granted take makes a Local with the least id that isn't held, whose first view is what its slot
-- shows
pub taken : {V E : Type 0} (core : Core V E) (event : Event V E) → IsTrue (is_granted_take core event)
    → (growth : ℕ) × (happens core event ≡ take_id core growth)
taken core (TakeId refused growth) t = (growth, granted core refused growth t)
taken core _ t = absurd (false≢true t)

pub new_local : {V E : Type 0} (core : Core V E) (event : Event V E) → IsTrue (is_granted_take core event)
    → newcomer core event ≡ Some (fresh_local (least core.manager.held) (first_view (shadow core) (least core.manager.held)))
new_local core event t =
    let done = taken core event t in
    ap (λ after. after.locals core.taken) done.1 ∙ put_same core.locals core.taken _

pub least_taken : {V E : Type 0} (core : Core V E) (event : Event V E)
    → IsTrue (is_granted_take core event)
    → IsSomeAnd (newcomer core event) (λ local. local.id ≡ least (shadow core).held)
least_taken core event t = some_and (newcomer core event) _ (λ local. local.id ≡ least core.manager.held) (new_local core event t) refl

pub start : {V E : Type 0} (core : Core V E) (event : Event V E) → IsTrue (is_granted_take core event)
    → IsSomeAnd (newcomer core event) (λ local. (local.start ≡ first_view (shadow core) local.id) × (local.calls ≡ []))
start core event t =
    some_and (newcomer core event) _
    (λ local. (local.start ≡ first_view (shadow core) local.id) × (local.calls ≡ []))
    (new_local core event t) (refl, refl)

-- forgetting is no move, so the id stays held
pub still_held : {V E : Type 0} (core : Core V E) (n : ℕ) (local : Local V E) → IsReached core
    → core.locals n ≡ Some local
    → IsTrue (is_held (shadow (happens core (Forget n))).held local.id)
still_held core n local r at =
    let same : shadow (happens core (Forget n)) ≡ shadow core =
    (says core (Forget n) r).moves
    ∙ cond_both (is_enabled core (Forget n)) None None
    (λ o. moved_by_if (shadow core) o ≡ shadow core) (λ _. refl) (λ _. refl) in
    rw (ap (λ sheet. sheet.held) same) ((fits core r).locals.each n local at).id_held

-- an enabled clear leaves no id held and the table cleared, and so the sheet of `new` with the
-- capacity
pub cleared_core : {V E : Type 0} (core : Core V E) → IsTrue (is_enabled core (Owner ClearTable))
    → happens core (Owner ClearTable)
    ≡ record core {
      manager = record { held = []; room = core.manager.room };
      table = cleared core.table core.capacity;
    }
cleared_core core t = owner_goes core ClearTable t

pub cleared_sheet : {V E : Type 0} (core : Core V E) → IsReached core → IsTrue (is_enabled core (Owner ClearTable))
    → shadow (happens core (Owner ClearTable)) ≡ record new_sheet { capacity = (shadow core).capacity }
cleared_sheet core r t = (says core (Owner ClearTable) r).moves ∙ ap (λ b. moved_by_if (shadow core) (cond b (Some (OfSheet Clear)) None)) t

-- exactly the reserved buckets stand then
pub cleared_stands : {V E : Type 0} (core : Core V E) (bucket : ℕ) → IsReached core → IsTrue (is_enabled core (Owner ClearTable))
    → bucket_stands (happens core (Owner ClearTable)).table bucket ≡ reserves_bucket core.capacity bucket
cleared_stands core bucket r t =
    ap (λ after. bucket_stands after.table bucket) (cleared_core core t)
    ∙ bucket_stands-cleared core.table core.capacity bucket ((fits core r).table.reserved bucket)

-- and every slot is empty
pub cleared_slots : {V E : Type 0} (core : Core V E) (id : ℕ)
    → IsTrue (is_enabled core (Owner ClearTable))
    → slot_at (happens core (Owner ClearTable)).table id ≡ empty_slot
cleared_slots core id t =
    ap (λ after. slot_at after.table id) (cleared_core core t)
    ∙ slot_at-cleared core.table core.capacity id

-- a bucket that stands is the same one after every event but a clear, and after that if it is
-- reserved
no_clear : {V E : Type 0} (event : Event V E) → event ≢ Owner ClearTable → is_clear event ≡ false
no_clear (Owner ClearTable) other = absurd (other refl)
no_clear event other = refl

pub bucket_stays : {V E : Type 0} (core : Core V E) (event : Event V E) (bucket : ℕ)
    → IsReached core → event ≢ Owner ClearTable → IsTrue (bucket_stands core.table bucket)
    → IsSameBucket core.table (happens core event).table bucket
bucket_stays core event bucket r other t =
    same_bucket core.table (happens core event).table bucket
    ((says core event r).names (no_clear event other) bucket) t

pub reserved_stays : {V E : Type 0} (core : Core V E) (event : Event V E) (bucket : ℕ)
    → IsReached core → IsTrue (reserves_bucket (shadow core).capacity bucket)
    → IsSameBucket core.table (happens core event).table bucket
reserved_stays core event bucket r reserved =
    same_bucket core.table (happens core event).table bucket
    ((says core event r).reserved_stays bucket reserved)
    ((fits core r).table.reserved bucket reserved)

-- an enabled drain leaves the buckets without values
pub drained_sheet : {V E : Type 0} (core : Core V E) → IsReached core → IsTrue (is_enabled core (Owner DrainTable))
    → shadow (happens core (Owner DrainTable)) ≡ record (shadow core) { values = λ _. None }
drained_sheet core r t = (says core (Owner DrainTable) r).moves ∙ ap (λ b. moved_by_if (shadow core) (cond b (Some Drain) None)) t

-- a take is refused only where it may be
pub refused_take : {V E : Type 0} (core : Core V E) (refused : Bool) (growth : ℕ) → CoreFits core
    → IsTrue (is_refused core (TakeId refused growth))
    → HoldsAllBelow (2 ^ 63 - 1) (shadow core).held
    ⊎ (HoldsAllBelow (peak core) (shadow core).held × (peak core ≡ core.manager.room)
    × IsTrue refused)
refused_take core refused growth h t =
    not_granted core.manager refused h.manager.peak_room
    (not-true (is_granted core.manager refused)
    (and_parts (is_enabled core (TakeId refused growth))
    (not (is_granted core.manager refused)) t).1)

-- the sheet of a table with this capacity, in which no id is held and no id has a value
abbrev unused : {V : Type 0} → ℕ → Sheet V
unused capacity = record new_sheet { capacity = capacity }

-- as after a clear: there is no Local, and the sheet is such a one
record IsFresh {V E : Type 0} (capacity : ℕ) (core : Core V E) : Type 0 where
  none : (n : ℕ) → core.locals n ≡ None
  sheet : shadow core ≡ unused capacity

owner_settled : {V E : Type 0} (capacity : ℕ) (core : Core V E) (call : OwnerCall V)
    → moved_by_if (unused capacity) (move_of core (Owner call)) ≡ unused capacity
owner_settled capacity core (RewriteTable others) = refl
owner_settled capacity core DrainTable = refl
owner_settled capacity core ClearTable = refl
owner_settled capacity core _ = refl

still_new : {V E : Type 0} (capacity : ℕ) (core : Core V E) (event : Event V E)
    → ((n : ℕ) → core.locals n ≡ None) → is_granted_take core event ≡ false
    → moved_by_if (unused capacity) (move core event) ≡ unused capacity
still_new capacity core (TakeId refused growth) none e =
    untaken (unused capacity) (is_enabled core (TakeId refused growth))
    (is_granted core.manager refused) e
still_new capacity core (OfLocal number step) none e =
    settled (unused capacity) (is_enabled core (OfLocal number step))
    (publishing core.table (core.locals number) step) (rw (none number) refl)
still_new capacity core (GiveBack number) none e =
    settled (unused capacity) (is_enabled core (GiveBack number)) (move_of core (GiveBack number))
    (rw (none number) refl)
still_new capacity core (Owner call) none e =
    settled (unused capacity) (is_enabled core (Owner call)) (move_of core (Owner call))
    (owner_settled capacity core call)
still_new capacity core event none e = settled (unused capacity) (is_enabled core event) None refl

-- only a granted take makes a Local
pub comes : {V E : Type 0} (core : Core V E) (event : Event V E) (n : ℕ) (local : Local V E)
    → CoreFits core → core.locals n ≡ None → (happens core event).locals n ≡ Some local
    → IsTrue (is_granted_take core event) × (n ≡ core.taken)
comes core event n local h none at =
    let says = (event_says core event h).comes n local none at in
    (rw (says.1, says.0, says.2) refl, says.3)

fresh_kept : {V E : Type 0} (capacity : ℕ) (core : Core V E) (event : Event V E) → CoreFits core
    → IsFresh capacity core → is_granted_take core event ≡ false
    → IsFresh capacity (happens core event)
fresh_kept capacity core event h f e = record {
  none = λ n. none_if ((happens core event).locals n) (λ local at. false≢true (sym e ∙ (comes core event n local h (f.none n) at).0));
  sheet =
      (event_says core event h).moves
      ∙ ap (λ sheet. moved_by_if sheet (move core event)) f.sheet
      ∙ still_new capacity core event f.none e;
}

run_fresh : {V E : Type 0} (capacity : ℕ) (core : Core V E) (events : List (Event V E))
    → CoreFits core → IsFresh capacity core → NoneTaken core events
    → IsFresh capacity (run core events)
unfolding run
run_fresh capacity core [] h f none = f
run_fresh capacity core (event ∷ events) h f none =
    run_fresh capacity (happens core event) events (happens-fits core event h)
    (fresh_kept capacity core event h f none.0) none.1

-- a clear is enabled where there is no Local
cleared_fresh : {V E : Type 0} (core : Core V E) → IsReached core
    → IsTrue (is_enabled core (Owner ClearTable))
    → IsFresh core.capacity (happens core (Owner ClearTable))
cleared_fresh core r t = record {
  none = λ n.
      ap (λ after. after.locals n) (cleared_core core t)
      ∙ no_locals core (fits core r)
      (tested (is_alone core) (after_owner core ClearTable) core
      (enabled_step core (Owner ClearTable) t)).0
      n;
  sheet = cleared_sheet core r t;
}

or_false : (b : Bool) → (b || false) ≡ b
or_false true = refl
or_false false = refl

-- the first view of id 0 on such a sheet
first_of_unused : (T : Type 0) (capacity : ℕ)
    → first_view {V = T} (unused capacity) 0
    ≡ record { value = None; known = is_reserved capacity 0 }
first_of_unused T capacity =
    ap (λ known. let view : View T = record { value = None; known = known } in view)
    (or_false (is_reserved capacity 0))

-- the next Local gets id 0 and finds no value, and knows its bucket to stand where id 0 is reserved
pub after_clear : {V E : Type 0} (core : Core V E) (events : List (Event V E)) (event : Event V E)
    → IsReached core → IsTrue (is_enabled core (Owner ClearTable))
    → NoneTaken (happens core (Owner ClearTable)) events → IsTrue (is_granted_take (run (happens core (Owner ClearTable)) events) event)
    → IsSomeAnd (newcomer (run (happens core (Owner ClearTable)) events) event) (λ local.
    (local.id ≡ 0)
    × (local.start ≡ record { value = None; known = is_reserved (shadow core).capacity 0 }))
after_clear core events event r t none taken =
    let later = run (happens core (Owner ClearTable)) events in
    let f =
    run_fresh core.capacity (happens core (Owner ClearTable)) events
    (happens-fits core (Owner ClearTable) (fits core r)) (cleared_fresh core r t) none in
    some_and (newcomer later event) _
    (λ local.
    (local.id ≡ 0) × (local.start ≡ record { value = None; known = is_reserved core.capacity 0 }))
    (new_local later event taken) (
      ap (λ sheet. least sheet.held) f.sheet,
      ap (λ sheet. first_view sheet (least sheet.held)) f.sheet ∙ first_of_unused _ core.capacity,
    )
