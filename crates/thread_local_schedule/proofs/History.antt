-- The held ids of a reached table are those that its history leaves held.
use Rattle.std.proofs.Common.{◌≡◌, ℕ, ◌^◌, ◌<◌, Bool, true, false, ◌&&◌, not, cond, List, [], ◌∷◌, ◌++◌, Option, Some, None}
use Rattle.std.proofs.Common.{IsTrue, IsSomeAnd, refl, ap, sym, ◌∙◌, subst}
use Rattle.std.specs.Prelude.{◌≢◌, option_map}
use Rattle.std.proofs.lemmas.Bool.{false≢true, cond_both}
use Rattle.thread_local_base.specs.Held.{least, with_least, without, is_granted}
use Rattle.thread_local_base.specs.IdMoves.{HistoryMove, Take, Give, Publish, held_from, noted}
use Rattle.thread_local_base.proofs.IdMoveLaws.{held_apart}
use Rattle.thread_local_base.specs.Sheet.{Sheet, OfHistory, Keep, Rewrite, Clear}
use Rattle.thread_local_schedule.specs.TableMoves.{TableMove, OfSheet, Drain, moved_by_if}
use Rattle.thread_local_schedule.specs.Local.{Local, LocalStep}
use Rattle.thread_local_schedule.specs.Table.{Table}
use Rattle.thread_local_schedule.specs.Fits.{value_set}
use Rattle.thread_local_schedule.specs.Core.{Core, made_core, shadow}
use Rattle.thread_local_schedule.specs.CoreFits.{CoreFits}
use Rattle.thread_local_schedule.specs.Events.{Event, TakeId, OfLocal, GiveBack, Owner, RewriteTable, DrainTable, ClearTable}
use Rattle.thread_local_schedule.specs.Events.{is_enabled, happens, run}
use Rattle.thread_local_schedule.specs.Schedule.{publishing, move, move_of, is_granted_take, newcomer}
use Rattle.thread_local_schedule.specs.History.{history_with, history_after_all, history}
use Rattle.thread_local_schedule.proofs.InvariantParts.{made_core-fits}
use Rattle.thread_local_schedule.proofs.Kept.{happens-fits}
use Rattle.thread_local_schedule.proofs.EventSays.{event_says}
use Rattle.thread_local_schedule.proofs.Clauses.{least_taken}
use Rattle.thread_local_schedule.proofs.MoveLaws.{take_moves}

-- what a move of the table changes of the held ids is what is noted of it
held_noted : {V : Type 0} (sheet : Sheet V) (moves : List (HistoryMove V)) (o : Option (TableMove V))
    → sheet.held ≡ held_from [] moves
    → (moved_by_if sheet o).held ≡ held_from [] (history_with moves o)
held_noted sheet moves None e = e
held_noted sheet moves (Some Drain) e = e
held_noted sheet moves (Some (OfSheet (OfHistory Take))) e = ap with_least e ∙ sym (held_apart [] moves (Take ∷ []))
held_noted sheet moves (Some (OfSheet (OfHistory (Give id)))) e = ap (λ held. without held id) e ∙ sym (held_apart [] moves (Give id ∷ []))
held_noted sheet moves (Some (OfSheet (OfHistory (Publish id v)))) e = e ∙ sym (held_apart [] moves (Publish id v ∷ []))
held_noted sheet moves (Some (OfSheet (Keep id v))) e = e
held_noted sheet moves (Some (OfSheet (Rewrite others))) e = e
held_noted sheet moves (Some (OfSheet Clear)) e = refl

history_run : {V E : Type 0} (core : Core V E) (events : List (Event V E)) (moves : List (HistoryMove V))
    → CoreFits core → (shadow core).held ≡ held_from [] moves
    → (shadow (run core events)).held ≡ held_from [] (history_after_all moves core events)
unfolding run
history_run core [] moves h e = e
history_run core (event ∷ events) moves h e =
    history_run (happens core event) events (history_with moves (move core event)) (happens-fits core event h)
    (ap (λ sheet. sheet.held) (event_says core event h).moves
    ∙ held_noted (shadow core) moves (move core event) e)

pub held_by_history : {V E : Type 0} (capacity extra : ℕ) (events : List (Event V E)) → capacity < 2 ^ 63
    → (shadow (run (made_core capacity extra) events)).held ≡ held_from [] (history (made_core capacity extra) events)
held_by_history capacity extra events l = history_run (made_core capacity extra) events [] (made_core-fits capacity extra l) refl

-- one event more
noted_one : {V E : Type 0} (moves : List (HistoryMove V)) (core : Core V E) (events : List (Event V E)) (event : Event V E)
    → history_after_all moves core (events ++ event ∷ [])
    ≡ history_with (history_after_all moves core events) (move (run core events) event)
unfolding run
noted_one moves core [] event = refl
noted_one moves core (first ∷ events) event = noted_one (history_with moves (move core first)) (happens core first) events event

-- so a new Local's id is the least that they leave free
pub least_after : {V E : Type 0} (capacity extra : ℕ) (events : List (Event V E)) (event : Event V E) → capacity < 2 ^ 63
    → IsTrue (is_granted_take (run (made_core capacity extra) events) event)
    → IsSomeAnd (newcomer (run (made_core capacity extra) events) event) (λ local.
    local.id ≡ least (held_from [] (history (made_core capacity extra) events)))
least_after capacity extra events event l t =
    subst (λ held. IsSomeAnd (newcomer (run (made_core capacity extra) events) event) (λ local. local.id ≡ least held))
    (held_by_history capacity extra events l)
    (least_taken (run (made_core capacity extra) events) event t)

-- what each kind of event notes
pub one_take : {V E : Type 0} (core : Core V E) (events : List (Event V E)) (event : Event V E)
    → IsTrue (is_granted_take (run core events) event)
    → history core (events ++ event ∷ []) ≡ noted (history core events) Take
one_take core events event t =
    noted_one [] core events event ∙ ap (history_with (history core events)) (take_moves (run core events) event t)

pub one_give : {V E : Type 0} (core : Core V E) (events : List (Event V E)) (n : ℕ) (local : Local V E)
    → IsTrue (is_enabled (run core events) (GiveBack n)) → (run core events).locals n ≡ Some local
    → history core (events ++ GiveBack n ∷ []) ≡ noted (history core events) (Give local.id)
one_give core events n local t at = rw (noted_one [] core events (GiveBack n), t, at) refl

pub one_publish : {V E : Type 0} (core : Core V E) (events : List (Event V E)) (event : Event V E) (id : ℕ) (v : V)
    → move (run core events) event ≡ Some (OfSheet (OfHistory (Publish id v)))
    → history core (events ++ event ∷ []) ≡ noted (history core events) (Publish id v)
one_publish core events event id v e = noted_one [] core events event ∙ ap (history_with (history core events)) e

pub history_anew : {V E : Type 0} (core : Core V E) (events : List (Event V E))
    → IsTrue (is_enabled (run core events) (Owner ClearTable))
    → history core (events ++ Owner ClearTable ∷ []) ≡ []
history_anew core events t = rw (noted_one [] core events (Owner ClearTable), t) refl

-- an event that is none of these, or isn't enabled, notes nothing
abbrev NotesNothing : {V E : Type 0} → Core V E → Event V E → Type 0
NotesNothing {V} core event =
    (is_granted_take core event ≡ false) × ((n : ℕ) → event ≢ GiveBack n)
    × ((id : ℕ) (v : V) → move core event ≢ Some (OfSheet (OfHistory (Publish id v))))
    × (event ≢ Owner ClearTable)

unpublished_notes : {V : Type 0} (moves : List (HistoryMove V)) (id : ℕ) (set : Option V)
    → ((v : V) → option_map (λ value. OfSheet (OfHistory (Publish id value))) set ≢ Some (OfSheet (OfHistory (Publish id v))))
    → history_with moves (option_map (λ value. OfSheet (OfHistory (Publish id value))) set) ≡ moves
unpublished_notes moves id None none = refl
unpublished_notes moves id (Some v) none = absurd (none v refl)

step_notes : {V E : Type 0} (moves : List (HistoryMove V)) (table : Table V) (o : Option (Local V E)) (step : LocalStep V E)
    → ((id : ℕ) (v : V) → publishing table o step ≢ Some (OfSheet (OfHistory (Publish id v))))
    → history_with moves (publishing table o step) ≡ moves
step_notes moves table None step none = refl
step_notes moves table (Some local) step none = unpublished_notes moves local.id (value_set table local step) (none local.id)

refused_notes : {V : Type 0} (moves : List (HistoryMove V)) (enabled granted : Bool) → IsTrue enabled
    → (enabled && not (not granted)) ≡ false
    → history_with moves (cond granted (Some (OfSheet (OfHistory Take))) None) ≡ moves
refused_notes moves true true t f = absurd (false≢true (sym f))
refused_notes moves true false t f = refl
refused_notes moves false granted t f = absurd (false≢true t)

unnoted : {V E : Type 0} (moves : List (HistoryMove V)) (core : Core V E) (event : Event V E) → IsTrue (is_enabled core event)
    → NotesNothing core event
    → history_with moves (move_of core event) ≡ moves
unnoted moves core (TakeId refused growth) t none =
    refused_notes moves (is_enabled core (TakeId refused growth)) (is_granted core.manager refused) t none.0
unnoted moves core (OfLocal number step) t none =
    step_notes moves core.table (core.locals number) step
    (λ id v e. none.2 id v (ap (λ b. cond b (publishing core.table (core.locals number) step) None) t ∙ e))
unnoted moves core (GiveBack number) t none = absurd (none.1 number refl)
unnoted moves core (Owner (RewriteTable others)) t none = refl
unnoted moves core (Owner DrainTable) t none = refl
unnoted moves core (Owner ClearTable) t none = absurd (none.3 refl)
unnoted moves core _ t none = refl

pub no_more_noted : {V E : Type 0} (core : Core V E) (events : List (Event V E)) (event : Event V E)
    → (IsTrue (is_enabled (run core events) event) → NotesNothing (run core events) event)
    → history core (events ++ event ∷ []) ≡ history core events
no_more_noted core events event none =
    let now = run core events in
    noted_one [] core events event
    ∙ cond_both (is_enabled now event) (move_of now event) None
    (λ o. history_with (history core events) o ≡ history core events)
    (λ t. unnoted (history core events) now event t (none t)) (λ _. refl)
