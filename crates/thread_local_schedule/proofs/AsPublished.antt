-- The values of a reached table are those that its history says, until a rewrite or a drain.
use Rattle.std.proofs.Common.{◌≡◌, ℕ, ◌^◌, ◌<◌, Bool, true, false, List, [], ◌∷◌, ◌++◌, Option, Some, None}
use Rattle.std.proofs.Common.{IsTrue, IfSome, refl, ap, sym, ◌∙◌, ⊎_elim}
use Rattle.std.specs.Prelude.{⊤, option_map}
use Rattle.std.specs.List.{AllByRecursion}
use Rattle.std.proofs.lemmas.Bool.{false≢true, cond_both, cases_eq, eq-eqb, ne_eqb}
use Rattle.thread_local_base.specs.Held.{is_granted}
use Rattle.thread_local_base.specs.IdMoves.{HistoryMove, Take, Give, Publish, noted, or_else, published_in}
use Rattle.thread_local_base.specs.Sheet.{Sheet, OfHistory, Keep, Rewrite, Clear, moved, IsAllowed}
use Rattle.thread_local_base.proofs.IdMoveLaws.{published_apart, published_stays}
use Rattle.thread_local_schedule.specs.TableMoves.{TableMove, OfSheet, Drain, moved_by_if, IsMoveAllowed}
use Rattle.thread_local_schedule.specs.Table.{Table}
use Rattle.thread_local_schedule.specs.Local.{Local, LocalStep}
use Rattle.thread_local_schedule.specs.Fits.{value_set}
use Rattle.thread_local_schedule.specs.Core.{Core, made_core, shadow}
use Rattle.thread_local_schedule.specs.CoreFits.{CoreFits}
use Rattle.thread_local_schedule.specs.Events.{Event, TakeId, OfLocal, GiveBack, Owner, RewriteTable, DrainTable, ClearTable}
use Rattle.thread_local_schedule.specs.Events.{is_enabled, happens, run}
use Rattle.thread_local_schedule.specs.Schedule.{publishing, move, move_of, changes_values}
use Rattle.thread_local_schedule.specs.History.{history_with, history_after_all, history}
use Rattle.thread_local_schedule.specs.History.{as_published_with, as_published_after_all, is_as_published}
use Rattle.thread_local_schedule.proofs.InvariantParts.{made_core-fits}
use Rattle.thread_local_schedule.proofs.CoreLaws.{none_made}
use Rattle.thread_local_schedule.proofs.Kept.{happens-fits}
use Rattle.thread_local_schedule.proofs.EventSays.{event_says}

or_else_apart : {V : Type 0} (a b c : Option V) → or_else a (or_else b c) ≡ or_else (or_else a b) c
or_else_apart None b c = refl
or_else_apart (Some v) b c = refl

-- one move of the history adds the value that it publishes
one_added : {V : Type 0} (sheet : Sheet V) (m : HistoryMove V) (id : ℕ) → IsAllowed sheet (OfHistory m)
    → (moved sheet (OfHistory m)).values id ≡ or_else (sheet.values id) (published_in (m ∷ []) id)
one_added sheet Take id allowed = sym (published_stays (sheet.values id))
one_added sheet (Give other) id allowed = sym (published_stays (sheet.values id))
one_added sheet (Publish other v) id allowed =
    ⊎_elim
    (λ here. rw (eq-eqb other id here, ap sheet.values (sym here) ∙ allowed.0) refl)
    (λ apart. rw (ne_eqb other id apart) (sym (published_stays (sheet.values id))))
    (cases_eq other id)

-- so where a history says what came to the values, it does with the move
one_noted : {V : Type 0} (sheet : Sheet V) (there : Option V) (moves : List (HistoryMove V)) (m : HistoryMove V) (id : ℕ)
    → IsAllowed sheet (OfHistory m) → sheet.values id ≡ or_else there (published_in moves id)
    → (moved sheet (OfHistory m)).values id ≡ or_else there (published_in (noted moves m) id)
one_noted sheet there moves m id allowed e =
    one_added sheet m id allowed
    ∙ ap (λ o. or_else o (published_in (m ∷ []) id)) e
    ∙ sym (or_else_apart there (published_in moves id) (published_in (m ∷ []) id))
    ∙ ap (or_else there) (sym (published_apart moves (m ∷ []) id))

-- a move of the history, or none
abbrev IsOfHistory : {V : Type 0} → Option (TableMove V) → Type 0
IsOfHistory None = ⊤
IsOfHistory (Some (OfSheet (OfHistory m))) = ⊤
IsOfHistory o = ⊥

published_of : {V : Type 0} (id : ℕ) (set : Option V) → IsOfHistory (option_map (λ value. OfSheet (OfHistory (Publish id value))) set)
published_of id None = tt
published_of id (Some v) = tt

step_of : {V E : Type 0} (table : Table V) (o : Option (Local V E)) (step : LocalStep V E) → IsOfHistory (publishing table o step)
step_of table None step = tt
step_of table (Some local) step = published_of local.id (value_set table local step)

given_of : {V E : Type 0} (o : Option (Local V E)) → IsOfHistory {V = V} (option_map (λ local. OfSheet (OfHistory (Give local.id))) o)
given_of None = tt
given_of (Some local) = tt

-- every event but a rewrite, a drain and a clear is such a one
enabled_of : {V E : Type 0} (core : Core V E) (event : Event V E) → changes_values event ≡ false → IsOfHistory (move_of core event)
enabled_of {V} core (TakeId refused growth) f =
    cond_both {A = Option (TableMove V)} (is_granted core.manager refused) (Some (OfSheet (OfHistory Take))) None IsOfHistory (λ _. tt) (λ _. tt)
enabled_of core (OfLocal number step) f = step_of core.table (core.locals number) step
enabled_of core (GiveBack number) f = given_of (core.locals number)
enabled_of core (Owner (RewriteTable others)) f = absurd (false≢true (sym f))
enabled_of core (Owner DrainTable) f = absurd (false≢true (sym f))
enabled_of core (Owner ClearTable) f = absurd (false≢true (sym f))
enabled_of core _ f = tt

of_history : {V E : Type 0} (core : Core V E) (event : Event V E)
    → (IsTrue (is_enabled core event) → changes_values event ≡ false)
    → IsOfHistory (move core event)
of_history core event f =
    cond_both (is_enabled core event) (move_of core event) None IsOfHistory (λ t. enabled_of core event (f t)) (λ _. tt)

added : {V : Type 0} (sheet : Sheet V) (there : Option V) (moves : List (HistoryMove V)) (o : Option (TableMove V)) (id : ℕ)
    → IfSome o (IsMoveAllowed sheet) → IsOfHistory o → sheet.values id ≡ or_else there (published_in moves id)
    → (moved_by_if sheet o).values id ≡ or_else there (published_in (history_with moves o) id)
added sheet there moves None id allowed of e = e
added sheet there moves (Some (OfSheet (OfHistory m))) id allowed of e = one_noted sheet there moves m id allowed e
added sheet there moves (Some (OfSheet (Keep other v))) id allowed of e = absurd of
added sheet there moves (Some (OfSheet (Rewrite others))) id allowed of e = absurd of
added sheet there moves (Some (OfSheet Clear)) id allowed of e = absurd of
added sheet there moves (Some Drain) id allowed of e = absurd of

-- until such an event the values are those that were there, and those that the history adds
since_run : {V E : Type 0} (core : Core V E) (events : List (Event V E)) (there : Option V) (moves : List (HistoryMove V)) (id : ℕ)
    → CoreFits core → AllByRecursion (λ event. changes_values event ≡ false) events
    → (shadow core).values id ≡ or_else there (published_in moves id)
    → (shadow (run core events)).values id ≡ or_else there (published_in (history_after_all moves core events) id)
unfolding run
since_run core [] there moves id h quiet e = e
since_run core (event ∷ events) there moves id h quiet e =
    let says = event_says core event h in
    since_run (happens core event) events there (history_with moves (move core event)) id (happens-fits core event h) quiet.1
    (ap (λ sheet. sheet.values id) says.moves
    ∙ added (shadow core) there moves (move core event) id says.allowed (of_history core event (λ _. quiet.0)) e)

pub published_since : {V E : Type 0} (core : Core V E) (events : List (Event V E)) (id : ℕ)
    → CoreFits core → AllByRecursion (λ event. changes_values event ≡ false) events
    → (shadow (run core events)).values id ≡ or_else ((shadow core).values id) (published_in (history core events) id)
published_since core events id h quiet =
    since_run core events ((shadow core).values id) [] id h quiet (sym (published_stays ((shadow core).values id)))

-- while each value is as it was published, the values are what the history says
as_said : {V : Type 0} (sheet : Sheet V) (moves : List (HistoryMove V)) (o : Option (TableMove V)) (id : ℕ) (so : Bool)
    → IfSome o (IsMoveAllowed sheet) → (IsTrue so → sheet.values id ≡ published_in moves id)
    → IsTrue (as_published_with so o)
    → (moved_by_if sheet o).values id ≡ published_in (history_with moves o) id
as_said sheet moves None id so allowed e t = e t
as_said sheet moves (Some (OfSheet (OfHistory m))) id so allowed e t = one_noted sheet None moves m id allowed (e t)
as_said sheet moves (Some (OfSheet (Keep other v))) id so allowed e t = e t
as_said sheet moves (Some (OfSheet (Rewrite others))) id so allowed e t = absurd (false≢true t)
as_said sheet moves (Some (OfSheet Clear)) id so allowed e t = refl
as_said sheet moves (Some Drain) id so allowed e t = absurd (false≢true t)

as_run : {V E : Type 0} (core : Core V E) (events : List (Event V E)) (moves : List (HistoryMove V)) (id : ℕ) (so : Bool)
    → CoreFits core → (IsTrue so → (shadow core).values id ≡ published_in moves id)
    → IsTrue (as_published_after_all so core events)
    → (shadow (run core events)).values id ≡ published_in (history_after_all moves core events) id
unfolding run
as_run core [] moves id so h e t = e t
as_run core (event ∷ events) moves id so h e t =
    let says = event_says core event h in
    as_run (happens core event) events (history_with moves (move core event)) id (as_published_with so (move core event))
    (happens-fits core event h)
    (λ now. ap (λ sheet. sheet.values id) says.moves
    ∙ as_said (shadow core) moves (move core event) id so says.allowed e now)
    t

pub as_published : {V E : Type 0} (capacity extra : ℕ) (events : List (Event V E)) (id : ℕ) → capacity < 2 ^ 63
    → IsTrue (is_as_published (made_core capacity extra) events)
    → published_in (history (made_core capacity extra) events) id ≡ (shadow (run (made_core capacity extra) events)).values id
as_published {V} capacity extra events id l t =
    sym (as_run (made_core capacity extra) events [] id true (made_core-fits capacity extra l)
    (λ _. ap (λ values. values id) (none_made V capacity)) t)

-- one event more
as_one : {V E : Type 0} (so : Bool) (core : Core V E) (events : List (Event V E)) (event : Event V E)
    → as_published_after_all so core (events ++ event ∷ [])
    ≡ as_published_with (as_published_after_all so core events) (move (run core events) event)
unfolding run
as_one so core [] event = refl
as_one so core (first ∷ events) event = as_one (as_published_with so (move core first)) (happens core first) events event

pub rewritten : {V E : Type 0} (core : Core V E) (events : List (Event V E)) (others : ℕ → V → V)
    → IsTrue (is_enabled (run core events) (Owner (RewriteTable others)))
    → is_as_published core (events ++ Owner (RewriteTable others) ∷ []) ≡ false
rewritten core events others t = rw (as_one true core events (Owner (RewriteTable others)), t) refl

pub drained : {V E : Type 0} (core : Core V E) (events : List (Event V E))
    → IsTrue (is_enabled (run core events) (Owner DrainTable))
    → is_as_published core (events ++ Owner DrainTable ∷ []) ≡ false
drained core events t = rw (as_one true core events (Owner DrainTable), t) refl

pub cleared : {V E : Type 0} (core : Core V E) (events : List (Event V E))
    → IsTrue (is_enabled (run core events) (Owner ClearTable))
    → is_as_published core (events ++ Owner ClearTable ∷ []) ≡ true
cleared core events t = rw (as_one true core events (Owner ClearTable), t) refl

left_as : {V : Type 0} (so : Bool) (o : Option (TableMove V)) → IsOfHistory o → as_published_with so o ≡ so
left_as so None of = refl
left_as so (Some (OfSheet (OfHistory m))) of = refl
left_as so (Some (OfSheet (Keep id v))) of = absurd of
left_as so (Some (OfSheet (Rewrite others))) of = absurd of
left_as so (Some (OfSheet Clear)) of = absurd of
left_as so (Some Drain) of = absurd of

pub as_before : {V E : Type 0} (core : Core V E) (events : List (Event V E)) (event : Event V E)
    → (IsTrue (is_enabled (run core events) event) → changes_values event ≡ false)
    → is_as_published core (events ++ event ∷ []) ≡ is_as_published core events
as_before core events event f =
    as_one true core events event
    ∙ left_as (is_as_published core events) (move (run core events) event) (of_history (run core events) event f)
