-- The most ids held at once, and the publishings, after one event more.
use Rattle.std.specs.Prelude.{◌≢◌}
use Rattle.std.proofs.Common.{◌≡◌, ℕ, suc, max, true, false, ◌&&◌, List, [], ◌∷◌, ◌++◌, Option, Some}
use Rattle.std.proofs.Common.{IsTrue, refl, ap, ◌∙◌, ⊎_elim}
use Rattle.std.proofs.lemmas.Bool.{cases_Bool, and_right}
use Rattle.thread_local_base.specs.Held.{held_count}
use Rattle.thread_local_base.specs.IdMoves.{Publish}
use Rattle.thread_local_base.specs.Sheet.{OfHistory, Clear}
use Rattle.thread_local_schedule.specs.TableMoves.{TableMove, OfSheet, Drain}
use Rattle.thread_local_schedule.specs.Core.{Core}
use Rattle.thread_local_schedule.specs.Events.{Event}
use Rattle.thread_local_schedule.specs.Events.{Owner, ClearTable}
use Rattle.thread_local_schedule.specs.Events.{is_enabled, happens, run}
use Rattle.thread_local_schedule.specs.Schedule.{move, is_clear}
use Rattle.thread_local_schedule.specs.Bounds.{most_after, most_after_all, most_held, publishings_with, publishings_after_all, publishings}
use Rattle.thread_local_schedule.proofs.EventRules.{run-one}

-- an event that isn't an enabled clear
no_clear : {V E : Type 0} (core : Core V E) (event : Event V E)
    → (IsTrue (is_enabled core event) → event ≢ Owner ClearTable)
    → (is_enabled core event && is_clear event) ≡ false
no_clear core (Owner ClearTable) other =
    ⊎_elim (λ t. absurd (other t refl)) (λ f. ap (λ b. b && true) f) (cases_Bool (is_enabled core (Owner ClearTable)))
no_clear core event other = and_right (is_enabled core event) false refl

most_one : {V E : Type 0} (most : ℕ) (core : Core V E) (events : List (Event V E)) (event : Event V E)
    → most_after_all most core (events ++ event ∷ [])
    ≡ most_after (most_after_all most core events) (run core events) event
unfolding run
most_one most core [] event = refl
most_one most core (first ∷ events) event = most_one (most_after most core first) (happens core first) events event

pub most_later : {V E : Type 0} (core : Core V E) (events : List (Event V E)) (event : Event V E)
    → (IsTrue (is_enabled (run core events) event) → event ≢ Owner ClearTable)
    → most_held core (events ++ event ∷ [])
    ≡ max (most_held core events) (held_count (run core (events ++ event ∷ [])).manager.held)
most_later core events event other =
    rw (most_one 0 core events event, run-one core events event, no_clear (run core events) event other) refl

pub most_cleared : {V E : Type 0} (core : Core V E) (events : List (Event V E))
    → IsTrue (is_enabled (run core events) (Owner ClearTable))
    → most_held core (events ++ Owner ClearTable ∷ []) ≡ 0
most_cleared core events t = rw (most_one 0 core events (Owner ClearTable), t) refl

published_one : {V E : Type 0} (n : ℕ) (core : Core V E) (events : List (Event V E)) (event : Event V E)
    → publishings_after_all n core (events ++ event ∷ [])
    ≡ publishings_with (publishings_after_all n core events) (move (run core events) event)
unfolding run
published_one n core [] event = refl
published_one n core (first ∷ events) event =
    published_one (publishings_with n (move core first)) (happens core first) events event

pub one_published : {V E : Type 0} (core : Core V E) (events : List (Event V E)) (event : Event V E) (id : ℕ) (v : V)
    → move (run core events) event ≡ Some (OfSheet (OfHistory (Publish id v)))
    → publishings core (events ++ event ∷ []) ≡ suc (publishings core events)
one_published core events event id v e = published_one 0 core events event ∙ ap (publishings_with (publishings core events)) e

pub published_anew : {V E : Type 0} (core : Core V E) (events : List (Event V E)) (event : Event V E)
    → move (run core events) event ≡ Some (OfSheet Clear)
    → publishings core (events ++ event ∷ []) ≡ 0
published_anew core events event e = published_one 0 core events event ∙ ap (publishings_with (publishings core events)) e

pub drained_anew : {V E : Type 0} (core : Core V E) (events : List (Event V E)) (event : Event V E)
    → move (run core events) event ≡ Some Drain
    → publishings core (events ++ event ∷ []) ≡ 0
drained_anew core events event e = published_one 0 core events event ∙ ap (publishings_with (publishings core events)) e

-- a move that neither publishes, clears nor drains counts nothing
uncounted : {V : Type 0} (n : ℕ) (moved : Option (TableMove V)) → ((id : ℕ) (v : V) → moved ≢ Some (OfSheet (OfHistory (Publish id v))))
    → moved ≢ Some (OfSheet Clear) → moved ≢ Some Drain
    → publishings_with n moved ≡ n
uncounted n (Some (OfSheet (OfHistory (Publish id v)))) unpublished uncleared undrained = absurd (unpublished id v refl)
uncounted n (Some (OfSheet Clear)) unpublished uncleared undrained = absurd (uncleared refl)
uncounted n (Some Drain) unpublished uncleared undrained = absurd (undrained refl)
uncounted n moved unpublished uncleared undrained = refl

pub as_many_published : {V E : Type 0} (core : Core V E) (events : List (Event V E)) (event : Event V E)
    → ((id : ℕ) (v : V) → move (run core events) event ≢ Some (OfSheet (OfHistory (Publish id v))))
    → move (run core events) event ≢ Some (OfSheet Clear)
    → move (run core events) event ≢ Some Drain
    → publishings core (events ++ event ∷ []) ≡ publishings core events
as_many_published core events event unpublished uncleared undrained =
    published_one 0 core events event
    ∙ uncounted (publishings core events) (move (run core events) event) unpublished uncleared undrained
