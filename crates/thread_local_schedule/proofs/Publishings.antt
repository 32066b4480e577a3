-- A schedule has as many publishings since the last clear or drain as the table has values.
use Rattle.std.proofs.Common.{◌≡◌, ℕ, zero, suc, ◌+◌, ◌-◌, ◌^◌, ◌<◌, ◌≤◌, length, length-append, List, [], ◌∷◌, Option}
use Rattle.std.proofs.Common.{Some, None, IfSome, refl, ap, sym, ◌∙◌, subst, arith, ⊎_elim}
use Rattle.std.specs.Prelude.{option_to_list, option_map}
use Rattle.std.proofs.lemmas.Bool.{cases_order, ne_eqb, eq-eqb}
use Rattle.thread_local_base.specs.Walk.{walk_below, walk, with_value}
use Rattle.thread_local_base.proofs.WalkLaws.{walk_below-same, walk_below-none}
use Rattle.thread_local_base.specs.IdMoves.{Take, Give, Publish}
use Rattle.thread_local_base.specs.Sheet.{Sheet, OfHistory, Keep, Rewrite, Clear}
use Rattle.thread_local_schedule.specs.TableMoves.{TableMove, OfSheet, Drain, moved_by_if, IsMoveAllowed}
use Rattle.thread_local_schedule.specs.Core.{Core, made_core, shadow, peak}
use Rattle.thread_local_schedule.specs.CoreFits.{CoreFits}
use Rattle.thread_local_schedule.proofs.HeldCounts.{held_below}
use Rattle.thread_local_schedule.proofs.InvariantParts.{made_core-fits}
use Rattle.thread_local_schedule.proofs.CoreLaws.{published_bound}
use Rattle.thread_local_schedule.specs.Events.{Event, happens, run}
use Rattle.thread_local_schedule.specs.Schedule.{move}
use Rattle.thread_local_schedule.proofs.Kept.{happens-fits, run-fits}
use Rattle.thread_local_schedule.proofs.EventSays.{event_says}
use Rattle.thread_local_schedule.specs.Bounds.{publishings_with, publishings_after_all, publishings}

-- a walk that ends before an id doesn't see a value published there
before : {V : Type 0} (values : ℕ → Option V) (id : ℕ) (v : V) (n : ℕ) → n ≤ id
    → walk_below (with_value values id v) n ≡ walk_below values n
before values id v n l = walk_below-same (with_value values id v) values n (λ j below. rw (ne_eqb id j (λ e. omega arith)) refl)

-- one that passes it gives one value more
one_more : {V : Type 0} (values : ℕ → Option V) (id : ℕ) (v : V) (n : ℕ) → values id ≡ None → id < n
    → length (walk_below (with_value values id v) n) ≡ suc (length (walk_below values n))
unfolding walk_below
one_more values id v zero none l = absurd (omega arith)
one_more values id v (suc n) none l =
    rw (
      length-append (walk_below (with_value values id v) n)
          (option_to_list (with_value values id v n)),
      length-append (walk_below values n) (option_to_list (values n)),
    )
    (⊎_elim
    (λ here. rw (eq-eqb id n here, sym here, none, before values id v id (omega arith)) (omega arith))
    (⊎_elim
    (λ below. rw (ne_eqb id n (λ e. omega arith)) (omega (arith, one_more values id v n none below)))
    (λ above. absurd (omega arith)))
    (cases_order id n))

one_as_many : {V : Type 0} (f : V → V) (o : Option V) → length (option_to_list (option_map f o)) ≡ length (option_to_list o)
one_as_many f None = refl
one_as_many f (Some x) = refl

-- a rewrite leaves as many values
as_many : {V : Type 0} (values : ℕ → Option V) (others : ℕ → V → V) (n : ℕ)
    → length (walk_below (λ id. option_map (others id) (values id)) n)
    ≡ length (walk_below values n)
unfolding walk_below
as_many values others zero = refl
as_many values others (suc n) =
    rw (
      length-append (walk_below (λ id. option_map (others id) (values id)) n)
          (option_to_list (option_map (others n) (values n))),
      length-append (walk_below values n) (option_to_list (values n)),
      as_many values others n,
    )
    (ap (λ more. length (walk_below values n) + more) (one_as_many (others n) (values n)))

-- a move changes the number of values as it changes the number of publishings
counted : {V : Type 0} (sheet : Sheet V) (o : Option (TableMove V))
    → ((id : ℕ) (v : V) → o ≡ Some (OfSheet (OfHistory (Publish id v))) → id < 2 ^ 63 - 1) → IfSome o (IsMoveAllowed sheet)
    → length (walk (moved_by_if sheet o).values) ≡ publishings_with (length (walk sheet.values)) o
unfolding walk
counted sheet None low allowed = refl
counted sheet (Some (OfSheet (OfHistory Take))) low allowed = refl
counted sheet (Some (OfSheet (OfHistory (Give id)))) low allowed = refl
counted sheet (Some (OfSheet (OfHistory (Publish id v)))) low allowed = one_more sheet.values id v (2 ^ 63 - 1) allowed.0 (low id v refl)
counted sheet (Some (OfSheet (Keep id v))) low allowed = refl
counted sheet (Some (OfSheet (Rewrite others))) low allowed = as_many sheet.values others (2 ^ 63 - 1)
counted sheet (Some (OfSheet Clear)) low allowed = ap length (walk_below-none (λ _. None) (2 ^ 63 - 1) (λ id l. refl))
counted sheet (Some Drain) low allowed = ap length (walk_below-none (λ _. None) (2 ^ 63 - 1) (λ id l. refl))

-- a value is published at a held id, so below 2^63 - 1
low_id : {V E : Type 0} (core : Core V E) (o : Option (TableMove V)) → CoreFits core
    → IfSome o (IsMoveAllowed (shadow core)) → (id : ℕ) (v : V) → o ≡ Some (OfSheet (OfHistory (Publish id v)))
    → id < 2 ^ 63 - 1
low_id core o h allowed id v e =
    let may = subst (λ m. IfSome m (IsMoveAllowed (shadow core))) e allowed in
    omega (arith, h.manager.peak_ids, held_below core.manager.held id may.1)

-- so after a schedule there are as many publishings as values
pub publishings_run : {V E : Type 0} (core : Core V E) (events : List (Event V E)) (n : ℕ)
    → CoreFits core → length (walk (shadow core).values) ≡ n
    → length (walk (shadow (run core events)).values) ≡ publishings_after_all n core events
unfolding run
publishings_run core [] n h e = e
publishings_run core (event ∷ events) n h e =
    let says = event_says core event h in
    publishings_run (happens core event) events (publishings_with n (move core event)) (happens-fits core event h)
    (ap (λ sheet. length (walk sheet.values)) says.moves
    ∙ counted (shadow core) (move core event) (low_id core (move core event) h says.allowed) says.allowed
    ∙ ap (λ m. publishings_with m (move core event)) e)

-- a new table has neither values nor publishings, so the numbers are equal
pub as_many_as_values : {V E : Type 0} (capacity extra : ℕ) (events : List (Event V E)) → capacity < 2 ^ 63
    → publishings (made_core capacity extra) events ≡ length (walk (shadow (run (made_core capacity extra) events)).values)
as_many_as_values capacity extra events l =
    let made = made_core-fits capacity extra l in
    sym (publishings_run (made_core capacity extra) events 0 made (omega (arith, published_bound (made_core capacity extra) made)))

pub at_most_the_peak : {V E : Type 0} (capacity extra : ℕ) (events : List (Event V E)) → capacity < 2 ^ 63
    → publishings (made_core capacity extra) events ≤ peak (run (made_core capacity extra) events)
at_most_the_peak capacity extra events l =
    omega (
      arith,
      as_many_as_values capacity extra events l,
      published_bound (run (made_core capacity extra) events)
          (run-fits (made_core capacity extra) events (made_core-fits capacity extra l)),
    )
