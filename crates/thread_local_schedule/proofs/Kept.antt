-- Every event of every schedule keeps the invariant of a core.
use Rattle.std.proofs.Common.{◌≡◌, ℕ, suc, Bool, true, false, cond, List, [], ◌∷◌, length, Option, Some, None, IfSome}
use Rattle.std.proofs.Common.{ap, sym, ◌∙◌, arith}
use Rattle.std.proofs.lemmas.Bool.{cond_both, ne_eqb, false≢true}
use Rattle.std.specs.Prelude.{unwrap_or}
use Rattle.thread_local_base.specs.Held.{is_held, least, with_least, without, is_exhausted, is_granted}
use Rattle.thread_local_base.specs.Answers.{first_view}
use Rattle.thread_local_schedule.specs.Local.{Local, LocalStep, fresh_local, local_step}
use Rattle.thread_local_schedule.specs.SharedWalk.{SharedWalk, begun_walk, WalkStep, walk_step}
use Rattle.thread_local_schedule.specs.Fits.{StepFits, value_set}
use Rattle.thread_local_schedule.specs.Calls.{HasLearnt}
use Rattle.thread_local_schedule.specs.Numbers.{NumbersGo}
use Rattle.thread_local_schedule.proofs.LocalLaws.{local_step-fits}
use Rattle.thread_local_schedule.proofs.NumbersLaws.{local_step-numbers}
use Rattle.thread_local_schedule.proofs.EnabledSteps.{learnt}
use Rattle.thread_local_schedule.proofs.Numbers.{taken-NumbersFit, removed-NumbersFit}
use Rattle.thread_local_schedule.proofs.WalkStepLaws.{walk_step-fits, begun_walk-fits}
use Rattle.thread_local_schedule.specs.Core.{Core, shadow, is_alone}
use Rattle.thread_local_schedule.specs.Events.{Event, TakeId, OfLocal, GiveBack, Forget, BeginWalk, OfWalk, EndWalk}
use Rattle.thread_local_schedule.specs.Events.{Owner, OwnerCall, RewriteTable, Slots, DrainTable, ClearTable, IntoIter, DropTable}
use Rattle.thread_local_schedule.specs.Events.{take_id, with_step, of_local, give_back, forget, begin_walk, of_walk}
use Rattle.thread_local_schedule.specs.Events.{step_of, step, happens, run, is_idle, without_local, with_walk}
use Rattle.thread_local_schedule.specs.Events.{with_id_given, without_walk, after_owner}
use Rattle.thread_local_schedule.proofs.HeldCounts.{peak_after}
use Rattle.thread_local_schedule.specs.CoreFits.{CoreFits}
use Rattle.thread_local_schedule.proofs.InvariantParts.{locals_put, locals_removed, given-ManagerFits, peak-TableFits}
use Rattle.thread_local_schedule.proofs.InvariantParts.{held_stays, least_held, fresh-LiveFits, stepped-fits, walks_put}
use Rattle.thread_local_schedule.proofs.InvariantParts.{came_before, rewritten-fits, drained-fits, cleared-fits}
use Rattle.thread_local_schedule.proofs.Takes.{granted_some, taken-ManagerFits}
use Rattle.thread_local_schedule.proofs.OptionLaws.{if_enabled, unwrapped, if_mapped, if_both, if_there, if_then}
use Rattle.thread_local_base.proofs.HeldLaws as ids

pub take_id-fits : {V E : Type 0} (core : Core V E) (growth : ℕ) → is_exhausted core.manager ≡ false
    → CoreFits core
    → CoreFits (take_id core growth)
take_id-fits core growth some h =
    let held = core.manager.held in
    let up = peak_after held in
    record {
      manager = taken-ManagerFits core.manager core.capacity growth some h.manager;
      table = peak-TableFits core.table core.capacity (length held) (length (with_least held)) (omega arith) h.table;
      locals =
          locals_put core.table (with_least held) core.capacity core.locals (suc core.taken)
          core.taken (fresh_local (least held) (first_view (shadow core) (least held)))
          (omega arith)
          (fresh-LiveFits core (with_least held) (least held) h.table (least_held held))
          (λ n other apart e.
          let live = h.locals.each n other e in (
            record {
              local_fits = live.local_fits;
              learnt = live.learnt;
              id_held = held_stays held other.id live.id_held;
              known = live.known;
            },
            (λ same. false≢true (sym (ids.least_free held) ∙ ap (is_held held) same ∙ live.id_held)),
          ))
          h.locals.unshared
          (λ n above. h.locals.none_from n (omega arith));
      walks = h.walks;
      numbers = taken-NumbersFit core.table core.locals core.taken (least held) (first_view (shadow core) (least held)) h.numbers;
    }

-- a step of a Local
of_local-fits : {V E : Type 0} (core : Core V E) (number : ℕ) (step : LocalStep V E) → CoreFits core
    → IfSome (of_local core number step) CoreFits
of_local-fits core number step h =
    if_then CoreFits _ (core.locals number) (λ local at.
    if_mapped CoreFits (with_step core number) (local_step core.table local step)
    (if_both (λ after.
    StepFits core.table local (value_set core.table local step) after
    × NumbersGo core.table local after)
    (λ after. HasLearnt after.1.doing after.1.learnt) (local_step core.table local step)
    (if_both (StepFits core.table local (value_set core.table local step)) (NumbersGo core.table local)
    (local_step core.table local step)
    (local_step-fits core.table local step h.table.written
    (h.locals.each number local at).local_fits)
    (local_step-numbers core.table local step))
    (learnt core.table local step (h.locals.each number local at).learnt))
    (λ after s. stepped-fits core number local (value_set core.table local step) after at s.0.0 s.0.1 s.1 h))

-- a Local that gives its id back, or is forgotten
given_back-fits : {V E : Type 0} (core : Core V E) (number : ℕ) (local : Local V E)
    → core.locals number ≡ Some local → CoreFits core
    → CoreFits (with_id_given core number local.id)
given_back-fits core number local at h =
    let held = core.manager.held in
    let same = ids.length-without held local.id in
    record {
      manager = given-ManagerFits core.manager core.capacity local.id h.manager;
      table = peak-TableFits core.table core.capacity (length held) (length (without held local.id)) (omega arith) h.table;
      locals = locals_removed core.table (without held local.id) core.capacity core.locals core.taken number
          (λ n other apart e.
          let live = h.locals.each n other e in
          let differ : local.id ≡ other.id → ⊥ = λ same. apart (h.locals.unshared number n local other at e same) in
          record {
            local_fits = live.local_fits;
            learnt = live.learnt;
            id_held =
                ids.is_held-without held local.id other.id
                ∙ ap (λ b. cond b false (is_held held other.id)) (ne_eqb local.id other.id differ)
                ∙ live.id_held;
            known = live.known;
          })
          h.locals.unshared
          h.locals.none_from;
      walks = h.walks;
      numbers = removed-NumbersFit core.table core.locals number h.numbers;
    }

forgotten-fits : {V E : Type 0} (core : Core V E) (number : ℕ) → CoreFits core → CoreFits (without_local core number)
forgotten-fits core number h = record {
  manager = h.manager;
  table = h.table;
  locals =
      locals_removed core.table core.manager.held core.capacity core.locals core.taken number
      (λ n other apart e. h.locals.each n other e) h.locals.unshared h.locals.none_from;
  walks = h.walks;
  numbers = removed-NumbersFit core.table core.locals number h.numbers;
}

give_back-fits : {V E : Type 0} (core : Core V E) (number : ℕ) → CoreFits core → IfSome (give_back core number) CoreFits
give_back-fits core number h =
    if_then CoreFits _ (core.locals number) (λ local at.
    if_enabled CoreFits (is_idle local.doing) (with_id_given core number local.id) (given_back-fits core number local at h))

forget-fits : {V E : Type 0} (core : Core V E) (number : ℕ) → CoreFits core → IfSome (forget core number) CoreFits
forget-fits core number h =
    if_then CoreFits _ (core.locals number) (λ local at.
    if_enabled CoreFits (is_idle local.doing) (without_local core number)
    (forgotten-fits core number h))

-- a walk that begins, that makes a step, or that ends
begin_walk-fits : {V E : Type 0} (core : Core V E) → CoreFits core → IfSome (begin_walk core) CoreFits
begin_walk-fits core h = record {
  manager = h.manager;
  table = h.table;
  locals = h.locals;
  walks =
      walks_put core.table core.walks core.walked (suc core.walked) core.walked (Some (begun_walk core.table))
      (omega arith) (omega arith) (begun_walk-fits core.table h.table.announced) h.walks;
  numbers = h.numbers;
}

of_walk-fits : {V E : Type 0} (core : Core V E) (number : ℕ) (step : WalkStep) → CoreFits core
    → IfSome (of_walk core number step) CoreFits
of_walk-fits core number step h =
    if_then CoreFits _ (core.walks number) (λ walk at.
    if_mapped CoreFits (with_walk core number) (walk_step core.table walk step)
    (walk_step-fits core.table walk step (h.walks.each number walk at))
    (λ after fits. record {
      manager = h.manager;
      table = h.table;
      locals = h.locals;
      walks =
          walks_put core.table core.walks core.walked core.walked number (Some after) (omega arith)
          (came_before core.table core.walks core.walked number walk h.walks at) fits h.walks;
      numbers = h.numbers;
    }))

walk_ended-fits : {V E : Type 0} (core : Core V E) (number : ℕ) (walk : SharedWalk V)
    → core.walks number ≡ Some walk → CoreFits core
    → CoreFits (without_walk core number)
walk_ended-fits core number walk at h = record {
  manager = h.manager;
  table = h.table;
  locals = h.locals;
  walks =
      walks_put core.table core.walks core.walked core.walked number None (omega arith)
      (came_before core.table core.walks core.walked number walk h.walks at) tt h.walks;
  numbers = h.numbers;
}

after_owner-fits : {V E : Type 0} (core : Core V E) (call : OwnerCall V) → is_alone core ≡ true
    → CoreFits core
    → CoreFits (after_owner core call)
after_owner-fits core (RewriteTable others) e h = rewritten-fits core others e h
after_owner-fits core Slots e h = h
after_owner-fits core DrainTable e h = drained-fits core e h
after_owner-fits core ClearTable e h = cleared-fits core e h
after_owner-fits core IntoIter e h = record {
  manager = h.manager;
  table = h.table;
  locals = h.locals;
  walks = h.walks;
  numbers = h.numbers;
}
after_owner-fits core DropTable e h = record {
  manager = h.manager;
  table = h.table;
  locals = h.locals;
  walks = h.walks;
  numbers = h.numbers;
}

take-fits : {V E : Type 0} (core : Core V E) (refused : Bool) (growth : ℕ) → CoreFits core
    → CoreFits (cond (is_granted core.manager refused) (take_id core growth) core)
take-fits core refused growth h =
    cond_both {A = Core _ _} (is_granted core.manager refused) (take_id core growth) core CoreFits
    (λ t. take_id-fits core growth (granted_some core.manager refused t) h)
    (λ _. h)

step_of-fits : {V E : Type 0} (core : Core V E) (event : Event V E) → CoreFits core → IfSome (step_of core event) CoreFits
step_of-fits core (TakeId refused growth) h = take-fits core refused growth h
step_of-fits core (OfLocal number step) h = of_local-fits core number step h
step_of-fits core (GiveBack number) h = give_back-fits core number h
step_of-fits core (Forget number) h = forget-fits core number h
step_of-fits core BeginWalk h = begin_walk-fits core h
step_of-fits core (OfWalk number step) h = of_walk-fits core number step h
step_of-fits core (EndWalk number) h = if_there CoreFits _ (core.walks number) (λ walk at. walk_ended-fits core number walk at h)
step_of-fits core (Owner call) h =
    cond_both {A = Option (Core _ _)} (is_alone core) (Some (after_owner core call)) None
    (λ o. IfSome o CoreFits) (λ e. after_owner-fits core call e h) (λ _. tt)

-- every event keeps the invariant
pub happens-fits : {V E : Type 0} (core : Core V E) (event : Event V E) → CoreFits core → CoreFits (happens core event)
unfolding happens step
happens-fits core event h =
    cond_both {A = Option (Core _ _)} core.ended None (step_of core event) (λ o. CoreFits (unwrap_or o core))
    (λ _. h)
    (λ _. unwrapped CoreFits (step_of core event) core (step_of-fits core event h) h)

-- every schedule keeps the invariant
pub run-fits : {V E : Type 0} (core : Core V E) (events : List (Event V E)) → CoreFits core → CoreFits (run core events)
unfolding run
run-fits core [] h = h
run-fits core (event ∷ events) h = run-fits (happens core event) events (happens-fits core event h)
