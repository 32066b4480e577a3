-- What every event changes: the sheet by its move, and no other Local, value or bucket than it may.
use Rattle.std.proofs.Common.{◌≡◌, ℕ, suc, max, Bool, true, false, not, ◌&&◌, cond, [], length, Option, Some, None}
use Rattle.std.proofs.Common.{is_some, IsTrue, IfSome, refl, ap, sym, ◌∙◌, arith, ⊎_elim}
use Rattle.std.specs.Prelude.{option_map, unwrap_or}
use Rattle.std.proofs.lemmas.Option.{none-some}
use Rattle.std.proofs.lemmas.Bool.{cond_both, false≢true, eqb-false}
use Rattle.thread_local_base.specs.Held.{held_count, without, is_granted}
use Rattle.thread_local_schedule.specs.TableMoves.{moved_by_if, IsMoveAllowed}
use Rattle.thread_local_base.specs.Capacity.{reserves_bucket}
use Rattle.thread_local_schedule.specs.Table.{Table, published}
use Rattle.thread_local_schedule.specs.Local.{Local, LocalStep, local_step}
use Rattle.thread_local_schedule.specs.SharedWalk.{begun_walk, WalkStep, walk_step}
use Rattle.thread_local_schedule.specs.OwnerWalk.{rewritten}
use Rattle.thread_local_schedule.specs.Fits.{StepFits, value_set, number_at}
use Rattle.thread_local_schedule.proofs.TableLaws.{same_function, numbered_stands}
use Rattle.thread_local_schedule.proofs.LocalLaws.{local_step-fits}
use Rattle.thread_local_schedule.proofs.OwnerLaws.{published-rewritten, number_at-rewritten}
use Rattle.thread_local_schedule.proofs.ClearedLaws.{none_cleared, number_at-cleared, none_drained, number_at-drained}
use Rattle.thread_local_schedule.specs.Core.{Core, shadow, is_alone}
use Rattle.thread_local_schedule.specs.Events.{Event, TakeId, OfLocal, GiveBack, Forget, BeginWalk, OfWalk, EndWalk}
use Rattle.thread_local_schedule.specs.Events.{Owner, OwnerCall, RewriteTable, Slots, DrainTable, ClearTable, IntoIter, DropTable}
use Rattle.thread_local_schedule.specs.Events.{take_id, with_step, of_local, is_idle, without_local, with_id_given}
use Rattle.thread_local_schedule.specs.Events.{give_back, forget, with_walk, of_walk, without_walk, after_owner}
use Rattle.thread_local_schedule.specs.Events.{step_of, step, is_enabled, happens}
use Rattle.thread_local_schedule.specs.Schedule.{move_of, is_take, refuses, is_exclusive, is_clear, is_of}
use Rattle.thread_local_schedule.proofs.HeldCounts.{peak_counts, held_count-le}
use Rattle.thread_local_schedule.specs.CoreFits.{CoreFits}
use Rattle.thread_local_schedule.proofs.PutLaws.{put_cases, still, put_other}
use Rattle.thread_local_schedule.proofs.InvariantParts.{kept_value, no_locals}
use Rattle.thread_local_schedule.proofs.CoreLaws.{published_moves, publishing_allowed}
use Rattle.thread_local_schedule.proofs.OptionLaws.{if_enabled, if_mapped, if_there, if_then}
use Rattle.thread_local_base.proofs.HeldLaws as ids

-- what every event says of the core after it, whether it is enabled or not
pub record Says {V E : Type 0} (core : Core V E) (event : Event V E) (enabled : Bool) (after : Core V E) : Type 0 where
  pub moves : shadow after ≡ moved_by_if (shadow core) (cond enabled (move_of core event) None)
  pub allowed : IfSome (cond enabled (move_of core event) None) (IsMoveAllowed (shadow core))
  pub stays : is_exclusive event ≡ false → (id : ℕ) (v : V) → published core.table id ≡ Some v
      → published after.table id ≡ Some v
  pub names : is_clear event ≡ false → (bucket k : ℕ) → number_at core.table bucket ≡ Some k
      → number_at after.table bucket ≡ Some k
  pub reserved_stays : (bucket : ℕ) → IsTrue (reserves_bucket core.capacity bucket) → (k : ℕ)
      → number_at core.table bucket ≡ Some k
      → number_at after.table bucket ≡ Some k
  pub comes : (n : ℕ) (local : Local V E) → core.locals n ≡ None → after.locals n ≡ Some local
      → IsTrue enabled × IsTrue (is_take event) × IsTrue (not (refuses core event)) × (n ≡ core.taken)
  pub others : (n : ℕ) (local : Local V E) → is_of n event ≡ false → core.locals n ≡ Some local → after.locals n ≡ Some local
  pub peak : length after.manager.held
      ≡ cond (enabled && is_clear event) 0
      (max (length core.manager.held) (held_count after.manager.held))

-- the same of an enabled event
abbrev EventSays : {V E : Type 0} → Core V E → Event V E → Core V E → Type 0
EventSays core event after = Says core event true after

-- an event that leaves the ids, the table and all Locals but one, which may be gone
leaves : {V E : Type 0} (core : Core V E) (event : Event V E) (after : Core V E)
    → shadow after ≡ shadow core → move_of core event ≡ None → after.table ≡ core.table
    → after.manager ≡ core.manager → is_clear event ≡ false
    → ((n : ℕ) (then : Local V E) → after.locals n ≡ Some then → core.locals n ≡ Some then)
    → ((n : ℕ) (local : Local V E) → is_of n event ≡ false → core.locals n ≡ Some local
    → after.locals n ≡ Some local)
    → EventSays core event after
leaves core event after same none table manager clear locals others = record {
  moves = rw none same;
  allowed = rw none tt;
  stays = λ _ id v e. ap (λ t. published t id) table ∙ e;
  names = λ _ bucket k e. ap (λ t. number_at t bucket) table ∙ e;
  reserved_stays = λ bucket _ k e. ap (λ t. number_at t bucket) table ∙ e;
  comes = λ n local none at. absurd (none-some local (sym none ∙ locals n local at));
  others = others;
  peak = rw (clear, manager) (omega (arith, held_count-le core.manager.held));
}

-- a take
take_id-says : {V E : Type 0} (core : Core V E) (refused : Bool) (growth : ℕ) (granted : Bool)
    → is_granted core.manager refused ≡ granted → CoreFits core
    → EventSays core (TakeId refused growth) (cond granted (take_id core growth) core)
take_id-says core refused growth true e h = record {
  moves = rw e refl;
  allowed = rw e tt;
  stays = λ _ id v p. p;
  names = λ _ bucket k p. p;
  reserved_stays = λ bucket _ k p. p;
  comes = λ n local none at.
      ⊎_elim
      (λ here. (refl, refl, rw e refl, sym here.0))
      (λ apart. absurd (none-some local (sym none ∙ apart.1)))
      (put_cases core.locals core.taken _ n local at);
  others = λ n local _ at.
      put_other core.locals core.taken _ n (λ same.
      none-some local
      (sym (h.locals.none_from core.taken (omega arith)) ∙ ap core.locals same ∙ at))
      ∙ at;
  peak = peak_counts core.manager.held;
}
take_id-says core refused growth false e h =
    leaves core (TakeId refused growth) core refl (rw e refl) refl refl refl (λ n then p. p)
    (λ n local _ at. at)

-- a step of a Local
stepped-says : {V E : Type 0} (core : Core V E) (number : ℕ) (step : LocalStep V E)
    (local : Local V E) (after : Table V × Local V E)
    → core.locals number ≡ Some local
    → StepFits core.table local (value_set core.table local step) after → CoreFits core
    → EventSays core (OfLocal number step) (with_step core number after)
stepped-says core number step local after at s h =
    let set = value_set core.table local step in
    record {
      moves = rw at (published_moves core after.0 local.id set s.shown);
      allowed = rw at (publishing_allowed (shadow core) local.id set (h.locals.each number local at).id_held s.empty);
      stays = λ _ id v e. s.shown id ∙ kept_value (published core.table) local.id set id v s.empty e;
      names = λ _ bucket k e. (s.changes.standing bucket (numbered_stands core.table bucket k e)).1 ∙ e;
      reserved_stays = λ bucket _ k e. (s.changes.standing bucket (numbered_stands core.table bucket k e)).1 ∙ e;
      comes = λ n other none e.
          ⊎_elim
          (λ here. absurd (none-some local (sym none ∙ ap core.locals (sym here.0) ∙ at)))
          (λ apart. absurd (none-some other (sym none ∙ apart.1)))
          (put_cases core.locals number (Some after.1) n other e);
      others = λ n other f e. put_other core.locals number (Some after.1) n (eqb-false number n f) ∙ e;
      peak = omega (arith, held_count-le core.manager.held);
    }

of_local-says : {V E : Type 0} (core : Core V E) (number : ℕ) (step : LocalStep V E) → CoreFits core
    → IfSome (of_local core number step) (EventSays core (OfLocal number step))
of_local-says core number step h =
    if_then (EventSays core (OfLocal number step)) _ (core.locals number) (λ local at.
    if_mapped (EventSays core (OfLocal number step)) (with_step core number) (local_step core.table local step)
    (local_step-fits core.table local step h.table.written (h.locals.each number local at).local_fits)
    (λ after s. stepped-says core number step local after at s h))

-- a Local that gives its id back, or is forgotten
given_back-says : {V E : Type 0} (core : Core V E) (number : ℕ) (local : Local V E)
    → core.locals number ≡ Some local → CoreFits core
    → EventSays core (GiveBack number) (with_id_given core number local.id)
given_back-says core number local at h =
    let live = h.locals.each number local at in
    record {
      moves = rw at refl;
      allowed = rw at live.id_held;
      stays = λ _ id v e. e;
      names = λ _ bucket k e. e;
      reserved_stays = λ bucket _ k e. e;
      comes = λ n other none e. absurd (none-some other (sym none ∙ (still core.locals number n other e).1));
      others = λ n other f e. put_other core.locals number None n (eqb-false number n f) ∙ e;
      peak = omega (arith, ids.length-without core.manager.held local.id, held_count-le (without core.manager.held local.id));
    }

give_back-says : {V E : Type 0} (core : Core V E) (number : ℕ) → CoreFits core
    → IfSome (give_back core number) (EventSays core (GiveBack number))
give_back-says core number h =
    if_then (EventSays core (GiveBack number)) _ (core.locals number) (λ local at.
    if_enabled (EventSays core (GiveBack number)) (is_idle local.doing)
    (with_id_given core number local.id) (given_back-says core number local at h))

forget-says : {V E : Type 0} (core : Core V E) (number : ℕ) → IfSome (forget core number) (EventSays core (Forget number))
forget-says core number =
    if_then (EventSays core (Forget number)) _ (core.locals number) (λ local at.
    if_enabled (EventSays core (Forget number)) (is_idle local.doing) (without_local core number)
    (leaves core (Forget number) (without_local core number) refl refl refl refl refl (λ n then f. (still core.locals number n then f).1)
    (λ n other f e. put_other core.locals number None n (eqb-false number n f) ∙ e)))

-- a walk's events
of_walk-says : {V E : Type 0} (core : Core V E) (number : ℕ) (step : WalkStep) → CoreFits core
    → IfSome (of_walk core number step) (EventSays core (OfWalk number step))
of_walk-says core number step h =
    if_then (EventSays core (OfWalk number step)) _ (core.walks number) (λ walk at.
    if_there (EventSays core (OfWalk number step)) (with_walk core number) (walk_step core.table walk step)
    (λ after _.
    leaves core (OfWalk number step) (with_walk core number after) refl refl refl refl refl
    (λ n then f. f) (λ n local _ at. at)))

-- an owner's call, where there is no Local
after_owner-says : {V E : Type 0} (core : Core V E) (call : OwnerCall V) → is_alone core ≡ true
    → CoreFits core
    → EventSays core (Owner call) (after_owner core call)
after_owner-says core (RewriteTable others) e h = record {
  moves = ap (λ values. record (shadow core) { values = values })
      (same_function (published (rewritten core.table others))
      (λ id. option_map (others id) (published core.table id))
      (published-rewritten core.table others));
  allowed = tt;
  stays = λ ex. absurd (false≢true (sym ex));
  names = λ _ bucket k p. number_at-rewritten core.table others bucket ∙ p;
  reserved_stays = λ bucket _ k p. number_at-rewritten core.table others bucket ∙ p;
  comes = λ n local none at. absurd (none-some local (sym none ∙ at));
  others = λ n local _ at. absurd (none-some local (sym (no_locals core h e n) ∙ at));
  peak = omega (arith, held_count-le core.manager.held);
}
after_owner-says core Slots e h = leaves core (Owner Slots) core refl refl refl refl refl (λ n then f. f) (λ n local _ at. at)
after_owner-says core DrainTable e h = record {
  moves = ap (λ values. record (shadow core) { values = values }) (none_drained core.table);
  allowed = tt;
  stays = λ ex. absurd (false≢true (sym ex));
  names = λ _ bucket k p. number_at-drained core.table bucket ∙ p;
  reserved_stays = λ bucket _ k p. number_at-drained core.table bucket ∙ p;
  comes = λ n local none at. absurd (none-some local (sym none ∙ at));
  others = λ n local _ at. absurd (none-some local (sym (no_locals core h e n) ∙ at));
  peak = omega (arith, held_count-le core.manager.held);
}
after_owner-says core ClearTable e h = record {
  moves = ap (λ values. record { held = []; values = values; capacity = core.capacity }) (none_cleared core.table core.capacity);
  allowed = tt;
  stays = λ ex. absurd (false≢true (sym ex));
  names = λ ex. absurd (false≢true (sym ex));
  reserved_stays = λ bucket reserved k p. number_at-cleared core.table core.capacity bucket reserved ∙ p;
  comes = λ n local none at. absurd (none-some local (sym none ∙ at));
  others = λ n local _ at. absurd (none-some local (sym (no_locals core h e n) ∙ at));
  peak = refl;
}
after_owner-says core IntoIter e h =
    leaves core (Owner IntoIter) (record core { ended = true }) refl refl refl refl refl
    (λ n then f. f) (λ n local _ at. at)
after_owner-says core DropTable e h =
    leaves core (Owner DropTable) (record core { ended = true }) refl refl refl refl refl
    (λ n then f. f) (λ n local _ at. at)

step_of-says : {V E : Type 0} (core : Core V E) (event : Event V E) → CoreFits core → IfSome (step_of core event) (EventSays core event)
step_of-says core (TakeId refused growth) h = take_id-says core refused growth (is_granted core.manager refused) refl h
step_of-says core (OfLocal number step) h = of_local-says core number step h
step_of-says core (GiveBack number) h = give_back-says core number h
step_of-says core (Forget number) h = forget-says core number
step_of-says core BeginWalk h =
    leaves core BeginWalk
    (record (with_walk core core.walked (begun_walk core.table)) { walked = suc core.walked }) refl refl refl
    refl refl (λ n then f. f) (λ n local _ at. at)
step_of-says core (OfWalk number step) h = of_walk-says core number step h
step_of-says core (EndWalk number) h =
    if_there (EventSays core (EndWalk number)) _ (core.walks number) (λ walk at.
    leaves core (EndWalk number) (without_walk core number) refl refl refl refl refl (λ n then f. f) (λ n local _ at. at))
step_of-says core (Owner call) h =
    cond_both {A = Option (Core _ _)} (is_alone core) (Some (after_owner core call)) None
    (λ o. IfSome o (EventSays core (Owner call))) (λ e. after_owner-says core call e h) (λ _. tt)

says_of : {V E : Type 0} (core : Core V E) (event : Event V E) (o : Option (Core V E))
    → IfSome o (EventSays core event)
    → Says core event (is_some o) (unwrap_or o core)
says_of core event None s = record {
  moves = refl;
  allowed = tt;
  stays = λ _ id v p. p;
  names = λ _ bucket k p. p;
  reserved_stays = λ bucket _ k p. p;
  comes = λ n local none at. absurd (none-some local (sym none ∙ at));
  others = λ n local _ at. at;
  peak = omega (arith, held_count-le core.manager.held);
}
says_of core event (Some after) s = s

pub event_says : {V E : Type 0} (core : Core V E) (event : Event V E) → CoreFits core
    → Says core event (is_enabled core event) (happens core event)
unfolding is_enabled happens step
event_says core event h =
    cond_both {A = Option (Core _ _)} core.ended None (step_of core event) (λ o. Says core event (is_some o) (unwrap_or o core))
    (λ _. says_of core event None tt)
    (λ _. says_of core event (step_of core event) (step_of-says core event h))
