-- What the manager of the further ids and the history of a table say of each other.
use Rattle.std.proofs.Common.{◌≡◌, ◌≢◌, ℕ, ◌+◌, ◌-◌, ◌^◌, ◌<◌, ◌≤◌, ◌==◌, max, Bool, true, false, cond, eqb, List, [], ◌∷◌, length}
use Rattle.std.proofs.Common.{if◌then◌else◌, refl, sym, ap, subst, ◌∙◌, arith, ⊎_elim, IfOk}
use Rattle.std.specs.Prelude.{Result, Ok, Err, alloc_error}
use Rattle.std.proofs.lemmas.Bool.{eq-eqb, ne_eqb, cases_eq, cases_lt}
use mathlib.Core.List.{IsPrefix}
use Rattle.thread_local_base.specs.Held.{Manager, is_held, least, with_least, HoldsAllBelow, Takes}
use Rattle.thread_local_base.specs.IdMoves.{IdMove, Take, held_after, noted}
use Rattle.thread_local_base.proofs.HeldLaws.{least_free, least_only, least_lower, least_bounded, is_held-with_least, length-with_least}
use Rattle.thread_local_base.proofs.IdMoveLaws.{after_take}
use Rattle.thread_local_ids.specs.FirstIds.{IsSameBeyond, HasFurther}
use Rattle.thread_local_ids.specs.Filled.{IsFilled, TakesFurther}
use Rattle.thread_local_ids.proofs.Logs.{O}
use Rattle.thread_local_ids.specs.Taken.{IsTakenAfter, IsTake}
use Rattle.thread_local_ids.specs.declared.rights.held.HeldId.{HeldId}
use Rattle.thread_local_ids.specs.declared.rights.page.Page.{Page}
use Rattle.thread_local_base.specs.declared.manager.LocalError.{LocalError}

-- where every id below a number is held, the least that isn't is no less
least_over : (held : List Bool) (n : ℕ) → HoldsAllBelow n held → n ≤ least held
least_over held n full =
    ⊎_elim
    (λ (below : least held < n). let no : false ≡ true = sym (least_free held) ∙ full (least held) below in cc)
    (λ above. omega (arith, above))
    (cases_lt (least held) n)

-- a take where fewer ids than the first ones count as held
pub filled_grows : (old new : Manager) (id : ℕ) → IsFilled old.held → length old.held < 58 → Takes old new id
    → (length new.held ≡ length old.held + 1) × IsFilled new.held × IsSameBeyond old.held new.held
filled_grows old new id filled few taken =
    let all : HoldsAllBelow (length old.held) old.held = λ j below. filled j (omega (arith, below, few)) in
    let up : length old.held ≤ least old.held = least_over old.held (length old.held) all in
    let down : least old.held ≤ length old.held = least_bounded old.held in
    let is : id ≡ length old.held = taken.least ∙ omega (arith, up, down) in
    let grown : length new.held ≡ length old.held + 1 = taken.peak ∙ rw (eq-eqb id (length old.held) is) refl in (
      grown,
      λ j below.
          taken.at j
          ∙ ⊎_elim
          (λ (same : id ≡ j). rw (eq-eqb id j same) refl)
          (λ (apart : id ≢ j). rw (ne_eqb id j apart) (all j (omega (arith, apart, is, grown, below))))
          (cases_eq id j),
      λ j further. sym (taken.at j ∙ rw (ne_eqb id j (λ e. absurd (omega (arith, e, is, few, further)))) refl),
    )

-- a take where the first ids count as held
pub takes_further : (old mid new : Manager) (id : ℕ) → IsFilled mid.held → 58 ≤ length mid.held → IsSameBeyond old.held mid.held
    → Takes mid new id → TakesFurther old new id
takes_further old mid new id filled many same taken =
    let all : HoldsAllBelow 58 mid.held = λ j below. filled j (omega (arith, below, many)) in
    let high : 58 ≤ id = subst (λ (k : ℕ). 58 ≤ k) (sym taken.least) (least_over mid.held 58 all) in
    record {
      further = high;
      in_range = taken.in_range;
      free = same id high ∙ ap (is_held mid.held) taken.least ∙ least_free mid.held;
      lower = λ j far below. same j far ∙ lower_held mid.held j (omega (arith, below, taken.least));
      at = λ j far. taken.at j ∙ ap (λ (b : Bool). if id == j then true else b) (sym (same j far));
    }
  where
    lower_held : (held : List Bool) (j : ℕ) → j < least held → is_held held j ≡ true
    lower_held held j below = least_lower held j below

pub if_ok : {A E : Type 0} (r : Result A E) (P Q : A → Type 0) → ((x : A) → P x → Q x) → IfOk r P → IfOk r Q
if_ok (Ok x) P Q f p = f x p
if_ok (Err e) P Q f p = tt

error_of : {A E : Type 0} → E → Result A E → E
error_of d (Ok x) = d
error_of d (Err e) = e

-- a take extends the page
taken_early : (table : ℕ) (early later : List IdMove) (held : HeldId) → IsTakenAfter table early later held → IsPrefix early later
taken_early table early later held is =
    subst (λ (l : List IdMove). IsPrefix early l) (sym is.moves)
    (O.trans early held.right.before (noted held.right.before Take) is.since (Take ∷ [], refl))

-- what a take says, by the clauses of `SharedIds::take`
pub take_tells : (table : ℕ) (early later : Page) (result : Result HeldId LocalError) → IsTake table early later result
    → IfOk result (λ held. IsTakenAfter table early.moves later.moves held)
    × IsPrefix early.moves later.moves
    × (result ≡ Err (LocalError.Memory alloc_error) → HoldsAllBelow early.room (held_after later.moves))
    × (result ≡ Err LocalError.Exhausted → HoldsAllBelow (2 ^ 63 - 1) (held_after later.moves))
unfolding error_of
take_tells table early later (Ok held) is =
    (is, taken_early table early.moves later.moves held is, λ no. cc, λ no. cc)
take_tells table early later (Err error) is =
    (tt, is.since, λ same. is.memory (ap (error_of error) same), λ same. is.exhausted (ap (error_of error) same))

-- what the manager takes next is the least id, where all of the first ids are held
pub is_least : (log moves : List IdMove) (old new : Manager) (id : ℕ) → TakesFurther old new id
    → IsSameBeyond (held_after log) old.held → IsSameBeyond (held_after log) (held_after moves) → HoldsAllBelow 58 (held_after moves)
    → id ≡ least (held_after moves)
is_least log moves old new id taken with_manager with_moves full =
    least_only (held_after moves) id
    (sym (with_moves id taken.further) ∙ with_manager id taken.further ∙ taken.free)
    (λ j below. ⊎_elim
    (λ (near : j < 58). full j near)
    (λ far.
    let high : 58 ≤ j = omega (arith, far) in
    sym (with_moves j high) ∙ with_manager j high ∙ taken.lower j high below)
    (cases_lt j 58))

-- and a further id is left
pub has_further : (log : List IdMove) (old new : Manager) (id : ℕ) → TakesFurther old new id → IsSameBeyond (held_after log) old.held
    → HasFurther (held_after log)
has_further log old new id taken same =
    record { id = id; further = taken.further; in_range = taken.in_range; free = same id taken.further ∙ taken.free }

-- once it is taken, the two agree again
pub same_after : (log moves : List IdMove) (old new : Manager) (id : ℕ) → TakesFurther old new id
    → IsSameBeyond (held_after log) old.held → IsSameBeyond (held_after log) (held_after moves) → id ≡ least (held_after moves)
    → IsSameBeyond (held_after (noted moves Take)) new.held
same_after log moves old new id taken with_manager with_moves is j far =
    ap (λ (h : List Bool). is_held h j) (after_take moves)
    ∙ is_held-with_least (held_after moves) j
    ∙ ap (λ (k : ℕ). cond (eqb k j) true (is_held (held_after moves) j)) (sym is)
    ∙ ap (cond (eqb id j) true) (sym (with_moves j far) ∙ with_manager j far)
    ∙ sym (taken.at j far)

-- and so is the peak
pub peak_after : (moves : List IdMove) (id reached : ℕ) → 58 ≤ id → id ≡ least (held_after moves) → reached ≡ length (held_after moves) - 58
    → max reached (id - 57) ≡ length (held_after (noted moves Take)) - 58
peak_after moves id reached high is same =
    let held : List Bool = held_after moves in
    let bound : least held ≤ length held = least_bounded held in
    let now : length (held_after (noted moves Take)) ≡ length (with_least held) = ap (λ (h : List Bool). length h) (after_take moves) in
    ⊎_elim
    (λ (top : least held ≡ length held).
    let all : length (with_least held) ≡ length held + 1 = length-with_least held ∙ rw (eq-eqb (least held) (length held) top) refl in
    omega (arith, now, all, top, is, same, high))
    (λ (apart : least held ≢ length held).
    let all : length (with_least held) ≡ length held = length-with_least held ∙ rw (ne_eqb (least held) (length held) apart) refl in
    omega (arith, now, all, apart, bound, is, same, high))
    (cases_eq (least held) (length held))

-- where the manager has no further id, all of a number of ids are held
pub all_held : (n m : ℕ) (log moves : List IdMove) (old new : Manager) → IsSameBeyond (held_after log) old.held → IsSameBeyond old.held new.held
    → IsSameBeyond (held_after log) (held_after moves) → HoldsAllBelow 58 (held_after moves) → HoldsAllBelow m new.held → n ≤ max 58 m
    → HoldsAllBelow n (held_after moves)
all_held n m log moves old new with_old with_new with_moves full all few j below =
    ⊎_elim
    (λ (near : j < 58). full j near)
    (λ far.
    let high : 58 ≤ j = omega (arith, far) in
    sym (with_moves j high) ∙ with_old j high ∙ with_new j high ∙ all j (omega (arith, below, few)))
    (cases_lt j 58)

-- the moves of a log that a look took an id for
pub if_took : (t : Bool) (a b c : List IdMove) → a ≡ (if t then b else c) → t ≡ true → a ≡ b
if_took true a b c e is = e
if_took false a b c e is = cc
