-- Held ids: the least free one, what taking and giving back change, and when a take is refused.
use Rattle.std.proofs.Common.{◌≡◌, ℕ, zero, suc, ◌+◌, ◌-◌, ◌^◌, ◌<◌, ◌≤◌, max, ap, ◌∙◌, Bool, true, false, not, ◌&&◌}
use Rattle.std.proofs.Common.{cond, List, [], ◌∷◌, length, refl, arith, eqb, IsTrue, ⊎_elim}
use Rattle.std.proofs.Math.Dec.{eqb-suc-suc}
use Rattle.std.proofs.lemmas.Bool.{ne_eqb, eq-eqb, eqb-true, eqb-false, cond_both, cases_lt, both_ways}
use Rattle.std.proofs.lemmas.Bool.Decides.{nat_tests}
use Rattle.std.proofs.lemmas.Grind.{common_steps}
use Rattle.thread_local_base.specs.Held.{is_held, least, with_least, without, held_count, HoldsAllBelow, Manager}
use Rattle.thread_local_base.specs.Held.{is_exhausted, is_full, is_granted, taken_from, given_to, Takes, Gives}
use Rattle.thread_local_base.specs.Held.{NeedsMemory, IsExhausted}

pub least_free : (held : List Bool) → is_held held (least held) ≡ false
least_free [] = refl
least_free (false ∷ held) = refl
least_free (true ∷ held) = least_free held

pub least_lower : (held : List Bool) → HoldsAllBelow (least held) held
least_lower [] id h = absurd (omega arith)
least_lower (false ∷ held) id h = absurd (omega arith)
least_lower (true ∷ held) zero h = refl
least_lower (true ∷ held) (suc id) h = least_lower held id (omega arith)

pub least_only : (held : List Bool) (id : ℕ) → is_held held id ≡ false → HoldsAllBelow id held → id ≡ least held
least_only [] zero free lower = refl
least_only [] (suc id) free lower = let first : false ≡ true = lower 0 (omega arith) in cc
least_only (false ∷ held) zero free lower = refl
least_only (false ∷ held) (suc id) free lower = let first : false ≡ true = lower 0 (omega arith) in cc
least_only (true ∷ held) zero free lower = cc
least_only (true ∷ held) (suc id) free lower = ap suc (least_only held id free (λ k h. lower (suc k) (omega arith)))

pub least_bounded : (held : List Bool) → least held ≤ length held
least_bounded [] = omega arith
least_bounded (false ∷ held) = omega arith
least_bounded (true ∷ held) = omega (arith, least_bounded held)

pub is_held-with_least : (held : List Bool) (id : ℕ)
    → is_held (with_least held) id ≡ cond (eqb (least held) id) true (is_held held id)
is_held-with_least [] zero = refl
is_held-with_least [] (suc id) = rw (ne_eqb 0 (suc id) (omega arith)) refl
is_held-with_least (false ∷ held) zero = refl
is_held-with_least (false ∷ held) (suc id) = rw (ne_eqb 0 (suc id) (omega arith)) refl
is_held-with_least (true ∷ held) zero = rw (ne_eqb (suc (least held)) 0 (omega arith)) refl
is_held-with_least (true ∷ held) (suc id) = rw (eqb-suc-suc (least held) id) (is_held-with_least held id)

pub length-with_least : (held : List Bool)
    → length (with_least held)
    ≡ cond (eqb (least held) (length held)) (length held + 1) (length held)
length-with_least [] = refl
length-with_least (false ∷ held) = rw (ne_eqb 0 (suc (length held)) (omega arith)) refl
length-with_least (true ∷ held) =
    let ih = length-with_least held in
    grind (arith, nat_tests)

pub held_count-with_least : (held : List Bool) → held_count (with_least held) ≡ held_count held + 1
held_count-with_least [] = refl
held_count-with_least (false ∷ held) = omega arith
held_count-with_least (true ∷ held) = omega (arith, held_count-with_least held)

pub is_held-without : (held : List Bool) (given id : ℕ)
    → is_held (without held given) id ≡ cond (eqb given id) false (is_held held id)
is_held-without [] zero zero = refl
is_held-without [] zero (suc id) = rw (ne_eqb 0 (suc id) (omega arith)) refl
is_held-without [] (suc given) zero = rw (ne_eqb (suc given) 0 (omega arith)) refl
is_held-without [] (suc given) (suc id) = cond_both (eqb (suc given) (suc id)) false false (λ b. false ≡ b) (λ _. refl) (λ _. refl)
is_held-without (h ∷ held) zero zero = refl
is_held-without (h ∷ held) zero (suc id) = rw (ne_eqb 0 (suc id) (omega arith)) refl
is_held-without (h ∷ held) (suc given) zero = rw (ne_eqb (suc given) 0 (omega arith)) refl
is_held-without (h ∷ held) (suc given) (suc id) = rw (eqb-suc-suc given id) (is_held-without held given id)

pub length-without : (held : List Bool) (given : ℕ) → length (without held given) ≡ length held
length-without held given = grind (arith, common_steps)

pub held_count-without : (held : List Bool) (given : ℕ) → IsTrue (is_held held given)
    → held_count (without held given) + 1 ≡ held_count held
held_count-without [] given h = cc
held_count-without (true ∷ held) zero h = omega arith
held_count-without (false ∷ held) zero h = cc
held_count-without (true ∷ held) (suc given) h = omega (arith, held_count-without held given h)
held_count-without (false ∷ held) (suc given) h = held_count-without held given h

-- managers with the same held ids and the same room are equal
same_manager : (a b : Manager) → a.held ≡ b.held → a.room ≡ b.room → a ≡ b
same_manager a b held room = ap (λ h. record { held = h; room = a.room }) held ∙ ap (λ r. record { held = b.held; room = r }) room

-- the least free id becomes held, where the room is large enough: an id is taken
pub takes : (old new : Manager) (id : ℕ) → id ≡ least old.held → id < 2 ^ 63 - 1 → new.held ≡ with_least old.held
    → old.room ≤ new.room → (id < old.room → new.room ≡ old.room) → new.room ≤ old.room + 64
    → length new.held ≤ new.room → new.room ≤ 2 ^ 63 - 1
    → Takes old new id
takes old new id first in_range held room stays few peak_in_room room_in_range = record {
  least = first;
  in_range = in_range;
  growth = new.room - max old.room (length (with_least old.held));
  taken = same_manager new (taken_from old (new.room - max old.room (length (with_least old.held)))) held (omega (arith, ap length held));
  held = held;
  at = λ other. rw (held, first) (is_held-with_least old.held other);
  peak = rw (held, first) (length-with_least old.held);
  room = room;
  stays = stays;
  few = few;
  peak_in_room = peak_in_room;
  room_in_range = room_in_range;
}

-- a held id becomes free: an id is given back
pub gives : (old new : Manager) (id : ℕ) → IsTrue (is_held old.held id) → new.held ≡ without old.held id → new.room ≡ old.room
    → length new.held ≤ new.room → new.room ≤ 2 ^ 63 - 1 → Gives old new id
gives old new id was_held held room peak_in_room room_in_range = record {
  was_held = was_held;
  given = same_manager new (given_to old id) held room;
  held = held;
  at = λ other. rw held (is_held-without old.held id other);
  peak = rw held (length-without old.held id);
  room = room;
  peak_in_room = peak_in_room;
  room_in_range = room_in_range;
}

-- where every id below a number is held, the least free id is no less
least_above : (held : List Bool) (n : ℕ) → HoldsAllBelow n held → n ≤ least held
least_above held n full =
    ⊎_elim
    (λ below. absurd (both_ways _ (least_free held) (full (least held) below)))
    (λ above. omega arith)
    (cases_lt (least held) n)

-- with memory, a take is refused where all ids are held; without it, also where the room is full
no_ids : (exhausted : Bool) → (not exhausted && true) ≡ false → exhausted ≡ true
no_ids true none = refl
no_ids false none = cc

no_memory : (exhausted full : Bool) → IsTrue (not exhausted && true)
    → (not exhausted && not full) ≡ false
    → (exhausted ≡ false) × (full ≡ true)
no_memory true full some none = cc
no_memory false true some none = (refl, refl)
no_memory false false some none = cc

-- the next id needs memory exactly where a take is granted with memory and refused without it
pub refused-needs : (manager : Manager) → length manager.held ≤ manager.room → manager.room ≤ 2 ^ 63 - 1
    → IsTrue (is_granted manager false) × (is_granted manager true ≡ false) → NeedsMemory manager
refused-needs manager within range refused =
    let parts = no_memory (is_exhausted manager) (is_full manager) refused.0 refused.1 in
    let low = least_bounded manager.held in
    let left = eqb-false (least manager.held) (2 ^ 63 - 1) parts.0 in
    let room = eqb-true (least manager.held) manager.room parts.1 in
    record { full = λ id below. least_lower manager.held id (omega arith); no_room = omega arith; in_range = omega arith }

pub needs-refused : (manager : Manager) → length manager.held ≤ manager.room → NeedsMemory manager
    → IsTrue (is_granted manager false) × (is_granted manager true ≡ false)
needs-refused manager within needs =
    let top : least manager.held ≡ length manager.held =
    omega (arith, least_bounded manager.held, least_above manager.held (length manager.held) needs.full) in
    let room : least manager.held ≡ manager.room = omega (arith, needs.no_room) in
    rw (
      ne_eqb (least manager.held) (2 ^ 63 - 1) (λ same. omega (arith, needs.in_range)),
      eq-eqb (least manager.held) manager.room room,
    )
    (refl, refl)

-- no id is left exactly where a take is refused even with memory
pub exhausted-refused : (manager : Manager) → IsExhausted manager → is_granted manager false ≡ false
exhausted-refused manager none =
    let top : least manager.held ≡ 2 ^ 63 - 1 =
    omega (arith, least_bounded manager.held, least_above manager.held (2 ^ 63 - 1) none.full, none.peak) in
    rw (eq-eqb (least manager.held) (2 ^ 63 - 1) top) refl

pub refused-exhausted : (manager : Manager) → length manager.held ≤ manager.room
    → manager.room ≤ 2 ^ 63 - 1 → is_granted manager false ≡ false
    → IsExhausted manager
refused-exhausted manager within range refused =
    let low = least_bounded manager.held in
    let top = eqb-true (least manager.held) (2 ^ 63 - 1) (no_ids (is_exhausted manager) refused) in
    record { full = λ id below. least_lower manager.held id (omega arith); peak = omega arith; room = omega arith }
