-- Which notes are out once an id is taken or given back.
use Rattle.std.proofs.Common.{◌≡◌, ℕ, ◌-◌, ◌^◌, ◌<◌, ◌==◌, ◌||◌, Bool, true, false, List, [], ◌∷◌, if◌then◌else◌}
use Rattle.std.proofs.Common.{refl, sym, ap, ◌∙◌, arith, Option, None, Some, is_some, ⊎_elim}
use Rattle.std.proofs.lemmas.Bool.{eqb-true, eq-eqb, ne_eqb, cases_eq}
use base.Stored.{Gv}
use Rattle.thread_local_base.specs.Held.{is_held}
use Rattle.thread_local_base.specs.IdMoves.{IdMove, Take, Give, Publish, held_after, noted, published_in, or_else}
use Rattle.thread_local_base.proofs.HeldLaws.{is_held-with_least, is_held-without}
use Rattle.thread_local_base.proofs.IdMoveLaws.{held_apart, after_take, after_give, published_apart, published_stays}
use mathlib.Core.List.{IsPrefix}
use Rattle.thread_local_ids.specs.FirstIds.{AreOutOf}
use Rattle.thread_local_ids.proofs.Logs.{O}
use Rattle.thread_local_ids.specs.Rights.{is_out, less, note_key, AreNotedOut, taken_id}
use Rattle.thread_local_ids.proofs.RightElements.{is_out-less}
use Rattle.thread_local_ids.proofs.NoteElements.{publishing, publishing_by, noted_out, noted_back}

or_true : (b : Bool) → (b || true) ≡ true
or_true true = refl
or_true false = refl

same_key : (id j : ℕ) → (note_key id == note_key j) ≡ (id == j)
same_key id j =
    ⊎_elim
    (λ (same : id ≡ j). eq-eqb (note_key id) (note_key j) (omega (arith, same)) ∙ sym (eq-eqb id j same))
    (λ apart. ne_eqb (note_key id) (note_key j) (λ e. apart (omega (arith, e))) ∙ sym (ne_eqb id j apart))
    (cases_eq id j)

-- the right to an id is no note
pub beside_notes : (out : List ℕ) (id j : ℕ) → id < 2 ^ 63 - 1 → is_out (id ∷ out) (note_key j) ≡ is_out out (note_key j)
beside_notes out id j low = rw (ne_eqb id (note_key j) (λ e. absurd (omega (arith, e, low)))) refl

less_beside : (out : List ℕ) (id j : ℕ) → id < 2 ^ 63 - 1 → is_out (less out id) (note_key j) ≡ is_out out (note_key j)
less_beside out id j low =
    is_out-less out id (note_key j) ∙ rw (ne_eqb id (note_key j) (λ e. absurd (omega (arith, e, low)))) refl

-- what the history says of an id once another one was taken or given back
says_taken : (moves : List IdMove) (id j : ℕ) → id ≡ taken_id moves
    → (is_held (held_after (noted moves Take)) j || is_some (published_in (noted moves Take) j))
    ≡ ((if id == j then true else is_held (held_after moves) j) || is_some (published_in moves j))
says_taken moves id j is =
    let held : is_held (held_after (noted moves Take)) j ≡ (if id == j then true else is_held (held_after moves) j) =
    ap (λ h. is_held h j) (after_take moves) ∙ is_held-with_least (held_after moves) j
    ∙ ap (λ (k : ℕ). if k == j then true else is_held (held_after moves) j) (sym is) in
    let told : published_in (noted moves Take) j ≡ published_in moves j =
    published_apart moves (Take ∷ []) j ∙ published_stays (published_in moves j) in
    ap (λ (b : Bool). b || is_some (published_in (noted moves Take) j)) held
    ∙ ap (λ (v : Option Gv). (if id == j then true else is_held (held_after moves) j) || is_some v) told

pub noted_taken : (out : List ℕ) (moves : List IdMove) (id : ℕ) (v : Option Gv) → AreNotedOut out moves → id ≡ taken_id moves
    → id < 2 ^ 63 - 1 → published_in moves id ≡ v
    → AreNotedOut (noted_out v id (id ∷ out)) (noted moves Take)
noted_taken out moves id None are is low e j inside =
    ap (λ (t : Bool). if t then true else is_out (id ∷ out) (note_key j)) (same_key id j)
    ∙ at (id == j) (beside_notes out id j low ∙ are j inside) ∙ sym (says_taken moves id j is)
  where
    at : (t : Bool) → is_out (id ∷ out) (note_key j) ≡ (is_held (held_after moves) j || is_some (published_in moves j))
        → (if t then true else is_out (id ∷ out) (note_key j))
        ≡ ((if t then true else is_held (held_after moves) j) || is_some (published_in moves j))
    at true e = refl
    at false e = e
noted_taken out moves id (Some g) are is low e j inside =
    beside_notes out id j low ∙ are j inside
    ∙ at (id == j) refl ∙ sym (says_taken moves id j is)
  where
    at : (t : Bool) → (id == j) ≡ t
        → (is_held (held_after moves) j || is_some (published_in moves j))
        ≡ ((if t then true else is_held (held_after moves) j) || is_some (published_in moves j))
    at true same =
        let there : is_some (published_in moves j) ≡ true =
        ap (λ (k : ℕ). is_some (published_in moves k)) (sym (eqb-true id j same)) ∙ ap is_some e in
        ap (λ (b : Bool). is_held (held_after moves) j || b) there ∙ or_true (is_held (held_after moves) j)
    at false same = refl

-- a publishing changes no held id
pub held_publishing : (moves : List IdMove) (id : ℕ) (v : Option Gv) → held_after (publishing moves id v) ≡ held_after moves
held_publishing moves id None = refl
held_publishing moves id (Some g) = at (published_in moves id)
  where
    at : (p : Option Gv) → held_after (publishing_by moves id g p) ≡ held_after moves
    at None = held_apart [] moves (Publish id g ∷ [])
    at (Some h) = refl

pub published_publishing : (moves : List IdMove) (id j : ℕ) (v : Option Gv) → (id == j) ≡ false
    → published_in (publishing moves id v) j ≡ published_in moves j
published_publishing moves id j None other = refl
published_publishing moves id j (Some g) other = at (published_in moves id)
  where
    at : (p : Option Gv) → published_in (publishing_by moves id g p) j ≡ published_in moves j
    at None =
        published_apart moves (Publish id g ∷ []) j
        ∙ ap (λ (t : Bool). or_else (published_in moves j) (if t then Some g else None)) other
        ∙ published_stays (published_in moves j)
    at (Some h) = refl

says_given : (moves : List IdMove) (id j : ℕ) (v : Option Gv)
    → (is_held (held_after (noted (publishing moves id v) (Give id))) j || is_some (published_in (noted (publishing moves id v) (Give id)) j))
    ≡ ((if id == j then false else is_held (held_after moves) j) || is_some (published_in (publishing moves id v) j))
says_given moves id j v =
    let since : List IdMove = publishing moves id v in
    let held : is_held (held_after (noted since (Give id))) j ≡ (if id == j then false else is_held (held_after moves) j) =
    ap (λ h. is_held h j) (after_give since id) ∙ is_held-without (held_after since) id j
    ∙ ap (λ h. if id == j then false else is_held h j) (held_publishing moves id v) in
    let told : published_in (noted since (Give id)) j ≡ published_in since j =
    published_apart since (Give id ∷ []) j ∙ published_stays (published_in since j) in
    ap (λ (b : Bool). b || is_some (published_in (noted since (Give id)) j)) held
    ∙ ap (λ (w : Option Gv). (if id == j then false else is_held (held_after moves) j) || is_some w) told

pub noted_given : (out : List ℕ) (moves : List IdMove) (id : ℕ) (v : Option Gv) → AreNotedOut out moves → id < 2 ^ 63 - 1
    → is_held (held_after moves) id ≡ true → published_in (publishing moves id v) id ≡ v
    → AreNotedOut (noted_back v id (less out id)) (noted (publishing moves id v) (Give id))
noted_given out moves id None are low held e j inside =
    is_out-less (less out id) (note_key id) (note_key j)
    ∙ ap (λ (t : Bool). if t then false else is_out (less out id) (note_key j)) (same_key id j)
    ∙ at (id == j) refl (less_beside out id j low ∙ are j inside) ∙ sym (says_given moves id j None)
  where
    at : (t : Bool) → (id == j) ≡ t
        → is_out (less out id) (note_key j) ≡ (is_held (held_after moves) j || is_some (published_in moves j))
        → (if t then false else is_out (less out id) (note_key j))
        ≡ ((if t then false else is_held (held_after moves) j) || is_some (published_in moves j))
    at true same h =
        sym (ap (λ (k : ℕ). is_some (published_in moves k)) (sym (eqb-true id j same)) ∙ ap is_some e)
    at false same h = h
noted_given out moves id (Some g) are low held e j inside =
    less_beside out id j low ∙ are j inside ∙ at (id == j) refl ∙ sym (says_given moves id j (Some g))
  where
    at : (t : Bool) → (id == j) ≡ t
        → (is_held (held_after moves) j || is_some (published_in moves j))
        ≡ ((if t then false else is_held (held_after moves) j) || is_some (published_in (publishing moves id (Some g)) j))
    at true same =
        let here : id ≡ j = eqb-true id j same in
        ap (λ (k : ℕ). is_held (held_after moves) k || is_some (published_in moves k)) (sym here)
        ∙ ap (λ (b : Bool). b || is_some (published_in moves id)) held
        ∙ sym (ap (λ (k : ℕ). is_some (published_in (publishing moves id (Some g)) k)) (sym here) ∙ ap is_some e)
    at false same = ap (λ (w : Option Gv). is_held (held_after moves) j || is_some w) (sym (published_publishing moves id j (Some g) same))

-- the rights of ids are out as before
pub out_noted : (out : List ℕ) (held : List Bool) (id : ℕ) (v : Option Gv) → AreOutOf out held → AreOutOf (noted_out v id out) held
out_noted out held id None are j inside = rw (ne_eqb (note_key id) j (λ e. absurd (omega (arith, e, inside)))) (are j inside)
out_noted out held id (Some g) are j inside = are j inside

pub out_noted_back : (out : List ℕ) (held : List Bool) (id : ℕ) (v : Option Gv) → AreOutOf out held → AreOutOf (noted_back v id out) held
out_noted_back out held id None are j inside =
    is_out-less out (note_key id) j ∙ rw (ne_eqb (note_key id) j (λ e. absurd (omega (arith, e, inside)))) (are j inside)
out_noted_back out held id (Some g) are j inside = are j inside

pub early_publishing : (moves : List IdMove) (id : ℕ) (v : Option Gv) → IsPrefix moves (publishing moves id v)
early_publishing moves id None = O.same moves
early_publishing moves id (Some g) = at (published_in moves id)
  where
    at : (p : Option Gv) → IsPrefix moves (publishing_by moves id g p)
    at None = (Publish id g ∷ [], refl)
    at (Some h) = O.same moves

-- a return publishes nothing
pub left_stays : (since : List IdMove) (id : ℕ) → published_in (noted since (Give id)) id ≡ published_in since id
left_stays since id = published_apart since (Give id ∷ []) id ∙ published_stays (published_in since id)
