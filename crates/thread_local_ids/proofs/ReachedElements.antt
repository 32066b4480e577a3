-- How many ids of a table were held at once, by a page of it: a later page has no lower peak.
-- Assumes `Logic`.
use Rattle.std.proofs.Common.{ℕ, ◌+◌, ◌≤◌, Bool, true, false, List, [], ◌∷◌, length, sym, subst, arith}
use mathlib.Core.List.{IsPrefix}
use mathlib.Core.Logic.{◌∨₁◌, ∥∥₁_elim, inl, inr}
use seplogic.Bi.Basic.{Entails-prop}
use seplogic.Ra.Ura.{Ura}
use base.Logic.{SProp, ex, guard, emp, id⊢}
use base.Fml.{ftrue}
use base.Shift.{Keyless}
use types.Logic.{Logic}
use types.Kit.{‵, ◌⊛◌, ◌$◌, ◌∵◌, !, qed, by, show, move, keep, drop, split, fsplit, fjoin, fpick, fpack, check, given, learn, use1, use2, done}
use denote.Steps.{nothing}
use Rattle.thread_local_base.specs.Held.{least, with_least}
use Rattle.thread_local_base.specs.IdMoves.{IdMove, Take, held_after, noted}
use Rattle.thread_local_base.proofs.IdMoveLaws.{after_take, peak_grows}
use Rattle.thread_local_ids.specs.Rights.{page_owns, page_if, reached_by, reached_owns, taken_id}
use Rattle.thread_local_ids.proofs.Logs.{O}
use Rattle.thread_local_ids.proofs.MoveElements.{page_twice, page_keyless, in_line}
use Rattle.thread_local_base.proofs.Signs.{signs}

taken_in : (held : List Bool) → least held + 1 ≤ length (with_least held)
taken_in [] = omega arith
taken_in (false ∷ held) = omega arith
taken_in (true ∷ held) = omega (arith, taken_in held)

-- once the least id is taken, the peak is above it
pub taken_reached : (before : List IdMove) → taken_id before + 1 ≤ length (held_after (noted before Take))
taken_reached before =
    subst (λ (held : List Bool). taken_id before + 1 ≤ length held) (sym (after_take before)) (taken_in (held_after before))

page_if_keyless : (table : ℕ) (moves : List IdMove) → Keyless (page_if table moves)
page_if_keyless table [] = tt
page_if_keyless table (move ∷ moves) = page_keyless table (move ∷ moves)

pub reached_keyless : (table n : ℕ) → Keyless (reached_owns table n)
unfolding reached_owns
reached_keyless table n = λ moves. ((λ _. tt), page_if_keyless table moves)

module _ {M : Type 1} {𝓤 : Ura M} (𝓛 : Logic 𝓤) where
  open signs 𝓛 use {⟦◌⟧, ◌⊢◌, ◌∗◌}

  infix 26 ◌⊢◌
  infixr 35 ◌∗◌
  shown_if : (table : ℕ) (moves : List IdMove) → ⟦ page_owns table moves ⟧ ⊢ ⟦ page_if table moves ⟧
  shown_if table [] = qed 𝓛 (‵ (page_owns table []) ∷ []) ∵ drop ! $ nothing ! $ done !
  shown_if table (move ∷ moves) = id⊢ 𝓤 _

  twice_if : (table : ℕ) (moves : List IdMove)
      → ⟦ page_if table moves ⟧ ⊢ ⟦ page_if table moves ⟧ ∗ ⟦ page_if table moves ⟧
  twice_if table [] = qed 𝓛 (‵ ftrue ∷ []) ∵ nothing ! $ done !
  twice_if table (move ∷ moves) = page_twice 𝓛 table (move ∷ moves)

  -- a page shows how many ids were held at once
  pub shows_reached : (table n : ℕ) (moves : List IdMove) → n ≤ length (held_after moves)
      → ⟦ page_owns table moves ⟧ ⊢ ⟦ reached_owns table n ⟧
  unfolding reached_owns
  shows_reached table n moves so =
      qed 𝓛 (‵ (page_owns table moves) ∷ []) ∵ use1 𝓛 (‵ (page_if table moves)) (shown_if table moves) $ nothing ! $
      fpack ! (n ≤ length (held_after moves)) (λ _. ftrue) so $ fjoin ! $
      fpack ! (List IdMove) (reached_by table n) moves $ done !

  -- of every table, that no id was held
  pub reached_none : (table : ℕ) → emp 𝓤 ⊢ ⟦ reached_owns table 0 ⟧
  unfolding reached_owns
  reached_none table =
      let least_peak : 0 ≤ length (held_after []) = omega arith in
      qed 𝓛 [] ∵ nothing ! $ nothing ! $ fpack ! (0 ≤ length (held_after [])) (λ _. ftrue) least_peak $ fjoin ! $
      fpack ! (List IdMove) (reached_by table 0) [] $ done !

  pub reached_less : (table n m : ℕ) → m ≤ n → ⟦ reached_owns table n ⟧ ⊢ ⟦ reached_owns table m ⟧
  unfolding reached_owns
  reached_less table n m less =
      qed 𝓛 (‵ (reached_owns table n) ∷ []) ∵ fpick ! (λ moves. fsplit ! $ fpick ! (λ so. drop ! $
      let fewer : m ≤ length (held_after moves) = omega (arith, less, so) in
      nothing ! $ fpack ! (m ≤ length (held_after moves)) (λ _. ftrue) fewer $ fjoin ! $
      fpack ! (List IdMove) (reached_by table m) moves $ done !))

  pub reached_twice : (table n : ℕ) → ⟦ reached_owns table n ⟧ ⊢ ⟦ reached_owns table n ⟧ ∗ ⟦ reached_owns table n ⟧
  unfolding reached_owns
  reached_twice table n =
      qed 𝓛 (‵ (reached_owns table n) ∷ []) ∵ fpick ! (λ moves. fsplit ! $ fpick ! (λ so. drop ! $
      use1 𝓛 (‵ (page_if table moves) ⊛ ‵ (page_if table moves)) (twice_if table moves) $ split ! $ nothing ! $
      fpack ! (n ≤ length (held_after moves)) (λ _. ftrue) so $ fjoin ! $
      fpack ! (List IdMove) (reached_by table n) moves $ move ! (1 ∷ []) $ nothing ! $
      fpack ! (n ≤ length (held_after moves)) (λ _. ftrue) so $ fjoin ! $
      fpack ! (List IdMove) (reached_by table n) moves $ done !))

  -- what a page shows that extends another one, and by which so many were held at once
  unfoldable Shows : ℕ → ℕ → List IdMove → SProp 𝓤
  Shows table n early =
      ex 𝓤 (λ (moves : List IdMove). guard 𝓤 ((n ≤ length (held_after moves)) × IsPrefix early moves) ⟦ page_owns table moves ⟧)

  -- of two pages the later one
  later_of : (table n : ℕ) (early seen : List IdMove) → n ≤ length (held_after seen) → IsPrefix seen early ∨₁ IsPrefix early seen
      → ⟦ page_owns table seen ⟧ ∗ ⟦ page_owns table early ⟧ ⊢ Shows table n early
  unfolding Shows
  later_of table n early seen so line =
      ∥∥₁_elim line (Entails-prop 𝓤.op _ _) (λ which.
      elim which [
        | inl before ↦ (let grows = peak_grows seen early before in
            let enough : n ≤ length (held_after early) = omega (arith, so, grows) in
            qed 𝓛 (‵ (page_owns table seen) ∷ ‵ (page_owns table early) ∷ []) ∵ drop ! $
            show ! (λ (m : List IdMove). guard 𝓤 ((n ≤ length (held_after m)) × IsPrefix early m) ⟦ page_owns table m ⟧) early $
            check ! (enough, O.same early) $ done !)
        | inr after ↦
            (qed 𝓛 (‵ (page_owns table seen) ∷ ‵ (page_owns table early) ∷ []) ∵ keep ! (0 ∷ []) $
            show ! (λ (m : List IdMove). guard 𝓤 ((n ≤ length (held_after m)) × IsPrefix early m) ⟦ page_owns table m ⟧) seen $
            check ! (so, after) $ done !)
      ])

  page_at : (table n : ℕ) (early seen : List IdMove) → n ≤ length (held_after seen)
      → ⟦ page_if table seen ⟧ ∗ ⟦ page_owns table early ⟧ ⊢ Shows table n early
  unfolding Shows
  page_at table n early [] so =
      let enough : n ≤ length (held_after early) = omega (arith, so) in
      qed 𝓛 (‵ ftrue ∷ ‵ (page_owns table early) ∷ []) ∵ drop ! $
      show ! (λ (m : List IdMove). guard 𝓤 ((n ≤ length (held_after m)) × IsPrefix early m) ⟦ page_owns table m ⟧) early $
      check ! (enough, O.same early) $ done !
  page_at table n early (move ∷ moves) so =
      let seen : List IdMove = move ∷ moves in
      qed 𝓛 (‵ (page_owns table seen) ∷ ‵ (page_owns table early) ∷ []) ∵
      use2 𝓛 (given (IsPrefix seen early ∨₁ IsPrefix early seen) (‵ (page_owns table seen) ⊛ ‵ (page_owns table early)))
      (in_line 𝓛 table seen early) $
      learn ! (λ line. split ! $ by ! (later_of table n early seen so line))

  -- the page by which so many were held at once, which extends a page at hand
  pub reached_page : (table n : ℕ) (early : List IdMove)
      → ⟦ reached_owns table n ⟧ ∗ ⟦ page_owns table early ⟧
      ⊢ ex 𝓤 (λ (moves : List IdMove). guard 𝓤 ((n ≤ length (held_after moves)) × IsPrefix early moves) ⟦ page_owns table moves ⟧)
  unfolding reached_owns Shows
  reached_page table n early =
      qed 𝓛 (‵ (reached_owns table n) ∷ ‵ (page_owns table early) ∷ []) ∵ fpick ! (λ seen. fsplit ! $ fpick ! (λ so. drop ! $
      by ! (page_at table n early seen so)))
