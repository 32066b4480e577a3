-- Which ids moves leave held, and what they publish.
use Rattle.std.proofs.Common.{◌≡◌, ◌∙◌, ℕ, ◌+◌, ◌≤◌, ◌==◌, Bool, true, false, List, [], ◌∷◌, ◌++◌, length, if◌then◌else◌, Option, None, Some, refl, sym, ap, subst, arith}
use base.Stored.{Gv}
use mathlib.Core.List.{IsPrefix}
use Rattle.thread_local_base.proofs.HeldLaws.{length-with_least, length-without}
use Rattle.thread_local_base.specs.Held.{least, with_least, without}
use Rattle.thread_local_base.specs.IdMoves.{HistoryMove, IdMove, Take, Give, Publish, held_from, held_after, noted, published_in, or_else}

pub held_apart : {V : Type 0} (held : List Bool) (before later : List (HistoryMove V))
    → held_from held (before ++ later) ≡ held_from (held_from held before) later
held_apart held [] later = refl
held_apart held (Take ∷ before) later = held_apart (with_least held) before later
held_apart held (Give id ∷ before) later = held_apart (without held id) before later
held_apart held (Publish id value ∷ before) later = held_apart held before later

-- what was published stays, and what is published later is added where there was nothing
pub published_apart : {V : Type 0} (before later : List (HistoryMove V)) (id : ℕ)
    → published_in (before ++ later) id ≡ or_else (published_in before id) (published_in later id)
published_apart [] later id = refl
published_apart (Take ∷ before) later id = published_apart before later id
published_apart (Give other ∷ before) later id = published_apart before later id
published_apart (Publish other value ∷ before) later id = at (other == id) (published_apart before later id)
  where
    at : (t : Bool) → published_in (before ++ later) id ≡ or_else (published_in before id) (published_in later id)
        → (if t then Some value else published_in (before ++ later) id)
        ≡ or_else (if t then Some value else published_in before id) (published_in later id)
    at true e = refl
    at false e = e

-- what a history has published, a longer one has
pub published_for_good : (before later : List IdMove) (id : ℕ) (value : Gv)
    → IsPrefix before later → published_in before id ≡ Some value → published_in later id ≡ Some value
published_for_good before later id value early says =
    subst (λ (l : List IdMove). published_in l id ≡ Some value) early.1
    (published_apart before early.0 id ∙ ap (λ (v : Option Gv). or_else v (published_in early.0 id)) says)

-- takes and returns publish nothing
pub published_stays : {V : Type 0} (v : Option V) → or_else v None ≡ v
published_stays None = refl
published_stays (Some kept) = refl

pub after_take : (moves : List IdMove) → held_after (noted moves Take) ≡ with_least (held_after moves)
after_take moves = held_apart [] moves (Take ∷ [])

pub after_give : (moves : List IdMove) (id : ℕ) → held_after (noted moves (Give id)) ≡ without (held_after moves) id
after_give moves id = held_apart [] moves (Give id ∷ [])

-- the peak never falls
peak_from : {V : Type 0} (held : List Bool) (moves : List (HistoryMove V)) → length held ≤ length (held_from held moves)
peak_from held [] = omega arith
peak_from held (Take ∷ moves) =
    let more : length held ≤ length (with_least held) = taken (least held == length held) (length-with_least held) in
    let rest : length (with_least held) ≤ length (held_from (with_least held) moves) = peak_from (with_least held) moves in
    omega (arith, more, rest)
  where
    taken : (t : Bool) → length (with_least held) ≡ (if t then length held + 1 else length held) → length held ≤ length (with_least held)
    taken true e = omega (arith, e)
    taken false e = omega (arith, e)
peak_from held (Give id ∷ moves) =
    let same : length (without held id) ≡ length held = length-without held id in
    let rest : length (without held id) ≤ length (held_from (without held id) moves) = peak_from (without held id) moves in
    omega (arith, same, rest)
peak_from held (Publish id value ∷ moves) = peak_from held moves

-- a later page has no lower peak
pub peak_grows : (before later : List IdMove) → IsPrefix before later → length (held_after before) ≤ length (held_after later)
peak_grows before later early =
    subst (λ (l : List IdMove). length (held_after before) ≤ length (held_after l)) early.1
    (subst (λ (h : List Bool). length (held_after before) ≤ length h) (sym (held_apart [] before early.0)) (peak_from (held_after before) early.0))
