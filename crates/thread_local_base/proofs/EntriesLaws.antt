-- Different ids, each with its value, are all that a map has where there are as many of them as
-- values.
use Rattle.std.proofs.Common.{◌≡◌, ◌≢◌, ℕ, suc, ◌+◌, ◌-◌, ◌<◌, ◌==◌, if◌then◌else◌, length, List, [], ◌∷◌, ◌++◌, map}
use Rattle.std.proofs.Common.{false, Option, Some, None, refl, ap, sym, ◌∙◌, subst, arith, append_assoc}
use Rattle.std.specs.Prelude.{Contains, IsPermutation, option_to_list}
use Rattle.std.specs.List.{AllPairs}
use Rattle.std.proofs.lemmas.List.Sorted.{IsPermutation-refl, IsPermutation-trans, IsPermutation-cons}
use Rattle.std.proofs.lemmas.List.Sorted.{IsPermutation-append, IsPermutation-append_comm, length_permutation}
use Rattle.std.proofs.lemmas.Grind.{common_steps}
use Rattle.thread_local_base.specs.Walk.{walk_below}
use Rattle.thread_local_base.proofs.WalkLaws.{walk_below-same, walk_below-add}

-- the map without the value at this id
without : {V : Type 0} → (ℕ → Option V) → ℕ → ℕ → Option V
without values id j = if id == j then None else values j

-- a walk, split at an id
walk_split : {V : Type 0} (values : ℕ → Option V) (id rest : ℕ)
    → walk_below values (id + (1 + rest))
    ≡ walk_below values id
    ++ (option_to_list (values id) ++ walk_below (λ i. values (id + (1 + i))) rest)
unfolding walk_below
walk_split values id rest =
    walk_below-add values id (1 + rest)
    ∙ ap (λ vs. walk_below values id ++ vs)
    (walk_below-add (λ i. values (id + i)) 1 rest
    ∙ ap (λ j. option_to_list (values j) ++ walk_below (λ i. values (id + (1 + i))) rest)
    (omega arith))

-- two walks that differ at one id, where the second has a value
one_more : {V : Type 0} (values others : ℕ → Option V) (n id : ℕ) (v : V) → id < n
    → ((j : ℕ) → j ≢ id → others j ≡ values j) → others id ≡ None → values id ≡ Some v
    → IsPermutation (v ∷ walk_below others n) (walk_below values n)
one_more {V} values others n id v near same none is =
    let rest : ℕ = n - id - 1 in let all : n ≡ id + (1 + rest) = omega (arith, near) in
    let before : List V = walk_below values id in let after : List V = walk_below (λ i. values (id + (1 + i))) rest in
    let first : walk_below others n ≡ before ++ after =
    ap (walk_below others) all ∙ walk_split others id rest
    ∙ ap (λ o. walk_below others id ++ (option_to_list o ++ walk_below (λ i. others (id + (1 + i))) rest)) none
    ∙ ap (λ vs. vs ++ walk_below (λ i. others (id + (1 + i))) rest)
    (walk_below-same others values id (λ j l. same j (λ e. absurd (omega (arith, l, e)))))
    ∙ ap (λ vs. before ++ vs) (walk_below-same (λ i. others (id + (1 + i)))
    (λ i. values (id + (1 + i))) rest
    (λ j l. same (id + (1 + j)) (λ e. absurd (omega (arith, e))))) in
    let second : walk_below values n ≡ before ++ (v ∷ after) =
    ap (walk_below values) all
    ∙ walk_split values id rest
    ∙ ap (λ o. before ++ (option_to_list o ++ after)) is in
    let moved : IsPermutation ((v ∷ before) ++ after) ((before ++ v ∷ []) ++ after) =
    IsPermutation-append (v ∷ before) (before ++ v ∷ []) after after
    (IsPermutation-append_comm (v ∷ []) before) (IsPermutation-refl after) in
    rw first (rw second (rw (← append_assoc before (v ∷ []) after) moved))

without-here : {V : Type 0} (values : ℕ → Option V) (id : ℕ) → without values id id ≡ None
unfolding without
without-here values id = grind (arith, common_steps)

without-there : {V : Type 0} (values : ℕ → Option V) (id j : ℕ) → j ≢ id → without values id j ≡ values j
unfolding without
without-there values id j ne = let apart : (id == j) ≡ false = grind (arith, common_steps, ne) in rw apart refl

-- an entry behind the first, whose id differs from those of all others, has another id
other_id : {V : Type 0} (first : ℕ × V) (j : ℕ) (w : V) (entries : List (ℕ × V))
    → AllPairs (λ x y. x.0 ≢ y.0) (first ∷ entries) → Contains entries (j, w)
    → j ≢ first.0
other_id first j w entries apart (k, l, e) = λ same.
    apart 0 (suc k) (j, w) (omega arith) (omega (arith, l)) (sym (ap (λ p. p.0) e ∙ same))

-- the entries behind the first differ too
others_differ : {V : Type 0} (first : ℕ × V) (entries : List (ℕ × V))
    → AllPairs (λ x y. x.0 ≢ y.0) (first ∷ entries)
    → AllPairs (λ x y. x.0 ≢ y.0) entries
others_differ first entries apart = λ i j d l m. apart (suc i) (suc j) d (omega (arith, l)) (omega (arith, m))

none_left : {X : Type 0} (xs : List X) → 0 ≡ length xs → [] ≡ xs
none_left [] h = refl
none_left (x ∷ xs) h = absurd (omega (arith, h))

-- Different ids, each with its value, are all that the map has where there are as many of them as
-- values.
pub are_all : {V : Type 0} (entries : List (ℕ × V)) (values : ℕ → Option V) (n : ℕ) → AllPairs (λ x y. x.0 ≢ y.0) entries
    → ((id : ℕ) (v : V) → Contains entries (id, v) → (id < n) × (values id ≡ Some v))
    → length entries ≡ length (walk_below values n)
    → IsPermutation (map (λ e. e.1) entries) (walk_below values n)
are_all [] values n apart there as_many =
    subst (λ vs. IsPermutation [] vs) (none_left (walk_below values n) as_many)
    (IsPermutation-refl [])
are_all {V} ((id, v) ∷ rest) values n apart there as_many =
    let here = there id v (0, omega arith, refl) in let others : ℕ → Option V = without values id in
    let one : IsPermutation (v ∷ walk_below others n) (walk_below values n) =
    one_more values others n id v here.0 (λ j ne. without-there values id j ne)
    (without-here values id) here.1 in
    let fewer : length rest ≡ length (walk_below others n) =
    omega (arith, as_many, length_permutation (v ∷ walk_below others n) (walk_below values n) one) in
    let in_rest : (j : ℕ) (w : V) → Contains rest (j, w) → (j < n) × (others j ≡ Some w) =
    λ j w c.
    let h = there j w (suc c.0, omega (arith, c.1), c.2) in
    (h.0, without-there values id j (other_id (id, v) j w rest apart c) ∙ h.1) in
    IsPermutation-trans (v ∷ map (λ e. e.1) rest) (v ∷ walk_below others n) (walk_below values n)
    (IsPermutation-cons v (map (λ e. e.1) rest) (walk_below others n)
    (are_all rest others n (others_differ (id, v) rest apart) in_rest fewer))
    one
