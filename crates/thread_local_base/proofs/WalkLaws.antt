-- A walk over a map: its values, its ids and that they ascend, and its length.
use Rattle.std.proofs.Common.{◌≡◌, ℕ, zero, suc, ◌+◌, ◌≤◌, length, length-append, add-zero, add-suc, append_assoc, ◌<◌}
use Rattle.std.proofs.Common.{⊎_elim, List, [], ◌∷◌, ◌++◌, map, Option, Some, None, refl, ap, sym, ◌∙◌, arith}
use Rattle.std.specs.Prelude.{Contains, option_to_list, option_map}
use Rattle.std.specs.List.Sorted.{IsStrictlyIncreasing}
use Rattle.std.proofs.lemmas.Bool.{cases_order}
use Rattle.std.proofs.lemmas.List.{append-nil, map-append}
use Rattle.std.proofs.lemmas.List.Elements.{Contains-append_left, Contains-append_right, Contains-append_cases}
use Rattle.std.proofs.lemmas.Grind.{common_steps}
use Rattle.thread_local_base.specs.Walk.{walk_below, paired, IsAscendingBelow}

-- the values of the pairs, once a pair with this value is added
values-push : {V : Type 0} (pairs : List (ℕ × V)) (vs : List V) (id : ℕ) (o : Option V) → map (λ pair. pair.1) pairs ≡ vs
    → map (λ pair. pair.1) (pairs ++ option_to_list (option_map (λ v. (id, v)) o)) ≡ vs ++ option_to_list o
values-push pairs vs id None h = rw (append-nil, append-nil) h
values-push pairs vs id (Some v) h = map-append (λ pair. pair.1) pairs ((id, v) ∷ []) ∙ ap (λ xs. xs ++ v ∷ []) h

-- the values of the pairs are those of the map
pub map-walk_below : {V : Type 0} (values : ℕ → Option V) (n : ℕ)
    → map (λ pair. pair.1) (walk_below (paired values) n) ≡ walk_below values n
unfolding walk_below
map-walk_below values zero = refl
map-walk_below values (suc n) = values-push (walk_below (paired values) n) (walk_below values n) n (values n) (map-walk_below values n)

-- one more id, at the bound of the others
pub ascends-push : (ids : List ℕ) (n : ℕ) → IsAscendingBelow ids n → IsAscendingBelow (ids ++ n ∷ []) (suc n)
ascends-push ids n h = record {
  increasing = λ k l. grind (arith, common_steps, h.increasing k, h.below k);
  below = λ k l. grind (arith, common_steps, h.below k);
}

ids-push : {V : Type 0} (pairs : List (ℕ × V)) (n : ℕ) (o : Option V) → IsAscendingBelow (map (λ pair. pair.0) pairs) n
    → IsAscendingBelow (map (λ pair. pair.0) (pairs ++ option_to_list (option_map (λ v. (n, v)) o))) (suc n)
ids-push pairs n None h = rw append-nil (record { increasing = h.increasing; below = λ k l. omega (arith, h.below k l) })
ids-push pairs n (Some v) h =
    rw (map-append (λ (pair : ℕ × _). pair.0) pairs ((n, v) ∷ []))
    (ascends-push (map (λ pair. pair.0) pairs) n h)

ascends : {V : Type 0} (values : ℕ → Option V) (n : ℕ) → IsAscendingBelow (map (λ pair. pair.0) (walk_below (paired values) n)) n
unfolding walk_below
ascends values zero = record { increasing = λ k l. absurd (omega arith); below = λ k l. absurd (omega arith) }
ascends values (suc n) = ids-push (walk_below (paired values) n) n (values n) (ascends values n)

pub strictly_ascends : {V : Type 0} (values : ℕ → Option V) (n : ℕ)
    → IsStrictlyIncreasing (map (λ pair. pair.0) (walk_below (paired values) n))
strictly_ascends values n = (ascends values n).increasing

-- the only element of a list of one
pub Contains-one : {X : Type 0} (x y : X) → Contains (x ∷ []) y → x ≡ y
Contains-one x y (zero, l, e) = e
Contains-one x y (suc k, l, e) = absurd (omega (arith, l))

-- what a list with the one pair of an id contains
in_one : {V : Type 0} (n id : ℕ) (v : V) (o : Option V)
    → Contains {X = ℕ × V} (option_to_list (option_map (λ w. (n, w)) o)) (id, v)
    → (n ≡ id) × (o ≡ Some v)
in_one n id v None h = absurd (omega (arith, h.1))
in_one n id v (Some w) h = (ap (λ pair. pair.0) (Contains-one (n, w) (id, v) h), ap (λ pair. Some pair.1) (Contains-one (n, w) (id, v) h))

pub listed : {V : Type 0} (values : ℕ → Option V) (n id : ℕ) (v : V)
    → Contains (walk_below (paired values) n) (id, v)
    → (id < n) × (values id ≡ Some v)
unfolding walk_below
listed values zero id v h = absurd (omega (arith, h.1))
listed values (suc n) id v h =
    ⊎_elim
    (λ before. let ih = listed values n id v before in (omega (arith, ih.0), ih.1))
    (λ last. let here = in_one n id v (values n) last in (omega (arith, here.0), ap values (sym here.0) ∙ here.1))
    (Contains-append_cases (walk_below (paired values) n) (option_to_list (paired values n)) (id, v) h)

-- an id that has a value has its pair in the list
its_pair : {V : Type 0} (id : ℕ) (v : V) (o : Option V) → o ≡ Some v
    → Contains {X = ℕ × V} (option_to_list (option_map (λ w. (id, w)) o)) (id, v)
its_pair id v None h = cc
its_pair id v (Some w) h = let same : w ≡ v = cc in (0, omega arith, ap (λ x. (id, x)) same)

pub in_list : {V : Type 0} (values : ℕ → Option V) (n id : ℕ) (v : V) → id < n → values id ≡ Some v
    → Contains (walk_below (paired values) n) (id, v)
unfolding walk_below
in_list values zero id v l h = absurd (omega arith)
in_list values (suc n) id v l h =
    ⊎_elim
    (λ here.
    Contains-append_right (walk_below (paired values) n) (option_to_list (paired values n))
    (id, v) (rw (← here) (its_pair id v (values id) h)))
    (⊎_elim
    (λ below.
    Contains-append_left (walk_below (paired values) n) (option_to_list (paired values n)) (id, v)
    (in_list values n id v below h))
    (λ above. absurd (omega arith)))
    (cases_order id n)

-- a walk depends on the values alone, and is the walk of the lower ids and then that of the rest
pub walk_below-same : {V : Type 0} (values others : ℕ → Option V) (n : ℕ)
    → ((id : ℕ) → id < n → values id ≡ others id)
    → walk_below values n ≡ walk_below others n
unfolding walk_below
walk_below-same values others zero h = refl
walk_below-same values others (suc n) h =
    ap (λ vs. vs ++ option_to_list (values n)) (walk_below-same values others n (λ id l. h id (omega arith)))
    ∙ ap (λ o. walk_below others n ++ option_to_list o) (h n (omega arith))

pub walk_below-none : {V : Type 0} (values : ℕ → Option V) (n : ℕ)
    → ((id : ℕ) → id < n → values id ≡ None)
    → walk_below values n ≡ []
unfolding walk_below
walk_below-none values zero h = refl
walk_below-none values (suc n) h =
    ap (λ vs. vs ++ option_to_list (values n))
    (walk_below-none values n (λ id l. h id (omega arith)))
    ∙ ap option_to_list (h n (omega arith))

pub walk_below-add : {V : Type 0} (values : ℕ → Option V) (m n : ℕ)
    → walk_below values (m + n) ≡ walk_below values m ++ walk_below (λ i. values (m + i)) n
unfolding walk_below
walk_below-add values m zero = rw add-zero (sym (append-nil (walk_below values m)))
walk_below-add values m (suc n) =
    rw add-suc
    (ap (λ vs. vs ++ option_to_list (values (m + n))) (walk_below-add values m n)
    ∙ append_assoc (walk_below values m) (walk_below (λ i. values (m + i)) n) (option_to_list (values (m + n))))

at_most_one : {A : Type 0} (o : Option A) → length (option_to_list o) ≤ 1
at_most_one None = omega arith
at_most_one (Some x) = omega arith

-- a walk gives no more values than there are ids
pub length-walk_below : {V : Type 0} (values : ℕ → Option V) (n : ℕ) → length (walk_below values n) ≤ n
unfolding walk_below
length-walk_below values zero = omega arith
length-walk_below values (suc n) =
    let ih = length-walk_below values n in
    rw (length-append (walk_below values n) (option_to_list (values n))) (omega (arith, at_most_one (values n)))
