-- A bucket's block of which at most one slot has a value.
use Rattle.std.proofs.Common.{◌≡◌, ◌∙◌, ℕ, zero, suc, ◌<◌, List, ◌∷◌, Option, None, length, refl, sym, ap, subst}
use Rattle.std.specs.Prelude.{slice_set}
use Rattle.std.proofs.lemmas.List.{length-set, length-replicate, set-set}
use Rattle.thread_local_buckets.specs.Slots.{empty_slots, slot_value}

-- a block that is empty is empty without what a slot holds
pub none_again : {V : Type 0} (n i : ℕ) → slice_set (empty_slots {X = V} n) i None ≡ empty_slots n
none_again zero i = refl
none_again (suc n) zero = refl
none_again {V = V} (suc n) (suc i) = ap (λ (cs : List (Option V)). None ∷ cs) (none_again n i)

-- without its one value the block is empty, as before
pub without : {V : Type 0} (cs : List (Option V)) (n i : ℕ) (v : Option V) → cs ≡ slice_set (empty_slots n) i v
    → slice_set cs i None ≡ empty_slots n
without {V = V} cs n i v is =
    let none : Option V = None in
    ap (λ (ys : List (Option V)). slice_set ys i none) is ∙ set-set (empty_slots {X = V} n) i v none ∙ none_again n i

pub none_in : {V : Type 0} (n i : ℕ) → slot_value (empty_slots {X = V} n) i ≡ None
none_in zero i = refl
none_in (suc n) zero = refl
none_in (suc n) (suc i) = none_in n i

pub none_where : {V : Type 0} (cs : List (Option V)) (n i : ℕ) → cs ≡ empty_slots n → slot_value cs i ≡ None
none_where {V = V} cs n i empty = ap (λ (ys : List (Option V)). slot_value ys i) empty ∙ none_in n i

-- how many slots the block has, by its slots but one
pub long : {V : Type 0} (cs : List (Option V)) (n i : ℕ) → slice_set cs i None ≡ empty_slots n → length cs ≡ n
long {V = V} cs n i others =
    let none : Option V = None in sym (length-set cs i none) ∙ ap length others ∙ length-replicate n none

pub within : {V : Type 0} (cs : List (Option V)) (n i : ℕ) → length cs ≡ n → i < n → i < length cs
within cs n i is near = subst (λ (m : ℕ). i < m) (sym is) near
