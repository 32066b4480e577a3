-- the first sharing of a table
use Rattle.std.proofs.Common.{◌≡◌, ◌∙◌, ℕ, Option, Some, ap, subst, sym, refl}
use Rattle.std.proofs.lemmas.Bool.{eq-eqb}
use Rattle.thread_local_ids.specs.Sharings.{Belongs, IsFirst, first_of, is_first}
use Rattle.thread_local_ids.proofs.ToldElements.{first_belongs}

pub first_is_first : (s : Option ℕ) (t : ℕ) → s ≡ Some (first_of t) → IsFirst s t
first_is_first s t named = ap (λ (o : Option ℕ). is_first o t) named ∙ eq-eqb (first_of t) (first_of t) refl

pub first_is_of : (s : Option ℕ) (t : ℕ) → s ≡ Some (first_of t) → Belongs s t
first_is_of s t named = subst (λ (o : Option ℕ). Belongs o t) (sym named) (first_belongs t)
