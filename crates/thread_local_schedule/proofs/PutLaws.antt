-- What a numbered family holds after a member was set or removed.
use Rattle.std.proofs.Common.{◌≡◌, ℕ, ◌⊎◌, cond, Option, Some, None, ap, sym, ◌∙◌, ⊎_elim, inl, inr, refl}
use Rattle.std.proofs.lemmas.Bool.{cases_eq, eq-eqb, ne_eqb}
use Rattle.thread_local_schedule.specs.Core.{put}

-- what is at a number after one was set
pub put_cases : {A : Type 0} (all : ℕ → Option A) (number : ℕ) (it : Option A) (n : ℕ) (x : A) → put all number it n ≡ Some x
    → ((number ≡ n) × (it ≡ Some x)) ⊎ ((number ≡ n → ⊥) × (all n ≡ Some x))
put_cases all number it n x e =
    ⊎_elim
    (λ same. inl (same, sym (ap (λ b. cond b it (all n)) (eq-eqb number n same)) ∙ e))
    (λ apart. inr (apart, sym (ap (λ b. cond b it (all n)) (ne_eqb number n apart)) ∙ e))
    (cases_eq number n)

pub put_same : {A : Type 0} (all : ℕ → Option A) (number : ℕ) (it : Option A) → put all number it number ≡ it
put_same all number it = rw (eq-eqb number number refl) refl

pub put_other : {A : Type 0} (all : ℕ → Option A) (number : ℕ) (it : Option A) (n : ℕ)
    → (number ≡ n → ⊥)
    → put all number it n ≡ all n
put_other all number it n apart = rw (ne_eqb number n apart) refl

-- what is left after one was removed
pub still : {A : Type 0} (all : ℕ → Option A) (number n : ℕ) (x : A)
    → put all number None n ≡ Some x
    → (number ≡ n → ⊥) × (all n ≡ Some x)
still all number n x e = ⊎_elim (λ at. absurd cc) (λ apart. apart) (put_cases all number None n x e)
