-- The tokens of a turn: a fresh name has all of them from an id on, and they are split off one by
-- one. Assumes `Logic`.
use Rattle.std.proofs.Common.{◌≡◌, ◌≢◌, ℕ, zero, suc, ◌==◌, Bool, true, false, [], refl, ap, subst, sym, ◌∙◌}
use Rattle.std.proofs.lemmas.Bool.{eqb-true, eq-eqb, true≢false, false≢true}
use mathlib.Core.Option.{some}
use mathlib.Mathlib.Data.Part.{◌∈◌}
use seplogic.Ra.Ura.{Ura}
use seplogic.Ra.Constructions.Opt
use base.Logic.{ent, sep, ex, emp, via}
use base.Fml.{GName, Fml, fown}
use types.Logic.{Logic, sem}
use types.Keyed.{keyed}
use types.Owned.{own_new, basic}
use base.Fraction.{full_share}
use Rattle.thread_local_ids.specs.Rights.{telling, element_if, right_owns}
use Rattle.thread_local_ids.proofs.RightElements.{at_key, at_each_key}

-- whether a key is k or a later one
abbrev from : ℕ → ℕ → Bool
from zero j = true
from (suc k) zero = false
from (suc k) (suc j) = from k j

from_self : (k : ℕ) → from k k ≡ true
from_self zero = refl
from_self (suc k) = from_self k

from_next : (k : ℕ) → from (suc k) k ≡ false
from_next zero = refl
from_next (suc k) = from_next k

from_apart : (k j : ℕ) → k ≢ j → from k j ≡ from (suc k) j
from_apart zero zero n = absurd (n refl)
from_apart zero (suc j) n = refl
from_apart (suc k) zero n = refl
from_apart (suc k) (suc j) n = from_apart k j (λ e. n (ap suc e))

-- the tokens under a name, from the key k on
unfoldable pub tokens_from : GName → ℕ → Fml
tokens_from γ k = fown (keyed telling) γ (λ j. element_if (from k j))

cut_at : (is here after : Bool) → (is ≡ true → here ≡ true) → (is ≡ true → after ≡ false)
    → (is ≡ false → here ≡ after)
    → element_if here ∈ at_key (element_if is) (element_if after)
cut_at true true false a b c = Opt.mem-op-none telling.op (some (some full_share, []))
cut_at true true true a b c = absurd (true≢false (b refl))
cut_at true false after a b c = absurd (false≢true (a refl))
cut_at false here after a b c =
    subst (λ (x : Bool). element_if here ∈ at_key (element_if false) (element_if x)) (c refl)
    (Opt.mem-none-op telling.op (element_if here))

module _ {M : Type 1} {𝓤 : Ura M} (𝓛 : Logic 𝓤) where
  pub tokens_new : (k : ℕ) → ent 𝓤 (emp 𝓤) (𝓛.H.⇛ (ex 𝓤 (λ (γ : GName). sem 𝓛 (tokens_from γ k))))
  unfolding tokens_from
  tokens_new k = via 𝓤 _ (own_new 𝓛 (keyed telling) (λ j. element_if (from k j))) (basic 𝓛 _)

  pub token_off : (γ : GName) (k : ℕ)
      → ent 𝓤 (sem 𝓛 (tokens_from γ k))
      (sep 𝓤 (sem 𝓛 (right_owns γ k)) (sem 𝓛 (tokens_from γ (suc k))))
  unfolding tokens_from right_owns
  token_off γ k =
      𝓛.algebras.own_cut (keyed telling) γ (λ j. element_if (k == j))
      (λ j. element_if (from (suc k) j)) (λ j. element_if (from k j))
      (at_each_key (λ j. element_if (k == j)) (λ j. element_if (from (suc k) j))
      (λ j. element_if (from k j)) (λ j.
      cut_at (k == j) (from k j) (from (suc k) j)
      (λ is. subst (λ (x : ℕ). from k x ≡ true) (eqb-true k j is) (from_self k))
      (λ is. subst (λ (x : ℕ). from (suc k) x ≡ false) (eqb-true k j is) (from_next k))
      (λ no. from_apart k j (λ e. true≢false (sym (eq-eqb k j e) ∙ no)))))
