-- The last step of a proof of a function: it states the facts that the function ensures, one after
-- another. Assumes `Logic`.
use Rattle.std.proofs.Common.{List}
use seplogic.Ra.Ura.{Ura}
use base.Logic.{SProp, sep}
use types.Logic.{Logic}
use types.Kit.{Item, Seq, Step, step, prop, ◌$◌, by, frame}
use contract.Monad.{fact, fact_i}
use Rattle.thread_local_base.proofs.Walking.{knows}

module _ {M : Type 1} {𝓤 : Ura M} {𝓛 : Logic 𝓤} {K : Type 0} {Γ : List (Item 𝓤)} where
  pub tells : K → {φ : Type 0} {P : SProp 𝓤} → φ → Step K 𝓛 Γ (prop P) Γ (prop (sep 𝓤 (fact 𝓤 φ) P))
  tells t {φ} {P} x = step (λ s. knows t φ x $ frame t $ s)

  pub tells_last : K → {φ : Type 0} → φ → Seq K 𝓛 Γ (prop (fact 𝓤 φ))
  tells_last t {φ} x = by t (fact_i 𝓤 φ _ x)
