-- Steps that many proofs by hand take. Assumes `Logic`.
use Rattle.std.proofs.Common.{List, ◌∷◌}
use seplogic.Ra.Ura.{Ura}
use base.Before.{before}
use base.Fml.{Lft, Share, flft}
use base.Logic.{emp, wand, apply∗}
use prog.Model.{Model}
use types.Logic.{Logic}
use types.Kit.{Item, Goal, Step, step, ‵, raw, ◌⊛◌, some, later, use0, use2, ◌$◌}
use contract.Monad.{fact, fact_i}
use contract.Running.{Running}
use contract.Shared.{Lends-one}

module _ {M : Type 1} {𝓤 : Ura M} {𝓛 : Logic 𝓤} {K : Type 0} {Γ : List (Item 𝓤)} {G : Goal 𝓤 𝓛.H} where
  -- a fact stands first from now on
  pub knows : K → (φ : Type 0) → φ → Step K 𝓛 (raw (fact 𝓤 φ) ∷ Γ) G Γ G
  knows t φ x = step (λ s. use0 𝓛 (raw (fact 𝓤 φ)) (fact_i 𝓤 φ (emp 𝓤) x) $ s)

  -- a token of a lifetime lends one of another that it stands before, and a way back
  pub lends_token : K → (𝓜 : Model 𝓤 𝓛.H) (𝓡 : Running 𝓤 𝓛.H 𝓜) (κ ν : Lft) (q : Share)
      → Step K 𝓛 (later (some (λ (s : Share). ‵ (flft ν s) ⊛ raw (wand 𝓤 (𝓛.A.lft ν s) (𝓛.H.⇛ (𝓛.A.lft κ q))))) ∷ Γ) G
      (‵ (before κ ν) ∷ ‵ (flft κ q) ∷ Γ) G
  lends_token t 𝓜 𝓡 κ ν q = step (λ s. use2 𝓛
      (later (some (λ (s : Share). ‵ (flft ν s) ⊛ raw (wand 𝓤 (𝓛.A.lft ν s) (𝓛.H.⇛ (𝓛.A.lft κ q))))))
      (Lends-one 𝓛 𝓜 𝓡 κ ν q) $ s)

  -- the lent token goes back
  pub returns_token : K → (κ ν : Lft) (q r : Share)
      → Step K 𝓛 (later (‵ (flft κ q)) ∷ Γ) G
      (‵ (flft ν r) ∷ raw (wand 𝓤 (𝓛.A.lft ν r) (𝓛.H.⇛ (𝓛.A.lft κ q))) ∷ Γ) G
  returns_token t κ ν q r = step (λ s. use2 𝓛 (later (‵ (flft κ q))) (apply∗ 𝓤 (𝓛.A.lft ν r) (𝓛.H.⇛ (𝓛.A.lft κ q))) $ s)
