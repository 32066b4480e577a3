-- The signs of the logic, for lemmas to open: what a formula says, and what stands between two
-- propositions.
use seplogic.Ra.Ura.{Ura}
use base.Logic.{SProp, ent, sep, wand}
use base.Fml.{Fml}
use types.Logic.{Logic, sem}

pub record Signs {M : Type 1} (𝓤 : Ura M) : Type 2 where
  pub ⟦◌⟧ : Fml → SProp 𝓤
  pub ◌⊢◌ : SProp 𝓤 → SProp 𝓤 → Type 1
  pub ◌∗◌ : SProp 𝓤 → SProp 𝓤 → SProp 𝓤
  pub ◌-∗◌ : SProp 𝓤 → SProp 𝓤 → SProp 𝓤

abbrev pub signs : {M : Type 1} {𝓤 : Ura M} → Logic 𝓤 → Signs 𝓤
signs {𝓤 = 𝓤} 𝓛 = record { ⟦◌⟧ = sem 𝓛; ◌⊢◌ = ent 𝓤; ◌∗◌ = sep 𝓤; ◌-∗◌ = wand 𝓤 }
