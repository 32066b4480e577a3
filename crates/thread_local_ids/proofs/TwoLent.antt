-- What a proof by hand says of two `&`, which a function takes and keeps nothing of. Assumes `Logic`.
use Rattle.std.proofs.Common.{[], ◌∷◌, refl}
use seplogic.Ra.Ura.{Ura}
use types.Logic.{Logic}
use denote.Builtin.{RefOf, One}
use denote.Exit.{yes}
use denote.RattleType.{RattleType}
use denote.Signature.{Slot, plain}
use denote.Triple.Walked.{Stays, AllGo, stay_dropped, Goes-dropped}

module _ (A B : RattleType) (u : One A.mir) (v : One B.mir) where
  abbrev pub one : Slot 3
  one = RefOf (0 ∷ []) tt (plain (λ _. A)) (λ _. u)

  abbrev pub two : Slot 3
  two = RefOf (1 ∷ []) tt (plain (λ _. B)) (λ _. v)

  abbrev pub both_stay : Stays (one ∷ two ∷ []) (yes, (yes, tt))
  both_stay = (stay_dropped one yes, (stay_dropped two yes, tt))

  pub both_go : {M : Type 1} {𝓤 : Ura M} (𝓛 : Logic 𝓤) → AllGo 𝓛 3 (one ∷ two ∷ []) (yes, (yes, tt)) both_stay
  both_go 𝓛 = (Goes-dropped 𝓛 3 one yes (λ κs x f. refl), (Goes-dropped 𝓛 3 two yes (λ κs x f. refl), tt))
