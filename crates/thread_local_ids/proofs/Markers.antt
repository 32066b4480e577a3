-- The machine value of a token: a struct whose one field is a marker without bytes. Assumes
-- `Logic`.
use Rattle.std.proofs.Common.{◌≡◌, List, [], ◌∷◌, ◌++◌, refl, ap, ◌∙◌}
use seplogic.Ra.Ura.{Ura}
use mir.Syntax.{Sym}
use mir.Val.{Val, vstruct, vcons, vnil, of_list}
use base.Logic.{ent, emp}
use types.Logic.{Logic, sem}
use denote.RattleType.{RattleType}
use denote.Laws.{Is}
use denote.Builtin.{unit}
use denote.Shadow.{makes_shadow}
use denote.Struct.Struct.{Struct}
use Rattle.std.specs.contracts.marker.PhantomData as marker

abbrev pub token : Val
token = vstruct (vcons (vstruct vnil) vnil)

module _ (ν : Sym) where
  abbrev pub Mark : RattleType
  Mark = Struct (record { name = ν; args = []; types = []; fields = (marker.the_field unit).row ∷ [] })

  pub told : (vs : List Val) → Is Mark (tt, tt) vs → vs ≡ token ∷ []
  told vs is = is.1.0 ∙ ap (λ (ws : List Val). vstruct (of_list (ws ++ [])) ∷ []) is.1.1.0.1.0

  pub made : {M : Type 1} {𝓤 : Ura M} (𝓛 : Logic 𝓤) → ent 𝓤 (emp 𝓤) (sem 𝓛 (Mark.own_val (tt, tt) (token ∷ [])))
  made 𝓛 =
      makes_shadow 𝓛 (Mark.own_val (tt, tt) (token ∷ [])) (λ vss. (tt, ((λ uss. (tt, tt)), tt)))
      ((vstruct vnil ∷ [], tt), (refl, ((tt, (refl, tt)), tt)))
