-- The machine value of a `Shown`, which has no bytes.
use Rattle.thread_local_base.proofs.Names.{[], ◌∷◌, refl, Ura, Val, vstruct, vcons, vnil, ent, emp, Logic, sem, RattleType}
use denote.Ref.{NamedLft}
use denote.Shadow.{makes_shadow}
use denote.Struct.Struct.{Struct}
use denote.Struct.Owning.{shape}
use Rattle.thread_local_shared_buckets.specs.contracts.shown.Shown as Shown

abbrev pub shown_val : Val
shown_val = vstruct (vcons (vstruct vnil) vnil)

module _ (a : NamedLft) (R : RattleType) where
  abbrev pub Bare : RattleType
  Bare = Struct (shape (Shown.the_type a R))

  pub made : {M : Type 1} {𝓤 : Ura M} (𝓛 : Logic 𝓤)
      → ent 𝓤 (emp 𝓤) (sem 𝓛 (Bare.own_val (record {}, tt) (shown_val ∷ [])))
  made 𝓛 =
      makes_shadow 𝓛 (Bare.own_val (record {}, tt) (shown_val ∷ []))
      (λ vss. (tt, ((λ uss. (tt, tt)), tt)))
      ((vstruct vnil ∷ [], tt), (refl, ((tt, (refl, tt)), tt)))
