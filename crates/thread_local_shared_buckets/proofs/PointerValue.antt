-- The machine value of a shared bucket: its one field, the pointer. Assumes `Logic`.
use Rattle.thread_local_base.proofs.Names.{[], ◌∷◌, refl, Ura, Val, vstruct}
use Rattle.thread_local_base.proofs.Names.{vcons, vnil, ent, emp, Logic, sem, RattleType, Ptr}
use Rattle.thread_local_base.proofs.Names.{ptr_val}
use denote.Shadow.{makes_shadow}
use Rattle.thread_local_shared_buckets.specs.contracts.shared_bucket.SharedBucket.TheInside as inside

abbrev pub word_val : Ptr → Val
word_val p = vstruct (vcons (ptr_val p) vnil)

module _ (R : RattleType) where
  abbrev pub Field : RattleType
  Field = inside.the_row R

  pub made : {M : Type 1} {𝓤 : Ura M} (𝓛 : Logic 𝓤) (p : Ptr)
      → ent 𝓤 (emp 𝓤) (sem 𝓛 (Field.own_val (record { at = p }) (word_val p ∷ [])))
  made 𝓛 p =
      makes_shadow 𝓛 (Field.own_val (record { at = p }) (word_val p ∷ [])) (λ vss. (tt, (tt, tt)))
      ((ptr_val p ∷ [], tt), (refl, (refl, tt)))
