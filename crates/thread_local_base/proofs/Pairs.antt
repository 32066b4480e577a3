-- What a pair owns, put together from what its two parts own. Assumes `Logic`.
use Rattle.thread_local_base.proofs.Names.{List, [], ◌∷◌, refl, Ura, Val, vstruct, vcons, vnil, Logic, ‵, ◌$◌, move}
use Rattle.thread_local_base.proofs.Names.{fjoin, fjoin3, fpack, feq_i, nothing, RattleType}
use types.Kit.{Item, Goal, Step, step}
use denote.RattleType.{Valss}
use denote.Struct.Struct.{within}
use denote.Struct.Tuple.{Tuple}

abbrev pub both : Val → Val → Val
both v w = vstruct (vcons v (vcons w vnil))

module _ (P Q : RattleType) {M : Type 1} {𝓤 : Ura M} {𝓛 : Logic 𝓤} {K : Type 0} {Γ : List (Item 𝓤)}
    {G : Goal 𝓤 𝓛.H} where
  pub pair_in : K → (x : P.Denot) (y : Q.Denot) (v w : Val)
      → Step K 𝓛 (‵ ((Tuple (P ∷ Q ∷ [])).own_val (x, y) (both v w ∷ [])) ∷ Γ) G
      (‵ (P.own_val x (v ∷ [])) ∷ ‵ (Q.own_val y (w ∷ [])) ∷ Γ) G
  pair_in t x y v w =
      step (λ s. nothing t $ move t (1 ∷ 2 ∷ 0 ∷ []) $ fjoin3 t $
      feq_i t (List Val) (both v w ∷ []) (both v w ∷ []) refl $ fjoin t $
      fpack t (Valss (P ∷ Q ∷ []))
      (within (record { name = []; args = []; types = []; fields = P ∷ Q ∷ [] }) (x, (y, tt))
      (both v w ∷ []))
      (v ∷ [], (w ∷ [], tt)) $
      s)
