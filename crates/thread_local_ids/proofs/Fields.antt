-- The machine value of a guard: a pointer to its lock. Assumes `Logic`.
use Rattle.std.proofs.Common.{◌≡◌, T, List, [], ◌∷◌, ◌++◌, refl, ap, ◌∙◌}
use seplogic.Ra.Ura.{Ura}
use mir.Syntax.{ty_ptr, ty_struct, tcons, tnil}
use mir.Val.{Val, vstruct, vcons, vnil, of_list, has_ty, WT}
use base.Logic.{ent, emp}
use types.Logic.{Logic, sem}
use denote.RattleType.{RattleType}
use denote.Laws.{Is}
use denote.Ref.{NamedLft, ShrRef}
use denote.Opens.{Opens}
use denote.Copied.{Struct-Copied}
use denote.RawPtr.{Ptr, InBlock, block_ptr, null_ptr, ptr_val}
use denote.Shadow.{makes_shadow}
use denote.Struct.Laws.{RawPtr-copy, field_copy}
use denote.Struct.Struct.{Struct}
use denote.Struct.Owning.{shape}
use Rattle.std.specs.contracts.marker.PhantomData as marker
use Rattle.thread_local_ids.specs.declared.locks.lock.Fits.{Ghosts}
use Rattle.thread_local_ids.specs.contracts.locks.lock.LockGuard as guard

abbrev pub guard_of : Ptr → Val
guard_of p = vstruct (vcons (ptr_val p) (vcons (vstruct vnil) vnil))

pub typed : (p : Ptr) → InBlock p
    → T (has_ty (ty_struct [] (tcons ty_ptr (tcons (ty_struct [] tnil) tnil))) (guard_of p))
    × WT (guard_of p)
typed (block_ptr b o) i = (tt, (tt, (tt, tt)))
typed null_ptr i = absurd i

module _ (a : NamedLft) (R : RattleType) (g : Ghosts R.Denot) where
  abbrev pub FieldsType : RattleType
  FieldsType = Struct (shape (guard.the_type a R g))

  pub told : (p : Ptr) (vs : List Val) → Is FieldsType (p, (tt, tt)) vs → vs ≡ guard_of p ∷ []
  told p vs is =
      is.1.0
      ∙ ap (λ (ws : List Val). vstruct (of_list (ws ++ (is.0.1.0 ++ []))) ∷ []) is.1.1.0
      ∙ ap (λ (ws : List Val). vstruct (of_list (ptr_val p ∷ (ws ++ []))) ∷ []) is.1.1.1.0.1.0

  pub made : {M : Type 1} {𝓤 : Ura M} (𝓛 : Logic 𝓤) (p : Ptr)
      → ent 𝓤 (emp 𝓤) (sem 𝓛 (FieldsType.own_val (p, (tt, tt)) (guard_of p ∷ [])))
  made 𝓛 p =
      makes_shadow 𝓛 (FieldsType.own_val (p, (tt, tt)) (guard_of p ∷ []))
      (λ vss. (tt, (tt, ((λ uss. (tt, tt)), tt))))
      ((ptr_val p ∷ [], (vstruct vnil ∷ [], tt)), (refl, (refl, ((tt, (refl, tt)), tt))))

  pub opened : {M : Type 1} {𝓤 : Ura M} (𝓛 : Logic 𝓤) → Opens 𝓛 FieldsType
  opened {M} {𝓤 = 𝓤} 𝓛 =
      (Struct-Copied 𝓛 (shape (guard.the_type a R g)) (refl, (refl, tt)) (
        RawPtr-copy.copied M 𝓤 𝓛,
        ((field_copy (marker.the_type (ShrRef a.mir a.lft R)) tt).copied M 𝓤 𝓛, tt),
      )).opens
