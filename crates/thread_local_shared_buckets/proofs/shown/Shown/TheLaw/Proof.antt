-- A `&` to a `Shown` shows the same fact, which can be duplicated. Assumes `Logic`.
use mathlib.Core.List.{[], ◌∷◌}
use seplogic.Ra.Ura.{Ura}
use base.Logic.{ent, sep}
use base.Fml.{Fml, ftrue}
use types.Logic.{Logic, sem}
use types.Kit.{‵, ◌$◌, ◌∵◌, !, qed, drop, fpick, fpack}
use types.Kit.{done}
use denote.Steps.{nothing}
use denote.RattleType.{RattleType}
use denote.Ref.{NamedLft, ShrRef}
use denote.Param.Laws.{Laws}
use denote.Param.Shared.{copy_shared}
use denote.Struct.Laws.{field_copy}
use denote.Struct.Lending.{of_Lends}
use Rattle.std.specs.contracts.marker.PhantomData as P
use Rattle.thread_local_ids.proofs.Twice.{lends_twice, said_laws}
use Rattle.thread_local_base.specs.Fact.{fact}
use Rattle.thread_local_base.specs.Judged.{Shareable}
use Rattle.thread_local_shared_buckets.specs.contracts.shown.Shown as C
use Rattle.thread_local_shared_buckets.proofs.shown.Shown.TheLaw.Statement.{statement}

twice : {M : Type 1} {𝓤 : Ura M} (𝓛 : Logic 𝓤) (φ : Type 0)
    → ent 𝓤 (sem 𝓛 (fact φ)) (sep 𝓤 (sem 𝓛 (fact φ)) (sem 𝓛 (fact φ)))
twice 𝓛 φ =
    qed 𝓛 (‵ (fact φ) ∷ []) ∵ fpick ! (λ holds. drop ! $ nothing ! $ fpack ! φ (λ _. ftrue) holds $
    nothing ! $ fpack ! φ (λ _. ftrue) holds $ done !)

pub shares : (a : NamedLft) (T : RattleType) (L : Laws T) → statement a T L
shares a T L =
    let holds : Fml = fact (Shareable T) in
    of_Lends (C.struct a T) (C.the_codes T.Denot T.coded) (C.the_heap a.lft T) (C.the_lent a.lft T)
    (λ d p. said_laws holds (λ M 𝓤 𝓛. twice 𝓛 (Shareable T)))
    (copy_shared (P.the_field (ShrRef a.mir a.lft T)) (field_copy (P.the_type (ShrRef a.mir a.lft T)) tt), tt)
    (λ M 𝓤 𝓛 d p. lends_twice 𝓛 holds (twice 𝓛 (Shareable T)) (C.the_row a T).lives)
