-- A `&` to a loan gives access to none of the values. Assumes `Logic`.
use denote.RattleType.{RattleType}
use denote.Ref.{NamedLft, MutRef}
use denote.Param.Laws.{Laws}
use denote.Param.Shared.{copy_shared}
use denote.SharingLaws.{nothing_shr_laws}
use denote.Struct.Field.{RawPtr-field}
use denote.Struct.Laws.{RawPtr-copy, field_copy}
use denote.Struct.Lending.{of_Lends, Lends-nothing}
use Rattle.std.specs.contracts.marker.PhantomData as marker
use Rattle.thread_local_buckets.specs.contracts.loan.Loan as C
use Rattle.thread_local_buckets.proofs.loan.Loan.TheLaw.Statement.{statement}

pub shares : (κ : NamedLft) (V : RattleType) (L : Laws V) → statement κ V L
shares κ V L =
    let R : RattleType = MutRef κ.mir κ.lft V in
    of_Lends (C.struct κ V) (C.the_codes V.Denot V.coded (marker.the_row R).coded)
    (C.the_heap κ.lft V) (C.the_lent κ.lft V) (λ d p. nothing_shr_laws) (
      copy_shared RawPtr-field RawPtr-copy,
      (copy_shared RawPtr-field RawPtr-copy, (copy_shared (marker.the_field R) (field_copy (marker.the_type R) tt), tt)),
    )
    (λ M 𝓤 𝓛 d p. Lends-nothing 𝓛 (C.the_heap κ.lft V d) (C.the_row κ V).lives)
