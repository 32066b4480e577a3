-- A `&` to a row holds what the row owns, which can be duplicated. Assumes `Logic`.
use denote.RattleType.{RattleType}
use denote.Ref.{NamedLft, ShrRef}
use denote.Param.Laws.{Laws}
use denote.Param.Shared.{copy_shared}
use denote.Struct.Field.{RawPtr-field}
use denote.Struct.Laws.{RawPtr-copy, field_copy}
use denote.Struct.Lending.{of_Lends}
use Rattle.std.specs.contracts.marker.PhantomData as P
use Rattle.thread_local_ids.proofs.Twice.{lends_twice, said_laws}
use Rattle.thread_local_shared_buckets.specs.Shared.{row_owns}
use Rattle.thread_local_shared_buckets.specs.contracts.row.Row as C
use Rattle.thread_local_shared_buckets.proofs.RowFields.{found_dup}
use Rattle.thread_local_shared_buckets.proofs.row.Row.TheLaw.Statement.{statement}

pub shares : (a : NamedLft) (T : RattleType) (L : Laws T) → statement a T L
shares a T L =
    of_Lends (C.struct a T) (C.the_codes T.Denot T.coded (P.the_row (ShrRef a.mir a.lft T)).coded)
    (C.the_heap a.lft T) (C.the_lent a.lft T)
    (λ d p. said_laws (row_owns T d.of d.names a.lft d.at) (λ M 𝓤 𝓛. found_dup 𝓛 T d.of d.names a.lft d.at)) (
      copy_shared RawPtr-field RawPtr-copy,
      (copy_shared (P.the_field (ShrRef a.mir a.lft T)) (field_copy (P.the_type (ShrRef a.mir a.lft T)) tt), tt),
    )
    (λ M 𝓤 𝓛 d p.
    lends_twice 𝓛 (row_owns T d.of d.names a.lft d.at) (found_dup 𝓛 T d.of d.names a.lft d.at)
    (C.the_row a T).lives)
