-- A `&` to what was seen holds what that owns, which can be duplicated. Assumes `Logic`.
use denote.RattleType.{RattleType}
use denote.Ref.{NamedLft, ShrRef}
use denote.Param.Laws.{Laws}
use denote.Param.Shared.{copy_shared}
use denote.Struct.Field.{RawPtr-field, u64-field}
use denote.Struct.Laws.{RawPtr-copy, u64-copy, field_copy}
use denote.Struct.Lending.{of_Lends}
use Rattle.std.specs.contracts.marker.PhantomData as P
use Rattle.thread_local_ids.proofs.Twice.{lends_twice, said_laws}
use Rattle.thread_local_shared_buckets.specs.Shared.{seen_owns}
use Rattle.thread_local_shared_buckets.specs.contracts.seen.Seen as C
use Rattle.thread_local_shared_buckets.proofs.SeenFields.{seen_dup}
use Rattle.thread_local_shared_buckets.proofs.seen.Seen.TheLaw.Statement.{statement}

pub shares : (a : NamedLft) (T : RattleType) (L : Laws T) → statement a T L
shares a T L =
    of_Lends (C.struct a T) (C.the_codes T.Denot T.coded (P.the_row (ShrRef a.mir a.lft T)).coded)
    (C.the_heap a.lft T) (C.the_lent a.lft T)
    (λ d p. said_laws (seen_owns T d.of d.at d.names d.chunk d.flags d.values a.lft)
    (λ M 𝓤 𝓛. seen_dup 𝓛 T L d.of d.at d.names d.chunk d.flags d.values a.lft)) (
      copy_shared RawPtr-field RawPtr-copy,
      (
        copy_shared u64-field u64-copy,
        (copy_shared (P.the_field (ShrRef a.mir a.lft T)) (field_copy (P.the_type (ShrRef a.mir a.lft T)) tt), tt),
      ),
    )
    (λ M 𝓤 𝓛 d p.
    lends_twice 𝓛 (seen_owns T d.of d.at d.names d.chunk d.flags d.values a.lft) (seen_dup 𝓛 T L d.of d.at d.names d.chunk d.flags d.values a.lft)
    (C.the_row a T).lives)
