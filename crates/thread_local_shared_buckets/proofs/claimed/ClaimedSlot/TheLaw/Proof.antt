-- A borrow of a claim becomes a `&` to it, where a borrow of the value that its slot holds does.
-- Assumes `Logic`.
use mathlib.Core.List.{[], ◌++◌}
use base.Fml.{Incl-trans}
use contract.BorrowLft.{meet_⊑_left, meet_⊑_right}
use denote.RattleType.{RattleType}
use denote.Ref.{NamedLft, ShrRef}
use denote.Shares.{Shares-less}
use denote.Param.Laws.{Laws}
use denote.Param.Shared.{copy_shared}
use denote.Struct.Field.{RawPtr-field, u64-field}
use denote.Struct.Laws.{RawPtr-copy, u64-copy, field_copy}
use denote.Struct.Lending.{of_Lends}
use Rattle.std.specs.contracts.marker.PhantomData as P
use Rattle.thread_local_shared_buckets.specs.contracts.shared_bucket.SharedBucket as one_bucket
use Rattle.thread_local_shared_buckets.specs.contracts.claimed.ClaimedSlot as C
use Rattle.thread_local_ids.specs.Rights.{note_owns}
use Rattle.thread_local_shared_buckets.specs.Claims.{claim_fields}
use Rattle.thread_local_shared_buckets.proofs.ClaimedValue.{claim_laws, lends_noted}
use Rattle.thread_local_shared_buckets.proofs.claimed.ClaimedSlot.TheLaw.Statement.{statement}

pub shares : (a : NamedLft) (T : RattleType) (L : Laws T) → statement a T L
shares a T L =
    of_Lends (C.struct a T) (C.the_codes T.Denot T.coded (P.the_row (ShrRef a.mir a.lft (one_bucket.the_row T))).coded
    (one_bucket.the_row T).coded)
    (C.the_heap a.lft T) (C.the_lent a.lft T)
    (λ d p.
    claim_laws a.lft T L.shr_laws (claim_fields d.id d.index d.bucket d.at d.sharing d.word d.reserved)
    d.learnt d.state) (
      copy_shared RawPtr-field RawPtr-copy,
      (
        copy_shared u64-field u64-copy,
        (
          copy_shared (P.the_field (ShrRef a.mir a.lft (one_bucket.the_row T)))
              (field_copy (P.the_type (ShrRef a.mir a.lft (one_bucket.the_row T))) tt),
          tt,
        ),
      ),
    )
    (λ M 𝓤 𝓛 d p.
    let l = (C.the_row a T).lives in let s = (ShrRef a.mir a.lft (one_bucket.the_row T)).lives in
    lends_noted 𝓛 a.lft T L.shr_laws l (Incl-trans
    (meet_⊑_right (T.lives ++ []) (((s ++ []) ++ []) ++ [])) (Incl-trans
    (meet_⊑_left ((s ++ []) ++ []) []) (Incl-trans (meet_⊑_left (s ++ []) [])
    (Incl-trans (meet_⊑_left s []) (meet_⊑_left a.lft (one_bucket.the_row T).lives)))))
    (Shares-less 𝓛 T T.lives l (Incl-trans (meet_⊑_left (T.lives ++ []) _) (meet_⊑_left T.lives []))
    (L.shares 𝓛))
    d.table (claim_fields d.id d.index d.bucket d.at d.sharing d.word d.reserved) d.state (note_owns d.table d.id d.left) d.learnt)
