-- A borrow of a guard becomes a `&` to it, where a borrow of its value does. Assumes `Logic`.
use mathlib.Core.List.{[], ◌++◌}
use base.Fml.{Incl-trans}
use contract.BorrowLft.{meet_⊑_left, meet_⊑_right}
use denote.RattleType.{RattleType}
use denote.Ref.{NamedLft, ShrRef}
use denote.Shares.{Shares-less}
use denote.Param.Laws.{Laws}
use denote.Param.Shared.{copy_shared}
use denote.Struct.Field.{RawPtr-field}
use denote.Struct.Laws.{RawPtr-copy, field_copy}
use denote.Struct.Lending.{of_Lends}
use Rattle.std.specs.contracts.marker.PhantomData as P
use Rattle.thread_local_ids.specs.Locking.{Fitting}
use Rattle.thread_local_ids.specs.declared.locks.lock.Fits.{Ghosts}
use Rattle.thread_local_ids.specs.contracts.locks.lock.LockGuard as C
use Rattle.thread_local_ids.proofs.locks.lock.LockGuard.TheLaw.Statement.{statement}
use Rattle.thread_local_ids.proofs.Guards.{guard_laws, lends_guard}

pub shares : (a : NamedLft) (T : RattleType) (g : Ghosts T.Denot) (L : Laws T) → statement a T g L
shares a T g L =
    of_Lends (C.struct a T g) (C.the_codes T.Denot T.coded (P.the_row (ShrRef a.mir a.lft T)).coded)
    (C.the_heap a.lft T g) (C.the_lent a.lft T g)
    (λ d p. guard_laws a.lft T L.shr_laws d.lock d.value) (
      copy_shared RawPtr-field RawPtr-copy,
      (copy_shared (P.the_field (ShrRef a.mir a.lft T)) (field_copy (P.the_type (ShrRef a.mir a.lft T)) tt), tt),
    )
    (λ M 𝓤 𝓛 d p.
    let l = (C.the_row a T g).lives in let s = (ShrRef a.mir a.lft T).lives in
    lends_guard 𝓛 a.lft T (Fitting g.tag g.fits d.tag) l (Incl-trans
    (meet_⊑_right (T.lives ++ []) (((s ++ []) ++ []) ++ [])) (Incl-trans
    (meet_⊑_left ((s ++ []) ++ []) []) (Incl-trans (meet_⊑_left (s ++ []) [])
    (Incl-trans (meet_⊑_left s []) (meet_⊑_left a.lft T.lives)))))
    (Shares-less 𝓛 T T.lives l (Incl-trans (meet_⊑_left (T.lives ++ []) _) (meet_⊑_left T.lives []))
    (L.shares 𝓛))
    d.lock d.value)
