-- A borrow of a lock becomes a `&` to it, whatever the word is. Assumes `Logic`.
use Rattle.std.proofs.Common.{◌≡◌, List, sym, subst}
use mir.Syntax.{Ty}
use base.Fml.{fbor}
use types.Logic.{sem}
use denote.RattleType.{RattleType}
use denote.Laws.{Lawful}
use denote.RawPtr.{block_ptr}
use denote.Sharing.{ends, always}
use denote.SharingLaws.{some_shr_laws, beside_shr_laws, ends_shr_laws, always_shr_laws}
use denote.Param.{layout}
use denote.Param.Laws.{Laws}
use denote.Struct.Members.{Member, row_of}
use denote.Struct.Lending.{Law}
use Rattle.std.proofs.cell.BorrowLemmas.{by_one}
use Rattle.thread_local_ids.specs.Locking.{Fitting, LockTurn, lock_invariant, lock_kept, lock_shares}
use Rattle.thread_local_ids.specs.declared.locks.lock.Fits.{Ghosts}
use Rattle.thread_local_ids.specs.contracts.locks.lock.Lock as C
use Rattle.thread_local_ids.proofs.SharedLock.{P, cut}
use Rattle.thread_local_ids.proofs.locks.lock.Lock.TheLaw.Statement.{statement}

pub shares : (T : RattleType) (g : Ghosts T.Denot) (L : Laws T) → statement T g L
shares T g L = let m : Member = record { row = T; ty = layout T } in
    let same : T ≡ row_of m = λ i. record {
      Denot = T.Denot;
      mir = L.one i;
      written = T.written;
      reaches = T.reaches;
      lives = T.lives;
      own_val = T.own_val;
      exit = T.exit;
      coded = T.coded;
      shr_at = T.shr_at;
    } in
    subst (λ (τ : List Ty). Law (C.the_written (record T { mir = τ }) g)) (sym L.one) (record {
      shr_laws = λ d b o.
          let ok = Fitting g.tag g.fits d.tag in
          some_shr_laws LockTurn (lock_kept (row_of m) ok b o) (λ t.
          beside_shr_laws (ends t.0) (always (fbor t.0 (lock_invariant (row_of m) ok b o t)))
          (ends_shr_laws t.0) (always_shr_laws (fbor t.0 (lock_invariant (row_of m) ok b o t))));
      shares = λ M 𝓤 𝓛 d κ ts b o inc sp.
          by_one 𝓛 κ ts sp (𝓛.A.bor κ (P 𝓛 m g d (subst (Lawful 𝓛) same (L.lawful 𝓛)) b o κ))
          (sem 𝓛 (lock_shares (row_of m) (Fitting g.tag g.fits d.tag) (block_ptr b o) κ))
          (cut 𝓛 m g d (subst (Lawful 𝓛) same (L.lawful 𝓛)) b o κ);
    })
