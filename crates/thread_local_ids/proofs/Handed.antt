-- A `&mut` to a guard becomes one to its value; once that ends, the guard has the value that was
-- written. Assumes `Logic`.
use Rattle.std.proofs.Common.{◌≡◌, ℕ, ◌+◌, [], ◌∷◌, sym, refl, ap}
use seplogic.Ra.Ura.{Ura}
use base.Fraction.{full_share}
use base.Logic.{SProp, ent, sep, ex}
use base.Fml.{Lft, GName, Share, Incl, Fml, fobs, fbor, finv}
use base.Before.{before}
use types.Logic.{Logic, sem}
use types.SemTy.{Body}
use types.Kit.{‵, ◌⊛◌, ◌$◌, ◌∵◌, !, qed, by, move, use1, split, fsplit, fjoin, fpick, fpack, show, rewrite, done}
use denote.RattleType.{RattleType}
use denote.Memory.{mem, part_at}
use denote.Ref.{NamedLft}
use denote.RawPtr.{Ptr, block_ptr}
use denote.Struct.OwningLaws.{part_out, part_in}
use Rattle.std.proofs.cell.Through.{Handed, hands_before}
use Rattle.thread_local_ids.specs.declared.locks.lock.Fits.{Ghosts}
use Rattle.thread_local_ids.specs.Guarded.{guard_with_value}
use Rattle.thread_local_ids.specs.Locking.{Fitting, offset, LockTurn, named_value, lock_invariant, guarding, guard_owns}
use Rattle.thread_local_ids.specs.contracts.locks.lock.LockGuard as guard
use Rattle.thread_local_ids.proofs.Fields.{FieldsType}

module _ {M : Type 1} {𝓤 : Ura M} (𝓛 : Logic 𝓤) (a : NamedLft) (R : RattleType) (g : Ghosts R.Denot)
    (d : (guard.the_row a R g).Denot) (b o c e : ℕ) (at : d.lock ≡ block_ptr c e) where
  open 𝓛 use {H, A}

  abbrev G : RattleType
  G = guard.the_row a R g

  abbrev F : R.Denot → G.Denot
  F = guard_with_value d

  abbrev ok : R.Denot → Type 0
  ok = Fitting g.tag g.fits d.tag

  abbrev pub Data : Fml
  Data = part_at (FieldsType a R g) full_share (d.lock, (tt, tt)) b o

  abbrev pub Had : Ptr → R.Denot → Fml
  Had p w = guard_owns a.lft R ok p w

  abbrev Whole : R.Denot → Fml
  Whole w = part_at G full_share (F w) b o

  -- what the guard keeps while the value is lent
  abbrev Rest : LockTurn → SProp 𝓤
  Rest t = sep 𝓤 (sem 𝓛 (finv (fbor t.0 (lock_invariant R ok c e t)))) (sem 𝓛 Data)

  abbrev Cut : R.Denot → LockTurn → SProp 𝓤
  Cut w t =
      sep 𝓤 (sem 𝓛 (before a.lft t.0))
      (sep 𝓤 (A.obs t.1 (R.coded.code w))
      (sep 𝓤 (A.bor t.0 (Body (mem R) c (e + offset R) t.1)) (Rest t)))

  back : (t : LockTurn) (w : R.Denot) → ent 𝓤 (Cut w t) (sem 𝓛 (Whole w))
  back t w =
      qed 𝓛 (‵ (before a.lft t.0) ∷ ‵ (fobs t.1 (R.coded.code w))
      ∷ ‵ (fbor t.0 (named_value R ok c e t))
      ∷ (‵ (finv (fbor t.0 (lock_invariant R ok c e t))) ⊛ ‵ Data) ∷ []) ∵
      move ! (3 ∷ []) $ split ! $ move ! (2 ∷ 0 ∷ []) $ fjoin ! $ move ! (2 ∷ 3 ∷ []) $ fjoin ! $
      move ! (1 ∷ 0 ∷ []) $ fjoin ! $
      fpack ! LockTurn (λ s. guarding R ok c e s a.lft w) t $
      rewrite ! 0 (λ (p : Ptr). ‵ (Had p w)) (sym at) refl $ move ! (1 ∷ 0 ∷ []) $
      by ! (part_in 𝓛 (guard.the_type a R g) full_share (F w) b o)

  cut : ent 𝓤 (sem 𝓛 (part_at G full_share d b o)) (ex 𝓤 (Cut d.value))
  cut =
      qed 𝓛 (‵ (part_at G full_share d b o) ∷ []) ∵
      use1 𝓛 (‵ Data ⊛ ‵ (Had d.lock d.value))
      (part_out 𝓛 (guard.the_type a R g) full_share d b o) $
      split ! $ move ! (1 ∷ []) $ rewrite ! 0 (λ (p : Ptr). ‵ (Had p d.value)) at refl $
      fpick ! (λ t.
      fsplit ! $ fsplit ! $ move ! (2 ∷ []) $ fsplit ! $ show ! (Cut d.value) t $
      move ! (2 ∷ 0 ∷ 1 ∷ 3 ∷ []) $ done !)

  pub hands_value : (κ : Lft) (q : Share) (γ : GName) → Incl κ a.lft
      → ent 𝓤 (sep 𝓤 (A.obs γ (G.coded.code d)) (sep 𝓤 (A.bor κ (Body (mem G) b o γ)) (A.lft κ q)))
      (H.⇛ (ex 𝓤 (Handed 𝓛 (mem G) (mem R) F (λ v w same. ap (λ (h : G.Denot). h.value) same) b
      o c (e + offset R) γ κ q d.value)))
  hands_value κ q γ inc =
      hands_before 𝓛 (mem G) (mem R) F (λ v w same. ap (λ (h : G.Denot). h.value) same) b o c
      (e + offset R) γ κ a.lft inc LockTurn (λ t. t.0) (λ t. t.1) Rest back q d d.value cut
