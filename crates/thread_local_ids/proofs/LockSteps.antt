-- The atomic steps on the word of a shared lock: compare and exchange, look, and release. Assumes
-- `Logic`.
use Rattle.std.proofs.Common.{◌≢◌, ℕ, zero, suc, ◌+◌, [], ◌∷◌, refl, eqb, Bool, true, false, sym}
use Rattle.std.proofs.Math.Dec.{eqb-zero-suc}
use seplogic.Ra.Ura.{Ura}
use base.Logic.{ent, sep, emp, upd_i}
use base.Fml.{Share, Fml, ftrue, fsep, flft, fbor}
use prog.Atomic.{either}
use types.Logic.{Logic, sem}
use types.Kit.{‵, rewrite, use0, ◌$◌, ◌∵◌, !, qed, move, keep, drop, fsplit, fjoin}
use types.Kit.{suffices, use1, done}
use denote.RattleType.{RattleType}
use denote.Steps.{nothing}
use denote.RawPtr.{block_ptr}
use Rattle.std.specs.Sync.RawAtomic.{asks, always}
use Rattle.thread_local_ids.specs.Locking.{LockTurn, with_word, lock_invariant}
use Rattle.thread_local_base.proofs.SharedWord.{stepped}

module _ {M : Type 1} {𝓤 : Ura M} (𝓛 : Logic 𝓤) (R : RattleType) (ok : R.Denot → Type 0) (b o : ℕ)
    (t : LockTurn) (q : Share) where
  open 𝓛 use {A}

  abbrev I : Fml
  I = lock_invariant R ok b o t

  abbrev With : ℕ → Fml
  With = with_word R ok b o t

  -- what a compare and exchange that writes a word other than FREE gains: what lay beside the word,
  -- if it expects FREE
  abbrev pub gained : ℕ → ℕ → Fml
  gained zero n = With n
  gained (suc k) n = ftrue

  taken : (c : Bool) (new n : ℕ) → ent 𝓤 (emp 𝓤) (sem 𝓛 (With (either c (suc new) (suc n))))
  taken true new n = qed 𝓛 [] ∵ nothing ! $ done !
  taken false new n = qed 𝓛 [] ∵ nothing ! $ done !

  changed : (old new n : ℕ) → ent 𝓤 (sem 𝓛 (With n)) (sem 𝓛 (fsep (With (either (eqb n old) (suc new) n)) (gained old n)))
  changed zero new zero = qed 𝓛 (‵ (With 0) ∷ []) ∵ nothing ! $ fjoin ! $ done !
  changed zero new (suc n) =
      let Y : Fml = With (either (eqb (suc n) 0) (suc new) (suc n)) in
      qed 𝓛 (‵ (With (suc n)) ∷ []) ∵ use0 𝓛 (‵ Y) (taken (eqb (suc n) 0) new n) $ fjoin ! $ done !
  changed (suc k) new zero =
      qed 𝓛 (‵ (With 0) ∷ []) ∵
      rewrite ! 0 (λ (c : Bool). ‵ (With (either c (suc new) 0))) (sym (eqb-zero-suc k)) refl $
      nothing ! $ move ! (1 ∷ []) $ fjoin ! $ done !
  changed (suc k) new (suc n) =
      let Y : Fml = With (either (eqb (suc n) (suc k)) (suc new) (suc n)) in
      qed 𝓛 (‵ (With (suc n)) ∷ []) ∵ use0 𝓛 (‵ Y) (taken (eqb (suc n) (suc k)) new n) $ fjoin ! $
      done !

  pub exchanged : (old new : ℕ) → new ≢ 0
      → ent 𝓤 (sep 𝓤 (A.inv (fbor t.0 I)) (sep 𝓤 (A.lft t.0 q) (sem 𝓛 ftrue)))
      (asks 𝓛 (block_ptr b (o + 0)) (λ n. either (eqb n old) new n) always
      (λ n. fsep (flft t.0 q) (gained old n)))
  exchanged old zero free = absurd (free refl)
  exchanged old (suc k) free =
      stepped 𝓛 With b (o + 0) t.0 q (λ n. either (eqb n old) (suc k) n) (gained old) ftrue (λ n.
      qed 𝓛 (‵ (With n) ∷ ‵ ftrue ∷ []) ∵ keep ! (0 ∷ []) $
      use1 𝓛 (‵ (fsep (With (either (eqb n old) (suc k) n)) (gained old n))) (changed old k n) $ fsplit ! $
      suffices ! _ (upd_i 𝓤 _) $ done !)

  pub looked : ent 𝓤 (sep 𝓤 (A.inv (fbor t.0 I)) (sep 𝓤 (A.lft t.0 q) (sem 𝓛 ftrue)))
      (asks 𝓛 (block_ptr b (o + 0)) (λ n. n) always (λ n. fsep (flft t.0 q) ftrue))
  looked = stepped 𝓛 With b (o + 0) t.0 q (λ n. n) (λ _. ftrue) ftrue (λ n. upd_i 𝓤 (sep 𝓤 (sem 𝓛 (With n)) (sem 𝓛 ftrue)))

  pub released : ent 𝓤 (sep 𝓤 (A.inv (fbor t.0 I)) (sep 𝓤 (A.lft t.0 q) (sem 𝓛 (With 0))))
      (asks 𝓛 (block_ptr b (o + 0)) (λ _. 0) always (λ _. fsep (flft t.0 q) ftrue))
  released =
      stepped 𝓛 With b (o + 0) t.0 q (λ _. 0) (λ _. ftrue) (With 0) (λ n.
      qed 𝓛 (‵ (With n) ∷ ‵ (With 0) ∷ []) ∵ drop ! $ suffices ! _ (upd_i 𝓤 _) $ nothing ! $ move ! (1 ∷ 0 ∷ []) $ done !)
