-- A call of `exchange` at `Brand`, with the outcome that the caller's proof picks. Assumes `Logic`.
use Rattle.std.proofs.Common.{ap, ℕ, ◌^◌, ◌<◌, List, [], ◌∷◌, sym, refl, w64, eqb}
use seplogic.Ra.Ura.{Ura}
use mir.Syntax.{Callee, Dict, a_type, dcons, dnil}
use mir.Val.{Val, vint, vptr, vunit}
use base.Fraction.{full_share}
use base.Logic.{SProp, ent, sep, emp, via, fst∗, emp∗, comm∗}
use base.Fml.{Lft, Share, Fml, ftrue, fsep, feq, flft}
use prog.Model.{Model}
use prog.Wired.{Wired}
use prog.Atomic.{either}
use types.Logic.{Logic, sem}
use types.Kit.{Item, mean, raw, ‵, ◌⊛◌, some, later, split, split3, pick, move, keep, feq_l, check, await, now}
use types.Kit.{updating, ◌$◌, ◌∵◌, !, qed, join, fjoin, feq_i, flt_i, use0, done}
use contract.Running.{Running, MachineTables, tables}
use denote.RawPtr.{Ptr, RawPtr, ptr_val}
use denote.Steps.{nothing, only}
use denote.Signature.{types_at}
use denote.RattleType.{RattleType, owns}
use denote.Param.{bounded}
use denote.Param.Laws.{Laws}
use denote.Builtin.{u64}
use denote.Memory.{hidden_shr}
use denote.Ref.{Bor}
use denote.Shadow.{makes_shadow}
use contract.BorrowLft.{◌⊑◌, ⊑_static}
use denote.Triple.Spec.{triple_of}
use Rattle.std.specs.Sync.RawAtomic.{asks, always}
use Rattle.std.specs.declared.sync.atomic.raw.Outcome as Outcome
use Rattle.std.specs.declared.sync.Wait as Waiting
use Rattle.std.specs.contracts.sync.Wait.TheBound as May
use Rattle.std.specs.contracts.sync.atomic.raw.park as park
use Rattle.std.proofs.sync.atomic.raw.park.Symbol as park_is
use Rattle.std.proofs.sync.atomic.raw.park.Met as park_met
use Rattle.std.proofs.raw_atomic.Calls.{fm, stored, marker, marker_laws, dict, picked, found, called, answers}
use Rattle.thread_local_ids.specs.contracts.locks.word.exchange as step
use Rattle.thread_local_ids.proofs.locks.word.exchange.Symbol as step_is
use Rattle.thread_local_ids.proofs.locks.word.exchange.Met as step_met
use Rattle.thread_local_base.proofs.Walking.{knows}

module _ {M : Type 1} {𝓤 : Ura M} (𝓛 : Logic 𝓤) (𝓜 : Model 𝓤 𝓛.H) (𝓡 : Running 𝓤 𝓛.H 𝓜) where
  open 𝓛 use {H, A}

  abbrev 𝓣 : MachineTables 𝓤 H 𝓜
  𝓣 = tables 𝓤 H 𝓜 𝓡 𝓡.env

  pub exchanges : Wired 𝓡.env step_is.code → (p : Ptr) (old new : ℕ) → old < 2 ^ 64 → new < 2 ^ 64 → (after : ℕ → Fml)
      → ent 𝓤 (asks 𝓛 p (λ n. either (eqb n old) new n) always after)
      (𝓣.C (step_is.name picked) (ptr_val p ∷ vint w64 old ∷ vint w64 new ∷ [])
      (λ v. mean 𝓛 (found after v)))
  exchanges w p old new fits-old fits-new after = let g : Outcome.Ghosts marker.Denot = record { after = after } in
      let c = triple_of 𝓛 (step.ended marker g dict).signature (step.spec marker g dict 𝓛 𝓜.mem 𝓡.returns) in
      let y : c.Ghost = (
        (([], tt), (full_share, tt), tt, (p, (old, (new, tt))), (ptr_val p ∷ [], (vint w64 old ∷ [], (vint w64 new ∷ [], tt)))),
        tt,
      ) in
      let args : Fml = owns (types_at (step.ended marker g dict).signature.params ([], tt)) y.0.3 y.0.4 in
      called 𝓛 𝓜 𝓡 (step_is.name picked) (ptr_val p ∷ vint w64 old ∷ vint w64 new ∷ []) args
      (qed 𝓛 [] ∵ nothing ! $ flt_i ! new (2 ^ 64) fits-new $
      feq_i ! _ (vint w64 new ∷ []) _ refl $ fjoin ! $ fjoin ! $
      flt_i ! old (2 ^ 64) fits-old $
      feq_i ! _ (vint w64 old ∷ []) _ refl $ fjoin ! $ fjoin ! $
      feq_i ! _ (ptr_val p ∷ []) _ refl $ done !)
      (asks 𝓛 p (λ n. either (eqb n old) new n) always after) (c.post y)
      (λ v. mean 𝓛 (found after v))
      (step_met.met 𝓤 𝓛 𝓜 𝓡 w marker marker_laws g dict record {} y)
      (answers 𝓛 𝓜 𝓡 (Unit {0} × (Unit {0} × (Unit {0} × Unit {0})))
      (λ _. fsep ftrue (fsep ftrue (fsep ftrue ftrue))) after)

  module _ (Z : RattleType) (laws : Laws Z) (g' : Waiting.Ghosts Z.Denot) (d' : Dict)
      (may : May.Met 𝓛 𝓜 𝓡 𝓡.env Z g' d') (κ υ : Lft) (q s : Share) (rt : Bor Z.Denot) where
    abbrev pub handle : Val
    handle = vptr rt.ref_ptr.0 rt.ref_ptr.1

    abbrev pub lent : Fml → Fml
    lent after = fsep after (fsep (flft κ q) (flft υ s))

    pub parks : Wired 𝓡.env park_is.code → κ ⊑ υ → υ ⊑ Z.lives → (p : Ptr) (seen secs nanos : ℕ)
        → seen < 2 ^ 64 → secs < 2 ^ 64 → nanos < 2 ^ 64 → (after : Fml)
        → ent 𝓤 (sep 𝓤 (asks 𝓛 p (λ n. n) always (λ _. after))
        (sep 𝓤 (sem 𝓛 (hidden_shr Z κ rt.now rt.ref_ptr.0 rt.ref_ptr.1))
        (sep 𝓤 (A.lft κ q) (A.lft υ s))))
        (𝓣.C
        (park_is.name
        (bounded (a_type ∷ a_type ∷ []) (marker, (Z, tt)) (dcons dict (dcons d' dnil))))
        (handle ∷ ptr_val p ∷ vint w64 seen ∷ vint w64 secs ∷ vint w64 nanos ∷ [])
        (λ v. mean 𝓛 (stored (lent after) v)))
    parks w within alive p seen secs nanos f₀ f₁ f₂ after =
        let g : Outcome.Ghosts marker.Denot = record { after = λ _. after } in
        let X : SProp 𝓤 = asks 𝓛 p (λ n. n) always (λ _. after) in
        let k : Callee =
        park_is.name
        (bounded (a_type ∷ a_type ∷ []) (marker, (Z, tt)) (dcons dict (dcons d' dnil))) in
        let vs : List Val = handle ∷ ptr_val p ∷ vint w64 seen ∷ vint w64 secs ∷ vint w64 nanos ∷ [] in
        let c = triple_of 𝓛 (park.ended marker Z g dict g' d').signature (park.spec marker Z g dict g' d' 𝓛 𝓜.mem 𝓡.returns) in
        let y : c.Ghost = (
          (
            (κ, ([], (υ, tt))),
            (q, (full_share, (s, tt))),
            (within, tt),
            (rt, (p, (seen, (secs, (nanos, tt))))),
            (handle ∷ [], (ptr_val p ∷ [], (vint w64 seen ∷ [], (vint w64 secs ∷ [], (vint w64 nanos ∷ [], tt))))),
          ),
          tt,
        ) in
        let rest : Fml =
        owns (RawPtr ∷ u64 ∷ u64 ∷ u64 ∷ []) (p, (seen, (secs, (nanos, tt)))) (
          ptr_val p ∷ [],
          (vint w64 seen ∷ [], (vint w64 secs ∷ [], (vint w64 nanos ∷ [], tt))),
        ) in
        let ts : Item 𝓤 = ‵ (flft κ q) ⊛ ‵ (flft [] full_share) ⊛ ‵ (flft υ s) ⊛ ‵ ftrue in
        let Z' : Val → SProp 𝓤 = λ v. mean 𝓛 (stored (lent after) v) in
        via 𝓤 (sep 𝓤 (𝓣.C k vs (c.post y)) (emp 𝓤)) (via 𝓤 (𝓣.C k vs (c.post y)) (via 𝓤 (c.pre y)
        (qed 𝓛 (raw X ∷ ‵ (hidden_shr Z κ rt.now rt.ref_ptr.0 rt.ref_ptr.1) ∷ ‵ (flft κ q) ∷ ‵ (flft υ s) ∷ []) ∵
        knows ! (υ ⊑ Z.lives) alive $ join ! $
        knows ! ([] ⊑ []) (⊑_static []) $ join ! $
        move ! (1 ∷ []) $
        feq_i ! _ (handle ∷ []) _ refl $ fjoin ! $
        use0 𝓛 (‵ rest) (makes_shadow 𝓛 rest (tt, ((tt, tt), ((tt, tt), ((tt, tt), tt))))
        (refl, ((refl, f₀), ((refl, f₁), ((refl, f₂), tt))))) $
        move ! (1 ∷ 0 ∷ []) $ fjoin ! $
        nothing ! $ move ! (4 ∷ 0 ∷ []) $ join ! $
        use0 𝓛 (‵ (flft [] full_share)) (𝓛.lfts.lft-nil full_share) $ join ! $ move ! (3 ∷ 0 ∷ []) $
        join ! $ join ! $ done !)
        (park_met.met 𝓤 𝓛 𝓜 𝓡 w marker Z marker_laws laws g dict g' d' record {} may y))
        (via 𝓤 _ (emp∗ 𝓤 (𝓣.C k vs (c.post y))) (comm∗ 𝓤 (emp 𝓤) (𝓣.C k vs (c.post y)))))
        (fm 𝓛 𝓜 𝓡 k vs (c.post y) Z' (emp 𝓤) (λ v. via 𝓤 (c.post y v) (fst∗ 𝓤 (c.post y v) (emp 𝓤))
        (qed 𝓛 (later (some (λ (n : Unit {0}).
        (ts ⊛ ‵ (feq (List Val) (v ∷ []) (vunit ∷ [])))
        ⊛ some
        (λ (ws : Unit {0} × (Unit {0} × (Unit {0} × (Unit {0} × (Unit {0} × Unit {0}))))).
        ‵ (fsep ftrue (fsep ftrue (fsep ftrue (fsep ftrue (fsep ftrue ftrue)))))
        ⊛ ‵ after)))
        ∷ []) ∵
        updating ! $ await ! tt $ pick ! (λ n. split ! $ split ! $ split3 ! $ move ! (2 ∷ []) $
        split ! $ move ! (4 ∷ []) $ feq_l ! (λ e. move ! (4 ∷ []) $ pick ! (λ ws. split ! $ now ! $
        check ! (sym (ap only e)) $ keep ! (1 ∷ 4 ∷ 2 ∷ []) $ done !))))))
