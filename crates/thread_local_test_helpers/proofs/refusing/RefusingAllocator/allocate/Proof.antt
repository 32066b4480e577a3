-- `allocate` keeps the size of the request, and answers `Err`.
use Rattle.std.proofs.Common.{◌≡◌, ℕ, ◌+◌, ◌^◌, ◌<◌, List, [], ◌∷◌, false, Err, refl, ap, w64}
use seplogic.Ra.Ura.{Ura}
use mir.Syntax.{Ty}
use mir.Val.{Val, vunit, vint, vptr}
use base.Logic.{SProp, ent, sep, guard, id⊢}
use base.Fml.{Lft, Share, ftrue, fsep, flft}
use prog.Memory.{Memory}
use prog.Routine.{Routine}
use prog.Wp.{Calls, Loops, WpFn, Tables}
use types.Logic.{Logic, sem}
use contract.Monad.{Fun}
use contract.Running.{tables, tables_of}
use sound.WpLaws.{FmC, fm_of, WpFn-mono}
use types.Kit.{‵, raw, ◌⊛◌, some, later, given, ◌$◌, ◌∵◌, !, qed, move, keep, use0, use1, use2, split, join, pick}
use types.Kit.{learn, fsplit, fjoin, feq_i, feq_l, flt_i, check, await, updating, now as at_once, suffices, done}
use types.Part.{agg}
use types.Run.{stop, fld, addr, lit, no_more, and_then, returns, enter}
use types.ByLocal.{alloc_all, pass_all, free_all, look_at, get, through, sets, lands_as}
use denote.RattleType.{RattleType, owns}
use denote.Memory.{hidden_shr}
use denote.Exit.{yes}
use denote.Opens.{unhide}
use denote.Builtin.{usize, unit, RefOf}
use denote.Plain.{uint_vals, uint_Tells}
use denote.Signature.{plain, type_at, types_at}
use denote.Steps.{nothing, only}
use denote.Triple.Spec.{triple_of}
use denote.Triple.Statement.{Contract, Triple}
use denote.Triple.Table.{entered, cited}
use denote.Triple.Call.{calls_at}
use denote.Triple.Walked.{Stays, stay_dropped, walk_of, ends_at, walked, Goes-dropped, walk_Meets}
use Rattle.std.proofs.alloc.Calls.{Answer, answer_val, Answer-typed, Answer-err}
use Rattle.std.specs.contracts.cell.Cell as CE
use Rattle.thread_local_test_helpers.specs.contracts.refusing.keep as KE
use Rattle.thread_local_test_helpers.proofs.refusing.keep.Symbol as c_sym
use Rattle.thread_local_test_helpers.proofs.refusing.keep.Met as c_met
use Rattle.thread_local_test_helpers.specs.contracts.refusing.Refusing as wrapper
use Rattle.thread_local_test_helpers.specs.contracts.refusing.RefusingAllocator.allocate as F
use Rattle.thread_local_test_helpers.specs.contracts.refusing.RefusingAllocator.allocate.Key.{name as #self}
use Rattle.thread_local_test_helpers.proofs.refusing.RefusingAllocator.allocate.Statement as stated
use Rattle.thread_local_test_helpers.proofs.refusing.RefusingAllocator.allocate.Code as code

abbrev stayed : Stays (F.ended).signature.params (F.ended).kept
stayed = (
  stay_dropped (RefOf (0 ∷ []) tt (plain (λ _. wrapper.the_row)) (λ _. tt)) yes,
  (stay_dropped (plain (λ _. usize)) yes, (stay_dropped (plain (λ _. usize)) yes, tt)),
)

abbrev Bytes : RattleType
Bytes = CE.the_row usize

module _ {M : Type 1} {𝓤 : Ura M} (𝓛 : Logic 𝓤) (at_mem : Memory → SProp 𝓤) (run : Routine → Fun 𝓤) where
  abbrev pub Keep : Contract 𝓤
  Keep = triple_of 𝓛 KE.signature (KE.spec 𝓛 at_mem run)

  abbrev pub at_keep : Lft → Share → ℕ × ℕ → ℕ → Keep.Ghost
  at_keep κ q c n = (
    (
      (κ, tt),
      (q, tt),
      tt,
      (record { ref_ptr = c; now = record { value = tt } }, (n, tt)),
      (vptr c.0 c.1 ∷ [], (vint w64 n ∷ [], tt)),
    ),
    tt,
  )

module _ {M : Type 1} {𝓤 : Ura M} (𝓛 : Logic 𝓤) (at_mem : Memory → SProp 𝓤) (run : Routine → Fun 𝓤)
    (κ : Lft) (q : Share) (c : ℕ × ℕ) (n : ℕ) where
  open 𝓛 use {H, A}

  Keep-goes : n < 2 ^ 64
      → ent 𝓤 (sep 𝓤 (sem 𝓛 (hidden_shr Bytes κ (record { value = tt }) c.0 c.1)) (A.lft κ q))
      ((Keep 𝓛 at_mem run).pre (at_keep 𝓛 at_mem run κ q c n))
  Keep-goes fits =
      qed 𝓛 (‵ (hidden_shr Bytes κ (record { value = tt }) c.0 c.1) ∷ ‵ (flft κ q) ∷ []) ∵
      feq_i ! (List Val) (vptr c.0 c.1 ∷ []) (vptr c.0 c.1 ∷ []) refl $ fjoin ! $
      nothing ! $ flt_i ! n (2 ^ 64) fits $
      feq_i ! (List Val) (vint w64 n ∷ []) (vint w64 n ∷ []) refl $ fjoin ! $ fjoin ! $
      move ! (1 ∷ []) $ fjoin ! $
      nothing ! $ move ! (2 ∷ []) $ join ! $ join ! $ nothing ! $ move ! (1 ∷ []) $ join ! $ done !

  Keep-gives : (v : Val)
      → ent 𝓤 ((Keep 𝓛 at_mem run).post (at_keep 𝓛 at_mem run κ q c n) v)
      (H.⇛ (guard 𝓤 (v ≡ vunit) (A.lft κ q)))
  Keep-gives v =
      qed 𝓛 (types.Kit.raw ((Keep 𝓛 at_mem run).post (at_keep 𝓛 at_mem run κ q c n) v) ∷ []) ∵ updating ! $
      use1 𝓛 (later (some (λ (r : Unit {0}).
      ((‵ (flft κ q) ⊛ ‵ ftrue) ⊛ ‵ (unit.own_val r (v ∷ [])))
      ⊛ some (λ (ws : Unit {0} × (Unit {0} × Unit {0})).
      ‵ (fsep ftrue (fsep ftrue ftrue)) ⊛ ‵ ftrue))))
      (id⊢ 𝓤 _) $
      await ! tt $ pick ! (λ r.
      split ! $ split ! $ move ! (1 ∷ []) $ feq_l ! (λ e. split ! $ at_once ! $ check ! (ap only e) $ keep ! (0 ∷ []) $ done !))

module _ {M : Type 1} {𝓤 : Ura M} (𝓛 : Logic 𝓤) (at_mem : Memory → SProp 𝓤) (run : Routine → Fun 𝓤)
    (C : Calls 𝓤 𝓛.H) (Λ : Loops 𝓤 𝓛.H) (fm : FmC 𝓤 𝓛.H 𝓛.laws C) where
  open 𝓛 use {H}

  abbrev Bound : Type 0
  Bound = (walk_of 𝓛 F.ended stayed (F.clauses 𝓛 at_mem run)).Ghost

  abbrev Pre : Bound → SProp 𝓤
  Pre = (walk_of 𝓛 F.ended stayed (F.clauses 𝓛 at_mem run)).pre

  abbrev Post : Bound → Val → SProp 𝓤
  Post = (walk_of 𝓛 F.ended stayed (F.clauses 𝓛 at_mem run)).post

  module _ (κ : Lft) (q : Share)
      (r : (type_at {n = 1} (RefOf (0 ∷ []) tt (plain (λ _. wrapper.the_row)) (λ _. tt))
      (κ, tt)).Denot)
      (n a : ℕ) (τ : Ty) where
    abbrev bound : Bound
    bound = (
      (
        (κ, tt),
        (q, tt),
        tt,
        (r, (n, (a, tt))),
        (vptr r.ref_ptr.0 r.ref_ptr.1 ∷ [], (vint w64 n ∷ [], (vint w64 a ∷ [], tt))),
      ),
      τ,
    )

    walk : Triple 𝓤 (C c_sym.name) (Keep 𝓛 at_mem run) → n < 2 ^ 64 → a < 2 ^ 64
        → ent 𝓤 (Pre bound) (WpFn 𝓤 H C Λ code.function
        (vptr r.ref_ptr.0 r.ref_ptr.1 ∷ vint w64 n ∷ vint w64 a ∷ []) (Post bound))
    walk kn fn fa =
        let c : ℕ × ℕ = (r.ref_ptr.0, r.ref_ptr.1 + 0) in
        qed 𝓛 (((‵ (flft κ q) ⊛ ‵ ftrue)
        ⊛ ‵ (owns (types_at (F.signature).params (κ, tt)) bound.0.3 bound.0.4))
        ∷ raw ((F.clauses 𝓛 at_mem run (κ, tt) bound.0.3).requires τ) ∷ []) ∵
        split ! $ split ! $ move ! (2 ∷ []) $ fsplit ! $ fsplit ! $ move ! (1 ∷ []) $ unhide ! $ fsplit ! $ fsplit ! $
        use1 𝓛 (‵ (hidden_shr Bytes κ (record { value = tt }) c.0 c.1)) (id⊢ 𝓤 _) $ keep ! (0 ∷ 5 ∷ 6 ∷ []) $
        enter ! C Λ code.function (vptr r.ref_ptr.0 r.ref_ptr.1 ∷ vint w64 n ∷ vint w64 a ∷ []) _ $
        alloc_all ! (λ l.
        pass_all ! refl ((tt, tt), ((tt, record { fits = fn }), ((tt, record { fits = fa }), tt))) $
        sets ! (addr ! (through ! refl (fld ! refl (stop !)))) refl (tt, tt) $
        use2 𝓛 (raw ((Keep 𝓛 at_mem run).pre (at_keep 𝓛 at_mem run κ q c n))) (Keep-goes 𝓛 at_mem run κ q c n fn) $
        calls_at ! fm (Keep 𝓛 at_mem run) kn (at_keep 𝓛 at_mem run κ q c n)
        (and_then ! (get ! refl) (and_then ! (get ! refl) (no_more !))) (λ u.
        use1 𝓛 (later (given (u ≡ vunit) (‵ (flft κ q)))) (Keep-gives 𝓛 at_mem run κ q c n u) $
        await ! tt $ learn ! (λ e. lands_as ! e refl (tt, tt) $
        sets ! (agg ! (no_more !)) refl (tt, tt) $
        sets ! (agg ! (and_then ! (lit ! tt) (and_then ! (get ! refl) (no_more !)))) refl
        (Answer-typed false 0 0) $
        returns ! (look_at ! 0 refl) $ free_all ! refl $
        suffices ! _ (ends_at 𝓛 F.ended stayed (F.clauses 𝓛 at_mem run) bound (answer_val false 0 0)
        (Err (record {})) (tt, (tt, (tt, tt))) (tt, (tt, (tt, tt)))) $
        nothing ! $
        use0 𝓛 (‵ (Answer.own_val (Err (record {})) (answer_val false 0 0 ∷ []))) (Answer-err 𝓛) $
        nothing ! $ nothing ! $ fjoin ! $ nothing ! $ fjoin ! $ nothing ! $ fjoin ! $ join ! $
        move ! (2 ∷ 3 ∷ []) $ join ! $ join ! $ done !)))

pub allocate_spec : {M : Type 1} → stated.statement M
unfolding tables_of
allocate_spec 𝓤 𝓛 𝓜 𝓡 wired =
    let A = 𝓛.A in
    let 𝓣 : Tables 𝓤 𝓛.H = tables_of 𝓤 𝓛.H 𝓜 (tables 𝓤 𝓛.H 𝓜 𝓡 𝓡.env) in
    let held = F.clauses 𝓛 𝓜.mem 𝓡.returns in
    entered 𝓤 𝓛.H (triple_of 𝓛 F.signature (F.spec 𝓛 𝓜.mem 𝓡.returns)) 𝓣.C 𝓣.Λ #self code.function
    (code.unfolded 𝓤 𝓛.H 𝓜 𝓡 wired)
    (walk_Meets 𝓛 F.ended stayed (
      Goes-dropped 𝓛 1 (RefOf (0 ∷ []) tt (plain (λ _. wrapper.the_row)) (λ _. tt)) yes
          (λ κs x f. refl),
      (
        Goes-dropped 𝓛 1 (plain (λ _. usize)) yes (λ κs x f. refl),
        (Goes-dropped 𝓛 1 (plain (λ _. usize)) yes (λ κs x f. refl), tt),
      ),
    )
    held (WpFn 𝓤 𝓛.H 𝓣.C 𝓣.Λ code.function) (WpFn-mono 𝓤 𝓛.H 𝓛.laws 𝓣 code.function)
    (walked 𝓛 F.ended stayed held (WpFn 𝓤 𝓛.H 𝓣.C 𝓣.Λ code.function)
    (λ κs. ((λ r. vptr r.ref_ptr.0 r.ref_ptr.1 ∷ []), (uint_vals w64, (uint_vals w64, tt))))
    (λ κs. ((λ r vs s. s.0), (uint_Tells w64, (uint_Tells w64, tt))))
    (λ κs qs bounds a g are.
    walk 𝓛 𝓜.mem 𝓡.returns 𝓣.C 𝓣.Λ (fm_of 𝓤 𝓛.H 𝓛.laws 𝓣) κs.0 qs.0 a.0 a.1.0 a.1.1.0 g
    (cited 𝓤 𝓛.H _ 𝓜 𝓡 𝓡.env c_sym.name (𝓡.env c_sym.name) refl
    (c_met.met 𝓤 𝓛 𝓜 𝓡 (code.calls-thread_local_test_helpers::refusing::keep 𝓡.env wired)))
    are.1.0.1 are.1.1.0.1)))
