-- `exchange` calls the atomic step, and returns the word that is in its result.
use Rattle.std.proofs.Common.{T, ◌≡◌, ℕ, ◌^◌, List, [], ◌∷◌, sym, refl, ap, lit<, w64, eqb}
use mir.Syntax.{dcons, dnil, a_type, ty_ptr}
use mir.Val.{Val, vint, has_ty, WT}
use mir.MapTy.{inst_fn}
use base.Logic.{SProp, emp, id⊢}
use base.Fml.{Lft, Share, Fml, ftrue, fsep, flft}
use prog.Wp.{Env}
use prog.Atomic.{either}
use types.Kit.{Item, ‵, raw, ◌⊛◌, some, later, at_ret, ◌$◌, ◌∵◌, !, qed, by, move, keep, drop, split, join, fsplit}
use types.Kit.{fjoin, pick, use0, use1, await, rewrite, feq_i, feq_l, flt_i, flt_l}
use types.Run.{lit, of_opd, no_more, and_then, first, blocks, exec, returns, enter}
use types.Part.{agg}
use types.ByLocal.{alloc_all, pass_all, free_all, look_at, get, sets, lands_as, lands_last, env}
use contract.Running.{tables}
use contract.Monad.{fact, fact_i}
use denote.Exit.{yes}
use denote.RattleType.{RattleType, owns}
use denote.Laws.{Is, shows}
use denote.Signature.{plain, types_at}
use denote.Builtin.{RawPtr, u64}
use denote.RawPtr.{Ptr, block_ptr, null_ptr, ptr_val, rawptr_vals, rawptr_Tells}
use denote.Plain.{uint_vals, uint_Tells}
use denote.Param.{bounded}
use denote.Param.Laws.{Laws, of_field}
use denote.Param.Shared.{copy_shared}
use denote.Steps.{nothing, only, peeks, heard}
use denote.Struct.Laws.{u64-laws, u64-copy}
use denote.Struct.Field.{u64-field}
use denote.Triple.Call.{calls_at, calls_at_last}
use denote.Triple.Spec.{triple_of}
use denote.Triple.Walked.{Stays, stay_dropped, walk_of, Goes-dropped}
use Rattle.std.proofs.raw_atomic.Walks.{proved, leaves}
use Rattle.std.proofs.raw_atomic.Calls.{fm, seq_cst}
use Rattle.std.specs.Result.{MatchResult}
use Rattle.std.specs.Sync.RawAtomic.{asks, always, word_found}
use Rattle.std.specs.declared.sync.atomic.Ordering.TheVariants.{SeqCst}
use Rattle.std.specs.contracts.sync.atomic.Ordering.{the_row as order_row}
use Rattle.std.specs.contracts.result.Result.{the_row as ResultOf}
use Rattle.std.specs.contracts.sync.atomic.raw.compare_exchange as callee
use Rattle.std.proofs.sync.atomic.raw.compare_exchange.Met.{met}
use Rattle.std.proofs.result.Result.TheLaws.{the_row_laws as result_laws}
use Rattle.thread_local_ids.specs.contracts.locks.word.word_of as reader
use Rattle.thread_local_ids.proofs.locks.word.word_of.Met as reader_met
use Rattle.thread_local_ids.specs.contracts.locks.word.exchange.{ended, clauses}
use Rattle.thread_local_ids.specs.contracts.locks.word.exchange.Key.{name as #self}
use Rattle.thread_local_ids.proofs.locks.word.exchange.Statement.{statement}
use Rattle.thread_local_ids.proofs.locks.word.exchange.Code as code
use Rattle.thread_local_base.proofs.Bodies.{tail}
use Rattle.thread_local_ids.proofs.Ordered.{order_made}

abbrev step : ℕ → ℕ → ℕ → ℕ
step old new n = either (eqb n old) new n

good : (p : Ptr) → T (has_ty ty_ptr (ptr_val p)) × WT (ptr_val p)
good (block_ptr b o) = (tt, tt)
good null_ptr = (tt, record { fits = lit< tt })

word_laws : Laws u64
word_laws = of_field u64-field u64-laws refl (copy_shared u64-field u64-copy)

pub exchange_spec : {M : Type 1} → statement M
exchange_spec 𝓤 𝓛 𝓜 𝓡 wired Y laws g d met' =
    let H = 𝓛.H in
    let 𝓣 = tables 𝓤 H 𝓜 𝓡 𝓡.env in
    let En = ended Y g d in
    let c = clauses Y g d 𝓛 𝓜.mem 𝓡.returns in
    let inst = bounded (a_type ∷ []) (Y, tt) (dcons d dnil) in
    let fn = inst_fn inst code.function in
    let closed = code.unfolded 𝓤 H 𝓜 𝓡 wired (Y, tt) d in
    let at = plain (λ _. RawPtr) in
    let number = plain (λ _. u64) in
    let hs : Stays En.signature.params En.kept =
    (stay_dropped at yes, (stay_dropped number yes, (stay_dropped number yes, tt))) in
    let called = triple_of 𝓛 (callee.signature Y) (callee.spec Y g d 𝓛 𝓜.mem 𝓡.returns) in
    let read = triple_of 𝓛 reader.signature (reader.spec 𝓛 𝓜.mem 𝓡.returns) in
    let s : Val = seq_cst in
    let O : Fml = order_row.own_val SeqCst (s ∷ []) in
    let Res : RattleType = ResultOf u64 u64 in
    let Both : Type 0 = (SeqCst ≡ SeqCst) × (SeqCst ≡ SeqCst) in
    proved 𝓛 En hs c 𝓜 𝓡 (
      Goes-dropped 𝓛 1 at yes (λ κs x f. refl),
      (
        Goes-dropped 𝓛 1 number yes (λ κs x f. refl),
        (Goes-dropped 𝓛 1 number yes (λ κs x f. refl), tt),
      ),
    )
    (#self inst) fn closed
    (λ κs. (rawptr_vals, (uint_vals w64, (uint_vals w64, tt))))
    (λ κs. (rawptr_Tells, (uint_Tells w64, (uint_Tells w64, tt)))) (λ κs qs bounds a gh are.
    let p : Ptr = a.0 in
    let old : ℕ = a.1.0 in
    let new : ℕ = a.1.1.0 in
    let κ : Lft = κs.0 in
    let q : Share = qs.0 in
    let ts : Item 𝓤 = ‵ (flft κ q) ⊛ ‵ ftrue in
    let us : List Val = ptr_val p ∷ vint w64 old ∷ vint w64 new ∷ [] in
    let z : (walk_of 𝓛 En hs c).Ghost =
    ((κs, qs, bounds, a, (ptr_val p ∷ [], (vint w64 old ∷ [], (vint w64 new ∷ [], tt)))), gh) in
    let Post : Val → SProp 𝓤 = (walk_of 𝓛 En hs c).post z in
    let y : called.Ghost = (
      (
        κs,
        qs,
        bounds,
        (p, (old, (new, (SeqCst, (SeqCst, tt))))),
        (ptr_val p ∷ [], (vint w64 old ∷ [], (vint w64 new ∷ [], (s ∷ [], (s ∷ [], tt))))),
      ),
      gh,
    ) in
    qed 𝓛 ((ts ⊛ ‵ (owns (types_at En.signature.params κs) a z.0.4)) ∷ raw (fact 𝓤 _)
    ∷ raw (asks 𝓛 p (step old new) always g.after) ∷ []) ∵
    split ! $ keep ! (0 ∷ 2 ∷ 3 ∷ []) $
    use0 𝓛 (raw (fact 𝓤 Both)) (fact_i 𝓤 Both (emp 𝓤) (refl, refl)) $ move ! (0 ∷ 3 ∷ []) $ join ! $
    move ! (2 ∷ 0 ∷ []) $ join ! $
    nothing ! $ use0 𝓛 (‵ O) (order_made 𝓛) $ fjoin ! $ use0 𝓛 (‵ O) (order_made 𝓛) $ fjoin ! $
    flt_i ! new (2 ^ 64) are.1.1.0.1 $
    feq_i ! (List Val) (vint w64 new ∷ []) (vint w64 new ∷ []) refl $ fjoin ! $ fjoin ! $
    flt_i ! old (2 ^ 64) are.1.0.1 $
    feq_i ! (List Val) (vint w64 old ∷ []) (vint w64 old ∷ []) refl $ fjoin ! $ fjoin ! $
    feq_i ! (List Val) (ptr_val p ∷ []) (ptr_val p ∷ []) refl $ fjoin ! $
    move ! (2 ∷ 0 ∷ []) $ join ! $ join ! $ use1 𝓛 (raw (called.pre y)) (id⊢ 𝓤 (called.pre y)) $
    enter ! 𝓣.C 𝓣.Λ fn us Post $ alloc_all ! (λ l.
    pass_all ! refl
    (good p, ((tt, record { fits = are.1.0.1 }), ((tt, record { fits = are.1.1.0.1 }), tt))) $
    let Ev : Env 𝓤 H = env fn.locals l in
    first ! $ blocks ! $ sets ! (of_opd ! (get ! refl)) refl (good p) $
    sets ! (of_opd ! (get ! refl)) refl (tt, record { fits = are.1.0.1 }) $
    sets ! (of_opd ! (get ! refl)) refl (tt, record { fits = are.1.1.0.1 }) $
    sets ! (agg ! (and_then ! (lit ! tt) (no_more !))) refl (tt, (record { fits = lit< tt }, tt)) $
    sets ! (agg ! (and_then ! (lit ! tt) (no_more !))) refl (tt, (record { fits = lit< tt }, tt)) $
    calls_at_last ! (fm 𝓛 𝓜 𝓡) called
    (met 𝓤 𝓛 𝓜 𝓡 (code.calls-std::sync::atomic::raw::compare_exchange 𝓡.env wired) Y laws g d met')
    y
    (and_then ! (get ! refl) (and_then ! (get ! refl)
    (and_then ! (get ! refl) (and_then ! (get ! refl) (and_then ! (get ! refl) (no_more !))))))
    (λ v.
    use1 𝓛 (later (some (λ (r : Res.Denot).
    (ts ⊛ ‵ (Res.own_val r (v ∷ [])))
    ⊛ some (λ (_ : Unit {0} × (Unit {0} × (Unit {0} × (Unit {0} × (Unit {0} × Unit {0}))))).
    ‵ (fsep ftrue (fsep ftrue (fsep ftrue (fsep ftrue (fsep ftrue ftrue)))))
    ⊛ (raw (fact 𝓤 (MatchResult r (λ n. n ≡ old) (λ n. n ≡ old → ⊥)))
    ⊛ ‵ (g.after (word_found r)))))))
    (id⊢ 𝓤 (called.post y v)) $
    await ! tt $ pick ! (λ r. split ! $ split ! $ move ! (2 ∷ []) $ pick ! (λ _. split ! $ drop ! $
    split ! $ drop ! $ move ! (2 ∷ []) $ peeks ! Res (Is Res) (shows 𝓛 Res) r (v ∷ []) (λ is.
    -- [the answer; the outcome; the tokens]
    let gv = (((result_laws u64 u64 word_laws word_laws).lawful 𝓛).typed r (v ∷ []) is).0 in
    let j : read.Ghost = ((tt, tt, tt, (r, tt), (v ∷ [], tt)), tt) in
    lands_last ! refl gv $ exec ! 𝓣.C 𝓣.Λ Ev (tail fn.body) (at_ret Ev Post) $ sets ! (of_opd ! (get ! refl)) refl gv $
    nothing ! $ move ! (1 ∷ 0 ∷ []) $ fjoin ! $ nothing ! $ join ! $ nothing ! $
    move ! (1 ∷ 0 ∷ []) $ join ! $ use1 𝓛 (raw (read.pre j)) (id⊢ 𝓤 (read.pre j)) $
    calls_at ! (fm 𝓛 𝓜 𝓡) read
    (reader_met.met 𝓤 𝓛 𝓜 𝓡 (code.calls-thread_local_ids::locks::word::word_of 𝓡.env wired)) j
    (and_then ! (get ! refl) (no_more !)) (λ u.
    use1 𝓛 (later (some (λ (n : ℕ).
    (‵ ftrue ⊛ ‵ (u64.own_val n (u ∷ [])))
    ⊛ some (λ (_ : Unit {0} × Unit {0}).
    ‵ (fsep ftrue ftrue) ⊛ raw (fact 𝓤 (n ≡ word_found r))))))
    (id⊢ 𝓤 (read.post j u)) $
    await ! tt $ pick ! (λ n. split ! $ split ! $ drop ! $ fsplit ! $ feq_l ! (λ e. flt_l ! (λ fits.
    pick ! (λ _. split ! $ drop ! $ heard ! (n ≡ word_found r) (λ same.
    lands_as ! (ap only e) refl (tt, record { fits = fits }) $ rewrite ! 0 (λ (m : ℕ). ‵ (g.after m)) (sym same) refl $
    flt_i ! n (2 ^ 64) fits $ feq_i ! (List Val) (vint w64 n ∷ []) (vint w64 n ∷ []) refl $
    fjoin ! $ nothing ! $ nothing ! $ fjoin ! $ nothing ! $ fjoin ! $ nothing ! $ fjoin ! $
    returns ! (look_at ! 0 refl) $ free_all ! refl $ keep ! (3 ∷ 0 ∷ 1 ∷ 2 ∷ []) $
    by ! (leaves 𝓛 En hs c z (vint w64 n) n (tt, (tt, (tt, tt))) (tt, (tt, (tt, tt))))))))))))))))
