-- `drop` swaps the word for FREE, which puts the right to the value back into the invariant, and
-- wakes a thread that may sleep.
use Rattle.thread_local_base.proofs.Names.{◌≡◌, T, ℕ, ◌+◌, ◌^◌, List, [], ◌∷◌, sym, refl, ap, subst, lit<, w64, dcons}
use Rattle.thread_local_base.proofs.Names.{dnil, a_type, Val, has_ty, WT, vunit, vint, inst_fn, SProp, id⊢, via}
use Rattle.thread_local_base.proofs.Names.{guard_i, Lft, Share, Fml, ftrue, fsep, flft, fbor, sem, ‵, raw}
use Rattle.thread_local_base.proofs.Names.{◌⊛◌, some, given, later, mean, at_ret, ◌$◌, ◌∵◌, !, qed, by, move, keep}
use Rattle.thread_local_base.proofs.Names.{drop, split, join, fsplit, fjoin, fpick, fpack, pick, learn, use1}
use Rattle.thread_local_base.proofs.Names.{use3, await, rewrite, feq_i, feq_l, flt_i, stop, fld, addr, lit, unit_lit}
use Rattle.thread_local_base.proofs.Names.{of_opd, no_more, and_then, first, blocks, exec, Calls-last, returns, enter}
use Rattle.thread_local_base.proofs.Names.{alloc_all, pass_all, free_all, look_at, get, get_in, through, sets}
use Rattle.thread_local_base.proofs.Names.{sets_last, lands_last, env, agg, sub, whole, tables, fact, fact_use}
use Rattle.thread_local_base.proofs.Names.{no, RattleType, owns, types_at, plain, named_lft, Ptr, InBlock}
use Rattle.thread_local_base.proofs.Names.{block_ptr, block_of, count_of, at_block, nothing, heard, param, bounded}
use Rattle.thread_local_base.proofs.Names.{Stays, stay_dropped, walk_of, Goes-dropped, proved, leaves, fm, found}
use Rattle.thread_local_base.proofs.Names.{finds, tail}
use mir.Syntax.{Body, ty_unit}
use base.Fml.{feq}
use types.ByLocal.{is}
use denote.RawPtr.{ptr_val}
use denote.Steps.{only}
use denote.Triple.Call.{calls_at_last}
use denote.Triple.Spec.{triple_of}
use Rattle.std.proofs.raw_atomic.Calls.{seq_cst, swaps}
use Rattle.thread_local_ids.specs.Locking.{Fitting, fitting, lock_invariant, guard_owns}
use Rattle.thread_local_ids.specs.contracts.locks.lock.LockGuard as guard
use Rattle.thread_local_ids.specs.contracts.locks.lock.wake_if as waker
use Rattle.thread_local_ids.proofs.locks.lock.wake_if.Met as waker_met
use Rattle.thread_local_ids.specs.contracts.locks.lock.LockGuard.drop.{ended, clauses, Key.name as #self}
use Rattle.thread_local_ids.proofs.LockSteps.{released}
use Rattle.thread_local_ids.proofs.Fields.{guard_of, typed, told}
use Rattle.thread_local_ids.proofs.Guards.{placed}
use Rattle.thread_local_ids.proofs.locks.lock.LockGuard.drop.Statement.{statement}
use Rattle.thread_local_ids.proofs.locks.lock.LockGuard.drop.Code as code
use Rattle.thread_local_base.proofs.Walking.{lends_token, returns_token}

pub drop_spec : {M : Type 1} → statement M
drop_spec 𝓤 𝓛 𝓜 𝓡 wired X L g d d' _ _ =
    let H = 𝓛.H in let 𝓣 = tables 𝓤 H 𝓜 𝓡 𝓡.env in let R : RattleType = param 0 X in let En = ended X g d d' in
    let c = clauses X g d d' 𝓛 𝓜.mem 𝓡.returns in let inst = bounded (a_type ∷ []) (X, tt) (dcons d (dcons d' dnil)) in
    let fn = inst_fn inst code.function in let closed = code.unfolded 𝓤 H 𝓜 𝓡 wired (X, tt) d d' in
    let self = plain (λ κs. guard.the_row (named_lft 2 0 tt κs) R g) in
    let hs : Stays En.signature.params En.kept = (stay_dropped self no, tt) in
    let wakes = triple_of 𝓛 waker.signature (waker.spec 𝓛 𝓜.mem 𝓡.returns) in
    proved 𝓛 En hs c 𝓜 𝓡 (Goes-dropped 𝓛 2 self no (λ κs x f. refl), tt) (#self inst) fn closed
    (λ κs. ((λ x. guard_of x.lock ∷ []), tt))
    (λ κs. ((λ x vs so. told (named_lft 2 0 tt κs) R g x.lock vs so.0), tt))
    (λ κs qs bounds a gh are.
    let h = a.0 in let p : Ptr = h.lock in let b : ℕ = block_of p in let o : ℕ = count_of p in let β : Lft = κs.0 in
    let q : Share = qs.0 in let x : X.Denot = h.value in let others : Fml = fsep (flft κs.1.0 qs.1.0) ftrue in
    let ok = Fitting g.tag g.fits h.tag in
    let y : (walk_of 𝓛 En hs c).Ghost = ((κs, qs, bounds, a, (guard_of p ∷ [], tt)), gh) in
    let Post : Val → SProp 𝓤 = (walk_of 𝓛 En hs c).post y in
    qed 𝓛 (((‵ (flft β q) ⊛ ‵ others) ⊛ ‵ (owns (types_at En.signature.params κs) a y.0.4))
    ∷ raw (fact 𝓤 _) ∷ raw (fact 𝓤 (g.tag x ≡ h.tag)) ∷ raw (fact 𝓤 (g.fits x)) ∷ []) ∵
    keep ! (2 ∷ 3 ∷ 0 ∷ []) $ heard ! (g.tag x ≡ h.tag) (λ same. heard ! (g.fits x) (λ fit.
    split ! $ split ! $ move ! (2 ∷ []) $ fsplit ! $ fsplit ! $ keep ! (1 ∷ 3 ∷ 4 ∷ []) $
    use1 𝓛 (given (InBlock p) (‵ (guard_owns β R ok p x)))
    (fact_use 𝓤 _ (placed 𝓛 β R ok p x) (guard_i 𝓤 (InBlock p) (sem 𝓛 (guard_owns β R ok p x)))) $
    learn ! (λ inb.
    let at : p ≡ block_ptr b o = at_block p inb in
    rewrite ! 0 (λ (z : Ptr). ‵ (guard_owns β R ok z x)) at refl $
    enter ! _ _ _ _ _ $ alloc_all ! (λ l. pass_all ! refl (typed p inb, tt) $ let Ev = env fn.locals l in
    fpick ! (λ t. let J : Fml = fbor t.0 (lock_invariant R ok b o t) in fsplit ! $ fsplit ! $ move ! (0 ∷ 3 ∷ []) $
    lends_token ! 𝓜 𝓡 β t.0 q $ await ! tt $ pick ! (λ s. split ! $
    -- [α's token, and the way back; the invariant; the right to the value; the other tokens]
    let Done : Body → Body = λ k. tail (tail k) in
    let third : Body = Done fn.body in
    let fifth : Body = Done third in
    let at-word : Ptr = block_ptr b (o + 0) in
    let out : Fml = fsep (flft t.0 s) ftrue in
    sets ! (is ! (of_opd ! (get_in ! (fld ! refl (stop !)) (sub ! 0 refl (whole !)))) (ap ptr_val at)) refl (tt, tt) $
    first ! $ blocks ! $ sets_last ! (addr ! (through ! refl (fld ! refl (stop !)))) refl (tt, tt) $
    exec ! 𝓣.C 𝓣.Λ Ev third (at_ret Ev Post) $ sets ! (of_opd ! (get ! refl)) refl (tt, tt) $
    move ! (3 ∷ []) $ nothing ! $ fpack ! (ok x) (λ _. ftrue) (fit, same) $ fjoin ! $ fpack ! X.Denot (fitting R ok b o t) x $
    move ! (3 ∷ 1 ∷ 0 ∷ []) $
    use3 𝓛
    (raw (𝓣.C _ (ptr_val at-word ∷ vint w64 0 ∷ seq_cst ∷ []) (λ v. mean 𝓛 (found (λ _. out) v))))
    (via 𝓤 _ (released 𝓛 R ok b o t s)
    (swaps 𝓛 𝓜 𝓡 (code.calls-std::sync::atomic::raw::swap 𝓡.env wired) at-word 0 (lit< tt)
    (λ _. out))) $
    first ! $ blocks ! $ sets ! (agg ! (and_then ! (lit ! tt) (no_more !))) refl (tt, (record { fits = lit< tt }, tt)) $
    Calls-last ! (fm 𝓛 𝓜 𝓡) (found (λ _. out))
    (and_then ! (get ! refl) (and_then ! (lit ! tt) (and_then ! (get ! refl) (no_more !)))) (λ v.
    finds ! (λ _. out) (λ n fits.
    lands_last ! refl (tt, record { fits = fits }) $ exec ! 𝓣.C 𝓣.Λ Ev fifth (at_ret Ev Post) $
    sets ! (of_opd ! (get ! refl)) refl (tt, record { fits = fits }) $
    fsplit ! $ move ! (0 ∷ 2 ∷ []) $
    returns_token ! β t.0 q s $ await ! tt $
    move ! (0 ∷ 2 ∷ []) $ join ! $
    -- [the tokens]
    let j : wakes.Ghost = ((tt, tt, tt, (at-word, (n, tt)), (ptr_val at-word ∷ [], (vint w64 n ∷ [], tt))), tt) in
    nothing ! $ flt_i ! n (2 ^ 64) fits $
    feq_i ! _ (vint w64 n ∷ []) _ refl $ fjoin ! $ fjoin ! $
    feq_i ! _ (ptr_val at-word ∷ []) _ refl $ fjoin ! $ nothing ! $
    join ! $ nothing ! $ move ! (1 ∷ 0 ∷ []) $ join ! $
    use1 𝓛 (raw (wakes.pre j)) (id⊢ 𝓤 (wakes.pre j)) $ first ! $ blocks ! $
    calls_at_last ! (fm 𝓛 𝓜 𝓡) wakes
    (waker_met.met 𝓤 𝓛 𝓜 𝓡 (code.calls-thread_local_ids::locks::lock::wake_if 𝓡.env wired)) j
    (and_then ! (get ! refl) (and_then ! (get ! refl) (no_more !))) (λ u.
    use1 𝓛 (later (some (λ (r : Unit {0}).
    (‵ ftrue ⊛ ‵ (feq (List Val) (u ∷ []) (vunit ∷ [])))
    ⊛ some (λ (_ : Unit {0} × (Unit {0} × Unit {0})).
    ‵ (fsep ftrue (fsep ftrue ftrue)) ⊛ ‵ ftrue))))
    (id⊢ 𝓤 (wakes.post j u)) $
    await ! tt $ pick ! (λ r. split ! $ split ! $ drop ! $ feq_l ! (λ e. pick ! (λ _. split ! $ drop ! $ drop ! $
    lands_last ! refl
    (subst (λ (w : Val). T (has_ty ty_unit w) × WT w) (sym (ap only e)) (tt, tt)) $
    exec ! 𝓣.C 𝓣.Λ Ev (Done fifth) (at_ret Ev Post) $ sets ! (of_opd ! (unit_lit !)) refl (tt, tt) $
    nothing ! $ feq_i ! _ (vunit ∷ []) _ refl $ nothing ! $ nothing ! $ fjoin ! $
    returns ! (look_at ! 0 refl) $ free_all ! refl $ keep ! (3 ∷ 0 ∷ 1 ∷ 2 ∷ []) $
    by ! (leaves 𝓛 En hs c y vunit tt (tt, tt) (tt, tt)))))))))))))))
