-- `seen` is one load of the word: the right to the value stays where it is.
use Rattle.thread_local_base.proofs.Names.{ℕ, ◌+◌, ◌^◌, [], ◌∷◌, refl, lit<, w64, dcons, dnil, a_type, named, Val}
use Rattle.thread_local_base.proofs.Names.{vint, vptr, inst_fn, SProp, via, Lft, Share, Fml}
use Rattle.thread_local_base.proofs.Names.{ftrue, fsep, flft, ‵, raw, ◌⊛◌, mean, at_ret, ◌$◌, ◌∵◌}
use Rattle.thread_local_base.proofs.Names.{ !, qed, by, move, keep, split, join, fsplit, fjoin, fpick, pick}
use Rattle.thread_local_base.proofs.Names.{use3, await, feq_i, flt_i, stop, fld, addr, lit, of_opd, no_more}
use Rattle.thread_local_base.proofs.Names.{and_then, first, blocks, exec, Calls-last, returns, enter, alloc_all}
use Rattle.thread_local_base.proofs.Names.{pass_all, free_all, look_at, get, through, sets, agg, lands_last, env, tables}
use Rattle.thread_local_base.proofs.Names.{yes, RattleType, owns, types_at, plain, block_ptr, nothing}
use Rattle.thread_local_base.proofs.Names.{unhide, param, bounded, RefOf, shr_vals, shr_Tells, Stays, stay_dropped}
use Rattle.thread_local_base.proofs.Names.{walk_of, Goes-dropped, proved, leaves, fm, found, finds, tail}
use Rattle.std.proofs.raw_atomic.Calls.{loads, seq_cst}
use Rattle.thread_local_ids.specs.Locking.{Fitting}
use Rattle.thread_local_ids.specs.contracts.locks.lock.Lock as lock
use Rattle.thread_local_ids.specs.contracts.locks.lock.Lock.seen.{ended, clauses, Key.name as #self}
use Rattle.thread_local_ids.proofs.LockSteps.{looked}
use Rattle.thread_local_ids.proofs.locks.lock.Lock.seen.Statement.{statement}
use Rattle.thread_local_ids.proofs.locks.lock.Lock.seen.Code as code
use Rattle.thread_local_base.proofs.Walking.{lends_token, returns_token}

pub seen_spec : {M : Type 1} → statement M
seen_spec 𝓤 𝓛 𝓜 𝓡 wired X L g d _ =
    let H = 𝓛.H in let 𝓣 = tables 𝓤 H 𝓜 𝓡 𝓡.env in let R : RattleType = param 0 X in let En = ended X g d in
    let c = clauses X g d 𝓛 𝓜.mem 𝓡.returns in let inst = bounded (a_type ∷ []) (X, tt) (dcons d dnil) in
    let fn = inst_fn inst code.function in let closed = code.unfolded 𝓤 H 𝓜 𝓡 wired (X, tt) d in
    let Row : RattleType = lock.the_row R g in let self = RefOf (0 ∷ []) tt (plain (λ _. Row)) (λ _. tt) in
    let hs : Stays En.signature.params En.kept = (stay_dropped self yes, tt) in
    proved 𝓛 En hs c 𝓜 𝓡 (Goes-dropped 𝓛 2 self yes (λ κs x f. refl), tt) (#self inst) fn closed
    (λ κs. (shr_vals, tt)) (λ κs. (shr_Tells (named 0) κs.0 Row, tt)) (λ κs qs bounds a gh are.
    let b : ℕ = a.0.ref_ptr.0 in let o : ℕ = a.0.ref_ptr.1 in let κ : Lft = κs.0 in let q : Share = qs.0 in
    let ok = Fitting g.tag g.fits a.0.now.tag in
    let others : Fml = fsep (flft κs.1.0 qs.1.0) ftrue in
    let y : (walk_of 𝓛 En hs c).Ghost = ((κs, qs, bounds, a, (vptr b o ∷ [], tt)), gh) in
    let Post : Val → SProp 𝓤 = (walk_of 𝓛 En hs c).post y in
    qed 𝓛 (((‵ (flft κ q) ⊛ ‵ others) ⊛ ‵ (owns (types_at En.signature.params κs) a y.0.4))
    ∷ raw ((c κs a).requires gh) ∷ []) ∵
    split ! $ split ! $ move ! (2 ∷ []) $ fsplit ! $ fsplit ! $ keep ! (1 ∷ 3 ∷ 4 ∷ []) $
    enter ! _ _ _ _ _ $ alloc_all ! (λ l. pass_all ! refl ((tt, tt), tt) $ let Ev = env fn.locals l in
    unhide ! $ fpick ! (λ t. fsplit ! $ move ! (0 ∷ 2 ∷ []) $
    lends_token ! 𝓜 𝓡 κ t.0 q $ await ! tt $ pick ! (λ s. split ! $
    -- [α's token, and the way back; the invariant; the other tokens]
    let out : ℕ → Fml = λ n. fsep (flft t.0 s) ftrue in
    first ! $ blocks ! $ sets ! (addr ! (through ! refl (fld ! refl (stop !)))) refl (tt, tt) $ nothing ! $ move ! (3 ∷ 1 ∷ 0 ∷ []) $
    use3 𝓛 (raw (𝓣.C _ (vptr b (o + 0) ∷ seq_cst ∷ []) (λ u. mean 𝓛 (found out u))))
    (via 𝓤 _ (looked 𝓛 R ok b o t s)
    (loads 𝓛 𝓜 𝓡 (code.calls-std::sync::atomic::raw::load 𝓡.env wired) (block_ptr b (o + 0)) out)) $
    sets ! (agg ! (and_then ! (lit ! tt) (no_more !))) refl (tt, (record { fits = lit< tt }, tt)) $
    Calls-last ! (fm 𝓛 𝓜 𝓡) (found out) (and_then ! (get ! refl) (and_then ! (get ! refl) (no_more !))) (λ u.
    finds ! out (λ n fits.
    lands_last ! refl (tt, record { fits = fits }) $
    exec ! 𝓣.C 𝓣.Λ Ev (tail fn.body) (at_ret Ev Post) $
    sets ! (of_opd ! (get ! refl)) refl (tt, record { fits = fits }) $
    fsplit ! $ move ! (0 ∷ 2 ∷ []) $
    returns_token ! κ t.0 q s $ await ! tt $
    nothing ! $ nothing ! $ fjoin ! $ move ! (1 ∷ 3 ∷ []) $ join ! $ nothing ! $
    flt_i ! n (2 ^ 64) fits $ feq_i ! _ (vint w64 n ∷ []) _ refl $ fjoin ! $
    returns ! (look_at ! 0 refl) $ free_all ! refl $ keep ! (2 ∷ 3 ∷ 0 ∷ 1 ∷ []) $
    by ! (leaves 𝓛 En hs c y (vint w64 n) n (tt, tt) (tt, tt))))))))
