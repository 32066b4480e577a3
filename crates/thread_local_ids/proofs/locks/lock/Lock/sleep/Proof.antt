-- `sleep` is one compare and exchange of TAKEN for AWAITED, and then parks on the word. The right to
-- the value stays where it is.
use Rattle.thread_local_base.proofs.Names.{ℕ, ◌+◌, [], ◌∷◌, refl, lit<, w64, dcons, dnil, a_type, named, Val}
use Rattle.thread_local_base.proofs.Names.{vunit, vint, vptr, inst_fn, SProp, via, Lft, Share, Fml, ftrue}
use Rattle.thread_local_base.proofs.Names.{fsep, flft, fbor, finv, drop, found, finds, ‵, raw, ◌⊛◌, mean, at_ret, ◌$◌, ◌∵◌, !, qed, by}
use Rattle.thread_local_base.proofs.Names.{move, keep, group, fsplit3, split, split3, join, fsplit, fjoin, fpick}
use Rattle.thread_local_base.proofs.Names.{pick, use1, use3, await, feq_i, stop, fld, addr, lit, unit_lit}
use Rattle.thread_local_base.proofs.Names.{of_opd, no_more, and_then, first, blocks, exec, Calls-last, returns, enter}
use Rattle.thread_local_base.proofs.Names.{alloc_all, pass_all, free_all, look_at, get, through, sets, lands_last}
use Rattle.thread_local_base.proofs.Names.{env, tables, fact, yes, RattleType, owns, types_at, plain}
use Rattle.thread_local_base.proofs.Names.{block_ptr, nothing, heard, unhide, param, bounded, RefOf, u64, shr_vals}
use Rattle.thread_local_base.proofs.Names.{shr_Tells, uint_vals, uint_Tells, Stays, stay_dropped, walk_of}
use Rattle.thread_local_base.proofs.Names.{Goes-dropped, proved, leaves, fm, stored, has_stored, tail}
use contract.BorrowLft.{◌⊑◌}
use Rattle.std.specs.Sync.RawAtomic.{asks, always}
use Rattle.std.proofs.Math.Nat.{suc-ne-zero}
use Rattle.thread_local_ids.specs.Locking.{Fitting, lock_invariant}
use Rattle.thread_local_ids.specs.contracts.locks.lock.Lock as lock
use Rattle.thread_local_ids.specs.contracts.locks.lock.Lock.sleep.{ended, clauses, Key.name as #self}
use Rattle.thread_local_ids.proofs.LockSteps.{gained, exchanged, looked}
use Rattle.thread_local_ids.proofs.Calls.{exchanges, lent, parks}
use Rattle.thread_local_ids.proofs.locks.lock.Lock.sleep.Statement.{statement}
use Rattle.thread_local_ids.proofs.locks.lock.Lock.sleep.Code as code
use Rattle.thread_local_base.proofs.Walking.{lends_token, returns_token}

pub sleep_spec : {M : Type 1} → statement M
sleep_spec 𝓤 𝓛 𝓜 𝓡 wired X Z L laws g d g' d' _ may =
    let H = 𝓛.H in let 𝓣 = tables 𝓤 H 𝓜 𝓡 𝓡.env in let R : RattleType = param 0 X in let W : RattleType = param 1 Z in
    let En = ended X Z g d g' d' in let c = clauses X Z g d g' d' 𝓛 𝓜.mem 𝓡.returns in
    let inst = bounded (a_type ∷ a_type ∷ []) (X, (Z, tt)) (dcons d (dcons d' dnil)) in let fn = inst_fn inst code.function in
    let closed = code.unfolded 𝓤 H 𝓜 𝓡 wired (X, (Z, tt)) d d' in let Row : RattleType = lock.the_row R g in
    let self = RefOf (0 ∷ []) tt (plain (λ _. Row)) (λ _. tt) in
    let waits = RefOf (1 ∷ []) tt (plain (λ _. W)) (λ _. tt) in
    let number = plain (λ _. u64) in
    let hs : Stays En.signature.params En.kept =
    (stay_dropped self yes, (stay_dropped waits yes, (stay_dropped number yes, tt))) in
    proved 𝓛 En hs c 𝓜 𝓡 (
      Goes-dropped 𝓛 4 self yes (λ κs x f. refl),
      (Goes-dropped 𝓛 4 waits yes (λ κs x f. refl), (Goes-dropped 𝓛 4 number yes (λ κs x f. refl), tt)),
    )
    (#self inst) fn closed
    (λ κs. (shr_vals, (shr_vals, (uint_vals w64, tt))))
    (λ κs. (shr_Tells (named 0) κs.0 Row, (shr_Tells (named 1) κs.1.0 W, (uint_Tells w64, tt))))
    (λ κs qs bounds a gh are.
    let b : ℕ = a.0.ref_ptr.0 in let o : ℕ = a.0.ref_ptr.1 in let κ : Lft = κs.0 in let q : Share = qs.0 in
    let ok = Fitting g.tag g.fits a.0.now.tag in
    let rt = a.1.0 in
    let secs : ℕ = a.1.1.0 in
    let ρ : Lft = κs.1.0 in
    let r : Share = qs.1.0 in
    let υ : Lft = κs.1.1.1.0 in
    let u : Share = qs.1.1.1.0 in
    let hv : Val = vptr rt.ref_ptr.0 rt.ref_ptr.1 in
    let y : (walk_of 𝓛 En hs c).Ghost = ((κs, qs, bounds, a, (vptr b o ∷ [], (hv ∷ [], (vint w64 secs ∷ [], tt)))), gh) in
    let Post : Val → SProp 𝓤 = (walk_of 𝓛 En hs c).post y in
    qed 𝓛 (((‵ (flft κ q) ⊛ ‵ (flft ρ r)
    ⊛ ‵ (fsep (flft κs.1.1.0 qs.1.1.0) (fsep (flft υ u) ftrue)))
    ⊛ ‵ (owns (types_at En.signature.params κs) a y.0.4))
    ∷ raw (fact 𝓤 _) ∷ raw (fact 𝓤 (υ ⊑ Z.lives)) ∷ ‵ ftrue ∷ []) ∵
    keep ! (2 ∷ 0 ∷ []) $ heard ! (υ ⊑ Z.lives) (λ alive. split ! $ split3 ! $ move ! (2 ∷ []) $
    fsplit ! $ move ! (1 ∷ []) $ fsplit ! $ move ! (5 ∷ []) $ fsplit ! $ fsplit ! $
    move ! (2 ∷ []) $ fsplit ! $ fsplit ! $ keep ! (4 ∷ 8 ∷ 1 ∷ 9 ∷ 5 ∷ 7 ∷ []) $
    enter ! _ _ _ _ _ $ alloc_all ! (λ l.
    pass_all ! refl ((tt, tt), ((tt, tt), ((tt, record { fits = are.1.1.0.1 }), tt))) $
    let Ev = env fn.locals l in
    unhide ! $ fpick ! (λ t. fsplit ! $ move ! (0 ∷ 2 ∷ []) $
    lends_token ! 𝓜 𝓡 κ t.0 q $ await ! tt $ pick ! (λ s. split ! $
    -- [α's token, and the way back; the invariant; what may wait, and its tokens; the last token]
    let J : Fml = fbor t.0 (lock_invariant R ok b o t) in let told : ℕ → Fml = λ n. fsep (flft t.0 s) (gained 𝓛 R ok b o t s 1 n) in
    let out : Fml = fsep (flft t.0 s) ftrue in let Out : Fml = lent 𝓛 𝓜 𝓡 Z laws g' d' may ρ υ r u rt out in
    move ! (2 ∷ []) $ use1 𝓛 (‵ (finv J) ⊛ ‵ (finv J)) (𝓛.invs.inv_dup J) $ split ! $
    first ! $ blocks ! $ sets ! (addr ! (through ! refl (fld ! refl (stop !)))) refl (tt, tt) $ nothing ! $ move ! (1 ∷ 3 ∷ 0 ∷ []) $
    use3 𝓛 (raw (𝓣.C _ (vptr b (o + 0) ∷ vint w64 1 ∷ vint w64 2 ∷ []) (λ v. mean 𝓛 (found told v))))
    (via 𝓤 _ (exchanged 𝓛 R ok b o t s 1 2 (suc-ne-zero 1))
    (exchanges 𝓛 𝓜 𝓡 (code.calls-thread_local_ids::locks::word::exchange 𝓡.env wired)
    (block_ptr b (o + 0)) 1 2 (lit< tt) (lit< tt) told)) $
    Calls-last ! (fm 𝓛 𝓜 𝓡) (found told)
    (and_then ! (get ! refl) (and_then ! (lit ! tt) (and_then ! (lit ! tt) (no_more !)))) (λ v.
    finds ! told (λ n fits.
    lands_last ! refl (tt, record { fits = fits }) $ exec ! 𝓣.C 𝓣.Λ Ev (tail fn.body) (at_ret Ev Post) $
    fsplit ! $ move ! (1 ∷ []) $ drop ! $
    first ! $ blocks ! $ sets ! (addr ! (through ! refl (fld ! refl (stop !)))) refl (tt, tt) $ nothing ! $ move ! (2 ∷ 1 ∷ 0 ∷ []) $
    use3 𝓛 (raw (asks 𝓛 (block_ptr b (o + 0)) (λ n. n) always (λ _. out))) (looked 𝓛 R ok b o t s) $
    move ! (0 ∷ 2 ∷ 3 ∷ 4 ∷ []) $ group ! 4 $
    use1 𝓛
    (raw (𝓣.C _ (hv ∷ vptr b (o + 0) ∷ vint w64 2 ∷ vint w64 secs ∷ vint w64 0 ∷ [])
    (λ v. mean 𝓛 (stored Out v))))
    (parks 𝓛 𝓜 𝓡 Z laws g' d' may ρ υ r u rt (code.calls-std::sync::atomic::raw::park 𝓡.env wired)
    bounds.1.0 alive (block_ptr b (o + 0)) 2 secs 0 (lit< tt) are.1.1.0.1 (lit< tt) out) $
    Calls-last ! (fm 𝓛 𝓜 𝓡) (stored Out)
    (and_then ! (get ! refl) (and_then ! (get ! refl)
    (and_then ! (lit ! tt) (and_then ! (get ! refl) (and_then ! (lit ! tt) (no_more !))))))
    (λ v.
    has_stored ! Out (
    lands_last ! refl (tt, tt) $ exec ! 𝓣.C 𝓣.Λ Ev (tail (tail fn.body)) (at_ret Ev Post) $ sets ! (of_opd ! (unit_lit !)) refl (tt, tt) $
    fsplit3 ! $ fsplit ! $ move ! (0 ∷ 4 ∷ []) $
    returns_token ! κ t.0 q s $ await ! tt $
    move ! (3 ∷ 1 ∷ []) $ fjoin ! $ move ! (3 ∷ 0 ∷ []) $ fjoin ! $ move ! (2 ∷ 0 ∷ []) $ join ! $
    move ! (1 ∷ 0 ∷ []) $ join ! $
    nothing ! $ feq_i ! _ (vunit ∷ []) _ refl $ nothing ! $ nothing ! $
    fjoin ! $ nothing ! $ fjoin ! $ nothing ! $ fjoin ! $
    returns ! (look_at ! 0 refl) $ free_all ! refl $ keep ! (3 ∷ 0 ∷ 1 ∷ 2 ∷ []) $
    by ! (leaves 𝓛 En hs c y vunit tt (tt, (tt, (tt, tt))) (tt, (tt, (tt, tt)))))))))))))
