-- `take` is one compare and exchange: where the word was FREE, the guard has the right to the
-- value.
use Rattle.thread_local_base.proofs.Names.{◌≡◌, ℕ, ◌+◌, [], ◌∷◌, refl, lit<, w64, dcons, dnil, a_type, named, Val}
use Rattle.thread_local_base.proofs.Names.{vint, vptr, vcons, vnil, inst_fn, SProp, via, Lft}
use Rattle.thread_local_base.proofs.Names.{Share, Fml, ftrue, fsep, flft, fbor, finv, ‵, raw, ◌⊛◌, mean}
use Rattle.thread_local_base.proofs.Names.{at_ret, ◌$◌, ◌∵◌, !, qed, by, move, keep, drop, split, join, fsplit, fjoin}
use Rattle.thread_local_base.proofs.Names.{fpick, fpack, pick, use0, use1, use3, await, rewrite, stop, fld}
use Rattle.thread_local_base.proofs.Names.{addr, lit, of_opd, no_more, and_then, first, blocks, exec, Calls-last}
use Rattle.thread_local_base.proofs.Names.{returns, enter, alloc_all, pass_all, free_all, look_at, get, through, sets}
use Rattle.thread_local_base.proofs.Names.{sets_last, lands_last, env, agg, tables, fact, yes}
use Rattle.thread_local_base.proofs.Names.{RattleType, owns, types_at, plain, named_lft, Ptr, block_ptr, nothing}
use Rattle.thread_local_base.proofs.Names.{heard, unhide, param, bounded, RefOf, u64, shr_vals, shr_Tells, uint_vals}
use Rattle.thread_local_base.proofs.Names.{uint_Tells, Stays, stay_dropped, walk_of, Goes-dropped, proved, leaves, fm}
use Rattle.thread_local_base.proofs.Names.{found, finds, tail}
use Rattle.std.proofs.Common.{◌≢◌, eqb→eq, Option, Some, None, IfSome}
use mir.Syntax.{Body}
use base.Before.{before}
use types.Run.{bin, branches}
use types.Match.{live}
use types.Na.{before_dup}
use Rattle.std.proofs.option.Made.{Some-of, none_of}
use Rattle.std.specs.contracts.option.Option as Opt
use Rattle.thread_local_ids.specs.Locking.{Fitting, LockTurn, with_word, lock_invariant, guarding}
use Rattle.thread_local_ids.specs.contracts.locks.lock.Lock as lock
use Rattle.thread_local_ids.specs.contracts.locks.lock.LockGuard as guard
use Rattle.thread_local_ids.specs.contracts.locks.lock.Lock.take.{ended, clauses, Key.name as #self}
use Rattle.thread_local_ids.proofs.Calls.{exchanges}
use Rattle.thread_local_ids.proofs.LockSteps.{gained, exchanged}
use Rattle.thread_local_ids.proofs.Fields.{guard_of, FieldsType, made}
use Rattle.thread_local_ids.proofs.locks.lock.Lock.take.Statement.{statement}
use Rattle.thread_local_ids.proofs.locks.lock.Lock.take.Code as code
use Rattle.thread_local_base.proofs.Walking.{knows, lends_token, returns_token}

pub take_spec : {M : Type 1} → statement M
take_spec 𝓤 𝓛 𝓜 𝓡 wired X L g d _ =
    let H = 𝓛.H in let 𝓣 = tables 𝓤 H 𝓜 𝓡 𝓡.env in let R : RattleType = param 0 X in let En = ended X g d in
    let c = clauses X g d 𝓛 𝓜.mem 𝓡.returns in let inst = bounded (a_type ∷ []) (X, tt) (dcons d dnil) in
    let fn = inst_fn inst code.function in let closed = code.unfolded 𝓤 H 𝓜 𝓡 wired (X, tt) d in
    let Row : RattleType = lock.the_row R g in let self = RefOf (0 ∷ []) tt (plain (λ _. Row)) (λ _. tt) in
    let number = plain (λ _. u64) in
    let hs : Stays En.signature.params En.kept = (stay_dropped self yes, (stay_dropped number yes, tt)) in
    proved 𝓛 En hs c 𝓜 𝓡
    (Goes-dropped 𝓛 2 self yes (λ κs x f. refl), (Goes-dropped 𝓛 2 number yes (λ κs x f. refl), tt))
    (#self inst) fn closed
    (λ κs. (shr_vals, (uint_vals w64, tt))) (λ κs. (shr_Tells (named 0) κs.0 Row, (uint_Tells w64, tt))) (λ κs qs bounds a gh are.
    let b : ℕ = a.0.ref_ptr.0 in let o : ℕ = a.0.ref_ptr.1 in let κ : Lft = κs.0 in let q : Share = qs.0 in
    let new : ℕ = a.1.0 in
    let p : Ptr = block_ptr b o in
    let tag : ℕ = a.0.now.tag in
    let ok = Fitting g.tag g.fits tag in
    let others : Fml = fsep (flft κs.1.0 qs.1.0) ftrue in let ℓ = named_lft 2 0 tt κs in
    let G : RattleType = guard.the_row ℓ R g in
    let Tag : Option G.Denot → Type 0 = λ r. IfSome r (λ h. (h.tag ≡ tag) × (g.tag h.value ≡ tag)) in
    let Fit : Option G.Denot → Type 0 = λ r. IfSome r (λ h. g.fits h.value) in
    let y : (walk_of 𝓛 En hs c).Ghost = ((κs, qs, bounds, a, (vptr b o ∷ [], (vint w64 new ∷ [], tt))), gh) in
    let Post : Val → SProp 𝓤 = (walk_of 𝓛 En hs c).post y in
    qed 𝓛 (((‵ (flft κ q) ⊛ ‵ others) ⊛ ‵ (owns (types_at En.signature.params κs) a y.0.4))
    ∷ raw (fact 𝓤 _) ∷ raw (fact 𝓤 (new ≢ 0)) ∷ []) ∵
    keep ! (2 ∷ 0 ∷ []) $ heard ! (new ≢ 0) (λ taken. split ! $ split ! $ move ! (2 ∷ []) $
    fsplit ! $ fsplit ! $ keep ! (1 ∷ 3 ∷ 4 ∷ []) $
    enter ! _ _ _ _ _ $ alloc_all ! (λ l.
    pass_all ! refl ((tt, tt), ((tt, record { fits = are.1.0.1 }), tt)) $
    let Ev = env fn.locals l in
    let last : Body = tail (tail (tail (tail fn.body))) in
    unhide ! $ fpick ! (λ t.
    let J : Fml = fbor t.0 (lock_invariant R ok b o t) in
    fsplit ! $ use1 𝓛 (‵ (before κ t.0) ⊛ ‵ (before κ t.0)) (before_dup 𝓛 κ t.0) $ split ! $
    move ! (2 ∷ []) $
    use1 𝓛 (‵ (finv J) ⊛ ‵ (finv J)) (𝓛.invs.inv_dup J) $ split ! $ move ! (2 ∷ 0 ∷ []) $ fjoin ! $
    move ! (2 ∷ 3 ∷ []) $
    lends_token ! 𝓜 𝓡 κ t.0 q $ await ! tt $ pick ! (λ s. split ! $
    -- [α's token, and the way back; what the guard keeps; the invariant; the other tokens]
    let after : ℕ → Fml = λ n. fsep (flft t.0 s) (gained 𝓛 R ok b o t s 0 n) in
    first ! $ blocks ! $ sets ! (addr ! (through ! refl (fld ! refl (stop !)))) refl (tt, tt) $ nothing ! $ move ! (4 ∷ 1 ∷ 0 ∷ []) $
    use3 𝓛 (raw (𝓣.C _ (vptr b (o + 0) ∷ vint w64 0 ∷ vint w64 new ∷ []) (λ u. mean 𝓛 (found after u))))
    (via 𝓤 _ (exchanged 𝓛 R ok b o t s 0 new taken)
    (exchanges 𝓛 𝓜 𝓡 (code.calls-thread_local_ids::locks::word::exchange 𝓡.env wired)
    (block_ptr b (o + 0)) 0 new (lit< tt) are.1.0.1 after)) $
    Calls-last ! (fm 𝓛 𝓜 𝓡) (found after)
    (and_then ! (get ! refl) (and_then ! (lit ! tt) (and_then ! (get ! refl) (no_more !)))) (λ u.
    finds ! after (λ n fits.
    lands_last ! refl (tt, record { fits = fits }) $
    exec ! 𝓣.C 𝓣.Λ Ev (tail fn.body) (at_ret Ev Post) $
    sets ! (of_opd ! (get ! refl)) refl (tt, record { fits = fits }) $
    sets ! (bin ! (get ! refl) (lit ! tt) tt) refl (tt, tt) $
    fsplit ! $ move ! (0 ∷ 2 ∷ []) $
    returns_token ! κ t.0 q s $ await ! tt $
    move ! (0 ∷ 3 ∷ []) $ join ! $
    first ! $ branches ! (get ! refl)
    (λ free. let n0 : n ≡ 0 = eqb→eq n 0 free in
    sets ! (addr ! (through ! refl (stop !))) refl (tt, tt) $
    sets ! (agg ! (no_more !)) refl (tt, tt) $
    sets ! (agg ! (and_then ! (get ! refl) (and_then ! (get ! refl) (no_more !)))) refl
    (tt, (tt, (tt, tt))) $
    sets_last ! (agg ! (and_then ! (lit ! tt) (and_then ! (get ! refl) (no_more !)))) refl
    (tt, (record { fits = lit< tt }, ((tt, (tt, tt)), tt))) $
    exec ! 𝓣.C 𝓣.Λ Ev last (at_ret Ev Post) $
    sets ! (of_opd ! (get ! refl)) refl (tt, (record { fits = lit< tt }, ((tt, (tt, tt)), tt))) $
    move ! (1 ∷ []) $ rewrite ! 0 (λ (m : ℕ). ‵ (with_word R ok b o t m)) n0 refl $ fpick ! (λ x.
    fsplit ! $ fpick ! (λ fit. drop ! $ move ! (2 ∷ 0 ∷ []) $ fjoin ! $
    fpack ! LockTurn (λ z. guarding R ok b o z κ x) t $
    let h : G.Denot = record { lock = p; marker = record {}; tag = tag; value = x } in let v : Val = live 1 (vcons (guard_of p) vnil) in
    use0 𝓛 (‵ ((FieldsType ℓ R g).own_val (p, (tt, tt)) (guard_of p ∷ []))) (made ℓ R g 𝓛 p) $
    fjoin ! $ use1 𝓛 (‵ ((Opt.the_row G).own_val (Some h) (v ∷ []))) (Some-of 𝓛 G h (guard_of p)) $
    knows ! (Fit (Some h)) fit.0 $
    knows ! (Tag (Some h)) (refl, fit.1) $ join ! $
    nothing ! $ nothing ! $ fjoin ! $ nothing ! $ fjoin ! $
    returns ! (look_at ! 0 refl) $ free_all ! refl $ keep ! (3 ∷ 0 ∷ 2 ∷ 1 ∷ []) $
    by ! (leaves 𝓛 En hs c y v (Some h) (tt, (tt, tt)) (tt, (tt, tt))))))
    (λ held.
    sets_last ! (agg ! (and_then ! (lit ! tt) (no_more !))) refl
    (tt, (record { fits = lit< tt }, tt)) $
    exec ! 𝓣.C 𝓣.Λ Ev last (at_ret Ev Post) $
    sets ! (of_opd ! (get ! refl)) refl (tt, (record { fits = lit< tt }, tt)) $
    use0 𝓛 (‵ ((Opt.the_row G).own_val None (live 0 vnil ∷ []))) (none_of 𝓛 G) $
    knows ! (Fit None) tt $
    knows ! (Tag None) tt $ join ! $ nothing ! $
    nothing ! $ fjoin ! $ nothing ! $ fjoin ! $
    returns ! (look_at ! 0 refl) $ free_all ! refl $ keep ! (3 ∷ 0 ∷ 2 ∷ 1 ∷ []) $
    by ! (leaves 𝓛 En hs c y (live 0 vnil) None (tt, (tt, tt)) (tt, (tt, tt)))))))))))
