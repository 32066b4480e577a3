-- `deref` lends the value that the guard has the right to.
use Rattle.thread_local_base.proofs.Names.{◌≡◌, ℕ, ◌+◌, List, [], ◌∷◌, ◌++◌, sym, refl, ap, ◌∙◌, dcons, dnil, a_type}
use Rattle.thread_local_base.proofs.Names.{named, Val, vptr, inst_fn, SProp, guard_i, Lft, Fml, ftrue, fsep}
use Rattle.thread_local_base.proofs.Names.{flft, sem, ‵, raw, ◌⊛◌, given, at_ret, ◌$◌, ◌∵◌, !, qed, by, move, keep}
use Rattle.thread_local_base.proofs.Names.{split, join, fsplit, fjoin, learn, use1, rewrite, feq_i, stop, fld}
use Rattle.thread_local_base.proofs.Names.{hop, addr, of_opd, first, blocks, exec, returns, enter, alloc_all}
use Rattle.thread_local_base.proofs.Names.{pass_all, free_all, look_at, get, through, sets, sets_last, env, sub}
use Rattle.thread_local_base.proofs.Names.{whole, look_in, tables, fact_use, yes, RattleType, owns}
use Rattle.thread_local_base.proofs.Names.{types_at, plain, named_lft, Ptr, InBlock, block_ptr, block_of, count_of}
use Rattle.thread_local_base.proofs.Names.{at_block, nothing, peeks, unhide, Is, shows, cell_at, param, bounded}
use Rattle.thread_local_base.proofs.Names.{param_laws, RefOf, shr_vals, shr_Tells, Stays, stay_dropped, walk_of}
use Rattle.thread_local_base.proofs.Names.{Goes-dropped, proved, leaves, tail}
use base.Fml.{fhide, Incl-refl}
use contract.BorrowLft.{⊑_meet}
use denote.Steps.{looks, shuts}
use denote.Memory.{hidden_shr, shared_of}
use denote.Ref.{ShrRef}
use denote.SharingLaws.{shortens}
use denote.Struct.Lending.{lent_out}
use Rattle.std.specs.contracts.marker.PhantomData as marker
use Rattle.thread_local_ids.specs.Locking.{offset, guard_shares}
use Rattle.thread_local_ids.specs.contracts.locks.lock.LockGuard as guard
use Rattle.thread_local_ids.specs.contracts.locks.lock.lends.LockGuardDeref.deref.{ended, clauses, Key.name as #self}
use Rattle.thread_local_ids.proofs.Fields.{guard_of, FieldsType, told, opened}
use Rattle.thread_local_ids.proofs.Guards.{seen}
use Rattle.thread_local_ids.proofs.locks.lock.lends.LockGuardDeref.deref.Statement.{statement}
use Rattle.thread_local_ids.proofs.locks.lock.lends.LockGuardDeref.deref.Code as code
use Rattle.thread_local_base.proofs.Walking.{knows}

pub deref_spec : {M : Type 1} → statement M
deref_spec 𝓤 𝓛 𝓜 𝓡 wired X L g d _ =
    let 𝓣 = tables 𝓤 𝓛.H 𝓜 𝓡 𝓡.env in let R : RattleType = param 0 X in let En = ended X g d in
    let c = clauses X g d 𝓛 𝓜.mem 𝓡.returns in let LR = param_laws 0 X L in
    let inst = bounded (a_type ∷ []) (X, tt) (dcons d dnil) in let fn = inst_fn inst code.function in
    let closed = code.unfolded 𝓤 𝓛.H 𝓜 𝓡 wired (X, tt) d in let row = plain (λ κs. guard.the_row (named_lft 3 1 tt κs) R g) in
    let self = RefOf (0 ∷ []) tt row (λ _. tt) in let hs : Stays En.signature.params En.kept = (stay_dropped self yes, tt) in
    proved 𝓛 En hs c 𝓜 𝓡 (Goes-dropped 𝓛 3 self yes (λ κs x f. refl), tt) (#self inst) fn closed
    (λ κs. (shr_vals, tt))
    (λ κs. (shr_Tells (named 0) κs.0 (guard.the_row (named_lft 3 1 tt κs) R g), tt))
    (λ κs qs bounds a gh are.
    let ℓ = named_lft 3 1 tt κs in let D : RattleType = FieldsType ℓ R g in let b : ℕ = a.0.ref_ptr.0 in
    let o : ℕ = a.0.ref_ptr.1 in let κ : Lft = κs.0 in let β : Lft = κs.1.0 in let h = a.0.now in let p : Ptr = h.lock in
    let x : X.Denot = h.value in let others : Fml = fsep (flft β qs.1.0) (fsep (flft κs.1.1.0 qs.1.1.0) ftrue) in
    let pb : ℕ = block_of p in let po : ℕ = count_of p in
    let e : ℕ = po + offset R in let y : (walk_of 𝓛 En hs c).Ghost = ((κs, qs, bounds, a, (vptr b o ∷ [], tt)), gh) in
    let Post : Val → SProp 𝓤 = (walk_of 𝓛 En hs c).post y in
    qed 𝓛 (((‵ (flft κ qs.0) ⊛ ‵ others) ⊛ ‵ (owns (types_at En.signature.params κs) a y.0.4))
    ∷ raw ((c κs a).requires gh) ∷ []) ∵
    split ! $ split ! $ move ! (2 ∷ []) $ fsplit ! $ fsplit ! $ keep ! (1 ∷ 3 ∷ 4 ∷ []) $
    enter ! _ _ _ _ _ $ alloc_all ! (λ l. pass_all ! refl ((tt, tt), tt) $ let Ev = env fn.locals l in
    use1 𝓛 (‵ (hidden_shr D κ (p, (tt, tt)) b o) ⊛ ‵ (fhide (guard_shares β R p x κ)))
    (lent_out 𝓛 (guard.struct ℓ R g)
    (guard.the_codes X.Denot R.coded (marker.the_row (ShrRef ℓ.mir ℓ.lft R)).coded)
    (guard.the_heap β R g) (guard.the_lent β R g) κ h b o) $
    split ! $ move ! (1 ∷ []) $ unhide ! $
    use1 𝓛 (given (InBlock p) (‵ (guard_shares β R p x κ)))
    (fact_use 𝓤 _ (seen 𝓛 β R p x κ) (guard_i 𝓤 (InBlock p) (sem 𝓛 (guard_shares β R p x κ)))) $
    learn ! (λ inb.
    let at : p ≡ block_ptr pb po = at_block p inb in rewrite ! 0 (λ (z : Ptr). ‵ (guard_shares β R z x κ)) at refl $
    use1 𝓛 (‵ (hidden_shr R κ x pb e))
    (shortens 𝓛 (shared_of R x pb e) (LR.shr_laws x pb e) (κ ++ β) κ
    (⊑_meet κ κ β (Incl-refl κ) bounds.0)) $
    move ! (1 ∷ 2 ∷ []) $
    looks ! tt D (opened ℓ R g 𝓛) (p, (tt, tt)) b o (λ q vs. move ! (1 ∷ []) $
    peeks ! D (Is D) (shows 𝓛 D) (p, (tt, tt)) vs (λ is_so.
    let ev : vs ≡ guard_of (block_ptr pb po) ∷ [] = told ℓ R g p vs is_so ∙ ap (λ (r : Ptr). guard_of r ∷ []) at in
    rewrite ! 1 (λ (ws : List Val). ‵ (cell_at q D.mir ws b o)) ev refl $ first ! $ blocks ! $
    sets_last ! (addr ! (through ! refl (fld ! refl (hop ! (look_in ! 1 (sub ! 0 refl (whole !))) (fld ! refl (stop !))))))
    refl (tt, tt) $
    exec ! 𝓣.C 𝓣.Λ Ev (tail fn.body) (at_ret Ev Post) $
    sets ! (of_opd ! (get ! refl)) refl (tt, tt) $
    rewrite ! 1 (λ (ws : List Val). ‵ (cell_at q D.mir ws b o)) (sym ev) refl $
    move ! (1 ∷ 0 ∷ 2 ∷ []) $ shuts ! tt D q (p, (tt, tt)) vs b o $
    move ! (0 ∷ 3 ∷ []) $ join ! $ move ! (2 ∷ []) $ feq_i ! _ (vptr pb e ∷ []) _ refl $ fjoin ! $
    knows ! (x ≡ x) refl $ nothing ! $ nothing ! $ fjoin ! $
    returns ! (look_at ! 0 refl) $ free_all ! refl $ keep ! (3 ∷ 0 ∷ 2 ∷ 1 ∷ []) $
    by ! (leaves 𝓛 En hs c y (vptr pb e) (record { ref_ptr = (pb, e); now = x }) (tt, tt)
    (tt, tt)))))))
