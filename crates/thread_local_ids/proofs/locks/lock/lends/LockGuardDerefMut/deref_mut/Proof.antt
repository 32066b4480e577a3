-- `deref_mut` lends the value, and the guard follows what is written to it.
use Rattle.thread_local_base.proofs.Names.{◌≡◌, ℕ, ◌+◌, List, [], ◌∷◌, sym, refl, ap, ◌∙◌, dcons, dnil, a_type, named}
use Rattle.thread_local_base.proofs.Names.{Val, vptr, inst_fn, full_share, SProp, guard_i, Lft, GName, Share}
use Rattle.thread_local_base.proofs.Names.{Fml, ftrue, fsep, fbor, flft, sem, ‵, raw, ◌⊛◌, some, given, later, at_ret}
use Rattle.thread_local_base.proofs.Names.{◌$◌, ◌∵◌, !, qed, by, move, keep, split, split3, join, fsplit, fsplit3}
use Rattle.thread_local_base.proofs.Names.{fjoin, fjoin3, fpick, fpack, pick, learn, use1, use2, use3, await}
use Rattle.thread_local_base.proofs.Names.{rewrite, feq_i, stop, fld, hop, addr, of_opd, first, blocks, exec, returns}
use Rattle.thread_local_base.proofs.Names.{enter, alloc_all, pass_all, free_all, look_at, get, through, sets}
use Rattle.thread_local_base.proofs.Names.{sets_last, env, open_ref, sub, whole, look_in, tables}
use Rattle.thread_local_base.proofs.Names.{fact_use, no, RattleType, owns, types_at, plain, named_lft, Ptr, InBlock}
use Rattle.thread_local_base.proofs.Names.{block_ptr, block_of, count_of, at_block, nothing, peeks, Is, shows}
use Rattle.thread_local_base.proofs.Names.{cell_at, part_at, mem, param, bounded, RefMutOf, mut_vals, mut_Tells}
use Rattle.thread_local_base.proofs.Names.{follows, Stays, stay_dropped, walk_of, Goes-spent_ref, proved, leaves}
use Rattle.thread_local_base.proofs.Names.{tail}
use base.Fml.{fobs}
use types.SemTy.{Body}
use types.Mut.{close_ref}
use denote.Memory.{part_of}
use denote.Ref.{MutBor}
use denote.Struct.OwningLaws.{part_out, part_in}
use Rattle.thread_local_ids.specs.Guarded.{guard_with_value}
use Rattle.thread_local_ids.specs.Locking.{Fitting, offset, guard_owns}
use Rattle.thread_local_ids.specs.contracts.locks.lock.LockGuard as guard
use Rattle.thread_local_ids.specs.contracts.locks.lock.lends.LockGuardDerefMut.deref_mut.{ended, clauses, Key.name as #self}
use Rattle.thread_local_ids.proofs.Fields.{guard_of, FieldsType, told}
use Rattle.thread_local_ids.proofs.Guards.{placed}
use Rattle.thread_local_ids.proofs.Handed.{hands_value}
use Rattle.thread_local_ids.proofs.locks.lock.lends.LockGuardDerefMut.deref_mut.Statement.{statement}
use Rattle.thread_local_ids.proofs.locks.lock.lends.LockGuardDerefMut.deref_mut.Code as code
use Rattle.thread_local_base.proofs.Walking.{knows}

pub deref_mut_spec : {M : Type 1} → statement M
unfolding part_of
deref_mut_spec 𝓤 𝓛 𝓜 𝓡 wired X L g d _ =
    let 𝓣 = tables 𝓤 𝓛.H 𝓜 𝓡 𝓡.env in let R : RattleType = param 0 X in let En = ended X g d in
    let c = clauses X g d 𝓛 𝓜.mem 𝓡.returns in let inst = bounded (a_type ∷ []) (X, tt) (dcons d dnil) in
    let fn = inst_fn inst code.function in let closed = code.unfolded 𝓤 𝓛.H 𝓜 𝓡 wired (X, tt) d in
    let row = plain (λ κs. guard.the_row (named_lft 3 1 tt κs) R g) in let self = RefMutOf (0 ∷ []) tt row (λ _. tt) in
    let hs : Stays En.signature.params En.kept = (stay_dropped self no, tt) in
    proved 𝓛 En hs c 𝓜 𝓡 (Goes-spent_ref 𝓛 3 (0 ∷ []) tt row, tt) (#self inst) fn closed
    (λ κs. (mut_vals, tt))
    (λ κs. (mut_Tells (named 0) κs.0 (guard.the_row (named_lft 3 1 tt κs) R g), tt))
    (λ κs qs bounds a gh are.
    let ℓ = named_lft 3 1 tt κs in let G : RattleType = guard.the_row ℓ R g in let D : RattleType = FieldsType ℓ R g in
    let b : ℕ = a.0.ref_ptr.0 in let o : ℕ = a.0.ref_ptr.1 in let κ : Lft = κs.0 in let q : Share = qs.0 in
    let β : Lft = κs.1.0 in let γ : GName = a.0.ghost_name in let h : G.Denot = a.0.now in
    let ok = Fitting g.tag g.fits h.tag in
    let p : Ptr = h.lock in let x : X.Denot = h.value in
    let others : Fml = fsep (flft β qs.1.0) (fsep (flft κs.1.1.0 qs.1.1.0) ftrue) in let pb : ℕ = block_of p in
    let po : ℕ = count_of p in let e : ℕ = po + offset R in
    let F : X.Denot → G.Denot = guard_with_value h in
    let y : (walk_of 𝓛 En hs c).Ghost = ((κs, qs, bounds, a, (vptr b o ∷ [], tt)), gh) in
    let Post : Val → SProp 𝓤 = (walk_of 𝓛 En hs c).post y in
    let Lent : GName → MutBor X.Denot = λ δ. record { ref_ptr = (pb, e); ghost_name = δ; now = x } in
    qed 𝓛 (((‵ (flft κ q) ⊛ ‵ others) ⊛ ‵ (owns (types_at En.signature.params κs) a y.0.4))
    ∷ raw ((c κs a).requires gh) ∷ []) ∵
    split ! $ split ! $ move ! (2 ∷ []) $ fsplit ! $ fsplit3 ! $ keep ! (1 ∷ 2 ∷ 4 ∷ 5 ∷ []) $
    enter ! _ _ _ _ _ $ alloc_all ! (λ l. pass_all ! refl ((tt, tt), tt) $ let Ev = env fn.locals l in
    open_ref ! tt (mem G) $
    use1 𝓛 (‵ (part_at D full_share (p, (tt, tt)) b o) ⊛ ‵ (guard_owns β R ok p x))
    (part_out 𝓛 (guard.the_type ℓ R g) full_share h b o) $
    split ! $ move ! (1 ∷ []) $
    use1 𝓛 (given (InBlock p) (‵ (guard_owns β R ok p x)))
    (fact_use 𝓤 _ (placed 𝓛 β R ok p x) (guard_i 𝓤 (InBlock p) (sem 𝓛 (guard_owns β R ok p x)))) $
    learn ! (λ inb.
    let at : p ≡ block_ptr pb po = at_block p inb in
    move ! (1 ∷ []) $ fpick ! (λ vs. fsplit ! $ move ! (1 ∷ []) $
    peeks ! D (Is D) (shows 𝓛 D) (p, (tt, tt)) vs (λ is_so.
    let ev : vs ≡ guard_of (block_ptr pb po) ∷ [] = told ℓ R g p vs is_so ∙ ap (λ (r : Ptr). guard_of r ∷ []) at in
    rewrite ! 1 (λ (ws : List Val). ‵ (cell_at full_share D.mir ws b o)) ev refl $ first ! $ blocks ! $
    sets ! (addr ! (through ! refl (fld ! refl (hop ! (look_in ! 1 (sub ! 0 refl (whole !))) (fld ! refl (stop !)))))) refl (tt, tt) $
    sets_last ! (addr ! (through ! refl (stop !))) refl (tt, tt) $
    exec ! 𝓣.C 𝓣.Λ Ev (tail fn.body) (at_ret Ev Post) $
    sets ! (of_opd ! (get ! refl)) refl (tt, tt) $
    rewrite ! 1 (λ (ws : List Val). ‵ (cell_at full_share D.mir ws b o)) (sym ev) refl $ move ! (1 ∷ 0 ∷ []) $ fjoin ! $
    fpack ! (List Val) (λ ws. fsep (cell_at full_share D.mir ws b o) (D.own_val (p, (tt, tt)) ws)) vs $
    use2 𝓛 (‵ (part_at G full_share h b o)) (part_in 𝓛 (guard.the_type ℓ R g) full_share h b o) $ close_ref ! tt (mem G) h $
    use3 𝓛 (later (some (λ (δ : GName).
    ‵ (fobs δ (R.coded.code x)) ⊛ ‵ (fbor κ (Body (mem R) pb e δ)) ⊛ ‵ (flft κ q)
    ⊛ ‵ (follows G R γ δ F))))
    (hands_value 𝓛 ℓ R g h b o pb po at κ q γ bounds.0) $
    await ! tt $ pick ! (λ δ. split3 ! $
    feq_i ! (List Val) (mut_vals (Lent δ)) (mut_vals (Lent δ)) refl $ fjoin3 ! $ move ! (1 ∷ []) $
    split ! $ move ! (0 ∷ 3 ∷ []) $ join ! $
    knows ! (x ≡ x) refl $ move ! (2 ∷ 0 ∷ []) $ join ! $
    nothing ! $ nothing ! $ fjoin ! $
    returns ! (look_at ! 0 refl) $ free_all ! refl $ keep ! (2 ∷ 0 ∷ 3 ∷ 1 ∷ []) $
    by ! (leaves 𝓛 En hs c y (vptr pb e) (Lent δ) (tt, tt) (tt, tt))))))))
