-- `get_mut` writes FREE into the word and lends the value, and the lock has the tag of what is left.
use Rattle.thread_local_base.proofs.Names.{ℕ, ◌+◌, [], ◌∷◌, refl, lit<, dcons, dnil, a_type, named, Val, vptr}
use Rattle.thread_local_base.proofs.Names.{inst_fn, full_share, SProp, sep, id⊢, Lft, GName, Share, Fml, ftrue}
use Rattle.thread_local_base.proofs.Names.{fsep, flft, sem, ‵, raw, ◌⊛◌, some, later, ◌$◌, ◌∵◌, !, qed, by, move, keep}
use Rattle.thread_local_base.proofs.Names.{split, split3, join, group, fsplit, fsplit3, fjoin, pick, use1, await}
use Rattle.thread_local_base.proofs.Names.{stop, fld, addr, lit, of_opd, assigns, returns, enter, alloc_all}
use Rattle.thread_local_base.proofs.Names.{pass_all, free_all, look_at, through, sets, tables, open_ref, fact, no}
use Rattle.thread_local_base.proofs.Names.{RattleType, owns, types_at, plain, mem, part_at, nothing, heard, param}
use Rattle.thread_local_base.proofs.Names.{layout, bounded, param_laws, RefMutOf, mut_vals, mut_Tells, MutBor, Member}
use Rattle.thread_local_base.proofs.Names.{follows, Stays, stay_dropped, walk_of, Goes-spent_ref, proved, leaves, word}
use types.Run.{store_raw}
use denote.Follow.{Part, lends_Part}
use denote.Ref.{MutRef}
use Rattle.thread_local_ids.specs.Guarded.{lock_of}
use Rattle.thread_local_ids.specs.Locking.{LockView, offset}
use Rattle.thread_local_ids.specs.contracts.locks.lock.Lock as lock
use Rattle.thread_local_ids.specs.contracts.locks.lock.Lock.get_mut.{ended, clauses, Key.name as #self}
use Rattle.thread_local_ids.proofs.SharedLock.{Back, parts_out, parts_in}
use Rattle.thread_local_ids.proofs.locks.lock.Lock.get_mut.Statement.{statement}
use Rattle.thread_local_ids.proofs.locks.lock.Lock.get_mut.Code as code

pub get_mut_spec : {M : Type 1} → statement M
get_mut_spec 𝓤 𝓛 𝓜 𝓡 wired X L g d _ =
    let 𝓣 = tables 𝓤 𝓛.H 𝓜 𝓡 𝓡.env in let R : RattleType = param 0 X in let En = ended X g d in
    let c = clauses X g d 𝓛 𝓜.mem 𝓡.returns in let inst = bounded (a_type ∷ []) (X, tt) (dcons d dnil) in
    let fn = inst_fn inst code.function in let closed = code.unfolded 𝓤 𝓛.H 𝓜 𝓡 wired (X, tt) d in
    let Row : RattleType = lock.the_row R g in
    let m : Member = record { row = R; ty = layout X } in
    let lawful = (param_laws 0 X L).lawful 𝓛 in
    let row = plain (λ _. Row) in let self = RefMutOf (0 ∷ []) tt row (λ _. tt) in
    let hs : Stays En.signature.params En.kept = (stay_dropped self no, tt) in
    proved 𝓛 En hs c 𝓜 𝓡 (Goes-spent_ref 𝓛 2 (0 ∷ []) tt row, tt) (#self inst) fn closed
    (λ κs. (mut_vals, tt))
    (λ κs. (mut_Tells (named 0) κs.0 Row, tt))
    (λ κs qs bounds a gh are.
    let b : ℕ = a.0.ref_ptr.0 in let o : ℕ = a.0.ref_ptr.1 in let v : LockView = a.0.now in let κ : Lft = κs.0 in
    let q : Share = qs.0 in let γ : GName = a.0.ghost_name in let e : ℕ = o + offset R in
    let Fits : Type 0 = (x : X.Denot) → g.fits x in let F : X.Denot → LockView = lock_of g.tag in
    let others : Fml = fsep (flft κs.1.0 qs.1.0) ftrue in
    let Rest : SProp 𝓤 = sep 𝓤 (sem 𝓛 (word b (o + 0) 0)) (Back 𝓛 m g v lawful b o κ) in
    let y : (walk_of 𝓛 En hs c).Ghost = ((κs, qs, bounds, a, (vptr b o ∷ [], tt)), gh) in
    let Post : Val → SProp 𝓤 = (walk_of 𝓛 En hs c).post y in
    qed 𝓛 (((‵ (flft κ q) ⊛ ‵ others) ⊛ ‵ (owns (types_at En.signature.params κs) a y.0.4))
    ∷ raw (fact 𝓤 _) ∷ raw (fact 𝓤 Fits) ∷ []) ∵
    keep ! (2 ∷ 0 ∷ []) $ heard ! Fits (λ fits.
    let back = λ (x : X.Denot). parts_in 𝓛 m g (F x) lawful b o κ x (fits x, refl) in
    split ! $ split ! $ move ! (2 ∷ []) $ fsplit ! $ fsplit3 ! $ keep ! (1 ∷ 2 ∷ 4 ∷ 5 ∷ []) $
    enter ! _ _ _ _ _ $ alloc_all ! (λ l. pass_all ! refl ((tt, tt), tt) $
    open_ref ! tt (mem Row) $
    use1 𝓛 (some (λ (s : ℕ × X.Denot). ‵ (word b (o + 0) s.0) ⊛ ‵ (part_at R full_share s.1 b e)
    ⊛ raw (Back 𝓛 m g v lawful b o κ)))
    (parts_out 𝓛 m g v lawful b o κ) $
    pick ! (λ s. split3 ! $
    -- [the word; the value; the way back; the open borrow, and its name; the other tokens]
    assigns ! (of_opd ! (lit ! tt)) (through ! refl (fld ! refl (stop !)))
    (store_raw ! 0 refl (tt, record { fits = lit< tt })) $
    sets ! (addr ! (through ! refl (fld ! refl (stop !)))) refl (tt, tt) $
    move ! (0 ∷ 2 ∷ []) $ join ! $ move ! (2 ∷ 3 ∷ 4 ∷ 1 ∷ 0 ∷ []) $ group ! 5 $
    use1 𝓛 (later (some (λ (δ : GName). raw (Part 𝓛 Row R F (named 0) κ q b o b e γ Rest back s.1 δ))))
    (lends_Part 𝓛 Row R F (named 0) κ q b o b e γ Rest back (Row.coded.code v) (Row.coded.code v) s.1) $
    await ! tt $ pick ! (λ δ.
    let r : MutBor X.Denot = record { ref_ptr = (b, e); ghost_name = δ; now = s.1 } in
    use1 𝓛 (‵ ((MutRef (named 0) κ R).own_val r (vptr b e ∷ [])) ⊛ ‵ (flft κ q) ⊛ ‵ (follows Row R γ δ F))
    (id⊢ 𝓤 _) $
    split3 ! $ move ! (1 ∷ 3 ∷ []) $ join ! $ nothing ! $ nothing ! $ fjoin ! $
    returns ! (look_at ! 0 refl) $ free_all ! refl $ keep ! (1 ∷ 0 ∷ 2 ∷ 3 ∷ []) $
    by ! (leaves 𝓛 En hs c y (vptr b e) r (tt, tt) (tt, tt)))))))
