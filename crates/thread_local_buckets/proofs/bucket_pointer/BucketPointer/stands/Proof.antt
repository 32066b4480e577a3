-- `stands` tests the pointer, which is null where there are no slots.
use Rattle.thread_local_base.proofs.Names.{◌≡◌, ℕ, List, [], ◌∷◌, sym, refl, Bool, Option, a_type, named, Val, vptr}
use Rattle.thread_local_base.proofs.Names.{inst_fn, full_share, guard_i, Fml, ftrue, fsep, flft, sem, ‵}
use Rattle.thread_local_base.proofs.Names.{raw, ◌⊛◌, given, ◌$◌, ◌∵◌, !, qed, by, move, keep, use1, split, join}
use Rattle.thread_local_base.proofs.Names.{fsplit, fsplit3, fjoin, fjoin3, learn, rewrite, feq_i, stop, fld, load}
use Rattle.thread_local_base.proofs.Names.{lit, of_opd, bin, returns, enter, alloc_all, pass_all, free_all, look_at}
use Rattle.thread_local_base.proofs.Names.{get, through, sets, sub, look_in, whole, fact_use}
use Rattle.thread_local_base.proofs.Names.{RattleType, owns, types_at, plain, Ptr, ptr_val, nothing, opens, closes}
use Rattle.thread_local_base.proofs.Names.{peeks, shows, param, layouts, mut_vals, mut_Tells, Stays, stay_ref}
use Rattle.thread_local_base.proofs.Names.{walk_of, Goes-ref, cell_at, proved, leaves, length}
use Rattle.std.specs.Prelude.{not, nat_lt}
use mir.Val.{ptr_same, vnull, vbool}
use types.Run.{un}
use denote.RawPtr.{tests_null}
use Rattle.thread_local_buckets.specs.Slots.{heap_token}
use Rattle.thread_local_buckets.specs.PointerOwns.{pointer_owns}
use Rattle.thread_local_buckets.specs.contracts.bucket_pointer.BucketPointer as one_pointer
use Rattle.thread_local_buckets.specs.contracts.bucket_pointer.BucketPointer.stands.{ended, clauses, Key.name as #self}
use Rattle.thread_local_buckets.proofs.PointerSteps.{pointer_val, told, Tells, pointer_tells}
use Rattle.thread_local_buckets.proofs.Slots.{ptr_good}
use Rattle.thread_local_buckets.proofs.bucket_pointer.BucketPointer.stands.Statement.{statement}
use Rattle.thread_local_buckets.proofs.bucket_pointer.BucketPointer.stands.Code as code
use Rattle.thread_local_base.proofs.Walking.{knows}

pub stands_spec : {M : Type 1} → statement M
stands_spec 𝓤 𝓛 𝓜 𝓡 wired T L =
    let R : RattleType = param 0 T in let PointerRow : RattleType = one_pointer.the_row R in let En = ended T in
    let c = clauses T 𝓛 𝓜.mem 𝓡.returns in let inst = layouts (a_type ∷ []) (T, tt) in let fn = inst_fn inst code.function in
    let hs : Stays En.signature.params En.kept = (stay_ref (0 ∷ []) tt (plain (λ _. PointerRow)), tt) in
    proved 𝓛 En hs c 𝓜 𝓡 (Goes-ref 𝓛 2 0 tt (plain (λ _. PointerRow)), tt) (#self inst) fn
    (code.unfolded 𝓤 𝓛.H 𝓜 𝓡 wired (T, tt))
    (λ κs. (mut_vals, tt)) (λ κs. (mut_Tells (named 0) κs.0 PointerRow, tt)) (λ κs qs bounds a gh are.
    let y : (walk_of 𝓛 En hs c).Ghost = ((κs, qs, bounds, a, (vptr a.0.ref_ptr.0 a.0.ref_ptr.1 ∷ [], tt)), gh) in
    let b' : ℕ = a.0.ref_ptr.0 in let o' : ℕ = a.0.ref_ptr.1 in let h : PointerRow.Denot = a.0.now in let p : Ptr = h.at in
    let cs : List (Option T.Denot) = h.slots in let others : Fml = fsep (flft κs.1.0 qs.1.0) ftrue in
    let W : Fml = pointer_owns R heap_token p cs in
    let So : Type 0 = Tells R 𝓛 p cs in
    let r : Bool = not (ptr_same (ptr_val p) vnull) in
    let Told : Type 0 = r ≡ nat_lt 0 (length cs) in
    qed 𝓛 (((‵ (flft κs.0 qs.0) ⊛ ‵ others) ⊛ ‵ (owns (types_at En.signature.params κs) a y.0.4))
    ∷ raw ((c κs a).requires gh) ∷ []) ∵
    split ! $ split ! $ move ! (2 ∷ []) $ fsplit ! $ fsplit3 ! $ keep ! (1 ∷ 2 ∷ 4 ∷ 5 ∷ []) $
    enter ! _ _ _ _ _ $ alloc_all ! (λ l. pass_all ! refl ((tt, tt), tt) $
    opens ! tt PointerRow b' o' (λ us. move ! (1 ∷ []) $
    peeks ! PointerRow _ (shows 𝓛 PointerRow) h us (λ known. fsplit ! $ move ! (1 ∷ []) $
    use1 𝓛 (given So (‵ W)) (fact_use 𝓤 So (pointer_tells R 𝓛 p cs) (guard_i 𝓤 So (sem 𝓛 W))) $ learn ! (λ so.
    let seen : us ≡ pointer_val p ∷ [] = told R p us known.0 in
    let Cell = λ (ws : List Val). ‵ (cell_at full_share PointerRow.mir ws b' o') in
    rewrite ! 2 Cell seen refl $
    -- [the pointer's slots; its field; its cell; the open borrow]
    sets ! (of_opd ! (load ! (through ! refl (fld ! refl (stop !))) (look_in ! 2 (sub ! 0 refl (whole !))))) refl (ptr_good p) $
    sets ! (bin ! (get ! refl) (lit ! tt) (tests_null p so.0)) refl (tt, tt) $ sets ! (un ! (get ! refl) tt) refl (tt, tt) $
    rewrite ! 2 Cell (sym seen) refl $ move ! (1 ∷ []) $ fjoin ! $ move ! (1 ∷ []) $
    closes ! tt PointerRow h us b' o' $
    feq_i ! _ (vptr b' o' ∷ []) _ refl $ fjoin3 ! $ nothing ! $
    move ! (1 ∷ 0 ∷ []) $ fjoin ! $ move ! (1 ∷ 2 ∷ []) $ join ! $
    knows ! (h ≡ h) refl $
    knows ! Told so.1 $ join ! $
    feq_i ! _ (vbool r ∷ []) _ refl $
    returns ! (look_at ! 0 refl) $ free_all ! refl $ keep ! (2 ∷ 3 ∷ 0 ∷ 1 ∷ []) $
    by ! (leaves 𝓛 En hs c y (vbool r) r (h, tt) (tt, tt)))))))
