-- `lift` reads the pointer, and writes null.
use Rattle.thread_local_base.proofs.Names.{◌≡◌, ℕ, ◌<◌, List, [], ◌∷◌, length, refl, Option, a_type, named, Val, vptr}
use Rattle.thread_local_base.proofs.Names.{inst_fn, full_share, Fml, ftrue, fsep, flft, ‵, raw, ◌⊛◌, ◌$◌}
use Rattle.thread_local_base.proofs.Names.{◌∵◌, !, qed, by, move, keep, drop, use0, use1, split, join, fsplit}
use Rattle.thread_local_base.proofs.Names.{fsplit3, fjoin, fjoin3, fpack, rewrite, feq_i, stop, fld, load, lit}
use Rattle.thread_local_base.proofs.Names.{of_opd, no_more, and_then, returns, enter, assigns, alloc_all, pass_all}
use Rattle.thread_local_base.proofs.Names.{free_all, look_at, get, through, sets, agg, sub, look_in, whole}
use Rattle.thread_local_base.proofs.Names.{fact, yes, RattleType, owns, types_at, plain, Ptr, null_ptr}
use Rattle.thread_local_base.proofs.Names.{nothing, heard, opens, closes, peeks, shows, param, layouts, RefOf}
use Rattle.thread_local_base.proofs.Names.{mut_vals, mut_Tells, shr_vals, shr_Tells, Stays, stay_dropped, stay_ref}
use Rattle.thread_local_base.proofs.Names.{walk_of, Goes-dropped, Goes-ref, cell_at, proved, leaves}
use types.Part.{store_in}
use Rattle.std.specs.contracts.alloc.Global as heap
use Rattle.std.specs.contracts.impls.GlobalAllocator.TheImpl.{ghosts}
use Rattle.thread_local_buckets.specs.Slots.{block_owns}
use Rattle.thread_local_buckets.specs.contracts.block.Block as block
use Rattle.thread_local_buckets.specs.contracts.bucket_pointer.BucketPointer as one_pointer
use Rattle.thread_local_buckets.specs.contracts.bucket_pointer.BucketPointer.lift.{ended, clauses, Key.name as #self}
use Rattle.thread_local_buckets.proofs.BlockFields as fields
use Rattle.thread_local_buckets.proofs.PointerSteps.{pointer_val, told, FieldsType, made, lifts}
use Rattle.thread_local_buckets.proofs.Slots.{ptr_good}
use Rattle.thread_local_buckets.proofs.bucket_pointer.BucketPointer.lift.Statement.{statement}
use Rattle.thread_local_buckets.proofs.bucket_pointer.BucketPointer.lift.Code as code
use Rattle.thread_local_base.proofs.Walking.{knows}

pub lift_spec : {M : Type 1} → statement M
lift_spec 𝓤 𝓛 𝓜 𝓡 wired T L =
    let R : RattleType = param 0 T in let Z : RattleType = heap.the_row in
    let PointerRow : RattleType = one_pointer.the_row R in let Bl : RattleType = block.the_row R Z ghosts in
    let En = ended T in let c = clauses T 𝓛 𝓜.mem 𝓡.returns in let inst = layouts (a_type ∷ []) (T, tt) in
    let fn = inst_fn inst code.function in let handle = RefOf (1 ∷ []) tt (plain (λ _. Z)) (λ _. tt) in
    let hs : Stays En.signature.params En.kept =
    (stay_ref (0 ∷ []) tt (plain (λ _. PointerRow)), (stay_dropped handle yes, tt)) in
    proved 𝓛 En hs c 𝓜 𝓡 (Goes-ref 𝓛 3 0 tt (plain (λ _. PointerRow)), (Goes-dropped 𝓛 3 handle yes (λ κs x f. refl), tt))
    (#self inst) fn (code.unfolded 𝓤 𝓛.H 𝓜 𝓡 wired (T, tt))
    (λ κs. (mut_vals, (shr_vals, tt)))
    (λ κs. (mut_Tells (named 0) κs.0 PointerRow, (shr_Tells (named 1) κs.1.0 Z, tt)))
    (λ κs qs bounds a gh are.
    let b' : ℕ = a.0.ref_ptr.0 in let o' : ℕ = a.0.ref_ptr.1 in let h : PointerRow.Denot = a.0.now in
    let hp : ℕ × ℕ = a.1.0.ref_ptr in
    let heap : Z.Denot = a.1.0.now in
    let p : Ptr = h.at in let cs : List (Option T.Denot) = h.slots in
    let others : Fml = fsep (flft κs.1.0 qs.1.0) (fsep (flft κs.1.1.0 qs.1.1.0) ftrue) in
    let y : (walk_of 𝓛 En hs c).Ghost = ((κs, qs, bounds, a, (vptr b' o' ∷ [], (vptr hp.0 hp.1 ∷ [], tt))), gh) in
    qed 𝓛 (((‵ (flft κs.0 qs.0) ⊛ ‵ others) ⊛ ‵ (owns (types_at En.signature.params κs) a y.0.4))
    ∷ raw (fact 𝓤 _) ∷ raw (fact 𝓤 (0 < length cs)) ∷ []) ∵
    keep ! (2 ∷ 0 ∷ []) $ heard ! (0 < length cs) (λ some_slot. split ! $ split ! $
    move ! (2 ∷ []) $ fsplit ! $ fsplit3 ! $ keep ! (1 ∷ 2 ∷ 4 ∷ 5 ∷ []) $
    enter ! _ _ _ _ _ $ alloc_all ! (λ l. pass_all ! refl ((tt, tt), ((tt, tt), tt)) $
    opens ! tt PointerRow b' o' (λ us. move ! (1 ∷ []) $ peeks ! PointerRow _ (shows 𝓛 PointerRow) h us (λ known. fsplit ! $ drop ! $
    use1 𝓛 (‵ (block_owns R (ghosts.dealloc_token heap) p cs 0)) (lifts R 𝓛 heap p cs some_slot) $
    let Cell = λ (ws : List Val). ‵ (cell_at full_share PointerRow.mir ws b' o') in rewrite ! 1 Cell (told R p us known.0) refl $
    -- [the block; the pointer's cell; the open borrow]
    sets ! (of_opd ! (load ! (through ! refl (fld ! refl (stop !))) (look_in ! 1 (sub ! 0 refl (whole !))))) refl (ptr_good p) $
    assigns ! (of_opd ! (lit ! tt)) (through ! refl (fld ! refl (stop !)))
    (store_in ! 1 (sub ! 0 refl (whole !)) (ptr_good null_ptr)) $
    sets ! (agg ! (no_more !)) refl (tt, tt) $
    sets ! (agg ! (and_then ! (get ! refl) (and_then ! (get ! refl) (no_more !)))) refl (fields.block_good p) $
    nothing ! $ fpack ! (null_ptr ≡ null_ptr) (λ _. ftrue) refl $
    use0 𝓛 (‵ ((FieldsType R).own_val (null_ptr, tt) (pointer_val null_ptr ∷ [])))
    (made R 𝓛 null_ptr) $
    fjoin ! $ move ! (2 ∷ 0 ∷ 3 ∷ 4 ∷ 5 ∷ []) $
    let h' : PointerRow.Denot = record { at = null_ptr; slots = [] } in
    closes ! tt PointerRow h' (pointer_val null_ptr ∷ []) b' o' $
    feq_i ! _ (vptr b' o' ∷ []) _ refl $ fjoin3 ! $ nothing ! $ nothing ! $
    fjoin ! $ move ! (1 ∷ 0 ∷ []) $ fjoin ! $ move ! (1 ∷ 3 ∷ []) $ join ! $
    let r : Bl.Denot = record { at = p; marker = record {}; heap = heap; slots = cs; left = 0 } in
    let Told : Type 0 = (heap ≡ heap) × (cs ≡ cs) × (r.left ≡ 0) in
    let Null : Type 0 = h'.slots ≡ [] in
    move ! (2 ∷ []) $
    use0 𝓛
    (‵ ((fields.FieldsType R Z ghosts).own_val (p, (record {}, tt)) (fields.block_val p ∷ [])))
    (fields.made R Z ghosts 𝓛 p) $
    fjoin ! $
    knows ! Told (refl, refl, refl) $
    knows ! Null refl $ join ! $
    returns ! (look_at ! 0 refl) $ free_all ! refl $ keep ! (2 ∷ 3 ∷ 1 ∷ 0 ∷ []) $
    by ! (leaves 𝓛 En hs c y (fields.block_val p) r (h', (tt, tt)) (tt, (tt, tt))))))))
