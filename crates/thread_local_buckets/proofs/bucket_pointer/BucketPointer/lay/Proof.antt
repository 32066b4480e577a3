-- `lay` takes the block apart and writes its pointer.
use Rattle.thread_local_base.proofs.Names.{◌≡◌, ℕ, ◌<◌, List, [], ◌∷◌, length, refl, Option, a_type, named, Val, vptr}
use Rattle.thread_local_base.proofs.Names.{vunit, inst_fn, full_share, Fml, ftrue, fsep, flft, ‵, raw}
use Rattle.thread_local_base.proofs.Names.{◌⊛◌, ◌$◌, ◌∵◌, !, qed, by, move, keep, drop, use0, use1, split, join}
use Rattle.thread_local_base.proofs.Names.{fsplit, fsplit3, fjoin, fjoin3, rewrite, feq_i, stop, fld, unit_lit}
use Rattle.thread_local_base.proofs.Names.{of_opd, returns, enter, assigns, alloc_all, pass_all, free_all, look_at}
use Rattle.thread_local_base.proofs.Names.{get, get_in, through, sets, sub, whole, fact, no}
use Rattle.thread_local_base.proofs.Names.{RattleType, owns, types_at, plain, Ptr, nothing, heard, opens, closes}
use Rattle.thread_local_base.proofs.Names.{peeks, shows, param, layouts, mut_vals, mut_Tells, Stays, stay_dropped}
use Rattle.thread_local_base.proofs.Names.{stay_ref, walk_of, Goes-dropped, Goes-ref, cell_at, proved, leaves}
use types.Part.{store_in}
use Rattle.std.specs.contracts.alloc.Global as heap
use Rattle.std.specs.contracts.impls.GlobalAllocator.TheImpl.{ghosts}
use Rattle.thread_local_buckets.specs.Slots.{block_owns, heap_token}
use Rattle.thread_local_buckets.specs.PointerOwns.{pointer_owns}
use Rattle.thread_local_buckets.specs.contracts.block.Block as block
use Rattle.thread_local_buckets.specs.contracts.bucket_pointer.BucketPointer as one_pointer
use Rattle.thread_local_buckets.specs.contracts.bucket_pointer.BucketPointer.lay.{ended, clauses, Key.name as #self}
use Rattle.thread_local_buckets.proofs.BlockFields as fields
use Rattle.thread_local_buckets.proofs.PointerSteps.{pointer_val, told, FieldsType, made, lays}
use Rattle.thread_local_buckets.proofs.Slots.{ptr_good}
use Rattle.thread_local_buckets.proofs.bucket_pointer.BucketPointer.lay.Statement.{statement}
use Rattle.thread_local_buckets.proofs.bucket_pointer.BucketPointer.lay.Code as code
use Rattle.thread_local_base.proofs.Walking.{knows}

pub lay_spec : {M : Type 1} → statement M
lay_spec 𝓤 𝓛 𝓜 𝓡 wired T L =
    let R : RattleType = param 0 T in let Z : RattleType = heap.the_row in
    let PointerRow : RattleType = one_pointer.the_row R in let Bl : RattleType = block.the_row R Z ghosts in
    let En = ended T in let c = clauses T 𝓛 𝓜.mem 𝓡.returns in let inst = layouts (a_type ∷ []) (T, tt) in
    let fn = inst_fn inst code.function in
    let hs : Stays En.signature.params En.kept =
    (stay_ref (0 ∷ []) tt (plain (λ _. PointerRow)), (stay_dropped (plain (λ _. Bl)) no, tt)) in
    proved 𝓛 En hs c 𝓜 𝓡 (
      Goes-ref 𝓛 2 0 tt (plain (λ _. PointerRow)),
      (Goes-dropped 𝓛 2 (plain (λ _. Bl)) no (λ κs x f. refl), tt),
    )
    (#self inst) fn (code.unfolded 𝓤 𝓛.H 𝓜 𝓡 wired (T, tt))
    (λ κs. (mut_vals, ((λ x. fields.block_val x.at ∷ []), tt)))
    (λ κs.
    (mut_Tells (named 0) κs.0 PointerRow, ((λ x vs so. fields.told R Z ghosts x.at vs so.0), tt)))
    (λ κs qs bounds a gh are.
    let b' : ℕ = a.0.ref_ptr.0 in let o' : ℕ = a.0.ref_ptr.1 in let h : PointerRow.Denot = a.0.now in
    let x : Bl.Denot = a.1.0 in
    let p : Ptr = x.at in let cs : List (Option T.Denot) = x.slots in let others : Fml = fsep (flft κs.1.0 qs.1.0) ftrue in
    let y : (walk_of 𝓛 En hs c).Ghost = ((κs, qs, bounds, a, (vptr b' o' ∷ [], (fields.block_val p ∷ [], tt))), gh) in
    let Made : Type 0 = (x.left ≡ 0) × (0 < length cs) in
    qed 𝓛 (((‵ (flft κs.0 qs.0) ⊛ ‵ others) ⊛ ‵ (owns (types_at En.signature.params κs) a y.0.4))
    ∷ raw (fact 𝓤 _) ∷ raw (fact 𝓤 (h.slots ≡ [])) ∷ raw (fact 𝓤 Made) ∷ []) ∵
    keep ! (3 ∷ 0 ∷ []) $ heard ! Made (λ so. split ! $ split ! $ move ! (2 ∷ []) $ fsplit3 ! $
    fsplit3 ! $ move ! (3 ∷ []) $ fsplit ! $ keep ! (3 ∷ 4 ∷ 6 ∷ 1 ∷ 7 ∷ []) $
    enter ! _ _ _ _ _ $ alloc_all ! (λ l.
    pass_all ! refl ((tt, tt), (fields.block_good p, tt)) $
    opens ! tt PointerRow b' o' (λ us. move ! (1 ∷ []) $
    peeks ! PointerRow _ (shows 𝓛 PointerRow) h us (λ known. fsplit ! $ drop ! $ drop ! $
    let Cell = λ (ws : List Val). ‵ (cell_at full_share PointerRow.mir ws b' o') in rewrite ! 0 Cell (told R h.at us known.0) refl $
    -- [the pointer's cell; the open borrow; the block]
    sets ! (of_opd ! (get_in ! (fld ! refl (stop !)) (sub ! 0 refl (whole !)))) refl (ptr_good p) $
    assigns ! (of_opd ! (get ! refl)) (through ! refl (fld ! refl (stop !)))
    (store_in ! 0 (sub ! 0 refl (whole !)) (ptr_good p)) $
    sets ! (of_opd ! (unit_lit !)) refl (tt, tt) $
    move ! (4 ∷ []) $
    rewrite ! 0 (λ (m : ℕ). ‵ (block_owns R (ghosts.dealloc_token x.heap) p cs m)) so.0 refl $
    use1 𝓛 (‵ (pointer_owns R heap_token p cs)) (lays R 𝓛 x.heap p cs so.1) $
    use0 𝓛 (‵ ((FieldsType R).own_val (p, tt) (pointer_val p ∷ []))) (made R 𝓛 p) $ fjoin ! $
    move ! (1 ∷ []) $
    let h' : PointerRow.Denot = record { at = p; slots = cs } in
    closes ! tt PointerRow h' (pointer_val p ∷ []) b' o' $
    feq_i ! _ (vptr b' o' ∷ []) _ refl $ fjoin3 ! $ nothing ! $ nothing ! $
    fjoin ! $ move ! (1 ∷ 0 ∷ []) $ fjoin ! $ move ! (1 ∷ 2 ∷ []) $ join ! $
    knows ! (cs ≡ cs) refl $
    feq_i ! _ (vunit ∷ []) _ refl $
    returns ! (look_at ! 0 refl) $ free_all ! refl $ keep ! (2 ∷ 3 ∷ 0 ∷ 1 ∷ []) $
    by ! (leaves 𝓛 En hs c y vunit tt (h', (tt, tt)) (tt, (tt, tt))))))))
