-- `flags` reads the word of a chunk.
use Rattle.thread_local_base.proofs.Names.{◌≡◌, ℕ, ◌+◌, ◌*◌, ◌^◌, ◌<◌, List, [], ◌∷◌, length, sym, refl, ap, ◌∙◌}
use Rattle.thread_local_base.proofs.Names.{subst, w64, Option, a_type, named, Val, vint, vptr, inst_fn, full_share}
use Rattle.thread_local_base.proofs.Names.{SProp, apply∗, Fml, ftrue, fsep, flft, sem, ‵, raw, ◌⊛◌, some, given}
use Rattle.thread_local_base.proofs.Names.{at_ret, ◌$◌, ◌∵◌, !, qed, by, move, keep, use1, use2, split, join}
use Rattle.thread_local_base.proofs.Names.{fsplit, fsplit3, fjoin, fjoin3, pick, learn, rewrite, feq_i, stop, fld}
use Rattle.thread_local_base.proofs.Names.{load, look, of_opd, bin, lit, first, blocks, exec, returns, enter}
use Rattle.thread_local_base.proofs.Names.{alloc_all, pass_all, free_all, look_at, get, through, sets, sets_last, is}
use Rattle.thread_local_base.proofs.Names.{env, sub, look_in, whole, tables, fact, yes, RattleType, owns}
use Rattle.thread_local_base.proofs.Names.{types_at, plain, Ptr, block_ptr, block_of, count_of, at_block, nothing}
use Rattle.thread_local_base.proofs.Names.{heard, opens, closes, peeks, shows, param, layouts, usize, mut_vals}
use Rattle.thread_local_base.proofs.Names.{mut_Tells, uint_vals, uint_Tells, Stays, stay_dropped, stay_ref, walk_of}
use Rattle.thread_local_base.proofs.Names.{Goes-dropped, Goes-ref, cell_at, proved, leaves, after}
use Rattle.std.specs.Prelude.{is_some}
use types.Kit.{flt_i}
use Rattle.thread_local_base.specs.Bits.{is_set}
use Rattle.thread_local_buckets.specs.Slots.{slot_value, value_words, flag_word_at, heap_token}
use Rattle.thread_local_buckets.proofs.Slots.{IsWordIn, flags_of}
use Rattle.thread_local_buckets.specs.PointerOwns.{pointer_owns}
use Rattle.thread_local_buckets.specs.contracts.bucket_pointer.BucketPointer as one_pointer
use Rattle.thread_local_buckets.specs.contracts.bucket_pointer.BucketPointer.flags.{ended, clauses, Key.name as #self}
use Rattle.thread_local_buckets.proofs.PointerSteps.{pointer_val, told, Same, pointer_chunk}
use Rattle.thread_local_buckets.proofs.bucket_pointer.BucketPointer.flags.Statement.{statement}
use Rattle.thread_local_buckets.proofs.bucket_pointer.BucketPointer.flags.Code as code
use Rattle.thread_local_base.proofs.Walking.{knows}

pub flags_spec : {M : Type 1} → statement M
flags_spec 𝓤 𝓛 𝓜 𝓡 wired T L =
    let 𝓣 = tables 𝓤 𝓛.H 𝓜 𝓡 𝓡.env in let R : RattleType = param 0 T in let PointerRow : RattleType = one_pointer.the_row R in
    let En = ended T in let c = clauses T 𝓛 𝓜.mem 𝓡.returns in let inst = layouts (a_type ∷ []) (T, tt) in
    let fn = inst_fn inst code.function in let number = plain (λ _. usize) in
    let goes = Goes-dropped 𝓛 2 number yes (λ κs x f. refl) in
    let hs : Stays En.signature.params En.kept = (
      stay_ref (0 ∷ []) tt (plain (λ _. PointerRow)),
      (stay_dropped number yes, (stay_dropped number yes, tt)),
    ) in
    proved 𝓛 En hs c 𝓜 𝓡 (Goes-ref 𝓛 2 0 tt (plain (λ _. PointerRow)), (goes, (goes, tt)))
    (#self inst) fn (code.unfolded 𝓤 𝓛.H 𝓜 𝓡 wired (T, tt))
    (λ κs. (mut_vals, (uint_vals w64, (uint_vals w64, tt))))
    (λ κs. (mut_Tells (named 0) κs.0 PointerRow, (uint_Tells w64, (uint_Tells w64, tt))))
    (λ κs qs bounds a gh are.
    let y : (walk_of 𝓛 En hs c).Ghost = (
      (κs, qs, bounds, a, (vptr a.0.ref_ptr.0 a.0.ref_ptr.1 ∷ [], (vint w64 a.1.0 ∷ [], (vint w64 a.1.1.0 ∷ [], tt)))),
      gh,
    ) in
    let Post : Val → SProp 𝓤 = (walk_of 𝓛 En hs c).post y in let b' : ℕ = a.0.ref_ptr.0 in let o' : ℕ = a.0.ref_ptr.1 in
    let h : PointerRow.Denot = a.0.now in let p : Ptr = h.at in let cs : List (Option T.Denot) = h.slots in
    let j : ℕ = a.1.0 in let w : ℕ = a.1.1.0 in let others : Fml = fsep (flft κs.1.0 qs.1.0) ftrue in
    let b : ℕ = block_of p in
    qed 𝓛 (((‵ (flft κs.0 qs.0) ⊛ ‵ others) ⊛ ‵ (owns (types_at En.signature.params κs) a y.0.4))
    ∷ raw (fact 𝓤 _) ∷ raw (fact 𝓤 (j * 64 < length cs))
    ∷ raw (fact 𝓤 (w ≡ flag_word_at R (length cs) j)) ∷ []) ∵
    keep ! (2 ∷ 3 ∷ 0 ∷ []) $ heard ! (j * 64 < length cs) (λ near.
    heard ! (w ≡ flag_word_at R (length cs) j) (λ numbered. split ! $ split ! $ move ! (2 ∷ []) $
    fsplit ! $ fsplit3 ! $ keep ! (1 ∷ 2 ∷ 4 ∷ 5 ∷ []) $
    enter ! _ _ _ _ _ $ alloc_all ! (λ l.
    pass_all ! refl
    ((tt, tt), ((tt, record { fits = are.1.0.1 }), ((tt, record { fits = are.1.1.0.1 }), tt))) $
    let Ev = env fn.locals l in
    opens ! tt PointerRow b' o' (λ us. move ! (1 ∷ []) $
    peeks ! PointerRow _ (shows 𝓛 PointerRow) h us (λ known. fsplit ! $ move ! (1 ∷ []) $
    use1 𝓛 (some (λ (n : ℕ).
    given (IsWordIn R p cs j n) (‵ (flags_of R (length cs) p n j) ⊛ raw (Same R 𝓛 p cs j n))))
    (pointer_chunk R 𝓛 p cs j near) $
    pick ! (λ n. learn ! (λ so. split ! $
    let number_at : w ≡ value_words R (length cs) + j = numbered ∙ so.place.number in
    let small : w * 8 < 2 ^ 64 = subst (λ (m : ℕ). m * 8 < 2 ^ 64) (sym number_at) so.place.near in
    let read : n < 2 ^ 64 = so.is_word.fits in
    let Told : Type 0 = (bit : ℕ) → bit < 64 → is_set n bit ≡ is_some (slot_value cs (j * 64 + bit)) in
    let seen : us ≡ pointer_val (block_ptr b (count_of p)) ∷ [] =
    told R p us known.0 ∙ ap (λ (u : Ptr). pointer_val u ∷ []) (at_block p so.lies) in
    let Cell = λ (ws : List Val). ‵ (cell_at full_share PointerRow.mir ws b' o') in rewrite ! 3 Cell seen refl $
    -- [the chunk's word; the way back; the pointer's field; its cell; the open borrow]
    first ! $ blocks ! $
    sets ! (of_opd ! (load ! (through ! refl (fld ! refl (stop !))) (look_in ! 3 (sub ! 0 refl (whole !))))) refl (tt, tt) $
    sets ! (of_opd ! (get ! refl)) refl (tt, tt) $
    sets ! (is ! (bin ! (get ! refl) (lit ! tt) (record { fits = small }))
    (ap (λ (m : ℕ). vint w64 (m * 8)) number_at))
    refl (tt, record { fits = so.place.near }) $
    sets ! (bin ! (get ! refl) (get ! refl) tt) refl (tt, tt) $
    sets_last ! (of_opd ! (load ! (through ! refl (stop !)) (look ! 0 refl))) refl
    (tt, record { fits = read }) $
    exec ! 𝓣.C 𝓣.Λ Ev (after 1 fn.body) (at_ret Ev Post) $ sets ! (of_opd ! (get ! refl)) refl (tt, record { fits = read }) $
    use2 𝓛 (‵ (pointer_owns R heap_token p cs))
    (apply∗ 𝓤 (sem 𝓛 (flags_of R (length cs) p n j)) (sem 𝓛 (pointer_owns R heap_token p cs))) $
    rewrite ! 2 Cell (sym seen) refl $
    move ! (1 ∷ []) $ fjoin ! $ move ! (1 ∷ []) $ closes ! tt PointerRow h us b' o' $
    feq_i ! _ (vptr b' o' ∷ []) _ refl $ fjoin3 ! $ nothing ! $ nothing ! $
    fjoin ! $ nothing ! $ fjoin ! $ move ! (1 ∷ 0 ∷ []) $ fjoin ! $ move ! (1 ∷ 2 ∷ []) $ join ! $
    knows ! (h ≡ h) refl $
    knows ! Told so.is_word.flags $ join ! $
    flt_i ! n (2 ^ 64) read $ feq_i ! _ (vint w64 n ∷ []) _ refl $
    fjoin ! $
    returns ! (look_at ! 0 refl) $ free_all ! refl $ keep ! (2 ∷ 3 ∷ 0 ∷ 1 ∷ []) $
    by ! (leaves 𝓛 En hs c y (vint w64 n) n (h, (tt, (tt, tt))) (tt, (tt, (tt, tt))))))))))))
