-- `take_and_store` stores the flags of a slot's chunk without the slot's own, and reads its value,
-- which becomes room.
use Rattle.thread_local_base.proofs.Names.{◌≡◌, ℕ, ◌+◌, ◌*◌, ◌^◌, ◌<◌, List, [], ◌∷◌, length, set, sym, refl, ap, ◌∙◌}
use Rattle.thread_local_base.proofs.Names.{subst, w64, Option, Some, None, a_type, named, bare, Val, vint, vptr}
use Rattle.thread_local_base.proofs.Names.{inst_fn, full_share, SProp, Fml, ftrue, fsep, froom, flft, ‵, raw}
use Rattle.thread_local_base.proofs.Names.{◌⊛◌, some, given, at_ret, ◌$◌, ◌∵◌, !, qed, by, move, keep, use1}
use Rattle.thread_local_base.proofs.Names.{use3, split, split3, join, fsplit, fsplit3, fjoin, fjoin3, pick, learn}
use Rattle.thread_local_base.proofs.Names.{rewrite, feq_i, stop, fld, load, look_raw, lit, size_word, of_opd, bin}
use Rattle.thread_local_base.proofs.Names.{first, blocks, exec, returns, enter, store, assigns, alloc_all, pass_all}
use Rattle.thread_local_base.proofs.Names.{free_all, look_at, get, through, sets, sets_last, is, env, sub, look_in}
use Rattle.thread_local_base.proofs.Names.{whole, tables, fact, yes, RattleType, owns, types_at, plain, Ptr}
use Rattle.thread_local_base.proofs.Names.{block_ptr, block_of, count_of, at_block, nothing, heard, opens, closes}
use Rattle.thread_local_base.proofs.Names.{peeks, shows, param, layout, layouts, param_laws, usize, u64, mut_vals}
use Rattle.thread_local_base.proofs.Names.{mut_Tells, uint_vals, uint_Tells, Stays, stay_dropped, stay_ref, walk_of}
use Rattle.thread_local_base.proofs.Names.{Goes-dropped, Goes-ref, cell_at, Member, proved, leaves, after, spread}
use Rattle.std.specs.Prelude.{◌/◌, IsSome}
use Rattle.thread_local_buckets.specs.Slots.{slot_value, stride, value_words, flag_word_at, value_offset, content_at, heap_token}
use Rattle.thread_local_buckets.proofs.Slots.{IsSlotIn, Change, flags_of, slot_of, value_of}
use Rattle.thread_local_buckets.proofs.ChunkFlags.{HasFlags, bit_changed}
use Rattle.thread_local_buckets.proofs.Flags.{uncapped}
use Rattle.thread_local_buckets.specs.PointerOwns.{pointer_owns}
use Rattle.thread_local_buckets.specs.contracts.bucket_pointer.BucketPointer as one_pointer
use Rattle.thread_local_buckets.specs.contracts.bucket_pointer.BucketPointer.take_and_store.{ended, clauses, Key.name as #self}
use Rattle.thread_local_buckets.proofs.PointerSteps.{pointer_val, told, Again, pointer_slot, pointer_again}
use Rattle.thread_local_buckets.proofs.bucket_pointer.BucketPointer.take_and_store.Statement.{statement}
use Rattle.thread_local_buckets.proofs.bucket_pointer.BucketPointer.take_and_store.Code as code
use Rattle.thread_local_base.proofs.Walking.{knows}

pub take_and_store_spec : {M : Type 1} → statement M
take_and_store_spec 𝓤 𝓛 𝓜 𝓡 wired T L =
    let 𝓣 = tables 𝓤 𝓛.H 𝓜 𝓡 𝓡.env in let R : RattleType = param 0 T in let PointerRow : RattleType = one_pointer.the_row R in
    let En = ended T in let c = clauses T 𝓛 𝓜.mem 𝓡.returns in let inst = layouts (a_type ∷ []) (T, tt) in
    let fn = inst_fn inst code.function in
    let number = plain (λ _. usize) in let goes = Goes-dropped 𝓛 2 number yes (λ κs x f. refl) in
    let hs : Stays En.signature.params En.kept = (
      stay_ref (0 ∷ []) tt (plain (λ _. PointerRow)),
      (stay_dropped number yes, (stay_dropped number yes, (stay_dropped (plain (λ _. u64)) yes, tt))),
    ) in
    proved 𝓛 En hs c 𝓜 𝓡 (
      Goes-ref 𝓛 2 0 tt (plain (λ _. PointerRow)),
      (goes, (goes, (Goes-dropped 𝓛 2 (plain (λ _. u64)) yes (λ κs x f. refl), tt))),
    )
    (#self inst) fn (code.unfolded 𝓤 𝓛.H 𝓜 𝓡 wired (T, tt))
    (λ κs. (mut_vals, (uint_vals w64, (uint_vals w64, (uint_vals w64, tt)))))
    (λ κs. (mut_Tells (named 0) κs.0 PointerRow, (uint_Tells w64, (uint_Tells w64, (uint_Tells w64, tt)))))
    (λ κs qs bounds a gh are.
    let y : (walk_of 𝓛 En hs c).Ghost = (
      (
        κs,
        qs,
        bounds,
        a,
        (vptr a.0.ref_ptr.0 a.0.ref_ptr.1 ∷ [], (vint w64 a.1.0 ∷ [], (vint w64 a.1.1.0 ∷ [], (vint w64 a.1.1.1.0 ∷ [], tt)))),
      ),
      gh,
    ) in
    let Post : Val → SProp 𝓤 = (walk_of 𝓛 En hs c).post y in let b' : ℕ = a.0.ref_ptr.0 in let o' : ℕ = a.0.ref_ptr.1 in
    let h : PointerRow.Denot = a.0.now in let p : Ptr = h.at in let cs : List (Option T.Denot) = h.slots in
    let j : ℕ = a.1.0 in let w : ℕ = a.1.1.0 in
    let new : ℕ = a.1.1.1.0 in
    let others : Fml = fsep (flft κs.1.0 qs.1.0) ftrue in let b : ℕ = block_of p in let k : ℕ = j / 64 in
    let at : ℕ = value_offset R (count_of p) j in
    let s : Option T.Denot = slot_value cs j in
    let LR = (param_laws 0 T L).lawful 𝓛 in let m : Member = record { row = R; ty = layout T } in
    let Cleared : Type 0 = HasFlags (set cs j None) k new in
    qed 𝓛 (((‵ (flft κs.0 qs.0) ⊛ ‵ others) ⊛ ‵ (owns (types_at En.signature.params κs) a y.0.4))
    ∷ raw (fact 𝓤 _)
    ∷ (raw (fact 𝓤 (j < length cs)) ⊛ raw (fact 𝓤 (w ≡ flag_word_at R (length cs) k))
    ⊛ raw (fact 𝓤 (IsSome s)) ⊛ raw (fact 𝓤 Cleared))
    ∷ []) ∵
    keep ! (2 ∷ 0 ∷ []) $ split3 ! $ heard ! (j < length cs) (λ near.
    heard ! (w ≡ flag_word_at R (length cs) k) (λ numbered. split ! $ heard ! (IsSome s) (λ full.
    heard ! Cleared (λ cleared.
    let x : T.Denot = (value_of s full).0 in
    let lies : s ≡ Some x = (value_of s full).1 in
    split ! $ split ! $ move ! (2 ∷ []) $ fsplit ! $ fsplit3 ! $ keep ! (1 ∷ 2 ∷ 4 ∷ 5 ∷ []) $
    enter ! _ _ _ _ _ $
    alloc_all ! (λ l.
    pass_all ! refl (
      (tt, tt),
      ((tt, record { fits = are.1.0.1 }), ((tt, record { fits = are.1.1.0.1 }), ((tt, record { fits = are.1.1.1.0.1 }), tt))),
    ) $
    let Ev = env fn.locals l in
    opens ! tt PointerRow b' o' (λ us. move ! (1 ∷ []) $
    peeks ! PointerRow _ (shows 𝓛 PointerRow) h us (λ known. fsplit ! $ move ! (1 ∷ []) $
    use1 𝓛 (some (λ (n : ℕ).
    given (IsSlotIn R p cs j n)
    (‵ (flags_of R (length cs) p n k) ⊛ ‵ (slot_of R p s j) ⊛ raw (Again R 𝓛 p cs j n))))
    (pointer_slot R 𝓛 p cs j near) $
    pick ! (λ n. learn ! (λ so. split3 ! $
    let number_at : w ≡ value_words R (length cs) + k = numbered ∙ so.place.number in
    let small : w * 8 < 2 ^ 64 = subst (λ (m : ℕ). m * 8 < 2 ^ 64) (sym number_at) so.place.near in
    let near_value : j * stride R < 2 ^ 64 = so.value_near in
    let seen : us ≡ pointer_val (block_ptr b (count_of p)) ∷ [] =
    told R p us known.0 ∙ ap (λ (u : Ptr). pointer_val u ∷ []) (at_block p so.lies) in
    let Cell = λ (ws : List Val). ‵ (cell_at full_share PointerRow.mir ws b' o') in
    rewrite ! 4 Cell seen refl $ move ! (1 ∷ []) $
    rewrite ! 0 (λ (u : Option T.Denot). ‵ (content_at R u b at)) lies refl $
    spread m ! LR x b at (λ v good.
    -- [the value's cell; what it owns; the chunk's word; the way back; the pointer's field; its
    -- cell; the open borrow]
    let fits : new < 2 ^ 64 = are.1.1.1.0.1 in
    let change : Change T.Denot j n = record {
      new = new;
      value = None;
      fits = fits;
      but = bit_changed cs j None n new near so.is_word.flags cleared;
    } in
    sets ! (of_opd ! (load ! (through ! refl (fld ! refl (stop !))) (look_in ! 5 (sub ! 0 refl (whole !))))) refl (tt, tt) $
    first ! $ blocks ! $ sets ! (of_opd ! (get ! refl)) refl (tt, tt) $
    sets ! (is ! (bin ! (get ! refl) (lit ! tt) (record { fits = small }))
    (ap (λ (m : ℕ). vint w64 (m * 8)) number_at))
    refl (tt, record { fits = so.place.near }) $
    sets ! (bin ! (get ! refl) (get ! refl) tt) refl (tt, tt) $
    assigns ! (of_opd ! (get ! refl)) (through ! refl (stop !)) (store ! 2 refl (tt, record { fits = fits })) $
    sets ! (of_opd ! (get ! refl)) refl (tt, tt) $
    sets ! (is ! (bin ! (get ! refl) (size_word !) (record {
      fits = subst (λ (m : ℕ). m < 2 ^ 64) (sym (uncapped j (stride R) near_value)) near_value;
    }))
    (ap (vint w64) (uncapped j (stride R) near_value)))
    refl (tt, record { fits = near_value }) $
    sets ! (bin ! (get ! refl) (get ! refl) tt) refl (tt, tt) $
    sets_last ! (of_opd ! (load ! (through ! refl (stop !)) (look_raw ! 0 refl))) refl good $
    exec ! 𝓣.C 𝓣.Λ Ev (after 2 fn.body) (at_ret Ev Post) $
    sets ! (of_opd ! (get ! refl)) refl good $
    use1 𝓛 (‵ (froom (bare (layout T)) b at)) (𝓛.laws.at_room (bare (layout T)) b at v) $
    move ! (2 ∷ 0 ∷ 3 ∷ 4 ∷ 5 ∷ 6 ∷ 7 ∷ 8 ∷ []) $
    use3 𝓛 (‵ (pointer_owns R heap_token p (set cs j None)))
    (pointer_again R 𝓛 p cs j n change near) $
    rewrite ! 2 Cell (sym seen) refl $
    let h' : PointerRow.Denot = record { at = p; slots = set cs j None } in
    move ! (1 ∷ []) $ fjoin ! $ move ! (1 ∷ []) $ closes ! tt PointerRow h' us b' o' $
    feq_i ! _ (vptr b' o' ∷ []) _ refl $ fjoin3 ! $ nothing ! $ nothing ! $
    fjoin ! $ nothing ! $ fjoin ! $ nothing ! $ fjoin ! $ move ! (1 ∷ 0 ∷ []) $ fjoin ! $
    move ! (1 ∷ 3 ∷ []) $ join ! $
    knows ! (h'.slots ≡ h'.slots) refl $
    knows ! (s ≡ Some x) lies $ join ! $
    returns ! (look_at ! 0 refl) $ free_all ! refl $ keep ! (1 ∷ 2 ∷ 3 ∷ 0 ∷ []) $
    by ! (leaves 𝓛 En hs c y v x (h', (tt, (tt, (tt, tt)))) (tt, (tt, (tt, (tt, tt))))))))))))))))
