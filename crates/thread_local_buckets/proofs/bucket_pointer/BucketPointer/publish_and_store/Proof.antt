-- `publish_and_store` writes the value of a slot, and then stores the flags of its chunk with the
-- slot's own.
use Rattle.thread_local_base.proofs.Names.{◌≡◌, ℕ, ◌+◌, ◌*◌, ◌^◌, ◌<◌, List, [], ◌∷◌, ◌++◌, length, set, sym, refl}
use Rattle.thread_local_base.proofs.Names.{ap, ◌∙◌, subst, w64, Option, Some, None, a_type, bare, Val, vint}
use Rattle.thread_local_base.proofs.Names.{vptr, vunit, inst_fn, full_share, SProp, ent, id⊢, Fml, ftrue, fsep}
use Rattle.thread_local_base.proofs.Names.{fat, froom, flft, WpFn, ‵, raw, ◌⊛◌, some, given, at_ret, ◌$◌, ◌∵◌, !, qed}
use Rattle.thread_local_base.proofs.Names.{by, move, keep, use1, use3, split, split3, join, fsplit, fsplit3}
use Rattle.thread_local_base.proofs.Names.{fjoin, fjoin3, pick, learn, suffices, rewrite, feq_i, stop, fld, load}
use Rattle.thread_local_base.proofs.Names.{lit, unit_lit, size_word, of_opd, bin, first, blocks, exec, returns}
use Rattle.thread_local_base.proofs.Names.{enter, init, store, assigns, assigns_last, alloc_all, pass_all, free_all}
use Rattle.thread_local_base.proofs.Names.{look_at, get, through, sets, is, env, sub, look_in, whole, tables, fact}
use Rattle.thread_local_base.proofs.Names.{yes, no, RattleType, owns, types_at, plain, Ptr, block_ptr}
use Rattle.thread_local_base.proofs.Names.{block_of, count_of, at_block, nothing, heard, opens, closes, peeks, shows}
use Rattle.thread_local_base.proofs.Names.{param, layout, layouts, param_laws, usize, u64, Stays, stay_dropped, stay_ref}
use Rattle.thread_local_base.proofs.Names.{walk_of, Goes-dropped, Goes-ref, cell_at, Member, proved_at, leaves, after}
use Rattle.thread_local_base.proofs.Names.{one, gather}
use Rattle.std.specs.Prelude.{◌/◌}
use Rattle.thread_local_buckets.specs.Slots.{slot_value, stride, value_words, flag_word_at, value_offset, content_at, heap_token}
use Rattle.thread_local_buckets.proofs.Slots.{IsSlotIn, Change, flags_of, slot_of}
use Rattle.thread_local_buckets.proofs.ChunkFlags.{HasFlags, bit_changed}
use Rattle.thread_local_buckets.proofs.Flags.{uncapped}
use Rattle.thread_local_buckets.specs.PointerOwns.{pointer_owns}
use Rattle.thread_local_buckets.specs.contracts.bucket_pointer.BucketPointer as one_pointer
use Rattle.thread_local_buckets.specs.contracts.bucket_pointer.BucketPointer.publish_and_store.{ended, clauses, Key.name as #self}
use Rattle.thread_local_buckets.proofs.PointerSteps.{pointer_val, told, Again, pointer_slot, pointer_again}
use Rattle.thread_local_buckets.proofs.bucket_pointer.BucketPointer.publish_and_store.Statement.{statement}
use Rattle.thread_local_buckets.proofs.bucket_pointer.BucketPointer.publish_and_store.Code as code
use Rattle.thread_local_base.proofs.Walking.{knows}

pub publish_and_store_spec : {M : Type 1} → statement M
publish_and_store_spec 𝓤 𝓛 𝓜 𝓡 wired T L =
    let 𝓣 = tables 𝓤 𝓛.H 𝓜 𝓡 𝓡.env in let R : RattleType = param 0 T in let PointerRow : RattleType = one_pointer.the_row R in
    let En = ended T in let c = clauses T 𝓛 𝓜.mem 𝓡.returns in let inst = layouts (a_type ∷ []) (T, tt) in
    let fn = inst_fn inst code.function in
    let number = plain (λ _. usize) in let goes = Goes-dropped 𝓛 2 number yes (λ κs x f. refl) in
    let hs : Stays En.signature.params En.kept = (
      stay_ref (0 ∷ []) tt (plain (λ _. PointerRow)),
      (
        stay_dropped number yes,
        (stay_dropped number yes, (stay_dropped (plain (λ _. u64)) yes, (stay_dropped (plain (λ _. R)) no, tt))),
      ),
    ) in
    proved_at 𝓛 En hs c 𝓜 𝓡 (
      Goes-ref 𝓛 2 0 tt (plain (λ _. PointerRow)),
      (
        goes,
        (
          goes,
          (
            Goes-dropped 𝓛 2 (plain (λ _. u64)) yes (λ κs x f. refl),
            (Goes-dropped 𝓛 2 (plain (λ _. R)) no (λ κs x f. refl), tt),
          ),
        ),
      ),
    )
    (#self inst) fn (code.unfolded 𝓤 𝓛.H 𝓜 𝓡 wired (T, tt)) (λ y are.
    let κs = y.0.0 in
    let qs = y.0.1 in
    let a = y.0.3 in
    let vss = y.0.4 in
    let Post : Val → SProp 𝓤 = (walk_of 𝓛 En hs c).post y in let b' : ℕ = a.0.ref_ptr.0 in let o' : ℕ = a.0.ref_ptr.1 in
    let h : PointerRow.Denot = a.0.now in let p : Ptr = h.at in let cs : List (Option T.Denot) = h.slots in
    let j : ℕ = a.1.0 in let w : ℕ = a.1.1.0 in
    let word : ℕ = a.1.1.1.0 in
    let new : T.Denot = a.1.1.1.1.0 in
    let others : Fml = fsep (flft κs.1.0 qs.1.0) ftrue in let b : ℕ = block_of p in let k : ℕ = j / 64 in
    let at : ℕ = value_offset R (count_of p) j in
    let s : Option T.Denot = slot_value cs j in
    let LR = (param_laws 0 T L).lawful 𝓛 in let m : Member = record { row = R; ty = layout T } in
    let got = one (layout T) vss.1.1.1.1.0 (LR.typed new vss.1.1.1.1.0 are.1.1.1.1.0) in let vy : Val = got.0 in
    let Filled : Type 0 = HasFlags (set cs j (Some new)) k word in
    qed 𝓛 (((‵ (flft κs.0 qs.0) ⊛ ‵ others) ⊛ ‵ (owns (types_at En.signature.params κs) a vss))
    ∷ raw (fact 𝓤 _) ∷ raw (fact 𝓤 (j < length cs))
    ∷ raw (fact 𝓤 (w ≡ flag_word_at R (length cs) k)) ∷ raw (fact 𝓤 (s ≡ None)) ∷ raw (fact 𝓤 Filled) ∷ []) ∵
    keep ! (2 ∷ 3 ∷ 4 ∷ 5 ∷ 0 ∷ []) $ heard ! (j < length cs) (λ near.
    heard ! (w ≡ flag_word_at R (length cs) k) (λ numbered. heard ! (s ≡ None) (λ empty. heard ! Filled (λ filled. split ! $
    split ! $ move ! (2 ∷ []) $ fsplit3 ! $ fsplit3 ! $ move ! (4 ∷ []) $ fsplit3 ! $ move ! (2 ∷ []) $ fsplit ! $
    keep ! (5 ∷ 6 ∷ 8 ∷ 0 ∷ 9 ∷ []) $
    rewrite ! 3 (λ (ws : List Val). ‵ (R.own_val new ws)) got.1 refl $
    let us : List Val = vptr b' o' ∷ vint w64 j ∷ vint w64 w ∷ vint w64 word ∷ vy ∷ [] in
    let Run : List Val → SProp 𝓤 = λ ws. WpFn 𝓤 𝓛.H 𝓣.C 𝓣.Λ fn ws Post in
    suffices ! (Run us) (subst (λ (ws : List Val). ent 𝓤 (Run us) (Run ws))
    (sym (λ i. are.0.0 i ++ (are.1.0.0 i ++ (are.1.1.0.0 i ++ (are.1.1.1.0.0 i ++ (got.1 i ++ []))))))
    (id⊢ 𝓤 (Run us))) $
    enter ! 𝓣.C 𝓣.Λ fn us Post $ alloc_all ! (λ l.
    pass_all ! refl (
      (tt, tt),
      (
        (tt, record { fits = are.1.0.1 }),
        ((tt, record { fits = are.1.1.0.1 }), ((tt, record { fits = are.1.1.1.0.1 }), (got.2, tt))),
      ),
    ) $
    let Ev = env fn.locals l in
    opens ! tt PointerRow b' o' (λ ts. move ! (1 ∷ []) $
    peeks ! PointerRow _ (shows 𝓛 PointerRow) h ts (λ known. fsplit ! $ move ! (1 ∷ []) $
    use1 𝓛 (some (λ (n : ℕ).
    given (IsSlotIn R p cs j n)
    (‵ (flags_of R (length cs) p n k) ⊛ ‵ (slot_of R p s j) ⊛ raw (Again R 𝓛 p cs j n))))
    (pointer_slot R 𝓛 p cs j near) $
    pick ! (λ n. learn ! (λ so. split3 ! $
    let number_at : w ≡ value_words R (length cs) + k = numbered ∙ so.place.number in
    let small : w * 8 < 2 ^ 64 = subst (λ (m : ℕ). m * 8 < 2 ^ 64) (sym number_at) so.place.near in
    let near_value : j * stride R < 2 ^ 64 = so.value_near in
    let seen : ts ≡ pointer_val (block_ptr b (count_of p)) ∷ [] =
    told R p ts known.0 ∙ ap (λ (u : Ptr). pointer_val u ∷ []) (at_block p so.lies) in
    let Cell = λ (ws : List Val). ‵ (cell_at full_share PointerRow.mir ws b' o') in
    rewrite ! 4 Cell seen refl $ move ! (1 ∷ []) $
    rewrite ! 0 (λ (u : Option T.Denot). ‵ (content_at R u b at)) empty refl $
    use1 𝓛 (‵ (froom (layout T) b at)) (𝓛.laws.raw-room (layout T) b at) $
    let fits : word < 2 ^ 64 = are.1.1.1.0.1 in
    let change : Change T.Denot j n = record {
      new = word;
      value = Some new;
      fits = fits;
      but = bit_changed cs j (Some new) n word near so.is_word.flags filled;
    } in
    -- [the value's room; the chunk's word; the way back; the pointer's field; its cell; the open
    -- borrow; the new value]
    sets ! (of_opd ! (load ! (through ! refl (fld ! refl (stop !))) (look_in ! 4 (sub ! 0 refl (whole !))))) refl (tt, tt) $
    first ! $ blocks ! $ sets ! (of_opd ! (get ! refl)) refl (tt, tt) $
    sets ! (is ! (bin ! (get ! refl) (size_word !) (record {
      fits = subst (λ (m : ℕ). m < 2 ^ 64) (sym (uncapped j (stride R) near_value)) near_value;
    }))
    (ap (vint w64) (uncapped j (stride R) near_value)))
    refl (tt, record { fits = near_value }) $
    sets ! (bin ! (get ! refl) (get ! refl) tt) refl (tt, tt) $
    sets ! (of_opd ! (get ! refl)) refl got.2 $
    assigns ! (of_opd ! (get ! refl)) (through ! refl (stop !)) (init ! 0 refl got.2) $
    sets ! (of_opd ! (get ! refl)) refl (tt, tt) $
    sets ! (is ! (bin ! (get ! refl) (lit ! tt) (record { fits = small }))
    (ap (λ (m : ℕ). vint w64 (m * 8)) number_at))
    refl (tt, record { fits = so.place.near }) $
    sets ! (bin ! (get ! refl) (get ! refl) tt) refl (tt, tt) $
    assigns_last ! (of_opd ! (get ! refl)) (through ! refl (stop !))
    (store ! 1 refl (tt, record { fits = fits })) $
    exec ! 𝓣.C 𝓣.Λ Ev (after 2 fn.body) (at_ret Ev Post) $
    sets ! (of_opd ! (unit_lit !)) refl (tt, tt) $
    use1 𝓛 (‵ (fat full_share (bare (layout T)) b at vy))
    (𝓛.laws.at_raw full_share (layout T) b at vy) $
    move ! (0 ∷ 8 ∷ []) $ gather m ! new vy b at $ move ! (1 ∷ 0 ∷ 2 ∷ []) $
    use3 𝓛 (‵ (pointer_owns R heap_token p (set cs j (Some new))))
    (pointer_again R 𝓛 p cs j n change near) $
    rewrite ! 2 Cell (sym seen) refl $
    let h' : PointerRow.Denot = record { at = p; slots = set cs j (Some new) } in
    move ! (1 ∷ []) $ fjoin ! $ move ! (1 ∷ []) $ closes ! tt PointerRow h' ts b' o' $
    feq_i ! (List Val) vss.0 (vptr b' o' ∷ []) are.0.0 $ fjoin3 ! $ nothing ! $ nothing ! $
    fjoin ! $ nothing ! $ fjoin ! $ nothing ! $ fjoin ! $ nothing ! $ fjoin ! $ move ! (1 ∷ 0 ∷ []) $ fjoin ! $
    move ! (1 ∷ 2 ∷ []) $ join ! $
    knows ! (h'.slots ≡ h'.slots) refl $
    feq_i ! _ (vunit ∷ []) _ refl $
    returns ! (look_at ! 0 refl) $ free_all ! refl $ keep ! (2 ∷ 3 ∷ 0 ∷ 1 ∷ []) $
    by !
    (leaves 𝓛 En hs c y vunit tt (h', (tt, (tt, (tt, (tt, tt))))) (tt, (tt, (tt, (tt, (tt, tt))))))))))))))))
