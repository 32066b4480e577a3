-- `move_next` reads the value of the next slot, which becomes room, whatever its flag says.
use Rattle.thread_local_base.proofs.Names.{◌≡◌, ℕ, ◌+◌, ◌*◌, ◌^◌, ◌<◌, List, [], ◌∷◌, length, sym, refl, ap, ◌∙◌}
use Rattle.thread_local_base.proofs.Names.{subst, w64, Option, Some, Ty, a_type, dcons, dnil, named, Val, vint, vptr}
use Rattle.thread_local_base.proofs.Names.{inst_fn, bare, full_share, SProp, Fml, ftrue, fsep, froom, flft, ‵}
use Rattle.thread_local_base.proofs.Names.{raw, ◌⊛◌, given, at_ret, ◌$◌, ◌∵◌, !, qed, by, move, keep, use1}
use Rattle.thread_local_base.proofs.Names.{use2, split, join, fsplit, fsplit3, fjoin, fjoin3, learn, rewrite, feq_i}
use Rattle.thread_local_base.proofs.Names.{stop, fld, load, look_raw, size_word, of_opd, bin, first, blocks, exec}
use Rattle.thread_local_base.proofs.Names.{returns, enter, alloc_all, pass_all, free_all, look_at, get, through, sets}
use Rattle.thread_local_base.proofs.Names.{sets_last, is, env, sub, look_in, whole, tables, fact, yes}
use Rattle.thread_local_base.proofs.Names.{RattleType, owns, types_at, plain, Ptr, block_ptr, block_of, count_of}
use Rattle.thread_local_base.proofs.Names.{at_block, InBlock, nothing, heard, opens, closes, peeks, shows, param}
use Rattle.thread_local_base.proofs.Names.{layout, param_laws, bounded, usize, mut_vals, mut_Tells, uint_vals}
use Rattle.thread_local_base.proofs.Names.{uint_Tells, Stays, stay_dropped, stay_ref, walk_of, Goes-dropped, Goes-ref}
use Rattle.thread_local_base.proofs.Names.{cell_at, Member, proved, leaves, after, spread}
use Rattle.std.specs.Prelude.{IsSome}
use base.Logic.{apply∗}
use types.Logic.{sem}
use Rattle.thread_local_buckets.specs.Slots.{slot_value, stride, value_offset, content_at, slot}
use Rattle.thread_local_buckets.proofs.Flags.{uncapped}
use Rattle.thread_local_buckets.proofs.Slots.{value_of}
use Rattle.thread_local_buckets.specs.Emptying.{emptying_owns, rest}
use Rattle.thread_local_buckets.specs.contracts.emptying.EmptyingBlock as emptying
use Rattle.thread_local_buckets.specs.contracts.emptying.EmptyingBlock.move_next.{ended, clauses, Key.name as #self}
use Rattle.thread_local_buckets.proofs.BlockFields.{block_val, told}
use Rattle.thread_local_buckets.proofs.EmptyingBlocks.{Emptied, next_slot}
use Rattle.thread_local_buckets.proofs.emptying.EmptyingBlock.move_next.Statement.{statement}
use Rattle.thread_local_buckets.proofs.emptying.EmptyingBlock.move_next.Code as code
use Rattle.thread_local_base.proofs.Walking.{knows}

pub move_next_spec : {M : Type 1} → statement M
move_next_spec 𝓤 𝓛 𝓜 𝓡 wired T Al L _ ga da dd _ _ =
    let 𝓣 = tables 𝓤 𝓛.H 𝓜 𝓡 𝓡.env in let R : RattleType = param 0 T in let Z : RattleType = param 1 Al in
    let Lv : RattleType = emptying.the_row R Z ga in let En = ended T Al ga da dd in
    let c = clauses T Al ga da dd 𝓛 𝓜.mem 𝓡.returns in
    let inst = bounded (a_type ∷ a_type ∷ []) (T, (Al, tt)) (dcons da (dcons dd dnil)) in let fn = inst_fn inst code.function in
    let hs : Stays En.signature.params En.kept =
    (stay_ref (0 ∷ []) tt (plain (λ _. Lv)), (stay_dropped (plain (λ _. usize)) yes, tt)) in
    proved 𝓛 En hs c 𝓜 𝓡 (Goes-ref 𝓛 3 0 tt (plain (λ _. Lv)), (Goes-dropped 𝓛 3 (plain (λ _. usize)) yes (λ κs x f. refl), tt))
    (#self inst) fn (code.unfolded 𝓤 𝓛.H 𝓜 𝓡 wired (T, (Al, tt)) da dd)
    (λ κs. (mut_vals, (uint_vals w64, tt))) (λ κs. (mut_Tells (named 0) κs.0 Lv, (uint_Tells w64, tt))) (λ κs qs bounds a gh are.
    let y : (walk_of 𝓛 En hs c).Ghost = (
      (κs, qs, bounds, a, (vptr a.0.ref_ptr.0 a.0.ref_ptr.1 ∷ [], (vint w64 a.1.0 ∷ [], tt))),
      gh,
    ) in
    let Post : Val → SProp 𝓤 = (walk_of 𝓛 En hs c).post y in let b' : ℕ = a.0.ref_ptr.0 in let o' : ℕ = a.0.ref_ptr.1 in
    let h : Lv.Denot = a.0.now in let token : Ty → Ptr → Fml = ga.dealloc_token h.heap in let p : Ptr = h.at in
    let cs : List (Option T.Denot) = h.slots in let j : ℕ = a.1.0 in let b : ℕ = block_of p in
    let s : Option T.Denot = slot_value cs 0 in
    let Asked : Type 0 = (j ≡ h.gone) × (0 < length cs) in
    let others : Fml = fsep (flft κs.1.0 qs.1.0) (fsep (flft κs.1.1.0 qs.1.1.0) ftrue) in
    let at : ℕ = value_offset R (count_of p) j in
    let LR = (param_laws 0 T L).lawful 𝓛 in let m : Member = record { row = R; ty = layout T } in
    qed 𝓛 (((‵ (flft κs.0 qs.0) ⊛ ‵ others) ⊛ ‵ (owns (types_at En.signature.params κs) a y.0.4))
    ∷ raw (fact 𝓤 _) ∷ raw (fact 𝓤 _) ∷ raw (fact 𝓤 Asked) ∷ raw (fact 𝓤 (IsSome s)) ∷ []) ∵
    keep ! (3 ∷ 4 ∷ 0 ∷ []) $ heard ! Asked (λ asked. heard ! (IsSome s) (λ full.
    let near : 0 < length cs = asked.1 in let x : T.Denot = (value_of s full).0 in
    let lies : s ≡ Some x = (value_of s full).1 in
    split ! $ split ! $ move ! (2 ∷ []) $ fsplit ! $ fsplit3 ! $ keep ! (1 ∷ 2 ∷ 4 ∷ 5 ∷ []) $
    enter ! _ _ _ _ _ $ alloc_all ! (λ l.
    pass_all ! refl ((tt, tt), ((tt, record { fits = are.1.0.1 }), tt)) $
    let Ev = env fn.locals l in
    opens ! tt Lv b' o' (λ us. move ! (1 ∷ []) $ peeks ! Lv _ (shows 𝓛 Lv) h us (λ known. fsplit ! $
    move ! (1 ∷ []) $ rewrite ! 0 (λ (m : ℕ). ‵ (emptying_owns R token p m cs)) (sym asked.0) refl $
    use1 𝓛 (given (InBlock p × (j * stride R < 2 ^ 64))
    (‵ (slot R b (count_of p) s j) ⊛ raw (Emptied 𝓛 R token p j cs)))
    (next_slot 𝓛 R token p j cs near) $
    learn ! (λ so. split ! $
    let small : j * stride R < 2 ^ 64 = so.1 in
    let seen : us ≡ block_val (block_ptr b (count_of p)) ∷ [] =
    told R Z ga p us known.0 ∙ ap (λ (u : Ptr). block_val u ∷ []) (at_block p so.0) in
    let Cell = λ (ws : List Val). ‵ (cell_at full_share Lv.mir ws b' o') in
    rewrite ! 3 Cell seen refl $
    rewrite ! 0 (λ (u : Option T.Denot). ‵ (content_at R u b at)) lies refl $
    spread m ! LR x b at (λ v good.
    -- [the value's cell; what it owns; the way back; the block's fields; their cell; the open
    -- borrow]
    first ! $ blocks ! $
    sets ! (of_opd ! (load ! (through ! refl (fld ! refl (stop !))) (look_in ! 4 (sub ! 0 refl (whole !))))) refl (tt, tt) $
    sets ! (of_opd ! (get ! refl)) refl (tt, tt) $
    sets ! (is ! (bin ! (get ! refl) (size_word !) (record {
      fits = subst (λ (k : ℕ). k < 2 ^ 64) (sym (uncapped j (stride R) small)) small;
    }))
    (ap (vint w64) (uncapped j (stride R) small)))
    refl (tt, record { fits = small }) $
    sets ! (bin ! (get ! refl) (get ! refl) tt) refl (tt, tt) $
    sets_last ! (of_opd ! (load ! (through ! refl (stop !)) (look_raw ! 0 refl))) refl good $
    exec ! 𝓣.C 𝓣.Λ Ev (after 1 fn.body) (at_ret Ev Post) $
    sets ! (of_opd ! (get ! refl)) refl good $
    use1 𝓛 (‵ (froom (bare (layout T)) b at)) (𝓛.laws.at_room (bare (layout T)) b at v) $ move ! (0 ∷ 2 ∷ []) $
    use2 𝓛 (‵ (emptying_owns R token p (j + 1) (rest cs)))
    (apply∗ 𝓤 (sem 𝓛 (froom (bare (layout T)) b at))
    (sem 𝓛 (emptying_owns R token p (j + 1) (rest cs)))) $
    move ! (0 ∷ 2 ∷ 3 ∷ 4 ∷ 5 ∷ 6 ∷ []) $
    rewrite ! 2 Cell (sym seen) refl $
    let h' : Lv.Denot = record { at = p; marker = h.marker; heap = h.heap; slots = rest cs; gone = j + 1 } in
    move ! (1 ∷ []) $ fjoin ! $ move ! (1 ∷ []) $ closes ! tt Lv h' us b' o' $
    feq_i ! _ (vptr b' o' ∷ []) _ refl $ fjoin3 ! $ nothing ! $ nothing ! $
    fjoin ! $ move ! (1 ∷ 0 ∷ []) $ fjoin ! $ move ! (1 ∷ 3 ∷ []) $ join ! $
    let After : Type 0 = (h.heap ≡ h.heap) × (h'.slots ≡ h'.slots) × (h'.gone ≡ h.gone + 1) in
    knows ! After (refl, refl, ap (λ (i : ℕ). i + 1) asked.0) $
    knows ! (s ≡ Some x) lies $ join ! $
    returns ! (look_at ! 0 refl) $ free_all ! refl $ keep ! (1 ∷ 2 ∷ 3 ∷ 0 ∷ []) $
    by ! (leaves 𝓛 En hs c y v x (h', (tt, tt)) (tt, (tt, tt)))))))))))
