-- `push` writes 0 into the word of the next chunk.
use Rattle.thread_local_base.proofs.Names.{◌≡◌, ℕ, ◌+◌, ◌-◌, suc, ◌*◌, ◌^◌, ◌<◌, List, [], ◌∷◌, length, sym, refl, ap}
use Rattle.thread_local_base.proofs.Names.{◌∙◌, subst, arith, lit<, w64, Option, Ty, ty_int, a_type, dcons, dnil}
use Rattle.thread_local_base.proofs.Names.{named, Val, vint, vptr, vunit, inst_fn, full_share, SProp, apply∗}
use Rattle.thread_local_base.proofs.Names.{Fml, ftrue, fsep, froom, flft, sem, ‵, raw, ◌⊛◌, given, at_ret, ◌$◌, ◌∵◌}
use Rattle.thread_local_base.proofs.Names.{ !, qed, by, move, keep, use1, use2, split, join, fsplit, fsplit3}
use Rattle.thread_local_base.proofs.Names.{fjoin, fjoin3, learn, rewrite, feq_i, stop, fld, load, lit, unit_lit}
use Rattle.thread_local_base.proofs.Names.{of_opd, bin, first, blocks, exec, returns, enter, init, assigns_last}
use Rattle.thread_local_base.proofs.Names.{alloc_all, pass_all, free_all, look_at, get, through, sets, is, env, sub}
use Rattle.thread_local_base.proofs.Names.{look_in, whole, tables, fact, yes, RattleType, owns, types_at}
use Rattle.thread_local_base.proofs.Names.{plain, Ptr, block_ptr, block_of, count_of, at_block, InBlock, nothing}
use Rattle.thread_local_base.proofs.Names.{heard, opens, closes, peeks, shows, param, bounded, usize, mut_vals}
use Rattle.thread_local_base.proofs.Names.{mut_Tells, uint_vals, uint_Tells, Stays, stay_dropped, stay_ref, walk_of}
use Rattle.thread_local_base.proofs.Names.{Goes-dropped, Goes-ref, cell_at, proved, leaves, word, after}
use Rattle.thread_local_buckets.specs.Slots.{chunks, value_words, word_offset, flag_word_at, block_owns}
use Rattle.thread_local_buckets.proofs.Slots.{IsWordNear}
use Rattle.thread_local_buckets.specs.contracts.block.Block as block
use Rattle.thread_local_buckets.specs.contracts.block.Block.push.{ended, clauses, Key.name as #self}
use Rattle.thread_local_buckets.proofs.BlockFields.{block_val, told}
use Rattle.thread_local_buckets.proofs.Making.{next_room, Filled}
use Rattle.thread_local_buckets.proofs.block.Block.push.Statement.{statement}
use Rattle.thread_local_buckets.proofs.block.Block.push.Code as code
use Rattle.thread_local_base.proofs.Walking.{knows}

pub push_spec : {M : Type 1} → statement M
push_spec 𝓤 𝓛 𝓜 𝓡 wired T Al L _ ga da dd _ _ =
    let 𝓣 = tables 𝓤 𝓛.H 𝓜 𝓡 𝓡.env in let R : RattleType = param 0 T in let Z : RattleType = param 1 Al in
    let Bl : RattleType = block.the_row R Z ga in let En = ended T Al ga da dd in
    let c = clauses T Al ga da dd 𝓛 𝓜.mem 𝓡.returns in
    let inst = bounded (a_type ∷ a_type ∷ []) (T, (Al, tt)) (dcons da (dcons dd dnil)) in let fn = inst_fn inst code.function in
    let number = plain (λ _. usize) in let goes = Goes-dropped 𝓛 3 number yes (λ κs x f. refl) in
    let hs : Stays En.signature.params En.kept = (
      stay_ref (0 ∷ []) tt (plain (λ _. Bl)),
      (stay_dropped number yes, (stay_dropped number yes, tt)),
    ) in
    proved 𝓛 En hs c 𝓜 𝓡 (Goes-ref 𝓛 3 0 tt (plain (λ _. Bl)), (goes, (goes, tt))) (#self inst) fn
    (code.unfolded 𝓤 𝓛.H 𝓜 𝓡 wired (T, (Al, tt)) da dd)
    (λ κs. (mut_vals, (uint_vals w64, (uint_vals w64, tt))))
    (λ κs. (mut_Tells (named 0) κs.0 Bl, (uint_Tells w64, (uint_Tells w64, tt))))
    (λ κs qs bounds a gh are.
    let y : (walk_of 𝓛 En hs c).Ghost = (
      (κs, qs, bounds, a, (vptr a.0.ref_ptr.0 a.0.ref_ptr.1 ∷ [], (vint w64 a.1.0 ∷ [], (vint w64 a.1.1.0 ∷ [], tt)))),
      gh,
    ) in
    let Post : Val → SProp 𝓤 = (walk_of 𝓛 En hs c).post y in let b' : ℕ = a.0.ref_ptr.0 in let o' : ℕ = a.0.ref_ptr.1 in
    let h : Bl.Denot = a.0.now in let token : Ty → Ptr → Fml = ga.dealloc_token h.heap in let p : Ptr = h.at in
    let j : ℕ = a.1.0 in let i : ℕ = a.1.1.0 in
    let left : ℕ = h.left - 1 in
    let b : ℕ = block_of p in let cs : List (Option T.Denot) = h.slots in let n : ℕ = length cs in
    let e : ℕ = word_offset R n (count_of p) j in
    let Asked : Type 0 = (j + h.left ≡ chunks (length cs)) × (0 < h.left) in
    let others : Fml = fsep (flft κs.1.0 qs.1.0) (fsep (flft κs.1.1.0 qs.1.1.0) ftrue) in
    qed 𝓛 (((‵ (flft κs.0 qs.0) ⊛ ‵ others) ⊛ ‵ (owns (types_at En.signature.params κs) a y.0.4))
    ∷ raw (fact 𝓤 _) ∷ raw (fact 𝓤 _) ∷ raw (fact 𝓤 Asked)
    ∷ raw (fact 𝓤 (i ≡ flag_word_at R n j)) ∷ []) ∵
    keep ! (3 ∷ 4 ∷ 0 ∷ []) $ heard ! Asked (λ asked. heard ! (i ≡ flag_word_at R n j) (λ numbered.
    let pos : 0 < h.left = asked.1 in
    let same : h.left ≡ suc left = omega arith in
    split ! $ split ! $ move ! (2 ∷ []) $ fsplit ! $ fsplit3 ! $ keep ! (1 ∷ 2 ∷ 4 ∷ 5 ∷ []) $
    enter ! _ _ _ _ _ $ alloc_all ! (λ l.
    pass_all ! refl
    ((tt, tt), ((tt, record { fits = are.1.0.1 }), ((tt, record { fits = are.1.1.0.1 }), tt))) $
    let Ev = env fn.locals l in
    opens ! tt Bl b' o' (λ us. move ! (1 ∷ []) $ peeks ! Bl _ (shows 𝓛 Bl) h us (λ known. fsplit ! $ move ! (1 ∷ []) $
    rewrite ! 0 (λ (m : ℕ). ‵ (block_owns R token p cs m)) same refl $
    use1 𝓛 (given (InBlock p × IsWordNear R n j)
    (‵ (froom (ty_int w64) b e) ⊛ raw (Filled 𝓛 R token p cs left j)))
    (next_room 𝓛 R token p cs left j (ap (λ (z : ℕ). j + z) (sym same) ∙ asked.0)) $
    learn ! (λ so. split ! $
    let at : i ≡ value_words R n + j = numbered ∙ so.1.number in
    let small : i * 8 < 2 ^ 64 = subst (λ (k : ℕ). k * 8 < 2 ^ 64) (sym at) so.1.near in
    let seen : us ≡ block_val (block_ptr b (count_of p)) ∷ [] =
    told R Z ga p us known.0 ∙ ap (λ (u : Ptr). block_val u ∷ []) (at_block p so.0) in
    let Cell = λ (ws : List Val). ‵ (cell_at full_share Bl.mir ws b' o') in rewrite ! 3 Cell seen refl $
    -- [the word's room; the way back; the block's fields; the block's cell; the open borrow]
    first ! $ blocks ! $
    sets ! (of_opd ! (load ! (through ! refl (fld ! refl (stop !))) (look_in ! 3 (sub ! 0 refl (whole !))))) refl (tt, tt) $
    sets ! (of_opd ! (get ! refl)) refl (tt, tt) $
    sets ! (is ! (bin ! (get ! refl) (lit ! tt) (record { fits = small }))
    (ap (λ (k : ℕ). vint w64 (k * 8)) at))
    refl (tt, record { fits = so.1.near }) $
    sets ! (bin ! (get ! refl) (get ! refl) tt) refl (tt, tt) $
    assigns_last ! (of_opd ! (lit ! tt)) (through ! refl (stop !))
    (init ! 0 refl (tt, record { fits = lit< tt })) $
    exec ! 𝓣.C 𝓣.Λ Ev (after 1 fn.body) (at_ret Ev Post) $
    sets ! (of_opd ! (unit_lit !)) refl (tt, tt) $
    use2 𝓛 (‵ (block_owns R token p cs left)) (apply∗ 𝓤 (sem 𝓛 (word b e 0)) (sem 𝓛 (block_owns R token p cs left))) $
    rewrite ! 2 Cell (sym seen) refl $ let h' : Bl.Denot = record { at = p; marker = h.marker; heap = h.heap; slots = cs; left = left } in
    move ! (1 ∷ []) $ fjoin ! $ move ! (1 ∷ []) $ closes ! tt Bl h' us b' o' $
    feq_i ! _ (vptr b' o' ∷ []) _ refl $ fjoin3 ! $ nothing ! $ nothing ! $
    fjoin ! $ nothing ! $ fjoin ! $ move ! (1 ∷ 0 ∷ []) $ fjoin ! $ move ! (1 ∷ 2 ∷ []) $ join ! $
    let Kept : Type 0 = (h.heap ≡ h.heap) × (h'.slots ≡ h'.slots) × (left + 1 ≡ h.left) in
    knows ! Kept (refl, refl, omega arith) $
    feq_i ! _ (vunit ∷ []) _ refl $
    returns ! (look_at ! 0 refl) $ free_all ! refl $ keep ! (2 ∷ 3 ∷ 0 ∷ 1 ∷ []) $
    by ! (leaves 𝓛 En hs c y vunit tt (h', (tt, (tt, tt))) (tt, (tt, (tt, tt)))))))))))
