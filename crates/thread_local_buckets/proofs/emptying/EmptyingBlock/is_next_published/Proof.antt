-- `is_next_published` reads the flag of the next slot, which becomes room where the flag isn't set.
use Rattle.thread_local_base.proofs.Names.{lit<, ◌≡◌, ℕ, ◌+◌, ◌*◌, ◌^◌, ◌<◌, List, [], ◌∷◌, length, sym, refl, ap}
use Rattle.thread_local_base.proofs.Names.{◌∙◌, subst, w64, Bool, Option, Ty, a_type, dcons, dnil, named, Val, vint}
use Rattle.thread_local_base.proofs.Names.{vptr, inst_fn, full_share, SProp, Fml, ftrue, fsep, flft, ‵, raw, ◌⊛◌}
use Rattle.thread_local_base.proofs.Names.{given, at_ret, ◌$◌, ◌∵◌, !, qed, by, move, keep, use1, use2, split}
use Rattle.thread_local_base.proofs.Names.{join, fsplit, fsplit3, fjoin, fjoin3, learn, rewrite, feq_i, stop, fld}
use Rattle.thread_local_base.proofs.Names.{load, look, lit, of_opd, bin, first, blocks, exec, returns, enter}
use Rattle.thread_local_base.proofs.Names.{alloc_all, pass_all, free_all, look_at, get, through, sets, sets_last, is}
use Rattle.thread_local_base.proofs.Names.{env, sub, look_in, whole, tables, fact, yes, RattleType, owns}
use Rattle.thread_local_base.proofs.Names.{types_at, plain, Ptr, block_ptr, block_of, count_of, at_block, nothing}
use Rattle.thread_local_base.proofs.Names.{heard, opens, closes, peeks, shows, param, bounded, usize, mut_vals}
use Rattle.thread_local_base.proofs.Names.{mut_Tells, uint_vals, uint_Tells, Stays, stay_dropped, stay_ref, walk_of}
use Rattle.thread_local_base.proofs.Names.{Goes-dropped, Goes-ref, cell_at, proved, leaves, after}
use Rattle.std.specs.Prelude.{◌/◌, ◌%◌, is_some, bit_and, if◌then◌else◌}
use base.Logic.{apply∗}
use types.Kit.{some, pick}
use types.Logic.{sem}
use mir.Val.{vbool}
use lib.Dec.{eqb}
use Rattle.thread_local_base.proofs.Word.{is_set-test, masked_fits, place_below, bit_fits, shifted_right}
use Rattle.thread_local_buckets.specs.Slots.{slot_value, value_words, flag_word_at}
use Rattle.thread_local_buckets.proofs.Slots.{flags_of}
use Rattle.thread_local_buckets.specs.Emptying.{emptying_owns, rest}
use Rattle.thread_local_buckets.specs.contracts.emptying.EmptyingBlock as emptying
use Rattle.thread_local_buckets.specs.contracts.emptying.EmptyingBlock.is_next_published.{ended, clauses, Key.name as #self}
use Rattle.thread_local_buckets.proofs.BlockFields.{block_val, told}
use Rattle.thread_local_buckets.proofs.EmptyingBlocks.{Shown, Again, next_word, looked}
use Rattle.thread_local_buckets.proofs.emptying.EmptyingBlock.is_next_published.Statement.{statement}
use Rattle.thread_local_buckets.proofs.emptying.EmptyingBlock.is_next_published.Code as code
use Rattle.thread_local_base.proofs.Walking.{knows}

pub is_next_published_spec : {M : Type 1} → statement M
is_next_published_spec 𝓤 𝓛 𝓜 𝓡 wired T Al L _ ga da dd _ _ =
    let 𝓣 = tables 𝓤 𝓛.H 𝓜 𝓡 𝓡.env in let R : RattleType = param 0 T in let Z : RattleType = param 1 Al in
    let Lv : RattleType = emptying.the_row R Z ga in let En = ended T Al ga da dd in
    let c = clauses T Al ga da dd 𝓛 𝓜.mem 𝓡.returns in
    let inst = bounded (a_type ∷ a_type ∷ []) (T, (Al, tt)) (dcons da (dcons dd dnil)) in let fn = inst_fn inst code.function in
    let number = plain (λ _. usize) in let goes = Goes-dropped 𝓛 3 number yes (λ κs x f. refl) in
    let hs : Stays En.signature.params En.kept = (
      stay_ref (0 ∷ []) tt (plain (λ _. Lv)),
      (stay_dropped number yes, (stay_dropped number yes, tt)),
    ) in
    proved 𝓛 En hs c 𝓜 𝓡 (Goes-ref 𝓛 3 0 tt (plain (λ _. Lv)), (goes, (goes, tt))) (#self inst) fn
    (code.unfolded 𝓤 𝓛.H 𝓜 𝓡 wired (T, (Al, tt)) da dd)
    (λ κs. (mut_vals, (uint_vals w64, (uint_vals w64, tt))))
    (λ κs. (mut_Tells (named 0) κs.0 Lv, (uint_Tells w64, (uint_Tells w64, tt))))
    (λ κs qs bounds a gh are.
    let y : (walk_of 𝓛 En hs c).Ghost = (
      (κs, qs, bounds, a, (vptr a.0.ref_ptr.0 a.0.ref_ptr.1 ∷ [], (vint w64 a.1.0 ∷ [], (vint w64 a.1.1.0 ∷ [], tt)))),
      gh,
    ) in
    let Post : Val → SProp 𝓤 = (walk_of 𝓛 En hs c).post y in let b' : ℕ = a.0.ref_ptr.0 in let o' : ℕ = a.0.ref_ptr.1 in
    let h : Lv.Denot = a.0.now in let token : Ty → Ptr → Fml = ga.dealloc_token h.heap in let p : Ptr = h.at in
    let cs : List (Option T.Denot) = h.slots in let j : ℕ = a.1.0 in let i : ℕ = a.1.1.0 in let b : ℕ = block_of p in
    let m : ℕ = j + length cs in
    let s : Option T.Denot = slot_value cs 0 in
    let Asked : Type 0 = (j ≡ h.gone) × (0 < length cs) in
    let others : Fml = fsep (flft κs.1.0 qs.1.0) (fsep (flft κs.1.1.0 qs.1.1.0) ftrue) in
    let r : Bool = is_some s in let k : ℕ = if r then j else j + 1 in let ds : List (Option T.Denot) = if r then cs else rest cs in
    qed 𝓛 (((‵ (flft κs.0 qs.0) ⊛ ‵ others) ⊛ ‵ (owns (types_at En.signature.params κs) a y.0.4))
    ∷ raw (fact 𝓤 _) ∷ raw (fact 𝓤 _) ∷ raw (fact 𝓤 Asked)
    ∷ raw (fact 𝓤 (i ≡ flag_word_at R (h.gone + length cs) (j / 64))) ∷ []) ∵
    keep ! (3 ∷ 4 ∷ 0 ∷ []) $ heard ! Asked (λ asked.
    heard ! (i ≡ flag_word_at R (h.gone + length cs) (j / 64)) (λ numbered.
    let near : 0 < length cs = asked.1 in
    split ! $ split ! $ move ! (2 ∷ []) $ fsplit ! $ fsplit3 ! $ keep ! (1 ∷ 2 ∷ 4 ∷ 5 ∷ []) $
    enter ! _ _ _ _ _ $ alloc_all ! (λ l.
    pass_all ! refl
    ((tt, tt), ((tt, record { fits = are.1.0.1 }), ((tt, record { fits = are.1.1.0.1 }), tt))) $
    let Ev = env fn.locals l in
    opens ! tt Lv b' o' (λ us. move ! (1 ∷ []) $ peeks ! Lv _ (shows 𝓛 Lv) h us (λ known. fsplit ! $
    move ! (1 ∷ []) $ rewrite ! 0 (λ (m : ℕ). ‵ (emptying_owns R token p m cs)) (sym asked.0) refl $
    use1 𝓛 (some (λ (n : ℕ).
    given (Shown 𝓛 R token p j cs n)
    (‵ (flags_of R m p n (j / 64)) ⊛ raw (Again 𝓛 R token p j cs n))))
    (next_word 𝓛 R token p j cs near) $
    pick ! (λ n. learn ! (λ so. split ! $
    let at : i ≡ value_words R m + j / 64 =
    numbered
    ∙ ap (λ (k : ℕ). flag_word_at R (k + length cs) (j / 64)) (sym asked.0)
    ∙ so.1.number in
    let small : i * 8 < 2 ^ 64 = subst (λ (k : ℕ). k * 8 < 2 ^ 64) (sym at) so.1.near in
    let read : Bool = eqb (bit_and (n / 2 ^ (j % 64)) 1) 1 in let tells : read ≡ r = is_set-test n (j % 64) ∙ so.3 in
    let seen : us ≡ block_val (block_ptr b (count_of p)) ∷ [] =
    told R Z ga p us known.0 ∙ ap (λ (u : Ptr). block_val u ∷ []) (at_block p so.0) in
    let Cell = λ (ws : List Val). ‵ (cell_at full_share Lv.mir ws b' o') in rewrite ! 3 Cell seen refl $
    -- [the word; the way back; the block's fields; their cell; the open borrow]
    first ! $ blocks ! $
    sets ! (of_opd ! (load ! (through ! refl (fld ! refl (stop !))) (look_in ! 3 (sub ! 0 refl (whole !))))) refl (tt, tt) $
    sets ! (of_opd ! (get ! refl)) refl (tt, tt) $
    sets ! (is ! (bin ! (get ! refl) (lit ! tt) (record { fits = small }))
    (ap (λ (k : ℕ). vint w64 (k * 8)) at))
    refl (tt, record { fits = so.1.near }) $
    sets ! (bin ! (get ! refl) (get ! refl) tt) refl (tt, tt) $
    sets ! (of_opd ! (load ! (through ! refl (stop !)) (look ! 0 refl))) refl
    (tt, record { fits = so.2 }) $
    sets ! (bin ! (get ! refl) (lit ! tt) (lit< tt)) refl (tt, record { fits = bit_fits j }) $
    sets ! (of_opd ! (get ! refl)) refl (tt, record { fits = bit_fits j }) $
    sets ! (bin ! (get ! refl) (get ! refl) (place_below j)) refl
    (tt, record { fits = shifted_right n (j % 64) so.2 }) $
    sets ! (bin ! (get ! refl) (lit ! tt) tt) refl
    (tt, record { fits = masked_fits (n / 2 ^ (j % 64)) 1 (shifted_right n (j % 64) so.2) }) $
    sets_last ! (is ! (bin ! (get ! refl) (lit ! tt) tt) (ap vbool tells)) refl (tt, tt) $
    exec ! 𝓣.C 𝓣.Λ Ev (after 1 fn.body) (at_ret Ev Post) $
    sets ! (of_opd ! (get ! refl)) refl (tt, tt) $
    use2 𝓛 (‵ (emptying_owns R token p j cs))
    (apply∗ 𝓤 (sem 𝓛 (flags_of R m p n (j / 64))) (sem 𝓛 (emptying_owns R token p j cs))) $
    use1 𝓛 (‵ (emptying_owns R token p k ds)) (looked 𝓛 R token p j cs near) $
    rewrite ! 2 Cell (sym seen) refl $ let h' : Lv.Denot = record { at = p; marker = h.marker; heap = h.heap; slots = ds; gone = k } in
    move ! (1 ∷ []) $ fjoin ! $ move ! (1 ∷ []) $ closes ! tt Lv h' us b' o' $
    feq_i ! _ (vptr b' o' ∷ []) _ refl $ fjoin3 ! $ nothing ! $ nothing ! $
    fjoin ! $ nothing ! $ fjoin ! $ move ! (1 ∷ 0 ∷ []) $ fjoin ! $ move ! (1 ∷ 2 ∷ []) $ join ! $
    let Told : Type 0 = r ≡ is_some s in
    let After : Type 0 = (h.heap ≡ h.heap) × (ds ≡ ds) × (k ≡ (if r then h.gone else h.gone + 1)) in
    knows ! After (refl, refl, ap (λ (i : ℕ). if r then i else i + 1) asked.0) $
    knows ! Told refl $ join ! $
    feq_i ! _ (vbool r ∷ []) _ refl $
    returns ! (look_at ! 0 refl) $ free_all ! refl $ keep ! (2 ∷ 3 ∷ 0 ∷ 1 ∷ []) $
    by ! (leaves 𝓛 En hs c y (vbool r) r (h', (tt, (tt, tt))) (tt, (tt, (tt, tt))))))))))))
