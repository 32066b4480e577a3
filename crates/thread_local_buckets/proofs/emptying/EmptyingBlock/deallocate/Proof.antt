-- `deallocate` gives the block's room back to the allocator.
use Rattle.thread_local_base.proofs.Names.{◌∙◌, ◌≡◌, ℕ, ◌+◌, ◌^◌, ◌<◌, List, [], ◌∷◌, sym, refl, subst, arith, w64}
use Rattle.thread_local_base.proofs.Names.{Option, Ty, a_type, dcons, dnil, named, Val, vint, vptr, vunit, inst_fn}
use Rattle.thread_local_base.proofs.Names.{SProp, ent, id⊢, Lft, Share, Fml, ftrue, fsep, froom, flft, WpFn, ‵, raw}
use Rattle.thread_local_base.proofs.Names.{◌⊛◌, given, later, at_ret, ◌$◌, ◌∵◌, !, qed, by, move, keep, use1, use3}
use Rattle.thread_local_base.proofs.Names.{split, join, fsplit, fsplit3, fjoin, fpick, fpack, learn, suffices, await}
use Rattle.thread_local_base.proofs.Names.{rewrite, feq_i, stop, fld, unit_lit, align_word, of_opd, no_more, and_then}
use Rattle.thread_local_base.proofs.Names.{first, blocks, exec, returns, enter, alloc_all, pass_all, free_all}
use Rattle.thread_local_base.proofs.Names.{look_at, get, get_in, sets, lands_last, env, sub, whole, tables, fact, yes}
use Rattle.thread_local_base.proofs.Names.{no, RattleType, owns, types_at, plain, Ptr, block_ptr, block_of, count_of}
use Rattle.thread_local_base.proofs.Names.{at_block, InBlock, nothing, heard, param, bounded, RefOf, usize, shr_vals}
use Rattle.thread_local_base.proofs.Names.{shr_Tells, uint_vals, uint_Tells, Stays, stay_dropped, walk_of}
use Rattle.thread_local_base.proofs.Names.{Goes-dropped, proved, leaves, fm, after, length}
use base.Fml.{Incl-trans}
use prog.Memory.{align, size, capped}
use prog.Capped.{capped_fits}
use contract.BorrowLft.{◌⊑◌}
use denote.Triple.Call.{calls_at_last}
use Rattle.std.proofs.alloc.Calls.{Al as Handle, Gives, at_gives, Gives-goes, Gives-Gives}
use Rattle.thread_local_buckets.specs.Slots.{slots_ty, block_ty, Fits}
use Rattle.thread_local_buckets.specs.Emptying.{emptying_owns}
use Rattle.thread_local_buckets.specs.contracts.emptying.EmptyingBlock as emptying
use Rattle.thread_local_buckets.specs.contracts.emptying.EmptyingBlock.deallocate.{ended, clauses, Key.name as #self}
use Rattle.thread_local_buckets.proofs.BlockFields.{block_val, block_good, block_size, block_align, told}
use Rattle.thread_local_buckets.proofs.EmptyingBlocks.{all_gone}
use Rattle.thread_local_buckets.proofs.emptying.EmptyingBlock.deallocate.Statement.{statement}
use Rattle.thread_local_buckets.proofs.emptying.EmptyingBlock.deallocate.Code as code

pub deallocate_spec : {M : Type 1} → statement M
deallocate_spec 𝓤 𝓛 𝓜 𝓡 wired T Al L LA ga da dd met _ =
    let 𝓣 = tables 𝓤 𝓛.H 𝓜 𝓡 𝓡.env in let R : RattleType = param 0 T in let Z : RattleType = param 1 Al in
    let Lv : RattleType = emptying.the_row R Z ga in let En = ended T Al ga da dd in
    let c = clauses T Al ga da dd 𝓛 𝓜.mem 𝓡.returns in
    let inst = bounded (a_type ∷ a_type ∷ []) (T, (Al, tt)) (dcons da (dcons dd dnil)) in
    let fn = inst_fn inst code.function in
    let Hd : Handle = record { row = Al; laws = LA; g = ga; d = da; drops = dd } in
    let al : ℕ = capped (align (slots_ty R 64)) in let handle = RefOf (0 ∷ []) tt (plain (λ _. Z)) (λ _. tt) in
    let hs : Stays En.signature.params En.kept = (
      stay_dropped (plain (λ _. Lv)) no,
      (stay_dropped handle yes, (stay_dropped (plain (λ _. usize)) yes, (stay_dropped (plain (λ _. usize)) yes, tt))),
    ) in
    proved 𝓛 En hs c 𝓜 𝓡 (
      Goes-dropped 𝓛 3 (plain (λ _. Lv)) no (λ κs x f. refl),
      (
        Goes-dropped 𝓛 3 handle yes (λ κs x f. refl),
        (
          Goes-dropped 𝓛 3 (plain (λ _. usize)) yes (λ κs x f. refl),
          (Goes-dropped 𝓛 3 (plain (λ _. usize)) yes (λ κs x f. refl), tt),
        ),
      ),
    )
    (#self inst) fn (code.unfolded 𝓤 𝓛.H 𝓜 𝓡 wired (T, (Al, tt)) da dd)
    (λ κs. ((λ x. block_val x.at ∷ []), (shr_vals, (uint_vals w64, (uint_vals w64, tt)))))
    (λ κs. ((λ x vs so. told R Z ga x.at vs so.0), (shr_Tells (named 0) κs.0 Z, (uint_Tells w64, (uint_Tells w64, tt)))))
    (λ κs qs bounds a gh are.
    let h : Lv.Denot = a.0 in
    let hp : ℕ × ℕ = a.1.0.ref_ptr in
    let heap : Al.Denot = a.1.0.now in
    let p : Ptr = h.at in let n : ℕ = a.1.1.0 in
    let τ : Ty = block_ty R n in
    let s : ℕ = a.1.1.1.0 in
    let κ : Lft = κs.0 in let q : Share = qs.0 in let token : Ty → Ptr → Fml = ga.dealloc_token heap in
    let y : (walk_of 𝓛 En hs c).Ghost = (
      (κs, qs, bounds, a, (block_val p ∷ [], (vptr hp.0 hp.1 ∷ [], (vint w64 n ∷ [], (vint w64 s ∷ [], tt))))),
      gh,
    ) in
    let Post : Val → SProp 𝓤 = (walk_of 𝓛 En hs c).post y in
    let others : Fml = fsep (flft κs.1.0 qs.1.0) (fsep (flft κs.1.1.0 qs.1.1.0) ftrue) in
    let Asked : Type 0 = (h.heap ≡ heap) × (h.slots ≡ []) × (h.gone ≡ n) in
    let none : List (Option T.Denot) = [] in
    let b : ℕ = block_of p in let o : ℕ = count_of p in
    let p' : Ptr = block_ptr b o in
    let Size : Type 0 = Fits R n → s ≡ size (slots_ty R n) in
    let us : Ptr → List Val = λ u. block_val u ∷ vptr hp.0 hp.1 ∷ vint w64 n ∷ vint w64 s ∷ [] in
    let Run : List Val → SProp 𝓤 = λ ws. WpFn 𝓤 𝓛.H 𝓣.C 𝓣.Λ fn ws Post in
    qed 𝓛 (((‵ (flft κ q) ⊛ ‵ others) ⊛ ‵ (owns (types_at En.signature.params κs) a y.0.4))
    ∷ raw (fact 𝓤 _) ∷ raw (fact 𝓤 (κs.1.1.0 ⊑ Al.lives)) ∷ raw (fact 𝓤 Asked)
    ∷ raw (fact 𝓤 Size) ∷ []) ∵
    keep ! (2 ∷ 3 ∷ 4 ∷ 0 ∷ []) $ heard ! (κs.1.1.0 ⊑ Al.lives) (λ inside. heard ! Asked (λ asked.
    heard ! Size (λ told_size. split ! $ split ! $ move ! (2 ∷ []) $ fsplit3 ! $ fsplit ! $
    move ! (2 ∷ []) $ fsplit ! $ keep ! (3 ∷ 1 ∷ 5 ∷ 6 ∷ []) $
    rewrite ! 0 (λ (u : Al.Denot × List (Option T.Denot) × ℕ).
    ‵ (emptying_owns R (ga.dealloc_token u.0) p u.2 u.1))
    (λ i. (asked.0 i, asked.1 i, asked.2 i)) refl $
    fsplit ! $ fpick ! (λ so. fpack ! (InBlock p × Fits R (n + length none)) (λ _. ftrue) so $
    fjoin ! $
    rewrite ! 0 (λ (u : Ptr). ‵ (emptying_owns R token u n none)) (at_block p so.0) refl $
    use1 𝓛 (given (Fits R n) (‵ (froom τ b o) ⊛ ‵ (token τ p'))) (all_gone 𝓛 R token b o n) $
    learn ! (λ fits.
    let sized : s ≡ size (slots_ty R n) = told_size fits in
    let small : s < 2 ^ 64 = omega arith in
    let bytes : capped (size τ) ≡ s = block_size R n fits ∙ sym sized in
    split ! $
    suffices ! (Run (us p')) (subst (λ (u : Ptr). ent 𝓤 (Run (us p')) (Run (us u)))
    (sym (at_block p so.0)) (id⊢ 𝓤 (Run (us p')))) $
    enter ! _ _ _ _ _ $ alloc_all ! (λ l.
    pass_all ! refl (
      block_good p',
      ((tt, tt), ((tt, record { fits = are.1.1.0.1 }), ((tt, record { fits = are.1.1.1.0.1 }), tt))),
    ) $
    let Ev = env fn.locals l in
    sets ! (of_opd ! (get_in ! (fld ! refl (stop !)) (sub ! 0 refl (whole !)))) refl (tt, tt) $
    first ! $ blocks ! $ sets ! (of_opd ! (get ! refl)) refl (tt, tt) $
    move ! (2 ∷ 3 ∷ []) $ join ! $ move ! (1 ∷ 2 ∷ 0 ∷ []) $
    let Asks = Gives Hd 𝓛 𝓜.mem 𝓡.returns in
    let w : Asks.Ghost = at_gives Hd 𝓛 𝓜.mem 𝓡.returns κ q hp heap b o s al τ in
    use3 𝓛 (raw (Asks.pre w)) (Gives-goes Hd 𝓛 𝓜.mem 𝓡.returns κ q hp heap
    (Incl-trans bounds.0 inside) b o s al τ bytes (block_align R n) small
    (capped_fits (align (slots_ty R 64)))) $
    calls_at_last ! (fm 𝓛 𝓜 𝓡) Asks (met.deallocate dd) w
    (and_then ! (get ! refl)
    (and_then ! (get ! refl) (and_then ! (get ! refl) (and_then ! (align_word !) (no_more !)))))
    (λ u.
    use1 𝓛 (later (given (u ≡ vunit) (‵ (flft κ q))))
    (Gives-Gives Hd 𝓛 𝓜.mem 𝓡.returns κ q hp heap b o s al τ u) $
    await ! tt $ learn ! (λ e.
    lands_last ! refl
    (subst (λ (z : Val). lib.Dec.T (mir.Val.has_ty mir.Syntax.ty_unit z) × mir.Val.WT z) (sym e)
    (tt, tt)) $
    exec ! 𝓣.C 𝓣.Λ Ev (after 2 fn.body) (at_ret Ev Post) $
    sets ! (of_opd ! (unit_lit !)) refl (tt, tt) $ join ! $ nothing ! $
    feq_i ! _ (vunit ∷ []) _ refl $ nothing ! $ nothing ! $ fjoin ! $
    nothing ! $ fjoin ! $ nothing ! $ fjoin ! $ nothing ! $ fjoin ! $
    returns ! (look_at ! 0 refl) $ free_all ! refl $ keep ! (3 ∷ 0 ∷ 1 ∷ 2 ∷ []) $
    by !
    (leaves 𝓛 En hs c y vunit tt (tt, (tt, (tt, (tt, tt)))) (tt, (tt, (tt, (tt, tt))))))))))))))
