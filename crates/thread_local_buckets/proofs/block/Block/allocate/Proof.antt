-- `allocate` asks the allocator for the room of a block.
use Rattle.thread_local_base.proofs.Names.{◌∙◌, ◌≡◌, ℕ, ◌^◌, ◌<◌, [], ◌∷◌, sym, refl, arith, lit<, w64, true, false}
use Rattle.thread_local_base.proofs.Names.{Ty, Body, a_type, dcons, dnil, named, Val, vint, vptr, vstruct, vcons}
use Rattle.thread_local_base.proofs.Names.{vnil, WT, inst_fn, SProp, Lft, Share, Fml, ftrue, fsep, flft, ◌∵◌, ‵}
use Rattle.thread_local_base.proofs.Names.{raw, ◌⊛◌, later, at_ret, any_q, ◌$◌, !, qed, by, move, keep, use0, use1}
use Rattle.thread_local_base.proofs.Names.{use2, split, join, fsplit, fjoin, await, stop, fld, lit, align_word}
use Rattle.thread_local_base.proofs.Names.{of_opd, no_more, and_then, first, exec, switches_on, returns, enter}
use Rattle.thread_local_base.proofs.Names.{alloc_all, pass_all, free_all, look_at, get, get_in, get_tag, sets}
use Rattle.thread_local_base.proofs.Names.{sets_last, lands_as, env, agg, whole, live, vrt, in_variant, tables, fact}
use Rattle.thread_local_base.proofs.Names.{yes, RattleType, owns, types_at, plain, Ptr, block_ptr, nothing}
use Rattle.thread_local_base.proofs.Names.{heard, param, bounded, RefOf, usize, shr_vals, shr_Tells, uint_vals}
use Rattle.thread_local_base.proofs.Names.{uint_Tells, Stays, stay_dropped, walk_of, Goes-dropped, proved, leaves, fm}
use Rattle.thread_local_base.proofs.Names.{after}
use base.Fml.{Incl-trans}
use prog.Memory.{align, size, capped}
use prog.Capped.{capped_fits}
use prog.Wp.{Wp, after_seq, at_return}
use contract.BorrowLft.{◌⊑◌}
use denote.Shadow.{makes_shadow}
use denote.Triple.Call.{calls_at}
use Rattle.std.specs.declared.result.Result.TheVariants.{Ok, Err}
use Rattle.std.specs.contracts.result.Result as Res
use Rattle.std.specs.contracts.alloc.AllocError as refusal
use Rattle.std.proofs.result.Made.{Ok-of, Err-of}
use Rattle.std.proofs.alloc.Shapes.{front, arm_body}
use Rattle.std.proofs.alloc.Calls.{Al as Handle, Answer-typed, Takes, at_takes, Answered, Takes-goes, Takes-gives, answers}
use Rattle.thread_local_buckets.specs.Slots.{empty_slots, chunks, slots_ty, block_ty, Fits, block_owns}
use Rattle.thread_local_buckets.specs.contracts.block.Block as block
use Rattle.thread_local_buckets.specs.contracts.block.Block.allocate.{ended, clauses, Key.name as #self}
use Rattle.thread_local_buckets.proofs.BlockFields.{block_val, block_good, made, FieldsType, block_size, block_align}
use Rattle.thread_local_buckets.proofs.Making.{fresh}
use Rattle.thread_local_buckets.proofs.block.Block.allocate.Statement.{statement}
use Rattle.thread_local_buckets.proofs.block.Block.allocate.Code as code
use Rattle.thread_local_base.proofs.Walking.{knows}

pub allocate_spec : {M : Type 1} → statement M
allocate_spec 𝓤 𝓛 𝓜 𝓡 wired T Al L LA ga da dd met _ =
    let H = 𝓛.H in let 𝓣 = tables 𝓤 H 𝓜 𝓡 𝓡.env in let R : RattleType = param 0 T in let Z : RattleType = param 1 Al in
    let Bl : RattleType = block.the_row R Z ga in let En = ended T Al ga da dd in
    let c = clauses T Al ga da dd 𝓛 𝓜.mem 𝓡.returns in
    let inst = bounded (a_type ∷ a_type ∷ []) (T, (Al, tt)) (dcons da (dcons dd dnil)) in
    let fn = inst_fn inst code.function in
    let Hd : Handle = record { row = Al; laws = LA; g = ga; d = da; drops = dd } in
    let al : ℕ = capped (align (slots_ty R 64)) in let handle = RefOf (0 ∷ []) tt (plain (λ _. Z)) (λ _. tt) in
    let hs : Stays En.signature.params En.kept = (
      stay_dropped handle yes,
      (stay_dropped (plain (λ _. usize)) yes, (stay_dropped (plain (λ _. usize)) yes, tt)),
    ) in
    let Out : RattleType = Res.the_row Bl refusal.the_row in
    proved 𝓛 En hs c 𝓜 𝓡 (
      Goes-dropped 𝓛 3 handle yes (λ κs x f. refl),
      (
        Goes-dropped 𝓛 3 (plain (λ _. usize)) yes (λ κs x f. refl),
        (Goes-dropped 𝓛 3 (plain (λ _. usize)) yes (λ κs x f. refl), tt),
      ),
    )
    (#self inst) fn (code.unfolded 𝓤 H 𝓜 𝓡 wired (T, (Al, tt)) da dd)
    (λ κs. (shr_vals, (uint_vals w64, (uint_vals w64, tt))))
    (λ κs. (shr_Tells (named 0) κs.0 Z, (uint_Tells w64, (uint_Tells w64, tt))))
    (λ κs qs bounds a gh are.
    let hp : ℕ × ℕ = a.0.ref_ptr in
    let heap : Al.Denot = a.0.now in
    let n : ℕ = a.1.0 in
    let τ : Ty = block_ty R n in
    let s : ℕ = a.1.1.0 in
    let κ : Lft = κs.0 in let q : Share = qs.0 in let token : Ty → Ptr → Fml = ga.dealloc_token heap in
    let y : (walk_of 𝓛 En hs c).Ghost =
    ((κs, qs, bounds, a, (vptr hp.0 hp.1 ∷ [], (vint w64 n ∷ [], (vint w64 s ∷ [], tt)))), gh) in
    let Post : Val → SProp 𝓤 = (walk_of 𝓛 En hs c).post y in
    let others : Fml = fsep (flft κs.1.0 qs.1.0) (fsep (flft κs.1.1.0 qs.1.1.0) ftrue) in
    qed 𝓛 (((‵ (flft κ q) ⊛ ‵ others) ⊛ ‵ (owns (types_at En.signature.params κs) a y.0.4))
    ∷ raw (fact 𝓤 _) ∷ raw (fact 𝓤 (κs.1.1.0 ⊑ Al.lives)) ∷ raw (fact 𝓤 (Fits R n))
    ∷ raw (fact 𝓤 (s ≡ size (slots_ty R n))) ∷ []) ∵
    keep ! (2 ∷ 3 ∷ 4 ∷ 0 ∷ []) $ heard ! (κs.1.1.0 ⊑ Al.lives) (λ inside.
    heard ! (Fits R n) (λ fits. heard ! (s ≡ size (slots_ty R n)) (λ sized.
    let small : s < 2 ^ 64 = omega arith in
    let bytes : capped (size τ) ≡ s = block_size R n fits ∙ sym sized in
    split ! $ split ! $ move ! (2 ∷ []) $ fsplit ! $ fsplit ! $ keep ! (1 ∷ 3 ∷ 4 ∷ []) $
    enter ! _ _ _ _ _ $ alloc_all ! (λ l.
    pass_all ! refl
    ((tt, tt), ((tt, record { fits = are.1.0.1 }), ((tt, record { fits = are.1.1.0.1 }), tt))) $
    let Ev = env fn.locals l in
    let both : Body = front (after 1 fn.body) in
    let Then =
    any_q (after_seq 𝓤 H (Wp 𝓤 H 𝓣.C 𝓣.Λ Ev (after 2 fn.body) (at_return 𝓤 H Ev Post))
    (at_return 𝓤 H Ev Post)) in
    let Asked = Takes Hd 𝓛 𝓜.mem 𝓡.returns in
    let w : Asked.Ghost = at_takes Hd 𝓛 𝓜.mem 𝓡.returns κ q hp heap s al τ in
    use2 𝓛 (raw (Asked.pre w)) (Takes-goes Hd 𝓛 𝓜.mem 𝓡.returns κ q hp heap
    (Incl-trans bounds.0 inside) s al τ bytes (block_align R n) small
    (capped_fits (align (slots_ty R 64)))) $
    calls_at ! (fm 𝓛 𝓜 𝓡) Asked (met.allocate dd) w
    (and_then ! (get ! refl) (and_then ! (get ! refl) (and_then ! (align_word !) (no_more !))))
    (λ u.
    use1 𝓛 (later (raw (Answered Hd 𝓛 𝓜.mem 𝓡.returns heap τ u) ⊛ ‵ (flft κ q)))
    (Takes-gives Hd 𝓛 𝓜.mem 𝓡.returns κ q hp heap s al τ u) $
    await ! tt $ split ! $ move ! (1 ∷ 2 ∷ []) $ join ! $ move ! (1 ∷ []) $
    answers Hd ! 𝓜.mem 𝓡.returns heap τ u
    (λ b o e.
    let p : Ptr = block_ptr b o in
    let r : Bl.Denot = record { at = p; marker = record {}; heap = heap; slots = empty_slots n; left = chunks n } in
    let val : Val = live 0 (vcons (block_val p) vnil) in let good : WT val = (record { fits = lit< tt }, ((tt, (tt, tt)), tt)) in
    let Told : Type 0 = (heap ≡ heap) × (r.slots ≡ r.slots) × (r.left ≡ r.left) in
    use2 𝓛 (‵ (block_owns R token p (empty_slots n) (chunks n))) (fresh 𝓛 R token b o n fits) $
    lands_as ! e refl (Answer-typed true b o) $ first ! $
    switches_on ! (get_tag ! (vrt ! refl (fld ! refl (stop !))) (whole !)) $
    exec ! 𝓣.C 𝓣.Λ Ev (arm_body 0 both) Then $
    sets ! (of_opd ! (get_in ! (vrt ! refl (fld ! refl (stop !))) (in_variant ! 0 0 refl refl (whole !)))) refl (tt, tt) $
    sets ! (of_opd ! (get ! refl)) refl (tt, tt) $
    sets ! (agg ! (no_more !)) refl (tt, tt) $
    sets ! (agg ! (and_then ! (get ! refl) (and_then ! (get ! refl) (no_more !)))) refl
    (block_good p) $
    sets_last ! (agg ! (and_then ! (lit ! tt) (and_then ! (get ! refl) (no_more !)))) refl
    (tt, good) $
    exec ! 𝓣.C 𝓣.Λ Ev (after 2 fn.body) (at_ret Ev Post) $
    sets ! (of_opd ! (get ! refl)) refl (tt, good) $
    use0 𝓛 (‵ ((FieldsType R Z ga).own_val (p, (record {}, tt)) (block_val p ∷ []))) (made R Z ga 𝓛 p) $ fjoin ! $
    use1 𝓛 (‵ (Out.own_val (Ok r) (val ∷ []))) (Ok-of 𝓛 Bl refusal.the_row r (block_val p)) $
    knows ! Told (refl, refl, refl) $ nothing ! $ nothing ! $
    fjoin ! $ nothing ! $ fjoin ! $ nothing ! $ fjoin ! $
    returns ! (look_at ! 0 refl) $ free_all ! refl $ keep ! (3 ∷ 0 ∷ 2 ∷ 1 ∷ []) $
    by ! (leaves 𝓛 En hs c y val (Ok r) (tt, (tt, (tt, tt))) (tt, (tt, (tt, tt)))))
    (λ e.
    let val : Val = live 1 (vcons (vstruct vnil) vnil) in
    let good : WT val = (record { fits = lit< tt }, (tt, tt)) in
    let F : Fml = refusal.the_row.own_val (record {}) (vstruct vnil ∷ []) in
    lands_as ! e refl (Answer-typed false 0 0) $ first ! $
    switches_on ! (get_tag ! (vrt ! refl (fld ! refl (stop !))) (whole !)) $
    exec ! 𝓣.C 𝓣.Λ Ev (arm_body 1 both) Then $
    sets ! (of_opd ! (get_in ! (vrt ! refl (fld ! refl (stop !))) (in_variant ! 1 0 refl refl (whole !)))) refl (tt, tt) $
    sets_last ! (agg ! (and_then ! (lit ! tt) (and_then ! (get ! refl) (no_more !)))) refl
    (tt, good) $
    exec ! 𝓣.C 𝓣.Λ Ev (after 2 fn.body) (at_ret Ev Post) $
    sets ! (of_opd ! (get ! refl)) refl (tt, good) $
    use0 𝓛 (‵ F) (makes_shadow 𝓛 F (λ uss. (tt, tt)) (tt, (refl, tt))) $
    use1 𝓛 (‵ (Out.own_val (Err (record {})) (val ∷ [])))
    (Err-of 𝓛 Bl refusal.the_row (record {}) (vstruct vnil)) $
    knows ! (Unit {0}) tt $ nothing ! $ nothing ! $
    fjoin ! $ nothing ! $ fjoin ! $ nothing ! $ fjoin ! $
    returns ! (look_at ! 0 refl) $ free_all ! refl $ keep ! (3 ∷ 0 ∷ 2 ∷ 1 ∷ []) $
    by ! (leaves 𝓛 En hs c y val (Err (record {})) (tt, (tt, (tt, tt))) (tt, (tt, (tt, tt)))))))))))
