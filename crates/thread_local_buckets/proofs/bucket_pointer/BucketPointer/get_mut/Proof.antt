-- `get_mut` lends the value in a slot, and the pointer ends with what was written there.
use Rattle.thread_local_base.proofs.Names.{◌≡◌, ℕ, ◌*◌, ◌^◌, ◌<◌, List, [], ◌∷◌, length, sym, refl, ap, ◌∙◌, subst}
use Rattle.thread_local_base.proofs.Names.{w64, true, Option, Some, a_type, named, Val, vint, vptr, inst_fn}
use Rattle.thread_local_base.proofs.Names.{full_share, SProp, id⊢, Lft, Share, GName, Fml, ftrue, fsep, flft, ‵}
use Rattle.thread_local_base.proofs.Names.{raw, ◌⊛◌, some, given, later, at_ret, ◌$◌, ◌∵◌, !, qed, by, move, keep}
use Rattle.thread_local_base.proofs.Names.{use1, split, split3, join, group, fsplit, fsplit3, fjoin, pick}
use Rattle.thread_local_base.proofs.Names.{await, learn, rewrite, stop, fld, load, addr, size_word, of_opd, bin}
use Rattle.thread_local_base.proofs.Names.{first, blocks, exec, returns, enter, alloc_all, pass_all, free_all}
use Rattle.thread_local_base.proofs.Names.{look_at, get, through, sets, sets_last, is, env, sub, look_in, whole}
use Rattle.thread_local_base.proofs.Names.{tables, fact, yes, no, RattleType, owns, types_at, plain, Ptr}
use Rattle.thread_local_base.proofs.Names.{block_ptr, block_of, count_of, at_block, nothing, heard, opens, peeks}
use Rattle.thread_local_base.proofs.Names.{shows, param, layouts, usize, mut_vals, mut_Tells, uint_vals, uint_Tells}
use Rattle.thread_local_base.proofs.Names.{Stays, stay_dropped, walk_of, Goes-dropped, cell_at, proved, leaves, after}
use denote.Builtin.{RefMutOf}
use denote.Follow.{follows, Part, lends_Part}
use denote.Ref.{MutBor, MutRef}
use denote.Triple.Walked.{Goes-spent_ref}
use Rattle.std.specs.Prelude.{◌/◌, ◌%◌, is_some, IsSome}
use Rattle.thread_local_base.specs.Bits.{is_set}
use Rattle.thread_local_buckets.specs.LentValue.{with_slot_value}
use Rattle.thread_local_buckets.proofs.LentValue.{Rest, back}
use Rattle.thread_local_buckets.specs.Slots.{slot_value, stride, value_offset, content_at}
use Rattle.thread_local_buckets.proofs.Slots.{IsSlotIn, flags_of, slot_of, value_of, slot_flag}
use Rattle.thread_local_buckets.proofs.Flags.{uncapped}
use Rattle.thread_local_buckets.specs.contracts.bucket_pointer.BucketPointer as one_pointer
use Rattle.thread_local_buckets.specs.contracts.bucket_pointer.BucketPointer.get_mut.{ended, clauses, Key.name as #self}
use Rattle.thread_local_buckets.proofs.PointerSteps.{pointer_val, told, Again, pointer_slot}
use Rattle.thread_local_buckets.proofs.bucket_pointer.BucketPointer.get_mut.Statement.{statement}
use Rattle.thread_local_buckets.proofs.bucket_pointer.BucketPointer.get_mut.Code as code
use Rattle.thread_local_base.proofs.Walking.{knows}

pub get_mut_spec : {M : Type 1} → statement M
get_mut_spec 𝓤 𝓛 𝓜 𝓡 wired T L =
    let 𝓣 = tables 𝓤 𝓛.H 𝓜 𝓡 𝓡.env in let R : RattleType = param 0 T in let PointerRow : RattleType = one_pointer.the_row R in
    let En = ended T in let c = clauses T 𝓛 𝓜.mem 𝓡.returns in let inst = layouts (a_type ∷ []) (T, tt) in
    let fn = inst_fn inst code.function in let row = plain (λ _. PointerRow) in
    let self = RefMutOf (0 ∷ []) tt row (λ _. tt) in
    let hs : Stays En.signature.params En.kept = (stay_dropped self no, (stay_dropped (plain (λ _. usize)) yes, tt)) in
    proved 𝓛 En hs c 𝓜 𝓡 (Goes-spent_ref 𝓛 2 (0 ∷ []) tt row, (Goes-dropped 𝓛 2 (plain (λ _. usize)) yes (λ κs x f. refl), tt))
    (#self inst) fn (code.unfolded 𝓤 𝓛.H 𝓜 𝓡 wired (T, tt))
    (λ κs. (mut_vals, (uint_vals w64, tt)))
    (λ κs. (mut_Tells (named 0) κs.0 PointerRow, (uint_Tells w64, tt))) (λ κs qs bounds a gh are.
    let y : (walk_of 𝓛 En hs c).Ghost = (
      (κs, qs, bounds, a, (vptr a.0.ref_ptr.0 a.0.ref_ptr.1 ∷ [], (vint w64 a.1.0 ∷ [], tt))),
      gh,
    ) in
    let Post : Val → SProp 𝓤 = (walk_of 𝓛 En hs c).post y in let κ : Lft = κs.0 in let q : Share = qs.0 in
    let γ : GName = a.0.ghost_name in
    let b' : ℕ = a.0.ref_ptr.0 in let o' : ℕ = a.0.ref_ptr.1 in let h : PointerRow.Denot = a.0.now in let p : Ptr = h.at in
    let cs : List (Option T.Denot) = h.slots in let j : ℕ = a.1.0 in let others : Fml = fsep (flft κs.1.0 qs.1.0) ftrue in
    let b : ℕ = block_of p in let k : ℕ = j / 64 in let i : ℕ = j % 64 in
    let at : ℕ = value_offset R (count_of p) j in
    let s : Option T.Denot = slot_value cs j in
    let F : T.Denot → PointerRow.Denot = with_slot_value h j in
    qed 𝓛 (((‵ (flft κ q) ⊛ ‵ others) ⊛ ‵ (owns (types_at En.signature.params κs) a y.0.4))
    ∷ raw (fact 𝓤 _) ∷ raw (fact 𝓤 (j < length cs)) ∷ raw (fact 𝓤 (IsSome s)) ∷ []) ∵
    keep ! (2 ∷ 3 ∷ 0 ∷ []) $ heard ! (j < length cs) (λ near. heard ! (IsSome s) (λ full.
    let x : T.Denot = (value_of s full).0 in
    let lies : s ≡ Some x = (value_of s full).1 in
    split ! $ split ! $ move ! (2 ∷ []) $ fsplit ! $ fsplit3 ! $ keep ! (1 ∷ 2 ∷ 4 ∷ 5 ∷ []) $
    enter ! _ _ _ _ _ $ alloc_all ! (λ l.
    pass_all ! refl ((tt, tt), ((tt, record { fits = are.1.0.1 }), tt)) $
    let Ev = env fn.locals l in
    opens ! tt PointerRow b' o' (λ us. move ! (1 ∷ []) $
    peeks ! PointerRow _ (shows 𝓛 PointerRow) h us (λ known. fsplit ! $ move ! (1 ∷ []) $
    use1 𝓛 (some (λ (n : ℕ).
    given (IsSlotIn R p cs j n)
    (‵ (flags_of R (length cs) p n k) ⊛ ‵ (slot_of R p s j) ⊛ raw (Again R 𝓛 p cs j n))))
    (pointer_slot R 𝓛 p cs j near) $
    pick ! (λ n. learn ! (λ so. split3 ! $
    let near_value : j * stride R < 2 ^ 64 = so.value_near in let read : n < 2 ^ 64 = so.is_word.fits in
    let seen : us ≡ pointer_val (block_ptr b (count_of p)) ∷ [] =
    told R p us known.0 ∙ ap (λ (u : Ptr). pointer_val u ∷ []) (at_block p so.lies) in
    let Cell = λ (ws : List Val). ‵ (cell_at full_share PointerRow.mir ws b' o') in
    rewrite ! 4 Cell seen refl $ move ! (1 ∷ []) $
    rewrite ! 0 (λ (u : Option T.Denot). ‵ (content_at R u b at)) lies refl $
    let published : is_set n i ≡ true = slot_flag cs j n so.is_word ∙ ap is_some lies in
    -- [the value; the chunk's word; the way back; the pointer's field; its cell; the open borrow]
    first ! $ blocks ! $
    sets ! (of_opd ! (load ! (through ! refl (fld ! refl (stop !))) (look_in ! 4 (sub ! 0 refl (whole !))))) refl (tt, tt) $
    sets ! (of_opd ! (get ! refl)) refl (tt, tt) $
    sets ! (is ! (bin ! (get ! refl) (size_word !) (record {
      fits = subst (λ (m : ℕ). m < 2 ^ 64) (sym (uncapped j (stride R) near_value)) near_value;
    }))
    (ap (vint w64) (uncapped j (stride R) near_value)))
    refl (tt, record { fits = near_value }) $
    sets ! (bin ! (get ! refl) (get ! refl) tt) refl (tt, tt) $
    sets_last ! (addr ! (through ! refl (stop !))) refl (tt, tt) $
    exec ! 𝓣.C 𝓣.Λ Ev (after 1 fn.body) (at_ret Ev Post) $
    sets ! (of_opd ! (get ! refl)) refl (tt, tt) $
    rewrite ! 4 Cell (sym seen) refl $ move ! (3 ∷ 4 ∷ []) $ join ! $ move ! (3 ∷ 0 ∷ []) $ join ! $
    move ! (2 ∷ 0 ∷ []) $ join ! $ move ! (2 ∷ 3 ∷ 4 ∷ 1 ∷ 0 ∷ []) $ group ! 5 $
    let Left : SProp 𝓤 = Rest R 𝓛 h j n b' o' us near read published in let again = back R 𝓛 h j n b' o' us near read published in
    use1 𝓛 (later (some (λ (δ : GName). raw (Part 𝓛 PointerRow R F (named 0) κ q b' o' b at γ Left again x δ))))
    (lends_Part 𝓛 PointerRow R F (named 0) κ q b' o' b at γ Left again (PointerRow.coded.code h)
    (PointerRow.coded.code h) x) $
    await ! tt $ pick ! (λ δ.
    let r : MutBor T.Denot = record { ref_ptr = (b, at); ghost_name = δ; now = x } in
    use1 𝓛 (‵ ((MutRef (named 0) κ R).own_val r (vptr b at ∷ [])) ⊛ ‵ (flft κ q)
    ⊛ ‵ (follows PointerRow R γ δ F))
    (base.Logic.id⊢ 𝓤 _) $
    split3 ! $
    move ! (1 ∷ 3 ∷ []) $ join ! $
    knows ! (s ≡ Some x) lies $ move ! (3 ∷ 0 ∷ []) $
    join ! $ nothing ! $ nothing ! $ fjoin ! $ nothing ! $ fjoin ! $
    returns ! (look_at ! 0 refl) $ free_all ! refl $ keep ! (2 ∷ 0 ∷ 3 ∷ 1 ∷ []) $
    by ! (leaves 𝓛 En hs c y (vptr b at) r (tt, (tt, tt)) (tt, (tt, tt))))))))))))
