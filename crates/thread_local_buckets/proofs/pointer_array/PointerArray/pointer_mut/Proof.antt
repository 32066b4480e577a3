-- `pointer_mut` lends one pointer, and the array ends with what was written there.
use Rattle.std.proofs.Common.{◌≡◌, ℕ, ◌+◌, ◌*◌, ◌^◌, ◌<◌, [], ◌∷◌, refl, ap, arith, w64}
use mir.Syntax.{a_type, named}
use mir.Val.{vint, vptr}
use mir.MapTy.{inst_fn}
use base.Fraction.{full_share}
use base.Logic.{id⊢}
use base.Fml.{Lft, Share, GName, Fml, ftrue, fsep, flft}
use types.Mut.{open_ref}
use types.Kit.{‵, raw, ◌⊛◌, some, later, ◌$◌, ◌∵◌, !, qed, by, move, keep, use1, split, split3, join, group}
use types.Kit.{fsplit, fsplit3, fjoin, pick, await}
use types.Run.{stop, fld, lit, addr, bin, returns, enter}
use types.ByLocal.{alloc_all, pass_all, free_all, look_at, get, through, sets, is}
use contract.Monad.{fact}
use denote.Exit.{yes, no}
use denote.RattleType.{RattleType, owns}
use denote.Signature.{types_at, plain}
use denote.Builtin.{RefMutOf, usize}
use denote.Follow.{follows, Part, lends_Part}
use denote.Memory.{mem, part_at}
use denote.Param.{param, layouts}
use denote.Param.Laws.{param_laws}
use denote.Plain.{uint_vals, uint_Tells}
use denote.Ref.{MutBor, MutRef, mut_vals, mut_Tells}
use denote.Steps.{nothing, heard}
use denote.Triple.Walked.{Stays, stay_dropped, walk_of, Goes-dropped, Goes-spent_ref}
use Rattle.std.specs.Prelude.{slice_index_or}
use Rattle.std.proofs.raw_atomic.Walks.{proved, leaves}
use Rattle.thread_local_buckets.specs.contracts.bucket_pointer.BucketPointer as one_pointer
use Rattle.thread_local_buckets.proofs.bucket_pointer.BucketPointer.TheLaws as pointer_laws
use Rattle.thread_local_buckets.specs.Pointers.{null_pointer, with_pointer}
use Rattle.thread_local_buckets.specs.contracts.pointer_array.PointerArray as array
use Rattle.thread_local_buckets.specs.contracts.pointer_array.PointerArray.pointer_mut.{ended, clauses, Key.name as #self}
use Rattle.thread_local_buckets.proofs.LentPointer.{Rest, out, back}
use Rattle.thread_local_buckets.proofs.pointer_array.PointerArray.pointer_mut.Statement.{statement}
use Rattle.thread_local_buckets.proofs.pointer_array.PointerArray.pointer_mut.Code as code
use Rattle.thread_local_base.proofs.Walking.{knows}

pub pointer_mut_spec : {M : Type 1} → statement M
pointer_mut_spec 𝓤 𝓛 𝓜 𝓡 wired T L =
    let R : RattleType = param 0 T in let PointerRow : RattleType = one_pointer.the_row R in
    let Rw : RattleType = array.the_row R in
    let En = ended T in let c = clauses T 𝓛 𝓜.mem 𝓡.returns in let inst = layouts (a_type ∷ []) (T, tt) in
    let fn = inst_fn inst code.function in
    let LW = (pointer_laws.the_row_laws R (param_laws 0 T L)).lawful 𝓛 in
    let row = plain (λ _. Rw) in let self = RefMutOf (0 ∷ []) tt row (λ _. tt) in
    let hs : Stays En.signature.params En.kept = (stay_dropped self no, (stay_dropped (plain (λ _. usize)) yes, tt)) in
    proved 𝓛 En hs c 𝓜 𝓡 (Goes-spent_ref 𝓛 2 (0 ∷ []) tt row, (Goes-dropped 𝓛 2 (plain (λ _. usize)) yes (λ κs x f. refl), tt))
    (#self inst) fn (code.unfolded 𝓤 𝓛.H 𝓜 𝓡 wired (T, tt))
    (λ κs. (mut_vals, (uint_vals w64, tt))) (λ κs. (mut_Tells (named 0) κs.0 Rw, (uint_Tells w64, tt))) (λ κs qs bounds a gh are.
    let y : (walk_of 𝓛 En hs c).Ghost = (
      (κs, qs, bounds, a, (vptr a.0.ref_ptr.0 a.0.ref_ptr.1 ∷ [], (vint w64 a.1.0 ∷ [], tt))),
      gh,
    ) in
    let κ : Lft = κs.0 in let q : Share = qs.0 in let γ : GName = a.0.ghost_name in
    let b : ℕ = a.0.ref_ptr.0 in let o : ℕ = a.0.ref_ptr.1 in let d : Rw.Denot = a.0.now in let k : ℕ = a.1.0 in
    let others : Fml = fsep (flft κs.1.0 qs.1.0) ftrue in
    let at : ℕ = k * 8 + o in
    let x : PointerRow.Denot = slice_index_or d.pointers k null_pointer in
    let F : PointerRow.Denot → Rw.Denot = with_pointer d k in
    qed 𝓛 (((‵ (flft κ q) ⊛ ‵ others) ⊛ ‵ (owns (types_at En.signature.params κs) a y.0.4))
    ∷ raw (fact 𝓤 _) ∷ raw (fact 𝓤 _) ∷ raw (fact 𝓤 (k < 63)) ∷ []) ∵
    keep ! (3 ∷ 0 ∷ []) $ heard ! (k < 63) (λ near.
    let small : k * 8 < 2 ^ 64 = omega arith in
    split ! $ split ! $ move ! (2 ∷ []) $ fsplit ! $ fsplit3 ! $ keep ! (1 ∷ 2 ∷ 4 ∷ 5 ∷ []) $
    enter ! _ _ _ _ _ $ alloc_all ! (λ l.
    pass_all ! refl ((tt, tt), ((tt, record { fits = are.1.0.1 }), tt)) $ open_ref ! tt (mem Rw) $
    use1 𝓛 (‵ (part_at PointerRow full_share x b at) ⊛ raw (Rest R 𝓛 LW d k b o near)) (out R 𝓛 LW d k b o near) $ split ! $
    -- [the pointer; the rest; the open borrow; the other tokens]
    sets ! (bin ! (get ! refl) (lit ! tt) (record { fits = small })) refl
    (tt, record { fits = small }) $
    sets ! (addr ! (through ! refl (fld ! refl (stop !)))) refl (tt, tt) $
    sets ! (is ! (bin ! (get ! refl) (get ! refl) tt)
    (ap (λ (e : ℕ). vptr b (k * 8 + e)) (let r : o + 0 ≡ o = omega arith in r)))
    refl (tt, tt) $
    sets ! (addr ! (through ! refl (stop !))) refl (tt, tt) $
    move ! (2 ∷ 3 ∷ 4 ∷ 0 ∷ 1 ∷ []) $ group ! 5 $
    use1 𝓛 (later (some (λ (δ : GName).
    raw (Part 𝓛 Rw PointerRow F (named 0) κ q b o b at γ (Rest R 𝓛 LW d k b o near)
    (back R 𝓛 LW d k b o near) x δ))))
    (lends_Part 𝓛 Rw PointerRow F (named 0) κ q b o b at γ (Rest R 𝓛 LW d k b o near)
    (back R 𝓛 LW d k b o near) (Rw.coded.code d) (Rw.coded.code d) x) $
    await ! tt $ pick ! (λ δ.
    let r : MutBor PointerRow.Denot = record { ref_ptr = (b, at); ghost_name = δ; now = x } in
    use1 𝓛 (‵ ((MutRef (named 0) κ PointerRow).own_val r (vptr b at ∷ [])) ⊛ ‵ (flft κ q)
    ⊛ ‵ (follows Rw PointerRow γ δ F))
    (id⊢ 𝓤 _) $
    split3 ! $
    move ! (1 ∷ 3 ∷ []) $ join ! $ knows ! (x ≡ x) refl $
    move ! (3 ∷ 0 ∷ []) $ join ! $ nothing ! $ nothing ! $ fjoin ! $ nothing ! $ fjoin ! $
    returns ! (look_at ! 0 refl) $ free_all ! refl $ keep ! (2 ∷ 0 ∷ 3 ∷ 1 ∷ []) $
    by ! (leaves 𝓛 En hs c y (vptr b at) r (tt, (tt, tt)) (tt, (tt, tt)))))))
