-- `stands` reads a bucket's pointer.
use Rattle.thread_local_base.proofs.Names.{drop, apply∗, sem, ◌≡◌, ℕ, ◌+◌, ◌*◌, ◌^◌, ◌<◌, List, [], ◌∷◌, sym, refl}
use Rattle.thread_local_base.proofs.Names.{ap, ◌∙◌, subst, arith, w64, Bool, a_type, named, Val, vint, vptr, inst_fn}
use Rattle.thread_local_base.proofs.Names.{full_share, SProp, Fml, ftrue, fsep, flft, ‵, raw, ◌⊛◌, at_ret, ◌$◌}
use Rattle.thread_local_base.proofs.Names.{◌∵◌, !, qed, by, move, keep, use1, use2, split, join, fsplit}
use Rattle.thread_local_base.proofs.Names.{fsplit3, fjoin, fjoin3, fpick, fpack, rewrite, feq_i, stop, fld, load, lit}
use Rattle.thread_local_base.proofs.Names.{of_opd, bin, un, first, blocks, exec, returns, enter, look, alloc_all}
use Rattle.thread_local_base.proofs.Names.{pass_all, free_all, look_at, get, through, sets, sets_last, env, sub}
use Rattle.thread_local_base.proofs.Names.{look_in, whole, bor_open, obor_close, tables, yes, RattleType}
use Rattle.thread_local_base.proofs.Names.{owns, types_at, plain, named_lft, Ptr, block_ptr, block_of, count_of}
use Rattle.thread_local_base.proofs.Names.{at_block, nothing, heard, opens, closes, peeks, Is, shows, cell_at, param}
use Rattle.thread_local_base.proofs.Names.{layouts, usize, mut_vals, mut_Tells, uint_vals, uint_Tells, Stays}
use Rattle.thread_local_base.proofs.Names.{stay_dropped, stay_ref, walk_of, Goes-dropped, Goes-ref, proved, leaves}
use contract.Monad.{fact}
use mir.Val.{vbool, vnull, ptr_same}
use denote.RawPtr.{ptr_val}
use Rattle.std.specs.Prelude.{not, nat_lt}
use Rattle.std.proofs.alloc.Shapes.{after}
use Rattle.thread_local_base.specs.Buckets.{row, IsTable, stands}
use Rattle.thread_local_buckets.specs.LoanOwns.{Lending, Known, lending, framed, frames, PointsTo}
use Rattle.thread_local_buckets.specs.contracts.loan.Loan as loan
use Rattle.thread_local_buckets.specs.contracts.loan.LoanFlagSource.stands.{ended, clauses, Key.name as #self}
use Rattle.std.proofs.Common.{true, false, length}
use Rattle.thread_local_buckets.proofs.Left.{no_row, whole_row}
use Rattle.thread_local_buckets.proofs.LoanFields.{FieldsType, told, loan_val, testable, leads}
use Rattle.thread_local_buckets.proofs.Frames.{pointer, in_row, Frame, frame_out}
use Rattle.thread_local_buckets.proofs.loan.LoanFlagSource.stands.Statement.{statement}
use Rattle.thread_local_buckets.proofs.loan.LoanFlagSource.stands.Code as code
use Rattle.thread_local_buckets.proofs.Slots.{ptr_good}
use Rattle.thread_local_base.proofs.Walking.{knows}

pub stands_spec : {M : Type 1} → statement M
stands_spec 𝓤 𝓛 𝓜 𝓡 wired X L =
    let 𝓣 = tables 𝓤 𝓛.H 𝓜 𝓡 𝓡.env in let R : RattleType = param 0 X in let En = ended X in
    let c = clauses X 𝓛 𝓜.mem 𝓡.returns in let inst = layouts (a_type ∷ []) (X, tt) in let fn = inst_fn inst code.function in
    let mine = plain (λ κs. loan.the_row (named_lft 3 1 tt κs) R) in
    let hs : Stays En.signature.params En.kept = (stay_ref (0 ∷ []) tt mine, (stay_dropped (plain (λ _. usize)) yes, tt)) in
    proved 𝓛 En hs c 𝓜 𝓡
    (Goes-ref 𝓛 3 0 tt mine, (Goes-dropped 𝓛 3 (plain (λ _. usize)) yes (λ κs x f. refl), tt))
    (#self inst) fn (code.unfolded 𝓤 𝓛.H 𝓜 𝓡 wired (X, tt))
    (λ κs. (mut_vals, (uint_vals w64, tt)))
    (λ κs. (mut_Tells (named 0) κs.0 (loan.the_row (named_lft 3 1 tt κs) R), (uint_Tells w64, tt)))
    (λ κs qs bounds a gh are.
    let ℓ = named_lft 3 1 tt κs in let Lo : RattleType = loan.the_row ℓ R in let D : RattleType = FieldsType ℓ R in
    let b : ℕ = a.0.ref_ptr.0 in let o : ℕ = a.0.ref_ptr.1 in let h : Lo.Denot = a.0.now in let k : ℕ = a.1.0 in
    let y : (walk_of 𝓛 En hs c).Ghost = ((κs, qs, bounds, a, (vptr b o ∷ [], (vint w64 k ∷ [], tt))), gh) in
    let Post : Val → SProp 𝓤 = (walk_of 𝓛 En hs c).post y in
    let others : Fml = fsep (flft κs.1.0 qs.1.0) (fsep (flft κs.1.1.0 qs.1.1.0) ftrue) in
    qed 𝓛 (((‵ (flft κs.0 qs.0) ⊛ ‵ others) ⊛ ‵ (owns (types_at En.signature.params κs) a y.0.4))
    ∷ raw (fact 𝓤 _) ∷ raw (fact 𝓤 (k < 63)) ∷ []) ∵
    keep ! (2 ∷ 0 ∷ []) $ heard ! (k < 63) (λ small. split ! $ split ! $ move ! (2 ∷ []) $
    fsplit ! $ fsplit3 ! $ keep ! (1 ∷ 2 ∷ 4 ∷ 5 ∷ []) $
    enter ! _ _ _ _ _ $ alloc_all ! (λ l.
    pass_all ! refl ((tt, tt), ((tt, record { fits = are.1.0.1 }), tt)) $
    let Ev = env fn.locals l in
    opens ! tt Lo b o (λ ts. move ! (1 ∷ []) $ fsplit ! $
    peeks ! D (Is D) (shows 𝓛 D) (h.pointers, (h.values, (tt, tt))) ts (λ is_so. move ! (1 ∷ []) $
    fpick ! (λ s. fsplit ! $ fpick ! (λ so. drop ! $ fsplit ! $
    -- [the frames; the values; the fields; the loan's cell; its open borrow, in three entries; the
    -- other tokens]
    let at : h.pointers ≡ block_ptr (block_of h.pointers) (count_of h.pointers) = at_block h.pointers so.0 in
    let wb : ℕ = block_of h.pointers in let wo : ℕ = count_of h.pointers in let e : ℕ = k * 8 + wo in let rs = s.1.rows in
    let p : Ptr = pointer s.0 k in let r = in_row rs k in
    let ev : ts ≡ loan_val (block_ptr wb wo) h.values ∷ [] =
    told ℓ R h.pointers h.values ts is_so ∙ ap (λ (q : Ptr). loan_val q h.values ∷ []) at in
    move ! (7 ∷ []) $ fsplit ! $ move ! (2 ∷ 0 ∷ []) $ bor_open ! tt $ move ! (1 ∷ []) $
    use1 𝓛 (‵ (framed R wb e p r) ⊛ raw (Frame 𝓛 R wb wo s.0 rs k e))
    (frame_out 𝓛 R wb s.0 rs k wo e refl (subst (λ n. k < n) (sym so.1.rows) small)) $
    split ! $ fsplit3 ! $ move ! (1 ∷ []) $ fpick ! (λ lead. drop ! $
    -- [the pointer; the flags; the way back; the open frames; a token; the values; the fields; the
    -- loan's cell; its open borrow, in three entries]
    rewrite ! 7 (λ (ws : List Val). ‵ (cell_at full_share Lo.mir ws b o)) ev refl $
    let low : k * 8 < 2 ^ 64 = omega arith in
    first ! $ blocks ! $
    sets ! (of_opd ! (load ! (through ! refl (fld ! refl (stop !))) (look_in ! 7 (sub ! 0 refl (whole !))))) refl (tt, tt) $
    sets ! (bin ! (get ! refl) (lit ! tt) (record { fits = low })) refl (tt, record { fits = low }) $
    sets ! (bin ! (get ! refl) (get ! refl) tt) refl (tt, tt) $
    sets_last ! (of_opd ! (load ! (through ! refl (stop !)) (look ! 0 refl))) refl
    (ptr_good p) $
    exec ! 𝓣.C 𝓣.Λ Ev (after 1 fn.body) (at_ret Ev Post) $
    sets ! (of_opd ! (get ! refl)) refl (ptr_good p) $
    sets ! (bin ! (get ! refl) (lit ! tt) (testable R p r lead)) refl (tt, tt) $
    sets ! (un ! (get ! refl) tt) refl (tt, tt) $
    nothing ! $ fpack ! (PointsTo R p r) (λ _. ftrue) lead $ move ! (1 ∷ 0 ∷ 2 ∷ []) $ fjoin3 ! $
    use2 𝓛 (‵ (frames R wb wo s.0 rs))
    (apply∗ 𝓤 (sem 𝓛 (framed R wb e p r)) (sem 𝓛 (frames R wb wo s.0 rs))) $
    move ! (1 ∷ 0 ∷ []) $ obor_close ! tt $ move ! (0 ∷ 3 ∷ []) $ fjoin ! $ nothing ! $
    fpack ! (Known R h.pointers h.values h.contents h.given h.bucket h.first s) (λ _. ftrue) so $
    fjoin ! $
    fpack ! (Lending R) (lending R ℓ.lft h.pointers h.values h.name h.contents h.given h.bucket h.first) s $
    -- [what the loan owns; two tokens; the fields; the loan's cell; its open borrow, in three
    -- entries]
    move ! (3 ∷ 0 ∷ []) $ fjoin ! $
    rewrite ! 3 (λ (ws : List Val). ‵ (cell_at full_share Lo.mir ws b o)) (sym ev) refl $
    move ! (3 ∷ 0 ∷ 4 ∷ 5 ∷ 6 ∷ []) $ closes ! tt Lo h ts b o $
    feq_i ! _ (vptr b o ∷ []) _ refl $ fjoin3 ! $ nothing ! $ nothing ! $
    fjoin ! $ move ! (1 ∷ 0 ∷ []) $ fjoin ! $ move ! (2 ∷ 3 ∷ []) $ fjoin ! $ move ! (2 ∷ 0 ∷ []) $
    join ! $
    let yes_or_no : Bool = not (ptr_same (ptr_val p) vnull) in let Told : Type 0 = yes_or_no ≡ stands h.contents k in
    let told : Told = leads R p r lead ∙ ap (nat_lt 0) (so.1.long k) in
    let slots = row h.contents k in
    let Whole : Type 0 = yes_or_no ≡ true → length slots ≡ 2 ^ k in
    let Absent : Type 0 = yes_or_no ≡ false → slots ≡ [] in
    knows ! (IsTable h.contents) so.1.table $
    knows ! Absent (λ e. no_row slots (sym told ∙ e)) $ join ! $
    knows ! Whole (λ e. whole_row (length slots) (2 ^ k) (so.1.table.whole k) (sym told ∙ e)) $
    join ! $
    knows ! Told told $ join ! $
    knows ! (h ≡ h) refl $ join ! $
    feq_i ! _ (vbool yes_or_no ∷ []) _ refl $
    returns ! (look_at ! 0 refl) $ free_all ! refl $ keep ! (2 ∷ 3 ∷ 0 ∷ 1 ∷ []) $
    by ! (leaves 𝓛 En hs c y (vbool yes_or_no) yes_or_no (h, (tt, tt)) (tt, (tt, tt)))))))))))
