-- `enter` reads a bucket's pointer, and writes the address of a slot's value in the block that it
-- points to.
use types.Part.{store_in}
use Rattle.thread_local_buckets.specs.Slots.{stride, value_offset}
use Rattle.thread_local_buckets.proofs.Flags.{uncapped, value_near}
use Rattle.thread_local_base.proofs.Names.{drop, is, size_word, assigns, unit_lit, vunit, cell, length, apply∗, sem}
use Rattle.thread_local_base.proofs.Names.{◌≡◌, ℕ, ◌+◌, ◌*◌, ◌^◌, ◌<◌, List, [], ◌∷◌, sym, refl, ap, ◌∙◌, subst}
use Rattle.thread_local_base.proofs.Names.{arith, w64, a_type, named, Val, vint, vptr, inst_fn, full_share, SProp}
use Rattle.thread_local_base.proofs.Names.{Fml, ftrue, fsep, flft, ‵, raw, ◌⊛◌, at_ret, ◌$◌, ◌∵◌, !, qed, by}
use Rattle.thread_local_base.proofs.Names.{move, keep, use0, use1, use2, split, join, fsplit, fsplit3, fjoin, fjoin3}
use Rattle.thread_local_base.proofs.Names.{fpick, fpack, rewrite, feq_i, stop, fld, load, lit, of_opd, bin, first}
use Rattle.thread_local_base.proofs.Names.{blocks, exec, returns, enter, look, alloc_all, pass_all, free_all, look_at}
use Rattle.thread_local_base.proofs.Names.{get, through, sets, sets_last, env, sub, look_in, whole, bor_open}
use Rattle.thread_local_base.proofs.Names.{obor_close, tables, yes, RattleType, owns, types_at, plain}
use Rattle.thread_local_base.proofs.Names.{named_lft, Ptr, block_ptr, block_of, count_of, at_block, nothing, heard}
use Rattle.thread_local_base.proofs.Names.{opens, closes, peeks, Is, shows, cell_at, param, layouts, usize, mut_vals}
use Rattle.thread_local_base.proofs.Names.{mut_Tells, uint_vals, uint_Tells, Stays, stay_dropped, stay_ref, walk_of}
use Rattle.thread_local_base.proofs.Names.{Goes-dropped, Goes-ref, proved, leaves}
use contract.Monad.{fact}
use Rattle.std.proofs.alloc.Shapes.{after}
use Rattle.thread_local_base.specs.Buckets.{row}
use Rattle.thread_local_buckets.specs.LoanOwns.{Lending, Known, lending, framed, frames, PointsTo}
use Rattle.thread_local_buckets.specs.contracts.loan.Loan as loan
use Rattle.thread_local_buckets.specs.contracts.loan.Loan.enter.{ended, clauses, Key.name as #self}
use Rattle.thread_local_buckets.proofs.LoanFields.{FieldsType, told, made, loan_val, leads_in}
use Rattle.thread_local_buckets.proofs.Frames.{pointer, in_row, Frame, frame_out}
use Rattle.thread_local_buckets.proofs.loan.Loan.enter.Statement.{statement}
use Rattle.thread_local_buckets.proofs.loan.Loan.enter.Code as code
use Rattle.thread_local_base.proofs.Walking.{knows}

pub enter_spec : {M : Type 1} → statement M
enter_spec 𝓤 𝓛 𝓜 𝓡 wired X L =
    let 𝓣 = tables 𝓤 𝓛.H 𝓜 𝓡 𝓡.env in let R : RattleType = param 0 X in let En = ended X in
    let c₀ = clauses X 𝓛 𝓜.mem 𝓡.returns in
    let inst = layouts (a_type ∷ []) (X, tt) in let fn = inst_fn inst code.function in
    let mine = plain (λ κs. loan.the_row (named_lft 3 1 tt κs) R) in
    let hs : Stays En.signature.params En.kept = (
      stay_ref (0 ∷ []) tt mine,
      (stay_dropped (plain (λ _. usize)) yes, (stay_dropped (plain (λ _. usize)) yes, tt)),
    ) in
    let goes = Goes-dropped 𝓛 3 (plain (λ _. usize)) yes (λ κs x f. refl) in
    proved 𝓛 En hs c₀ 𝓜 𝓡 (Goes-ref 𝓛 3 0 tt mine, (goes, (goes, tt))) (#self inst) fn
    (code.unfolded 𝓤 𝓛.H 𝓜 𝓡 wired (X, tt))
    (λ κs. (mut_vals, (uint_vals w64, (uint_vals w64, tt))))
    (λ κs. (mut_Tells (named 0) κs.0 (loan.the_row (named_lft 3 1 tt κs) R), (uint_Tells w64, (uint_Tells w64, tt))))
    (λ κs qs bounds a gh are.
    let ℓ = named_lft 3 1 tt κs in let Lo : RattleType = loan.the_row ℓ R in let D : RattleType = FieldsType ℓ R in
    let b : ℕ = a.0.ref_ptr.0 in let o : ℕ = a.0.ref_ptr.1 in let h : Lo.Denot = a.0.now in let k : ℕ = a.1.0 in
    let i : ℕ = a.1.1.0 in
    let y : (walk_of 𝓛 En hs c₀).Ghost = ((κs, qs, bounds, a, (vptr b o ∷ [], (vint w64 k ∷ [], (vint w64 i ∷ [], tt)))), gh) in
    let Post : Val → SProp 𝓤 = (walk_of 𝓛 En hs c₀).post y in
    let others : Fml = fsep (flft κs.1.0 qs.1.0) (fsep (flft κs.1.1.0 qs.1.1.0) ftrue) in
    let InTable : Type 0 = k < 63 in let InBucket : Type 0 = i < length (row h.contents k) in
    qed 𝓛 (((‵ (flft κs.0 qs.0) ⊛ ‵ others) ⊛ ‵ (owns (types_at En.signature.params κs) a y.0.4))
    ∷ raw (fact 𝓤 _) ∷ (raw (fact 𝓤 InTable) ⊛ raw (fact 𝓤 InBucket)) ∷ []) ∵
    keep ! (2 ∷ 0 ∷ []) $ split ! $ heard ! InTable (λ small. heard ! InBucket (λ inside. split ! $
    split ! $ move ! (2 ∷ []) $ fsplit ! $ fsplit3 ! $ keep ! (1 ∷ 2 ∷ 4 ∷ 5 ∷ []) $
    enter ! _ _ _ _ _ $ alloc_all ! (λ l.
    pass_all ! refl
    ((tt, tt), ((tt, record { fits = are.1.0.1 }), ((tt, record { fits = are.1.1.0.1 }), tt))) $
    let Ev = env fn.locals l in
    opens ! tt Lo b o (λ ts. move ! (1 ∷ []) $ fsplit ! $
    peeks ! D (Is D) (shows 𝓛 D) (h.pointers, (h.values, (tt, tt))) ts (λ is_so. move ! (1 ∷ []) $
    fpick ! (λ s. fsplit ! $ fpick ! (λ so. drop ! $ fsplit ! $
    -- [the frames; the values; the fields; the loan's cell; its open borrow, in three entries; the
    -- other tokens]
    let at : h.pointers ≡ block_ptr (block_of h.pointers) (count_of h.pointers) = at_block h.pointers so.0 in
    let wb : ℕ = block_of h.pointers in let wo : ℕ = count_of h.pointers in let e : ℕ = k * 8 + wo in let rs = s.1.rows in
    let p : Ptr = pointer s.0 k in let r = in_row rs k in
    let ev : ts ≡ loan_val (block_ptr wb wo) h.values ∷ [] =
    told ℓ R h.pointers h.values ts is_so ∙ ap (λ (q : Ptr). loan_val q h.values ∷ []) at in
    let near : i < length r = subst (λ n. i < n) (sym (so.1.long k)) inside in let sb : ℕ = block_of p in
    let v : ℕ = value_offset R (count_of p) i in
    move ! (7 ∷ []) $ fsplit ! $ move ! (2 ∷ 0 ∷ []) $ bor_open ! tt $ move ! (1 ∷ []) $
    use1 𝓛 (‵ (framed R wb e p r) ⊛ raw (Frame 𝓛 R wb wo s.0 rs k e))
    (frame_out 𝓛 R wb s.0 rs k wo e refl (subst (λ n. k < n) (sym so.1.rows) small)) $
    split ! $ fsplit3 ! $ move ! (1 ∷ []) $ fpick ! (λ lead. drop ! $
    let leads = leads_in R p r lead (omega arith) in
    let lies : p ≡ block_ptr sb (count_of p) = at_block p leads.0 in
    let low : k * 8 < 2 ^ 64 = omega arith in let n : ℕ = length r in
    let value_fits : i * stride R < 2 ^ 64 = value_near R n i leads.1 near in
    -- [the pointer; the flags; the way back; the open frames; a token; the values; the fields; the
    -- loan's cell; its open borrow, in three entries]
    rewrite ! 7 (λ (ws : List Val). ‵ (cell_at full_share Lo.mir ws b o)) ev refl $
    rewrite ! 0 (λ (q : Ptr). ‵ (cell wb e q)) lies refl $
    first ! $ blocks ! $
    sets ! (of_opd ! (load ! (through ! refl (fld ! refl (stop !))) (look_in ! 7 (sub ! 0 refl (whole !))))) refl (tt, tt) $
    sets ! (bin ! (get ! refl) (lit ! tt) (record { fits = low })) refl (tt, record { fits = low }) $
    sets ! (bin ! (get ! refl) (get ! refl) tt) refl (tt, tt) $
    sets ! (of_opd ! (load ! (through ! refl (stop !)) (look ! 0 refl))) refl (tt, tt) $
    sets ! (of_opd ! (get ! refl)) refl (tt, tt) $
    sets ! (is ! (bin ! (get ! refl) (size_word !) (record {
      fits = subst (λ (j : ℕ). j < 2 ^ 64) (sym (uncapped i (stride R) value_fits)) value_fits;
    }))
    (ap (vint w64) (uncapped i (stride R) value_fits)))
    refl (tt, record { fits = value_fits }) $
    sets_last ! (bin ! (get ! refl) (get ! refl) tt) refl (tt, tt) $ exec ! 𝓣.C 𝓣.Λ Ev (after 1 fn.body) (at_ret Ev Post) $
    sets ! (of_opd ! (get ! refl)) refl (tt, tt) $
    assigns ! (of_opd ! (get ! refl)) (through ! refl (fld ! refl (stop !)))
    (store_in ! 7 (sub ! 1 refl (whole !)) (tt, tt)) $
    sets ! (of_opd ! (unit_lit !)) refl (tt, tt) $
    rewrite ! 0 (λ (q : Ptr). ‵ (cell wb e q)) (sym lies) refl $ nothing ! $
    fpack ! (PointsTo R p r) (λ _. ftrue) lead $ move ! (1 ∷ 0 ∷ 2 ∷ []) $ fjoin3 ! $
    use2 𝓛 (‵ (frames R wb wo s.0 rs))
    (apply∗ 𝓤 (sem 𝓛 (framed R wb e p r)) (sem 𝓛 (frames R wb wo s.0 rs))) $
    move ! (1 ∷ 0 ∷ []) $ obor_close ! tt $
    -- [the frames; two tokens; the values; the fields; the loan's cell; its open borrow, in three
    -- entries]
    let q : Ptr = block_ptr wb wo in let u : Ptr = block_ptr sb v in
    let h' : Lo.Denot = record {
      pointers = q;
      values = u;
      marker = h.marker;
      name = h.name;
      contents = h.contents;
      given = h.given;
      bucket = k;
      first = i;
    } in
    move ! (0 ∷ 3 ∷ []) $ fjoin ! $ nothing ! $
    fpack ! (Known R q u h.contents h.given k i s) (λ _. ftrue) (tt, so.1, λ _. (refl, leads.1)) $
    fjoin ! $
    fpack ! (Lending R) (lending R ℓ.lft q u h.name h.contents h.given k i) s $
    -- [what the loan owns; two tokens; the fields; the loan's cell; its open borrow, in three
    -- entries]
    move ! (3 ∷ []) $ drop ! $
    use0 𝓛 (‵ (D.own_val (q, (u, (tt, tt))) (loan_val q u ∷ []))) (made ℓ R 𝓛 q u) $ fjoin ! $
    move ! (3 ∷ 0 ∷ 4 ∷ 5 ∷ 6 ∷ []) $ closes ! tt Lo h' (loan_val q u ∷ []) b o $
    feq_i ! _ (vptr b o ∷ []) _ refl $ fjoin3 ! $ nothing ! $ nothing ! $
    fjoin ! $ nothing ! $ fjoin ! $ move ! (1 ∷ 0 ∷ []) $ fjoin ! $ move ! (2 ∷ 3 ∷ []) $ fjoin ! $
    move ! (2 ∷ 0 ∷ []) $ join ! $
    knows ! (i ≡ i) refl $
    knows ! (k ≡ k) refl $ join ! $
    knows ! (h.given ≡ h.given) refl $ join ! $
    knows ! (h.contents ≡ h.contents) refl $ join ! $
    knows ! (h.name ≡ h.name) refl $ join ! $
    feq_i ! _ (vunit ∷ []) _ refl $
    returns ! (look_at ! 0 refl) $ free_all ! refl $ keep ! (2 ∷ 3 ∷ 0 ∷ 1 ∷ []) $
    by ! (leaves 𝓛 En hs c₀ y vunit tt (h', (tt, (tt, tt))) (tt, (tt, (tt, tt)))))))))))))
