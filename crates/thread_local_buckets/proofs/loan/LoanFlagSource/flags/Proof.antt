-- `flags` reads a bucket's pointer, and the word of a chunk in the block that it points to.
use Rattle.thread_local_base.proofs.Names.{drop, apply∗, sem, split3, is, length, is_some, cell, ◌≤◌, ◌≡◌, ℕ, ◌+◌}
use Rattle.thread_local_base.proofs.Names.{◌*◌, ◌^◌, ◌<◌, List, [], ◌∷◌, sym, refl, ap, ◌∙◌, subst, arith, w64}
use Rattle.thread_local_base.proofs.Names.{a_type, named, Val, vint, vptr, inst_fn, full_share, SProp, Fml}
use Rattle.thread_local_base.proofs.Names.{ftrue, fsep, flft, ‵, raw, ◌⊛◌, given, at_ret, ◌$◌, ◌∵◌, !, qed, by, move}
use Rattle.thread_local_base.proofs.Names.{keep, use1, use2, split, join, fsplit, fsplit3, fjoin, fjoin3, fpick}
use Rattle.thread_local_base.proofs.Names.{fpack, learn, rewrite, feq_i, stop, fld, load, lit, of_opd, bin, first}
use Rattle.thread_local_base.proofs.Names.{blocks, exec, returns, enter, look, alloc_all, pass_all, free_all, look_at}
use Rattle.thread_local_base.proofs.Names.{get, through, sets, sets_last, env, sub, look_in, whole, bor_open}
use Rattle.thread_local_base.proofs.Names.{obor_close, tables, yes, RattleType, owns, types_at, plain}
use Rattle.thread_local_base.proofs.Names.{named_lft, Ptr, block_ptr, block_of, count_of, at_block, nothing, heard}
use Rattle.thread_local_base.proofs.Names.{opens, closes, peeks, Is, shows, cell_at, param, layouts, usize, mut_vals}
use Rattle.thread_local_base.proofs.Names.{mut_Tells, uint_vals, uint_Tells, Stays, stay_dropped, stay_ref, walk_of}
use Rattle.thread_local_base.proofs.Names.{Goes-dropped, Goes-ref, proved, leaves, wand, some, pick, flt_i}
use contract.Monad.{fact}
use Rattle.std.proofs.alloc.Shapes.{after}
use Rattle.thread_local_base.specs.Buckets.{row, IsTable}
use Rattle.thread_local_base.specs.Place.{id_at}
use Rattle.thread_local_base.specs.Rows.{value_in}
use Rattle.thread_local_base.specs.Bits.{is_set}
use Rattle.thread_local_buckets.specs.Slots.{value_words, flag_word_at, flags_at}
use Rattle.thread_local_buckets.proofs.Flags.{chunk_in}
use Rattle.thread_local_buckets.proofs.Slots.{IsWordOf, IsWordNear, word_is_near}
use Rattle.thread_local_base.proofs.RowLaws.{row_whole}
use Rattle.thread_local_buckets.specs.LoanOwns.{Lending, Known, lending, framed, frames, flagged, PointsTo}
use Rattle.thread_local_buckets.specs.contracts.loan.Loan as loan
use Rattle.thread_local_buckets.specs.contracts.loan.LoanFlagSource.flags.{ended, clauses, Key.name as #self}
use Rattle.thread_local_buckets.proofs.LoanFields.{FieldsType, told, loan_val, leads_in}
use Rattle.thread_local_buckets.proofs.Frames.{pointer, in_row, Frame, frame_out}
use Rattle.thread_local_buckets.proofs.Reading.{word_out, says_of_left}
use Rattle.thread_local_buckets.proofs.loan.LoanFlagSource.flags.Statement.{statement}
use Rattle.thread_local_buckets.proofs.loan.LoanFlagSource.flags.Code as code
use Rattle.thread_local_base.proofs.Walking.{knows}

pub flags_spec : {M : Type 1} → statement M
flags_spec 𝓤 𝓛 𝓜 𝓡 wired X L =
    let 𝓣 = tables 𝓤 𝓛.H 𝓜 𝓡 𝓡.env in let R : RattleType = param 0 X in let En = ended X in
    let c₀ = clauses X 𝓛 𝓜.mem 𝓡.returns in
    let inst = layouts (a_type ∷ []) (X, tt) in let fn = inst_fn inst code.function in
    let mine = plain (λ κs. loan.the_row (named_lft 3 1 tt κs) R) in
    let hs : Stays En.signature.params En.kept = (
      stay_ref (0 ∷ []) tt mine,
      (
        stay_dropped (plain (λ _. usize)) yes,
        (stay_dropped (plain (λ _. usize)) yes, (stay_dropped (plain (λ _. usize)) yes, tt)),
      ),
    ) in
    let goes = Goes-dropped 𝓛 3 (plain (λ _. usize)) yes (λ κs x f. refl) in
    proved 𝓛 En hs c₀ 𝓜 𝓡 (Goes-ref 𝓛 3 0 tt mine, (goes, (goes, (goes, tt)))) (#self inst) fn
    (code.unfolded 𝓤 𝓛.H 𝓜 𝓡 wired (X, tt))
    (λ κs. (mut_vals, (uint_vals w64, (uint_vals w64, (uint_vals w64, tt)))))
    (λ κs. (
      mut_Tells (named 0) κs.0 (loan.the_row (named_lft 3 1 tt κs) R),
      (uint_Tells w64, (uint_Tells w64, (uint_Tells w64, tt))),
    ))
    (λ κs qs bounds a gh are.
    let ℓ = named_lft 3 1 tt κs in let Lo : RattleType = loan.the_row ℓ R in let D : RattleType = FieldsType ℓ R in
    let b : ℕ = a.0.ref_ptr.0 in let o : ℕ = a.0.ref_ptr.1 in let h : Lo.Denot = a.0.now in let k : ℕ = a.1.0 in
    let c : ℕ = a.1.1.0 in let w : ℕ = a.1.1.1.0 in
    let y : (walk_of 𝓛 En hs c₀).Ghost = (
      (κs, qs, bounds, a, (vptr b o ∷ [], (vint w64 k ∷ [], (vint w64 c ∷ [], (vint w64 w ∷ [], tt))))),
      gh,
    ) in
    let Post : Val → SProp 𝓤 = (walk_of 𝓛 En hs c₀).post y in
    let others : Fml = fsep (flft κs.1.0 qs.1.0) (fsep (flft κs.1.1.0 qs.1.1.0) ftrue) in
    let InTable : Type 0 = k < 63 in
    let InBucket : Type 0 = c * 64 < length (row h.contents k) in
    let Ahead : Type 0 = h.given ≤ id_at k (c * 64) in
    let Numbered : Type 0 = w ≡ flag_word_at R (2 ^ k) c in
    qed 𝓛 (((‵ (flft κs.0 qs.0) ⊛ ‵ others) ⊛ ‵ (owns (types_at En.signature.params κs) a y.0.4))
    ∷ raw (fact 𝓤 _)
    ∷ (raw (fact 𝓤 InTable) ⊛ raw (fact 𝓤 InBucket) ⊛ raw (fact 𝓤 Ahead) ⊛ raw (fact 𝓤 Numbered))
    ∷ []) ∵
    keep ! (2 ∷ 0 ∷ []) $ split3 ! $ heard ! InTable (λ small. heard ! InBucket (λ inside. split ! $
    heard ! Ahead (λ ahead. heard ! Numbered (λ numbered. split ! $ split ! $ move ! (2 ∷ []) $
    fsplit ! $ fsplit3 ! $ keep ! (1 ∷ 2 ∷ 4 ∷ 5 ∷ []) $
    enter ! _ _ _ _ _ $
    alloc_all ! (λ l.
    pass_all ! refl (
      (tt, tt),
      ((tt, record { fits = are.1.0.1 }), ((tt, record { fits = are.1.1.0.1 }), ((tt, record { fits = are.1.1.1.0.1 }), tt))),
    ) $
    let Ev = env fn.locals l in
    opens ! tt Lo b o (λ ts. move ! (1 ∷ []) $ fsplit ! $
    peeks ! D (Is D) (shows 𝓛 D) (h.pointers, (h.values, (tt, tt))) ts (λ is_so. move ! (1 ∷ []) $
    fpick ! (λ s. fsplit ! $ fpick ! (λ so. drop ! $ fsplit ! $
    -- [the frames; the values; the fields; the loan's cell; its open borrow, in three entries; the
    -- other tokens]
    let at : h.pointers ≡ block_ptr (block_of h.pointers) (count_of h.pointers) = at_block h.pointers so.0 in
    let wb : ℕ = block_of h.pointers in let wo : ℕ = count_of h.pointers in let e : ℕ = k * 8 + wo in let rs = s.1.rows in
    let p : Ptr = pointer s.0 k in let r = in_row rs k in
    let ev : ts ≡ loan_val (block_ptr wb wo) h.values ∷ [] =
    told ℓ R h.pointers h.values ts is_so ∙ ap (λ (q : Ptr). loan_val q h.values ∷ []) at in
    let near : c * 64 < length r = subst (λ n. c * 64 < n) (sym (so.1.long k)) inside in let sb : ℕ = block_of p in
    let F : ℕ → Fml = λ n. flags_at R (length r) sb (count_of p) n c in
    move ! (7 ∷ []) $ fsplit ! $ move ! (2 ∷ 0 ∷ []) $ bor_open ! tt $ move ! (1 ∷ []) $
    use1 𝓛 (‵ (framed R wb e p r) ⊛ raw (Frame 𝓛 R wb wo s.0 rs k e))
    (frame_out 𝓛 R wb s.0 rs k wo e refl (subst (λ n. k < n) (sym so.1.rows) small)) $
    split ! $ fsplit3 ! $ move ! (1 ∷ []) $ fpick ! (λ lead. drop ! $
    let leads = leads_in R p r lead (omega arith) in
    let lies : p ≡ block_ptr sb (count_of p) = at_block p leads.0 in
    let low : k * 8 < 2 ^ 64 = omega arith in
    let here : IsWordNear R (length r) c = word_is_near R (length r) c leads.1 (chunk_in (length r) c near) in
    let long : length r ≡ 2 ^ k = so.1.long k ∙ row_whole h.contents k (c * 64) so.1.table inside in
    let number_at : w ≡ value_words R (length r) + c = numbered ∙ ap (λ (m : ℕ). flag_word_at R m c) (sym long) ∙ here.number in
    let fits : w * 8 < 2 ^ 64 = subst (λ (m : ℕ). m * 8 < 2 ^ 64) (sym number_at) here.near in
    move ! (1 ∷ []) $
    use1 𝓛 (some (λ (n : ℕ).
    given (IsWordOf r c n) (‵ (F n) ⊛ raw (wand 𝓤 (sem 𝓛 (F n)) (sem 𝓛 (flagged R p r))))))
    (word_out 𝓛 R p r c near) $
    pick ! (λ n. learn ! (λ is_word. split ! $
    -- [the chunk's word; its way back; the pointer; the way back; the open frames; a token; the
    -- values; the fields; the loan's cell; its open borrow, in three entries]
    rewrite ! 8 (λ (ws : List Val). ‵ (cell_at full_share Lo.mir ws b o)) ev refl $
    rewrite ! 2 (λ (q : Ptr). ‵ (cell wb e q)) lies refl $
    first ! $ blocks ! $
    sets ! (of_opd ! (load ! (through ! refl (fld ! refl (stop !))) (look_in ! 8 (sub ! 0 refl (whole !))))) refl (tt, tt) $
    sets ! (bin ! (get ! refl) (lit ! tt) (record { fits = low })) refl (tt, record { fits = low }) $
    sets ! (bin ! (get ! refl) (get ! refl) tt) refl (tt, tt) $
    sets ! (of_opd ! (load ! (through ! refl (stop !)) (look ! 2 refl))) refl (tt, tt) $
    sets ! (of_opd ! (get ! refl)) refl (tt, tt) $
    sets ! (is ! (bin ! (get ! refl) (lit ! tt) (record { fits = fits }))
    (ap (λ (m : ℕ). vint w64 (m * 8)) number_at))
    refl (tt, record { fits = here.near }) $
    sets ! (bin ! (get ! refl) (get ! refl) tt) refl (tt, tt) $
    sets_last ! (of_opd ! (load ! (through ! refl (stop !)) (look ! 0 refl))) refl
    (tt, record { fits = is_word.fits }) $
    exec ! 𝓣.C 𝓣.Λ Ev (after 1 fn.body) (at_ret Ev Post) $
    sets ! (of_opd ! (get ! refl)) refl (tt, record { fits = is_word.fits }) $
    use2 𝓛 (‵ (flagged R p r)) (apply∗ 𝓤 (sem 𝓛 (F n)) (sem 𝓛 (flagged R p r))) $ move ! (1 ∷ []) $
    rewrite ! 0 (λ (q : Ptr). ‵ (cell wb e q)) (sym lies) refl $
    nothing ! $ fpack ! (PointsTo R p r) (λ _. ftrue) lead $ move ! (1 ∷ 0 ∷ 2 ∷ []) $ fjoin3 ! $
    use2 𝓛 (‵ (frames R wb wo s.0 rs))
    (apply∗ 𝓤 (sem 𝓛 (framed R wb e p r)) (sem 𝓛 (frames R wb wo s.0 rs))) $
    move ! (1 ∷ 0 ∷ []) $ obor_close ! tt $ move ! (0 ∷ 3 ∷ []) $ fjoin ! $ nothing ! $
    fpack ! (Known R h.pointers h.values h.contents h.given h.bucket h.first s) (λ _. ftrue) so $
    fjoin ! $
    fpack ! (Lending R) (lending R ℓ.lft h.pointers h.values h.name h.contents h.given h.bucket h.first) s $
    -- [what the loan owns; two tokens; the fields; the loan's cell; its open borrow, in three
    -- entries]
    move ! (3 ∷ 0 ∷ []) $ fjoin ! $
    rewrite ! 3 (λ (ws : List Val). ‵ (cell_at full_share Lo.mir ws b o)) (sym ev) refl $
    move ! (3 ∷ 0 ∷ 4 ∷ 5 ∷ 6 ∷ []) $ closes ! tt Lo h ts b o $
    feq_i ! _ (vptr b o ∷ []) _ refl $ fjoin3 ! $ nothing ! $ nothing ! $
    fjoin ! $ nothing ! $ fjoin ! $ nothing ! $ fjoin ! $ move ! (1 ∷ 0 ∷ []) $ fjoin ! $
    move ! (2 ∷ 3 ∷ []) $ fjoin ! $ move ! (2 ∷ 0 ∷ []) $ join ! $
    let Told : Type 0 = (bit : ℕ) → bit < 64 → is_set n bit ≡ is_some (value_in h.contents k (c * 64 + bit)) in
    knows ! (IsTable h.contents) so.1.table $
    knows ! Told (says_of_left s.1 h.contents h.given k c n so.1 ahead is_word) $
    join ! $ knows ! (h ≡ h) refl $ join ! $
    flt_i ! n (2 ^ 64) is_word.fits $ feq_i ! _ (vint w64 n ∷ []) _ refl $ fjoin ! $
    returns ! (look_at ! 0 refl) $ free_all ! refl $ keep ! (2 ∷ 3 ∷ 0 ∷ 1 ∷ []) $
    by ! (leaves 𝓛 En hs c₀ y (vint w64 n) n (h, (tt, (tt, (tt, tt))))
    (tt, (tt, (tt, (tt, tt))))))))))))))))))
