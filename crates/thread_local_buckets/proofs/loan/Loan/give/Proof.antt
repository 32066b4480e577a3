-- `give` computes the address of a slot's value, and splits the value from those that the loan has
-- left.
use Rattle.thread_local_base.proofs.Names.{drop, split3, Some, IsSome, pick, some, later, await, fobs, addr, MutBor}
use Rattle.thread_local_base.proofs.Names.{mem, is, size_word, length, None, ◌≤◌, ◌≡◌, ℕ, ◌+◌, ◌*◌, ◌^◌, ◌<◌, List}
use Rattle.thread_local_base.proofs.Names.{[], ◌∷◌, sym, refl, ap, ◌∙◌, subst, w64, a_type, named, Val, vint, vptr}
use Rattle.thread_local_base.proofs.Names.{inst_fn, full_share, SProp, emp, GName, Fml, ftrue, fsep, flft, fbor, ‵}
use Rattle.thread_local_base.proofs.Names.{raw, ◌⊛◌, at_ret, ◌$◌, ◌∵◌, !, qed, by, move, keep, use0, use2, split}
use Rattle.thread_local_base.proofs.Names.{join, fsplit, fsplit3, fjoin, fjoin3, fpick, fpack, rewrite, feq_i, stop}
use Rattle.thread_local_base.proofs.Names.{fld, load, of_opd, bin, first, blocks, exec, returns, enter, alloc_all}
use Rattle.thread_local_base.proofs.Names.{pass_all, free_all, look_at, get, through, sets, sets_last, env, sub}
use Rattle.thread_local_base.proofs.Names.{look_in, whole, tables, fact_i, yes, RattleType, owns, types_at, plain}
use Rattle.thread_local_base.proofs.Names.{named_lft, Ptr, block_ptr, block_of, count_of, at_block, nothing, heard}
use Rattle.thread_local_base.proofs.Names.{opens, closes, peeks, Is, shows, cell_at, param, layouts, usize, mut_vals}
use Rattle.thread_local_base.proofs.Names.{mut_Tells, uint_vals, uint_Tells, Stays, stay_dropped, stay_ref, walk_of}
use Rattle.thread_local_base.proofs.Names.{Goes-dropped, Goes-ref, proved, leaves}
use types.SemTy.{Body}
use contract.Monad.{fact}
use denote.Follow.{both_by}
use types.Follow.{after₂}
use Rattle.std.proofs.alloc.Shapes.{after}
use Rattle.thread_local_base.specs.Buckets.{Contents, row}
use Rattle.thread_local_base.specs.Place.{id_at}
use Rattle.thread_local_base.specs.Rows.{value_in, with_slot}
use Rattle.thread_local_buckets.specs.Slots.{stride, value_offset}
use Rattle.thread_local_buckets.proofs.Flags.{uncapped}
use Rattle.thread_local_buckets.specs.LoanOwns.{Lending, Known, lending, Values, lent_values, shape}
use Rattle.thread_local_buckets.specs.contracts.loan.Loan as loan
use Rattle.thread_local_buckets.specs.contracts.loan.Loan.give.{ended, clauses}
use Rattle.thread_local_buckets.specs.contracts.loan.Loan.give.Key.{name as #self}
use Rattle.thread_local_buckets.proofs.LoanFields.{FieldsType, told, loan_val, the_value, the_value_is, value_apart, distance_fits}
use Rattle.thread_local_buckets.proofs.Left.{left_after}
use Rattle.thread_local_buckets.proofs.Giving.{gives, less, whole_of}
use Rattle.thread_local_buckets.proofs.Frames.{pointer, in_row}
use Rattle.thread_local_buckets.proofs.loan.Loan.give.Statement.{statement}
use Rattle.thread_local_buckets.proofs.loan.Loan.give.Code as code

pub give_spec : {M : Type 1} → statement M
unfolding both_by
give_spec 𝓤 𝓛 𝓜 𝓡 wired X L =
    let H = 𝓛.H in
    let 𝓣 = tables 𝓤 H 𝓜 𝓡 𝓡.env in
    let R : RattleType = param 0 X in
    let En = ended X in
    let c₀ = clauses X 𝓛 𝓜.mem 𝓡.returns in
    let inst = layouts (a_type ∷ []) (X, tt) in let fn = inst_fn inst code.function in
    let mine = plain (λ κs. loan.the_row (named_lft 3 1 tt κs) R) in
    let hs : Stays En.signature.params En.kept = (stay_ref (0 ∷ []) tt mine, (stay_dropped (plain (λ _. usize)) yes, tt)) in
    proved 𝓛 En hs c₀ 𝓜 𝓡
    (Goes-ref 𝓛 3 0 tt mine, (Goes-dropped 𝓛 3 (plain (λ _. usize)) yes (λ κs x f. refl), tt))
    (#self inst) fn (code.unfolded 𝓤 H 𝓜 𝓡 wired (X, tt))
    (λ κs. (mut_vals, (uint_vals w64, tt)))
    (λ κs. (mut_Tells (named 0) κs.0 (loan.the_row (named_lft 3 1 tt κs) R), (uint_Tells w64, tt)))
    (λ κs qs bounds a gh are.
    let ℓ = named_lft 3 1 tt κs in let Lo : RattleType = loan.the_row ℓ R in let D : RattleType = FieldsType ℓ R in
    let b : ℕ = a.0.ref_ptr.0 in
    let o : ℕ = a.0.ref_ptr.1 in
    let h : Lo.Denot = a.0.now in
    let k : ℕ = h.bucket in
    let j : ℕ = a.1.0 in
    let i : ℕ = h.first + j in
    let y : (walk_of 𝓛 En hs c₀).Ghost =
    ((κs, qs, bounds, a, (vptr b o ∷ [], (vint w64 j ∷ [], tt))), gh) in
    let Post : Val → SProp 𝓤 = (walk_of 𝓛 En hs c₀).post y in
    let others : Fml = fsep (flft κs.1.0 qs.1.0) (fsep (flft κs.1.1.0 qs.1.1.0) ftrue) in
    let InTable : Type 0 = k < 63 in
    let InBucket : Type 0 = i < length (row h.contents k) in
    let Ahead : Type 0 = h.given ≤ id_at k i in
    let Published : Type 0 = IsSome (value_in h.contents k i) in
    qed 𝓛 (((‵ (flft κs.0 qs.0) ⊛ ‵ others) ⊛ ‵ (owns (types_at En.signature.params κs) a y.0.4))
    ∷ raw (fact 𝓤 _)
    ∷ (raw (fact 𝓤 InTable) ⊛ raw (fact 𝓤 InBucket) ⊛ raw (fact 𝓤 Ahead) ⊛ raw (fact 𝓤 Published))
    ∷ []) ∵
    keep ! (2 ∷ 0 ∷ []) $ split3 ! $ heard ! InTable (λ small. heard ! InBucket (λ inside. split ! $
    heard ! Ahead (λ ahead. heard ! Published (λ published. split ! $ split ! $ move ! (2 ∷ []) $
    fsplit ! $ fsplit3 ! $ keep ! (1 ∷ 2 ∷ 4 ∷ 5 ∷ []) $
    enter ! 𝓣.C 𝓣.Λ fn (vptr b o ∷ vint w64 j ∷ []) Post $ alloc_all ! (λ l.
    pass_all ! refl ((tt, tt), ((tt, record { fits = are.1.0.1 }), tt)) $
    let Ev = env fn.locals l in
    opens ! tt Lo b o (λ ts. move ! (1 ∷ []) $ fsplit ! $
    peeks ! D (Is D) (shows 𝓛 D) (h.pointers, (h.values, (tt, tt))) ts (λ is_so. move ! (1 ∷ []) $
    fpick ! (λ s. fsplit ! $ fpick ! (λ so. drop ! $ fsplit ! $
    -- [the frames; the values; the fields; the loan's cell; its open borrow, in three entries; the
    -- other tokens]
    let rs = s.1.rows in
    let p : Ptr = pointer s.0 k in
    let r = in_row rs k in
    let sb : ℕ = block_of p in
    let from : ℕ = value_offset R (count_of p) h.first in
    let v : ℕ = value_offset R (count_of p) i in
    let based : h.values ≡ block_ptr sb from = (so.2 small).0 in
    let at : h.pointers ≡ block_ptr (block_of h.pointers) (count_of h.pointers) =
    at_block h.pointers so.0 in
    let wb : ℕ = block_of h.pointers in
    let wo : ℕ = count_of h.pointers in
    let ev : ts ≡ loan_val (block_ptr wb wo) (block_ptr sb from) ∷ [] =
    told ℓ R h.pointers h.values ts is_so
    ∙ ap (λ (q : Ptr). loan_val q h.values ∷ []) at
    ∙ ap (λ (q : Ptr). loan_val (block_ptr wb wo) q ∷ []) based in
    let near : i < length r = subst (λ n. i < n) (sym (so.1.long k)) inside in
    let x : X.Denot = the_value (value_in h.contents k i) published in
    let had = the_value_is (value_in h.contents k i) published in
    let kept : k < length h.contents.rows = subst (λ n. k < n) (sym so.1.table.buckets) small in
    let value_fits : j * stride R < 2 ^ 64 = distance_fits R (length r) h.first j (so.2 small).1 near in
    move ! (7 ∷ []) $ fsplit ! $ move ! (2 ∷ []) $
    -- [the frames; two tokens; the values; the fields; the loan's cell; its open borrow, in three
    -- entries]
    rewrite ! 5 (λ (ws : List Val). ‵ (cell_at full_share Lo.mir ws b o)) ev refl $
    first ! $ blocks ! $
    sets !
    (of_opd !
    (load ! (through ! refl (fld ! refl (stop !))) (look_in ! 5 (sub ! 1 refl (whole !)))))
    refl (tt, tt) $
    sets !
    (is ! (bin ! (get ! refl) (size_word !) (record {
      fits = subst (λ (m : ℕ). m < 2 ^ 64) (sym (uncapped j (stride R) value_fits)) value_fits;
    }))
    (ap (vint w64) (uncapped j (stride R) value_fits)))
    refl (tt, record { fits = value_fits }) $
    sets ! (is ! (bin ! (get ! refl) (get ! refl) tt) (ap (vptr sb) (value_apart R (count_of p) h.first j))) refl (tt, tt) $
    sets_last ! (addr ! (through ! refl (stop !))) refl (tt, tt) $ exec ! 𝓣.C 𝓣.Λ Ev (after 1 fn.body) (at_ret Ev Post) $
    sets ! (of_opd ! (get ! refl)) refl (tt, tt) $
    let left : Contents X.Denot = less 𝓛 R s.0 h.contents k i x kept inside had in
    let way = whole_of 𝓛 R s.0 h.contents k i x kept inside had in
    move ! (3 ∷ 1 ∷ []) $ use2 𝓛 (later (some (λ (γs : GName × GName).
    (‵ (fobs γs.0 (R.coded.code x)) ⊛ ‵ (fbor ℓ.lft (Body (mem R) sb v γs.0)))
    ⊛ ‵ (lent_values R ℓ.lft s.0 γs.1 left) ⊛ ‵ (flft ℓ.lft qs.1.0)
    ⊛ ‵ (after₂ (Values R s.0 (shape h.contents.rows)) (mem R) (Values R s.0 (shape left.rows))
    h.name γs.0 γs.1 way))))
    (gives 𝓛 R s.0 h.contents k i x kept inside had ℓ.lft qs.1.0 h.name) $ await ! tt $
    pick ! (λ γs. split3 ! $ move ! (2 ∷ []) $ split ! $
    let h' : Lo.Denot = record {
      pointers = h.pointers;
      values = h.values;
      marker = h.marker;
      name = γs.1;
      contents = left;
      given = id_at k i + 1;
      bucket = h.bucket;
      first = h.first;
    } in
    let now_so = left_after s.1 h.contents h.given k i so.1 ahead in
    move ! (4 ∷ 3 ∷ []) $ fjoin ! $ nothing ! $
    fpack ! (Known R h.pointers h.values left (id_at k i + 1) h.bucket h.first s) (λ _. ftrue)
    (so.0, now_so, so.2) $
    fjoin ! $
    fpack ! (Lending R) (lending R ℓ.lft h.pointers h.values γs.1 left (id_at k i + 1) h.bucket h.first) s $
    -- [what the loan owns; a token; what follows; the value's borrow; a token; the fields; the
    -- loan's cell; its open borrow, in three entries]
    move ! (5 ∷ 0 ∷ []) $ fjoin ! $
    rewrite ! 5 (λ (ws : List Val). ‵ (cell_at full_share Lo.mir ws b o)) (sym ev) refl $
    move ! (5 ∷ 0 ∷ 6 ∷ 7 ∷ 8 ∷ []) $ closes ! tt Lo h' ts b o $
    feq_i ! (List Val) (vptr b o ∷ []) (vptr b o ∷ []) refl $ fjoin3 ! $ nothing ! $ nothing ! $
    fjoin ! $ move ! (1 ∷ 0 ∷ []) $ fjoin ! $ move ! (2 ∷ 5 ∷ []) $ fjoin ! $ move ! (2 ∷ 0 ∷ []) $
    join ! $
    -- [the tokens; what the parameters own; what follows; the value's borrow]
    move ! (3 ∷ []) $ split ! $
    let item : MutBor X.Denot = record { ref_ptr = (sb, v); ghost_name = γs.0; now = x } in
    feq_i ! (List Val) (mut_vals item) (mut_vals item) refl $ fjoin3 ! $
    -- [the item; the tokens; what the parameters own; what follows]
    use0 𝓛 (raw (fact 𝓤 (h'.first ≡ h.first))) (fact_i 𝓤 (h'.first ≡ h.first) (emp 𝓤) refl) $
    use0 𝓛 (raw (fact 𝓤 (h'.bucket ≡ h.bucket))) (fact_i 𝓤 (h'.bucket ≡ h.bucket) (emp 𝓤) refl) $ join ! $
    use0 𝓛 (raw (fact 𝓤 (h'.given ≡ id_at k i + 1))) (fact_i 𝓤 (h'.given ≡ id_at k i + 1) (emp 𝓤) refl) $ join ! $
    let Less : Type 0 = left ≡ with_slot h.contents k i None in
    use0 𝓛 (raw (fact 𝓤 Less)) (fact_i 𝓤 Less (emp 𝓤) refl) $ join ! $
    let Gave : Type 0 = value_in h.contents k i ≡ Some x in use0 𝓛 (raw (fact 𝓤 Gave)) (fact_i 𝓤 Gave (emp 𝓤) had) $ join ! $
    returns ! (look_at ! 0 refl) $ free_all ! refl $ keep ! (2 ∷ 3 ∷ 1 ∷ 0 ∷ []) $
    by ! (leaves 𝓛 En hs c₀ y (vptr sb v) item (h', (tt, tt)) (tt, (tt, tt))))))))))))))
