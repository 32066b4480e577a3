-- `load` is one load of the pointer: it takes a part of the token of the block's lifetime, and
-- gives it up so that the row lasts.
use Rattle.thread_local_base.proofs.Names.{◌≡◌, ℕ, ◌+◌, [], ◌∷◌, refl, sym, ◌∙◌, lit<, true, false, Option, None}
use Rattle.thread_local_base.proofs.Names.{Some, a_type, named, Val, vptr, vcons, vnil, inst_fn, SProp}
use Rattle.thread_local_base.proofs.Names.{via, sem, Lft, Share, Fml, ftrue, fsep, flft, fbor, ‵, raw, ◌⊛◌}
use Rattle.thread_local_base.proofs.Names.{later, mean, at_ret, ◌$◌, ◌∵◌, !, qed, by, move, keep, drop, split}
use Rattle.thread_local_base.proofs.Names.{join, fsplit, fsplit3, fjoin, fjoin3, fpick, fpack, pick, use0, use1, use2, use3}
use Rattle.thread_local_base.proofs.Names.{await, stop, fld, addr, lit, of_opd, bin, no_more, and_then, first, blocks}
use Rattle.thread_local_base.proofs.Names.{exec, branches, returns, enter, alloc_all, pass_all, free_all, look_at}
use Rattle.thread_local_base.proofs.Names.{get, through, sets, sets_last, lands_last, env, agg, live, tables}
use Rattle.thread_local_base.proofs.Names.{yes, RattleType, owns, types_at, plain, Ptr, block_ptr, null_ptr}
use Rattle.thread_local_base.proofs.Names.{nothing, param, layouts, RefOf, u64, shr_vals, shr_Tells, Stays}
use Rattle.thread_local_base.proofs.Names.{stay_dropped, walk_of, Goes-dropped, proved, leaves, fm, after}
use Rattle.std.proofs.lemmas.Option.{none-some}
use Rattle.std.proofs.Common.{IfSome, IsSome, List, arith}
use Rattle.thread_local_ids.specs.TokenViews.{TokenView}
use Rattle.thread_local_ids.specs.TokenLists.{NoneIn, tell_each}
use Rattle.thread_local_ids.specs.contracts.tokens.told_list.Told as Told
use Rattle.thread_local_ids.proofs.TokenListLaws.{told_shown}
use base.Fml.{finv}
use base.Before.{before}
use types.Na.{before_dup}
use types.Run.{Calls-last}
use denote.Signature.{named_lft}
use denote.RawPtr.{tests_null}
use denote.Opens.{unhide}
use Rattle.std.proofs.option.Made.{Some-of, none_of}
use Rattle.std.proofs.raw_atomic.Calls.{seq_cst}
use Rattle.std.proofs.raw_atomic.PtrCalls as calls
use Rattle.std.proofs.raw_atomic.PtrCalls.{seq_cst_good}
use Rattle.std.specs.contracts.option.Option as Opt
use Rattle.thread_local_base.specs.Judged.{Judged}
use Rattle.thread_local_base.specs.Fact.{fact as said_fact}
use Rattle.thread_local_shared_buckets.specs.Shared.{BucketView, Sized, len, bucket_invariant, loaded, Found, row_as, shown_by}
use Rattle.thread_local_ids.specs.Rights.{reached_owns}
use Rattle.thread_local_shared_buckets.specs.contracts.shared_bucket.SharedBucket as one_bucket
use Rattle.thread_local_shared_buckets.specs.contracts.row.Row as Row
use Rattle.thread_local_shared_buckets.specs.contracts.shared_bucket.SharedBucket.load.{ended, clauses, Key.name as #self}
use Rattle.thread_local_shared_buckets.proofs.RowFields.{row_val, row_good, FieldsType, made, word_laws}
use Rattle.thread_local_shared_buckets.proofs.Loads.{glimpse, part, shows_held, reaches, reads, NoneThere, none_there, forgets}
use Rattle.thread_local_shared_buckets.proofs.shared_bucket.SharedBucket.load.Statement.{statement}
use Rattle.thread_local_shared_buckets.proofs.shared_bucket.SharedBucket.load.Code as code
use Rattle.thread_local_buckets.proofs.Slots.{ptr_good}
use Rattle.thread_local_base.proofs.Walking.{knows, lends_token, returns_token}

pub load_spec : {M : Type 1} → statement M
load_spec 𝓤 𝓛 𝓜 𝓡 wired T L =
    let H = 𝓛.H in let 𝓣 = tables 𝓤 H 𝓜 𝓡 𝓡.env in let R : RattleType = param 0 T in let En = ended T in
    let c = clauses T 𝓛 𝓜.mem 𝓡.returns in
    let inst = layouts (a_type ∷ []) (T, tt) in let fn = inst_fn inst code.function in let W : RattleType = one_bucket.the_row R in
    let self = RefOf (0 ∷ []) tt (plain (λ _. W)) (λ _. tt) in
    let tolds = RefOf (1 ∷ []) tt (plain (λ _. Told.the_row R)) (λ _. tt) in
    let hs : Stays En.signature.params En.kept = (stay_dropped self yes, (stay_dropped tolds yes, tt)) in
    proved 𝓛 En hs c 𝓜 𝓡
    (Goes-dropped 𝓛 3 self yes (λ κs x f. refl), (Goes-dropped 𝓛 3 tolds yes (λ κs x f. refl), tt)) (#self inst) fn
    (code.unfolded 𝓤 H 𝓜 𝓡 wired (T, tt)) (λ κs. (shr_vals, (shr_vals, tt)))
    (λ κs. (shr_Tells (named 0) κs.0 W, (shr_Tells (named 1) κs.1.0 (Told.the_row R), tt))) (λ κs qs bounds a gh are.
    let b : ℕ = a.0.ref_ptr.0 in let o : ℕ = a.0.ref_ptr.1 in let κ : Lft = κs.0 in let q : Share = qs.0 in
    let d : BucketView = a.0.now in let others : Fml = fsep (flft κs.1.0 qs.1.0) (fsep (flft κs.1.1.0 qs.1.1.0) ftrue) in
    let ts : List (TokenView R.Denot) = a.1.0.now in
    let pt : Val = vptr a.1.0.ref_ptr.0 a.1.0.ref_ptr.1 in
    let ℓ = named_lft 3 0 tt κs in let G : RattleType = Row.the_row ℓ R in
    let Of : Option G.Denot → Type 0 = λ r. IfSome r (λ row. row.of ≡ d) in
    let There : Option G.Denot → Type 0 = λ r. d.reserved ≡ true → IsSome r in
    let Absent : Option G.Denot → Type 0 = λ r. r ≡ None → NoneIn d.sharing d.bucket ts in
    let y : (walk_of 𝓛 En hs c).Ghost = ((κs, qs, bounds, a, (vptr b o ∷ [], (pt ∷ [], tt))), gh) in
    let Post : Val → SProp 𝓤 = (walk_of 𝓛 En hs c).post y in
    qed 𝓛 (((‵ (flft κ q) ⊛ ‵ others) ⊛ ‵ (owns (types_at En.signature.params κs) a y.0.4))
    ∷ raw ((c κs a).requires gh) ∷ []) ∵
    split ! $ split ! $ move ! (2 ∷ []) $ fsplit3 ! $ fsplit ! $ move ! (2 ∷ []) $ fsplit ! $
    keep ! (1 ∷ 3 ∷ 5 ∷ 6 ∷ []) $ unhide ! $
    use1 𝓛 (‵ (tell_each R ts)) (told_shown 𝓛 R ts a.1.0.ref_ptr.0 a.1.0.ref_ptr.1 κs.1.0) $ move ! (1 ∷ 2 ∷ 3 ∷ []) $
    -- [what the `&` holds; κ's token; the others; what the tokens tell]
    enter ! _ _ _ _ _ $ alloc_all ! (λ l. pass_all ! refl ((tt, tt), ((tt, tt), tt)) $ let Ev = env fn.locals l in
    unhide ! $ fsplit ! $ fpick ! (λ j. drop ! $ fpick ! (λ t. let J : Fml = fbor t.life (bucket_invariant R d t b (o + 0)) in fsplit ! $
    use1 𝓛 (‵ (before κ t.life) ⊛ ‵ (before κ t.life)) (before_dup 𝓛 κ t.life) $ split ! $
    use1 𝓛 (‵ (before κ t.life) ⊛ ‵ (before κ t.life)) (before_dup 𝓛 κ t.life) $ split ! $
    move ! (3 ∷ []) $
    use1 𝓛 (‵ (finv J) ⊛ ‵ (finv J)) (𝓛.invs.inv_dup J) $ split ! $ move ! (2 ∷ 5 ∷ []) $
    lends_token ! 𝓜 𝓡 κ t.life q $ await ! tt $ pick ! (λ s. split ! $
    -- [the life's token; the way back; the invariant, twice; before, twice; the other tokens]
    let out : Ptr → Fml = λ p. fsep (flft t.life s) (glimpse 𝓛 R d t (said_fact (NoneThere 𝓛 R d t ts)) ftrue p) in
    first ! $ blocks ! $ sets ! (addr ! (through ! refl (fld ! refl (stop !)))) refl (tt, tt) $
    sets ! (agg ! (and_then ! (lit ! tt) (no_more !))) refl seq_cst_good $
    move ! (2 ∷ 0 ∷ 7 ∷ []) $
    use3 𝓛 (raw (𝓣.C _ (vptr b (o + 0) ∷ seq_cst ∷ []) (λ u. mean 𝓛 (calls.found 𝓛 out u))))
    (via 𝓤 _ (reads 𝓛 R d t b (o + 0) s (sem 𝓛 (tell_each R ts)) (said_fact (NoneThere 𝓛 R d t ts)) ftrue
    (none_there 𝓛 R d t ts) (forgets 𝓛 R d t ts))
    (calls.loads 𝓛 𝓜 𝓡 (code.calls-std::sync::atomic::raw::ptr::load 𝓡.env wired) u64 word_laws
    (block_ptr b (o + 0)) out)) $
    Calls-last ! (fm 𝓛 𝓜 𝓡) (calls.found 𝓛 out)
    (and_then ! (get ! refl) (and_then ! (get ! refl) (no_more !))) (λ u.
    calls.finds_either ! out
    (lands_last ! refl (ptr_good null_ptr) $
    exec ! 𝓣.C 𝓣.Λ Ev (after 1 fn.body) (at_ret Ev Post) $ fsplit ! $ move ! (0 ∷ 2 ∷ []) $
    returns_token ! κ t.life q s $ await ! tt $
    move ! (1 ∷ []) $ fsplit ! $ fpick ! (λ free. drop ! $ fpick ! (λ absent. drop ! $
    sets ! (of_opd ! (get ! refl)) refl (ptr_good null_ptr) $
    sets ! (bin ! (get ! refl) (lit ! tt) tt) refl (tt, tt) $ first ! $ branches ! (get ! refl)
    (λ _.
    sets_last ! (agg ! (and_then ! (lit ! tt) (no_more !))) refl
    (tt, (record { fits = lit< tt }, tt)) $
    exec ! 𝓣.C 𝓣.Λ Ev (after 4 fn.body) (at_ret Ev Post) $
    sets ! (of_opd ! (get ! refl)) refl (tt, (record { fits = lit< tt }, tt)) $
    move ! (0 ∷ 4 ∷ []) $ join ! $ use0 𝓛 (‵ ((Opt.the_row G).own_val None (live 0 vnil ∷ []))) (none_of 𝓛 G) $
    knows ! (Absent None) (λ _ name k x low same i near at.
    absent i near name k x low same (omega (arith, at))) $
    knows ! (There None) (λ r. let never : true ≡ false = sym r ∙ free in cc) $ join ! $
    knows ! (Of None) tt $ join ! $ nothing ! $
    nothing ! $ fjoin ! $ nothing ! $ fjoin ! $
    returns ! (look_at ! 0 refl) $ free_all ! refl $ keep ! (3 ∷ 0 ∷ 2 ∷ 1 ∷ []) $
    by ! (leaves 𝓛 En hs c y (live 0 vnil) None (tt, (tt, tt)) (tt, (tt, tt)))) (λ wrong. absurd wrong))))
    (λ pb po.
    let p : Ptr = block_ptr pb po in
    lands_last ! refl (ptr_good p) $ exec ! 𝓣.C 𝓣.Λ Ev (after 1 fn.body) (at_ret Ev Post) $
    fsplit ! $ move ! (0 ∷ 2 ∷ []) $
    returns_token ! κ t.life q s $ await ! tt $
    -- [κ's token; what was seen; the invariant; before, twice; the other tokens]
    move ! (1 ∷ []) $ fsplit ! $ fpick ! (λ z.
    use1 𝓛 (‵ (part 𝓛 R d t p z) ⊛ ‵ (reached_owns d.table (shown_by d))) (shows_held 𝓛 R d t p z) $ split ! $ move ! (0 ∷ 5 ∷ []) $
    use2 𝓛 (later (‵ (said_fact ((z.0.at ≡ p) × Sized R (len R d) p)) ⊛ ‵ (loaded R d t z.0 κ)))
    (reaches 𝓛 R d t κ p z) $
    await ! tt $ split ! $ fpick ! (λ so. drop ! $
    -- [the row; how many ids were held; nothing; κ's token; the invariant; before; the other tokens]
    move ! (1 ∷ 0 ∷ []) $ fjoin ! $ move ! (4 ∷ 3 ∷ []) $ fjoin ! $ nothing ! $
    fpack ! ((z.0.at ≡ p) × (z.0.names ≡ z.0.names) × Judged R) (λ _. ftrue) (so.0, refl, j) $
    fjoin3 ! $ fpack ! Found (row_as R d z.0.names κ p) (t, z.0, b, o + 0) $
    sets ! (of_opd ! (get ! refl)) refl (tt, tt) $
    sets ! (bin ! (get ! refl) (lit ! tt) (tests_null p so.1.1)) refl (tt, tt) $ first ! $
    branches ! (get ! refl) (λ wrong. absurd wrong) (λ _.
    let r : G.Denot = record { at = p; marker = record {}; of = d; names = z.0.names } in let v : Val = live 1 (vcons (row_val p) vnil) in
    sets ! (of_opd ! (get ! refl)) refl (tt, tt) $ sets ! (agg ! (no_more !)) refl (tt, tt) $
    sets ! (agg ! (and_then ! (get ! refl) (and_then ! (get ! refl) (no_more !)))) refl
    (row_good p) $
    sets_last ! (agg ! (and_then ! (lit ! tt) (and_then ! (get ! refl) (no_more !)))) refl
    (tt, (record { fits = lit< tt }, ((tt, (tt, tt)), tt))) $
    exec ! 𝓣.C 𝓣.Λ Ev (after 4 fn.body) (at_ret Ev Post) $
    sets ! (of_opd ! (get ! refl)) refl (tt, (record { fits = lit< tt }, ((tt, (tt, tt)), tt))) $
    use0 𝓛 (‵ ((FieldsType ℓ R).own_val (p, (record {}, tt)) (row_val p ∷ []))) (made ℓ R 𝓛 p) $
    fjoin ! $ use1 𝓛 (‵ ((Opt.the_row G).own_val (Some r) (v ∷ []))) (Some-of 𝓛 G r (row_val p)) $
    move ! (2 ∷ 3 ∷ []) $ join ! $ move ! (1 ∷ []) $
    knows ! (Absent (Some r)) (λ e. absurd (none-some r (sym e))) $
    knows ! (There (Some r)) (λ _. refl) $ join ! $
    knows ! (Of (Some r)) refl $ join ! $ nothing ! $
    nothing ! $ fjoin ! $ nothing ! $ fjoin ! $
    returns ! (look_at ! 0 refl) $ free_all ! refl $ keep ! (3 ∷ 0 ∷ 2 ∷ 1 ∷ []) $
    by ! (leaves 𝓛 En hs c y v (Some r) (tt, (tt, tt)) (tt, (tt, tt)))))))))))))
