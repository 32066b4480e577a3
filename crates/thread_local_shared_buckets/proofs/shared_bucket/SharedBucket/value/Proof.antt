-- `value` is one load of the pointer, which isn't null, since something is told of a slot of the
-- bucket. A ghost step finds the value there, as a `&` to it names no thread.
use Rattle.thread_local_base.proofs.Names.{◌≡◌, ℕ, ◌+◌, ◌*◌, ◌^◌, ◌<◌, [], ◌∷◌, length, refl, sym, ap, subst}
use Rattle.thread_local_base.proofs.Names.{arith, never_e, group, w64, Some, dnil, a_type, named, Val, vint, vptr}
use Rattle.thread_local_base.proofs.Names.{inst_fn, SProp, via, id⊢, Lft, Share, Fml, ftrue}
use Rattle.thread_local_base.proofs.Names.{ffalse, fsep, flft, fbor, finv, sem, ‵, raw, ◌⊛◌, given, later, mean}
use Rattle.thread_local_base.proofs.Names.{at_ret, ◌$◌, ◌∵◌, !, qed, by, move, keep, drop, split, join, fsplit}
use Rattle.thread_local_base.proofs.Names.{fsplit3, fjoin, fpick, pick, learn, use1, use2, use3, await, rewrite}
use Rattle.thread_local_base.proofs.Names.{feq_i, stop, fld, addr, lit, size_word, of_opd, bin, no_more, and_then}
use Rattle.thread_local_base.proofs.Names.{first, blocks, exec, returns, enter, alloc_all, pass_all, free_all}
use Rattle.thread_local_base.proofs.Names.{look_at, get, through, sets, sets_last, lands_last, env, is, agg, tables}
use Rattle.thread_local_base.proofs.Names.{fact, yes, RattleType, owns, types_at, plain, Ptr, block_ptr}
use Rattle.thread_local_base.proofs.Names.{null_ptr, block_of, count_of, nothing, heard, unhide, param, bounded}
use Rattle.thread_local_base.proofs.Names.{RefOf, usize, u64, shr_vals, shr_Tells, uint_vals, uint_Tells, Stays}
use Rattle.thread_local_base.proofs.Names.{stay_dropped, walk_of, Goes-dropped, proved, leaves, fm, after, param_laws}
use Rattle.std.proofs.Common.{Option, IsSome}
use base.Before.{before}
use types.Na.{before_dup}
use types.Run.{Calls-last}
use denote.Memory.{shared_of}
use denote.Opens.{hide}
use denote.Param.Send.{IsSync}
use Rattle.std.proofs.raw_atomic.Calls.{seq_cst}
use Rattle.std.proofs.raw_atomic.PtrCalls as calls
use Rattle.std.proofs.raw_atomic.PtrCalls.{seq_cst_good}
use Rattle.thread_local_base.specs.Place.{id_at}
use Rattle.thread_local_base.specs.Fact.{fact as said_fact}
use Rattle.thread_local_buckets.specs.Slots.{stride, value_offset}
use Rattle.thread_local_buckets.proofs.Flags.{uncapped, value_near}
use Rattle.thread_local_ids.specs.Told.{tells}
use Rattle.thread_local_ids.proofs.ToldElements.{tells_dup}
use Rattle.thread_local_ids.specs.contracts.tokens.token.Token as Token
use Rattle.thread_local_ids.proofs.TokenFields.{token_says, token_shown}
use Rattle.thread_local_shared_buckets.specs.Shared.{BucketView, StandingBlock, Sized, len, first as first_id}
use Rattle.thread_local_shared_buckets.specs.Shared.{bucket_invariant, loaded}
use Rattle.thread_local_shared_buckets.specs.contracts.shared_bucket.SharedBucket as one_bucket
use Rattle.thread_local_shared_buckets.specs.contracts.shared_bucket.SharedBucket.value.{ended, clauses, Key.name as #self}
use Rattle.thread_local_shared_buckets.proofs.RowFields.{word_laws}
use Rattle.thread_local_shared_buckets.proofs.Loads.{glimpse, reaches, reads, unborn_untold}
use Rattle.thread_local_shared_buckets.proofs.Looks.{finds}
use Rattle.thread_local_shared_buckets.proofs.shared_bucket.SharedBucket.value.Statement.{statement}
use Rattle.thread_local_shared_buckets.proofs.shared_bucket.SharedBucket.value.Code as code
use Rattle.thread_local_buckets.proofs.Slots.{ptr_good}
use Rattle.thread_local_base.proofs.Walking.{knows, lends_token, returns_token}
use Rattle.thread_local_shared_buckets.proofs.Inside.{placed}

pub value_spec : {M : Type 1} → statement M
value_spec {M} 𝓤 𝓛 𝓜 𝓡 wired T L =
    let H = 𝓛.H in let 𝓣 = tables 𝓤 H 𝓜 𝓡 𝓡.env in let R : RattleType = param 0 T in let LR = param_laws 0 T L in
    let En = ended T in let c = clauses T 𝓛 𝓜.mem 𝓡.returns in let inst = bounded (a_type ∷ []) (T, tt) dnil in
    let fn = inst_fn inst code.function in let W : RattleType = one_bucket.the_row R in
    let S : RattleType = Token.the_row R in let self = RefOf (0 ∷ []) tt (plain (λ _. W)) (λ _. tt) in
    let number = plain (λ _. usize) in
    let seen = RefOf (1 ∷ []) tt (plain (λ _. S)) (λ _. tt) in
    let hs : Stays En.signature.params En.kept =
    (stay_dropped self yes, (stay_dropped number yes, (stay_dropped seen yes, tt))) in
    proved 𝓛 En hs c 𝓜 𝓡 (
      Goes-dropped 𝓛 3 self yes (λ κs x f. refl),
      (Goes-dropped 𝓛 3 number yes (λ κs x f. refl), (Goes-dropped 𝓛 3 seen yes (λ κs x f. refl), tt)),
    )
    (#self inst) fn (code.unfolded 𝓤 H 𝓜 𝓡 wired (T, tt))
    (λ κs. (shr_vals, (uint_vals w64, (shr_vals, tt))))
    (λ κs. (shr_Tells (named 0) κs.0 W, (uint_Tells w64, (shr_Tells (named 1) κs.1.0 S, tt))))
    (λ κs qs bounds a gh are.
    let b : ℕ = a.0.ref_ptr.0 in let o : ℕ = a.0.ref_ptr.1 in let κ : Lft = κs.0 in let q : Share = qs.0 in
    let d : BucketView = a.0.now in let others : Fml = fsep (flft κs.1.0 qs.1.0) (fsep (flft κs.1.1.0 qs.1.1.0) ftrue) in
    let i : ℕ = a.1.0 in let w = a.1.1.0.now in let x : T.Denot = w.value in
    let id : ℕ = id_at d.bucket i in
    let p' : Val = vptr a.1.1.0.ref_ptr.0 a.1.1.0.ref_ptr.1 in
    let y : (walk_of 𝓛 En hs c).Ghost = ((κs, qs, bounds, a, (vptr b o ∷ [], (vint w64 i ∷ [], (p' ∷ [], tt)))), gh) in
    let Post : Val → SProp 𝓤 = (walk_of 𝓛 En hs c).post y in
    let Near : Type 0 = i < 2 ^ d.bucket in
    let At : Type 0 = w.id ≡ id in
    let In : Type 0 = ◌≡◌ {A = Option ℕ} w.sharing d.sharing in
    let Named : Type 0 = IsSome d.sharing in
    qed 𝓛 (((‵ (flft κ q) ⊛ ‵ others) ⊛ ‵ (owns (types_at En.signature.params κs) a y.0.4))
    ∷ raw (fact 𝓤 _) ∷ raw (fact 𝓤 (IsSync R)) ∷ raw (fact 𝓤 Near) ∷ raw (fact 𝓤 At)
    ∷ raw (fact 𝓤 In) ∷ raw (fact 𝓤 Named) ∷ []) ∵
    keep ! (2 ∷ 3 ∷ 4 ∷ 5 ∷ 6 ∷ 0 ∷ []) $ heard ! (IsSync R) (λ sync. heard ! Near (λ near.
    heard ! At (λ at_id. heard ! In (λ in_sharing. heard ! Named (λ named_so.
    let k : ℕ = i + first_id R d in let at_k : w.id ≡ k = omega (arith, at_id) in let Told : Fml = tells R d.sharing k (Some x) in
    split ! $ split ! $ move ! (2 ∷ []) $ fsplit3 ! $ fsplit ! $ move ! (3 ∷ []) $ fsplit ! $
    fsplit ! $ keep ! (1 ∷ 4 ∷ 6 ∷ 7 ∷ []) $
    unhide ! $ use1 𝓛 (‵ (token_says R w)) (token_shown R 𝓛 w a.1.1.0.ref_ptr.0 a.1.1.0.ref_ptr.1 κs.1.0) $
    rewrite ! 0 (λ (z : Option ℕ). ‵ (tells R z w.id (Some x))) in_sharing refl $
    rewrite ! 0 (λ (j : ℕ). ‵ (tells R d.sharing j (Some x))) at_k refl $
    -- [what is told; what the `&` holds; κ's token; the others]
    enter ! _ _ _ _ _ $ alloc_all ! (λ l.
    pass_all ! refl ((tt, tt), ((tt, record { fits = are.1.0.1 }), ((tt, tt), tt))) $
    let Ev = env fn.locals l in
    move ! (1 ∷ []) $ unhide ! $ fsplit ! $ fpick ! (λ judged. drop ! $ fpick ! (λ t.
    let J : Fml = fbor t.life (bucket_invariant R d t b (o + 0)) in
    fsplit ! $
    use1 𝓛 (‵ (before κ t.life) ⊛ ‵ (before κ t.life)) (before_dup 𝓛 κ t.life) $ split ! $
    move ! (2 ∷ []) $ use1 𝓛 (‵ (finv J) ⊛ ‵ (finv J)) (𝓛.invs.inv_dup J) $ split ! $
    move ! (4 ∷ []) $ use1 𝓛 (‵ Told ⊛ ‵ Told) (tells_dup 𝓛 R d.sharing k (Some x)) $
    split ! $ move ! (4 ∷ 6 ∷ []) $
    lends_token ! 𝓜 𝓡 κ t.life q $ await ! tt $ pick ! (λ s. split ! $
    -- [the life's token; the way back; what is told, twice; the invariant, twice; before; the others]
    let out : Ptr → Fml = λ p. fsep (flft t.life s) (glimpse 𝓛 R d t ffalse Told p) in
    first ! $ blocks ! $ sets ! (addr ! (through ! refl (fld ! refl (stop !)))) refl (tt, tt) $
    sets ! (agg ! (and_then ! (lit ! tt) (no_more !))) refl seq_cst_good $ move ! (4 ∷ 0 ∷ 2 ∷ []) $
    use3 𝓛 (raw (𝓣.C _ (vptr b (o + 0) ∷ seq_cst ∷ []) (λ u. mean 𝓛 (calls.found 𝓛 out u))))
    (via 𝓤 _ (reads 𝓛 R d t b (o + 0) s (sem 𝓛 Told) ffalse Told
    (unborn_untold 𝓛 R d.sharing named_so d.table t x _ (len R d) (first_id R d) i k near refl)
    (id⊢ 𝓤 _))
    (calls.loads 𝓛 𝓜 𝓡 (code.calls-std::sync::atomic::raw::ptr::load 𝓡.env wired) u64 word_laws
    (block_ptr b (o + 0)) out)) $
    Calls-last ! (fm 𝓛 𝓜 𝓡) (calls.found 𝓛 out)
    (and_then ! (get ! refl) (and_then ! (get ! refl) (no_more !))) (λ u.
    calls.finds_either ! out
    (lands_last ! refl (ptr_good null_ptr) $
    exec ! 𝓣.C 𝓣.Λ Ev (after 1 fn.body) (at_ret Ev Post) $ fsplit ! $ move ! (1 ∷ []) $ fsplit ! $
    move ! (1 ∷ []) $ use1 𝓛 (given ⊥ (‵ ftrue)) (never_e 𝓤 _) $ learn ! (λ no. absurd no))
    (λ pb po. let p : Ptr = block_ptr pb po in let e : ℕ = value_offset R po i in let F : Lft → Fml = shared_of R x pb e in
    lands_last ! refl (ptr_good p) $ exec ! 𝓣.C 𝓣.Λ Ev (after 1 fn.body) (at_ret Ev Post) $
    fsplit ! $ move ! (1 ∷ []) $ fsplit ! $ fpick ! (λ z. move ! (0 ∷ 6 ∷ []) $
    use2 𝓛 (later (‵ (said_fact ((z.0.at ≡ p) × Sized R (len R d) p)) ⊛ ‵ (loaded R d t z.0 κ)))
    (reaches 𝓛 R d t κ p z) $
    await ! tt $ split ! $ fpick ! (λ so. drop ! $
    let sd : StandingBlock = z.0 in
    fsplit3 ! $ fpick ! (λ long. drop ! $
    -- [which; before the block's own; what is told; the life's token; the way back; what is told;
    -- the invariant; the others]
    let low : i < length sd.names = subst (λ (n : ℕ). i < n) (sym long.0) near in
    let at_e : e ≡ value_offset R (count_of sd.at) i = ap (λ (r : Ptr). value_offset R (count_of r) i) (sym so.0) in
    let at_b : block_of sd.at ≡ pb = ap block_of so.0 in
    let close : i * stride R < 2 ^ 64 = value_near R (len R d) i so.1.2 near in
    move ! (6 ∷ 3 ∷ 0 ∷ 2 ∷ []) $ group ! 4 $
    use1 𝓛 (later (‵ (F (sd.block_life ∷ t.life)) ⊛ ‵ (flft t.life s)))
    (finds 𝓛 R LR sync.shared (placed d t b (o + 0) sd i k e pb low refl at_e at_b) named_so x s) $
    await ! tt $ split ! $
    move ! (1 ∷ 3 ∷ []) $
    returns_token ! κ t.life q s $ await ! tt $
    move ! (2 ∷ 1 ∷ []) $
    use2 𝓛 (‵ (F κ)) ((LR.shr_laws x pb e).mono M 𝓤 𝓛 κ (sd.block_life ∷ t.life)) $ hide ! $
    -- [the value; κ's token; what is told; the others]
    sets ! (of_opd ! (get ! refl)) refl (tt, tt) $ first ! $ blocks ! $ sets ! (of_opd ! (get ! refl)) refl (tt, tt) $
    sets ! (is ! (bin ! (get ! refl) (size_word !) (record {
      fits = subst (λ (n : ℕ). n < 2 ^ 64) (sym (uncapped i (stride R) close)) close;
    }))
    (ap (vint w64) (uncapped i (stride R) close)))
    refl (tt, record { fits = close }) $
    sets ! (bin ! (get ! refl) (get ! refl) tt) refl (tt, tt) $
    sets_last ! (addr ! (through ! refl (stop !))) refl (tt, tt) $
    exec ! 𝓣.C 𝓣.Λ Ev (after 3 fn.body) (at_ret Ev Post) $
    sets ! (of_opd ! (get ! refl)) refl (tt, tt) $
    move ! (1 ∷ 3 ∷ []) $ join ! $ move ! (1 ∷ []) $ feq_i ! _ (vptr pb e ∷ []) _ refl $ fjoin ! $
    knows ! (x ≡ x) refl $ nothing ! $ nothing ! $
    fjoin ! $ nothing ! $ fjoin ! $ nothing ! $ fjoin ! $
    returns ! (look_at ! 0 refl) $ free_all ! refl $ keep ! (3 ∷ 0 ∷ 2 ∷ 1 ∷ []) $
    by ! (leaves 𝓛 En hs c y (vptr pb e) (record { ref_ptr = (pb, e); now = x })
    (tt, (tt, (tt, tt))) (tt, (tt, (tt, tt)))))))))))))))))))
