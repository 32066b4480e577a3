-- `look` is one load of the word with the chunk's flags. It copies what is known of each slot whose flag
-- is set.
use Rattle.thread_local_base.proofs.Names.{◌≡◌, ℕ, ◌+◌, ◌*◌, ◌^◌, ◌<◌, List, [], ◌∷◌, length, refl, sym, ap, ◌∙◌}
use Rattle.thread_local_base.proofs.Names.{subst, arith, lit<, w64, a_type, named, Val, vint, vptr}
use Rattle.thread_local_base.proofs.Names.{inst_fn, SProp, ent, sep, via, Lft, Share, Fml, ftrue}
use Rattle.thread_local_base.proofs.Names.{fsep, flft, fbor, sem, ‵, raw, ◌⊛◌, mean, at_ret, ◌$◌}
use Rattle.thread_local_base.proofs.Names.{◌∵◌, !, qed, by, move, keep, drop, split, split3, join, fsplit, fsplit3}
use Rattle.thread_local_base.proofs.Names.{fjoin, fjoin3, fpack, fpick, pick, use0, use1, use3, await, rewrite, stop}
use Rattle.thread_local_base.proofs.Names.{fld, load, lit, size_word, of_opd, bin, no_more, and_then, first}
use Rattle.thread_local_base.proofs.Names.{blocks, exec, returns, enter, alloc_all, pass_all, free_all}
use Rattle.thread_local_base.proofs.Names.{look_at, get, through, sets, sets_last, lands_last, env, is, agg, sub}
use Rattle.thread_local_base.proofs.Names.{look_in, whole, tables, fact, yes, RattleType, owns, types_at, plain}
use Rattle.thread_local_base.proofs.Names.{Ptr, block_ptr, block_of, count_of, at_block, InBlock, nothing, heard}
use Rattle.thread_local_base.proofs.Names.{peeks, Is, shows, cell_at, param, layouts, RefOf, usize, shr_vals}
use Rattle.thread_local_base.proofs.Names.{shr_Tells, uint_vals, uint_Tells, Stays, stay_dropped, walk_of}
use Rattle.thread_local_base.proofs.Names.{Goes-dropped, proved, leaves, fm, after, param_laws}
use Rattle.std.proofs.Common.{◌≤◌, pow_mono, le_of_lt, true}
use base.Fml.{fres, fhide, fall}
use types.Run.{Calls-last}
use denote.Signature.{named_lft}
use denote.Steps.{looks, shuts}
use denote.Memory.{hidden_shr, shared_of}
use denote.Opens.{unhide}
use denote.Ref.{ShrRef}
use Rattle.thread_local_base.specs.Judged.{Shareable}
use denote.Struct.Lending.{lent_out}
use Rattle.std.specs.contracts.marker.PhantomData as marker
use Rattle.std.proofs.raw_atomic.Calls.{found, finds, loads, seq_cst}
use Rattle.std.specs.Sync.RawAtomic.{asks, always}
use Rattle.thread_local_base.specs.Bits.{is_set, is_set_in}
use Rattle.thread_local_base.specs.Place.{id_at}
use Rattle.thread_local_ids.specs.TokenViews.{TokenView}
use Rattle.thread_local_ids.specs.TokenLists.{AllOf, tell_each}
use Rattle.thread_local_ids.specs.contracts.tokens.told_list.Told as Told
use Rattle.thread_local_ids.proofs.TokenListLaws.{told_shown}
use Rattle.thread_local_buckets.specs.Slots.{stride, each, value_words, flag_word_at, word_offset, value_offset}
use Rattle.thread_local_buckets.proofs.Flags.{uncapped, value_near}
use Rattle.thread_local_buckets.proofs.Slots.{IsWordNear, word_is_near}
use Rattle.thread_local_shared_buckets.specs.Shared.{BucketView, Turn, StandingBlock, block_code, pinned_and_told, Sized}
use Rattle.thread_local_shared_buckets.specs.Shared.{first as first_id, bucket_invariant, row_owns, if_set, WereFlags, seen_as}
use Rattle.thread_local_shared_buckets.proofs.ChunkLooks as steps
use Rattle.thread_local_shared_buckets.proofs.ChunkLooks.{set_inside, bit_set_at}
use Rattle.thread_local_shared_buckets.proofs.SeenFields as seen
use Rattle.thread_local_shared_buckets.proofs.SeenFields.{seen_val, seen_good}
use Rattle.thread_local_shared_buckets.specs.contracts.seen.Seen as Seen
use Rattle.thread_local_shared_buckets.specs.contracts.row.Row as Row
use Rattle.thread_local_shared_buckets.specs.contracts.row.Row.look.{ended, clauses, Key.name as #self}
use Rattle.thread_local_shared_buckets.proofs.RowFields.{row_val, FieldsType, told, opened}
use Rattle.thread_local_shared_buckets.proofs.row.Row.look.Statement.{statement}
use Rattle.thread_local_shared_buckets.proofs.row.Row.look.Code as code
use Rattle.thread_local_base.proofs.Walking.{knows, lends_token, returns_token}

pub look_spec : {M : Type 1} → statement M
look_spec {M} 𝓤 𝓛 𝓜 𝓡 wired T L =
    let H = 𝓛.H in let 𝓣 = tables 𝓤 H 𝓜 𝓡 𝓡.env in let R : RattleType = param 0 T in let LR = param_laws 0 T L in
    let En = ended T in let c = clauses T 𝓛 𝓜.mem 𝓡.returns in let inst = layouts (a_type ∷ []) (T, tt) in
    let fn = inst_fn inst code.function in let row = plain (λ κs. Row.the_row (named_lft 4 1 tt κs) R) in
    let self = RefOf (0 ∷ []) tt row (λ _. tt) in let number = plain (λ _. usize) in
    let goes = Goes-dropped 𝓛 4 number yes (λ κs x f. refl) in
    let tolds = RefOf (2 ∷ []) tt (plain (λ _. Told.the_row R)) (λ _. tt) in
    let hs : Stays En.signature.params En.kept =
    (stay_dropped self yes, (stay_dropped number yes, (stay_dropped number yes, (stay_dropped tolds yes, tt)))) in
    proved 𝓛 En hs c 𝓜 𝓡
    (Goes-dropped 𝓛 4 self yes (λ κs x f. refl), (goes, (goes, (Goes-dropped 𝓛 4 tolds yes (λ κs x f. refl), tt))))
    (#self inst) fn (code.unfolded 𝓤 H 𝓜 𝓡 wired (T, tt))
    (λ κs. (shr_vals, (uint_vals w64, (uint_vals w64, (shr_vals, tt)))))
    (λ κs. (
      shr_Tells (named 0) κs.0 (Row.the_row (named_lft 4 1 tt κs) R),
      (uint_Tells w64, (uint_Tells w64, (shr_Tells (named 2) κs.1.1.0 (Told.the_row R), tt))),
    ))
    (λ κs qs bounds a gh are.
    let ℓ = named_lft 4 1 tt κs in let D : RattleType = FieldsType ℓ R in let b : ℕ = a.0.ref_ptr.0 in
    let o : ℕ = a.0.ref_ptr.1 in let κ : Lft = κs.0 in let β : Lft = κs.1.0 in let q : Share = qs.1.0 in let h = a.0.now in
    let p : Ptr = h.at in let d : BucketView = h.of in
    let c₀ : ℕ = a.1.0 in
    let k : ℕ = a.1.1.0 in
    let many : ℕ = 2 ^ d.bucket in
    let rest : Fml = fsep (flft κs.1.1.0 qs.1.1.0) (fsep (flft κs.1.1.1.0 qs.1.1.1.0) ftrue) in
    let ts : List (TokenView R.Denot) = a.1.1.1.0.now in
    let pt : Val = vptr a.1.1.1.0.ref_ptr.0 a.1.1.1.0.ref_ptr.1 in
    let pb : ℕ = block_of p in let w : ℕ = word_offset R many (count_of p) c₀ in let G : RattleType = Seen.the_row ℓ R in
    let Of : G.Denot → Type 0 = λ s. (◌≡◌ {A = BucketView} s.of d) × (◌≡◌ {A = List ℕ} s.names h.names) × (s.chunk ≡ c₀) in
    let Inside : G.Denot → Type 0 = λ s.
    (bit : ℕ) → bit < 64 → is_set s.flags bit ≡ true → c₀ * 64 + bit < many in
    let Tells : G.Denot → Type 0 = λ s.
    AllOf d.sharing (λ p.
    (bit : ℕ) → bit < 64 → c₀ * 64 + bit < many → p.id ≡ id_at d.bucket (c₀ * 64 + bit) → is_set s.flags bit ≡ true)
    ts in
    let y : (walk_of 𝓛 En hs c).Ghost =
    ((κs, qs, bounds, a, (vptr b o ∷ [], (vint w64 c₀ ∷ [], (vint w64 k ∷ [], (pt ∷ [], tt))))), gh) in
    let Post : Val → SProp 𝓤 = (walk_of 𝓛 En hs c).post y in
    qed 𝓛 (((‵ (flft κ qs.0) ⊛ ‵ (flft β q) ⊛ ‵ rest)
    ⊛ ‵ (owns (types_at En.signature.params κs) a y.0.4))
    ∷ raw (fact 𝓤 _) ∷ raw (fact 𝓤 (Shareable R)) ∷ raw (fact 𝓤 (d.bucket < 63))
    ∷ raw (fact 𝓤 (c₀ * 64 < many))
    ∷ raw (fact 𝓤 (k ≡ flag_word_at R many c₀)) ∷ []) ∵
    keep ! (2 ∷ 3 ∷ 4 ∷ 5 ∷ 0 ∷ []) $ heard ! (Shareable R) (λ shareable. heard ! (d.bucket < 63) (λ low. heard ! (c₀ * 64 < many) (λ near.
    heard ! (k ≡ flag_word_at R many c₀) (λ numbered. split ! $ split3 ! $ move ! (3 ∷ []) $
    fsplit3 ! $ move ! (2 ∷ []) $ fsplit3 ! $ move ! (1 ∷ []) $ fsplit ! $ move ! (4 ∷ []) $ fsplit ! $
    keep ! (3 ∷ 1 ∷ 7 ∷ 8 ∷ 9 ∷ []) $ unhide ! $
    use1 𝓛 (‵ (tell_each R ts)) (told_shown 𝓛 R ts a.1.1.1.0.ref_ptr.0 a.1.1.1.0.ref_ptr.1 κs.1.1.0) $ move ! (1 ∷ 2 ∷ 3 ∷ 4 ∷ []) $
    -- [the `&`; κ's token; β's; the others; what the tokens tell]
    enter ! _ _ _ _ _ $ alloc_all ! (λ l.
    pass_all ! refl
    ((tt, tt), ((tt, record { fits = are.1.0.1 }), ((tt, record { fits = are.1.1.0.1 }), ((tt, tt), tt)))) $
    let Ev = env fn.locals l in
    use1 𝓛 (‵ (hidden_shr D κ (p, (record {}, tt)) b o) ⊛ ‵ (fhide (row_owns R d h.names β p)))
    (lent_out 𝓛 (Row.struct ℓ R)
    (Row.the_codes T.Denot R.coded (marker.the_row (ShrRef ℓ.mir ℓ.lft R)).coded)
    (Row.the_heap β R) (Row.the_lent β R) κ h b o) $
    split ! $ move ! (1 ∷ []) $ unhide ! $ fpick ! (λ z.
    let t : Turn = z.0 in
    let sd : StandingBlock = z.1 in
    let J : Fml = fbor t.life (bucket_invariant R d t z.2 z.3) in
    let Which : Fml = fres t.which (block_code sd) in
    fsplit3 ! $ fpick ! (λ so. drop ! $ fsplit ! $ move ! (2 ∷ []) $ fsplit ! $ drop ! $ fsplit3 ! $ fpick ! (λ long.
    drop ! $
    -- [which; before the block's own; before; the invariant; the fields; κ's token; β's; the
    -- others]
    let inb : InBlock p = subst InBlock so.0 long.1.0 in let at : p ≡ block_ptr pb (count_of p) = at_block p inb in
    let here : IsWordNear R many c₀ = word_is_near R many c₀ long.1.2 (let n : c₀ * 64 < many = near in omega arith) in
    let number_at : k ≡ value_words R many + c₀ = numbered ∙ here.number in
    let small : k * 8 < 2 ^ 64 = subst (λ (m : ℕ). m * 8 < 2 ^ 64) (sym number_at) here.near in
    let first_fits : c₀ * 64 * stride R < 2 ^ 64 = value_near R many (c₀ * 64) long.1.2 near in
    let chunk_fits : c₀ * 64 < 2 ^ 64 = (let few : many ≤ 2 ^ 63 = pow_mono (le_of_lt low) in omega arith) in
    let values : Ptr = block_ptr pb (value_offset R (count_of p) (c₀ * 64)) in
    let at_b : block_of sd.at ≡ pb = ap block_of so.0 in
    let Copies : ℕ → Fml = steps.copies 𝓛 R LR shareable d t z.2 z.3 sd pb at_b c₀ near ts in
    move ! (2 ∷ 6 ∷ []) $
    lends_token ! 𝓜 𝓡 β t.life q $ await ! tt $ pick ! (λ s. split ! $
    -- [the life's token; the way back; which; before the block's own; the invariant; the fields;
    -- κ's token; the others]
    move ! (5 ∷ 6 ∷ []) $
    looks ! tt D (opened ℓ R 𝓛) (p, (record {}, tt)) b o (λ u vs. move ! (1 ∷ []) $
    peeks ! D (Is D) (shows 𝓛 D) (p, (record {}, tt)) vs (λ is_so.
    let ev : vs ≡ row_val (block_ptr pb (count_of p)) ∷ [] = told ℓ R p vs is_so ∙ ap (λ (r : Ptr). row_val r ∷ []) at in
    rewrite ! 1 (λ (ws : List Val). ‵ (cell_at u D.mir ws b o)) ev refl $
    sets ! (of_opd ! (load ! (through ! refl (fld ! refl (stop !))) (look_in ! 1 (sub ! 0 refl (whole !))))) refl (tt, tt) $
    rewrite ! 1 (λ (ws : List Val). ‵ (cell_at u D.mir ws b o)) (sym ev) refl $
    move ! (1 ∷ 0 ∷ 2 ∷ []) $ shuts ! tt D u (p, (record {}, tt)) vs b o $
    -- [κ's token; the fields; the life's token; the way back; which; before the block's own; the
    -- invariant; the others]
    sets ! (bin ! (get ! refl) (lit ! tt) (record { fits = chunk_fits })) refl
    (tt, record { fits = chunk_fits }) $
    first ! $ blocks ! $ sets ! (of_opd ! (get ! refl)) refl (tt, tt) $
    sets ! (is ! (bin ! (get ! refl) (size_word !) (record {
      fits = subst (λ (m : ℕ). m < 2 ^ 64) (sym (uncapped (c₀ * 64) (stride R) first_fits)) first_fits;
    }))
    (ap (vint w64) (uncapped (c₀ * 64) (stride R) first_fits)))
    refl (tt, record { fits = first_fits }) $
    sets_last ! (bin ! (get ! refl) (get ! refl) tt) refl (tt, tt) $
    exec ! 𝓣.C 𝓣.Λ Ev (after 3 fn.body) (at_ret Ev Post) $
    sets ! (of_opd ! (get ! refl)) refl (tt, tt) $
    first ! $ blocks ! $ sets ! (of_opd ! (get ! refl)) refl (tt, tt) $
    sets ! (is ! (bin ! (get ! refl) (lit ! tt) (record { fits = small }))
    (ap (λ (m : ℕ). vint w64 (m * 8)) number_at))
    refl (tt, record { fits = here.near }) $
    sets_last ! (bin ! (get ! refl) (get ! refl) tt) refl (tt, tt) $
    exec ! 𝓣.C 𝓣.Λ Ev (after 5 fn.body) (at_ret Ev Post) $
    sets ! (of_opd ! (get ! refl)) refl (tt, tt) $
    first ! $ blocks ! $
    sets ! (agg ! (and_then ! (lit ! tt) (no_more !))) refl (tt, (record { fits = lit< tt }, tt)) $
    move ! (4 ∷ 8 ∷ []) $ join ! $ move ! (6 ∷ 3 ∷ 0 ∷ []) $
    let out : ℕ → Fml = λ n. fsep (flft t.life s) (Copies n) in
    use3 𝓛 (raw (𝓣.C _ (vptr pb w ∷ seq_cst ∷ []) (λ v. mean 𝓛 (found out v))))
    (via 𝓤 _ (subst (λ (u : Ptr).
    ent 𝓤 (sep 𝓤 (𝓛.A.inv J) (sep 𝓤 (𝓛.A.lft t.life s) (sep 𝓤 (sem 𝓛 Which) (sem 𝓛 (tell_each R ts)))))
    (asks 𝓛 (block_ptr pb (word_offset R many (count_of u) c₀)) (λ n. n) always out))
    so.0
    (steps.looks 𝓛 R LR shareable d t z.2 z.3 sd pb at_b c₀ near ts s))
    (loads 𝓛 𝓜 𝓡 (code.calls-std::sync::atomic::raw::load 𝓡.env wired) (block_ptr pb w) out)) $
    Calls-last ! (fm 𝓛 𝓜 𝓡) (found out)
    (and_then ! (get ! refl) (and_then ! (get ! refl) (no_more !))) (λ v.
    finds ! out (λ n fits.
    lands_last ! refl (tt, record { fits = fits }) $
    exec ! 𝓣.C 𝓣.Λ Ev (after 7 fn.body) (at_ret Ev Post) $
    sets ! (of_opd ! (get ! refl)) refl (tt, record { fits = fits }) $
    fsplit ! $ move ! (0 ∷ 4 ∷ []) $
    returns_token ! β t.life q s $ await ! tt $
    -- [β's token; what was seen; κ's token; the fields; before the block's own; the others]
    move ! (0 ∷ 5 ∷ []) $ join ! $ move ! (2 ∷ 0 ∷ []) $ join ! $
    -- [the tokens; the copies; the fields; before the block's own]
    sets ! (agg ! (no_more !)) refl (tt, tt) $
    sets ! (agg ! (and_then ! (get ! refl) (and_then ! (get ! refl) (and_then ! (get ! refl) (no_more !)))))
    refl (seen_good values n fits) $
    move ! (1 ∷ 3 ∷ []) $ fpick ! (λ ns. fsplit ! $ fpick ! (λ are. drop ! $
    let κ' : Lft = sd.block_life ∷ t.life in
    let same : ◌≡◌ {A = Ptr × List ℕ} (sd.at, sd.names) (p, h.names) = λ j. (so.0 j, so.1 j) in
    rewrite ! 0 (λ (v : Ptr × List ℕ).
    ‵ (each (λ η i.
    if_set R (λ x.
    fsep (pinned_and_told R d.sharing (i + first_id R d) η x)
    (fall (Shareable R) (λ _. shared_of R x pb (value_offset R (count_of v.0) i) κ')))
    (is_set_in ns i)) v.1 0)) same refl $
    -- [the copies; before the block's own; the tokens; the fields]
    move ! (1 ∷ 0 ∷ []) $ nothing ! $
    fpack ! (WereFlags R d p h.names c₀ n values ns) (λ _. ftrue)
    (are.0, are.1, subst (λ (ms : List ℕ). length ms ≡ many) so.1 long.0, subst (λ (u : Ptr). Sized R many u) so.0 long.1, shareable, refl) $
    fjoin3 ! $ fpack ! (Lft × List ℕ) (seen_as R d p h.names c₀ n values β) (κ', ns) $
    use0 𝓛 (‵ ((seen.FieldsType ℓ R).own_val (seen.fields_of ℓ R values n) (seen_val values n ∷ []))) (seen.made ℓ R 𝓛 values n fits) $
    fjoin ! $
    let r : G.Denot = record { values = values; flags = n; marker = record {}; of = d; names = h.names; chunk = c₀; at = p } in
    let v : Val = seen_val values n in
    knows ! (Tells r) (λ name i x low same bit small inside at.
    bit_set_at ns c₀ n bit are.0 small (are.2 (c₀ * 64 + bit) inside name i x low same (omega (arith, at)))) $
    knows ! (Inside r) (λ bit small set. set_inside R many c₀ n bit ns are.0 are.1 small set) $
    join ! $ knows ! (Of r) (refl, refl, refl) $ join ! $
    nothing ! $ nothing ! $ fjoin ! $ nothing ! $ fjoin ! $ nothing ! $ fjoin ! $ nothing ! $ fjoin ! $
    returns ! (look_at ! 0 refl) $ free_all ! refl $ keep ! (3 ∷ 0 ∷ 2 ∷ 1 ∷ []) $
    by ! (leaves 𝓛 En hs c y v r (tt, (tt, (tt, (tt, tt)))) (tt, (tt, (tt, (tt, tt)))))))))))))))))))))
