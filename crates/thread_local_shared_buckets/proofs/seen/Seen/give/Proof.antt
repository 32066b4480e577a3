-- `give` reads the value of a slot whose flag was seen set, and copies what is told of the slot's id.
use Rattle.thread_local_base.proofs.Names.{◌≡◌, ℕ, ◌+◌, ◌*◌, ◌^◌, ◌<◌, List, [], ◌∷◌, length, refl, sym, ap, ◌∙◌}
use Rattle.thread_local_base.proofs.Names.{subst, arith, w64, a_type, named, Val, vint, vptr}
use Rattle.thread_local_base.proofs.Names.{inst_fn, SProp, Lft, Share, Fml, ftrue}
use Rattle.thread_local_base.proofs.Names.{fsep, flft, sem, ‵, raw, ◌⊛◌, at_ret, ◌$◌}
use Rattle.thread_local_base.proofs.Names.{◌∵◌, !, qed, by, move, keep, drop, split, split3, join, fsplit, fsplit3}
use Rattle.thread_local_base.proofs.Names.{fjoin, fpick, use0, use1, use2, rewrite, feq_i, stop}
use Rattle.thread_local_base.proofs.Names.{emp, fact_i, Option, fld, load, addr, size_word, of_opd, bin, no_more, and_then, first}
use Rattle.thread_local_base.proofs.Names.{blocks, exec, returns, enter, alloc_all, pass_all, free_all}
use Rattle.thread_local_base.proofs.Names.{look_at, get, through, sets, sets_last, env, is, agg, sub}
use Rattle.thread_local_base.proofs.Names.{look_in, whole, tables, fact, yes, RattleType, owns, types_at, plain}
use Rattle.thread_local_base.proofs.Names.{Ptr, block_ptr, block_of, count_of, nothing, heard}
use Rattle.thread_local_base.proofs.Names.{peeks, Is, shows, cell_at, param, layouts, RefOf, usize, shr_vals}
use Rattle.thread_local_base.proofs.Names.{shr_Tells, uint_vals, uint_Tells, Stays, stay_dropped, walk_of}
use Rattle.thread_local_base.proofs.Names.{Goes-dropped, proved, leaves, after, param_laws}
use Rattle.std.proofs.Common.{Bool, true, false, ⊎_elim, get_or, ◌≤◌, mul-le-mul_right}
use base.Fml.{fhide}
use base.Logic.{all, all_e}
use denote.Signature.{named_lft}
use denote.Steps.{looks, shuts}
use denote.Memory.{hidden_shr, shared_of}
use denote.Opens.{unhide, hide}
use denote.Ref.{ShrRef}
use denote.Struct.Tuple.{Tuple}
use Rattle.thread_local_base.specs.Judged.{Shareable}
use denote.Struct.Lending.{lent_out}
use Rattle.std.specs.contracts.marker.PhantomData as marker
use Rattle.std.proofs.lemmas.Bool.{cases_lt}
use Rattle.thread_local_base.specs.Bits.{is_set, is_set_in}
use Rattle.thread_local_base.proofs.Pairs.{both, pair_in}
use Rattle.thread_local_buckets.specs.Slots.{stride, value_offset}
use Rattle.thread_local_buckets.proofs.Flags.{uncapped, value_near}
use Rattle.thread_local_base.specs.Place.{id_at}
use Rattle.thread_local_ids.specs.contracts.tokens.token.Token as Token
use Rattle.std.proofs.Common.{◌-◌, Some}
use Rattle.thread_local_ids.specs.Told.{tells}
use Rattle.thread_local_ids.proofs.TokenFields.{id_val, id_good, token_made}
use Rattle.thread_local_shared_buckets.specs.Shared.{BucketView, name_at, first as first_id, if_set, seen_value, seen_slot, seen_owns}
use Rattle.thread_local_shared_buckets.proofs.ChunkLooks.{set_at_bit, behind_first}
use Rattle.thread_local_shared_buckets.proofs.Inside.{name_at-get_or}
use Rattle.thread_local_buckets.proofs.Each.{Put, each_at}
use Rattle.thread_local_shared_buckets.specs.contracts.seen.Seen as Seen
use Rattle.thread_local_shared_buckets.specs.contracts.seen.Seen.give.{ended, clauses}
use Rattle.thread_local_shared_buckets.specs.contracts.seen.Seen.give.Key.{name as #self}
use Rattle.thread_local_shared_buckets.proofs.SeenFields.{seen_val, FieldsType, fields_of, told, opened}
use Rattle.thread_local_shared_buckets.proofs.seen.Seen.give.Statement.{statement}
use Rattle.thread_local_shared_buckets.proofs.seen.Seen.give.Code as code

pub give_spec : {M : Type 1} → statement M
give_spec {M} 𝓤 𝓛 𝓜 𝓡 wired T L =
    let H = 𝓛.H in
    let 𝓣 = tables 𝓤 H 𝓜 𝓡 𝓡.env in
    let R : RattleType = param 0 T in
    let LR = param_laws 0 T L in
    let En = ended T in
    let c = clauses T 𝓛 𝓜.mem 𝓡.returns in
    let inst = layouts (a_type ∷ []) (T, tt) in
    let fn = inst_fn inst code.function in
    let row = plain (λ κs. Seen.the_row (named_lft 3 1 tt κs) R) in
    let self = RefOf (0 ∷ []) tt row (λ _. tt) in
    let number = plain (λ _. usize) in
    let goes = Goes-dropped 𝓛 3 number yes (λ κs x f. refl) in
    let hs : Stays En.signature.params En.kept =
    (stay_dropped self yes, (stay_dropped number yes, (stay_dropped number yes, tt))) in
    proved 𝓛 En hs c 𝓜 𝓡 (Goes-dropped 𝓛 3 self yes (λ κs x f. refl), (goes, (goes, tt)))
    (#self inst) fn (code.unfolded 𝓤 H 𝓜 𝓡 wired (T, tt))
    (λ κs. (shr_vals, (uint_vals w64, (uint_vals w64, tt))))
    (λ κs. (shr_Tells (named 0) κs.0 (Seen.the_row (named_lft 3 1 tt κs) R), (uint_Tells w64, (uint_Tells w64, tt))))
    (λ κs qs bounds a gh are.
    let ℓ = named_lft 3 1 tt κs in
    let D : RattleType = FieldsType ℓ R in
    let b : ℕ = a.0.ref_ptr.0 in
    let o : ℕ = a.0.ref_ptr.1 in
    let κ : Lft = κs.0 in
    let β : Lft = κs.1.0 in
    let q : Share = qs.1.0 in
    let h = a.0.now in
    let p : Ptr = h.at in
    let d : BucketView = h.of in
    let bit : ℕ = a.1.0 in
    let id : ℕ = a.1.1.0 in
    let i : ℕ = h.chunk * 64 + bit in
    let v : Ptr = h.values in
    let many : ℕ = 2 ^ d.bucket in
    let rest : Fml = fsep (flft κs.1.1.0 qs.1.1.0) ftrue in
    let pb : ℕ = block_of p in
    let e : ℕ = value_offset R (count_of p) i in
    let G : RattleType = ShrRef (named 1) β R in
    let S : RattleType = Token.the_row R in
    let Pair : RattleType = Tuple (S ∷ G ∷ []) in
    let IsTold : Pair.Denot → Type 0 = λ z.
    (◌≡◌ {A = Option ℕ} z.0.sharing d.sharing) × (z.0.id ≡ id_at d.bucket i) × (z.0.value ≡ z.1.now) in
    let y : (walk_of 𝓛 En hs c).Ghost = ((κs, qs, bounds, a, (vptr b o ∷ [], (vint w64 bit ∷ [], (vint w64 id ∷ [], tt)))), gh) in
    let Post : Val → SProp 𝓤 = (walk_of 𝓛 En hs c).post y in
    let Within : Type 0 = bit < 64 in
    let Set : Type 0 = is_set h.flags bit ≡ true in
    let At : Type 0 = id ≡ id_at d.bucket i in
    let Near : Type 0 = id < 2 ^ 63 - 1 in
    qed 𝓛 (((‵ (flft κ qs.0) ⊛ ‵ (flft β q) ⊛ ‵ rest)
    ⊛ ‵ (owns (types_at En.signature.params κs) a y.0.4))
    ∷ raw (fact 𝓤 _) ∷ raw (fact 𝓤 Within) ∷ raw (fact 𝓤 Set) ∷ raw (fact 𝓤 At) ∷ raw (fact 𝓤 Near) ∷ []) ∵
    keep ! (2 ∷ 3 ∷ 4 ∷ 5 ∷ 0 ∷ []) $ heard ! Within (λ small. heard ! Set (λ set. heard ! At (λ at_id. heard ! Near (λ low_id. split ! $ split3 ! $ move ! (3 ∷ []) $
    fsplit3 ! $ fsplit ! $ keep ! (1 ∷ 4 ∷ 5 ∷ 6 ∷ []) $
    enter ! 𝓣.C 𝓣.Λ fn (vptr b o ∷ vint w64 bit ∷ vint w64 id ∷ []) Post $ alloc_all ! (λ l.
    pass_all ! refl ((tt, tt), ((tt, record { fits = are.1.0.1 }), ((tt, record { fits = are.1.1.0.1 }), tt))) $
    let Ev = env fn.locals l in
    let Owns : Fml = seen_owns R d p h.names h.chunk h.flags v β in
    use1 𝓛 (‵ (hidden_shr D κ (fields_of ℓ R v h.flags) b o) ⊛ ‵ (fhide Owns))
    (lent_out 𝓛 (Seen.struct ℓ R)
    (Seen.the_codes T.Denot R.coded (marker.the_row (ShrRef ℓ.mir ℓ.lft R)).coded)
    (Seen.the_heap β R) (Seen.the_lent β R) κ h b o) $
    split ! $ move ! (1 ∷ []) $ unhide ! $ fpick ! (λ z. fsplit3 ! $ fpick ! (λ so. drop ! $
    -- [before; the slots; the fields; κ's token; β's; the others]
    let flag : is_set_in z.1 i ≡ true = set_at_bit z.1 h.chunk h.flags bit so.0 small set in
    let near : i < many =
    ⊎_elim (λ (inside : i < many). inside)
    (λ (past : many ≤ i). let never : true ≡ false = sym flag ∙ so.1.2 i past in cc) (cases_lt i many) in
    let start : ℕ = value_offset R (count_of p) (h.chunk * 64) in
    let at : v ≡ block_ptr pb start = so.5 in
    let all_fits : i * stride R < 2 ^ 64 = value_near R many i so.3.2 near in
    let least : bit * stride R ≤ i * stride R = mul-le-mul_right (stride R) (omega arith) in
    let value_fits : bit * stride R < 2 ^ 64 = omega arith in
    let at_e : bit * stride R + start ≡ e = behind_first (stride R) (count_of p) h.chunk bit in
    let low : i < length h.names = subst (λ (n : ℕ). i < n) (sym so.2) near in
    let F : ℕ → ℕ → Fml = seen_slot R d p z.0 z.1 in
    move ! (1 ∷ []) $
    use1 𝓛 (‵ (F (get_or h.names i 0) i) ⊛ raw (all 𝓤 (Put 𝓛 F h.names 0 i i)))
    (each_at 𝓛 F h.names 0 i i 0 (omega arith) low) $
    split ! $
    let same : ◌≡◌ {A = ℕ × Bool} (get_or h.names i 0, is_set_in z.1 i) (name_at h.names i, true) =
    λ j. (name_at-get_or h.names i j, flag j) in
    rewrite ! 0 (λ (w : ℕ × Bool). ‵ (if_set R (seen_value R d p z.0 w.0 i) w.1)) same refl $
    fpick ! (λ x. fsplit ! $ fsplit ! $
    -- [the pin; what is told; opened; the way back; before; the fields; κ's token; β's; the others]
    let Lent : Lft → Fml = shared_of R x pb e in
    move ! (2 ∷ []) $
    use1 𝓛 (‵ (Lent z.0)) (all_e 𝓤 (λ (_ : Shareable R). sem 𝓛 (Lent z.0)) so.4) $
    move ! (4 ∷ 0 ∷ []) $
    use2 𝓛 (‵ (Lent β)) ((LR.shr_laws x pb e).mono M 𝓤 𝓛 β z.0) $ hide ! $
    move ! (3 ∷ []) $ drop ! $
    -- [the value; the pin; what is told; the fields; κ's token; β's; the others]
    move ! (3 ∷ 4 ∷ []) $
    looks ! tt D (opened ℓ R 𝓛) (fields_of ℓ R v h.flags) b o (λ u vs. move ! (1 ∷ []) $
    peeks ! D (Is D) (shows 𝓛 D) (fields_of ℓ R v h.flags) vs (λ is_so.
    let ev : vs ≡ seen_val (block_ptr pb start) h.flags ∷ [] =
    told ℓ R v h.flags vs is_so ∙ ap (λ (r : Ptr). seen_val r h.flags ∷ []) at in
    rewrite ! 1 (λ (ws : List Val). ‵ (cell_at u D.mir ws b o)) ev refl $
    sets ! (of_opd ! (load ! (through ! refl (fld ! refl (stop !))) (look_in ! 1 (sub ! 0 refl (whole !))))) refl (tt, tt) $
    rewrite ! 1 (λ (ws : List Val). ‵ (cell_at u D.mir ws b o)) (sym ev) refl $
    move ! (1 ∷ 0 ∷ 2 ∷ []) $ shuts ! tt D u (fields_of ℓ R v h.flags) vs b o $
    -- [κ's token; the fields; the value; the pin; what is told; β's token; the others]
    move ! (5 ∷ 6 ∷ []) $ join ! $ move ! (1 ∷ 0 ∷ []) $ join ! $ move ! (2 ∷ []) $
    -- [the value; the tokens; the fields; the pin; what is told]
    let r : G.Denot = record { ref_ptr = (pb, e); now = x } in
    let w₁ : S.Denot = record { sharing = d.sharing; id = id; value = x } in
    let u₁ : Val = both (id_val id) (vptr pb e) in
    let fits : id < 2 ^ 64 = omega (arith, low_id) in
    first ! $ blocks ! $
    sets !
    (is ! (bin ! (get ! refl) (size_word !) (record {
      fits = subst (λ (k : ℕ). k < 2 ^ 64) (sym (uncapped bit (stride R) value_fits)) value_fits;
    }))
    (ap (vint w64) (uncapped bit (stride R) value_fits)))
    refl (tt, record { fits = value_fits }) $
    sets ! (is ! (bin ! (get ! refl) (get ! refl) tt) (ap (vptr pb) at_e)) refl (tt, tt) $
    sets_last ! (addr ! (through ! refl (stop !))) refl (tt, tt) $
    exec ! 𝓣.C 𝓣.Λ Ev (after 2 fn.body) (at_ret Ev Post) $
    sets ! (of_opd ! (get ! refl)) refl (tt, tt) $
    sets ! (agg ! (no_more !)) refl (tt, tt) $
    sets ! (agg ! (and_then ! (get ! refl) (and_then ! (get ! refl) (no_more !)))) refl (id_good id fits) $
    sets ! (of_opd ! (get ! refl)) refl (id_good id fits) $
    sets ! (agg ! (and_then ! (get ! refl) (and_then ! (get ! refl) (no_more !)))) refl
    (tt, ((record { fits = fits }, (tt, tt)), (tt, tt))) $
    feq_i ! (List Val) (vptr pb e ∷ []) (vptr pb e ∷ []) refl $ fjoin ! $
    -- [the `&`; the tokens; the fields; the pin; what is told]
    move ! (4 ∷ []) $
    let at_first : i + first_id R d ≡ id = omega (arith, at_id) in
    rewrite ! 0 (λ (k : ℕ). ‵ (tells R d.sharing k (Some x))) at_first refl $
    use1 𝓛 (‵ (S.own_val w₁ (id_val id ∷ []))) (token_made R 𝓛 w₁ low_id) $
    pair_in S G ! w₁ r (id_val id) (vptr pb e) $
    -- [the pair; the tokens; the fields; the pin]
    use0 𝓛 (raw (fact 𝓤 (IsTold (w₁, r))))
    (fact_i 𝓤 (IsTold (w₁, r)) (emp 𝓤) (refl, at_id, refl)) $
    move ! (1 ∷ []) $
    nothing ! $ nothing ! $ fjoin ! $ nothing ! $ fjoin ! $ nothing ! $ fjoin ! $
    returns ! (look_at ! 0 refl) $ free_all ! refl $ keep ! (3 ∷ 0 ∷ 1 ∷ 2 ∷ []) $
    by ! (leaves 𝓛 En hs c y u₁ (w₁, r) (tt, (tt, (tt, tt))) (tt, (tt, (tt, tt)))))))))))))))
