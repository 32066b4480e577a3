-- `find` loads the bucket's pointer: at null, it takes the pass for the right. Else it loads the
-- word of the slot's flag, and takes what the slot holds.
use Rattle.thread_local_base.proofs.Names.{lit<, ◌≡◌, ℕ, ◌+◌, ◌^◌, [], ◌∷◌, refl, sym, ap, ◌∙◌, subst, true}
use Rattle.thread_local_base.proofs.Names.{a_type, Val, vptr, inst_fn, SProp, via, id⊢, Lft, Share}
use Rattle.thread_local_base.proofs.Names.{Fml, ftrue, fsep, flft, fbor, finv, sem, ‵, raw, ◌⊛◌, later, mean}
use Rattle.thread_local_base.proofs.Names.{at_ret, ◌$◌, ◌∵◌, !, qed, by, move, keep, drop, split, join, fsplit, fjoin}
use Rattle.thread_local_base.proofs.Names.{fpick, fpack, pick, use0, use1, use2, use3, await, rewrite, group, fld}
use Rattle.thread_local_base.proofs.Names.{stop, addr, lit, of_opd, no_more, and_then, first, blocks, exec}
use Rattle.thread_local_base.proofs.Names.{Calls-last, returns, enter, alloc_all, pass_all, free_all, look_at, get}
use Rattle.thread_local_base.proofs.Names.{through, sets, sets_last, size_word, lands_last, env, agg, sub}
use Rattle.thread_local_base.proofs.Names.{whole, tables, fact, RattleType, owns, types_at, plain}
use Rattle.thread_local_base.proofs.Names.{named_lft, Ptr, block_ptr, block_of, count_of, at_block, nothing, heard}
use Rattle.thread_local_base.proofs.Names.{param, bounded, Stays, stay_dropped, walk_of, Goes-dropped, proved, leaves}
use Rattle.thread_local_base.proofs.Names.{fm, found, finds, ◌*◌, ◌<◌, ◌≢◌, length, Bool, false, dnil, bin}
use Rattle.thread_local_base.proofs.Names.{branches, is, null_ptr, ptr_val, u64, after, uint_vals, uint_Tells, usize}
use Rattle.thread_local_base.proofs.Names.{yes, fsplit3, vint, w64}
use Rattle.std.proofs.Common.{◌⊎◌, inl, inr, ◌/◌, ◌%◌}
use base.Fml.{fres}
use base.Before.{before}
use types.Run.{skips, returns_within}
use types.Na.{before_dup}
use types.Part.{store_in}
use Rattle.thread_local_base.proofs.Names.{opens, closes, peeks, Is, shows, cell_at, stay_ref, Goes-ref, load, look_in, assigns, unit_lit, vunit, feq_i}
use Rattle.thread_local_base.proofs.Names.{mut_vals, mut_Tells, named, List, full_share, fjoin3}
use denote.RawPtr.{tests_null}
use denote.Param.Laws.{Laws, of_field}
use denote.Param.Shared.{copy_shared}
use denote.Struct.Field.{u64-field}
use denote.Struct.Laws.{u64-laws, u64-copy}
use Rattle.std.proofs.raw_atomic.Calls.{seq_cst, loads}
use Rattle.std.proofs.raw_atomic.PtrCalls as calls
use Rattle.std.proofs.raw_atomic.PtrCalls.{seq_cst_good}
use Rattle.thread_local_ids.specs.Rights.{right_owns}
use Rattle.thread_local_buckets.specs.Slots.{stride, value_words, word_offset, value_offset}
use Rattle.thread_local_buckets.proofs.Flags.{in_chunks, value_near}
use Rattle.thread_local_buckets.proofs.Slots.{IsWordNear, word_is_near, ptr_good}
use Rattle.thread_local_base.specs.Bits.{is_set}
use Rattle.thread_local_base.proofs.Word.{masked_fits, place_below, bit_fits, shifted_right}
use Rattle.thread_local_base.specs.Fact as facts
use Rattle.thread_local_shared_buckets.specs.Shared.{BucketView, Turn, StandingBlock, Sized, block_code, len, bucket_invariant, loaded}
use Rattle.thread_local_shared_buckets.proofs.Loads.{glimpse, reaches, reads}
use Rattle.thread_local_base.specs.Learnt.{Learnt, Unknown, Missing, Standing, Vacant, Holding, Finds}
use Rattle.thread_local_shared_buckets.specs.Known.{HasLooked, MayLook, looked_in_vain, state_by, state_of, found_as}
use Rattle.thread_local_shared_buckets.proofs.Learning.{known_as, not_missing, kept_as, state_by-fits, state_by-flag}
use Rattle.thread_local_shared_buckets.proofs.Learning.{finds_nothing, finds_slot, unfound, found as found_in}
use Rattle.thread_local_shared_buckets.specs.Claims.{ClaimFields, flag_word_of, claim_fields, IsOf, IsStateOf, claims_side}
use Rattle.thread_local_shared_buckets.specs.Claims.{value_at, has, has_slot, has_at, claim_owns}
use Rattle.thread_local_shared_buckets.specs.contracts.claimed.ClaimedSlot as claim
use Rattle.thread_local_shared_buckets.specs.contracts.claimed.ClaimedSlot.find.{ended, clauses, Key.name as #self}
use Rattle.thread_local_shared_buckets.proofs.Early.{comes}
use Rattle.thread_local_shared_buckets.proofs.ClaimSteps as steps
use Rattle.thread_local_shared_buckets.proofs.ClaimedFields.{Kept, kept_of, value_of, FieldsType, fields_of, told, made}
use Rattle.thread_local_shared_buckets.proofs.ClaimedFields.{number_in, spaced, spaced_is}
use Rattle.thread_local_shared_buckets.proofs.claimed.ClaimedSlot.find.Statement.{statement}
use Rattle.thread_local_shared_buckets.proofs.claimed.ClaimedSlot.find.Code as code
use Rattle.thread_local_base.proofs.Walking.{knows, lends_token, returns_token}
use Rattle.thread_local_shared_buckets.proofs.Inside.{placed}

word_laws : Laws u64
word_laws = of_field u64-field u64-laws refl (copy_shared u64-field u64-copy)

-- a claim that may look has the number of one that has found no bucket
still_none : {V : Type 0} (learnt : Learnt V) → MayLook learnt → state_of learnt ≡ 0
still_none Unknown may = refl
still_none Missing may = refl
still_none Standing may = absurd may
still_none Vacant may = absurd may
still_none (Holding v) may = absurd may

pub find_spec : {M : Type 1} → statement M
find_spec 𝓤 𝓛 𝓜 𝓡 wired X L =
    let H = 𝓛.H in let 𝓣 = tables 𝓤 H 𝓜 𝓡 𝓡.env in let R : RattleType = param 0 X in let En = ended X in
    let c = clauses X 𝓛 𝓜.mem 𝓡.returns in let inst = bounded (a_type ∷ []) (X, tt) dnil in
    let fn = inst_fn inst code.function in let closed = code.unfolded 𝓤 H 𝓜 𝓡 wired (X, tt) in
    let self = plain (λ κs. claim.the_row (named_lft 3 1 tt κs) R) in let number = plain (λ _. usize) in
    let hs : Stays En.signature.params En.kept =
    (stay_ref (0 ∷ []) tt self, (stay_dropped number yes, (stay_dropped number yes, tt))) in
    proved 𝓛 En hs c 𝓜 𝓡 (
      Goes-ref 𝓛 3 0 tt self,
      (Goes-dropped 𝓛 3 number yes (λ κs x f. refl), (Goes-dropped 𝓛 3 number yes (λ κs x f. refl), tt)),
    )
    (#self inst) fn closed
    (λ κs. (mut_vals, (uint_vals w64, (uint_vals w64, tt))))
    (λ κs. (mut_Tells (named 0) κs.0 (claim.the_row (named_lft 3 1 tt κs) R), (uint_Tells w64, (uint_Tells w64, tt))))
    (λ κs qs bounds a gh are.
    let h = a.0.now in let rb : ℕ = a.0.ref_ptr.0 in
    let ro : ℕ = a.0.ref_ptr.1 in
    let x : ℕ = a.1.0 in
    let num : ℕ = a.1.1.0 in
    let β : Lft = κs.1.0 in let q : Share = qs.1.0 in let others : Fml = fsep (flft κs.1.1.0 qs.1.1.0) ftrue in
    let ℓ = named_lft 3 1 tt κs in let G : RattleType = claim.the_row ℓ R in let D : RattleType = FieldsType ℓ R in
    let F₁ : G.Denot → Type 0 = λ r. r ≡ record h { at = r.at; state = r.state; learnt = r.learnt } in
    let F₂ : G.Denot → Type 0 = λ r. HasLooked r.learnt in
    let F₃ : G.Denot → Type 0 = λ r. h.learnt ≡ Missing → (r.learnt ≡ Missing) ⊎ (r.learnt ≡ Vacant) in
    let F₄ : G.Denot → Type 0 = λ r. r.reserved ≡ true → r.learnt ≢ Missing in
    let l₀ : Learnt X.Denot = h.learnt in
    let F₅ : G.Denot → Type 0 = λ r. Finds l₀ r.learnt in
    let gone : Learnt X.Denot = Missing in
    let w : Ptr = h.bucket in let wb : ℕ = block_of w in let wo : ℕ = count_of w in let i : ℕ = h.index in
    let pl : ClaimFields = claim_fields h.id i w h.at h.sharing h.word h.reserved in
    let y : (walk_of 𝓛 En hs c).Ghost = ((κs, qs, bounds, a, (vptr rb ro ∷ [], (vint w64 x ∷ [], (vint w64 num ∷ [], tt)))), gh) in
    let Post : Val → SProp 𝓤 = (walk_of 𝓛 En hs c).post y in
    qed 𝓛 (((‵ (flft κs.0 qs.0) ⊛ ‵ (fsep (flft β q) others)) ⊛ ‵ (owns (types_at En.signature.params κs) a y.0.4))
    ∷ raw (fact 𝓤 _) ∷ raw (fact 𝓤 (MayLook l₀)) ∷ raw (fact 𝓤 (x ≡ i))
    ∷ raw (fact 𝓤 (num ≡ flag_word_of R h.id)) ∷ []) ∵
    keep ! (2 ∷ 3 ∷ 4 ∷ 0 ∷ []) $ heard ! (MayLook l₀) (λ unseen. heard ! (x ≡ i) (λ is_index.
    heard ! (num ≡ flag_word_of R h.id) (λ numbered. split ! $ split ! $ move ! (2 ∷ []) $
    fsplit3 ! $ fsplit3 ! $ keep ! (1 ∷ 2 ∷ 5 ∷ 6 ∷ []) $
    enter ! _ _ _ _ _ $ alloc_all ! (λ l.
    pass_all ! refl (
      (tt, tt),
      ((tt, record { fits = are.1.0.1 }), ((tt, record { fits = are.1.1.0.1 }), tt)),
    ) $
    let Ev = env fn.locals l in
    opens ! tt G rb ro (λ ts. move ! (1 ∷ []) $ fsplit ! $
    peeks ! D (Is D) (shows 𝓛 D) (fields_of ℓ R (kept_of h)) ts (λ is_so. drop ! $
    -- [what the claim owns; its cell; the open borrow, in three entries; the other tokens]
    let Cell = λ (ws : List Val). ‵ (cell_at full_share G.mir ws rb ro) in
    rewrite ! 1 Cell (told ℓ R (kept_of h) ts is_so) refl $
    move ! (5 ∷ []) $ fsplit ! $ move ! (2 ∷ []) $ fsplit ! $ move ! (1 ∷ 3 ∷ []) $ fjoin ! $ move ! (1 ∷ 2 ∷ 0 ∷ []) $
    -- [what the claim owns; the token; the note and the other tokens; its cell; the open borrow]
    use1 𝓛 (‵ (claim_owns R β h.table pl h.learnt h.state)) (id⊢ 𝓤 _) $
    fsplit ! $ fpick ! (λ by_state. drop ! $ fpick ! (λ z. fsplit ! $ fpick ! (λ of. drop ! $ fsplit ! $
    move ! (1 ∷ []) $
    let d : BucketView = z.0 in let t : Turn = z.1 in
    let at : w ≡ block_ptr wb wo = at_block w of.0 in
    use1 𝓛 (‵ (fsep (facts.fact (h.at ≡ w)) (claims_side (looked_in_vain l₀) d.table t.pass h.id)))
    (unfound 𝓛 R d t β pl l₀ unseen) $
    fsplit ! $ fpick ! (λ leads. drop ! $
    -- [what it waits with; what is kept; the tokens]
    let J : Fml = fbor t.life (bucket_invariant R d t wb (wo + 0)) in
    let W : Fml = claims_side (looked_in_vain l₀) d.table t.pass h.id in
    let Pass : Fml = right_owns t.pass h.id in
    move ! (1 ∷ []) $ fsplit ! $
    use1 𝓛 (‵ (before β t.life) ⊛ ‵ (before β t.life)) (before_dup 𝓛 β t.life) $ split ! $
    use1 𝓛 (‵ (before β t.life) ⊛ ‵ (before β t.life)) (before_dup 𝓛 β t.life) $ split ! $
    move ! (0 ∷ 5 ∷ []) $
    lends_token ! 𝓜 𝓡 β t.life q $ await ! tt $ pick ! (λ s. split ! $
    -- [the life's token; the way back; before, twice; the invariant; what it waits with; the other
    -- tokens]
    move ! (4 ∷ []) $ use1 𝓛 (‵ (finv J) ⊛ ‵ (finv J)) (𝓛.invs.inv_dup J) $ split ! $
    use1 𝓛 (‵ (finv J) ⊛ ‵ (finv J)) (𝓛.invs.inv_dup J) $ split ! $
    let out : Ptr → Fml = λ p. fsep (flft t.life s) (glimpse 𝓛 R d t Pass W p) in
    sets !
    (is !
    (of_opd ! (load ! (through ! refl (fld ! refl (stop !))) (look_in ! 9 (sub ! 0 refl (whole !)))))
    (ap ptr_val (leads ∙ at)))
    refl (tt, tt) $
    first ! $ blocks ! $ sets ! (of_opd ! (get ! refl)) refl (tt, tt) $
    sets ! (addr ! (through ! refl (fld ! refl (stop !)))) refl (tt, tt) $
    sets ! (agg ! (and_then ! (lit ! tt) (no_more !))) refl seq_cst_good $
    move ! (0 ∷ 3 ∷ 7 ∷ []) $
    use3 𝓛 (raw (𝓣.C _ (vptr wb (wo + 0) ∷ seq_cst ∷ []) (λ u. mean 𝓛 (calls.found 𝓛 out u))))
    (via 𝓤 _ (reads 𝓛 R d t wb (wo + 0) s (sem 𝓛 W) Pass W
    (comes 𝓛 R d t wb (wo + 0) i h.id of.4 of.3 (looked_in_vain l₀)) (id⊢ 𝓤 _))
    (calls.loads 𝓛 𝓜 𝓡 (code.calls-std::sync::atomic::raw::ptr::load 𝓡.env wired) u64 word_laws
    (block_ptr wb (wo + 0)) out)) $
    Calls-last ! (fm 𝓛 𝓜 𝓡) (calls.found 𝓛 out)
    (and_then ! (get ! refl) (and_then ! (get ! refl) (no_more !))) (λ u.
    calls.finds_either ! out
    (lands_last ! refl (ptr_good null_ptr) $
    exec ! 𝓣.C 𝓣.Λ Ev (after 2 fn.body) (at_ret Ev Post) $ fsplit ! $ move ! (0 ∷ 4 ∷ []) $
    returns_token ! β t.life q s $ await ! tt $
    move ! (1 ∷ []) $ fsplit ! $ fpick ! (λ free. drop ! $
    -- [the pass; the token; the invariant, twice; before, twice; the other tokens]
    sets ! (of_opd ! (get ! refl)) refl (ptr_good null_ptr) $
    sets ! (bin ! (get ! refl) (lit ! tt) tt) refl (tt, tt) $ first ! $ branches ! (get ! refl)
    (λ _.
    let m : Kept = record { at = block_ptr wb wo; state = 0 } in
    let pl' : ClaimFields = claim_fields h.id i (block_ptr wb wo) (block_ptr wb wo) h.sharing h.word h.reserved in
    let r : G.Denot = record {
      at = block_ptr wb wo;
      state = 0;
      marker = record {};
      bucket = block_ptr wb wo;
      table = h.table;
      sharing = h.sharing;
      word = h.word;
      id = h.id;
      index = i;
      reserved = h.reserved;
      learnt = gone;
      left = h.left;
    } in
    sets ! (of_opd ! (unit_lit !)) refl (tt, tt) $
    let none_yet : h.state ≡ 0 = by_state ∙ still_none l₀ unseen in
    rewrite ! 7 (λ (k : Kept). Cell (value_of k ∷ [])) (λ j. record { at = (leads ∙ at) j; state = none_yet j }) refl $
    nothing ! $ fpack ! (block_ptr wb wo ≡ block_ptr wb wo) (λ _. ftrue) refl $ fjoin ! $
    move ! (4 ∷ 2 ∷ []) $ fjoin ! $ fjoin ! $ nothing ! $
    fpack ! (IsOf R h.table pl' d) (λ _. ftrue) (tt, of.1, of.2, of.3, of.4, of.5, of.6, of.7) $ fjoin ! $
    fpack ! (BucketView × Turn) (has_at R β h.table pl' gone) z $ nothing ! $ fpack ! (IsStateOf R 0 gone) (λ _. ftrue) refl $ fjoin ! $
    -- [what the claim owns; the token; the invariant; before; the note and the other tokens; ..]
    move ! (4 ∷ []) $ fsplit ! $ move ! (2 ∷ 0 ∷ []) $ fjoin ! $ move ! (0 ∷ 2 ∷ 3 ∷ 4 ∷ 1 ∷ []) $
    use0 𝓛 (‵ ((FieldsType ℓ R).own_val (fields_of ℓ R m) (value_of m ∷ [])))
    (made ℓ R 𝓛 m (lit< tt)) $
    fjoin ! $
    -- [what the claim owns; the token; the invariant; before; the other tokens; its cell; the open borrow]
    move ! (5 ∷ 0 ∷ 6 ∷ 7 ∷ 8 ∷ []) $ closes ! tt G r (value_of m ∷ []) rb ro $
    feq_i ! _ (vptr rb ro ∷ []) _ refl $ fjoin3 ! $
    nothing ! $ nothing ! $ fjoin ! $ nothing ! $ fjoin ! $ move ! (1 ∷ 0 ∷ []) $ fjoin ! $
    move ! (2 ∷ 5 ∷ []) $ fjoin ! $ move ! (2 ∷ 0 ∷ []) $ join ! $
    knows ! (F₅ r) (finds_nothing l₀ unseen) $
    knows ! (F₄ r) (λ is. let never : true ≡ false = sym is ∙ sym of.5 ∙ free in cc) $
    join ! $ knows ! (F₃ r) (λ _. inl refl) $ join ! $
    knows ! (F₂ r) tt $ join ! $
    knows ! (F₁ r) (λ k. record r { bucket = sym at k }) $ join ! $
    feq_i ! _ (vunit ∷ []) _ refl $
    returns_within ! Post refl (look_at ! 0 refl) $ free_all ! refl $ keep ! (2 ∷ 3 ∷ 0 ∷ 1 ∷ []) $
    by ! (leaves 𝓛 En hs c y vunit tt (r, (tt, (tt, tt))) (tt, (tt, (tt, tt)))))
    (λ wrong. absurd wrong)))
    (λ pb po.
    let p : Ptr = block_ptr pb po in let k : ℕ = i / 64 in let j : ℕ = i % 64 in
    let at_word : ℕ = word_offset R (len R d) po k in let e : ℕ = value_offset R po i in let slot_at : Ptr = block_ptr pb e in
    lands_last ! refl (ptr_good p) $ exec ! 𝓣.C 𝓣.Λ Ev (after 2 fn.body) (at_ret Ev Post) $
    fsplit ! $ move ! (1 ∷ []) $ fsplit ! $ fpick ! (λ zz. move ! (0 ∷ 6 ∷ []) $
    use2 𝓛 (later (‵ (facts.fact ((zz.0.at ≡ p) × Sized R (len R d) p)) ⊛ ‵ (loaded R d t zz.0 β)))
    (reaches 𝓛 R d t β p zz) $
    await ! tt $ split ! $ fpick ! (λ so. drop ! $
    let s' : StandingBlock = record zz.0 { at = p } in
    rewrite ! 0 (λ (x : StandingBlock). ‵ (loaded R d t x β))
    (λ j. record zz.0 { at = so.0 j }) refl $
    fsplit ! $ fpick ! (λ sized. move ! (1 ∷ []) $ fsplit ! $
    use1 𝓛 (‵ (fres t.which (block_code s')) ⊛ ‵ (fres t.which (block_code s')))
    (𝓛.names.res_dup t.which (block_code s')) $
    split ! $ move ! (1 ∷ 2 ∷ []) $ fjoin ! $ move ! (2 ∷ []) $
    fpack ! ((length s'.names ≡ len R d) × Sized R (len R d) s'.at) (λ _. ftrue) sized $ move ! (0 ∷ 1 ∷ []) $ fjoin ! $
    -- [the row; which block it is; what it waits with; the life's token; the invariant, twice; the
    -- way back; before; the other tokens]
    sets ! (of_opd ! (get ! refl)) refl (ptr_good p) $
    sets ! (bin ! (get ! refl) (lit ! tt) (tests_null p so.1.1)) refl (tt, tt) $ first ! $
    branches ! (get ! refl) (λ wrong. absurd wrong) (λ _. skips ! $
    exec ! 𝓣.C 𝓣.Λ Ev (after 5 fn.body) (at_ret Ev Post) $
    let low : i < length s'.names = subst (λ (n : ℕ). i < n) (sym sized.0) of.4 in
    let here : IsWordNear R (len R d) k = word_is_near R (len R d) k so.1.2 (in_chunks (len R d) i of.4) in
    let number_at : num ≡ value_words R (len R d) + k = numbered ∙ number_in R d h.id i of.3 of.4 ∙ here.number in
    let close : i * stride R < 2 ^ 64 = value_near R (len R d) i so.1.2 of.4 in
    let close_at : x * stride R < 2 ^ 64 = subst (λ (n : ℕ). n * stride R < 2 ^ 64) (sym is_index) close in
    let near : num * 8 < 2 ^ 64 = subst (λ (n : ℕ). n * 8 < 2 ^ 64) (sym number_at) here.near in
    first ! $ blocks ! $ sets ! (of_opd ! (get ! refl)) refl (tt, tt) $
    sets ! (is ! (bin ! (get ! refl) (lit ! tt) (record { fits = near }))
    (ap (λ (n : ℕ). vint w64 (n * 8)) number_at))
    refl (tt, record { fits = here.near }) $
    sets_last ! (bin ! (get ! refl) (get ! refl) tt) refl (tt, tt) $
    exec ! 𝓣.C 𝓣.Λ Ev (after 6 fn.body) (at_ret Ev Post) $
    sets ! (of_opd ! (get ! refl)) refl (tt, tt) $
    first ! $ blocks ! $ sets ! (of_opd ! (get ! refl)) refl (tt, tt) $
    sets ! (is ! (bin ! (get ! refl) (size_word !) (record { fits = spaced x (stride R) close_at }))
    (spaced_is x (stride R) close_at ∙ ap (λ (n : ℕ). vint w64 (n * stride R)) is_index))
    refl (tt, record { fits = close }) $
    sets_last ! (bin ! (get ! refl) (get ! refl) tt) refl (tt, tt) $
    exec ! 𝓣.C 𝓣.Λ Ev (after 8 fn.body) (at_ret Ev Post) $
    sets ! (of_opd ! (get ! refl)) refl (tt, tt) $
    let HoldsSeen : ℕ → Fml = steps.Finds 𝓛 R (placed d t wb (wo + 0) s' i h.id e pb low of.3 refl refl) (looked_in_vain l₀) in
    let aft : ℕ → Fml = λ n. fsep (flft t.life s) (HoldsSeen n) in
    first ! $ blocks ! $ sets ! (agg ! (and_then ! (lit ! tt) (no_more !))) refl seq_cst_good $
    move ! (4 ∷ 3 ∷ 1 ∷ 2 ∷ []) $ group ! 4 $
    use1 𝓛 (raw (𝓣.C _ (vptr pb at_word ∷ seq_cst ∷ []) (λ v. mean 𝓛 (found aft v))))
    (via 𝓤 _ (steps.finds 𝓛 R (placed d t wb (wo + 0) s' i h.id e pb low of.3 refl refl) s (looked_in_vain l₀))
    (loads 𝓛 𝓜 𝓡 (code.calls-std::sync::atomic::raw::load 𝓡.env wired)
    (block_ptr pb at_word) aft)) $
    Calls-last ! (fm 𝓛 𝓜 𝓡) (found aft)
    (and_then ! (get ! refl) (and_then ! (get ! refl) (no_more !))) (λ v.
    finds ! aft (λ n nf.
    lands_last ! refl (tt, record { fits = nf }) $
    exec ! 𝓣.C 𝓣.Λ Ev (after 10 fn.body) (at_ret Ev Post) $ fsplit ! $ move ! (0 ∷ 4 ∷ []) $
    returns_token ! β t.life q s $ await ! tt $
    -- [the token; what was found; the row; the invariant; before; the other tokens]
    let set : Bool = is_set n j in
    let seen : ℕ = state_by set in
    let seen_fits : seen < 2 ^ 64 = state_by-fits set in
    let m : Kept = record { at = slot_at; state = seen } in
    let pl' : ClaimFields = claim_fields h.id i (block_ptr wb wo) slot_at h.sharing h.word h.reserved in
    sets ! (of_opd ! (get ! refl)) refl (tt, record { fits = nf }) $
    sets ! (of_opd ! (get ! refl)) refl (tt, tt) $
    assigns ! (of_opd ! (get ! refl)) (through ! refl (fld ! refl (stop !)))
    (store_in ! 6 (sub ! 0 refl (whole !)) (tt, tt)) $
    sets ! (is ! (bin ! (get ! refl) (lit ! tt) (lit< tt))
    (ap (λ (n' : ℕ). vint w64 (n' % 64)) is_index))
    refl (tt, record { fits = bit_fits i }) $
    sets ! (of_opd ! (get ! refl)) refl (tt, record { fits = bit_fits i }) $
    sets ! (bin ! (get ! refl) (get ! refl) (place_below i)) refl
    (tt, record { fits = shifted_right n j nf }) $
    sets ! (bin ! (get ! refl) (lit ! tt) tt) refl
    (tt, record { fits = masked_fits (n / 2 ^ j) 1 (shifted_right n j nf) }) $
    sets ! (is ! (bin ! (lit ! tt) (get ! refl)
    (record { fits = subst (λ (x' : ℕ). x' < 2 ^ 64) (sym (state_by-flag n j)) seen_fits }))
    (ap (vint w64) (state_by-flag n j)))
    refl (tt, record { fits = seen_fits }) $
    assigns ! (of_opd ! (get ! refl)) (through ! refl (fld ! refl (stop !)))
    (store_in ! 6 (sub ! 1 refl (whole !)) (tt, record { fits = seen_fits })) $
    sets ! (of_opd ! (unit_lit !)) refl (tt, tt) $
    move ! (1 ∷ []) $ fpick ! (λ v'. fsplit ! $ fpick ! (λ known. drop ! $ move ! (2 ∷ 0 ∷ []) $
    fjoin ! $ nothing ! $ fpack ! (slot_at ≡ value_at R p i) (λ _. ftrue) refl $ fjoin ! $
    fpack ! StandingBlock (has_slot R d t β pl' v') s' $
    use1 𝓛 (‵ (has R d t β pl' (found_as v'))) (found_in 𝓛 R d t β pl' v') $
    move ! (3 ∷ 2 ∷ []) $ fjoin ! $ fjoin ! $ nothing ! $
    fpack ! (IsOf R h.table pl' d) (λ _. ftrue) (tt, of.1, of.2, of.3, of.4, of.5, of.6, of.7) $ fjoin ! $
    fpack ! (BucketView × Turn) (has_at R β h.table pl' (found_as v')) z $ nothing ! $
    fpack ! (IsStateOf R seen (found_as v')) (λ _. ftrue) (kept_as R v' set known.0) $ fjoin ! $
    move ! (2 ∷ []) $ fsplit ! $ move ! (2 ∷ 0 ∷ []) $ fjoin ! $ move ! (0 ∷ 2 ∷ 1 ∷ []) $
    use0 𝓛 (‵ ((FieldsType ℓ R).own_val (fields_of ℓ R m) (value_of m ∷ [])))
    (made ℓ R 𝓛 m seen_fits) $
    fjoin ! $
    -- [what the claim owns; the token; the other tokens; its cell; the open borrow]
    let r : G.Denot = record {
      at = slot_at;
      state = seen;
      marker = record {};
      bucket = block_ptr wb wo;
      table = h.table;
      sharing = h.sharing;
      word = h.word;
      id = h.id;
      index = i;
      reserved = h.reserved;
      learnt = found_as v';
      left = h.left;
    } in
    move ! (3 ∷ 0 ∷ 4 ∷ 5 ∷ 6 ∷ []) $ closes ! tt G r (value_of m ∷ []) rb ro $
    feq_i ! _ (vptr rb ro ∷ []) _ refl $ fjoin3 ! $
    nothing ! $ nothing ! $ fjoin ! $ nothing ! $ fjoin ! $ move ! (1 ∷ 0 ∷ []) $ fjoin ! $
    move ! (2 ∷ 3 ∷ []) $ fjoin ! $ move ! (2 ∷ 0 ∷ []) $ join ! $
    knows ! (F₅ r) (finds_slot l₀ unseen v') $
    knows ! (F₄ r) (λ _. not_missing v') $ join ! $
    knows ! (F₃ r) (λ was. inr (ap found_as (known.1 (ap looked_in_vain was)))) $
    join ! $ knows ! (F₂ r) (known_as v') $ join ! $
    knows ! (F₁ r) (λ k. record r { bucket = sym at k }) $ join ! $
    feq_i ! _ (vunit ∷ []) _ refl $
    returns ! (look_at ! 0 refl) $ free_all ! refl $ keep ! (2 ∷ 3 ∷ 0 ∷ 1 ∷ []) $
    by ! (leaves 𝓛 En hs c y vunit tt (r, (tt, (tt, tt)))
    (tt, (tt, (tt, tt))))))))))))))))))))))))))
