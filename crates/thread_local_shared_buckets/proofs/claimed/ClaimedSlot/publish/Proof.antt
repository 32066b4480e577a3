-- `publish` writes the value into the slot's room, shares it for good where it may be shared, and
-- then sets the flag.
use Rattle.thread_local_base.proofs.Names.{bin, ◌≡◌, ℕ, ◌+◌, ◌^◌, List, [], ◌∷◌, ◌++◌, length, sym, refl, ap, subst}
use Rattle.thread_local_base.proofs.Names.{lit<, w64, Option, Some, None, a_type, bare, Val, vint, inst_fn}
use Rattle.thread_local_base.proofs.Names.{full_share, SProp, ent, id⊢, via, Lft, Share, GName}
use Rattle.thread_local_base.proofs.Names.{Fml, ftrue, fsep, fat, froom, flft, fbor, fex, fobs, fauth, WpFn, ‵, raw}
use Rattle.thread_local_base.proofs.Names.{◌⊛◌, given, later, mean, at_ret, ◌$◌, ◌∵◌, !, qed, by, move, keep}
use Rattle.thread_local_base.proofs.Names.{drop, use0, use1, use2, await, split, split3, join, pick, fsplit, fsplit3}
use Rattle.thread_local_base.proofs.Names.{fjoin, fjoin3, fpick, fpack, learn, group, suffices, rewrite, stop, fld}
use Rattle.thread_local_base.proofs.Names.{lit, of_opd, no_more, and_then, first, blocks, exec, returns, enter, init}
use Rattle.thread_local_base.proofs.Names.{assigns_last, alloc_all, pass_all, free_all, look_at, get, through}
use Rattle.thread_local_base.proofs.Names.{sets, lands_last, is, env, agg, sub, whole, tables, fact, no}
use Rattle.thread_local_base.proofs.Names.{RattleType, owns, types_at, plain, Ptr, block_ptr, block_of, count_of}
use Rattle.thread_local_base.proofs.Names.{uint_Tells, usize, yes, size_word, sets_last, ◌*◌, ◌∙◌, nothing, heard}
use Rattle.thread_local_base.proofs.Names.{param, layout, param_laws, Stays, stay_dropped, walk_of, Goes-dropped}
use Rattle.thread_local_base.proofs.Names.{Member, proved_at, leaves, fm, after, one, gather}
use Rattle.thread_local_base.proofs.Names.{opens, closes, peeks, Is, shows, cell_at, stay_ref, Goes-ref, load, look_in, assigns, unit_lit, vunit, feq_i}
use Rattle.std.proofs.Common.{◌<◌, ◌≤◌, ◌/◌, ◌%◌}
use mir.Syntax.{dnil}
use mir.Val.{vptr}
use base.Stored.{Gv}
use base.Fml.{fres, finv, Incl, Incl-trans}
use base.Before.{before}
use contract.BorrowLft.{meet_⊑_left, meet_⊑_right}
use ghost.Rules.{Toks}
use types.Logic.{lfts}
use types.Na.{before_dup}
use types.Run.{Calls-last}
use types.Tokens.{bor_open, obor_close}
use denote.RawPtr.{ptr_val}
use types.Part.{store_in}
use denote.Param.{bounded}
use denote.Signature.{named_lft}
use Rattle.std.proofs.raw_atomic.Calls.{seq_cst, found, finds, adds}
use Rattle.std.proofs.raw_atomic.PtrCalls.{seq_cst_good}
use Rattle.std.specs.Coded.{coded_option}
use Rattle.thread_local_base.proofs.Word.{place_below, bit_fits, shifted_left}
use Rattle.thread_local_base.specs.Judged.{Judged}
use Rattle.thread_local_ids.specs.Rights.{right_owns, note_owns}
use Rattle.thread_local_buckets.specs.Slots.{stride, value_words, word_offset, value_offset, content_at}
use Rattle.thread_local_buckets.proofs.Flags.{in_chunks, value_near}
use Rattle.thread_local_buckets.proofs.Slots.{IsWordNear, word_is_near}
use Rattle.thread_local_shared_buckets.specs.Shared.{name_at, BucketView, Turn, StandingBlock, Sized, block_code, len}
use Rattle.thread_local_shared_buckets.specs.Shared.{value_code, tracked_value, pinned, age, opened, by as lent_by}
use Rattle.thread_local_shared_buckets.specs.Shared.{bucket_invariant}
use Rattle.thread_local_shared_buckets.proofs.Rested.{publishes}
use Rattle.thread_local_ids.specs.Told.{tells}
use Rattle.thread_local_ids.specs.Sharings.{Belongs, left_after}
use Rattle.thread_local_base.specs.Learnt.{Learnt, Vacant, Holding}
use Rattle.thread_local_shared_buckets.specs.Claims.{ClaimFields, flag_word_of, claim_fields, IsOf, IsStateOf, value_at, has, has_slot, has_at, claim_owns}
use Rattle.thread_local_shared_buckets.specs.contracts.claimed.ClaimedSlot as claim
use Rattle.thread_local_shared_buckets.specs.contracts.claimed.ClaimedSlot.publish.{ended, clauses, Key.name as #self}
use Rattle.thread_local_shared_buckets.proofs.ClaimSteps as steps
use Rattle.thread_local_shared_buckets.proofs.ClaimedFields.{Kept, kept_of, value_of, FieldsType, fields_of, told, made}
use Rattle.thread_local_shared_buckets.proofs.ClaimedFields.{number_in, distance, distance_fits, lies_ahead, lies_at, leads_to_word, spaced}
use Rattle.thread_local_shared_buckets.proofs.ClaimedFields.{spaced_is}
use Rattle.thread_local_shared_buckets.proofs.claimed.ClaimedSlot.publish.Statement.{statement}
use Rattle.thread_local_shared_buckets.proofs.claimed.ClaimedSlot.publish.Code as code
use Rattle.thread_local_base.proofs.Walking.{knows, lends_token, returns_token}
use Rattle.thread_local_base.specs.Place.{bucket_of}
use Rattle.thread_local_base.proofs.PlaceLaws.{place-id_at}
use Rattle.thread_local_ids.proofs.Markers.{token, told as token_told}
use Rattle.thread_local_shared_buckets.specs.Announcing.{Announcing, announced}
use Rattle.thread_local_shared_buckets.specs.contracts.announcements.Announced as Announced
use Rattle.thread_local_shared_buckets.proofs.Inside.{placed}

pub publish_spec : {M : Type 1} → statement M
publish_spec 𝓤 𝓛 𝓜 𝓡 wired X L =
    let H = 𝓛.H in let 𝓣 = tables 𝓤 H 𝓜 𝓡 𝓡.env in let R : RattleType = param 0 X in let En = ended X in
    let c = clauses X 𝓛 𝓜.mem 𝓡.returns in let LR = param_laws 0 X L in let inst = bounded (a_type ∷ []) (X, tt) dnil in
    let fn = inst_fn inst code.function in let closed = code.unfolded 𝓤 H 𝓜 𝓡 wired (X, tt) in
    let self = plain (λ κs. claim.the_row (named_lft 3 1 tt κs) R) in let number = plain (λ _. usize) in
    let value = plain (λ _. R) in let shown = plain (λ _. Announced.the_row) in
    let hs : Stays En.signature.params En.kept = (
      stay_ref (0 ∷ []) tt self,
      (stay_dropped number yes, (stay_dropped number yes, (stay_dropped value no, (stay_dropped shown yes, tt)))),
    ) in
    proved_at 𝓛 En hs c 𝓜 𝓡 (
      Goes-ref 𝓛 3 0 tt self,
      (
        Goes-dropped 𝓛 3 number yes (λ κs x f. refl),
        (
          Goes-dropped 𝓛 3 number yes (λ κs x f. refl),
          (Goes-dropped 𝓛 3 value no (λ κs x f. refl), (Goes-dropped 𝓛 3 shown yes (λ κs x f. refl), tt)),
        ),
      ),
    )
    (#self inst) fn closed (λ y are.
    let κs = y.0.0 in
    let qs = y.0.1 in
    let a = y.0.3 in
    let vss = y.0.4 in
    let Post : Val → SProp 𝓤 = (walk_of 𝓛 En hs c).post y in let h = a.0.now in
    let rb : ℕ = a.0.ref_ptr.0 in
    let ro : ℕ = a.0.ref_ptr.1 in
    let ix : ℕ = a.1.0 in
    let num : ℕ = a.1.1.0 in
    let x : X.Denot = a.1.1.1.0 in let an = a.1.1.1.1.0 in let β : Lft = κs.1.0 in let q : Share = qs.1.0 in
    let υ : Lft = κs.1.1.0 in
    let r : Share = qs.1.1.0 in let others : Fml = fsep (flft υ r) ftrue in let ℓ = named_lft 3 1 tt κs in
    let G : RattleType = claim.the_row ℓ R in let D : RattleType = FieldsType ℓ R in
    let w : Ptr = h.bucket in let wb : ℕ = block_of w in let wo : ℕ = count_of w in let i : ℕ = h.index in
    let pl : ClaimFields = claim_fields h.id i w h.at h.sharing h.word h.reserved in
    let see_index = uint_Tells w64 ix vss.1.0 are.1.0 in
    let see_number = uint_Tells w64 num vss.1.1.0 are.1.1.0 in
    let see_shown = token_told (Announced.the_type).name vss.1.1.1.1.0 are.1.1.1.1.0.0 in
    let Of : Type 0 = Belongs h.sharing h.table in
    let Says : Type 0 = (an.by ≡ h.word) × (an.bucket ≡ bucket_of h.id) in
    let m : Member = record { row = R; ty = layout X } in
    let got = one (layout X) vss.1.1.1.0 ((LR.lawful 𝓛).typed x vss.1.1.1.0 are.1.1.1.0) in
    let vx : Val = got.0 in
    let F : G.Denot → Type 0 = λ g. g ≡ record h { at = g.at; state = g.state; learnt = Holding x; left = g.left } in
    let Run : List Val → SProp 𝓤 = λ ws. WpFn 𝓤 H 𝓣.C 𝓣.Λ fn ws Post in
    qed 𝓛 (((‵ (flft κs.0 qs.0) ⊛ ‵ (fsep (flft β q) others)) ⊛ ‵ (owns (types_at En.signature.params κs) a vss))
    ∷ raw (fact 𝓤 (Incl υ X.lives)) ∷ raw (fact 𝓤 (h.learnt ≡ Vacant)) ∷ raw (fact 𝓤 (ix ≡ i))
    ∷ raw (fact 𝓤 (num ≡ flag_word_of R h.id)) ∷ raw (fact 𝓤 Says) ∷ raw (fact 𝓤 Of) ∷ []) ∵
    move ! (1 ∷ 2 ∷ 3 ∷ 4 ∷ 5 ∷ 6 ∷ []) $ heard ! (Incl υ X.lives) (λ alive.
    heard ! (h.learnt ≡ Vacant) (λ empty. heard ! (ix ≡ i) (λ is_index.
    heard ! (num ≡ flag_word_of R h.id) (λ numbered. heard ! Says (λ told_so. heard ! Of (λ belongs. split ! $ split ! $ move ! (2 ∷ []) $
    fsplit3 ! $ fsplit3 ! $
    move ! (4 ∷ []) $ fsplit3 ! $ move ! (2 ∷ []) $ fsplit ! $ fsplit ! $
    -- [that it is announced, in two entries; nothing; the number; the value; the reference, in three entries; ..]
    keep ! (6 ∷ 7 ∷ 9 ∷ 4 ∷ 10 ∷ 1 ∷ []) $
    rewrite ! 3 (λ (ws : List Val). ‵ (R.own_val x ws)) got.1 refl $
    let us : List Val = vptr rb ro ∷ vint w64 ix ∷ vint w64 num ∷ vx ∷ token ∷ [] in
    suffices ! (Run us) (subst (λ (ws : List Val). ent 𝓤 (Run us) (Run ws))
    (sym (λ j. are.0.0 j ++ (see_index j ++ (see_number j ++ (got.1 j ++ (see_shown j ++ [])))))) (id⊢ 𝓤 (Run us))) $
    enter ! 𝓣.C 𝓣.Λ fn us Post $ alloc_all ! (λ l.
    pass_all ! refl (
      (tt, tt),
      ((tt, record { fits = are.1.0.1 }), ((tt, record { fits = are.1.1.0.1 }), (got.2, ((tt, (tt, tt)), tt)))),
    ) $
    let Ev = env fn.locals l in
    opens ! tt G rb ro (λ ts. move ! (1 ∷ []) $ fsplit ! $
    peeks ! D (Is D) (shows 𝓛 D) (fields_of ℓ R (kept_of h)) ts (λ is_so. drop ! $
    -- [what the claim owns; its cell; the open borrow, in three entries; the value; the other tokens]
    let Cell = λ (ws : List Val). ‵ (cell_at full_share G.mir ws rb ro) in
    rewrite ! 1 Cell (told ℓ R (kept_of h) ts is_so) refl $
    move ! (6 ∷ []) $ fsplit ! $ move ! (2 ∷ 7 ∷ 0 ∷ 1 ∷ []) $
    fsplit ! $ move ! (0 ∷ 2 ∷ 3 ∷ 4 ∷ 5 ∷ 6 ∷ 7 ∷ 8 ∷ []) $
    -- [what the claim owns; the value; the token; the other tokens; its cell; the open borrow, in three entries; the note]
    use1 𝓛 (‵ (claim_owns R β h.table pl h.learnt h.state)) (id⊢ 𝓤 _) $
    fsplit ! $ drop ! $ fpick ! (λ z. fsplit ! $ fpick ! (λ of. drop ! $
    fsplit ! $ move ! (1 ∷ []) $
    let d : BucketView = z.0 in let t : Turn = z.1 in
    rewrite ! 0 (λ (k : Learnt X.Denot). ‵ (has R d t β pl k)) empty refl $ fpick ! (λ s. fsplit ! $
    fpick ! (λ leads. drop ! $ fsplit ! $ move ! (1 ∷ []) $ fsplit3 ! $
    let pb : ℕ = block_of s.at in let po : ℕ = count_of s.at in let k : ℕ = i / 64 in let j : ℕ = i % 64 in
    let at_word : ℕ = word_offset R (len R d) (count_of s.at) k in let e : ℕ = value_offset R (count_of s.at) i in
    let η : GName = name_at s.names i in
    let life : Lft = age R t pb s.block_life in
    let V : Fml = tracked_value R pb e η in
    let J : Fml = fbor t.life (bucket_invariant R d t wb (wo + 0)) in
    let no : Option X.Denot = None in
    let new : Option X.Denot = Some x in
    -- [vacant; the name; the borrow; the row; what is kept; the value; the token; the other tokens]
    move ! (3 ∷ []) $ fsplit ! $ fpick ! (λ sized. move ! (1 ∷ []) $ fsplit ! $
    use1 𝓛 (‵ (fres t.which (block_code s)) ⊛ ‵ (fres t.which (block_code s)))
    (𝓛.names.res_dup t.which (block_code s)) $
    split ! $
    move ! (2 ∷ []) $ use1 𝓛 (‵ (before β life) ⊛ ‵ (before β life)) (before_dup 𝓛 β life) $
    split ! $ move ! (2 ∷ 0 ∷ []) $ fjoin ! $ move ! (3 ∷ []) $
    fpack ! ((length s.names ≡ len R d) × Sized R (len R d) s.at) (λ _. ftrue) sized $
    move ! (0 ∷ 1 ∷ []) $ fjoin ! $
    -- [the row; before; which block it is; vacant; the name; the borrow; what is kept; the value;
    -- the token; the other tokens]
    move ! (1 ∷ 8 ∷ []) $
    lends_token ! 𝓜 𝓡 β life q $ await ! tt $ pick ! (λ g. split ! $
    -- [the block's token; the way back; the row; which block it is; vacant; the name; the borrow;
    -- what is kept; the value; the other tokens]
    move ! (6 ∷ 0 ∷ []) $ bor_open ! tt $ move ! (1 ∷ []) $ fpick ! (λ o. fsplit ! $ move ! (7 ∷ 1 ∷ []) $
    use2 𝓛 (given (value_code R no ≡ value_code R o)
    (‵ (fobs η (value_code R no)) ⊛ ‵ (fauth η (value_code R o))))
    (𝓛.names.name_agree η (value_code R no) (value_code R o)) $
    learn ! (λ same. split ! $ move ! (0 ∷ 1 ∷ []) $
    use2 𝓛 (later (‵ (fobs η (value_code R new)) ⊛ ‵ (fauth η (value_code R new))))
    (𝓛.names.name_set η (value_code R no) (value_code R o) (value_code R new)) $
    await ! tt $ split ! $
    use1 𝓛 (later (‵ (pinned R η x))) (𝓛.names.name_done η (value_code R new)) $ await ! tt $
    use1 𝓛 (‵ (pinned R η x) ⊛ ‵ (pinned R η x)) (𝓛.names.res_dup η (value_code R new)) $ split ! $
    use1 𝓛 (‵ (pinned R η x) ⊛ ‵ (pinned R η x)) (𝓛.names.res_dup η (value_code R new)) $ split ! $
    -- [what is known, three times; the name; the memory; the open borrow; the way back; the row;
    -- which block it is; vacant; what is kept; the value; the other tokens]
    let was : o ≡ no = sym ((coded_option R.coded).inj no o same) in
    move ! (4 ∷ []) $ rewrite ! 0 (λ (k : Option X.Denot). ‵ (content_at R k pb e)) was refl $
    use1 𝓛 (‵ (froom (layout X) pb e)) (𝓛.laws.raw-room (layout X) pb e) $
    let here : IsWordNear R (len R d) k = word_is_near R (len R d) k sized.1.2 (in_chunks (len R d) i of.4) in
    let number_at : num ≡ value_words R (len R d) + k = numbered ∙ number_in R d h.id i of.3 of.4 ∙ here.number in
    let near : num * 8 < 2 ^ 64 = subst (λ (n : ℕ). n * 8 < 2 ^ 64) (sym number_at) here.near in
    let close : i * stride R < 2 ^ 64 = value_near R (len R d) i sized.1.2 of.4 in
    let close_at : ix * stride R < 2 ^ 64 = subst (λ (n : ℕ). n * stride R < 2 ^ 64) (sym is_index) close in
    let slot_at : Ptr = block_ptr pb e in
    let ahead : i * stride R ≤ (value_words R (len R d) + k) * 8 = lies_ahead R (len R d) i of.4 in
    let far : ℕ = distance R (len R d) i in
    let far_fits : far < 2 ^ 64 = distance_fits R (len R d) i here.near in
    sets !
    (is !
    (of_opd ! (load ! (through ! refl (fld ! refl (stop !))) (look_in ! 13 (sub ! 0 refl (whole !)))))
    (ap ptr_val leads))
    refl (tt, tt) $
    sets ! (of_opd ! (get ! refl)) refl (tt, record { fits = are.1.1.0.1 }) $
    sets ! (is ! (bin ! (get ! refl) (lit ! tt) (record { fits = near }))
    (ap (λ (n : ℕ). vint w64 (n * 8)) number_at))
    refl (tt, record { fits = here.near }) $
    sets ! (of_opd ! (get ! refl)) refl (tt, record { fits = are.1.0.1 }) $
    sets ! (is ! (bin ! (get ! refl) (size_word !) (record { fits = spaced ix (stride R) close_at }))
    (spaced_is ix (stride R) close_at ∙ ap (λ (n : ℕ). vint w64 (n * stride R)) is_index))
    refl (tt, record { fits = close }) $
    sets ! (bin ! (get ! refl) (get ! refl) ahead) refl (tt, record { fits = far_fits }) $
    first ! $ blocks ! $ sets ! (of_opd ! (get ! refl)) refl (tt, tt) $
    sets ! (of_opd ! (get ! refl)) refl (tt, tt) $
    sets ! (of_opd ! (get ! refl)) refl (tt, record { fits = far_fits }) $
    sets_last ! (is ! (bin ! (get ! refl) (get ! refl) tt)
    (ap (vptr pb) (leads_to_word R (len R d) po i of.4)))
    refl (tt, tt) $
    exec ! 𝓣.C 𝓣.Λ Ev (after 7 fn.body) (at_ret Ev Post) $
    sets ! (of_opd ! (get ! refl)) refl (tt, tt) $ sets ! (of_opd ! (get ! refl)) refl (tt, tt) $
    sets ! (of_opd ! (get ! refl)) refl (tt, tt) $ sets ! (of_opd ! (get ! refl)) refl (tt, tt) $
    first ! $ blocks ! $ sets ! (of_opd ! (get ! refl)) refl (tt, tt) $
    sets ! (of_opd ! (get ! refl)) refl got.2 $
    assigns_last ! (of_opd ! (get ! refl)) (through ! refl (stop !)) (init ! 0 refl got.2) $
    exec ! 𝓣.C 𝓣.Λ Ev (after 12 fn.body) (at_ret Ev Post) $
    use1 𝓛 (‵ (fat full_share (bare (layout X)) pb e vx))
    (𝓛.laws.at_raw full_share (layout X) pb e vx) $
    move ! (0 ∷ 11 ∷ []) $ gather m ! x vx pb e $
    move ! (0 ∷ 4 ∷ []) $ fjoin ! $
    fpack ! (Option X.Denot) (λ k. fsep (content_at R k pb e) (fauth η (value_code R k))) new $
    move ! (4 ∷ 0 ∷ []) $ obor_close ! tt $
    -- [the borrow; the block's token; what is known, thrice; the way back; the row; which block it
    -- is; vacant; what is kept; the other tokens]
    let ts : Toks = (life, g) ∷ (υ, r) ∷ [] in
    move ! (10 ∷ []) $ fsplit ! $ move ! (4 ∷ 2 ∷ []) $ join ! $ move ! (3 ∷ 1 ∷ []) $ join ! $ move ! (1 ∷ 0 ∷ []) $
    use2 𝓛
    (later (‵ (opened R t pb s.block_life e x)
    ⊛ ‵ (fex (Judged R) (lent_by R t pb s.block_life e η x)) ⊛ raw (lfts 𝓛 ts)))
    (publishes 𝓛 t R LR pb s.block_life e η ts (Incl-trans (meet_⊑_right life υ) alive)
    (meet_⊑_left life υ) x of.1) $
    await ! tt $ split3 ! $
    move ! (2 ∷ []) $ use1 𝓛 (‵ (flft life g) ⊛ ‵ (flft υ r)) (id⊢ 𝓤 _) $ split ! $
    -- [the block's token; the other; for walkers; for the claim; nothing; what is known, twice; the
    -- way back; the row; which block it is; vacant; what is kept]
    move ! (0 ∷ 7 ∷ []) $
    returns_token ! β life q g $ await ! tt $
    move ! (1 ∷ 4 ∷ []) $ fjoin ! $
    -- [the other tokens; the token; for walkers; for the claim; what is known, twice; the row;
    -- which block it is; vacant; what is kept]
    let same : bucket_of h.id ≡ d.bucket = ap bucket_of (lies_at R d h.id i of.3) ∙ (place-id_at d.bucket i of.4).0 in
    move ! (15 ∷ []) $
    rewrite ! 0 (λ (m : Announcing). ‵ (announced m an.bucket)) (told_so.0 ∙ sym of.7) refl $
    rewrite ! 0 (λ (k : ℕ). ‵ (announced d.word k)) (told_so.1 ∙ same) refl $
    move ! (9 ∷ 5 ∷ 3 ∷ []) $ fjoin3 ! $
    -- [what is offered; that the bucket is announced; the other tokens; the token; for the claim; what is known; the row; which block
    -- it is; what is kept; its cell; the open borrow, in three entries; the note]
    move ! (13 ∷ []) $ rewrite ! 0 (λ (n : ℕ). ‵ (note_owns n h.id h.left)) (sym of.2) refl $
    move ! (1 ∷ 0 ∷ []) $ fjoin ! $ move ! (1 ∷ 0 ∷ []) $ fjoin ! $ move ! (7 ∷ []) $ fsplit ! $
    use1 𝓛 (‵ (before β t.life) ⊛ ‵ (before β t.life)) (before_dup 𝓛 β t.life) $ split ! $
    move ! (2 ∷ []) $ use1 𝓛 (‵ (finv J) ⊛ ‵ (finv J)) (𝓛.invs.inv_dup J) $ split ! $
    move ! (2 ∷ 0 ∷ []) $ fjoin ! $
    -- [what is kept; the invariant; before; what is offered; the other tokens; the token; for the
    -- claim; what is known; the row; which block it is]
    move ! (2 ∷ 5 ∷ []) $
    lends_token ! 𝓜 𝓡 β t.life q $ await ! tt $ pick ! (λ g'. split ! $
    let low = subst (λ (n : ℕ). i < n) (sym sized.0) of.4 in
    let same_of : Belongs d.sharing d.table = subst (λ (k : Option ℕ). Belongs k d.table) (sym of.6) (subst (Belongs h.sharing) (sym of.2) belongs) in
    let says : Option Gv = left_after R d.sharing d.table h.left new in
    let out : Fml = fsep (flft t.life g')
    (fsep (right_owns t.filled h.id) (fsep (tells R d.sharing h.id (Some x)) (note_owns d.table h.id says))) in
    let flag : ℕ = steps.flag 𝓛 R (placed d t wb (wo + 0) s i h.id e pb low of.3 refl refl) in
    let flag_fits : flag < 2 ^ 64 = shifted_left 1 j in
    let after_it : ℕ → Fml = λ _. out in
    first ! $ blocks ! $ sets ! (of_opd ! (get ! refl)) refl (tt, tt) $
    sets ! (of_opd ! (get ! refl)) refl (tt, record { fits = are.1.0.1 }) $
    sets ! (is ! (bin ! (get ! refl) (lit ! tt) (lit< tt)) (ap (λ (n : ℕ). vint w64 (n % 64)) is_index))
    refl (tt, record { fits = bit_fits i }) $
    sets ! (of_opd ! (get ! refl)) refl (tt, record { fits = bit_fits i }) $
    sets ! (bin ! (lit ! tt) (get ! refl) (place_below i)) refl (tt, record { fits = flag_fits }) $
    sets ! (agg ! (and_then ! (lit ! tt) (no_more !))) refl seq_cst_good $ move ! (3 ∷ 0 ∷ 9 ∷ 4 ∷ []) $ group ! 4 $
    use1 𝓛 (raw (𝓣.C _ (vptr pb at_word ∷ vint w64 flag ∷ seq_cst ∷ []) (λ v. mean 𝓛 (found after_it v))))
    (via 𝓤 _ (steps.publishes 𝓛 R (placed d t wb (wo + 0) s i h.id e pb low of.3 refl refl) g' h.left same_of x)
    (adds 𝓛 𝓜 𝓡 (code.calls-std::sync::atomic::raw::fetch_add 𝓡.env wired) (block_ptr pb at_word)
    flag flag_fits after_it)) $
    Calls-last ! (fm 𝓛 𝓜 𝓡) (found after_it)
    (and_then ! (get ! refl) (and_then ! (get ! refl) (and_then ! (get ! refl) (no_more !))))
    (λ v.
    finds ! after_it (λ n nf. lands_last ! refl (tt, record { fits = nf }) $
    exec ! 𝓣.C 𝓣.Λ Ev (after 13 fn.body) (at_ret Ev Post) $ fsplit ! $
    -- [the life's token; filled and what is told; the way back; what is kept; the other tokens; for the claim; what
    -- is known; the row]
    move ! (0 ∷ 2 ∷ []) $
    returns_token ! β t.life q g' $ await ! tt $
    let k : Kept = record { at = slot_at; state = 2 } in let pl' : ClaimFields = claim_fields h.id i w slot_at h.sharing h.word h.reserved in
    -- [the token; filled and what is told; what is kept; the other tokens; for the claim; what is known; the row; the claim's
    -- cell; the open borrow]
    assigns ! (of_opd ! (lit ! tt)) (through ! refl (fld ! refl (stop !)))
    (store_in ! 7 (sub ! 1 refl (whole !)) (tt, record { fits = lit< tt })) $
    sets ! (of_opd ! (unit_lit !)) refl (tt, tt) $
    rewrite ! 7 (λ (u : Ptr). Cell (value_of (record { at = u; state = 2 }) ∷ [])) leads refl $
    move ! (1 ∷ []) $ fsplit3 ! $ move ! (0 ∷ 1 ∷ 3 ∷ 4 ∷ 5 ∷ 6 ∷ 7 ∷ 8 ∷ 9 ∷ 10 ∷ 11 ∷ 12 ∷ []) $
    move ! (6 ∷ 1 ∷ []) $ fjoin ! $ move ! (1 ∷ 0 ∷ 5 ∷ []) $
    fjoin3 ! $ move ! (4 ∷ 0 ∷ []) $ fjoin ! $ nothing ! $
    fpack ! (slot_at ≡ value_at R s.at i) (λ _. ftrue) refl $ fjoin ! $
    fpack ! StandingBlock (has_slot R d t β pl' new) s $ move ! (2 ∷ 0 ∷ []) $ fjoin ! $
    nothing ! $
    fpack ! (IsOf R h.table pl' d) (λ _. ftrue) (of.0, of.1, of.2, of.3, of.4, of.5, of.6, of.7) $
    fjoin ! $ fpack ! (BucketView × Turn) (has_at R β h.table pl' (Holding x)) z $ nothing ! $
    fpack ! (IsStateOf R 2 (Holding x)) (λ _. ftrue) refl $ fjoin ! $
    move ! (7 ∷ []) $ rewrite ! 0 (λ (n : ℕ). ‵ (note_owns n h.id says)) of.2 refl $ move ! (1 ∷ 0 ∷ []) $ fjoin ! $
    use0 𝓛 (‵ ((FieldsType ℓ R).own_val (fields_of ℓ R k) (value_of k ∷ [])))
    (made ℓ R 𝓛 k (lit< tt)) $
    fjoin ! $
    -- [what the claim owns; the token; the other tokens; the claim's cell; the open borrow]
    let made_claim : G.Denot = record {
      at = slot_at;
      state = 2;
      marker = record {};
      bucket = w;
      table = h.table;
      sharing = h.sharing;
      word = h.word;
      id = h.id;
      index = i;
      reserved = h.reserved;
      learnt = Holding x;
      left = says;
    } in
    move ! (3 ∷ 0 ∷ 4 ∷ 5 ∷ 6 ∷ []) $ closes ! tt G made_claim (value_of k ∷ []) rb ro $
    feq_i ! (List Val) vss.0 (vptr rb ro ∷ []) are.0.0 $ fjoin3 ! $
    nothing ! $ nothing ! $ fjoin ! $ nothing ! $ fjoin ! $ nothing ! $ fjoin ! $ nothing ! $ fjoin ! $
    move ! (1 ∷ 0 ∷ []) $ fjoin ! $
    -- [what is left of the parameters; the reference's token; the token; the other tokens]
    move ! (2 ∷ 3 ∷ []) $ fjoin ! $ move ! (2 ∷ 0 ∷ []) $ join ! $
    knows ! (F made_claim) refl $
    feq_i ! _ (vunit ∷ []) _ refl $
    returns ! (look_at ! 0 refl) $ free_all ! refl $ keep ! (2 ∷ 3 ∷ 0 ∷ 1 ∷ []) $
    by ! (leaves 𝓛 En hs c y vunit tt (made_claim, (tt, (tt, (tt, (tt, tt)))))
    (tt, (tt, (tt, (tt, (tt, tt)))))))))))))))))))))))))))
