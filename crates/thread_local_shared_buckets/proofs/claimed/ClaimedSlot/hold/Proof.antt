-- `hold` joins the right with what a `&` to the bucket shows.
use Rattle.thread_local_base.proofs.Names.{Option, ◌≡◌, ℕ, ◌^◌, List, [], ◌∷◌, refl, sym, ap, ◌∙◌, w64, a_type, named}
use Rattle.thread_local_base.proofs.Names.{Val, vptr, vint, of_opd, inst_fn, emp, id⊢, Lft, Share, Fml}
use Rattle.thread_local_base.proofs.Names.{ftrue, fsep, flft, ‵, raw, ◌⊛◌, some, later, ◌$◌, ◌∵◌, !, qed, by, move}
use Rattle.thread_local_base.proofs.Names.{keep, drop, split, join, fsplit, fjoin, fpick, fpack, pick, use0, use1}
use Rattle.thread_local_base.proofs.Names.{await, rewrite, stop, addr, no_more, and_then, returns, enter}
use Rattle.thread_local_base.proofs.Names.{alloc_all, pass_all, free_all, look_at, get, through, sets, env, agg}
use Rattle.thread_local_base.proofs.Names.{fact, fact_i, yes, RattleType, owns, types_at, plain, named_lft}
use Rattle.thread_local_base.proofs.Names.{Ptr, block_ptr, nothing, heard, unhide, param, bounded, RefOf, shr_vals}
use Rattle.thread_local_base.proofs.Names.{shr_Tells, uint_vals, uint_Tells, Stays, stay_dropped, walk_of}
use Rattle.thread_local_base.proofs.Names.{Goes-dropped, proved, leaves, fm, ◌<◌, lit<, lit, arith, dnil, lands_as}
use Rattle.thread_local_base.proofs.Names.{usize}
use base.Stored.{Gv}
use denote.Steps.{only}
use denote.Triple.Call.{calls_at}
use denote.Triple.Spec.{triple_of}
use Rattle.thread_local_base.specs.Place.{id_at}
use Rattle.thread_local_base.proofs.Names.{Is, shows, peeks, true, false}
use Rattle.thread_local_base.proofs.Pairs.{both, pair_in}
use Rattle.thread_local_ids.specs.Rights.{right_owns, right_with, taken_id}
use Rattle.thread_local_ids.specs.Taken.{IsRightTo}
use Rattle.thread_local_ids.specs.contracts.rights.right.Right as right
use Rattle.thread_local_ids.specs.contracts.rights.right.Right.lend as layer
use Rattle.thread_local_ids.proofs.Markers.{token, told as right_told}
use Rattle.thread_local_ids.proofs.rights.right.Right.lend.Met as layer_met
use Rattle.thread_local_shared_buckets.specs.Shared.{BucketView, Turn}
use Rattle.thread_local_shared_buckets.specs.contracts.shared_bucket.SharedBucket as one_bucket
use Rattle.thread_local_base.specs.Learnt.{Learnt, Unknown}
use Rattle.thread_local_shared_buckets.specs.Claims.{ClaimFields, claim_fields, IsOf, IsStateOf, has_at}
use Rattle.thread_local_shared_buckets.specs.contracts.claimed.ClaimedSlot as claim
use Rattle.thread_local_shared_buckets.specs.contracts.claimed.ClaimedSlot.hold.{ended, clauses, Key.name as #self}
use Rattle.thread_local_shared_buckets.proofs.ClaimedFields.{Kept, value_of, FieldsType, fields_of, made, typed}
use Rattle.thread_local_shared_buckets.proofs.claimed.ClaimedSlot.hold.Statement.{statement}
use Rattle.thread_local_shared_buckets.proofs.claimed.ClaimedSlot.hold.Code as code
use Rattle.thread_local_base.proofs.Walking.{knows}

pub hold_spec : {M : Type 1} → statement M
hold_spec 𝓤 𝓛 𝓜 𝓡 wired X L =
    let R : RattleType = param 0 X in let En = ended X in let c = clauses X 𝓛 𝓜.mem 𝓡.returns in
    let inst = bounded (a_type ∷ []) (X, tt) dnil in let fn = inst_fn inst code.function in
    let closed = code.unfolded 𝓤 𝓛.H 𝓜 𝓡 wired (X, tt) in let W : RattleType = one_bucket.the_row R in
    let self = RefOf (0 ∷ []) tt (plain (λ _. W)) (λ _. tt) in let number = plain (λ _. usize) in
    let mine = plain (λ _. right.the_row) in let Ri : RattleType = right.the_row in
    let lays = triple_of 𝓛 layer.signature (layer.spec 𝓛 𝓜.mem 𝓡.returns) in
    let hs : Stays En.signature.params En.kept = (stay_dropped self yes, (stay_dropped number yes, (stay_dropped mine yes, tt))) in
    proved 𝓛 En hs c 𝓜 𝓡 (
      Goes-dropped 𝓛 2 self yes (λ κs x f. refl),
      (Goes-dropped 𝓛 2 number yes (λ κs x f. refl), (Goes-dropped 𝓛 2 mine yes (λ κs x f. refl), tt)),
    )
    (#self inst) fn closed
    (λ κs. (shr_vals, (uint_vals w64, ((λ x. token ∷ []), tt))))
    (λ κs. (shr_Tells (named 0) κs.0 W, (uint_Tells w64, ((λ x vs is. right_told (right.the_type).name vs is.0), tt))))
    (λ κs qs bounds a gh are.
    let b : ℕ = a.0.ref_ptr.0 in let o : ℕ = a.0.ref_ptr.1 in let κ : Lft = κs.0 in let q : Share = qs.0 in
    let d : BucketView = a.0.now in let i : ℕ = a.1.0 in let r = a.1.1.0 in
    let others : Fml = fsep (flft κs.1.0 qs.1.0) ftrue in
    let id : ℕ = taken_id r.before in let Mine : Type 0 = IsRightTo d.table (id_at d.bucket i) r in
    let lent : Ri.Denot = record r { lent = true } in let Here : Type 0 = (r.held ≡ true) × (r.lent ≡ false) in
    let ℓ = named_lft 2 0 tt κs in let G : RattleType = claim.the_row ℓ R in let p : Ptr = block_ptr b o in
    let y : (walk_of 𝓛 En hs c).Ghost = ((κs, qs, bounds, a, (vptr b o ∷ [], (vint w64 i ∷ [], (token ∷ [], tt)))), gh) in
    qed 𝓛 (((‵ (flft κ q) ⊛ ‵ others) ⊛ ‵ (owns (types_at En.signature.params κs) a y.0.4))
    ∷ raw (fact 𝓤 _) ∷ raw (fact 𝓤 Mine) ∷ raw (fact 𝓤 (r.lent ≡ false)) ∷ raw (fact 𝓤 (i < 2 ^ d.bucket)) ∷ []) ∵
    keep ! (2 ∷ 3 ∷ 4 ∷ 0 ∷ []) $ heard ! Mine (λ of. heard ! (r.lent ≡ false) (λ here. heard ! (i < 2 ^ d.bucket) (λ near.
    let same : r.table ≡ d.table = of.0 in
    split ! $ split ! $ move ! (2 ∷ []) $ fsplit ! $ fsplit ! $ drop ! $ move ! (1 ∷ []) $
    fsplit ! $ drop ! $ fsplit ! $ keep ! (0 ∷ 2 ∷ 3 ∷ 4 ∷ []) $
    enter ! _ _ _ _ _ $ alloc_all ! (λ l.
    pass_all ! refl ((tt, tt), ((tt, record { fits = are.1.0.1 }), ((tt, (tt, tt)), tt))) $
    let Ev = env fn.locals l in
    -- [the right; what a `&` to the bucket shows; the tokens]
    let k : lays.Ghost = ((tt, tt, tt, (r, tt), (token ∷ [], tt)), tt) in
    nothing ! $ move ! (1 ∷ 0 ∷ []) $ fjoin ! $ nothing ! $ join ! $ knows ! Here (of.2, here) $
    move ! (1 ∷ 0 ∷ []) $ join ! $ use1 𝓛 (raw (lays.pre k)) (id⊢ 𝓤 (lays.pre k)) $
    calls_at ! (fm 𝓛 𝓜 𝓡) lays
    (layer_met.met 𝓤 𝓛 𝓜 𝓡 (code.calls-thread_local_ids::rights::right::Right::lend 𝓡.env wired)) k
    (and_then ! (get ! refl) (no_more !)) (λ u.
    use1 𝓛 (later (some (λ (s : Ri.Denot).
    (‵ ftrue ⊛ ‵ (Ri.own_val s (u ∷ [])))
    ⊛ some (λ (_ : Unit {0} × Unit {0}). ‵ (fsep ftrue ftrue) ⊛ ‵ (right_with r.table id r.left) ⊛ raw (fact 𝓤 (s ≡ lent))))))
    (id⊢ 𝓤 (lays.post k u)) $
    await ! tt $ pick ! (λ s. split ! $ split ! $ drop ! $
    peeks ! Ri (Is Ri) (shows 𝓛 Ri) s (u ∷ []) (λ is.
    let e : u ∷ [] ≡ token ∷ [] = right_told (right.the_type).name (u ∷ []) is.0 in
    rewrite ! 0 (λ (ws : List Val). ‵ (Ri.own_val s ws)) e refl $
    move ! (1 ∷ []) $ pick ! (λ _. split ! $ drop ! $ split ! $ move ! (1 ∷ []) $ heard ! (s ≡ lent) (λ as_lent.
    lands_as ! (ap only e) refl (tt, (tt, tt)) $
    fsplit ! $ rewrite ! 0 (λ (n : ℕ). ‵ (right_owns n id)) same refl $ move ! (0 ∷ 1 ∷ 3 ∷ 4 ∷ 5 ∷ []) $
    sets ! (addr ! (through ! refl (stop !))) refl (tt, tt) $
    sets ! (of_opd ! (get ! refl)) refl (tt, tt) $ sets ! (agg ! (no_more !)) refl (tt, tt) $
    let m : Kept = record { at = p; state = 0 } in
    let pl : ClaimFields = claim_fields id i p p d.sharing d.word d.reserved in
    let no : Learnt X.Denot = Unknown in
    sets ! (agg ! (and_then ! (get ! refl) (and_then ! (lit ! tt) (and_then ! (get ! refl) (no_more !)))))
    refl (typed m (lit< tt)) $
    sets ! (of_opd ! (get ! refl)) refl (typed m (lit< tt)) $
    sets ! (agg ! (and_then ! (get ! refl) (and_then ! (get ! refl) (no_more !)))) refl (tt, ((typed m (lit< tt)).1, ((tt, tt), tt))) $
    nothing ! $ fpack ! (p ≡ p) (λ _. ftrue) refl $ fjoin ! $
    move ! (2 ∷ []) $ unhide ! $ fsplit ! $ fpick ! (λ j. drop ! $ fpick ! (λ t. fjoin ! $
    nothing ! $
    fpack ! (IsOf R r.table pl d) (λ _. ftrue)
    (tt, j, sym same, sym of.1 ∙ omega arith, near, refl, refl, refl) $
    fjoin ! $ fpack ! (BucketView × Turn) (has_at R κ r.table pl no) (d, t) $
    nothing ! $ fpack ! (IsStateOf R 0 no) (λ _. ftrue) refl $ fjoin ! $ fjoin ! $
    use0 𝓛 (‵ ((FieldsType ℓ R).own_val (fields_of ℓ R m) (value_of m ∷ [])))
    (made ℓ R 𝓛 m (lit< tt)) $
    fjoin ! $
    -- [the claim; the tokens; the lent right]
    let h : G.Denot = record {
      at = p;
      state = 0;
      marker = record {};
      bucket = p;
      table = r.table;
      sharing = d.sharing;
      word = d.word;
      id = id;
      index = i;
      reserved = d.reserved;
      learnt = no;
      left = r.left;
    } in
    move ! (0 ∷ 3 ∷ []) $ pair_in G Ri ! h s (value_of m) token $ move ! (1 ∷ 2 ∷ []) $ join ! $ move ! (1 ∷ []) $
    knows ! (s ≡ lent) as_lent $ knows ! (h.reserved ≡ d.reserved) refl $ join ! $
    knows ! (◌≡◌ {A = Option Gv} h.left r.left) refl $ join ! $
    knows ! (h.learnt ≡ Unknown) refl $
    join ! $
    use0 𝓛
    (raw (fact 𝓤 ((h.table ≡ r.table) × (◌≡◌ {A = Option ℕ} h.sharing d.sharing) × (h.word ≡ d.word) × (h.id ≡ id)
    × (h.index ≡ i))))
    (fact_i 𝓤 ((h.table ≡ r.table) × (◌≡◌ {A = Option ℕ} h.sharing d.sharing) × (h.word ≡ d.word) × (h.id ≡ id)
    × (h.index ≡ i))
    (emp 𝓤) (refl, refl, refl, refl, refl)) $
    join ! $ nothing ! $ nothing ! $ fjoin ! $ nothing ! $ fjoin ! $ nothing ! $ fjoin ! $
    returns ! (look_at ! 0 refl) $ free_all ! refl $ keep ! (3 ∷ 0 ∷ 2 ∷ 1 ∷ []) $
    by ! (leaves 𝓛 En hs c y (both (value_of m) token) (h, s) (tt, (tt, (tt, tt))) (tt, (tt, (tt, tt))))))))))))))))
