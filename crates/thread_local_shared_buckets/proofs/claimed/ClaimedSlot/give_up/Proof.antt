-- `give_up` is a ghost step under the bucket's invariant: what the claim has of the slot goes back,
-- for the right.
use Rattle.thread_local_base.proofs.Names.{◌≡◌, List, [], ◌∷◌, refl, ap, dnil, a_type, Val, inst_fn, id⊢}
use Rattle.thread_local_base.proofs.Names.{Lft, Share, Fml, ftrue, fsep, flft, ‵, raw, ◌⊛◌, some, later, ◌$◌, ◌∵◌, ! }
use Rattle.thread_local_base.proofs.Names.{qed, by, move, keep, drop, split, join, fsplit, fjoin, pick, use1}
use Rattle.thread_local_base.proofs.Names.{use2, await, rewrite, no_more, returns, enter, alloc_all, pass_all}
use Rattle.thread_local_base.proofs.Names.{free_all, look_at, env, fact, no, RattleType, owns}
use Rattle.thread_local_base.proofs.Names.{types_at, plain, named_lft, nothing, heard, peeks, param, bounded, Stays}
use Rattle.thread_local_base.proofs.Names.{stay_dropped, walk_of, Goes-dropped, proved, leaves, fm, Is, shows}
use Rattle.thread_local_base.proofs.Names.{lands_as}
use denote.Steps.{only}
use denote.Triple.Call.{calls_at}
use denote.Triple.Spec.{triple_of}
use Rattle.thread_local_base.proofs.Names.{ℕ, true, false, sym, yes, and_then, get}
use Rattle.thread_local_ids.specs.Rights.{right_owns, right_with}
use Rattle.thread_local_ids.specs.Taken.{IsRightTo}
use Rattle.thread_local_ids.specs.contracts.rights.right.Right as right
use Rattle.thread_local_ids.specs.contracts.rights.right.Right.take_back as taker
use Rattle.thread_local_ids.proofs.Markers.{token, told as right_told}
use Rattle.thread_local_ids.proofs.rights.right.Right.take_back.Met as taker_met
use Rattle.thread_local_shared_buckets.specs.Claims.{claim_fields}
use Rattle.thread_local_shared_buckets.specs.contracts.claimed.ClaimedSlot as claim
use Rattle.thread_local_shared_buckets.specs.contracts.claimed.ClaimedSlot.give_up.{ended, clauses, Key.name as #self}
use Rattle.thread_local_shared_buckets.proofs.ClaimedFields.{kept_of, value_of, told, in_word, typed}
use Rattle.thread_local_shared_buckets.proofs.Surrender.{surrenders}
use Rattle.thread_local_shared_buckets.proofs.claimed.ClaimedSlot.give_up.Statement.{statement}
use Rattle.thread_local_shared_buckets.proofs.claimed.ClaimedSlot.give_up.Code as code
use Rattle.thread_local_base.proofs.Walking.{knows}

pub give_up_spec : {M : Type 1} → statement M
give_up_spec 𝓤 𝓛 𝓜 𝓡 wired X L =
    let R : RattleType = param 0 X in let En = ended X in let c = clauses X 𝓛 𝓜.mem 𝓡.returns in
    let inst = bounded (a_type ∷ []) (X, tt) dnil in let fn = inst_fn inst code.function in
    let closed = code.unfolded 𝓤 𝓛.H 𝓜 𝓡 wired (X, tt) in let self = plain (λ κs. claim.the_row (named_lft 2 0 tt κs) R) in
    let Ri : RattleType = right.the_row in let mine = plain (λ _. Ri) in
    let hs : Stays En.signature.params En.kept = (stay_dropped self no, (stay_dropped mine yes, tt)) in
    let takes = triple_of 𝓛 taker.signature (taker.spec 𝓛 𝓜.mem 𝓡.returns) in
    proved 𝓛 En hs c 𝓜 𝓡 (Goes-dropped 𝓛 2 self no (λ κs x f. refl), (Goes-dropped 𝓛 2 mine yes (λ κs x f. refl), tt))
    (#self inst) fn closed
    (λ κs. ((λ x. value_of (kept_of x) ∷ []), ((λ x. token ∷ []), tt)))
    (λ κs. (
      (λ x vs so. told (named_lft 2 0 tt κs) R (kept_of x) vs so.0),
      ((λ x vs is. right_told (right.the_type).name vs is.0), tt),
    ))
    (λ κs qs bounds a gh are.
    let h = a.0 in let r = a.1.0 in let β : Lft = κs.0 in let q : Share = qs.0 in let others : Fml = fsep (flft κs.1.0 qs.1.0) ftrue in
    let ℓ = named_lft 2 0 tt κs in let v : Val = value_of (kept_of h) in
    let y : (walk_of 𝓛 En hs c).Ghost = ((κs, qs, bounds, a, (v ∷ [], (token ∷ [], tt))), gh) in
    let Mine : Type 0 = IsRightTo h.table h.id r in let Lent : Type 0 = (r.held ≡ true) × (r.lent ≡ true) in
    qed 𝓛 (((‵ (flft β q) ⊛ ‵ others) ⊛ ‵ (owns (types_at En.signature.params κs) a y.0.4))
    ∷ raw (fact 𝓤 _) ∷ raw (fact 𝓤 Mine) ∷ raw (fact 𝓤 (r.lent ≡ true)) ∷ []) ∵
    keep ! (2 ∷ 3 ∷ 0 ∷ []) $ heard ! Mine (λ of. heard ! (r.lent ≡ true) (λ lent.
    split ! $ split ! $ move ! (2 ∷ []) $ fsplit ! $ fsplit ! $ move ! (1 ∷ []) $ fsplit ! $ move ! (3 ∷ []) $ fsplit ! $
    keep ! (2 ∷ 3 ∷ 5 ∷ 6 ∷ 0 ∷ []) $
    enter ! _ _ _ _ _ $ alloc_all ! (λ l.
    pass_all ! refl (typed (kept_of h) (in_word ℓ R (kept_of h) (v ∷ []) are.0.0), ((tt, (tt, tt)), tt)) $
    let Ev = env fn.locals l in
    -- [what the claim owns; the note; the tokens; what was lent]
    move ! (0 ∷ 2 ∷ []) $
    use2 𝓛 (later (‵ (right_owns h.table h.id) ⊛ ‵ (flft β q)))
    (surrenders 𝓛 R β h.table (claim_fields h.id h.index h.bucket h.at h.sharing h.word h.reserved) 𝓡
    h.learnt h.state q) $
    await ! tt $ split ! $
    -- [the right; the token; the note; the other tokens; what was lent]
    move ! (1 ∷ 3 ∷ []) $ join ! $ move ! (1 ∷ 2 ∷ []) $ fjoin ! $
    rewrite ! 0 (λ (n : ℕ). ‵ (right_with n h.id h.left)) (sym of.0) refl $ rewrite ! 0 (λ (n : ℕ). ‵ (right_with r.table n h.left)) of.1 refl $
    let k : takes.Ghost = ((tt, tt, tt, (r, tt), (token ∷ [], tt)), h.left) in
    knows ! Lent (of.2, lent) $ join ! $ move ! (2 ∷ []) $ nothing ! $ move ! (1 ∷ 0 ∷ []) $ fjoin ! $ nothing ! $ join ! $ join ! $ use1 𝓛 (raw (takes.pre k)) (id⊢ 𝓤 (takes.pre k)) $
    calls_at ! (fm 𝓛 𝓜 𝓡) takes
    (taker_met.met 𝓤 𝓛 𝓜 𝓡 (code.calls-thread_local_ids::rights::right::Right::take_back 𝓡.env wired)) k
    (and_then ! (get ! refl) (no_more !)) (λ u.
    let back : Ri.Denot = record r { lent = false; left = h.left } in
    use1 𝓛 (later (some (λ (s : Ri.Denot).
    (‵ ftrue ⊛ ‵ (Ri.own_val s (u ∷ [])))
    ⊛ some (λ (_ : Unit {0} × Unit {0}). ‵ (fsep ftrue ftrue) ⊛ raw (fact 𝓤 (s ≡ back))))))
    (id⊢ 𝓤 (takes.post k u)) $
    await ! tt $ pick ! (λ s. split ! $ split ! $ drop ! $
    peeks ! Ri (Is Ri) (shows 𝓛 Ri) s (u ∷ []) (λ is.
    let e : u ∷ [] ≡ token ∷ [] = right_told (right.the_type).name (u ∷ []) is.0 in
    move ! (1 ∷ []) $ pick ! (λ _. split ! $ drop ! $ heard ! (s ≡ back) (λ same.
    rewrite ! 0 (λ (ws : List Val). ‵ (Ri.own_val s ws)) e refl $
    lands_as ! (ap only e) refl (tt, (tt, tt)) $
    knows ! (s ≡ back) same $ nothing ! $ nothing ! $ fjoin ! $ nothing ! $ fjoin ! $
    returns ! (look_at ! 0 refl) $ free_all ! refl $ keep ! (3 ∷ 0 ∷ 2 ∷ 1 ∷ []) $
    by ! (leaves 𝓛 En hs c y token s (tt, (tt, tt)) (tt, (tt, tt))))))))))))
