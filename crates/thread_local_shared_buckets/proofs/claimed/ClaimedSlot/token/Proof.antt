-- `token` copies what a `&` to the claim holds that is told of its id.
use Rattle.thread_local_base.proofs.Names.{◌≡◌, ℕ, [], ◌∷◌, true, refl, Option, dnil, a_type, named, vptr}
use Rattle.thread_local_base.proofs.Names.{inst_fn, Lft, Fml, ftrue, fsep, flft, ‵, raw, ◌⊛◌, ◌$◌, ◌∵◌, ! }
use Rattle.thread_local_base.proofs.Names.{qed, by, move, keep, drop, split, join, fsplit, fjoin, use1, rewrite}
use Rattle.thread_local_base.proofs.Names.{no_more, and_then, returns, enter, alloc_all, pass_all, free_all, look_at}
use Rattle.thread_local_base.proofs.Names.{get, sets, agg, fact, yes, RattleType, owns, types_at}
use Rattle.thread_local_base.proofs.Names.{named_lft, nothing, heard, param, bounded, shr_vals, shr_Tells, Stays}
use Rattle.thread_local_base.proofs.Names.{stay_dropped, walk_of, Goes-dropped, proved, leaves, is_some}
use Rattle.std.proofs.Common.{◌-◌, ◌^◌, ◌<◌, Some, sym, arith, w64}
use denote.Plain.{uint_vals, uint_Tells}
use Rattle.thread_local_base.proofs.Names.{usize, plain, fsplit3}
use Rattle.thread_local_ids.specs.Told.{tells}
use Rattle.thread_local_base.specs.Learnt.{Learnt, Holding}
use Rattle.thread_local_ids.specs.contracts.tokens.token.Token as Token
use Rattle.thread_local_ids.proofs.TokenFields.{id_val, id_good, token_made}
use Rattle.thread_local_shared_buckets.specs.Known.{value_held}
use Rattle.thread_local_shared_buckets.proofs.Learning.{holding}
use Rattle.thread_local_shared_buckets.specs.Claims.{ClaimFields, claim_fields, shows_value}
use Rattle.thread_local_shared_buckets.specs.contracts.claimed.ClaimedSlot.token.{ended, clauses, Key.name as #self}
use Rattle.thread_local_shared_buckets.proofs.ClaimedFields.{claim_at, claim_ref, splits_ref}
use Rattle.thread_local_shared_buckets.proofs.claimed.ClaimedSlot.token.Statement.{statement}
use Rattle.thread_local_shared_buckets.proofs.claimed.ClaimedSlot.token.Code as code
use Rattle.thread_local_base.proofs.Walking.{knows}

pub token_spec : {M : Type 1} → statement M
token_spec 𝓤 𝓛 𝓜 𝓡 wired X L =
    let R : RattleType = param 0 X in let En = ended X in let c = clauses X 𝓛 𝓜.mem 𝓡.returns in
    let S : RattleType = Token.the_row R in let inst = bounded (a_type ∷ []) (X, tt) dnil in
    let fn = inst_fn inst code.function in let closed = code.unfolded 𝓤 𝓛.H 𝓜 𝓡 wired (X, tt) in
    let self = claim_ref R in let number = plain (λ _. usize) in
    let hs : Stays En.signature.params En.kept = (stay_dropped self yes, (stay_dropped number yes, tt)) in
    proved 𝓛 En hs c 𝓜 𝓡 (Goes-dropped 𝓛 3 self yes (λ κs x f. refl), (Goes-dropped 𝓛 3 number yes (λ κs x f. refl), tt)) (#self inst) fn closed
    (λ κs. (shr_vals, (uint_vals w64, tt))) (λ κs. (shr_Tells (named 0) κs.0 ((claim_at R).row κs), (uint_Tells w64, tt))) (λ κs qs bounds a gh are.
    let ℓ = named_lft 3 1 tt κs in let b : ℕ = a.0.ref_ptr.0 in let o : ℕ = a.0.ref_ptr.1 in let κ : Lft = κs.0 in
    let β : Lft = κs.1.0 in let h = a.0.now in let id : ℕ = a.1.0 in let l₀ : Learnt X.Denot = h.learnt in
    let f : ClaimFields = claim_fields h.id h.index h.bucket h.at h.sharing h.word h.reserved in
    let others : Fml = fsep (flft β qs.1.0) (fsep (flft κs.1.1.0 qs.1.1.0) ftrue) in
    let y : (walk_of 𝓛 En hs c).Ghost = ((κs, qs, bounds, a, (vptr b o ∷ [], (uint_vals w64 id, tt))), gh) in
    let Same : Type 0 = id ≡ h.id in
    let Near : Type 0 = id < 2 ^ 63 - 1 in
    let Asked : Type 0 = is_some (value_held l₀) ≡ true in
    qed 𝓛 (((‵ (flft κ qs.0) ⊛ ‵ others) ⊛ ‵ (owns (types_at En.signature.params κs) a y.0.4))
    ∷ raw (fact 𝓤 _) ∷ raw (fact 𝓤 Asked) ∷ raw (fact 𝓤 Same) ∷ raw (fact 𝓤 Near) ∷ []) ∵
    keep ! (2 ∷ 3 ∷ 4 ∷ 0 ∷ []) $ heard ! Asked (λ asked. heard ! Same (λ same. heard ! Near (λ near.
    let held = holding l₀ asked in let x : X.Denot = held.0 in
    let r : S.Denot = record { sharing = h.sharing; id = id; value = x } in
    let fits : id < 2 ^ 64 = omega (arith, near) in
    split ! $ split ! $ move ! (2 ∷ []) $ fsplit3 ! $ fsplit ! $ keep ! (1 ∷ 4 ∷ 5 ∷ []) $
    enter ! _ _ _ _ _ $ alloc_all ! (λ l. pass_all ! refl ((tt, tt), ((tt, record { fits = are.1.0.1 }), tt)) $
    splits_ref ! ℓ R κ h b o $ drop ! $
    rewrite ! 0 (λ (u : Learnt X.Denot). ‵ (shows_value R β f (value_held u) κ)) held.1 refl $
    fsplit ! $ drop ! $ fsplit ! $ drop ! $ fsplit ! $ drop ! $
    -- [what is told; the claim's fields; the tokens]
    rewrite ! 0 (λ (k : ℕ). ‵ (tells R h.sharing k (Some x))) (sym same) refl $
    use1 𝓛 (‵ (S.own_val r (id_val id ∷ []))) (token_made R 𝓛 r near) $
    sets ! (agg ! (no_more !)) refl (tt, tt) $
    sets ! (agg ! (and_then ! (get ! refl) (and_then ! (get ! refl) (no_more !)))) refl (id_good id fits) $
    move ! (2 ∷ 3 ∷ []) $ join ! $ move ! (1 ∷ []) $
    let Value : Type 0 = l₀ ≡ Holding x in
    let At : Type 0 = (◌≡◌ {A = Option ℕ} h.sharing h.sharing) × (id ≡ id) in
    knows ! Value held.1 $
    knows ! At (refl, refl) $ join ! $ nothing ! $ nothing ! $
    fjoin ! $ nothing ! $ fjoin ! $
    returns ! (look_at ! 0 refl) $ free_all ! refl $ keep ! (3 ∷ 0 ∷ 2 ∷ 1 ∷ []) $
    by ! (leaves 𝓛 En hs c y (id_val id) r (tt, (tt, tt)) (tt, (tt, tt))))))))
