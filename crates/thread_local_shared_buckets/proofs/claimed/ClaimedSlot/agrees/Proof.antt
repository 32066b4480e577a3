-- `agrees` is a ghost step under the bucket's invariant: a claim that has found no value contradicts
-- what is told of its id.
use Rattle.thread_local_base.proofs.Names.{◌≡◌, ℕ, [], ◌∷◌, refl, sym, Some, Option, dnil, a_type, named, Val}
use Rattle.thread_local_base.proofs.Names.{vptr, vunit, inst_fn, Lft, Share, Fml, ftrue, fsep, flft, ‵}
use Rattle.thread_local_base.proofs.Names.{raw, ◌⊛◌, given, later, ◌$◌, ◌∵◌, !, qed, by, move, keep, split}
use Rattle.thread_local_base.proofs.Names.{split3, join, fsplit, fsplit3, fjoin, fjoin3, learn, await, use3}
use Rattle.thread_local_base.proofs.Names.{rewrite, feq_i, of_opd, unit_lit, returns, enter, alloc_all, pass_all}
use Rattle.thread_local_base.proofs.Names.{free_all, look_at, sets, fact, yes, RattleType, owns}
use Rattle.thread_local_base.proofs.Names.{types_at, plain, named_lft, opens, closes, nothing, heard, unhide, param}
use Rattle.thread_local_base.proofs.Names.{bounded, RefOf, mut_vals, mut_Tells, shr_vals, shr_Tells, Stays}
use Rattle.thread_local_base.proofs.Names.{stay_dropped, stay_ref, walk_of, Goes-dropped, Goes-ref, proved, leaves}
use Rattle.std.proofs.Common.{IsSome}
use Rattle.thread_local_base.specs.Learnt.{Learnt, Holding}
use Rattle.thread_local_ids.specs.Told.{tells}
use Rattle.thread_local_ids.specs.contracts.tokens.token.Token as Token
use Rattle.thread_local_ids.proofs.TokenFields.{token_says, token_shown}
use types.Kit.{use1}
use Rattle.thread_local_shared_buckets.specs.Known.{HasLooked}
use Rattle.thread_local_shared_buckets.specs.Claims.{ClaimFields, claim_fields, claim_owns}
use Rattle.thread_local_shared_buckets.proofs.Agreed as agreed
use Rattle.thread_local_shared_buckets.specs.contracts.claimed.ClaimedSlot as claim
use Rattle.thread_local_shared_buckets.specs.contracts.claimed.ClaimedSlot.agrees.{ended, clauses, Key.name as #self}
use Rattle.thread_local_shared_buckets.proofs.claimed.ClaimedSlot.agrees.Statement.{statement}
use Rattle.thread_local_shared_buckets.proofs.claimed.ClaimedSlot.agrees.Code as code
use Rattle.thread_local_base.proofs.Walking.{knows}

pub agrees_spec : {M : Type 1} → statement M
agrees_spec 𝓤 𝓛 𝓜 𝓡 wired X L =
    let R : RattleType = param 0 X in let En = ended X in let c = clauses X 𝓛 𝓜.mem 𝓡.returns in
    let S : RattleType = Token.the_row R in let inst = bounded (a_type ∷ []) (X, tt) dnil in
    let fn = inst_fn inst code.function in let closed = code.unfolded 𝓤 𝓛.H 𝓜 𝓡 wired (X, tt) in
    let row = plain (λ κs. claim.the_row (named_lft 4 1 tt κs) R) in
    let seen = RefOf (2 ∷ []) tt (plain (λ _. S)) (λ _. tt) in
    let hs : Stays En.signature.params En.kept = (stay_ref (0 ∷ []) tt row, (stay_dropped seen yes, tt)) in
    proved 𝓛 En hs c 𝓜 𝓡 (Goes-ref 𝓛 4 0 tt row, (Goes-dropped 𝓛 4 seen yes (λ κs x f. refl), tt)) (#self inst) fn closed
    (λ κs. (mut_vals, (shr_vals, tt)))
    (λ κs. (mut_Tells (named 0) κs.0 (claim.the_row (named_lft 4 1 tt κs) R), (shr_Tells (named 2) κs.1.1.0 S, tt)))
    (λ κs qs bounds a gh are.
    let ℓ = named_lft 4 1 tt κs in let G : RattleType = claim.the_row ℓ R in let b : ℕ = a.0.ref_ptr.0 in
    let o : ℕ = a.0.ref_ptr.1 in let κ : Lft = κs.0 in let β : Lft = κs.1.0 in let q : Share = qs.1.0 in let h = a.0.now in
    let w = a.1.0.now in let x : X.Denot = w.value in let l₀ : Learnt X.Denot = h.learnt in
    let f : ClaimFields = claim_fields h.id h.index h.bucket h.at h.sharing h.word h.reserved in
    let rest : Fml = fsep (flft κs.1.1.0 qs.1.1.0) (fsep (flft κs.1.1.1.0 qs.1.1.1.0) ftrue) in
    let p' : Val = vptr a.1.0.ref_ptr.0 a.1.0.ref_ptr.1 in
    let y : (walk_of 𝓛 En hs c).Ghost = ((κs, qs, bounds, a, (mut_vals a.0, (p' ∷ [], tt))), gh) in
    let At : Type 0 = h.id ≡ w.id in
    let In : Type 0 = ◌≡◌ {A = Option ℕ} h.sharing w.sharing in
    let Named : Type 0 = IsSome h.sharing in
    let Known : Type 0 = HasLooked l₀ in
    let Holds : Type 0 = l₀ ≡ Holding x in
    let Same : Type 0 = h ≡ h in
    qed 𝓛 (((‵ (flft κ qs.0) ⊛ ‵ (flft β q) ⊛ ‵ rest)
    ⊛ ‵ (owns (types_at En.signature.params κs) a y.0.4))
    ∷ raw (fact 𝓤 _) ∷ raw (fact 𝓤 At) ∷ raw (fact 𝓤 In) ∷ raw (fact 𝓤 Named)
    ∷ raw (fact 𝓤 Known) ∷ []) ∵
    keep ! (2 ∷ 3 ∷ 4 ∷ 5 ∷ 0 ∷ []) $ heard ! At (λ at. heard ! In (λ same. heard ! Named (λ named_so. heard ! Known (λ known.
    split ! $ split3 ! $ move ! (3 ∷ []) $ fsplit3 ! $ move ! (1 ∷ []) $ fsplit ! $
    keep ! (1 ∷ 2 ∷ 4 ∷ 5 ∷ 6 ∷ []) $ unhide ! $
    use1 𝓛 (‵ (token_says R w)) (token_shown R 𝓛 w a.1.0.ref_ptr.0 a.1.0.ref_ptr.1 κs.1.1.0) $
    rewrite ! 0 (λ (z : Option ℕ). ‵ (tells R z w.id (Some x))) (sym same) refl $
    rewrite ! 0 (λ (j : ℕ). ‵ (tells R h.sharing j (Some x))) (sym at) refl $
    -- [what is told; the reference; its token; the bucket's; the others]
    enter ! _ _ _ _ _ $ alloc_all ! (λ l. pass_all ! refl ((tt, tt), ((tt, tt), tt)) $
    move ! (1 ∷ 2 ∷ []) $ fsplit3 ! $ move ! (1 ∷ 2 ∷ 3 ∷ []) $ opens ! tt G b o (λ us.
    -- [its cell; what the claim owns; the open borrow, in three entries; its first part; what is
    -- told; the bucket's token; the others]
    move ! (1 ∷ []) $ fsplit ! $ move ! (1 ∷ []) $ fsplit ! $ move ! (0 ∷ 8 ∷ 9 ∷ []) $
    use3 𝓛 (later (given Holds (‵ (claim_owns R β h.table f l₀ h.state) ⊛ ‵ (flft β q))))
    (agreed.agrees 𝓛 R x β h.table f h.state named_so 𝓡 l₀ known q) $
    await ! tt $ learn ! (λ holds. split ! $
    -- [what the claim owns; the bucket's token; the note; the fields; its cell; ..]
    move ! (0 ∷ 2 ∷ []) $ fjoin ! $ move ! (2 ∷ 0 ∷ []) $ fjoin ! $ move ! (2 ∷ 0 ∷ 3 ∷ 4 ∷ 5 ∷ []) $ closes ! tt G h us b o $
    -- [two parts of the reference; its token; the bucket's token; the first part; the others]
    sets ! (of_opd ! (unit_lit !)) refl (tt, tt) $
    move ! (4 ∷ 0 ∷ 1 ∷ []) $ fjoin3 ! $ nothing ! $ nothing ! $ fjoin ! $ move ! (1 ∷ 0 ∷ []) $
    fjoin ! $ move ! (2 ∷ 3 ∷ []) $ join ! $ move ! (2 ∷ 0 ∷ []) $ join ! $ move ! (1 ∷ 0 ∷ []) $
    -- [the reference; the tokens]
    feq_i ! _ (vunit ∷ []) _ refl $
    knows ! Same refl $
    knows ! Holds holds $ join ! $
    -- [the facts; the result; the reference; the tokens]
    returns ! (look_at ! 0 refl) $ free_all ! refl $ keep ! (3 ∷ 2 ∷ 1 ∷ 0 ∷ []) $
    by ! (leaves 𝓛 En hs c y vunit tt (h, (tt, tt)) (tt, (tt, tt)))))))))))
