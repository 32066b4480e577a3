-- What a book tells of an id is what a token says of it.
use Rattle.thread_local_base.proofs.Names.{◌≡◌, ℕ, [], ◌∷◌, refl, Some, Option, a_type, named, vunit}
use Rattle.thread_local_base.proofs.Names.{inst_fn, ‵, raw, ◌⊛◌, given, ◌$◌, ◌∵◌, !, qed, by, move, keep}
use Rattle.thread_local_base.proofs.Names.{drop, split, fsplit, fsplit3, fjoin, learn, rewrite, feq_i, use2}
use Rattle.thread_local_base.proofs.Names.{of_opd, unit_lit, returns, enter, alloc_all, pass_all, free_all, look_at}
use Rattle.thread_local_base.proofs.Names.{sets, fact, RattleType, owns, types_at}
use Rattle.thread_local_base.proofs.Names.{join, nothing, heard, param, layouts, shr_vals, shr_Tells, Stays}
use Rattle.thread_local_base.proofs.Names.{walk_of, proved, leaves, alive, unhide}
use Rattle.std.proofs.Common.{IsSome, ◌-◌, ◌^◌, ◌<◌}
use types.Kit.{fpick, use1}
use Rattle.thread_local_base.specs.Buckets.{values}
use Rattle.thread_local_ids.specs.Told.{tells}
use Rattle.thread_local_ids.specs.contracts.tokens.book.Book as Book
use Rattle.thread_local_ids.specs.contracts.tokens.token.Token as Token
use Rattle.thread_local_ids.proofs.TokenFields.{token_says, token_had}
use Rattle.thread_local_ids.proofs.Rows.{contents_tell}
use Rattle.thread_local_ids.proofs.ToldElements.{tells_alike}
use Rattle.thread_local_ids.specs.contracts.tokens.book.Book.tells.{ended, clauses, Key.name as #self}
use Rattle.thread_local_ids.proofs.tokens.book.Book.tells.Statement.{statement}
use Rattle.thread_local_ids.proofs.tokens.book.Book.tells.Code as code
use Rattle.thread_local_base.proofs.Walking.{knows}
use Rattle.thread_local_ids.proofs.TwoLent.{both_stay, both_go}

pub tells_spec : {M : Type 1} → statement M
tells_spec 𝓤 𝓛 𝓜 𝓡 wired T L =
    let R : RattleType = param 0 T in let En = ended T in let S : RattleType = Token.the_row R in
    let B : RattleType = Book.the_row R in
    let inst = layouts (a_type ∷ []) (T, tt) in let fn = inst_fn inst code.function in let c = clauses T 𝓛 𝓜.mem 𝓡.returns in
    let hs : Stays En.signature.params En.kept = both_stay B S tt tt in
    proved 𝓛 En hs c 𝓜 𝓡 (both_go B S tt tt 𝓛) (#self inst) fn (code.unfolded 𝓤 𝓛.H 𝓜 𝓡 wired (T, tt))
    (λ κs. (shr_vals, (shr_vals, tt))) (λ κs. (shr_Tells (named 0) κs.0 B, (shr_Tells (named 1) κs.1.0 S, tt)))
    (λ κs qs bounds a gh are.
    let h = a.0.now in let w = a.1.0.now in
    let here : Option T.Denot = values h.contents w.id in
    let there : Option T.Denot = Some w.value in
    let y : (walk_of 𝓛 En hs c).Ghost = ((κs, qs, bounds, a, (shr_vals a.0, (shr_vals a.1.0, tt))), gh) in
    let Same : Type 0 = ◌≡◌ {A = Option ℕ} w.sharing h.sharing in
    let Named : Type 0 = IsSome h.sharing in
    let Near : Type 0 = w.id < 2 ^ 63 - 1 in
    qed 𝓛 ((raw (alive 𝓛 En.signature κs qs) ⊛ ‵ (owns (types_at En.signature.params κs) a y.0.4))
    ∷ raw (fact 𝓤 _) ∷ raw (fact 𝓤 Same) ∷ raw (fact 𝓤 Named) ∷ []) ∵
    keep ! (2 ∷ 3 ∷ 0 ∷ []) $ heard ! Same (λ same. heard ! Named (λ named_so.
    split ! $ move ! (1 ∷ []) $ fsplit3 ! $ fsplit ! $ move ! (2 ∷ []) $ fsplit ! $
    keep ! (3 ∷ 1 ∷ 5 ∷ []) $ unhide ! $ fsplit ! $ drop ! $ move ! (1 ∷ []) $ unhide ! $
    use1 𝓛 (given Near (‵ (token_says R w))) (token_had R 𝓛 w a.1.0.ref_ptr.0 a.1.0.ref_ptr.1 κs.1.0) $ learn ! (λ near.
    -- [what the token says; what the book tells; the tokens]
    rewrite ! 0 (λ (z : Option ℕ). ‵ (tells R z w.id there)) same refl $ move ! (1 ∷ []) $ fsplit ! $ fpick ! (λ is. drop ! $
    use1 𝓛 (‵ (tells R h.sharing w.id here)) (contents_tell 𝓛 R h.sharing h.contents is w.id near) $
    use2 𝓛
    (given (here ≡ there) (‵ (tells R h.sharing w.id here) ⊛ ‵ (tells R h.sharing w.id there)))
    (tells_alike 𝓛 R h.sharing named_so w.id here there) $
    learn ! (λ e. split ! $ drop ! $ drop ! $
    enter ! _ _ _ _ _ $ alloc_all ! (λ l. pass_all ! refl ((tt, tt), ((tt, tt), tt)) $
    sets ! (of_opd ! (unit_lit !)) refl (tt, tt) $
    knows ! Near near $ knows ! (here ≡ there) e $ join ! $
    feq_i ! _ (vunit ∷ []) _ refl $ nothing ! $ nothing ! $ fjoin ! $ nothing ! $ fjoin ! $
    -- [nothing; the result; the fact; the tokens]
    returns ! (look_at ! 0 refl) $ free_all ! refl $ keep ! (3 ∷ 0 ∷ 1 ∷ 2 ∷ []) $
    by ! (leaves 𝓛 En hs c y vunit tt (tt, (tt, tt)) (tt, (tt, tt))))))))))
