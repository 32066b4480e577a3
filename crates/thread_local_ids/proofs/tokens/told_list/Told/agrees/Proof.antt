-- The list's tokens of another one's id have its value.
use Rattle.thread_local_base.proofs.Names.{sym, ◌≡◌, List, [], ◌∷◌, refl, Some, Option, a_type, named}
use Rattle.thread_local_base.proofs.Names.{vunit, inst_fn, ‵, raw, ◌⊛◌, given, ◌$◌, ◌∵◌, ! }
use Rattle.thread_local_base.proofs.Names.{qed, by, move, keep, drop, split, fsplit, fsplit3, fjoin, learn}
use Rattle.thread_local_base.proofs.Names.{feq_i, use1, use2, of_opd, unit_lit, returns, enter, alloc_all, pass_all}
use Rattle.thread_local_base.proofs.Names.{free_all, look_at, sets, RattleType, owns}
use Rattle.thread_local_base.proofs.Names.{types_at, nothing, param, layouts, shr_vals}
use Rattle.thread_local_base.proofs.Names.{shr_Tells, Stays, walk_of, proved, leaves}
use Rattle.thread_local_base.proofs.Names.{alive, unhide, Fml}
use Rattle.thread_local_ids.specs.Told.{tells}
use Rattle.thread_local_ids.specs.TokenViews.{TokenView}
use Rattle.thread_local_ids.specs.TokenLists.{AllOf, tell_each}
use Rattle.thread_local_ids.specs.contracts.tokens.token.Token as Token
use Rattle.thread_local_ids.specs.contracts.tokens.told_list.Told as Told
use Rattle.thread_local_ids.proofs.TokenFields.{token_shown}
use Rattle.thread_local_ids.proofs.TokenListLaws.{slot_agrees, told_shown}
use Rattle.thread_local_ids.specs.contracts.tokens.told_list.Told.agrees.{ended, clauses, Key.name as #self}
use Rattle.thread_local_ids.proofs.tokens.told_list.Told.agrees.Statement.{statement}
use Rattle.thread_local_ids.proofs.tokens.told_list.Told.agrees.Code as code
use Rattle.std.proofs.lemmas.Option.{same_Some}
use Rattle.thread_local_base.proofs.Walking.{knows}
use Rattle.thread_local_ids.proofs.TwoLent.{both_stay, both_go}

pub agrees_spec : {M : Type 1} → statement M
agrees_spec 𝓤 𝓛 𝓜 𝓡 wired T L =
    let R : RattleType = param 0 T in let En = ended T in let S : RattleType = Told.the_row R in
    let W : RattleType = Token.the_row R in
    let inst = layouts (a_type ∷ []) (T, tt) in let fn = inst_fn inst code.function in let c = clauses T 𝓛 𝓜.mem 𝓡.returns in
    let hs : Stays En.signature.params En.kept = both_stay S W tt tt in
    proved 𝓛 En hs c 𝓜 𝓡 (both_go S W tt tt 𝓛) (#self inst) fn (code.unfolded 𝓤 𝓛.H 𝓜 𝓡 wired (T, tt))
    (λ κs. (shr_vals, (shr_vals, tt))) (λ κs. (shr_Tells (named 0) κs.0 S, (shr_Tells (named 1) κs.1.0 W, tt)))
    (λ κs qs bounds a gh are.
    let ts : List (TokenView R.Denot) = a.0.now in let w = a.1.0.now in
    let y : (walk_of 𝓛 En hs c).Ghost = ((κs, qs, bounds, a, (shr_vals a.0, (shr_vals a.1.0, tt))), gh) in
    let One : Fml = tells R w.sharing w.id (Some w.value) in
    let Same : Type 0 = AllOf w.sharing (λ p. p.id ≡ w.id → ◌≡◌ {A = Option R.Denot} (Some w.value) (Some p.value)) ts in
    let Agrees : Type 0 = AllOf w.sharing (λ p. p.id ≡ w.id → p.value ≡ w.value) ts in
    qed 𝓛 ((raw (alive 𝓛 En.signature κs qs) ⊛ ‵ (owns (types_at En.signature.params κs) a y.0.4))
    ∷ raw ((c κs a).requires gh) ∷ []) ∵
    split ! $ keep ! (1 ∷ 0 ∷ []) $ fsplit3 ! $ fsplit ! $ move ! (2 ∷ []) $ fsplit ! $
    keep ! (3 ∷ 1 ∷ 5 ∷ []) $ unhide ! $
    use1 𝓛 (‵ (tell_each R ts)) (told_shown 𝓛 R ts a.0.ref_ptr.0 a.0.ref_ptr.1 κs.0) $
    move ! (1 ∷ []) $ unhide ! $ use1 𝓛 (‵ One) (token_shown R 𝓛 w a.1.0.ref_ptr.0 a.1.0.ref_ptr.1 κs.1.0) $
    -- [what the token says; what the tokens tell; the tokens]
    use2 𝓛 (given Same (‵ One ⊛ ‵ (tell_each R ts))) (slot_agrees 𝓛 R w.sharing w.id (Some w.value) ts) $
    learn ! (λ e. split ! $ drop ! $ drop ! $
    enter ! _ _ _ _ _ $ alloc_all ! (λ l. pass_all ! refl ((tt, tt), ((tt, tt), tt)) $
    sets ! (of_opd ! (unit_lit !)) refl (tt, tt) $
    knows ! Agrees (λ name k d near same at. sym (same_Some w.value _ (e name k d near same at))) $
    feq_i ! _ (vunit ∷ []) _ refl $ nothing ! $ nothing ! $ fjoin ! $ nothing ! $ fjoin ! $
    -- [nothing; the result; the fact; the tokens]
    returns ! (look_at ! 0 refl) $ free_all ! refl $ keep ! (3 ∷ 0 ∷ 1 ∷ 2 ∷ []) $
    by ! (leaves 𝓛 En hs c y vunit tt (tt, (tt, tt)) (tt, (tt, tt))))))
