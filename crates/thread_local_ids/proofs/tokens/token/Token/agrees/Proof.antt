-- Two tokens of one id in one sharing say one value.
use Rattle.thread_local_base.proofs.Names.{sym, ◌≡◌, ℕ, [], ◌∷◌, refl, Some, Option, a_type, named}
use Rattle.thread_local_base.proofs.Names.{vunit, inst_fn, ‵, raw, ◌⊛◌, given, ◌$◌, ◌∵◌, ! }
use Rattle.thread_local_base.proofs.Names.{qed, by, move, keep, drop, split, fsplit, fsplit3, fjoin, learn, rewrite}
use Rattle.thread_local_base.proofs.Names.{feq_i, use1, use2, of_opd, unit_lit, returns, enter, alloc_all, pass_all}
use Rattle.thread_local_base.proofs.Names.{free_all, look_at, sets, fact, RattleType, owns}
use Rattle.thread_local_base.proofs.Names.{types_at, nothing, heard, param, layouts, shr_vals}
use Rattle.thread_local_base.proofs.Names.{shr_Tells, Stays, walk_of, proved, leaves}
use Rattle.thread_local_base.proofs.Names.{alive, unhide}
use Rattle.std.proofs.Common.{IsSome}
use Rattle.thread_local_ids.specs.Told.{tells}
use Rattle.thread_local_ids.specs.contracts.tokens.token.Token as Token
use Rattle.thread_local_ids.proofs.TokenFields.{token_says, token_shown}
use Rattle.thread_local_ids.proofs.ToldElements.{tells_alike}
use Rattle.thread_local_ids.specs.contracts.tokens.token.Token.agrees.{ended, clauses, Key.name as #self}
use Rattle.thread_local_ids.proofs.tokens.token.Token.agrees.Statement.{statement}
use Rattle.thread_local_ids.proofs.tokens.token.Token.agrees.Code as code
use Rattle.std.proofs.lemmas.Option.{same_Some}
use Rattle.thread_local_base.proofs.Walking.{knows}
use Rattle.thread_local_ids.proofs.TwoLent.{both_stay, both_go}

pub agrees_spec : {M : Type 1} → statement M
agrees_spec 𝓤 𝓛 𝓜 𝓡 wired T L =
    let R : RattleType = param 0 T in let En = ended T in let S : RattleType = Token.the_row R in
    let inst = layouts (a_type ∷ []) (T, tt) in let fn = inst_fn inst code.function in let c = clauses T 𝓛 𝓜.mem 𝓡.returns in
    let hs : Stays En.signature.params En.kept = both_stay S S tt tt in
    proved 𝓛 En hs c 𝓜 𝓡 (both_go S S tt tt 𝓛) (#self inst) fn (code.unfolded 𝓤 𝓛.H 𝓜 𝓡 wired (T, tt))
    (λ κs. (shr_vals, (shr_vals, tt))) (λ κs. (shr_Tells (named 0) κs.0 S, (shr_Tells (named 1) κs.1.0 S, tt)))
    (λ κs qs bounds a gh are.
    let w = a.0.now in let v = a.1.0.now in
    let y : (walk_of 𝓛 En hs c).Ghost = ((κs, qs, bounds, a, (shr_vals a.0, (shr_vals a.1.0, tt))), gh) in
    let At : Type 0 = w.id ≡ v.id in
    let In : Type 0 = ◌≡◌ {A = Option ℕ} w.sharing v.sharing in
    let Named : Type 0 = IsSome w.sharing in
    qed 𝓛 ((raw (alive 𝓛 En.signature κs qs) ⊛ ‵ (owns (types_at En.signature.params κs) a y.0.4))
    ∷ raw (fact 𝓤 _) ∷ raw (fact 𝓤 At) ∷ raw (fact 𝓤 In) ∷ raw (fact 𝓤 Named) ∷ []) ∵
    keep ! (2 ∷ 3 ∷ 4 ∷ 0 ∷ []) $ heard ! At (λ at. heard ! In (λ same. heard ! Named (λ named_so.
    split ! $ move ! (1 ∷ []) $ fsplit3 ! $ fsplit ! $ move ! (2 ∷ []) $ fsplit ! $
    keep ! (3 ∷ 1 ∷ 5 ∷ []) $ unhide ! $
    use1 𝓛 (‵ (token_says R w)) (token_shown R 𝓛 w a.0.ref_ptr.0 a.0.ref_ptr.1 κs.0) $ move ! (1 ∷ []) $ unhide ! $
    use1 𝓛 (‵ (token_says R v)) (token_shown R 𝓛 v a.1.0.ref_ptr.0 a.1.0.ref_ptr.1 κs.1.0) $
    -- [what the other says; what this one says; the tokens]
    rewrite ! 0 (λ (z : Option ℕ). ‵ (tells R z v.id (Some v.value))) (sym same) refl $
    rewrite ! 0 (λ (j : ℕ). ‵ (tells R w.sharing j (Some v.value))) (sym at) refl $
    move ! (1 ∷ 0 ∷ []) $
    use2 𝓛 (given (Some w.value ≡ Some v.value)
    (‵ (tells R w.sharing w.id (Some w.value)) ⊛ ‵ (tells R w.sharing w.id (Some v.value))))
    (tells_alike 𝓛 R w.sharing named_so w.id (Some w.value) (Some v.value)) $
    learn ! (λ e. split ! $ drop ! $ drop ! $
    enter ! _ _ _ _ _ $ alloc_all ! (λ l. pass_all ! refl ((tt, tt), ((tt, tt), tt)) $
    sets ! (of_opd ! (unit_lit !)) refl (tt, tt) $
    knows ! (w.value ≡ v.value) (same_Some w.value v.value e) $
    feq_i ! _ (vunit ∷ []) _ refl $ nothing ! $ nothing ! $ fjoin ! $ nothing ! $ fjoin ! $
    -- [nothing; the result; the fact; the tokens]
    returns ! (look_at ! 0 refl) $ free_all ! refl $ keep ! (3 ∷ 0 ∷ 1 ∷ 2 ∷ []) $
    by ! (leaves 𝓛 En hs c y vunit tt (tt, (tt, tt)) (tt, (tt, tt)))))))))
