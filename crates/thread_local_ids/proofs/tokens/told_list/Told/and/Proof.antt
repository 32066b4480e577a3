-- `and` puts a token before the list.
use Rattle.thread_local_base.proofs.Names.{◌≡◌, List, [], ◌∷◌, refl, a_type, named}
use Rattle.thread_local_base.proofs.Names.{inst_fn, ‵, raw, ◌⊛◌, ◌$◌, ◌∵◌, ! }
use Rattle.thread_local_base.proofs.Names.{qed, by, move, keep, split, fsplit, fsplit3, fjoin, no_more, and_then}
use Rattle.thread_local_base.proofs.Names.{use1, returns, enter, alloc_all, pass_all, agg, get}
use Rattle.thread_local_base.proofs.Names.{free_all, look_at, sets, RattleType, owns}
use Rattle.thread_local_base.proofs.Names.{types_at, nothing, param, layouts, shr_vals}
use Rattle.thread_local_base.proofs.Names.{shr_Tells, Stays, walk_of, proved, leaves}
use Rattle.thread_local_base.proofs.Names.{alive, unhide, given, learn}
use Rattle.std.specs.Prelude.{◌-◌, ◌^◌, ◌<◌, All}
use Rattle.std.proofs.lemmas.List.Elements.{All-cons}
use Rattle.thread_local_ids.specs.TokenLists.{tell_each}
use Rattle.thread_local_ids.specs.TokenViews.{TokenView}
use Rattle.thread_local_ids.specs.contracts.tokens.token.Token as Token
use Rattle.thread_local_ids.specs.contracts.tokens.told_list.Told as Told
use Rattle.thread_local_ids.proofs.Made.{token_val}
use Rattle.thread_local_ids.proofs.TokenFields.{token_says, token_had}
use Rattle.thread_local_ids.proofs.TokenListLaws.{told_had, told_made}
use Rattle.thread_local_ids.specs.contracts.tokens.told_list.Told.and.{ended, clauses, Key.name as #self}
use Rattle.thread_local_ids.proofs.tokens.told_list.Told.and.Statement.{statement}
use Rattle.thread_local_ids.proofs.tokens.told_list.Told.and.Code as code
use Rattle.thread_local_base.proofs.Walking.{knows}
use Rattle.thread_local_ids.proofs.TwoLent.{both_stay, both_go}

pub and_spec : {M : Type 1} → statement M
and_spec 𝓤 𝓛 𝓜 𝓡 wired T L =
    let R : RattleType = param 0 T in let En = ended T in let S : RattleType = Told.the_row R in
    let W : RattleType = Token.the_row R in
    let inst = layouts (a_type ∷ []) (T, tt) in let fn = inst_fn inst code.function in let c = clauses T 𝓛 𝓜.mem 𝓡.returns in
    let hs : Stays En.signature.params En.kept = both_stay S W tt tt in
    proved 𝓛 En hs c 𝓜 𝓡 (both_go S W tt tt 𝓛) (#self inst) fn (code.unfolded 𝓤 𝓛.H 𝓜 𝓡 wired (T, tt))
    (λ κs. (shr_vals, (shr_vals, tt))) (λ κs. (shr_Tells (named 0) κs.0 S, (shr_Tells (named 1) κs.1.0 W, tt)))
    (λ κs qs bounds a gh are.
    let ts : List (TokenView R.Denot) = a.0.now in let one : TokenView R.Denot = a.1.0.now in
    let r : S.Denot = one ∷ ts in
    let y : (walk_of 𝓛 En hs c).Ghost = ((κs, qs, bounds, a, (shr_vals a.0, (shr_vals a.1.0, tt))), gh) in
    let Same : Type 0 = r ≡ one ∷ ts in
    let Near : Type 0 = one.id < 2 ^ 63 - 1 in
    let Low : Type 0 = All (λ p. p.id < 2 ^ 63 - 1) ts in
    qed 𝓛 ((raw (alive 𝓛 En.signature κs qs) ⊛ ‵ (owns (types_at En.signature.params κs) a y.0.4))
    ∷ raw ((c κs a).requires gh) ∷ []) ∵
    split ! $ keep ! (1 ∷ 0 ∷ []) $ fsplit3 ! $ fsplit ! $ move ! (2 ∷ []) $ fsplit ! $
    keep ! (3 ∷ 1 ∷ 5 ∷ []) $ unhide ! $
    use1 𝓛 (given Low (‵ (tell_each R ts))) (told_had 𝓛 R ts a.0.ref_ptr.0 a.0.ref_ptr.1 κs.0) $ learn ! (λ low.
    move ! (1 ∷ []) $ unhide ! $
    use1 𝓛 (given Near (‵ (token_says R one))) (token_had R 𝓛 one a.1.0.ref_ptr.0 a.1.0.ref_ptr.1 κs.1.0) $ learn ! (λ near.
    -- [what the token says; what the tokens tell; the tokens]
    fjoin ! $
    use1 𝓛 (‵ (S.own_val r (token_val ∷ []))) (told_made 𝓛 R r (All-cons (λ p. p.id < 2 ^ 63 - 1) one ts near low)) $
    enter ! _ _ _ _ _ $ alloc_all ! (λ l. pass_all ! refl ((tt, tt), ((tt, tt), tt)) $
    sets ! (agg ! (no_more !)) refl (tt, tt) $ sets ! (agg ! (and_then ! (get ! refl) (no_more !))) refl (tt, (tt, tt)) $
    knows ! Same refl $ nothing ! $ nothing ! $ fjoin ! $ nothing ! $ fjoin ! $
    returns ! (look_at ! 0 refl) $ free_all ! refl $ keep ! (3 ∷ 0 ∷ 2 ∷ 1 ∷ []) $
    by ! (leaves 𝓛 En hs c y token_val r (tt, (tt, tt)) (tt, (tt, tt)))))))
