-- `again` copies the list.
use Rattle.thread_local_base.proofs.Names.{◌≡◌, [], ◌∷◌, refl, a_type, named, Val, vptr, inst_fn, ‵, raw}
use Rattle.thread_local_base.proofs.Names.{◌⊛◌, ◌$◌, ◌∵◌, !, qed, by, keep, split, fsplit, fjoin, use1, given, learn}
use Rattle.thread_local_base.proofs.Names.{no_more, and_then, returns, enter, alloc_all, pass_all, free_all, look_at}
use Rattle.thread_local_base.proofs.Names.{get, sets, agg, yes, RattleType, owns, types_at}
use Rattle.thread_local_base.proofs.Names.{plain, nothing, param, layouts, RefOf, shr_vals, shr_Tells, Stays}
use Rattle.thread_local_base.proofs.Names.{stay_dropped, walk_of, Goes-dropped, proved, leaves, alive, unhide}
use Rattle.std.specs.Prelude.{◌-◌, ◌^◌, ◌<◌, All}
use Rattle.thread_local_ids.specs.TokenLists.{tell_each}
use Rattle.thread_local_ids.specs.contracts.tokens.told_list.Told as Told
use Rattle.thread_local_ids.proofs.Made.{token_val}
use Rattle.thread_local_ids.proofs.TokenListLaws.{told_had, told_made}
use Rattle.thread_local_ids.specs.contracts.tokens.told_list.Told.again.{ended, clauses, Key.name as #self}
use Rattle.thread_local_ids.proofs.tokens.told_list.Told.again.Statement.{statement}
use Rattle.thread_local_ids.proofs.tokens.told_list.Told.again.Code as code
use Rattle.thread_local_base.proofs.Walking.{knows}

pub again_spec : {M : Type 1} → statement M
again_spec 𝓤 𝓛 𝓜 𝓡 wired T L =
    let R : RattleType = param 0 T in let En = ended T in let S : RattleType = Told.the_row R in
    let inst = layouts (a_type ∷ []) (T, tt) in let fn = inst_fn inst code.function in let c = clauses T 𝓛 𝓜.mem 𝓡.returns in
    let self = RefOf (0 ∷ []) tt (plain (λ _. S)) (λ _. tt) in
    let hs : Stays En.signature.params En.kept = (stay_dropped self yes, tt) in
    proved 𝓛 En hs c 𝓜 𝓡 (Goes-dropped 𝓛 2 self yes (λ κs x f. refl), tt) (#self inst) fn
    (code.unfolded 𝓤 𝓛.H 𝓜 𝓡 wired (T, tt))
    (λ κs. (shr_vals, tt)) (λ κs. (shr_Tells (named 0) κs.0 S, tt)) (λ κs qs bounds a gh are.
    let p : Val = vptr a.0.ref_ptr.0 a.0.ref_ptr.1 in let r : S.Denot = a.0.now in
    let Same : Type 0 = r ≡ r in
    let Low : Type 0 = All (λ p. p.id < 2 ^ 63 - 1) r in
    let y : (walk_of 𝓛 En hs c).Ghost = ((κs, qs, bounds, a, (p ∷ [], tt)), gh) in
    qed 𝓛 ((raw (alive 𝓛 En.signature κs qs) ⊛ ‵ (owns (types_at En.signature.params κs) a y.0.4))
    ∷ raw ((c κs a).requires gh) ∷ []) ∵
    split ! $ keep ! (1 ∷ 0 ∷ []) $
    fsplit ! $ fsplit ! $ keep ! (1 ∷ 3 ∷ []) $ unhide ! $
    use1 𝓛 (given Low (‵ (tell_each R r))) (told_had 𝓛 R r a.0.ref_ptr.0 a.0.ref_ptr.1 κs.0) $ learn ! (λ low.
    use1 𝓛 (‵ (S.own_val r (token_val ∷ []))) (told_made 𝓛 R r low) $
    enter ! _ _ _ _ _ $ alloc_all ! (λ l. pass_all ! refl ((tt, tt), tt) $
    sets ! (agg ! (no_more !)) refl (tt, tt) $ sets ! (agg ! (and_then ! (get ! refl) (no_more !))) refl (tt, (tt, tt)) $
    knows ! Same refl $ nothing ! $ nothing ! $ fjoin ! $
    returns ! (look_at ! 0 refl) $ free_all ! refl $ keep ! (3 ∷ 0 ∷ 2 ∷ 1 ∷ []) $
    by ! (leaves 𝓛 En hs c y token_val r (tt, tt) (tt, tt)))))
