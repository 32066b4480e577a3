-- `again` reads the id, and copies what the token says.
use Rattle.thread_local_base.proofs.Names.{◌≡◌, ℕ, ◌-◌, ◌^◌, ◌<◌, List, [], ◌∷◌, refl, sym, a_type, named, Val, vptr, inst_fn, ‵, raw}
use Rattle.thread_local_base.proofs.Names.{◌⊛◌, given, ◌$◌, ◌∵◌, !, qed, by, move, keep, split, join, fsplit, fjoin, use1, learn}
use Rattle.thread_local_base.proofs.Names.{no_more, and_then, returns, enter, alloc_all, pass_all, free_all, look_at, rewrite}
use Rattle.thread_local_base.proofs.Names.{get, sets, agg, yes, RattleType, owns, types_at, Lft, Fml, ftrue, fsep, flft}
use Rattle.thread_local_base.proofs.Names.{plain, nothing, param, layouts, RefOf, shr_vals, shr_Tells, Stays, arith}
use Rattle.thread_local_base.proofs.Names.{stay_dropped, walk_of, Goes-dropped, proved, leaves, unhide, env}
use Rattle.thread_local_base.proofs.Names.{peeks, Is, shows, cell_at, of_opd, load, through, fld, stop, look_in, sub, whole}
use denote.Opens.{hide}
use denote.Steps.{looks, shuts}
use Rattle.thread_local_ids.specs.contracts.tokens.token.Token as Token
use Rattle.thread_local_ids.proofs.TokenFields.{id_val, id_good, FieldsType, fields_of, token_says, told, opened, token_opened, token_made}
use Rattle.thread_local_ids.specs.contracts.tokens.token.Token.again.{ended, clauses, Key.name as #self}
use Rattle.thread_local_ids.proofs.tokens.token.Token.again.Statement.{statement}
use Rattle.thread_local_ids.proofs.tokens.token.Token.again.Code as code
use Rattle.thread_local_base.proofs.Walking.{knows}

pub again_spec : {M : Type 1} → statement M
again_spec 𝓤 𝓛 𝓜 𝓡 wired T L =
    let R : RattleType = param 0 T in let En = ended T in let S : RattleType = Token.the_row R in let D : RattleType = FieldsType R in
    let inst = layouts (a_type ∷ []) (T, tt) in let fn = inst_fn inst code.function in let c = clauses T 𝓛 𝓜.mem 𝓡.returns in
    let self = RefOf (0 ∷ []) tt (plain (λ _. S)) (λ _. tt) in
    let hs : Stays En.signature.params En.kept = (stay_dropped self yes, tt) in
    proved 𝓛 En hs c 𝓜 𝓡 (Goes-dropped 𝓛 2 self yes (λ κs x f. refl), tt) (#self inst) fn
    (code.unfolded 𝓤 𝓛.H 𝓜 𝓡 wired (T, tt))
    (λ κs. (shr_vals, tt)) (λ κs. (shr_Tells (named 0) κs.0 S, tt)) (λ κs qs bounds a gh are.
    let b : ℕ = a.0.ref_ptr.0 in let o : ℕ = a.0.ref_ptr.1 in let κ : Lft = κs.0 in let t : S.Denot = a.0.now in
    let id : ℕ = t.id in
    let others : Fml = fsep (flft κs.1.0 qs.1.0) ftrue in
    let y : (walk_of 𝓛 En hs c).Ghost = ((κs, qs, bounds, a, (vptr b o ∷ [], tt)), gh) in
    let Low : Type 0 = id < 2 ^ 63 - 1 in
    let Same : Type 0 = t ≡ t in
    qed 𝓛 (((‵ (flft κ qs.0) ⊛ ‵ others) ⊛ ‵ (owns (types_at En.signature.params κs) a y.0.4))
    ∷ raw ((c κs a).requires gh) ∷ []) ∵
    split ! $ split ! $ move ! (2 ∷ []) $ fsplit ! $ fsplit ! $ keep ! (1 ∷ 3 ∷ 4 ∷ []) $
    enter ! _ _ _ _ _ $ alloc_all ! (λ l. pass_all ! refl ((tt, tt), tt) $ let Ev = env fn.locals l in
    unhide ! $
    use1 𝓛 (given Low (‵ (D.shr_at (fields_of R id) b o κ) ⊛ ‵ (token_says R t))) (token_opened R 𝓛 t b o κ) $ learn ! (λ low.
    let fits : id < 2 ^ 64 = omega (arith, low) in
    split ! $ hide ! $
    -- [its fields; what it says; the reference's token; the other tokens]
    move ! (0 ∷ 2 ∷ []) $
    looks ! tt D (opened R 𝓛) (fields_of R id) b o (λ q vs. move ! (1 ∷ []) $
    peeks ! D (Is D) (shows 𝓛 D) (fields_of R id) vs (λ is_so.
    let ev : vs ≡ id_val id ∷ [] = told R id vs is_so in
    rewrite ! 1 (λ (ws : List Val). ‵ (cell_at q D.mir ws b o)) ev refl $
    sets ! (of_opd ! (load ! (through ! refl (fld ! refl (stop !))) (look_in ! 1 (sub ! 0 refl (whole !)))))
    refl (tt, record { fits = fits }) $
    rewrite ! 1 (λ (ws : List Val). ‵ (cell_at q D.mir ws b o)) (sym ev) refl $
    move ! (1 ∷ 0 ∷ 2 ∷ []) $ shuts ! tt D q (fields_of R id) vs b o $
    -- [the reference's token; the fields; what it says; the other tokens]
    move ! (0 ∷ 3 ∷ []) $ join ! $ move ! (2 ∷ []) $
    use1 𝓛 (‵ (S.own_val t (id_val id ∷ []))) (token_made R 𝓛 t low) $
    sets ! (agg ! (no_more !)) refl (tt, tt) $
    sets ! (agg ! (and_then ! (get ! refl) (and_then ! (get ! refl) (no_more !)))) refl (id_good id fits) $
    -- [the token; the `&`'s tokens]
    knows ! Same refl $ nothing ! $ nothing ! $ fjoin ! $
    returns ! (look_at ! 0 refl) $ free_all ! refl $ keep ! (3 ∷ 0 ∷ 2 ∷ 1 ∷ []) $
    by ! (leaves 𝓛 En hs c y (id_val id) t (tt, tt) (tt, tt)))))))
