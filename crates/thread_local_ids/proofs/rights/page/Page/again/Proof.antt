-- `again` copies what the page says.
use Rattle.thread_local_base.proofs.Names.{◌≡◌, [], ◌∷◌, refl, named, Val, vptr, ‵, raw}
use Rattle.thread_local_base.proofs.Names.{◌⊛◌, ◌$◌, ◌∵◌, !, qed, by, keep, drop, split, join, fsplit, fjoin, use0}
use Rattle.thread_local_base.proofs.Names.{no_more, and_then, returns, enter, alloc_all, pass_all, free_all, look_at}
use Rattle.thread_local_base.proofs.Names.{get, sets, agg, yes, RattleType, owns, types_at}
use Rattle.thread_local_base.proofs.Names.{plain, nothing, RefOf, shr_vals, shr_Tells, Stays}
use Rattle.thread_local_base.proofs.Names.{stay_dropped, walk_of, Goes-dropped, proved, leaves, alive, unhide}
use Rattle.thread_local_ids.specs.contracts.rights.page.Page as Page
use Rattle.thread_local_ids.proofs.Markers.{token, Mark, made}
use Rattle.thread_local_ids.specs.contracts.rights.page.Page.again.{ended, clauses, Key.name as #self}
use Rattle.thread_local_ids.proofs.rights.page.Page.again.Statement.{statement}
use Rattle.thread_local_ids.proofs.rights.page.Page.again.Code as code
use Rattle.thread_local_base.proofs.Walking.{knows}

pub again_spec : {M : Type 1} → statement M
again_spec 𝓤 𝓛 𝓜 𝓡 wired =
    let En = ended in let S : RattleType = Page.the_row in let fn = code.function in let c = clauses 𝓛 𝓜.mem 𝓡.returns in
    let self = RefOf (0 ∷ []) tt (plain (λ _. S)) (λ _. tt) in
    let hs : Stays En.signature.params En.kept = (stay_dropped self yes, tt) in
    proved 𝓛 En hs c 𝓜 𝓡 (Goes-dropped 𝓛 1 self yes (λ κs x f. refl), tt) #self fn
    (code.unfolded 𝓤 𝓛.H 𝓜 𝓡 wired)
    (λ κs. (shr_vals, tt)) (λ κs. (shr_Tells (named 0) κs.0 S, tt)) (λ κs qs bounds a gh are.
    let p : Val = vptr a.0.ref_ptr.0 a.0.ref_ptr.1 in let w = a.0.now in
    let r : S.Denot = record { marker = record {}; table = w.table; moves = w.moves; room = w.room } in
    let Told : Type 0 = (w.table ≡ w.table) × (w.moves ≡ w.moves) in
    let y : (walk_of 𝓛 En hs c).Ghost = ((κs, qs, bounds, a, (p ∷ [], tt)), gh) in
    qed 𝓛 ((raw (alive 𝓛 En.signature κs qs) ⊛ ‵ (owns (types_at En.signature.params κs) a y.0.4))
    ∷ raw ((c κs a).requires gh) ∷ []) ∵
    split ! $ keep ! (1 ∷ 0 ∷ []) $
    fsplit ! $ fsplit ! $ keep ! (1 ∷ 3 ∷ []) $ unhide ! $ fsplit ! $ drop ! $
    use0 𝓛 (‵ ((Mark (Page.the_type).name).own_val (tt, tt) (token ∷ []))) (made (Page.the_type).name 𝓛) $ fjoin ! $
    enter ! _ _ _ _ _ $ alloc_all ! (λ l. pass_all ! refl ((tt, tt), tt) $
    sets ! (agg ! (no_more !)) refl (tt, tt) $ sets ! (agg ! (and_then ! (get ! refl) (no_more !))) refl (tt, (tt, tt)) $
    knows ! (w.room ≡ w.room) refl $ knows ! Told (refl, refl) $ join ! $ nothing ! $ nothing ! $ fjoin ! $
    returns ! (look_at ! 0 refl) $ free_all ! refl $ keep ! (3 ∷ 0 ∷ 2 ∷ 1 ∷ []) $
    by ! (leaves 𝓛 En hs c y token r (tt, tt) (tt, tt))))
