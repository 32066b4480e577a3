-- `page` copies what the right's page says.
use Rattle.thread_local_base.proofs.Names.{◌≡◌, [], ◌∷◌, refl, named, Val, vptr, ‵, raw}
use Rattle.thread_local_base.proofs.Names.{◌⊛◌, ◌$◌, ◌∵◌, !, qed, by, keep, drop, split, fsplit, fjoin, fpick, use0}
use Rattle.thread_local_base.proofs.Names.{no_more, and_then, returns, enter, alloc_all, pass_all, free_all, look_at}
use Rattle.thread_local_base.proofs.Names.{get, sets, agg, yes, RattleType, owns, types_at}
use Rattle.thread_local_base.proofs.Names.{plain, nothing, RefOf, shr_vals, shr_Tells, Stays}
use Rattle.thread_local_base.proofs.Names.{stay_dropped, walk_of, Goes-dropped, proved, leaves, alive, unhide}
use Rattle.thread_local_ids.specs.contracts.rights.page.Page as Page
use Rattle.thread_local_ids.specs.contracts.rights.right.Right as Right
use Rattle.thread_local_ids.specs.Rights.{seen_by}
use Rattle.thread_local_ids.proofs.Markers.{token, Mark, made}
use Rattle.thread_local_ids.specs.contracts.rights.right.Right.page.{ended, clauses, Key.name as #self}
use Rattle.thread_local_ids.proofs.rights.right.Right.page.Statement.{statement}
use Rattle.thread_local_ids.proofs.rights.right.Right.page.Code as code
use Rattle.thread_local_base.proofs.Walking.{knows}

pub page_spec : {M : Type 1} → statement M
page_spec 𝓤 𝓛 𝓜 𝓡 wired =
    let En = ended in let S : RattleType = Right.the_row in let fn = code.function in let c = clauses 𝓛 𝓜.mem 𝓡.returns in
    let self = RefOf (0 ∷ []) tt (plain (λ _. S)) (λ _. tt) in
    let hs : Stays En.signature.params En.kept = (stay_dropped self yes, tt) in
    proved 𝓛 En hs c 𝓜 𝓡 (Goes-dropped 𝓛 1 self yes (λ κs x f. refl), tt) #self fn
    (code.unfolded 𝓤 𝓛.H 𝓜 𝓡 wired)
    (λ κs. (shr_vals, tt)) (λ κs. (shr_Tells (named 0) κs.0 S, tt)) (λ κs qs bounds a gh are.
    let p : Val = vptr a.0.ref_ptr.0 a.0.ref_ptr.1 in let w = a.0.now in
    let Told : Type 0 = (w.table ≡ w.table) × (seen_by w.before w.held ≡ seen_by w.before w.held) in
    let y : (walk_of 𝓛 En hs c).Ghost = ((κs, qs, bounds, a, (p ∷ [], tt)), gh) in
    qed 𝓛 ((raw (alive 𝓛 En.signature κs qs) ⊛ ‵ (owns (types_at En.signature.params κs) a y.0.4))
    ∷ raw ((c κs a).requires gh) ∷ []) ∵
    split ! $ keep ! (1 ∷ 0 ∷ []) $
    fsplit ! $ fsplit ! $ keep ! (1 ∷ 3 ∷ []) $ unhide ! $ fsplit ! $ drop ! $ fpick ! (λ room.
    let r : Page.the_row.Denot = record { marker = record {}; table = w.table; moves = seen_by w.before w.held; room = room } in
    use0 𝓛 (‵ ((Mark (Page.the_type).name).own_val (tt, tt) (token ∷ []))) (made (Page.the_type).name 𝓛) $ fjoin ! $
    enter ! _ _ _ _ _ $ alloc_all ! (λ l. pass_all ! refl ((tt, tt), tt) $
    sets ! (agg ! (no_more !)) refl (tt, tt) $ sets ! (agg ! (and_then ! (get ! refl) (no_more !))) refl (tt, (tt, tt)) $
    knows ! Told (refl, refl) $ nothing ! $ nothing ! $ fjoin ! $
    returns ! (look_at ! 0 refl) $ free_all ! refl $ keep ! (3 ∷ 0 ∷ 2 ∷ 1 ∷ []) $
    by ! (leaves 𝓛 En hs c y token r (tt, tt) (tt, tt)))))
