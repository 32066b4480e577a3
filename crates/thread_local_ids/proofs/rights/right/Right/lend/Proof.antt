-- `lend` parts the right's elements from its tenure.
use Rattle.std.proofs.Common.{Bool, true, [], ◌∷◌, refl, sym}
use base.Fml.{ftrue}
use types.Kit.{‵, raw, ◌⊛◌, ◌$◌, ◌∵◌, !, qed, keep, move, rewrite, split, join, fsplit, fjoin, suffices, frame, use0}
use types.Run.{no_more, and_then, returns, enter}
use types.ByLocal.{alloc_all, pass_all, free_all, look_at, get, sets}
use types.Part.{agg}
use denote.Exit.{yes}
use denote.Signature.{plain}
use denote.Steps.{nothing, heard}
use denote.Triple.Walked.{Stays, walk_of, stay_dropped, Goes-dropped, ends_at}
use Rattle.std.proofs.raw_atomic.Walks.{proved}
use Rattle.thread_local_ids.proofs.Markers.{token, told, Mark, made}
use Rattle.thread_local_ids.proofs.Facts.{tells_last}
use Rattle.thread_local_ids.specs.Rights.{right_in}
use Rattle.thread_local_ids.specs.contracts.rights.right.Right as right
use Rattle.thread_local_ids.specs.contracts.rights.right.Right.lend as f
use Rattle.thread_local_ids.proofs.rights.right.Right.lend.Statement.{statement}
use Rattle.thread_local_ids.proofs.rights.right.Right.lend.Code as code

abbrev stayed : Stays f.ended.signature.params f.ended.kept
stayed = (stay_dropped (plain (λ _. right.the_row)) yes, tt)

pub lend_spec : {M : Type 1} → statement M
lend_spec 𝓤 𝓛 𝓜 𝓡 wired =
    let c = f.clauses 𝓛 𝓜.mem 𝓡.returns in let W = walk_of 𝓛 f.ended stayed c in
    proved 𝓛 f.ended stayed c 𝓜 𝓡 (Goes-dropped 𝓛 0 (plain (λ _. right.the_row)) yes (λ κs x w. refl), tt)
    f.Key.name code.function (code.unfolded 𝓤 𝓛.H 𝓜 𝓡 wired)
    (λ κs. ((λ x. token ∷ []), tt)) (λ κs. ((λ x vs is. told (right.the_type).name vs is.0), tt)) (λ κs qs bounds a g are.
    let mine = a.0 in let y : W.Ghost = ((κs, qs, bounds, a, (token ∷ [], tt)), g) in
    qed 𝓛 ((‵ ftrue ⊛ ‵ (right.the_row.own_val mine (token ∷ [])) ⊛ ‵ ftrue)
    ∷ raw (f.requires-1 𝓛 κs 𝓜.mem 𝓡.returns mine) ∷ []) ∵
    move ! (1 ∷ []) $ heard ! _ (λ at. split ! $ move ! (1 ∷ []) $ split ! $ fsplit ! $ keep ! (1 ∷ []) $
    rewrite ! 0 (λ (h : Bool). ‵ (right_in mine.table mine.before h mine.lent mine.left)) at.0 refl $
    rewrite ! 0 (λ (l : Bool). ‵ (right_in mine.table mine.before true l mine.left)) at.1 refl $ fsplit ! $
    -- [the tenure; the right]
    enter ! _ _ _ _ _ $ alloc_all ! (λ l. pass_all ! refl ((tt, (tt, tt)), tt) $
    sets ! (agg ! (no_more !)) refl (tt, tt) $ sets ! (agg ! (and_then ! (get ! refl) (no_more !))) refl (tt, (tt, tt)) $
    returns ! (look_at ! 0 refl) $ free_all ! refl $
    suffices ! _ (ends_at 𝓛 f.ended stayed c y token (record mine { lent = true }) (tt, tt) (tt, tt)) $
    nothing ! $ move ! (1 ∷ 0 ∷ []) $ fjoin ! $
    rewrite ! 0 (λ (h : Bool). ‵ (right_in mine.table mine.before h true mine.left)) (sym at.0) refl $
    use0 𝓛 (‵ ((Mark (right.the_type).name).own_val (tt, tt) (token ∷ []))) (made (right.the_type).name 𝓛) $ fjoin ! $
    nothing ! $ nothing ! $ join ! $ join ! $ nothing ! $ join ! $ frame ! $ frame ! $ tells_last ! refl)))
