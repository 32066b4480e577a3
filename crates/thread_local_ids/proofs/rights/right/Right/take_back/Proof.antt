-- `take_back` joins the right's elements with its tenure.
use Rattle.std.proofs.Common.{◌≡◌, Bool, true, false, [], ◌∷◌, refl, sym}
use base.Fml.{ftrue}
use types.Kit.{‵, raw, ◌⊛◌, ◌$◌, ◌∵◌, !, qed, keep, move, rewrite, split, join, fsplit, fjoin, suffices, frame, use0}
use types.Run.{no_more, and_then, returns, enter}
use types.ByLocal.{alloc_all, pass_all, free_all, look_at, get, sets}
use types.Part.{agg}
use contract.Monad.{fact}
use denote.Exit.{yes}
use denote.Signature.{plain}
use denote.Steps.{nothing, heard}
use denote.Triple.Walked.{Stays, walk_of, stay_dropped, Goes-dropped, ends_at}
use Rattle.std.proofs.raw_atomic.Walks.{proved}
use Rattle.thread_local_ids.proofs.Markers.{token, told, Mark, made}
use Rattle.thread_local_ids.proofs.Facts.{tells_last}
use Rattle.thread_local_ids.specs.Rights.{right_in, right_with, taken_id}
use Rattle.thread_local_ids.specs.contracts.rights.right.Right as right
use Rattle.thread_local_ids.specs.contracts.rights.right.Right.take_back as f
use Rattle.thread_local_ids.proofs.rights.right.Right.take_back.Statement.{statement}
use Rattle.thread_local_ids.proofs.rights.right.Right.take_back.Code as code

abbrev stayed : Stays f.ended.signature.params f.ended.kept
stayed = (stay_dropped (plain (λ _. right.the_row)) yes, tt)

pub take_back_spec : {M : Type 1} → statement M
take_back_spec 𝓤 𝓛 𝓜 𝓡 wired =
    let c = f.clauses 𝓛 𝓜.mem 𝓡.returns in let W = walk_of 𝓛 f.ended stayed c in
    proved 𝓛 f.ended stayed c 𝓜 𝓡 (Goes-dropped 𝓛 0 (plain (λ _. right.the_row)) yes (λ κs x w. refl), tt)
    f.Key.name code.function (code.unfolded 𝓤 𝓛.H 𝓜 𝓡 wired)
    (λ κs. ((λ x. token ∷ []), tt)) (λ κs. ((λ x vs is. told (right.the_type).name vs is.0), tt)) (λ κs qs bounds a g are.
    let mine = a.0 in let y : W.Ghost = ((κs, qs, bounds, a, (token ∷ [], tt)), g) in
    let Lent : Type 0 = (mine.held ≡ true) × (mine.lent ≡ true) in
    qed 𝓛 ((‵ ftrue ⊛ ‵ (right.the_row.own_val mine (token ∷ [])) ⊛ ‵ ftrue)
    ∷ raw (fact 𝓤 Lent) ∷ ‵ (right_with mine.table (taken_id mine.before) g) ∷ []) ∵
    move ! (1 ∷ []) $ heard ! Lent (λ at. split ! $ move ! (1 ∷ []) $ split ! $ fsplit ! $ keep ! (1 ∷ 4 ∷ []) $
    rewrite ! 0 (λ (h : Bool). ‵ (right_in mine.table mine.before h mine.lent mine.left)) at.0 refl $
    rewrite ! 0 (λ (l : Bool). ‵ (right_in mine.table mine.before true l mine.left)) at.1 refl $ fsplit ! $
    -- [the tenure; nothing; the right]
    move ! (0 ∷ 2 ∷ []) $ fjoin ! $ rewrite ! 0 (λ (h : Bool). ‵ (right_in mine.table mine.before h false g)) (sym at.0) refl $ keep ! (0 ∷ []) $
    enter ! _ _ _ _ _ $ alloc_all ! (λ l. pass_all ! refl ((tt, (tt, tt)), tt) $
    sets ! (agg ! (no_more !)) refl (tt, tt) $ sets ! (agg ! (and_then ! (get ! refl) (no_more !))) refl (tt, (tt, tt)) $
    returns ! (look_at ! 0 refl) $ free_all ! refl $
    suffices ! _ (ends_at 𝓛 f.ended stayed c y token (record mine { lent = false; left = g }) (tt, tt) (tt, tt)) $
    use0 𝓛 (‵ ((Mark (right.the_type).name).own_val (tt, tt) (token ∷ []))) (made (right.the_type).name 𝓛) $ fjoin ! $
    nothing ! $ nothing ! $ join ! $ join ! $ nothing ! $ join ! $ frame ! $ tells_last ! refl)))
