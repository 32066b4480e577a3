-- `held_at` compares the right's tenure with a page.
use Rattle.std.proofs.Common.{◌≡◌, ◌≤◌, ℕ, Bool, true, List, [], ◌∷◌, refl, sym}
use mir.Syntax.{named}
use mir.Val.{Val, vptr, vunit}
use base.Fml.{ftrue, flft}
use types.Kit.{‵, raw, ◌⊛◌, given, ◌$◌, ◌∵◌, !, qed, move, keep, drop, rewrite, split, join, fsplit, fsplit3, fjoin, fjoin3}
use types.Kit.{fpack, learn, suffices, frame, use2, feq_i}
use types.Run.{of_opd, unit_lit, returns, enter}
use types.ByLocal.{alloc_all, pass_all, free_all, look_at, sets}
use denote.Exit.{yes}
use denote.Ref.{MutRef, mut_vals, mut_Tells}
use denote.Signature.{plain}
use denote.Steps.{nothing, opens, closes, heard}
use denote.Triple.Walked.{Stays, walk_of, stay_dropped, Goes-dropped, stay_ref, Goes-ref, ends_at}
use Rattle.std.proofs.raw_atomic.Walks.{proved}
use mathlib.Core.List.{IsPrefix}
use Rattle.thread_local_base.specs.IdMoves.{IdMove, Take, noted}
use Rattle.thread_local_ids.specs.Returns.{gives}
use contract.Monad.{fact}
use Rattle.thread_local_ids.specs.Rights.{right_in, tenure_of, page_owns, page_with, taken_id}
use Rattle.thread_local_ids.proofs.MoveElements.{tenure_held}
use Rattle.thread_local_ids.proofs.ReturnLaws.{still_held}
use Rattle.thread_local_ids.proofs.Facts.{tells, tells_last}
use Rattle.thread_local_ids.proofs.Markers.{token, told}
use Rattle.thread_local_ids.specs.contracts.rights.page.Page as history
use Rattle.thread_local_ids.specs.contracts.rights.right.Right.{the_row as R}
use Rattle.thread_local_ids.specs.contracts.rights.right.Right.held_at as f
use Rattle.thread_local_ids.proofs.rights.right.Right.held_at.Statement.{statement}
use Rattle.thread_local_ids.proofs.rights.right.Right.held_at.Code as code

abbrev stayed : Stays f.ended.signature.params f.ended.kept
stayed = (stay_ref (0 ∷ []) tt (plain (λ _. R)), (stay_dropped (plain (λ _. history.the_row)) yes, tt))

pub held_at_spec : {M : Type 1} → statement M
held_at_spec 𝓤 𝓛 𝓜 𝓡 wired =
    let c = f.clauses 𝓛 𝓜.mem 𝓡.returns in let W = walk_of 𝓛 f.ended stayed c in
    proved 𝓛 f.ended stayed c 𝓜 𝓡 (
      Goes-ref 𝓛 1 0 tt (plain (λ _. R)),
      (Goes-dropped 𝓛 1 (plain (λ _. history.the_row)) yes (λ κs x w. refl), tt),
    )
    f.Key.name code.function (code.unfolded 𝓤 𝓛.H 𝓜 𝓡 wired)
    (λ κs. (mut_vals, ((λ x. token ∷ []), tt)))
    (λ κs. (mut_Tells (named 0) κs.0 R, ((λ x vs is. told (history.the_type).name vs is.0), tt)))
    (λ κs qs bounds a g are.
    let r = a.0 in let mine = a.1.0 in let b = r.ref_ptr.0 in let o = r.ref_ptr.1 in
    let s = r.now in
    let seen : List IdMove = mine.moves in
    let id : ℕ = taken_id s.before in
    let Few : Type 0 = gives seen id ≤ gives s.before id in
    let Held : Type 0 = s.held ≡ true in
    let At : Type 0 = mine.table ≡ s.table in
    let Later : Type 0 = IsPrefix (noted s.before Take) seen in
    let y : W.Ghost = ((κs, qs, bounds, a, (mut_vals r, (token ∷ [], tt))), g) in let u : Val = vptr b o in
    qed 𝓛 (((‵ (flft κs.0 qs.0) ⊛ ‵ ftrue) ⊛ ‵ ((MutRef (named 0) κs.0 R).own_val r (u ∷ []))
    ⊛ ‵ (history.the_row.own_val mine (token ∷ [])) ⊛ ‵ ftrue)
    ∷ raw (fact 𝓤 Held) ∷ raw (fact 𝓤 At) ∷ raw (fact 𝓤 Later) ∷ []) ∵
    keep ! (1 ∷ 2 ∷ 3 ∷ 0 ∷ []) $ heard ! Held (λ held. heard ! At (λ same. heard ! Later (λ later. split ! $ split ! $ move ! (2 ∷ []) $ split ! $
    move ! (1 ∷ []) $ split ! $ fsplit ! $ keep ! (1 ∷ 3 ∷ 4 ∷ []) $
    fpack ! ℕ (page_with mine.table seen) mine.room $ rewrite ! 0 (λ (t : ℕ). ‵ (page_owns t seen)) same refl $
    enter ! _ _ _ _ _ $ alloc_all ! (λ l. pass_all ! refl ((tt, tt), ((tt, (tt, tt)), tt)) $
    move ! (1 ∷ []) $ fsplit3 ! $ move ! (1 ∷ 2 ∷ 4 ∷ []) $ opens ! tt R b o (λ us.
    -- [the cell; the rights; the open borrow, in three entries; self's first part; the right]
    move ! (1 ∷ []) $ fsplit ! $ move ! (1 ∷ []) $
    rewrite ! 0 (λ (h : Bool). ‵ (right_in s.table s.before h s.lent s.left)) held refl $ fsplit ! $
    -- [the tenure; what else it has; its fields; the cell; the open borrow, in three entries; ..]
    move ! (0 ∷ 8 ∷ []) $
    use2 𝓛 (given Few (‵ (tenure_of s.table s.before) ⊛ ‵ (page_owns s.table seen)))
    (tenure_held 𝓛 s.table s.before seen) $
    learn ! (λ few. split ! $ move ! (1 ∷ []) $ drop ! $ fjoin ! $
    rewrite ! 0 (λ (h : Bool). ‵ (right_in s.table s.before h s.lent s.left)) (sym held) refl $
    move ! (1 ∷ 0 ∷ []) $ fjoin ! $ move ! (1 ∷ 0 ∷ []) $ closes ! tt R s us b o $
    sets ! (of_opd ! (unit_lit !)) refl (tt, tt) $ returns ! (look_at ! 0 refl) $ free_all ! refl $
    suffices ! _ (ends_at 𝓛 f.ended stayed c y vunit tt (s, (tt, tt)) (tt, (tt, tt))) $
    -- [two parts of self; the token; self's first part]
    move ! (3 ∷ 0 ∷ 1 ∷ []) $ fjoin3 ! $ nothing ! $ nothing ! $ fjoin ! $ move ! (1 ∷ 0 ∷ []) $ fjoin ! $
    feq_i ! _ (vunit ∷ []) _ refl $ move ! (1 ∷ 0 ∷ []) $ join ! $
    nothing ! $ move ! (2 ∷ 0 ∷ []) $ join ! $ join ! $ frame ! $ tells ! (still_held s.before seen id later refl few) $ tells_last ! refl)))))))
