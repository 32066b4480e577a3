-- Two rights to one id of one table would have one count twice.
use Rattle.std.proofs.Common.{◌≡◌, ◌≢◌, Bool, true, [], ◌∷◌, refl, sym}
use mir.Syntax.{named}
use mir.Val.{vunit}
use base.Fml.{ftrue, flft}
use types.Kit.{‵, raw, ◌⊛◌, given, later, ◌$◌, ◌∵◌, !, qed, move, split, split3, join, fsplit, fjoin, learn, suffices, frame}
use types.Kit.{rewrite, check, done, await, group, use1, use2, feq_i}
use types.Run.{of_opd, unit_lit, returns, enter}
use types.ByLocal.{alloc_all, pass_all, free_all, look_at, sets}
use denote.Ref.{mut_vals, mut_Tells}
use denote.Signature.{plain}
use denote.Steps.{nothing, heard}
use denote.Triple.Walked.{Stays, walk_of, stay_ref, Goes-ref, ends_at}
use contract.Monad.{fact}
use Rattle.std.proofs.raw_atomic.Walks.{proved}
use Rattle.thread_local_ids.specs.Rights.{right_in, tenure_of, taken_id}
use Rattle.thread_local_ids.proofs.BothLent as both
use Rattle.thread_local_ids.proofs.MoveElements.{tenures_apart}
use Rattle.thread_local_ids.proofs.Facts.{tells, tells_last}
use Rattle.thread_local_ids.specs.contracts.rights.right.Right.{the_row as A}
use Rattle.thread_local_ids.specs.contracts.rights.right.Right.apart as f
use Rattle.thread_local_ids.proofs.rights.right.Right.apart.Statement.{statement}
use Rattle.thread_local_ids.proofs.rights.right.Right.apart.Code as code

abbrev stayed : Stays f.ended.signature.params f.ended.kept
stayed = (stay_ref (0 ∷ []) tt (plain (λ _. A)), (stay_ref (1 ∷ []) tt (plain (λ _. A)), tt))

pub apart_spec : {M : Type 1} → statement M
apart_spec 𝓤 𝓛 𝓜 𝓡 wired =
    let c = f.clauses 𝓛 𝓜.mem 𝓡.returns in let W = walk_of 𝓛 f.ended stayed c in
    proved 𝓛 f.ended stayed c 𝓜 𝓡 (Goes-ref 𝓛 2 0 tt (plain (λ _. A)), (Goes-ref 𝓛 2 1 tt (plain (λ _. A)), tt))
    f.Key.name code.function (code.unfolded 𝓤 𝓛.H 𝓜 𝓡 wired)
    (λ κs. (mut_vals, (mut_vals, tt)))
    (λ κs. (mut_Tells (named 0) κs.0 A, (mut_Tells (named 1) κs.1.0 A, tt)))
    (λ κs qs bounds a g are.
    let r = a.0 in
    let s = a.1.0 in
    let x = r.now in
    let z = s.now in
    let first = both.first 𝓛 A κs.0 κs.1.0 r s in
    let second = both.second 𝓛 A κs.0 κs.1.0 r s in
    let y : W.Ghost = ((κs, qs, bounds, a, (mut_vals r, (mut_vals s, tt))), g) in
    let Held : Type 0 = (x.held ≡ true) × (z.held ≡ true) in
    let Apart : Type 0 = x.table ≡ z.table → taken_id x.before ≢ taken_id z.before in
    qed 𝓛 (((‵ (flft κs.0 qs.0) ⊛ ‵ (flft κs.1.0 qs.1.0) ⊛ ‵ ftrue) ⊛ ‵ first ⊛ ‵ second ⊛ ‵ ftrue)
    ∷ raw (fact 𝓤 Held) ∷ []) ∵
    move ! (1 ∷ []) $ heard ! Held (λ held. split ! $ move ! (1 ∷ []) $ split3 ! $ move ! (3 ∷ []) $ split3 ! $
    enter ! _ _ _ _ _ $ alloc_all ! (λ l. pass_all ! refl ((tt, tt), ((tt, tt), tt)) $ move ! (3 ∷ 4 ∷ 0 ∷ 1 ∷ []) $ group ! 4 $
    use1 𝓛 (later (given Apart (‵ first ⊛ ‵ second ⊛ ‵ (flft κs.0 qs.0) ⊛ ‵ (flft κs.1.0 qs.1.0))))
    (both.show 𝓛 A κs.0 κs.1.0 r s qs.0 qs.1.0 Apart (λ cs ds.
    qed 𝓛 (‵ (A.own_val x cs) ∷ ‵ (A.own_val z ds) ∷ []) ∵ fsplit ! $ move ! (2 ∷ []) $ fsplit ! $ move ! (3 ∷ 1 ∷ []) $
    rewrite ! 0 (λ (h : Bool). ‵ (right_in x.table x.before h x.lent x.left)) held.0 refl $
    rewrite ! 1 (λ (h : Bool). ‵ (right_in z.table z.before h z.lent z.left)) held.1 refl $
    fsplit ! $ move ! (2 ∷ []) $ fsplit ! $ move ! (2 ∷ 0 ∷ []) $
    use2 𝓛 (given Apart (‵ (tenure_of x.table x.before) ⊛ ‵ (tenure_of z.table z.before)))
    (tenures_apart 𝓛 x.table z.table x.before z.before) $
    learn ! (λ so. split ! $
    -- [the tenure; the other's; what else that one has; what else this one has; the fields of both, the other's first]
    move ! (1 ∷ 2 ∷ []) $ fjoin ! $ rewrite ! 0 (λ (h : Bool). ‵ (right_in z.table z.before h z.lent z.left)) (sym held.1) refl $
    move ! (3 ∷ 0 ∷ []) $ fjoin ! $
    move ! (1 ∷ 2 ∷ []) $ fjoin ! $ rewrite ! 0 (λ (h : Bool). ‵ (right_in x.table x.before h x.lent x.left)) (sym held.0) refl $
    move ! (2 ∷ 0 ∷ []) $ fjoin ! $ check ! so $ done !))) $ await ! tt $
    learn ! (λ so. split3 ! $ move ! (2 ∷ []) $ split ! $
    -- [a token for each; self; the other; nothing]
    sets ! (of_opd ! (unit_lit !)) refl (tt, tt) $ returns ! (look_at ! 0 refl) $ free_all ! refl $
    suffices ! _ (ends_at 𝓛 f.ended stayed c y vunit tt (x, (z, tt)) (tt, (tt, tt))) $
    nothing ! $ move ! (4 ∷ 0 ∷ []) $ fjoin ! $ move ! (3 ∷ 0 ∷ []) $ fjoin ! $
    feq_i ! _ (vunit ∷ []) _ refl $ move ! (1 ∷ 0 ∷ []) $ join ! $
    nothing ! $ move ! (3 ∷ 0 ∷ []) $ join ! $ move ! (2 ∷ 0 ∷ []) $ join ! $ join ! $ frame ! $
    tells ! so $ tells_last ! (refl, refl)))))
