-- `renew` takes back what is due from the sharing, and begins another one. The memory stays as it
-- is.
use Rattle.std.proofs.Common.{Option, Some, false, IsSome, ◌≢◌, ◌≡◌, ℕ, [], ◌∷◌, refl}
use mir.Syntax.{a_type, named}
use mir.Val.{vunit}
use mir.MapTy.{inst_fn}
use base.Logic.{via}
use base.Fml.{GName, Fml, ftrue, fsep, flft}
use types.Owned.{basic}
use types.Kit.{some, given, later, await, pick, learn, use0, use2, ‵, raw, ◌⊛◌, ◌$◌, ◌∵◌, !, qed, by, move, keep}
use types.Kit.{split, join, fsplit, fsplit3, fjoin, fjoin3, feq_i}
use types.Run.{of_opd, unit_lit, returns, enter}
use types.ByLocal.{alloc_all, pass_all, free_all, look_at, sets}
use denote.RattleType.{RattleType, owns}
use denote.Signature.{types_at, plain}
use denote.Param.{param, layouts}
use denote.Param.Laws.{Laws, param_laws}
use denote.Ref.{mut_vals, mut_Tells}
use denote.Steps.{nothing, opens, closes}
use denote.Triple.Walked.{Stays, stay_ref, walk_of, Goes-ref}
use Rattle.std.proofs.raw_atomic.Walks.{proved, leaves}
use Rattle.thread_local_ids.specs.Sharings.{Belongs, is_first, later_of}
use Rattle.thread_local_ids.proofs.ToldElements.{source, source_new, later_belongs, later_not}
use Rattle.thread_local_shared_buckets.specs.TableView.{TableView}
use Rattle.thread_local_shared_buckets.specs.contracts.shared.Shared as shared
use Rattle.thread_local_shared_buckets.specs.contracts.shared.Shared.renew.{ended, clauses, Key.name as #self}
use Rattle.thread_local_shared_buckets.proofs.GrownLaws.{view_again, grown_again}
use Rattle.thread_local_shared_buckets.proofs.Turned.{shares_again}
use Rattle.thread_local_shared_buckets.proofs.shared.Shared.renew.Statement.{statement}
use Rattle.thread_local_shared_buckets.proofs.shared.Shared.renew.Code as code
use Rattle.thread_local_base.proofs.Walking.{knows}

pub renew_spec : {M : Type 1} → statement M
renew_spec 𝓤 𝓛 𝓜 𝓡 wired T L =
    let R : RattleType = param 0 T in let LR : Laws R = param_laws 0 T L in
    let Sh : RattleType = shared.the_row R in
    let En = ended T in let c = clauses T 𝓛 𝓜.mem 𝓡.returns in let inst = layouts (a_type ∷ []) (T, tt) in
    let fn = inst_fn inst code.function in let row = plain (λ _. Sh) in
    let hs : Stays En.signature.params En.kept = (stay_ref (0 ∷ []) tt row, tt) in
    proved 𝓛 En hs c 𝓜 𝓡 (Goes-ref 𝓛 2 0 tt row, tt) (#self inst) fn
    (code.unfolded 𝓤 𝓛.H 𝓜 𝓡 wired (T, tt)) (λ κs. (mut_vals, tt))
    (λ κs. (mut_Tells (named 0) κs.0 Sh, tt)) (λ κs qs bounds a gh are.
    let b : ℕ = a.0.ref_ptr.0 in let o : ℕ = a.0.ref_ptr.1 in let s : TableView = a.0.now in
    let table : ℕ = s.table in let past : Option ℕ = gh in
    let others : Fml = fsep (flft κs.1.0 qs.1.0) ftrue in
    let y : (walk_of 𝓛 En hs c).Ghost = ((κs, qs, bounds, a, (mut_vals a.0, tt)), gh) in
    qed 𝓛 (((‵ (flft κs.0 qs.0) ⊛ ‵ others) ⊛ ‵ (owns (types_at En.signature.params κs) a y.0.4))
    ∷ raw ((c κs a).requires gh) ∷ []) ∵
    keep ! (0 ∷ []) $ split ! $ split ! $ move ! (2 ∷ []) $ fsplit ! $ fsplit3 ! $ keep ! (0 ∷ 1 ∷ 2 ∷ 4 ∷ 5 ∷ []) $
    -- [three parts of the reference; its token; the other tokens]
    enter ! _ _ _ _ _ $ alloc_all ! (λ l. pass_all ! refl ((tt, tt), tt) $
    move ! (1 ∷ 2 ∷ 3 ∷ []) $ opens ! tt Sh b o (λ us.
    -- [its memory; the buckets; the open borrow, in three entries; its first part; the tokens]
    use0 𝓛 (later (some (λ (γ : GName). given (Some (later_of γ) ≢ past) (‵ (source 𝓛 γ 0)))))
    (via 𝓤 _ (source_new 𝓛 past) (basic 𝓛 _)) $
    await ! tt $ pick ! (λ γ. learn ! (λ new.
    let s' : TableView = view_again s table γ in
    move ! (2 ∷ 0 ∷ []) $
    use2 𝓛 (later (‵ (Sh.own_val s' us))) (shares_again 𝓛 R LR s table γ us) $ await ! tt $
    move ! (1 ∷ 0 ∷ 2 ∷ 3 ∷ 4 ∷ []) $ closes ! tt Sh s' us b o $
    sets ! (of_opd ! (unit_lit !)) refl (tt, tt) $
    move ! (3 ∷ 0 ∷ 1 ∷ []) $ fjoin3 ! $ nothing ! $ move ! (1 ∷ 0 ∷ []) $ fjoin ! $
    -- [the reference; the tokens]
    move ! (1 ∷ 2 ∷ []) $ join ! $
    feq_i ! _ (vunit ∷ []) _ refl $
    let Named : Type 0 = IsSome s'.sharing × (s'.sharing ≢ past) in
    let Grown : Type 0 = s'.grown_by_ids ≡ s.grown_by_ids in
    knows ! Grown (grown_again s table refl) $
    knows ! (s.reserved ≡ s.reserved) refl $ join ! $
    knows ! (is_first s'.sharing table ≡ false) (later_not γ table) $ join ! $
    knows ! (Belongs s'.sharing table) (later_belongs γ table) $ join ! $
    knows ! Named (refl, new) $ join ! $
    knows ! (table ≡ table) refl $ join ! $
    -- [the facts; the result; the tokens; the reference]
    returns ! (look_at ! 0 refl) $ free_all ! refl $ keep ! (2 ∷ 3 ∷ 1 ∷ 0 ∷ []) $
    by ! (leaves 𝓛 En hs c y vunit tt (s', tt) (tt, tt)))))))
