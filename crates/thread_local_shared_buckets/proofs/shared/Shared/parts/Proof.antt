-- `parts` is the same `&`, to what the buckets consist of.
use Rattle.std.proofs.Common.{◌≡◌, ℕ, [], ◌∷◌, refl}
use mir.Syntax.{a_type, named}
use mir.Val.{Val, vptr}
use mir.MapTy.{inst_fn}
use base.Logic.{SProp, id⊢}
use base.Fml.{Lft, Share, Fml, ftrue, fsep, flft}
use types.Kit.{‵, raw, ◌⊛◌, at_ret, ◌$◌, ◌∵◌, !, qed, by, move, keep, use1, split, fsplit, fjoin, feq_i}
use types.Run.{stop, addr, of_opd, first, blocks, exec, returns, enter}
use types.ByLocal.{alloc_all, pass_all, free_all, look_at, get, through, sets, sets_last, env}
use contract.Running.{tables}
use denote.Exit.{yes}
use denote.RattleType.{RattleType, owns}
use denote.Signature.{types_at, plain}
use denote.Builtin.{RefOf}
use denote.Memory.{hidden_shr}
use denote.Param.{param, layouts}
use denote.Ref.{Bor, shr_vals, shr_Tells}
use denote.Steps.{nothing}
use denote.Triple.Walked.{Stays, stay_dropped, walk_of, Goes-dropped}
use Rattle.std.proofs.raw_atomic.Walks.{proved, leaves}
use Rattle.std.proofs.alloc.Shapes.{after}
use Rattle.thread_local_shared_buckets.specs.TableView.{TableView}
use Rattle.thread_local_shared_buckets.specs.contracts.parts.SharedParts as inner
use Rattle.thread_local_shared_buckets.specs.contracts.shared.Shared as shared
use Rattle.thread_local_shared_buckets.specs.contracts.shared.Shared.parts.{ended, clauses, Key.name as #self}
use Rattle.thread_local_shared_buckets.proofs.shared.Shared.parts.Statement.{statement}
use Rattle.thread_local_shared_buckets.proofs.shared.Shared.parts.Code as code
use Rattle.thread_local_base.proofs.Walking.{knows}

pub parts_spec : {M : Type 1} → statement M
parts_spec 𝓤 𝓛 𝓜 𝓡 wired T L =
    let 𝓣 = tables 𝓤 𝓛.H 𝓜 𝓡 𝓡.env in let R : RattleType = param 0 T in
    let Sh : RattleType = shared.the_row R in
    let In : RattleType = inner.the_row R in
    let En = ended T in let c = clauses T 𝓛 𝓜.mem 𝓡.returns in let inst = layouts (a_type ∷ []) (T, tt) in
    let fn = inst_fn inst code.function in let self = RefOf (0 ∷ []) tt (plain (λ _. Sh)) (λ _. tt) in
    let hs : Stays En.signature.params En.kept = (stay_dropped self yes, tt) in
    proved 𝓛 En hs c 𝓜 𝓡 (Goes-dropped 𝓛 2 self yes (λ κs x f. refl), tt) (#self inst) fn
    (code.unfolded 𝓤 𝓛.H 𝓜 𝓡 wired (T, tt)) (λ κs. (shr_vals, tt))
    (λ κs. (shr_Tells (named 0) κs.0 Sh, tt)) (λ κs qs bounds a gh are.
    let b : ℕ = a.0.ref_ptr.0 in let o : ℕ = a.0.ref_ptr.1 in let d : TableView = a.0.now in let κ : Lft = κs.0 in
    let q : Share = qs.0 in let others : Fml = fsep (flft κs.1.0 qs.1.0) ftrue in
    let y : (walk_of 𝓛 En hs c).Ghost = ((κs, qs, bounds, a, (vptr b o ∷ [], tt)), gh) in
    let Post : Val → SProp 𝓤 = (walk_of 𝓛 En hs c).post y in
    qed 𝓛 (((‵ (flft κ q) ⊛ ‵ others) ⊛ ‵ (owns (types_at En.signature.params κs) a y.0.4))
    ∷ raw ((c κs a).requires gh) ∷ []) ∵
    keep ! (0 ∷ []) $ split ! $ move ! (1 ∷ []) $ fsplit ! $ fsplit ! $ keep ! (1 ∷ 3 ∷ []) $
    enter ! _ _ _ _ _ $ alloc_all ! (λ l. pass_all ! refl ((tt, tt), tt) $ let Ev = env fn.locals l in
    first ! $ blocks ! $ sets ! (addr ! (through ! refl (stop !))) refl (tt, tt) $
    sets ! (of_opd ! (get ! refl)) refl (tt, tt) $
    sets_last ! (addr ! (through ! refl (stop !))) refl (tt, tt) $
    exec ! 𝓣.C 𝓣.Λ Ev (after 1 fn.body) (at_ret Ev Post) $ sets ! (of_opd ! (get ! refl)) refl (tt, tt) $
    -- [what the `&` holds; the tokens]
    use1 𝓛 (‵ (hidden_shr In κ d b o)) (id⊢ 𝓤 _) $ feq_i ! _ (vptr b o ∷ []) _ refl $ fjoin ! $
    knows ! (d ≡ d) refl $ nothing ! $ nothing ! $ fjoin ! $
    -- [nothing; the fact; the `&`; the tokens]
    let r : Bor TableView = record { ref_ptr = (b, o); now = d } in
    returns ! (look_at ! 0 refl) $ free_all ! refl $ keep ! (3 ∷ 0 ∷ 2 ∷ 1 ∷ []) $
    by ! (leaves 𝓛 En hs c y (vptr b o) r (tt, tt) (tt, tt))))
