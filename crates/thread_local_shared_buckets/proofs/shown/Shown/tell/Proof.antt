-- `tell` hands out the fact that a `&` to a `Shown` shows.
use Rattle.thread_local_base.proofs.Names.{[], ◌∷◌, ℕ, refl, yes, a_type, named, vptr, vunit, inst_fn}
use Rattle.thread_local_base.proofs.Names.{Lft, Share, Fml, ftrue, fsep, flft, ‵, raw, ◌⊛◌, ◌$◌, ◌∵◌, ! }
use Rattle.thread_local_base.proofs.Names.{qed, by, move, keep, drop, split, join, fsplit, fjoin, fpick, use1}
use Rattle.thread_local_base.proofs.Names.{feq_i, of_opd, unit_lit, returns, enter, alloc_all, pass_all, free_all}
use Rattle.thread_local_base.proofs.Names.{look_at, sets, env, RattleType, owns, types_at}
use Rattle.thread_local_base.proofs.Names.{plain, nothing, param, layouts, RefOf, shr_vals, shr_Tells, Stays}
use Rattle.thread_local_base.proofs.Names.{stay_dropped, walk_of, Goes-dropped, proved, leaves}
use base.Fml.{fhide}
use denote.Memory.{hidden_shr}
use denote.Opens.{unhide}
use denote.Signature.{named_lft}
use denote.Struct.Lending.{lent_out}
use Rattle.thread_local_base.specs.Fact.{fact as said_fact}
use Rattle.thread_local_base.specs.Judged.{Shareable}
use Rattle.thread_local_shared_buckets.specs.contracts.shown.Shown as Shown
use Rattle.thread_local_shared_buckets.specs.contracts.shown.Shown.tell.{ended, clauses, Key.name as #self}
use Rattle.thread_local_shared_buckets.proofs.Fields.{Bare}
use Rattle.thread_local_shared_buckets.proofs.shown.Shown.tell.Statement.{statement}
use Rattle.thread_local_shared_buckets.proofs.shown.Shown.tell.Code as code
use Rattle.thread_local_base.proofs.Walking.{knows}

pub tell_spec : {M : Type 1} → statement M
tell_spec 𝓤 𝓛 𝓜 𝓡 wired T L =
    let R : RattleType = param 0 T in let En = ended T in let c = clauses T 𝓛 𝓜.mem 𝓡.returns in
    let inst = layouts (a_type ∷ []) (T, tt) in let fn = inst_fn inst code.function in
    let row = plain (λ κs. Shown.the_row (named_lft 3 1 tt κs) R) in
    let self = RefOf (0 ∷ []) tt row (λ _. tt) in let hs : Stays En.signature.params En.kept = (stay_dropped self yes, tt) in
    proved 𝓛 En hs c 𝓜 𝓡 (Goes-dropped 𝓛 3 self yes (λ κs x f. refl), tt) (#self inst) fn
    (code.unfolded 𝓤 𝓛.H 𝓜 𝓡 wired (T, tt)) (λ κs. (shr_vals, tt))
    (λ κs. (shr_Tells (named 0) κs.0 (Shown.the_row (named_lft 3 1 tt κs) R), tt))
    (λ κs qs bounds a gh are.
    let ℓ = named_lft 3 1 tt κs in let D : RattleType = Bare ℓ R in let b : ℕ = a.0.ref_ptr.0 in let o : ℕ = a.0.ref_ptr.1 in
    let κ : Lft = κs.0 in let β : Lft = κs.1.0 in let q : Share = qs.0 in
    let rest : Fml = fsep (flft β qs.1.0) (fsep (flft κs.1.1.0 qs.1.1.0) ftrue) in
    let y : (walk_of 𝓛 En hs c).Ghost = ((κs, qs, bounds, a, (vptr b o ∷ [], tt)), gh) in
    qed 𝓛 (((‵ (flft κ q) ⊛ ‵ rest) ⊛ ‵ (owns (types_at En.signature.params κs) a y.0.4))
    ∷ raw ((c κs a).requires gh) ∷ []) ∵
    split ! $ split ! $ move ! (2 ∷ []) $ fsplit ! $ fsplit ! $ keep ! (1 ∷ 3 ∷ 4 ∷ []) $
    enter ! _ _ _ _ _ $ alloc_all ! (λ l. pass_all ! refl ((tt, tt), tt) $ let Ev = env fn.locals l in
    use1 𝓛 (‵ (hidden_shr D κ (record {}, tt) b o) ⊛ ‵ (fhide (said_fact (Shareable R))))
    (lent_out 𝓛 (Shown.struct ℓ R) (Shown.the_codes T.Denot R.coded) (Shown.the_heap β R) (Shown.the_lent β R) κ a.0.now b o) $
    split ! $ move ! (1 ∷ []) $ unhide ! $ fpick ! (λ shareable. drop ! $ drop ! $
    sets ! (of_opd ! (unit_lit !)) refl (tt, tt) $ join ! $
    feq_i ! _ (vunit ∷ []) _ refl $
    knows ! (Shareable R) shareable $ nothing ! $ nothing ! $ fjoin ! $
    returns ! (look_at ! 0 refl) $ free_all ! refl $ keep ! (3 ∷ 0 ∷ 2 ∷ 1 ∷ []) $
    by ! (leaves 𝓛 En hs c y vunit tt (tt, tt) (tt, tt)))))
