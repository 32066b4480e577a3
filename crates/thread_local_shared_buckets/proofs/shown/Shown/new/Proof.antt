-- `new` keeps the fact that the bound on the type gives.
use Rattle.thread_local_base.proofs.Names.{[], ◌∷◌, refl, a_type, Val, inst_fn, SProp, ftrue, ‵, raw, ◌⊛◌, ◌$◌, ◌∵◌}
use Rattle.thread_local_base.proofs.Names.{ !, qed, by, keep, use0, split, fjoin, fpack, no_more, and_then, returns}
use Rattle.thread_local_base.proofs.Names.{enter, alloc_all, pass_all, free_all, look_at, get, sets, agg, tables}
use Rattle.thread_local_base.proofs.Names.{fact, RattleType, nothing, heard, param, layouts, alive, Stays, walk_of}
use Rattle.thread_local_base.proofs.Names.{proved, leaves}
use denote.Param.Send.{IsSync}
use denote.Signature.{named_lft}
use Rattle.thread_local_base.specs.Judged.{Shareable}
use Rattle.thread_local_shared_buckets.specs.contracts.shown.Shown.new.{ended, clauses, Key.name as #self}
use Rattle.thread_local_shared_buckets.proofs.Fields.{shown_val, Bare, made}
use Rattle.thread_local_shared_buckets.proofs.shown.Shown.new.Statement.{statement}
use Rattle.thread_local_shared_buckets.proofs.shown.Shown.new.Code as code

pub new_spec : {M : Type 1} → statement M
new_spec 𝓤 𝓛 𝓜 𝓡 wired T L =
    let 𝓣 = tables 𝓤 𝓛.H 𝓜 𝓡 𝓡.env in let R : RattleType = param 0 T in let En = ended T in
    let c = clauses T 𝓛 𝓜.mem 𝓡.returns in let inst = layouts (a_type ∷ []) (T, tt) in let fn = inst_fn inst code.function in
    let hs : Stays En.signature.params En.kept = tt in
    proved 𝓛 En hs c 𝓜 𝓡 tt (#self inst) fn (code.unfolded 𝓤 𝓛.H 𝓜 𝓡 wired (T, tt)) (λ κs. tt)
    (λ κs. tt) (λ κs qs bounds a gh are.
    let ℓ = named_lft 2 0 tt κs in let y : (walk_of 𝓛 En hs c).Ghost = ((κs, qs, bounds, a, tt), gh) in
    let Post : Val → SProp 𝓤 = (walk_of 𝓛 En hs c).post y in
    qed 𝓛 ((raw (alive 𝓛 En.signature κs qs) ⊛ ‵ ftrue) ∷ raw (fact 𝓤 _) ∷ raw (fact 𝓤 (IsSync R))
    ∷ ‵ ftrue ∷ []) ∵
    keep ! (2 ∷ 0 ∷ []) $ heard ! (IsSync R) (λ sync. split ! $ keep ! (0 ∷ []) $
    enter ! 𝓣.C 𝓣.Λ fn [] Post $ alloc_all ! (λ l. pass_all ! refl tt $
    sets ! (agg ! (no_more !)) refl (tt, tt) $ sets ! (agg ! (and_then ! (get ! refl) (no_more !))) refl (tt, (tt, tt)) $
    nothing ! $ fpack ! (Shareable R) (λ _. ftrue) sync.shared $
    use0 𝓛 (‵ ((Bare ℓ R).own_val (record {}, tt) (shown_val ∷ []))) (made ℓ R 𝓛) $ fjoin ! $
    nothing ! $ nothing ! $
    returns ! (look_at ! 0 refl) $ free_all ! refl $ keep ! (3 ∷ 0 ∷ 2 ∷ 1 ∷ []) $
    by ! (leaves 𝓛 En hs c y shown_val record { marker = record {} } tt tt))))
