-- `default` makes a null pointer, which owns nothing.
use Rattle.thread_local_base.proofs.Names.{◌≡◌, [], ◌∷◌, refl, a_type, Val, inst_fn, SProp, ftrue, ‵, raw, ◌⊛◌}
use Rattle.thread_local_base.proofs.Names.{◌$◌, ◌∵◌, !, qed, by, keep, use0, split, fjoin, fpack, lit, no_more}
use Rattle.thread_local_base.proofs.Names.{and_then, returns, enter, alloc_all, pass_all, free_all, look_at, sets}
use Rattle.thread_local_base.proofs.Names.{agg, tables, RattleType, null_ptr, nothing, param, layouts}
use Rattle.thread_local_base.proofs.Names.{alive, walk_of, proved, leaves}
use Rattle.thread_local_buckets.specs.contracts.bucket_pointer.BucketPointer as one_pointer
use Rattle.thread_local_buckets.specs.contracts.bucket_pointer.BucketPointerDefault.default.{ended, clauses, Key.name as #self}
use Rattle.thread_local_buckets.proofs.PointerSteps.{pointer_val, pointer_good, FieldsType, made}
use Rattle.thread_local_buckets.proofs.bucket_pointer.BucketPointerDefault.default.Statement.{statement}
use Rattle.thread_local_buckets.proofs.bucket_pointer.BucketPointerDefault.default.Code as code
use Rattle.thread_local_base.proofs.Walking.{knows}

pub default_spec : {M : Type 1} → statement M
default_spec 𝓤 𝓛 𝓜 𝓡 wired T L =
    let 𝓣 = tables 𝓤 𝓛.H 𝓜 𝓡 𝓡.env in let R : RattleType = param 0 T in let PointerRow : RattleType = one_pointer.the_row R in
    let En = ended T in let c = clauses T 𝓛 𝓜.mem 𝓡.returns in let inst = layouts (a_type ∷ []) (T, tt) in
    let fn = inst_fn inst code.function in
    proved 𝓛 En tt c 𝓜 𝓡 tt (#self inst) fn (code.unfolded 𝓤 𝓛.H 𝓜 𝓡 wired (T, tt)) (λ κs. tt)
    (λ κs. tt) (λ κs qs bounds a gh are.
    let y : (walk_of 𝓛 En tt c).Ghost = ((κs, qs, bounds, a, tt), gh) in
    let Post : Val → SProp 𝓤 = (walk_of 𝓛 En tt c).post y in
    let h : PointerRow.Denot = record { at = null_ptr; slots = [] } in
    qed 𝓛 ((raw (alive 𝓛 En.signature κs qs) ⊛ ‵ ftrue) ∷ raw ((c κs a).requires gh) ∷ []) ∵ split ! $ keep ! (0 ∷ []) $
    enter ! 𝓣.C 𝓣.Λ fn [] Post $ alloc_all ! (λ l. pass_all ! refl tt $
    sets ! (agg ! (and_then ! (lit ! tt) (no_more !))) refl (pointer_good null_ptr) $
    knows ! (h.slots ≡ h.slots) refl $
    nothing ! $ fpack ! (null_ptr ≡ null_ptr) (λ _. ftrue) refl $
    use0 𝓛 (‵ ((FieldsType R).own_val (null_ptr, tt) (pointer_val null_ptr ∷ []))) (made R 𝓛 null_ptr) $ fjoin ! $ nothing ! $
    returns ! (look_at ! 0 refl) $ free_all ! refl $ keep ! (3 ∷ 0 ∷ 1 ∷ 2 ∷ []) $
    by ! (leaves 𝓛 En tt c y (pointer_val null_ptr) h tt tt)))
