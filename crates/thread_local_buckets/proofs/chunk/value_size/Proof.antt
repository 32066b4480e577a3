-- `value_size` is the size of a value.
use Rattle.thread_local_base.proofs.Names.{◌≡◌, ℕ, ◌^◌, ◌<◌, [], ◌∷◌, refl, w64, a_type, Val, vint, inst_fn}
use Rattle.thread_local_base.proofs.Names.{SProp, ftrue, ‵, raw, ◌⊛◌, ◌$◌, ◌∵◌, !, qed, by, keep, split}
use Rattle.thread_local_base.proofs.Names.{fjoin, feq_i, flt_i, size_word, of_opd, returns, enter, alloc_all}
use Rattle.thread_local_base.proofs.Names.{pass_all, free_all, look_at, sets, tables, RattleType}
use Rattle.thread_local_base.proofs.Names.{nothing, param, layouts, alive, walk_of, proved, leaves}
use prog.Memory.{capped}
use prog.Capped.{capped_fits}
use Rattle.thread_local_buckets.specs.Slots.{stride}
use Rattle.thread_local_buckets.specs.contracts.chunk.value_size.{ended, clauses, Key.name as #self}
use Rattle.thread_local_buckets.proofs.chunk.value_size.Statement.{statement}
use Rattle.thread_local_buckets.proofs.chunk.value_size.Code as code
use Rattle.thread_local_base.proofs.Walking.{knows}

pub value_size_spec : {M : Type 1} → statement M
value_size_spec 𝓤 𝓛 𝓜 𝓡 wired T L =
    let 𝓣 = tables 𝓤 𝓛.H 𝓜 𝓡 𝓡.env in let R : RattleType = param 0 T in let En = ended T in
    let c = clauses T 𝓛 𝓜.mem 𝓡.returns in let inst = layouts (a_type ∷ []) (T, tt) in let fn = inst_fn inst code.function in
    proved 𝓛 En tt c 𝓜 𝓡 tt (#self inst) fn (code.unfolded 𝓤 𝓛.H 𝓜 𝓡 wired (T, tt)) (λ κs. tt)
    (λ κs. tt) (λ κs qs bounds a gh are.
    let y : (walk_of 𝓛 En tt c).Ghost = ((κs, qs, bounds, a, tt), gh) in
    let Post : Val → SProp 𝓤 = (walk_of 𝓛 En tt c).post y in
    qed 𝓛 ((raw (alive 𝓛 En.signature κs qs) ⊛ ‵ ftrue) ∷ raw ((c κs a).requires gh) ∷ []) ∵ split ! $ keep ! (0 ∷ []) $
    enter ! 𝓣.C 𝓣.Λ fn [] Post $ alloc_all ! (λ l. pass_all ! refl tt $
    let n : ℕ = capped (stride R) in
    let fits : n < 2 ^ 64 = capped_fits (stride R) in
    sets ! (of_opd ! (size_word !)) refl (tt, record { fits = fits }) $
    knows ! (n ≡ n) refl $ flt_i ! n (2 ^ 64) fits $
    feq_i ! _ (vint w64 n ∷ []) _ refl $ fjoin ! $ nothing ! $
    returns ! (look_at ! 0 refl) $ free_all ! refl $ keep ! (3 ∷ 0 ∷ 1 ∷ 2 ∷ []) $
    by ! (leaves 𝓛 En tt c y (vint w64 n) n tt tt)))
