-- `new` makes an empty list, which owns nothing.
use Rattle.thread_local_base.proofs.Names.{◌≡◌, [], ◌∷◌, refl, a_type, Val, inst_fn, SProp, ftrue, ‵, raw, ◌⊛◌}
use Rattle.thread_local_base.proofs.Names.{◌$◌, ◌∵◌, !, qed, by, keep, use1, split, no_more, get}
use Rattle.thread_local_base.proofs.Names.{and_then, returns, enter, alloc_all, pass_all, free_all, look_at, sets}
use Rattle.thread_local_base.proofs.Names.{agg, tables, RattleType, nothing, param, layouts}
use Rattle.thread_local_base.proofs.Names.{alive, walk_of, proved, leaves}
use Rattle.thread_local_ids.specs.contracts.tokens.told_list.Told as Told
use Rattle.std.specs.Prelude.{◌-◌, ◌^◌, ◌<◌}
use Rattle.std.proofs.lemmas.List.Elements.{All-nil}
use Rattle.thread_local_ids.proofs.Made.{token_val}
use Rattle.thread_local_ids.proofs.TokenListLaws.{told_made}
use Rattle.thread_local_ids.specs.contracts.tokens.told_list.Told.new.{ended, clauses, Key.name as #self}
use Rattle.thread_local_ids.proofs.tokens.told_list.Told.new.Statement.{statement}
use Rattle.thread_local_ids.proofs.tokens.told_list.Told.new.Code as code
use Rattle.thread_local_base.proofs.Walking.{knows}

pub new_spec : {M : Type 1} → statement M
new_spec 𝓤 𝓛 𝓜 𝓡 wired T L =
    let 𝓣 = tables 𝓤 𝓛.H 𝓜 𝓡 𝓡.env in let R : RattleType = param 0 T in let S : RattleType = Told.the_row R in
    let En = ended T in let c = clauses T 𝓛 𝓜.mem 𝓡.returns in let inst = layouts (a_type ∷ []) (T, tt) in
    let fn = inst_fn inst code.function in
    proved 𝓛 En tt c 𝓜 𝓡 tt (#self inst) fn (code.unfolded 𝓤 𝓛.H 𝓜 𝓡 wired (T, tt)) (λ κs. tt)
    (λ κs. tt) (λ κs qs bounds a gh are.
    let y : (walk_of 𝓛 En tt c).Ghost = ((κs, qs, bounds, a, tt), gh) in
    let Post : Val → SProp 𝓤 = (walk_of 𝓛 En tt c).post y in let r : S.Denot = [] in
    let Empty : Type 0 = r ≡ [] in
    qed 𝓛 ((raw (alive 𝓛 En.signature κs qs) ⊛ ‵ ftrue) ∷ raw ((c κs a).requires gh) ∷ []) ∵ split ! $ keep ! (0 ∷ []) $
    nothing ! $
    use1 𝓛 (‵ (S.own_val r (token_val ∷ []))) (told_made 𝓛 R r (All-nil (λ p. p.id < 2 ^ 63 - 1))) $
    enter ! 𝓣.C 𝓣.Λ fn [] Post $ alloc_all ! (λ l. pass_all ! refl tt $
    sets ! (agg ! (no_more !)) refl (tt, tt) $ sets ! (agg ! (and_then ! (get ! refl) (no_more !))) refl (tt, (tt, tt)) $
    knows ! Empty refl $ nothing ! $
    returns ! (look_at ! 0 refl) $ free_all ! refl $ keep ! (3 ∷ 0 ∷ 2 ∷ 1 ∷ []) $
    by ! (leaves 𝓛 En tt c y token_val r tt tt)))
