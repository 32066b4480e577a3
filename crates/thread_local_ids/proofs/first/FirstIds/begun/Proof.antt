-- `begun` makes the elements of a new table under a fresh name, and puts them beside a word that holds
-- no id.
use Rattle.thread_local_base.proofs.Names.{◌≡◌, ℕ, ◌^◌, List, [], ◌∷◌, refl, lit<, w64, named, Val}
use Rattle.thread_local_base.proofs.Names.{vint, vptr, via, ftrue, fsep, ‵, raw, ◌⊛◌, ◌$◌, ◌∵◌}
use Rattle.thread_local_base.proofs.Names.{ !, qed, by, move, keep, split, join, fsplit, fjoin, fpack, pick, later, await}
use Rattle.thread_local_base.proofs.Names.{use0, feq_i, flt_i, get, lit, no_more, and_then, returns, enter, alloc_all}
use Rattle.thread_local_base.proofs.Names.{pass_all, free_all, look_at, sets, agg, yes, RattleType, owns, types_at, plain, nothing}
use Rattle.thread_local_base.proofs.Names.{u64, RefOf, shr_vals, shr_Tells, Stays, stay_dropped, alive}
use Rattle.thread_local_base.proofs.Names.{walk_of, Goes-dropped, proved, leaves}
use Rattle.thread_local_base.proofs.Walking.{knows}
use Rattle.std.proofs.Common.{max}
use base.Logic.{ex}
use types.Logic.{sem}
use types.Kit.{some}
use types.Owned.{basic}
use denote.RattleType.{Valss}
use denote.Laws.{Typed}
use denote.Struct.Struct.{within}
use denote.Struct.Tuple.{Tuple}
use mir.Val.{vstruct, vcons, vnil}
use Rattle.thread_local_base.specs.IdMoves.{IdMove}
use Rattle.thread_local_ids.specs.FirstIds.{lies_with}
use Rattle.thread_local_ids.proofs.Begun.{begun, begins}
use Rattle.thread_local_ids.proofs.Markers.{token, Mark, made}
use Rattle.thread_local_base.specs.contracts.manager.ThreadIdManager as manager
use Rattle.thread_local_ids.specs.contracts.rights.right.SlotRights as slots
use Rattle.thread_local_ids.specs.contracts.rights.page.Page as page
use Rattle.thread_local_ids.specs.contracts.first.Log as log
use Rattle.thread_local_ids.specs.contracts.first.FirstIds as words
use Rattle.thread_local_ids.specs.contracts.first.FirstIds.TheInside as inside
use Rattle.thread_local_ids.specs.contracts.first.FirstIds.begun.{ended, clauses, Key.name as #self}
use Rattle.thread_local_ids.proofs.first.FirstIds.begun.Statement.{statement}
use Rattle.thread_local_ids.proofs.first.FirstIds.begun.Code as code

pub begun_spec : {M : Type 1} → statement M
begun_spec 𝓤 𝓛 𝓜 𝓡 wired =
    let c = clauses 𝓛 𝓜.mem 𝓡.returns in
    let fn = code.function in
    let Fi : RattleType = words.the_row in
    let F : RattleType = inside.the_row in
    let D = denote.Struct.Declared.shape inside.the_type in
    let Lg : RattleType = log.the_row in
    let Pa : RattleType = page.the_row in
    let Sl : RattleType = slots.the_row in
    let Two : RattleType = Tuple (Pa ∷ Sl ∷ []) in
    let self = RefOf (0 ∷ []) tt (plain (λ _. manager.the_row)) (λ _. tt) in
    let hs : Stays ended.signature.params ended.kept = (stay_dropped self yes, tt) in
    proved 𝓛 ended hs c 𝓜 𝓡 (Goes-dropped 𝓛 1 self yes (λ κs x f. refl), tt) #self fn
    (code.unfolded 𝓤 𝓛.H 𝓜 𝓡 wired)
    (λ κs. (shr_vals, tt)) (λ κs. (shr_Tells (named 0) κs.0 manager.the_row, tt)) (λ κs qs bounds a gh are.
    let room : ℕ = max 58 a.0.now.room in
    let y : (walk_of 𝓛 ended hs c).Ghost = ((κs, qs, bounds, a, (vptr a.0.ref_ptr.0 a.0.ref_ptr.1 ∷ [], tt)), gh) in
    let v : Val = vstruct (vcons (vint w64 0) vnil) in
    let shown : Val = vstruct (vcons token (vcons token vnil)) in
    let all : Val = vstruct (vcons v (vcons token (vcons shown vnil))) in
    let Begun = λ (γ : ℕ). sem 𝓛 (begun 𝓛 room γ) in
    qed 𝓛 ((raw (alive 𝓛 ended.signature κs qs) ⊛ ‵ (owns (types_at ended.signature.params κs) a y.0.4))
    ∷ raw ((c κs a).requires gh) ∷ []) ∵
    keep ! (0 ∷ []) $ split ! $ keep ! (0 ∷ []) $
    enter ! _ _ _ _ _ $ alloc_all ! (λ l. pass_all ! refl ((tt, tt), tt) $
    sets ! (agg ! (and_then ! (lit ! tt) (no_more !))) refl (tt, (record { fits = lit< tt }, tt)) $
    sets ! (agg ! (no_more !)) refl (tt, tt) $ sets ! (agg ! (and_then ! (get ! refl) (no_more !))) refl (tt, (tt, tt)) $
    sets ! (agg ! (no_more !)) refl (tt, tt) $ sets ! (agg ! (and_then ! (get ! refl) (no_more !))) refl (tt, (tt, tt)) $
    sets ! (agg ! (no_more !)) refl (tt, tt) $ sets ! (agg ! (and_then ! (get ! refl) (no_more !))) refl (tt, (tt, tt)) $
    sets ! (agg ! (and_then ! (get ! refl) (and_then ! (get ! refl) (no_more !)))) refl (tt, ((tt, tt), ((tt, tt), tt))) $
    sets ! (agg ! (and_then ! (get ! refl) (and_then ! (get ! refl) (and_then ! (get ! refl) (no_more !))))) refl
    (tt, ((record { fits = lit< tt }, tt), ((tt, tt), (((tt, tt), ((tt, tt), tt)), tt)))) $
    use0 𝓛 (later (some (λ (γ : ℕ). ‵ (begun 𝓛 room γ)))) (via 𝓤 _ (begins 𝓛 room) (basic 𝓛 (ex 𝓤 Begun))) $ await ! tt $ pick ! (λ γ.
    let p : Pa.Denot = record { marker = record {}; table = γ; moves = []; room = room } in
    let s : Sl.Denot = record { marker = record {}; table = γ } in
    let g : Lg.Denot = record { marker = record {}; table = γ; moves = [] } in
    fsplit ! $ nothing ! $ flt_i ! 0 (2 ^ 64) (lit< tt) $ feq_i ! _ (vint w64 0 ∷ []) _ refl $ fjoin ! $ fjoin ! $
    feq_i ! _ (v ∷ []) _ refl $ fjoin ! $
    fpack ! (Valss (u64 ∷ [])) (within D (0, tt) (v ∷ [])) (vint w64 0 ∷ [], tt) $ fjoin ! $
    fpack ! ℕ (λ n. fsep (F.own_val (record { word = n }) (v ∷ [])) (lies_with γ n)) 0 $
    nothing ! $ fpack ! (Typed F.mir (v ∷ [])) (λ _. ftrue) ((tt, (record { fits = lit< tt }, tt)), tt) $ fjoin ! $
    -- [the word; the rest of what the table begins with; the token]
    move ! (1 ∷ []) $ fsplit ! $ use0 𝓛 (‵ ((Mark (log.the_type).name).own_val (tt, tt) (token ∷ []))) (made (log.the_type).name 𝓛) $ fjoin ! $
    move ! (1 ∷ []) $ fsplit ! $ use0 𝓛 (‵ ((Mark (page.the_type).name).own_val (tt, tt) (token ∷ []))) (made (page.the_type).name 𝓛) $ fjoin ! $
    move ! (1 ∷ []) $ use0 𝓛 (‵ ((Mark (slots.the_type).name).own_val (tt, tt) (token ∷ []))) (made (slots.the_type).name 𝓛) $ fjoin ! $
    -- [the rights to the slots; the page; the log; the word; the token]
    nothing ! $ move ! (1 ∷ 0 ∷ []) $ fjoin ! $ move ! (1 ∷ 0 ∷ []) $ fjoin ! $
    feq_i ! (List Val) (shown ∷ []) (shown ∷ []) refl $ fjoin ! $
    fpack ! (Valss (Pa ∷ Sl ∷ []))
    (within (record { name = []; args = []; types = []; fields = Pa ∷ Sl ∷ [] }) (p, (s, tt)) (shown ∷ []))
    (token ∷ [], (token ∷ [], tt)) $
    nothing ! $ move ! (1 ∷ 0 ∷ []) $ fjoin ! $ move ! (1 ∷ 0 ∷ []) $ fjoin ! $ move ! (1 ∷ 0 ∷ []) $ fjoin ! $
    feq_i ! (List Val) (all ∷ []) (all ∷ []) refl $ fjoin ! $
    fpack ! (Valss (Fi ∷ Lg ∷ Two ∷ []))
    (within (record { name = []; args = []; types = []; fields = Fi ∷ Lg ∷ Two ∷ [] }) (record { table = γ }, (g, ((p, s), tt))) (all ∷ []))
    (v ∷ [], (token ∷ [], (shown ∷ [], tt))) $
    -- [what is answered; the token]
    knows ! (γ ≡ γ) refl $ knows ! (room ≡ room) refl $ join ! $
    knows ! ((γ ≡ γ) × (◌≡◌ {A = List IdMove} [] [])) (refl, refl) $ join ! $
    knows ! ((γ ≡ γ) × (◌≡◌ {A = List IdMove} [] [])) (refl, refl) $ join ! $ nothing ! $ nothing ! $ fjoin ! $
    -- [nothing; the facts; what is answered; the token]
    returns ! (look_at ! 0 refl) $ free_all ! refl $ keep ! (3 ∷ 0 ∷ 2 ∷ 1 ∷ []) $
    by ! (leaves 𝓛 ended hs c y all (record { table = γ }, g, (p, s)) (tt, tt) (tt, tt)))))
