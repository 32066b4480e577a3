-- Of two pages of one table one extends the other, and both say one room.
use Rattle.thread_local_base.proofs.Names.{sym, ◌≡◌, ℕ, List, [], ◌∷◌, refl, named}
use Rattle.thread_local_base.proofs.Names.{Val, vptr, vunit, ‵, raw, ◌⊛◌, given, ◌$◌, ◌∵◌, ! }
use Rattle.thread_local_base.proofs.Names.{qed, by, move, keep, drop, split, join, fsplit, fsplit3, fjoin, learn, rewrite}
use Rattle.thread_local_base.proofs.Names.{feq_i, use2, of_opd, unit_lit, returns, enter, alloc_all, pass_all}
use Rattle.thread_local_base.proofs.Names.{free_all, look_at, sets, fact, yes, RattleType, owns}
use Rattle.thread_local_base.proofs.Names.{types_at, plain, nothing, heard, RefOf, shr_vals}
use Rattle.thread_local_base.proofs.Names.{shr_Tells, Stays, stay_dropped, walk_of, Goes-dropped, proved, leaves}
use Rattle.thread_local_base.proofs.Names.{alive, unhide}
use mathlib.Core.List.{IsPrefix}
use mathlib.Core.Logic.{◌∨₁◌}
use Rattle.thread_local_base.specs.IdMoves.{IdMove}
use Rattle.thread_local_ids.specs.Rights.{page_with}
use Rattle.thread_local_ids.specs.contracts.rights.page.Page as Page
use Rattle.thread_local_ids.proofs.MoveElements.{in_line_with}
use Rattle.thread_local_ids.specs.contracts.rights.page.Page.in_line.{ended, clauses, Key.name as #self}
use Rattle.thread_local_ids.proofs.rights.page.Page.in_line.Statement.{statement}
use Rattle.thread_local_ids.proofs.rights.page.Page.in_line.Code as code
use Rattle.thread_local_base.proofs.Walking.{knows}

pub in_line_spec : {M : Type 1} → statement M
in_line_spec 𝓤 𝓛 𝓜 𝓡 wired =
    let En = ended in let S : RattleType = Page.the_row in let fn = code.function in let c = clauses 𝓛 𝓜.mem 𝓡.returns in
    let self = RefOf (0 ∷ []) tt (plain (λ _. S)) (λ _. tt) in let other = RefOf (1 ∷ []) tt (plain (λ _. S)) (λ _. tt) in
    let hs : Stays En.signature.params En.kept = (stay_dropped self yes, (stay_dropped other yes, tt)) in
    proved 𝓛 En hs c 𝓜 𝓡
    (Goes-dropped 𝓛 2 self yes (λ κs x f. refl), (Goes-dropped 𝓛 2 other yes (λ κs x f. refl), tt))
    #self fn (code.unfolded 𝓤 𝓛.H 𝓜 𝓡 wired)
    (λ κs. (shr_vals, (shr_vals, tt))) (λ κs. (shr_Tells (named 0) κs.0 S, (shr_Tells (named 1) κs.1.0 S, tt)))
    (λ κs qs bounds a gh are.
    let p : Val = vptr a.0.ref_ptr.0 a.0.ref_ptr.1 in
    let p' : Val = vptr a.1.0.ref_ptr.0 a.1.0.ref_ptr.1 in
    let w = a.0.now in let v = a.1.0.now in
    let y : (walk_of 𝓛 En hs c).Ghost = ((κs, qs, bounds, a, (p ∷ [], (p' ∷ [], tt))), gh) in
    let ws : List IdMove = w.moves in
    let vs : List IdMove = v.moves in
    let At : Type 0 = w.table ≡ v.table in
    let Line : Type 0 = IsPrefix ws vs ∨₁ IsPrefix vs ws in
    qed 𝓛 ((raw (alive 𝓛 En.signature κs qs) ⊛ ‵ (owns (types_at En.signature.params κs) a y.0.4))
    ∷ raw (fact 𝓤 At) ∷ []) ∵
    keep ! (1 ∷ 0 ∷ []) $ heard ! At (λ at.
    split ! $ move ! (1 ∷ []) $ fsplit3 ! $ fsplit ! $ move ! (2 ∷ []) $ fsplit ! $
    keep ! (3 ∷ 1 ∷ 5 ∷ []) $ unhide ! $ fsplit ! $ drop ! $ move ! (1 ∷ []) $ unhide ! $ fsplit ! $
    drop ! $
    -- [what the other shows; what this one shows; the tokens]
    rewrite ! 0 (λ (z : ℕ). ‵ (page_with z vs v.room)) (sym at) refl $
    move ! (1 ∷ 0 ∷ []) $
    use2 𝓛 (given (Line × (w.room ≡ v.room)) (‵ (page_with w.table ws w.room) ⊛ ‵ (page_with w.table vs v.room)))
    (in_line_with 𝓛 w.table ws vs w.room v.room) $
    learn ! (λ e. split ! $ drop ! $ drop ! $
    enter ! _ _ _ _ _ $ alloc_all ! (λ l. pass_all ! refl ((tt, tt), ((tt, tt), tt)) $
    sets ! (of_opd ! (unit_lit !)) refl (tt, tt) $
    knows ! Line e.0 $ knows ! (w.room ≡ v.room) e.1 $ join ! $
    feq_i ! _ (vunit ∷ []) _ refl $ nothing ! $ nothing ! $ fjoin ! $ nothing ! $ fjoin ! $
    -- [nothing; the result; the fact; the tokens]
    returns ! (look_at ! 0 refl) $ free_all ! refl $ keep ! (3 ∷ 0 ∷ 1 ∷ 2 ∷ []) $
    by ! (leaves 𝓛 En hs c y vunit tt (tt, (tt, tt)) (tt, (tt, tt)))))))
