-- `give_further` is one load of the word, at which the rights of a further id come back.
use Rattle.thread_local_base.proofs.Names.{◌≡◌, ℕ, ◌+◌, ◌-◌, ◌^◌, ◌<◌, ◌≤◌, [], ◌∷◌, refl, sym, lit<, named, Val}
use Rattle.thread_local_base.proofs.Names.{vptr, SProp, via, Lft, Share, Fml}
use Rattle.thread_local_base.proofs.Names.{ftrue, fsep, flft, ‵, raw, ◌⊛◌, mean, at_ret, ◌$◌, ◌∵◌}
use Rattle.thread_local_base.proofs.Names.{ !, qed, by, move, keep, drop, split, split3, join, fsplit, fsplit3, fjoin, fjoin3, fpick, pick}
use Rattle.thread_local_base.proofs.Names.{use0, use3, await, rewrite, stop, fld, addr, lit, no_more}
use Rattle.thread_local_base.proofs.Names.{and_then, first, blocks, exec, Calls-last, returns, enter, alloc_all}
use Rattle.thread_local_base.proofs.Names.{pass_all, free_all, look_at, get, through, sets, agg, lands_last, env, tables}
use Rattle.thread_local_base.proofs.Names.{yes, RattleType, owns, types_at, plain, block_ptr, nothing, opens, closes}
use Rattle.thread_local_base.proofs.Names.{unhide, RefOf, shr_vals, shr_Tells, mut_vals, mut_Tells}
use Rattle.thread_local_base.proofs.Names.{Stays, stay_dropped, stay_ref}
use Rattle.thread_local_base.proofs.Names.{walk_of, Goes-dropped, Goes-ref, proved, leaves, fm, found, finds, tail, fact, heard}
use Rattle.std.proofs.raw_atomic.Calls as calls
use Rattle.std.proofs.raw_atomic.Calls.{seq_cst}
use Rattle.thread_local_base.proofs.Walking.{knows, lends_token, returns_token}
use Rattle.thread_local_ids.proofs.FirstElements as step
use Rattle.thread_local_base.specs.IdMoves.{published_in}
use Rattle.thread_local_ids.specs.FirstIds.{FirstView}
use Rattle.thread_local_ids.specs.contracts.first.FirstIds as words
use Rattle.std.proofs.Common.{Bool, true, false}
use Rattle.thread_local_base.specs.IdMoves.{held_after}
use Rattle.thread_local_ids.specs.Rights.{right_in, taken_id}
use Rattle.thread_local_ids.specs.FirstIds.{IsReturn, IsGivenBeyond, log_owns}
use Rattle.thread_local_ids.proofs.Markers.{Mark, token, told, made}
use Rattle.thread_local_ids.specs.contracts.rights.right.Right as right
use base.Stored.{Gv}
use Rattle.std.proofs.Common.{Option}
use Rattle.thread_local_ids.specs.contracts.rights.page.Page as page
use Rattle.thread_local_ids.specs.contracts.first.Log as log
use Rattle.thread_local_ids.specs.contracts.first.FirstIds.give_further.{ended, clauses, Key.name as #self}
use Rattle.thread_local_ids.proofs.first.FirstIds.give_further.Statement.{statement}
use Rattle.thread_local_ids.proofs.first.FirstIds.give_further.Code as code

pub give_further_spec : {M : Type 1} → statement M
give_further_spec 𝓤 𝓛 𝓜 𝓡 wired =
    let H = 𝓛.H in
    let 𝓣 = tables 𝓤 H 𝓜 𝓡 𝓡.env in
    let c = clauses 𝓛 𝓜.mem 𝓡.returns in
    let fn = code.function in
    let Row : RattleType = words.the_row in
    let Lg : RattleType = log.the_row in
    let self = RefOf (0 ∷ []) tt (plain (λ _. Row)) (λ _. tt) in
    let rights = plain (λ _. right.the_row) in
    let hs : Stays ended.signature.params ended.kept =
    (stay_dropped self yes, (stay_ref (1 ∷ []) tt (plain (λ _. Lg)), (stay_dropped rights yes, tt))) in
    proved 𝓛 ended hs c 𝓜 𝓡 (
      Goes-dropped 𝓛 2 self yes (λ κs x f. refl),
      (Goes-ref 𝓛 2 1 tt (plain (λ _. Lg)), (Goes-dropped 𝓛 2 rights yes (λ κs x f. refl), tt)),
    ) #self fn (code.unfolded 𝓤 H 𝓜 𝓡 wired)
    (λ κs. (shr_vals, (mut_vals, ((λ x. token ∷ []), tt))))
    (λ κs. (
      shr_Tells (named 0) κs.0 Row,
      (mut_Tells (named 1) κs.1.0 Lg, ((λ x vs is. told (right.the_type).name vs is.0), tt)),
    )) (λ κs qs bounds a gh are.
    let b : ℕ = a.0.ref_ptr.0 in
    let o : ℕ = a.0.ref_ptr.1 in
    let d : FirstView = a.0.now in
    let s' = a.1.0.now in
    let lb : ℕ = a.1.0.ref_ptr.0 in
    let lo : ℕ = a.1.0.ref_ptr.1 in
    let mine = a.1.1.0 in
    let id : ℕ = taken_id mine.before in
    let κ : Lft = κs.0 in
    let q : Share = qs.0 in
    let μ : Lft = κs.1.0 in
    let m : Share = qs.1.0 in
    let y : (walk_of 𝓛 ended hs c).Ghost =
    ((κs, qs, bounds, a, (vptr b o ∷ [], (mut_vals a.1.0, (token ∷ [], tt)))), gh) in
    let Post : Val → SProp 𝓤 = (walk_of 𝓛 ended hs c).post y in
    let At : Type 0 = (mine.table ≡ d.table) × (s'.table ≡ d.table) in
    let Held : Type 0 = (mine.held ≡ true) × (mine.lent ≡ false) in
    let High : Type 0 = (58 ≤ id) × (id < 2 ^ 63 - 1) in
    qed 𝓛 (((‵ (flft κ q) ⊛ ‵ (flft μ m) ⊛ ‵ ftrue) ⊛ ‵ (owns (types_at ended.signature.params κs) a y.0.4))
    ∷ raw (fact 𝓤 At) ∷ raw (fact 𝓤 Held) ∷ raw (fact 𝓤 High) ∷ []) ∵
    keep ! (1 ∷ 2 ∷ 3 ∷ 0 ∷ []) $ heard ! At (λ at. heard ! Held (λ held. heard ! High (λ high.
    split ! $ split3 ! $ move ! (3 ∷ []) $ fsplit3 ! $ fsplit ! $ move ! (2 ∷ []) $ fsplit3 ! $ move ! (5 ∷ []) $ fsplit ! $ fsplit ! $
    keep ! (4 ∷ 5 ∷ 9 ∷ 7 ∷ 8 ∷ 1 ∷ 3 ∷ 10 ∷ []) $
    rewrite ! 5 (λ (t : ℕ). ‵ (right_in t mine.before mine.held mine.lent mine.left)) at.0 refl $
    rewrite ! 5 (λ (h : Bool). ‵ (right_in d.table mine.before h mine.lent mine.left)) held.0 refl $
    rewrite ! 5 (λ (t : Bool). ‵ (right_in d.table mine.before true t mine.left)) held.1 refl $
    -- [the `&mut`, in two parts; its token; what the `&` holds; its token; the right; the first part of the `&mut`; nothing]
    enter ! 𝓣.C 𝓣.Λ fn _ Post $ alloc_all ! (λ l.
    pass_all ! refl ((tt, tt), ((tt, tt), ((tt, (tt, tt)), tt))) $
    let Ev = env fn.locals l in
    opens ! tt Lg lb lo (λ us. move ! (1 ∷ []) $ fsplit ! $
    rewrite ! 1 (λ (t : ℕ). ‵ (log_owns t false s'.moves)) at.1 refl $
    move ! (6 ∷ 7 ∷ []) $ unhide ! $ fpick ! (λ α. fsplit ! $ move ! (0 ∷ 2 ∷ []) $
    lends_token ! 𝓜 𝓡 κ α q $ await ! tt $ pick ! (λ s. split ! $
    -- [α's token, and the way back; the invariant; the fields; the log; the cell and the open borrow; the right; ..]
    let out : ℕ → Fml = λ n. fsep (flft α s) (step.returned_further 𝓛 d.table mine.before s'.moves mine.left) in
    first ! $ blocks ! $ sets ! (addr ! (through ! refl (fld ! refl (stop !)))) refl (tt, tt) $
    move ! (4 ∷ 9 ∷ []) $ fjoin ! $ move ! (3 ∷ 1 ∷ 0 ∷ []) $
    use3 𝓛 (raw (𝓣.C _ (vptr b (o + 0) ∷ seq_cst ∷ []) (λ u. mean 𝓛 (found out u))))
    (via 𝓤 _ (step.gives_under_lock 𝓛 d.table b o α s mine.before s'.moves mine.left high.0 high.1)
    (calls.loads 𝓛 𝓜 𝓡 (code.calls-std::sync::atomic::raw::load 𝓡.env wired) (block_ptr b (o + 0)) out)) $
    sets ! (agg ! (and_then ! (lit ! tt) (no_more !))) refl (tt, (record { fits = lit< tt }, tt)) $
    Calls-last ! (fm 𝓛 𝓜 𝓡) (found out) (and_then ! (get ! refl) (and_then ! (get ! refl) (no_more !))) (λ u.
    finds ! out (λ n fits.
    lands_last ! refl (tt, record { fits = fits }) $
    exec ! 𝓣.C 𝓣.Λ Ev (tail fn.body) (at_ret Ev Post) $
    sets ! (agg ! (no_more !)) refl (tt, tt) $ sets ! (agg ! (and_then ! (get ! refl) (no_more !))) refl (tt, (tt, tt)) $
    fsplit ! $ move ! (0 ∷ 2 ∷ []) $
    returns_token ! κ α q s $ await ! tt $
    -- [the token; what the step left; the fields; the cell and the open borrow; ..]
    move ! (1 ∷ []) $ fpick ! (λ more. fsplit ! $ fpick ! (λ so. drop ! $ fsplit ! $ fpick ! (λ room.
    let new : Lg.Denot = record s' { moves = more } in
    let r : page.the_row.Denot = record { marker = record {}; table = d.table; moves = more; room = room } in
    rewrite ! 1 (λ (t : ℕ). ‵ (log_owns t false more)) (sym at.1) refl $
    move ! (3 ∷ 1 ∷ []) $ fjoin ! $ move ! (3 ∷ 0 ∷ 4 ∷ 5 ∷ 6 ∷ []) $ closes ! tt Lg new us lb lo $
    -- [two parts of the `&mut`; its token; the page; the token; its first part; nothing]
    move ! (5 ∷ 0 ∷ 1 ∷ []) $ fjoin3 ! $ nothing ! $ nothing ! $ fjoin ! $
    move ! (1 ∷ 0 ∷ []) $ fjoin ! $ nothing ! $ fjoin ! $ move ! (1 ∷ 4 ∷ []) $ join ! $ move ! (3 ∷ 0 ∷ []) $ join ! $ move ! (2 ∷ []) $
    use0 𝓛 (‵ ((Mark (page.the_type).name).own_val (tt, tt) (token ∷ []))) (made (page.the_type).name 𝓛) $ fjoin ! $
    knows ! ((s'.table ≡ s'.table) × (more ≡ more)) (refl, refl) $
    knows ! (IsGivenBeyond (held_after s'.moves) (held_after more) id) so.1 $ join ! $
    knows ! (◌≡◌ {A = Option Gv} (published_in more id) mine.left) so.0.1 $ join ! $
    knows ! (IsReturn mine.before id more) so.0.0 $ join ! $ knows ! (d.table ≡ d.table) refl $ join ! $
    -- [the facts; the page; the tokens; what is left of the arguments]
    returns ! (look_at ! 0 refl) $ free_all ! refl $ keep ! (2 ∷ 3 ∷ 1 ∷ 0 ∷ []) $
    by ! (leaves 𝓛 ended hs c y token r (tt, (new, (tt, tt))) (tt, (tt, (tt, tt)))))))))))))))))
