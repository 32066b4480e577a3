-- `give` is one atomic subtraction of the bit of an id, whose rights come back at that step.
use Rattle.thread_local_base.proofs.Names.{◌≡◌, ℕ, ◌+◌, ◌*◌, ◌^◌, ◌<◌, [], ◌∷◌, refl, lit<, w64, named, Val}
use Rattle.thread_local_base.proofs.Names.{vint, vptr, SProp, via, Lft, Share, Fml}
use Rattle.thread_local_base.proofs.Names.{ftrue, fsep, flft, ‵, raw, ◌⊛◌, mean, at_ret, ◌$◌, ◌∵◌}
use Rattle.thread_local_base.proofs.Names.{ !, qed, by, move, keep, drop, split, join, fsplit, fjoin, fpick, pick}
use Rattle.thread_local_base.proofs.Names.{use0, use3, await, rewrite, stop, fld, addr, lit, no_more}
use Rattle.thread_local_base.proofs.Names.{and_then, first, blocks, exec, Calls-last, returns, enter, alloc_all}
use Rattle.thread_local_base.proofs.Names.{pass_all, free_all, look_at, get, through, sets, agg, lands_last, env, tables}
use Rattle.thread_local_base.proofs.Names.{yes, RattleType, owns, types_at, plain, block_ptr, nothing}
use Rattle.thread_local_base.proofs.Names.{unhide, RefOf, shr_vals, shr_Tells, uint_vals, uint_Tells, u64}
use Rattle.thread_local_base.proofs.Names.{Stays, stay_dropped}
use Rattle.thread_local_base.proofs.Names.{walk_of, Goes-dropped, proved, leaves, fm, found, finds, tail, fact, heard}
use Rattle.std.proofs.raw_atomic.Calls as calls
use Rattle.std.proofs.raw_atomic.Calls.{seq_cst}
use Rattle.thread_local_base.proofs.Walking.{knows, lends_token, returns_token}
use Rattle.thread_local_ids.proofs.FirstElements as step
use Rattle.thread_local_base.specs.IdMoves.{published_in}
use Rattle.thread_local_ids.specs.FirstIds.{FirstView}
use Rattle.thread_local_ids.specs.contracts.first.FirstIds as words
use Rattle.thread_local_ids.specs.Rights.{right_in, taken_id}
use Rattle.std.proofs.Common.{◌%◌, Bool, true, false}
use Rattle.thread_local_ids.specs.FirstIds.{IsReturn}
use Rattle.thread_local_ids.proofs.Markers.{Mark, token, told, made}
use Rattle.thread_local_ids.specs.contracts.rights.right.Right as right
use base.Stored.{Gv}
use Rattle.std.proofs.Common.{Option}
use Rattle.thread_local_ids.specs.contracts.rights.page.Page as page
use Rattle.thread_local_ids.specs.contracts.first.FirstIds.give.{ended, clauses, Key.name as #self}
use Rattle.thread_local_ids.proofs.first.FirstIds.give.Statement.{statement}
use Rattle.thread_local_ids.proofs.first.FirstIds.give.Code as code

pub give_spec : {M : Type 1} → statement M
give_spec 𝓤 𝓛 𝓜 𝓡 wired =
    let H = 𝓛.H in
    let 𝓣 = tables 𝓤 H 𝓜 𝓡 𝓡.env in
    let c = clauses 𝓛 𝓜.mem 𝓡.returns in
    let fn = code.function in
    let Row : RattleType = words.the_row in
    let self = RefOf (0 ∷ []) tt (plain (λ _. Row)) (λ _. tt) in
    let rights = plain (λ _. right.the_row) in
    let number = plain (λ _. u64) in
    let hs : Stays ended.signature.params ended.kept =
    (stay_dropped self yes, (stay_dropped rights yes, (stay_dropped number yes, tt))) in
    proved 𝓛 ended hs c 𝓜 𝓡 (
      Goes-dropped 𝓛 1 self yes (λ κs x f. refl),
      (Goes-dropped 𝓛 1 rights yes (λ κs x f. refl), (Goes-dropped 𝓛 1 number yes (λ κs x f. refl), tt)),
    ) #self fn (code.unfolded 𝓤 H 𝓜 𝓡 wired)
    (λ κs. (shr_vals, ((λ x. token ∷ []), (uint_vals w64, tt))))
    (λ κs. (shr_Tells (named 0) κs.0 Row, ((λ x vs is. told (right.the_type).name vs is.0), (uint_Tells w64, tt)))) (λ κs qs bounds a gh are.
    let b : ℕ = a.0.ref_ptr.0 in
    let o : ℕ = a.0.ref_ptr.1 in
    let d : FirstView = a.0.now in
    let mine = a.1.0 in
    let id : ℕ = taken_id mine.before in
    let k : ℕ = a.1.1.0 in
    let κ : Lft = κs.0 in
    let q : Share = qs.0 in
    let others : Fml = ftrue in
    let y : (walk_of 𝓛 ended hs c).Ghost =
    ((κs, qs, bounds, a, (vptr b o ∷ [], (token ∷ [], (vint w64 k ∷ [], tt)))), gh) in
    let Post : Val → SProp 𝓤 = (walk_of 𝓛 ended hs c).post y in
    let At : Type 0 = mine.table ≡ d.table in
    let Held : Type 0 = (mine.held ≡ true) × (mine.lent ≡ false) in
    let Low : Type 0 = id < 58 in
    let Bit : Type 0 = k ≡ 64 * 2 ^ id % 2 ^ 64 in
    qed 𝓛 (((‵ (flft κ q) ⊛ ‵ others) ⊛ ‵ (owns (types_at ended.signature.params κs) a y.0.4))
    ∷ raw (fact 𝓤 At) ∷ raw (fact 𝓤 Held) ∷ raw (fact 𝓤 Low) ∷ raw (fact 𝓤 Bit) ∷ []) ∵
    keep ! (1 ∷ 2 ∷ 3 ∷ 4 ∷ 0 ∷ []) $ heard ! At (λ at. heard ! Held (λ held. heard ! Low (λ low. heard ! Bit (λ bit.
    split ! $ split ! $ move ! (2 ∷ []) $ fsplit ! $ fsplit ! $ move ! (2 ∷ []) $ fsplit ! $ fsplit ! $
    keep ! (4 ∷ 5 ∷ 6 ∷ 1 ∷ []) $
    rewrite ! 3 (λ (t : ℕ). ‵ (right_in t mine.before mine.held mine.lent mine.left)) at refl $
    rewrite ! 3 (λ (h : Bool). ‵ (right_in d.table mine.before h mine.lent mine.left)) held.0 refl $
    rewrite ! 3 (λ (t : Bool). ‵ (right_in d.table mine.before true t mine.left)) held.1 refl $
    -- [what the `&` holds; its token; the other tokens; the right]
    enter ! 𝓣.C 𝓣.Λ fn (vptr b o ∷ token ∷ vint w64 k ∷ []) Post $ alloc_all ! (λ l.
    pass_all ! refl ((tt, tt), ((tt, (tt, tt)), ((tt, record { fits = are.1.1.0.1 }), tt))) $
    let Ev = env fn.locals l in
    unhide ! $ fpick ! (λ α. fsplit ! $ move ! (0 ∷ 2 ∷ []) $
    lends_token ! 𝓜 𝓡 κ α q $ await ! tt $ pick ! (λ s. split ! $
    -- [α's token, and the way back; the invariant; the other tokens; the right]
    let out : ℕ → Fml = λ n. fsep (flft α s) (step.returned 𝓛 d.table mine.before mine.left) in
    first ! $ blocks ! $ sets ! (addr ! (through ! refl (fld ! refl (stop !)))) refl (tt, tt) $
    move ! (2 ∷ 0 ∷ 4 ∷ []) $
    use3 𝓛 (raw (𝓣.C _ (vptr b (o + 0) ∷ vint w64 k ∷ seq_cst ∷ []) (λ u. mean 𝓛 (found out u))))
    (via 𝓤 _ (step.gives 𝓛 d.table b o α s k mine.before mine.left low bit)
    (calls.subs 𝓛 𝓜 𝓡 (code.calls-std::sync::atomic::raw::fetch_sub 𝓡.env wired) (block_ptr b (o + 0)) k are.1.1.0.1 out)) $
    sets ! (agg ! (and_then ! (lit ! tt) (no_more !))) refl (tt, (record { fits = lit< tt }, tt)) $
    Calls-last ! (fm 𝓛 𝓜 𝓡) (found out) (and_then ! (get ! refl) (and_then ! (get ! refl) (and_then ! (get ! refl) (no_more !)))) (λ u.
    finds ! out (λ n fits.
    lands_last ! refl (tt, record { fits = fits }) $
    exec ! 𝓣.C 𝓣.Λ Ev (tail fn.body) (at_ret Ev Post) $
    sets ! (agg ! (no_more !)) refl (tt, tt) $ sets ! (agg ! (and_then ! (get ! refl) (no_more !))) refl (tt, (tt, tt)) $
    fsplit ! $ move ! (0 ∷ 2 ∷ []) $
    returns_token ! κ α q s $ await ! tt $
    -- [the token; the page; the other tokens]
    move ! (1 ∷ []) $ fpick ! (λ more. fsplit ! $ fpick ! (λ so. drop ! $ fpick ! (λ room.
    let r : page.the_row.Denot = record { marker = record {}; table = d.table; moves = more; room = room } in
    use0 𝓛 (‵ ((Mark (page.the_type).name).own_val (tt, tt) (token ∷ []))) (made (page.the_type).name 𝓛) $
    fjoin ! $ knows ! (◌≡◌ {A = Option Gv} (published_in more id) mine.left) so.1 $ knows ! (IsReturn mine.before id more) so.0 $ join ! $
    knows ! (d.table ≡ d.table) refl $ join ! $
    -- [the facts; the page; the token; the other tokens]
    move ! (2 ∷ 3 ∷ []) $ join ! $ nothing ! $ nothing ! $ fjoin ! $ nothing ! $ fjoin ! $ nothing ! $ fjoin ! $
    -- [nothing; the tokens; the facts; the page]
    returns ! (look_at ! 0 refl) $ free_all ! refl $ keep ! (1 ∷ 0 ∷ 3 ∷ 2 ∷ []) $
    by ! (leaves 𝓛 ended hs c y token r (tt, (tt, (tt, tt))) (tt, (tt, (tt, tt)))))))))))))))))
