-- `look` is one load of the word, at which a further id may be taken.
use Rattle.thread_local_base.proofs.Names.{◌≡◌, ℕ, ◌+◌, ◌-◌, ◌^◌, [], ◌∷◌, refl, sym, lit<, w64, named, Val}
use Rattle.thread_local_base.proofs.Names.{vint, vptr, SProp, via, Lft, Share, Fml}
use Rattle.thread_local_base.proofs.Names.{ftrue, fsep, flft, ‵, raw, ◌⊛◌, mean, at_ret, ◌$◌, ◌∵◌}
use Rattle.thread_local_base.proofs.Names.{ !, qed, by, move, keep, drop, split, split3, join, fsplit, fsplit3, fjoin, fjoin3, fpick, fpack, pick}
use Rattle.thread_local_base.proofs.Names.{use0, use3, await, rewrite, feq_i, flt_i, stop, fld, addr, lit, of_opd, no_more}
use Rattle.thread_local_base.proofs.Names.{and_then, first, blocks, exec, Calls-last, returns, enter, alloc_all}
use Rattle.thread_local_base.proofs.Names.{pass_all, free_all, look_at, get, through, sets, agg, lands_last, env, tables}
use Rattle.thread_local_base.proofs.Names.{yes, RattleType, owns, types_at, plain, block_ptr, nothing, opens, closes}
use Rattle.thread_local_base.proofs.Names.{unhide, RefOf, shr_vals, shr_Tells, mut_vals, mut_Tells, u64}
use Rattle.thread_local_base.proofs.Names.{Stays, stay_dropped, stay_ref}
use Rattle.thread_local_base.proofs.Names.{walk_of, Goes-dropped, Goes-ref, proved, leaves, fm, found, finds, tail, fact, heard}
use Rattle.std.proofs.raw_atomic.Calls as calls
use Rattle.std.proofs.raw_atomic.Calls.{seq_cst}
use Rattle.thread_local_base.proofs.Walking.{knows, lends_token, returns_token}
use Rattle.thread_local_ids.proofs.FirstElements as step
use Rattle.thread_local_ids.specs.FirstIds.{FirstView}
use Rattle.thread_local_ids.specs.contracts.first.FirstIds as words
use Rattle.std.proofs.Common.{Bool, true, false, ◌&&◌, if◌then◌else◌, List, Option, length}
use mathlib.Core.List.{IsPrefix}
use denote.Builtin.{bool}
use denote.Plain.{bool_vals, bool_Tells}
use denote.Struct.Tuple.{Tuple}
use Rattle.thread_local_base.proofs.Pairs.{both, pair_in}
use Rattle.thread_local_base.specs.IdMoves.{IdMove, Take, noted, held_after, published_in}
use Rattle.thread_local_ids.specs.Rights.{page_owns, page_with, taken_id}
use base.Stored.{Gv}
use Rattle.thread_local_ids.specs.Taken.{IsStepped}
use Rattle.thread_local_ids.specs.FirstIds.{IsWordOf, IsSameBeyond, HasFurther, is_full, log_owns}
use Rattle.thread_local_ids.proofs.Markers.{Mark, token, made}
use Rattle.thread_local_ids.specs.contracts.rights.page.Page as page
use Rattle.thread_local_ids.specs.contracts.first.Log as log
use Rattle.thread_local_ids.specs.contracts.rights.right.Right as right
use Rattle.thread_local_ids.specs.contracts.first.FirstIds.look.{ended, clauses, Key.name as #self}
use Rattle.thread_local_ids.proofs.first.FirstIds.look.Statement.{statement}
use Rattle.thread_local_ids.proofs.first.FirstIds.look.Code as code

pub look_spec : {M : Type 1} → statement M
look_spec 𝓤 𝓛 𝓜 𝓡 wired =
    let H = 𝓛.H in
    let 𝓣 = tables 𝓤 H 𝓜 𝓡 𝓡.env in
    let c = clauses 𝓛 𝓜.mem 𝓡.returns in
    let fn = code.function in
    let Row : RattleType = words.the_row in
    let Lg : RattleType = log.the_row in
    let Tr : RattleType = right.the_row in
    let Pair : RattleType = Tuple (u64 ∷ Tr ∷ []) in
    let self = RefOf (0 ∷ []) tt (plain (λ _. Row)) (λ _. tt) in
    let early = RefOf (2 ∷ []) tt (plain (λ _. page.the_row)) (λ _. tt) in
    let flag = plain (λ _. bool) in
    let hs : Stays ended.signature.params ended.kept =
    (stay_dropped self yes, (stay_ref (1 ∷ []) tt (plain (λ _. Lg)), (stay_dropped early yes, (stay_dropped flag yes, tt)))) in
    proved 𝓛 ended hs c 𝓜 𝓡 (
      Goes-dropped 𝓛 3 self yes (λ κs x f. refl),
      (
        Goes-ref 𝓛 3 1 tt (plain (λ _. Lg)),
        (Goes-dropped 𝓛 3 early yes (λ κs x f. refl), (Goes-dropped 𝓛 3 flag yes (λ κs x f. refl), tt)),
      ),
    ) #self fn (code.unfolded 𝓤 H 𝓜 𝓡 wired)
    (λ κs. (shr_vals, (mut_vals, (shr_vals, (bool_vals, tt)))))
    (λ κs. (
      shr_Tells (named 0) κs.0 Row,
      (mut_Tells (named 1) κs.1.0 Lg, (shr_Tells (named 2) κs.1.1.0 page.the_row, (bool_Tells, tt))),
    )) (λ κs qs bounds a gh are.
    let b : ℕ = a.0.ref_ptr.0 in
    let o : ℕ = a.0.ref_ptr.1 in
    let d : FirstView = a.0.now in
    let s' = a.1.0.now in
    let lb : ℕ = a.1.0.ref_ptr.0 in
    let lo : ℕ = a.1.0.ref_ptr.1 in
    let p = a.1.1.0.now in
    let pv : Val = vptr a.1.1.0.ref_ptr.0 a.1.1.0.ref_ptr.1 in
    let takes : Bool = a.1.1.1.0 in
    let κ : Lft = κs.0 in
    let q : Share = qs.0 in
    let μ : Lft = κs.1.0 in
    let m : Share = qs.1.0 in
    let last : Fml = fsep (flft κs.1.1.0 qs.1.1.0) ftrue in
    let y : (walk_of 𝓛 ended hs c).Ghost = ((κs, qs, bounds, a, (vptr b o ∷ [], (mut_vals a.1.0, (pv ∷ [], (bool_vals takes, tt))))), gh) in
    let Post : Val → SProp 𝓤 = (walk_of 𝓛 ended hs c).post y in
    let At : Type 0 = (p.table ≡ d.table) × (s'.table ≡ d.table) in
    let Has : Type 0 = takes ≡ true → HasFurther (held_after s'.moves) in
    qed 𝓛 (((‵ (flft κ q) ⊛ ‵ (flft μ m) ⊛ ‵ last) ⊛ ‵ (owns (types_at ended.signature.params κs) a y.0.4))
    ∷ raw (fact 𝓤 At) ∷ raw (fact 𝓤 Has) ∷ []) ∵
    keep ! (1 ∷ 2 ∷ 0 ∷ []) $ heard ! At (λ at. heard ! Has (λ has.
    split ! $ split3 ! $ move ! (3 ∷ []) $ fsplit3 ! $ fsplit ! $ move ! (2 ∷ []) $ fsplit3 ! $ move ! (5 ∷ []) $ fsplit ! $ fsplit ! $
    move ! (1 ∷ []) $ unhide ! $ fsplit ! $ drop ! $ fpack ! ℕ (page_with p.table p.moves) p.room $ rewrite ! 0 (λ (t : ℕ). ‵ (page_owns t p.moves)) at.0 refl $
    keep ! (4 ∷ 5 ∷ 9 ∷ 7 ∷ 8 ∷ 0 ∷ 3 ∷ 10 ∷ []) $
    -- [the `&mut`, in two parts; its token; what the `&` holds; its token; the page; the first part of the `&mut`; the other tokens]
    enter ! 𝓣.C 𝓣.Λ fn _ Post $ alloc_all ! (λ l. pass_all ! refl ((tt, tt), ((tt, tt), ((tt, tt), ((tt, tt), tt)))) $
    let Ev = env fn.locals l in
    opens ! tt Lg lb lo (λ us. move ! (1 ∷ []) $ fsplit ! $
    rewrite ! 1 (λ (t : ℕ). ‵ (log_owns t false s'.moves)) at.1 refl $
    -- [the fields; the log; the cell and the open borrow; what the `&` holds; its token; the page; ..]
    move ! (6 ∷ 7 ∷ []) $ unhide ! $ fpick ! (λ α. fsplit ! $ move ! (0 ∷ 2 ∷ []) $
    lends_token ! 𝓜 𝓡 κ α q $ await ! tt $ pick ! (λ s. split ! $
    -- [α's token, and the way back; the invariant; the fields; the log; the cell and the open borrow; the page; ..]
    let out : ℕ → Fml = λ n. fsep (flft α s) (step.looked 𝓛 d.table n p.moves s'.moves (takes && is_full n)) in
    first ! $ blocks ! $ sets ! (addr ! (through ! refl (fld ! refl (stop !)))) refl (tt, tt) $
    move ! (9 ∷ 4 ∷ []) $ fjoin ! $ move ! (3 ∷ 1 ∷ 0 ∷ []) $
    use3 𝓛 (raw (𝓣.C _ (vptr b (o + 0) ∷ seq_cst ∷ []) (λ u. mean 𝓛 (found out u))))
    (via 𝓤 _ (step.looks 𝓛 d.table b o α s p.moves s'.moves takes has)
    (calls.loads 𝓛 𝓜 𝓡 (code.calls-std::sync::atomic::raw::load 𝓡.env wired) (block_ptr b (o + 0)) out)) $
    sets ! (agg ! (and_then ! (lit ! tt) (no_more !))) refl (tt, (record { fits = lit< tt }, tt)) $
    Calls-last ! (fm 𝓛 𝓜 𝓡) (found out) (and_then ! (get ! refl) (and_then ! (get ! refl) (no_more !))) (λ u.
    finds ! out (λ n fits.
    lands_last ! refl (tt, record { fits = fits }) $
    exec ! 𝓣.C 𝓣.Λ Ev (tail fn.body) (at_ret Ev Post) $
    sets ! (of_opd ! (get ! refl)) refl (tt, record { fits = fits }) $
    sets ! (agg ! (no_more !)) refl (tt, tt) $ sets ! (agg ! (and_then ! (get ! refl) (no_more !))) refl (tt, (tt, tt)) $
    sets ! (agg ! (and_then ! (get ! refl) (and_then ! (get ! refl) (no_more !)))) refl (tt, (record { fits = fits }, ((tt, tt), tt))) $
    fsplit ! $ move ! (0 ∷ 2 ∷ []) $
    returns_token ! κ α q s $ await ! tt $
    -- [the token; what the step left; the fields; the cell and the open borrow; ..]
    move ! (1 ∷ []) $ fpick ! (λ before. fsplit ! $ fpick ! (λ so. drop ! $ fsplit ! $
    let took : Bool = takes && is_full n in
    let more : List IdMove = if took then noted before Take else s'.moves in
    let new : Lg.Denot = record s' { moves = more } in
    let left : Option Gv = published_in before (taken_id before) in
    let r : Tr.Denot = record { marker = record {}; table = d.table; before = before; held = took; lent = false; left = left } in
    rewrite ! 1 (λ (t : ℕ). ‵ (log_owns t false more)) (sym at.1) refl $
    move ! (3 ∷ 1 ∷ []) $ fjoin ! $ move ! (3 ∷ 0 ∷ 4 ∷ 5 ∷ 6 ∷ []) $ closes ! tt Lg new us lb lo $
    -- [two parts of the `&mut`; its token; what the step left; the token; its first part; the other tokens]
    move ! (5 ∷ 0 ∷ 1 ∷ []) $ fjoin3 ! $ nothing ! $ nothing ! $ fjoin ! $ nothing ! $ fjoin ! $ move ! (1 ∷ 0 ∷ []) $ fjoin ! $
    nothing ! $ fjoin ! $ move ! (1 ∷ 4 ∷ []) $ join ! $ move ! (3 ∷ 0 ∷ []) $ join ! $ move ! (2 ∷ []) $
    use0 𝓛 (‵ ((Mark (right.the_type).name).own_val (tt, tt) (token ∷ []))) (made (right.the_type).name 𝓛) $
    fjoin ! $ flt_i ! n (2 ^ 64) fits $ feq_i ! _ (vint w64 n ∷ []) _ refl $ fjoin ! $
    pair_in u64 Tr ! n r (vint w64 n) token $
    knows ! ((s'.table ≡ s'.table) × (more ≡ more)) (refl, refl) $
    knows ! (length (held_after s'.moves) - 58 ≡ length (held_after before) - 58) so.peak $ join ! $
    knows ! (IsSameBeyond (held_after s'.moves) (held_after before)) so.beyond $ join ! $
    knows ! (IsWordOf n (held_after before)) so.word $ join ! $ knows ! (IsPrefix p.moves before) so.early $ join ! $
    knows ! (IsStepped d.table took r) (record { of_table = refl; held = refl; here = refl; left = refl }) $ join ! $
    -- [the facts; what is answered; the tokens; what is left of the arguments]
    returns ! (look_at ! 0 refl) $ free_all ! refl $ keep ! (2 ∷ 3 ∷ 1 ∷ 0 ∷ []) $
    by ! (leaves 𝓛 ended hs c y (both (vint w64 n) token) (n, r) (tt, (new, (tt, (tt, tt)))) (tt, (tt, (tt, (tt, tt))))))))))))))))
