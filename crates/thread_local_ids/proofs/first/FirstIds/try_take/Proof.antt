-- `try_take` is one compare and exchange, which takes the least id where it writes.
use Rattle.thread_local_base.proofs.Names.{◌≡◌, ℕ, ◌+◌, ◌^◌, ◌<◌, [], ◌∷◌, refl, w64, named, Val}
use Rattle.thread_local_base.proofs.Names.{vint, vptr, SProp, via, Lft, Share, Fml}
use Rattle.thread_local_base.proofs.Names.{ftrue, fsep, flft, ‵, raw, ◌⊛◌, mean, at_ret, ◌$◌, ◌∵◌}
use Rattle.thread_local_base.proofs.Names.{ !, qed, by, move, keep, drop, split, join, fsplit, fsplit3, fjoin, fpack, fpick, pick}
use Rattle.thread_local_base.proofs.Names.{use0, use3, await, rewrite, feq_i, flt_i, stop, fld, addr, of_opd, no_more}
use Rattle.thread_local_base.proofs.Names.{and_then, first, blocks, exec, Calls-last, returns, enter, alloc_all}
use Rattle.thread_local_base.proofs.Names.{pass_all, free_all, look_at, get, through, sets, agg, lands_last, env, tables}
use Rattle.thread_local_base.proofs.Names.{yes, RattleType, owns, types_at, plain, block_ptr, nothing}
use Rattle.thread_local_base.proofs.Names.{unhide, RefOf, shr_vals, shr_Tells, uint_vals, uint_Tells, u64, usize}
use Rattle.thread_local_base.proofs.Names.{Stays, stay_dropped}
use Rattle.thread_local_base.proofs.Names.{walk_of, Goes-dropped, proved, leaves, fm, found, finds, tail, fact, heard}
use Rattle.thread_local_base.proofs.Walking.{knows, lends_token, returns_token}
use Rattle.thread_local_ids.proofs.FirstElements as step
use Rattle.thread_local_ids.specs.FirstIds.{FirstView}
use Rattle.thread_local_ids.specs.contracts.first.FirstIds as words
use Rattle.std.proofs.Common.{true, false, Option, ◌==◌, ◌/◌}
use base.Stored.{Gv}
use Rattle.thread_local_base.specs.IdMoves.{published_in}
use Rattle.thread_local_ids.specs.Taken.{IsStepped}
use mathlib.Core.List.{IsPrefix}
use denote.Struct.Tuple.{Tuple}
use Rattle.thread_local_base.proofs.Pairs.{both, pair_in}
use Rattle.thread_local_base.specs.Bits.{IsLowestUnset}
use Rattle.thread_local_ids.specs.Rights.{page_owns, page_with, taken_id}
use Rattle.thread_local_ids.specs.FirstIds.{word_with}
use Rattle.thread_local_ids.proofs.Calls.{exchanges}
use Rattle.thread_local_ids.proofs.Markers.{Mark, token, made}
use Rattle.thread_local_ids.specs.contracts.rights.page.Page as page
use Rattle.thread_local_ids.specs.contracts.rights.right.Right as right
use Rattle.thread_local_ids.specs.contracts.first.FirstIds.try_take.{ended, clauses, Key.name as #self}
use Rattle.thread_local_ids.proofs.first.FirstIds.try_take.Statement.{statement}
use Rattle.thread_local_ids.proofs.first.FirstIds.try_take.Code as code

pub try_take_spec : {M : Type 1} → statement M
try_take_spec 𝓤 𝓛 𝓜 𝓡 wired =
    let H = 𝓛.H in
    let 𝓣 = tables 𝓤 H 𝓜 𝓡 𝓡.env in
    let c = clauses 𝓛 𝓜.mem 𝓡.returns in
    let fn = code.function in
    let Row : RattleType = words.the_row in
    let Tr : RattleType = right.the_row in
    let Pair : RattleType = Tuple (u64 ∷ Tr ∷ []) in
    let self = RefOf (0 ∷ []) tt (plain (λ _. Row)) (λ _. tt) in
    let early = RefOf (1 ∷ []) tt (plain (λ _. page.the_row)) (λ _. tt) in
    let number = plain (λ _. u64) in
    let index = plain (λ _. usize) in
    let hs : Stays ended.signature.params ended.kept =
    (stay_dropped self yes, (stay_dropped number yes, (stay_dropped number yes, (stay_dropped index yes, (stay_dropped early yes, tt))))) in
    proved 𝓛 ended hs c 𝓜 𝓡 (
      Goes-dropped 𝓛 2 self yes (λ κs x f. refl),
      (
        Goes-dropped 𝓛 2 number yes (λ κs x f. refl),
        (
          Goes-dropped 𝓛 2 number yes (λ κs x f. refl),
          (Goes-dropped 𝓛 2 index yes (λ κs x f. refl), (Goes-dropped 𝓛 2 early yes (λ κs x f. refl), tt)),
        ),
      ),
    ) #self fn (code.unfolded 𝓤 H 𝓜 𝓡 wired)
    (λ κs. (shr_vals, (uint_vals w64, (uint_vals w64, (uint_vals w64, (shr_vals, tt))))))
    (λ κs. (
      shr_Tells (named 0) κs.0 Row,
      (uint_Tells w64, (uint_Tells w64, (uint_Tells w64, (shr_Tells (named 1) κs.1.0 page.the_row, tt)))),
    )) (λ κs qs bounds a gh are.
    let b : ℕ = a.0.ref_ptr.0 in
    let o : ℕ = a.0.ref_ptr.1 in
    let d : FirstView = a.0.now in
    let old : ℕ = a.1.0 in
    let new : ℕ = a.1.1.0 in
    let id : ℕ = a.1.1.1.0 in
    let p = a.1.1.1.1.0.now in
    let pv : Val = vptr a.1.1.1.1.0.ref_ptr.0 a.1.1.1.1.0.ref_ptr.1 in
    let κ : Lft = κs.0 in
    let q : Share = qs.0 in
    let others : Fml = fsep (flft κs.1.0 qs.1.0) ftrue in
    let y : (walk_of 𝓛 ended hs c).Ghost =
    ((κs, qs, bounds, a, (vptr b o ∷ [], (vint w64 old ∷ [], (vint w64 new ∷ [], (vint w64 id ∷ [], (pv ∷ [], tt)))))), gh) in
    let Post : Val → SProp 𝓤 = (walk_of 𝓛 ended hs c).post y in
    let At : Type 0 = p.table ≡ d.table in
    let Low : Type 0 = IsLowestUnset (old / 64) id in
    let First : Type 0 = id < 58 in
    let New : Type 0 = new ≡ word_with old id in
    qed 𝓛 (((‵ (flft κ q) ⊛ ‵ others) ⊛ ‵ (owns (types_at ended.signature.params κs) a y.0.4))
    ∷ raw (fact 𝓤 At) ∷ raw (fact 𝓤 Low) ∷ raw (fact 𝓤 First) ∷ raw (fact 𝓤 New) ∷ []) ∵
    keep ! (1 ∷ 2 ∷ 3 ∷ 4 ∷ 0 ∷ []) $ heard ! At (λ at. heard ! Low (λ low. heard ! First (λ near. heard ! New (λ is_new.
    split ! $ split ! $ move ! (2 ∷ []) $ fsplit ! $ fsplit ! $ move ! (2 ∷ []) $ fsplit3 ! $ move ! (2 ∷ []) $ fsplit3 ! $
    move ! (1 ∷ []) $ fsplit ! $ move ! (1 ∷ []) $ unhide ! $ fsplit ! $ drop ! $
    fpack ! ℕ (page_with p.table p.moves) p.room $ rewrite ! 0 (λ (t : ℕ). ‵ (page_owns t p.moves)) at refl $ keep ! (7 ∷ 8 ∷ 9 ∷ 0 ∷ []) $
    -- [what the `&` holds; its token; the other tokens; the page]
    enter ! 𝓣.C 𝓣.Λ fn (vptr b o ∷ vint w64 old ∷ vint w64 new ∷ vint w64 id ∷ pv ∷ []) Post $ alloc_all ! (λ l.
    pass_all ! refl (
      (tt, tt),
      (
        (tt, record { fits = are.1.0.1 }),
        ((tt, record { fits = are.1.1.0.1 }), ((tt, record { fits = are.1.1.1.0.1 }), ((tt, tt), tt))),
      ),
    ) $
    let Ev = env fn.locals l in
    unhide ! $ fpick ! (λ α. fsplit ! $ move ! (0 ∷ 2 ∷ []) $
    lends_token ! 𝓜 𝓡 κ α q $ await ! tt $ pick ! (λ s. split ! $
    -- [α's token, and the way back; the invariant; the other tokens; the page]
    let after : ℕ → Fml = λ n. fsep (flft α s) (step.tried 𝓛 d.table id p.moves (n == old)) in
    first ! $ blocks ! $ sets ! (addr ! (through ! refl (fld ! refl (stop !)))) refl (tt, tt) $
    move ! (2 ∷ 0 ∷ 4 ∷ []) $
    use3 𝓛 (raw (𝓣.C _ (vptr b (o + 0) ∷ vint w64 old ∷ vint w64 new ∷ []) (λ u. mean 𝓛 (found after u))))
    (via 𝓤 _ (step.tries 𝓛 d.table b o α s old new id p.moves is_new low near)
    (exchanges 𝓛 𝓜 𝓡 (code.calls-thread_local_ids::locks::word::exchange 𝓡.env wired)
    (block_ptr b (o + 0)) old new are.1.0.1 are.1.1.0.1 after)) $
    Calls-last ! (fm 𝓛 𝓜 𝓡) (found after)
    (and_then ! (get ! refl) (and_then ! (get ! refl) (and_then ! (get ! refl) (no_more !)))) (λ u.
    finds ! after (λ n fits.
    lands_last ! refl (tt, record { fits = fits }) $
    exec ! 𝓣.C 𝓣.Λ Ev (tail fn.body) (at_ret Ev Post) $
    sets ! (of_opd ! (get ! refl)) refl (tt, record { fits = fits }) $
    sets ! (agg ! (no_more !)) refl (tt, tt) $ sets ! (agg ! (and_then ! (get ! refl) (no_more !))) refl (tt, (tt, tt)) $
    sets ! (agg ! (and_then ! (get ! refl) (and_then ! (get ! refl) (no_more !)))) refl (tt, (record { fits = fits }, ((tt, tt), tt))) $
    fsplit ! $ move ! (0 ∷ 2 ∷ []) $
    returns_token ! κ α q s $ await ! tt $
    -- [the token; what the step left; the other tokens]
    move ! (1 ∷ []) $ fpick ! (λ before. fsplit ! $ fpick ! (λ so. drop ! $
    let left : Option Gv = published_in before (taken_id before) in
    let r : Tr.Denot = record { marker = record {}; table = d.table; before = before; held = n == old; lent = false; left = left } in
    use0 𝓛 (‵ ((Mark (right.the_type).name).own_val (tt, tt) (token ∷ []))) (made (right.the_type).name 𝓛) $
    fjoin ! $ flt_i ! n (2 ^ 64) fits $ feq_i ! _ (vint w64 n ∷ []) _ refl $ fjoin ! $
    pair_in u64 Tr ! n r (vint w64 n) token $
    knows ! ((n == old) ≡ true → id ≡ taken_id before) so.1 $ knows ! (IsPrefix p.moves before) so.0 $ join ! $
    knows ! (IsStepped d.table (n == old) r) (record { of_table = refl; held = refl; here = refl; left = refl }) $ join ! $
    -- [the facts; what the step left; the token; the other tokens]
    move ! (2 ∷ 3 ∷ []) $ join ! $ nothing ! $ nothing ! $ fjoin ! $ nothing ! $ fjoin ! $ nothing ! $ fjoin ! $ nothing ! $ fjoin ! $
    nothing ! $ fjoin ! $
    -- [nothing; the tokens; the facts; what is answered]
    returns ! (look_at ! 0 refl) $ free_all ! refl $ keep ! (1 ∷ 0 ∷ 3 ∷ 2 ∷ []) $
    by ! (leaves 𝓛 ended hs c y (both (vint w64 n) token) (n, r) (tt, (tt, (tt, (tt, (tt, tt))))) (tt, (tt, (tt, (tt, (tt, tt))))))))))))))))))
