-- `with_history` looks into what lies with the word: the note of each id that isn't held lies there.
use Rattle.thread_local_base.proofs.Names.{◌≡◌, ℕ, ◌-◌, ◌^◌, List, [], ◌∷◌, ◌++◌, refl, sym, subst, a_type, Val, inst_fn}
use Rattle.thread_local_base.proofs.Names.{SProp, ent, id⊢, Fml, ftrue, WpFn, ‵, raw, ◌⊛◌, given}
use Rattle.thread_local_base.proofs.Names.{◌$◌, ◌∵◌, !, qed, by, move, keep, drop, use1, use3, split, split3, join, fsplit, fsplit3}
use Rattle.thread_local_base.proofs.Names.{fjoin, fpick, fpack, learn, suffices, rewrite, of_opd, get, returns, enter}
use Rattle.thread_local_base.proofs.Names.{alloc_all, pass_all, free_all, look_at, sets, tables, no, RattleType, owns}
use Rattle.thread_local_base.proofs.Names.{types_at, plain, yes, alive, nothing, param, layout, layouts, param_laws, Stays, stay_dropped}
use Rattle.thread_local_base.proofs.Names.{walk_of, Goes-dropped, proved_at, leaves, one}
use Rattle.std.proofs.Common.{true, false, Option, ◌<◌}
use base.Stored.{Gv}
use Rattle.thread_local_base.specs.Buckets.{IsTable, values}
use Rattle.thread_local_base.specs.Held.{is_held}
use Rattle.thread_local_base.specs.IdMoves.{IdMove, held_after, published_in}
use Rattle.thread_local_ids.specs.Rights.{rights_own, all_noted}
use Rattle.thread_local_ids.specs.Told.{rows_tell, book_owns}
use Rattle.thread_local_ids.specs.Sharings.{is_first, left_of}
use Rattle.thread_local_ids.proofs.BookElements.{left_if}
use Rattle.thread_local_ids.proofs.Made.{only_told}
use Rattle.thread_local_ids.proofs.first.FirstIds.TheLaws as laws'
use Rattle.thread_local_ids.specs.contracts.tokens.book.Book as Book
use Rattle.thread_local_ids.proofs.tokens.book.Book.TheLaws.{the_row_laws}
use Rattle.thread_local_ids.specs.contracts.first.FirstIds as ids
use Rattle.thread_local_ids.specs.contracts.first.FirstIds.with_history.{ended, clauses, Key.name as #self}
use Rattle.thread_local_ids.proofs.first.FirstIds.with_history.Statement.{statement}
use Rattle.thread_local_ids.proofs.first.FirstIds.with_history.Code as code
use Rattle.thread_local_base.proofs.Walking.{knows}

pub with_history_spec : {M : Type 1} → statement M
with_history_spec 𝓤 𝓛 𝓜 𝓡 wired T L =
    let H = 𝓛.H in let 𝓣 = tables 𝓤 H 𝓜 𝓡 𝓡.env in let R : RattleType = param 0 T in let LR = param_laws 0 T L in
    let En = ended T in let c = clauses T 𝓛 𝓜.mem 𝓡.returns in let inst = layouts (a_type ∷ []) (T, tt) in
    let fn = inst_fn inst code.function in let A : RattleType = ids.the_row in let S : RattleType = Book.the_row R in
    let self = plain (λ _. A) in let lot = plain (λ _. S) in
    let hs : Stays En.signature.params En.kept = (stay_dropped self yes, (stay_dropped lot no, tt)) in
    proved_at 𝓛 En hs c 𝓜 𝓡 (Goes-dropped 𝓛 1 self yes (λ κs x f. refl), (Goes-dropped 𝓛 1 lot no (λ κs x f. refl), tt))
    (#self inst) fn (code.unfolded 𝓤 H 𝓜 𝓡 wired (T, tt)) (λ y are.
    let κs = y.0.0 in let qs = y.0.1 in let a = y.0.3 in let vss = y.0.4 in
    let Post : Val → SProp 𝓤 = (walk_of 𝓛 En hs c).post y in
    let s = a.0 in let book = a.1.0 in let table : ℕ = s.table in
    let mine = one (layout A) vss.0 ((laws'.the_row_laws.lawful 𝓛).typed s vss.0 are.0) in
    let got = one (layout S) vss.1.0 (((the_row_laws R LR).lawful 𝓛).typed book vss.1.0 are.1.0) in
    let u : Val = mine.0 in let v : Val = got.0 in
    let Run : List Val → SProp 𝓤 = λ ws. WpFn 𝓤 H 𝓣.C 𝓣.Λ fn ws Post in
    let us : List Val = u ∷ v ∷ [] in
    let rows = book.contents.rows in
    let Rows : Fml = rows_tell R book.sharing 0 rows in
    qed 𝓛 ((raw (alive 𝓛 En.signature κs qs) ⊛ ‵ (owns (types_at En.signature.params κs) a vss))
    ∷ raw ((c κs a).requires y.1) ∷ []) ∵
    keep ! (0 ∷ []) $ split ! $ move ! (1 ∷ []) $ fsplit3 ! $ keep ! (0 ∷ 1 ∷ 3 ∷ []) $
    rewrite ! 1 (λ (ws : List Val). ‵ (S.own_val book ws)) got.1 refl $
    suffices ! (Run us) (subst (λ (ws : List Val). ent 𝓤 (Run us) (Run ws)) (sym (λ j. mine.1 j ++ (got.1 j ++ []))) (id⊢ 𝓤 (Run us))) $
    enter ! 𝓣.C 𝓣.Λ fn us Post $ alloc_all ! (λ l. pass_all ! refl (mine.2, (got.2, tt)) $
    -- [the word; the book; the tokens]
    fsplit ! $ drop ! $ fpick ! (λ n. fsplit ! $ drop ! $
    fpick ! (λ k. let moves : List IdMove = k.0 in
    fsplit ! $ fsplit ! $ move ! (2 ∷ []) $ fsplit3 ! $ move ! (2 ∷ []) $ fpick ! (λ tied. drop ! $
    -- [the rights; the log; the history; the notes; the book; the tokens]
    move ! (4 ∷ []) $ fsplit ! $ move ! (1 ∷ []) $
    use1 𝓛 (‵ (book_owns R book.sharing book.contents)) (only_told 𝓛 R book.sharing book.contents book.table book.whole book.moves) $
    fsplit ! $ fpick ! (λ is. drop ! $
    -- [what the book tells; its fields; the rights; the log; the history; the notes; the tokens]
    let Left : Type 0 = is_first book.sharing table ≡ true
    → (id : ℕ) → id < 2 ^ 63 - 1 → is_held (held_after moves) id ≡ false
    → ◌≡◌ {A = Option Gv} (published_in moves id) (left_of R (values book.contents id)) in
    move ! (0 ∷ 2 ∷ 5 ∷ []) $
    use3 𝓛 (given Left (‵ Rows ⊛ ‵ (rights_own table k.1.0) ⊛ ‵ (all_noted table moves)))
    (left_if 𝓛 R table book.contents is moves k.1.0 tied.notes book.sharing) $
    learn ! (λ left. split3 ! $
    -- [what the book tells; the rights; the notes; its fields; the log; the history; the tokens]
    move ! (1 ∷ 2 ∷ 4 ∷ []) $ drop ! $ drop ! $ drop ! $ nothing ! $ fpack ! (IsTable book.contents) (λ _. ftrue) is $ fjoin ! $
    move ! (0 ∷ 2 ∷ []) $ fjoin ! $ move ! (1 ∷ 0 ∷ []) $ fjoin ! $
    -- [the book; the tokens]
    sets ! (of_opd ! (get ! refl)) refl got.2 $
    let r : S.Denot = record { marker = record {}; sharing = book.sharing; contents = book.contents; table = table; moves = moves; whole = true } in
    let Booked : Type 0 = (◌≡◌ {A = Option ℕ} r.sharing book.sharing) × (r.contents ≡ book.contents) in
    knows ! Left left $
    knows ! ((table ≡ table) × (true ≡ true)) (refl, refl) $ join ! $
    knows ! Booked (refl, refl) $ join ! $ nothing ! $ nothing ! $ fjoin ! $ nothing ! $ fjoin ! $
    -- [nothing; the facts; the book; the tokens]
    returns ! (look_at ! 0 refl) $ free_all ! refl $ keep ! (3 ∷ 0 ∷ 2 ∷ 1 ∷ []) $
    by ! (leaves 𝓛 En hs c y v r (tt, (tt, tt)) (tt, (tt, tt))))))))))
