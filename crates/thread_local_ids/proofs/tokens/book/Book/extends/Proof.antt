-- `extends` compares the history that the book has with a page.
use Rattle.thread_local_base.proofs.Names.{◌≡◌, ℕ, [], ◌∷◌, refl, a_type, named, vunit, ftrue}
use Rattle.thread_local_base.proofs.Names.{inst_fn, ‵, raw, ◌⊛◌, ◌$◌, ◌∵◌, !, qed, move, keep}
use Rattle.thread_local_base.proofs.Names.{drop, given, learn, split, fsplit, fsplit3, fjoin, fpack, rewrite, feq_i, use2}
use Rattle.thread_local_base.proofs.Names.{of_opd, unit_lit, returns, enter, alloc_all, pass_all, free_all, look_at}
use Rattle.thread_local_base.proofs.Names.{sets, fact, RattleType, owns, types_at, yes, plain, RefOf}
use Rattle.thread_local_base.proofs.Names.{nothing, heard, param, layouts, shr_vals, shr_Tells, Stays, stay_dropped, Goes-dropped}
use Rattle.thread_local_base.proofs.Names.{walk_of, proved, unhide}
use Rattle.std.proofs.Common.{Bool, true, sym}
use base.Fml.{Fml, flft, fsep}
use types.Kit.{join, fjoin3, suffices, frame}
use denote.Ref.{mut_vals, mut_Tells}
use denote.Steps.{opens, closes}
use denote.Triple.Walked.{stay_ref, Goes-ref, ends_at}
use mathlib.Core.List.{IsPrefix}
use Rattle.thread_local_ids.specs.Rights.{history_owns, page_owns, page_with}
use Rattle.thread_local_ids.specs.Told.{book_owns, book_with}
use Rattle.thread_local_ids.proofs.Facts.{tells as shows, tells_last}
use Rattle.thread_local_ids.proofs.MoveElements.{page_is_early}
use Rattle.thread_local_ids.specs.contracts.rights.page.Page as Page
use Rattle.thread_local_ids.specs.contracts.tokens.book.Book as Book
use Rattle.thread_local_ids.specs.contracts.tokens.book.Book.extends.{ended, clauses, Key.name as #self}
use Rattle.thread_local_ids.proofs.tokens.book.Book.extends.Statement.{statement}
use Rattle.thread_local_ids.proofs.tokens.book.Book.extends.Code as code

pub extends_spec : {M : Type 1} → statement M
extends_spec 𝓤 𝓛 𝓜 𝓡 wired T L =
    let R : RattleType = param 0 T in let En = ended T in let S : RattleType = Page.the_row in let A : RattleType = Book.the_row R in
    let inst = layouts (a_type ∷ []) (T, tt) in let fn = inst_fn inst code.function in let c = clauses T 𝓛 𝓜.mem 𝓡.returns in
    let lent = RefOf (1 ∷ []) tt (plain (λ _. S)) (λ _. tt) in
    let hs : Stays En.signature.params En.kept = (stay_ref (0 ∷ []) tt (plain (λ _. A)), (stay_dropped lent yes, tt)) in
    proved 𝓛 En hs c 𝓜 𝓡 (Goes-ref 𝓛 3 0 tt (plain (λ _. A)), (Goes-dropped 𝓛 3 lent yes (λ κs x f. refl), tt))
    (#self inst) fn (code.unfolded 𝓤 𝓛.H 𝓜 𝓡 wired (T, tt))
    (λ κs. (mut_vals, (shr_vals, tt))) (λ κs. (mut_Tells (named 0) κs.0 A, (shr_Tells (named 1) κs.1.0 S, tt)))
    (λ κs qs bounds a gh are.
    let r = a.0 in let b = r.ref_ptr.0 in let o = r.ref_ptr.1 in
    let s = r.now in let w = a.1.0.now in
    let y : (walk_of 𝓛 En hs c).Ghost = ((κs, qs, bounds, a, (mut_vals r, (shr_vals a.1.0, tt))), gh) in
    let Of : Type 0 = w.table ≡ s.table in
    let Whole : Type 0 = s.whole ≡ true in
    let Early : Type 0 = IsPrefix w.moves s.moves in
    let Told : Fml = book_owns R s.sharing s.contents in
    let others : Fml = fsep (flft κs.1.0 qs.1.0) (fsep (flft κs.1.1.0 qs.1.1.0) ftrue) in
    qed 𝓛 (((‵ (flft κs.0 qs.0) ⊛ ‵ others) ⊛ ‵ (owns (types_at En.signature.params κs) a y.0.4))
    ∷ raw (fact 𝓤 _) ∷ raw (fact 𝓤 Of) ∷ raw (fact 𝓤 Whole) ∷ []) ∵
    keep ! (2 ∷ 3 ∷ 0 ∷ []) $ heard ! Of (λ of. heard ! Whole (λ whole.
    split ! $ split ! $ move ! (2 ∷ []) $ fsplit3 ! $ move ! (1 ∷ []) $ fsplit ! $
    keep ! (1 ∷ 2 ∷ 4 ∷ 5 ∷ []) $ unhide ! $ fsplit ! $ drop ! $
    -- [the page; self; its token; the other tokens]
    enter ! _ _ _ _ _ $ alloc_all ! (λ l. pass_all ! refl ((tt, tt), ((tt, tt), tt)) $
    fpack ! ℕ (page_with w.table w.moves) w.room $ rewrite ! 0 (λ (k : ℕ). ‵ (page_owns k w.moves)) of refl $
    move ! (1 ∷ []) $ fsplit3 ! $ move ! (1 ∷ 2 ∷ 4 ∷ []) $ opens ! tt A b o (λ us.
    move ! (1 ∷ []) $ fsplit ! $ move ! (1 ∷ []) $
    rewrite ! 0 (λ (t : Bool). ‵ (book_with R s.sharing s.contents s.table t s.moves)) whole refl $ fsplit ! $
    -- [what is told; the history; the fields; the cell and the open borrow; self's first part; the page; the other tokens]
    move ! (1 ∷ 8 ∷ []) $
    use2 𝓛 (given Early (‵ (history_owns s.table s.moves) ⊛ ‵ (page_owns s.table w.moves))) (page_is_early 𝓛 s.table s.moves w.moves) $
    learn ! (λ early. split ! $ move ! (1 ∷ []) $ drop ! $
    -- [the history; what is told; the fields; ..]
    move ! (1 ∷ 0 ∷ []) $ fjoin ! $
    rewrite ! 0 (λ (t : Bool). ‵ (book_with R s.sharing s.contents s.table t s.moves)) (sym whole) refl $
    move ! (1 ∷ 0 ∷ []) $ fjoin ! $
    move ! (1 ∷ 0 ∷ 2 ∷ 3 ∷ 4 ∷ []) $ closes ! tt A s us b o $
    sets ! (of_opd ! (unit_lit !)) refl (tt, tt) $ returns ! (look_at ! 0 refl) $ free_all ! refl $
    suffices ! _ (ends_at 𝓛 En hs c y vunit tt (s, (tt, tt)) (tt, (tt, tt))) $
    -- [two parts of self; its token; self's first part; the other tokens]
    move ! (3 ∷ 0 ∷ 1 ∷ []) $ fjoin3 ! $ nothing ! $ nothing ! $ fjoin ! $ move ! (1 ∷ 0 ∷ []) $ fjoin ! $
    feq_i ! _ (vunit ∷ []) _ refl $ move ! (1 ∷ 0 ∷ []) $ join ! $
    move ! (1 ∷ 2 ∷ []) $ join ! $ join ! $ frame ! $
    shows ! early $ tells_last ! refl))))))
