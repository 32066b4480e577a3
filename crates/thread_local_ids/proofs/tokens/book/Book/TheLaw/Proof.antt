-- A `&` to a book holds what the book tells, which can be had twice. Assumes `Logic`.
use base.Logic.{ent, sep}
use base.Fml.{ftrue}
use seplogic.Ra.Ura.{Ura}
use types.Logic.{Logic, sem}
use types.Kit.{‵, ◌⊛◌, ◌$◌, ◌∵◌, !, qed, drop, move, split, fsplit, fjoin, fpick, fpack, frame, use1, done}
use mathlib.Core.List.{[], ◌∷◌}
use denote.RattleType.{RattleType}
use denote.Steps.{nothing}
use denote.Param.Laws.{Laws}
use denote.Param.Shared.{copy_shared}
use denote.Struct.Laws.{field_copy}
use denote.Struct.Lending.{of_Lends}
use Rattle.std.proofs.Common.{ℕ, Bool, true, false, List, Option}
use Rattle.std.specs.contracts.marker.PhantomData as P
use Rattle.thread_local_base.specs.Buckets.{Contents, IsTable}
use Rattle.thread_local_base.specs.IdMoves.{IdMove}
use Rattle.thread_local_ids.specs.Told.{rows_tell, book_owns, book_with}
use Rattle.thread_local_ids.specs.contracts.tokens.book.Book as C
use Rattle.thread_local_ids.proofs.Rows.{rows_dup}
use Rattle.thread_local_ids.proofs.Twice.{lends_shown, said_laws}
use Rattle.thread_local_ids.proofs.tokens.book.Book.TheLaw.Statement.{statement}

book_dup : {M : Type 1} {𝓤 : Ura M} (𝓛 : Logic 𝓤) (R : RattleType) (sharing : Option ℕ)
    (contents : Contents R.Denot)
    → ent 𝓤 (sem 𝓛 (book_owns R sharing contents))
    (sep 𝓤 (sem 𝓛 (book_owns R sharing contents)) (sem 𝓛 (book_owns R sharing contents)))
book_dup 𝓛 R sharing contents =
    let Rows = rows_tell R sharing 0 contents.rows in
    qed 𝓛 (‵ (book_owns R sharing contents) ∷ []) ∵ fsplit ! $ fpick ! (λ is. drop ! $
    use1 𝓛 (‵ Rows ⊛ ‵ Rows) (rows_dup 𝓛 R sharing 0 contents.rows) $ split ! $
    nothing ! $ fpack ! (IsTable contents) (λ _. ftrue) is $ fjoin ! $ frame ! $ nothing ! $
    fpack ! (IsTable contents) (λ _. ftrue) is $ fjoin ! $ done !)

-- what a book has beside shows nothing
shown : {M : Type 1} {𝓤 : Ura M} (𝓛 : Logic 𝓤) (R : RattleType) (sharing : Option ℕ)
    (contents : Contents R.Denot) (table : ℕ) (whole : Bool) (moves : List IdMove)
    → ent 𝓤 (sem 𝓛 (book_with R sharing contents table whole moves))
    (sep 𝓤 (sem 𝓛 (book_with R sharing contents table whole moves)) (sem 𝓛 (book_owns R sharing contents)))
shown 𝓛 R sharing contents table false moves =
    let Told = book_owns R sharing contents in
    qed 𝓛 (‵ (book_with R sharing contents table false moves) ∷ []) ∵ fsplit ! $
    use1 𝓛 (‵ Told ⊛ ‵ Told) (book_dup 𝓛 R sharing contents) $ split ! $ move ! (0 ∷ 2 ∷ []) $ fjoin ! $ done !
shown 𝓛 R sharing contents table true moves =
    let Told = book_owns R sharing contents in
    qed 𝓛 (‵ (book_with R sharing contents table true moves) ∷ []) ∵ fsplit ! $
    use1 𝓛 (‵ Told ⊛ ‵ Told) (book_dup 𝓛 R sharing contents) $ split ! $ move ! (0 ∷ 2 ∷ []) $ fjoin ! $ done !

pub shares : (T : RattleType) (L : Laws T) → statement T L
shares T L = of_Lends (C.struct T) (C.the_codes T.Denot T.coded (P.the_row T).coded) (C.the_heap T) (C.the_lent T)
    (λ d p. said_laws (book_owns T d.sharing d.contents) (λ M 𝓤 𝓛. book_dup 𝓛 T d.sharing d.contents))
    (copy_shared (P.the_field T) (field_copy (P.the_type T) tt), tt)
    (λ M 𝓤 𝓛 d p. lends_shown 𝓛 (book_with T d.sharing d.contents d.table d.whole d.moves) (book_owns T d.sharing d.contents)
    (shown 𝓛 T d.sharing d.contents d.table d.whole d.moves) (C.the_row T).lives)
