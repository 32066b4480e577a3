-- A book as a value: it has no bytes, and is made of what it says. Assumes `Logic`.
use Rattle.std.proofs.Common.{ℕ, Bool, true, false, List, [], ◌∷◌, refl, Option}
use seplogic.Ra.Ura.{Ura}
use mir.Val.{Val, vstruct, vcons, vnil}
use base.Logic.{ent}
use types.Logic.{Logic, sem}
use types.Kit.{‵, ◌$◌, ◌∵◌, !, qed, keep, fsplit, use0, done}
use denote.RattleType.{RattleType}
use denote.Shadow.{makes_shadow}
use Rattle.thread_local_base.specs.Buckets.{Contents}
use Rattle.thread_local_base.specs.IdMoves.{IdMove}
use denote.Struct.Struct.{Struct}
use denote.Struct.Owning.{shape}
use Rattle.thread_local_ids.specs.Told.{book_owns, book_with}
use Rattle.thread_local_ids.specs.contracts.tokens.book.Book as Book

abbrev pub token_val : Val
token_val = vstruct (vcons (vstruct vnil) vnil)

pub book_made : {M : Type 1} {𝓤 : Ura M} (𝓛 : Logic 𝓤) (R : RattleType) (b : (Book.the_row R).Denot)
    → ent 𝓤 (sem 𝓛 (book_with R b.sharing b.contents b.table b.whole b.moves))
    (sem 𝓛 ((Book.the_row R).own_val b (token_val ∷ [])))
book_made 𝓛 R b = let F = (Struct (shape (Book.the_type R))).own_val (tt, tt) (token_val ∷ []) in
    qed 𝓛 (‵ (book_with R b.sharing b.contents b.table b.whole b.moves) ∷ []) ∵
    use0 𝓛 (‵ F) (makes_shadow 𝓛 F (λ vss. (tt, ((λ uss. (tt, tt)), tt)))
    ((vstruct vnil ∷ [], tt), (refl, ((tt, (refl, tt)), tt)))) $
    done !

-- what a book tells, without the history
pub only_told : {M : Type 1} {𝓤 : Ura M} (𝓛 : Logic 𝓤) (R : RattleType) (sharing : Option ℕ) (contents : Contents R.Denot)
    (table : ℕ) (whole : Bool) (moves : List IdMove)
    → ent 𝓤 (sem 𝓛 (book_with R sharing contents table whole moves)) (sem 𝓛 (book_owns R sharing contents))
only_told 𝓛 R sharing contents table false moves =
    qed 𝓛 (‵ (book_with R sharing contents table false moves) ∷ []) ∵ fsplit ! $ keep ! (0 ∷ []) $ done !
only_told 𝓛 R sharing contents table true moves =
    qed 𝓛 (‵ (book_with R sharing contents table true moves) ∷ []) ∵ fsplit ! $ keep ! (0 ∷ []) $ done !
