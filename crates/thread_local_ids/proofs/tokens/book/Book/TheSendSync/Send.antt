-- A book may go to another thread: what it tells names none.
use Rattle.std.proofs.Common.{ℕ, Bool, true, false, List, Option}
use base.Shift.{Keyless}
use denote.RattleType.{RattleType}
use denote.Param.Send.{IsSend}
use Rattle.thread_local_base.specs.Buckets.{Contents}
use Rattle.thread_local_base.specs.IdMoves.{IdMove}
use Rattle.thread_local_ids.specs.Told.{book_with}
use Rattle.thread_local_ids.proofs.MoveElements.{history_keyless}
use Rattle.thread_local_ids.proofs.Rows.{rows_keyless}
use Rattle.thread_local_ids.specs.contracts.tokens.book.Book.{the_row}

with_keyless : (T : RattleType) (sharing : Option ℕ) (contents : Contents T.Denot) (table : ℕ) (whole : Bool) (moves : List IdMove)
    → Keyless (book_with T sharing contents table whole moves)
with_keyless T sharing contents table false moves = (((λ _. tt), rows_keyless T sharing 0 contents.rows), tt)
with_keyless T sharing contents table true moves =
    (((λ _. tt), rows_keyless T sharing 0 contents.rows), history_keyless table moves)

pub send : (T : RattleType) → IsSend (the_row T)
send T = record {
  owned = λ d vs. ((λ vss. (tt, ((λ uss. (tt, tt)), tt))), with_keyless T d.sharing d.contents d.table d.whole d.moves);
  leaving = λ k f vs. tt;
}
