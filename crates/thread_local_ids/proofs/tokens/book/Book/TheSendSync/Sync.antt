-- Threads may share a book: what it tells names none of them.
use denote.RattleType.{RattleType}
use denote.Param.Send.{IsSync}
use Rattle.thread_local_ids.proofs.Rows.{rows_keyless}
use Rattle.thread_local_ids.specs.contracts.tokens.book.Book.{the_row}

pub sync : (T : RattleType) → IsSync (the_row T)
sync T = record { shared = λ d b o κ. ((((tt, λ _. tt), tt), λ _. tt), ((λ _. tt), rows_keyless T d.sharing 0 d.contents.rows)) }
