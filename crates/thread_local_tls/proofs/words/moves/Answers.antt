use Rattle.std.proofs.Common.{sym, ap, ◌∙◌, append-nil, Some, eqb-true}
use Rattle.thread_local_tls.specs.Words.{texts, moves_of}
use Rattle.thread_local_tls.proofs.WordLaws.{moves_then, nothing_left, moves_of-none}
use Rattle.thread_local_tls.proofs.words.moves.Goals as goal

pub returns-clause-ok : goal.returns-clause-ok
returns-clause-ok c =
    sym c.loop-rest.invariant
    ∙ ap (λ ws. moves_then c.loop-rest.moves.items (moves_of (texts ws)))
    (nothing_left c.loop-rest.rest.now
    (eqb-true _ 0 (sym c.is_empty.ensures ∙ c.loop-rest-test.false)))
    ∙ ap (moves_then c.loop-rest.moves.items) moves_of-none
    ∙ ap Some (append-nil c.loop-rest.moves.items)
