use Rattle.std.proofs.Common.{◌≡◌, length}
use Rattle.thread_local_tls.specs.Words.{texts, moves_of}
use Rattle.thread_local_tls.proofs.WordLaws.{moves_then}
use Rattle.thread_local_tls.proofs.words.moves.Given as goal

abbrev pub invariant-loop-rest : goal.invariant-loop-rest
invariant-loop-rest l = moves_then l.moves.items (moves_of (texts l.rest)) ≡ moves_of (texts l.words)

abbrev pub decreases-loop-rest : goal.decreases-loop-rest
decreases-loop-rest l = length l.rest
