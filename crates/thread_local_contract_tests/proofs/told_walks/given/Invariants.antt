use Rattle.thread_local.specs.Walks.{HasGiven}
use Rattle.thread_local_contract_tests.proofs.told_walks.given.Given as goal

-- the walk may go on and ends, and what it has given
abbrev pub invariant-loop-token : goal.invariant-loop-token
invariant-loop-token l = record {
  can : goal.iterator-loop-token.can_next l.token-iterator;
  finite : goal.iterator-loop-token.is_finite l.token-iterator;
  given : HasGiven l.fn.table.sharing l.fn.told l.token-iterator l.given.items;
}
