use Rattle.thread_local.specs.Walks.{HasGiven}
use Rattle.thread_local_examples_contracts.proofs.snapshot.snapshot.Given as goal

-- the walk may go on and ends, and what it has given
abbrev pub invariant-loop-id : goal.invariant-loop-id
invariant-loop-id g l = record {
  can : (goal.iterator-loop-id g).can_next l.id-iterator;
  finite : (goal.iterator-loop-id g).is_finite l.id-iterator;
  given : HasGiven l.fn.local.sharing l.fn.told l.id-iterator l.given.items;
}
