use Rattle.std.proofs.Common.{◌≡◌, Some}
use Rattle.thread_local_shared_buckets.specs.Walks.{owed_value}
use Rattle.thread_local_contract_tests.proofs.walk_callers.finds_own.Given as goal

-- the walk may go on, it ends, and it has still to give the value
abbrev pub invariant-loop-value : goal.invariant-loop-value
invariant-loop-value g l = record {
  can : (goal.iterator-loop-value g).can_next l.value-iterator;
  finite : (goal.iterator-loop-value g).is_finite l.value-iterator;
  own : owed_value l.value-iterator.own ≡ Some l.fn.number;
}
