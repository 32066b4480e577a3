use Rattle.std.proofs.Common.{◌≡◌, IfSome, sum_by}
use Rattle.thread_local_contract_tests.proofs.told_walks.summed.Given as goal

-- the walk may go on and ends, and what was added, while it fits
abbrev pub invariant-loop-value : goal.invariant-loop-value
invariant-loop-value l = record {
  can : goal.iterator-loop-value.can_next l.value-iterator;
  finite : goal.iterator-loop-value.is_finite l.value-iterator;
  total : IfSome l.total (λ total. total ≡ sum_by (λ value. value.now) l.yielded);
}
