use Rattle.std.proofs.Common.{◌≡◌, ◌+◌, ◌*◌, ◌^◌, ◌≤◌, length}
use Rattle.std.specs.Prelude.{sum}
use Rattle.thread_local_examples_contracts.proofs.sums.added_up.Given as goal

-- what was added, and what is still to come
abbrev pub invariant-loop-value : goal.invariant-loop-value
invariant-loop-value l = record {
  can : goal.iterator-loop-value.can_next l.value-iterator;
  finite : goal.iterator-loop-value.is_finite l.value-iterator;
  summed : l.total + sum l.value-iterator ≡ sum l.fn.values;
  fits : l.total + length l.value-iterator * 2 ^ 64 ≤ length l.fn.values * 2 ^ 64;
}
