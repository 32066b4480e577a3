use Rattle.std.proofs.Common.{◌≡◌, ◌+◌, ◌*◌, ◌^◌, ◌≤◌, length}
use Rattle.std.specs.Prelude.{sum}
use Rattle.thread_local_buckets.specs.IterMut.{iter_mut_rest}
use Rattle.thread_local_table_tests.proofs.owners.zeroed.Given as goal

-- what stood there, and what is still to come
abbrev pub invariant-loop-value : goal.invariant-loop-value
invariant-loop-value l = record {
  can : goal.iterator-loop-value.can_next l.value-iterator;
  finite : goal.iterator-loop-value.is_finite l.value-iterator;
  summed : l.total + sum (iter_mut_rest l.value-iterator) ≡ sum (iter_mut_rest l.fn.walk);
  fits : l.total + length (iter_mut_rest l.value-iterator) * 2 ^ 32 ≤ length (iter_mut_rest l.fn.walk) * 2 ^ 32;
}
