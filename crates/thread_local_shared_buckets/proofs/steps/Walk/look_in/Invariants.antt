-- The chunks before this one have no own slot, and no token is of one of their slots.
use Rattle.thread_local_shared_buckets.proofs.Findings.{LiesOutside, own_index}
use Rattle.std.proofs.Common.{◌≤◌, ◌<◌, ℕ}
use Rattle.thread_local_shared_buckets.proofs.ToldLaws.{NoneBefore}
use Rattle.thread_local_shared_buckets.proofs.steps.Walk.look_in.Given as goal

abbrev pub invariant-loop-chunk : goal.invariant-loop-chunk
invariant-loop-chunk g l = record {
  later : l.initial.chunk ≤ l.chunk;
  none_before : (k : ℕ) → l.initial.chunk ≤ k → k < l.chunk → LiesOutside (own_index l.fn.self.own l.fn.self.raw.bucket) k;
  none_told : NoneBefore l.row l.initial.chunk l.chunk l.told;
}
