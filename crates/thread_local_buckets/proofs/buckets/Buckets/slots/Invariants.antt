use Rattle.std.proofs.Common.{◌≡◌}
use Rattle.thread_local_buckets.proofs.AddingSlots.{IsAdded}
use Rattle.thread_local_buckets.proofs.buckets.Buckets.slots.Given as goal

-- the slots of the buckets so far
abbrev pub invariant-buckets : goal.invariant-buckets
invariant-buckets g l = record {
  added : IsAdded l.initial.self-inside.pointers l.left l.slots;
  same : l.self-inside.pointers ≡ l.initial.self-inside.pointers;
  reserved : l.self-inside.reserved ≡ l.initial.self-inside.reserved;
}

abbrev pub decreases-buckets : goal.decreases-buckets
decreases-buckets g l = l.left
