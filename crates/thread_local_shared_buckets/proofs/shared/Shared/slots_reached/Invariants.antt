use Rattle.std.proofs.Common.{◌≡◌, ◌≤◌, ◌-◌, ◌*◌, length, true}
use mathlib.Core.List.{IsPrefix}
use Rattle.thread_local_base.specs.IdMoves.{held_after}
use Rattle.std.specs.Prelude.{max}
use Rattle.thread_local_shared_buckets.proofs.CountedSlots.{Counted}
use Rattle.thread_local_shared_buckets.proofs.RoomForTokens.{IsTold}
use Rattle.thread_local_shared_buckets.proofs.shared.Shared.slots_reached.Given as goal

-- the reserved slots and those of the buckets so far, with those of the tokens there, for which the page
-- that the last bucket shows allows
abbrev pub invariant-buckets : goal.invariant-buckets
invariant-buckets g l = record {
  counted : Counted (IsTold l.self.sharing l.told) l.self.reserved l.left l.slots;
  table : l.seen.table ≡ l.self.table;
  early : IsPrefix l.page.moves l.seen.moves;
  grown : l.self.grown_by_ids ≡ true → l.slots ≤ max l.self.reserved (2 * length (held_after l.seen.moves) - 1);
}

abbrev pub decreases-buckets : goal.decreases-buckets
decreases-buckets g l = l.left
