use Rattle.std.proofs.Common.{◌≡◌, ◌+◌}
use Rattle.thread_local_buckets.specs.Cursor.{values_left, IsOwnerWalk}
use Rattle.thread_local_base.specs.Owner.{emptied}
use Rattle.thread_local_buckets.specs.Emptied.{owned_emptied}
use Rattle.thread_local_buckets.proofs.buckets.Buckets.drop_rest.Given as goal

-- the walk goes on and ends where no value is left, and without values the buckets stay the same
abbrev pub invariant-loop : goal.invariant-loop
invariant-loop g l =
    IsOwnerWalk l.self.contents l.cursor × (l.counter + values_left l.cursor ≡ l.end)
    × (values_left l.cursor ≡ 0 → emptied l.self.contents ≡ l.self.contents)
    × (owned_emptied l.self ≡ owned_emptied l.fn.self)
