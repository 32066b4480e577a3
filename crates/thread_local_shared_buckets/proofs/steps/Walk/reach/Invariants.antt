-- It has looked in each bucket up to the one that it is in. Each turn leaves that bucket behind.
use Rattle.std.proofs.Common.{◌≡◌, ◌<◌, ◌-◌, false}
use Rattle.thread_local_ids.specs.TokenLists.{AllOf}
use Rattle.thread_local_shared_buckets.specs.Positions.{lies_in, IsBehind}
use Rattle.thread_local_shared_buckets.specs.AtHand.{IsWalk, HasSkipped}
use Rattle.thread_local_shared_buckets.proofs.steps.Walk.reach.Given as goal

abbrev pub invariant-loop-self : goal.invariant-loop-self
invariant-loop-self g l = record {
  comes : HasSkipped l.initial.self l.self;
  walk : IsWalk l.self;
  in_table : l.self.raw.bucket < 63;
  elsewhere : l.self.rest ≡ 0 → lies_in l.self.own l.self.raw.bucket ≡ false;
  behind : l.self.rest ≡ 0 → AllOf l.self.buckets.now.sharing (λ p. IsBehind l.self.raw p.id) l.self.told;
}

abbrev pub decreases-loop-self : goal.decreases-loop-self
decreases-loop-self g l = 63 - l.self.raw.bucket
