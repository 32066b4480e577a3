use Rattle.std.proofs.Common.{◌-◌, ◌^◌, ℕ, List, sym, subst, map}
use Rattle.std.specs.List.Sorted.{IsStrictlyIncreasing}
use Rattle.thread_local_base.specs.Buckets.{values}
use Rattle.thread_local_base.specs.Walk.{walk}
use Rattle.thread_local_base.proofs.WalkLaws.{strictly_ascends}
use Rattle.thread_local.proofs.table.ThreadLocal.entries_mut.Goals as goal

-- that the ids of a walk ascend
pub returns : goal.returns
unfolding walk
returns g c =
    record {
      fresh = c.entries_mut.ensures.fresh;
      ascending =
          subst (λ (entries : List (ℕ × g.row.T.Denot)). IsStrictlyIncreasing (map (λ entry. entry.0) entries))
          (sym c.entries_mut.ensures.rest)
          (strictly_ascends (values c.owner.result.now.contents) (2 ^ 63 - 1));
    }
