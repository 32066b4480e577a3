use Rattle.std.proofs.Common.{◌-◌, ◌^◌, ℕ, List, sym, subst, map}
use Rattle.std.specs.List.Sorted.{IsStrictlyIncreasing}
use Rattle.thread_local_base.specs.Buckets.{values}
use Rattle.thread_local_base.specs.Walk.{walk}
use Rattle.thread_local_base.proofs.WalkLaws.{strictly_ascends}
use Rattle.thread_local.proofs.table.ThreadLocal.into_entries.Goals as goal

-- that the ids of a walk ascend
pub returns : goal.returns
unfolding walk
returns g c =
    record {
      ascending =
          subst (λ (entries : List (ℕ × g.row.T.Denot)). IsStrictlyIncreasing (map (λ entry. entry.0) entries))
          (sym c.into_entries.ensures)
          (strictly_ascends (values c.into_buckets.result.contents) (2 ^ 63 - 1));
    }
