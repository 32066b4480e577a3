use Rattle.std.proofs.Common.{Bool, ap}
use Rattle.thread_local_shared_buckets.specs.AfterLoan.{begun_in}
use Rattle.thread_local_shared_buckets.proofs.BlankRows.{cleared_has_none}
use Rattle.thread_local_shared_buckets.proofs.GrownLaws.{only_reserved_stand}
use Rattle.thread_local_shared_buckets.proofs.shared.Shared.clear.Goals as goal

pub returns-clause-sharing : goal.returns-clause-sharing
returns-clause-sharing g c =
    ap (λ (t : Bool). begun_in c.args.slots.table t) (cleared_has_none c.clear.new.self.contents c.owner_before_first.result.now.reserved c.clear.ensures.rows)

pub returns-clause-grown : goal.returns-clause-grown
returns-clause-grown g c =
    only_reserved_stand c.clear.new.self c.owner_before_first.result.now.reserved c.clear.ensures.reserved c.clear.ensures.stands
