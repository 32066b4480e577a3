use Rattle.thread_local_schedule.proofs.OwnerLaws as laws
use Rattle.thread_local_schedule.proofs.walks.owner_walks.Goals as goal

pub returns : goal.returns
returns g c = record {
  walk = laws.owner_walk-walk;
  rewritten = laws.published-rewritten;
}
