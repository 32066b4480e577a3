use Rattle.thread_local_shared_buckets.proofs.CompleteWalks.{values_given, sum_given}
use Rattle.thread_local_shared_buckets.proofs.complete.iter_gives_told.Goals as goal

pub returns-clause-all : goal.returns-clause-all
returns-clause-all g c = values_given

pub returns-clause-sum : goal.returns-clause-sum
returns-clause-sum g c = sum_given
