-- The search for these takes a second.
use denote.Param.{param}
use Rattle.thread_local_shared_buckets.proofs.NextLaws.{progress_some, progress_none, with_id, without_id}
use Rattle.thread_local_shared_buckets.proofs.entries.EntriesIterator.next.Goals as goal
use Rattle.thread_local_shared_buckets.proofs.entries.EntriesIterator.next.Goals.{in-Some, in-None}

pub returns-clause-steps : goal.returns-clause-steps
returns-clause-steps g c = elim c.match-next.branch [
  | in-Some w ↦
      with_id c.self.inside.walk c.args.self.now c.next.new.self w.in-Some.value w.last_id.result c.next.result c.match-next.result
      c.self.view_is w.in-Some.is w.result-is c.next.ensures.steps w.last_id.ensures
  | in-None w ↦
      without_id c.self.inside.walk c.args.self.now c.next.new.self c.next.result c.match-next.result
      c.self.view_is w.in-None.is w.result-is c.next.ensures.steps
]

pub returns-clause-goes : goal.returns-clause-goes
returns-clause-goes g c = elim c.match-next.branch [
  | in-Some w ↦
      progress_some (param 0 g.row.T) c.self.inside.walk c.args.self.now c.next.new.self w.in-Some.value
      (w.last_id.result, w.in-Some.value) c.next.result c.match-next.result
      c.self.view_is w.in-Some.is w.result-is c.next.ensures.steps c.requires
  | in-None w ↦
      progress_none (param 0 g.row.T) c.args.self.now c.next.new.self c.match-next.result w.result-is
]
