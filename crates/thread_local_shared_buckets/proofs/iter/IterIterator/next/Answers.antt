-- The search for these takes half a second.
use Rattle.std.proofs.Common.{Option, option_map, refl, ap, sym, ◌∙◌, subst}
use denote.Ref.{Bor}
use denote.Param.{param}
use Rattle.thread_local_shared_buckets.specs.Walks.{IsNext}
use Rattle.thread_local_shared_buckets.proofs.NextLaws.{progress_some, progress_none}
use Rattle.thread_local_shared_buckets.proofs.iter.IterIterator.next.Goals as goal
use Rattle.thread_local_shared_buckets.proofs.iter.IterIterator.next.Goals.{in-Some, in-None}

pub returns-clause-steps : goal.returns-clause-steps
returns-clause-steps g c = elim c.match-step.branch [
  | in-Some w ↦
      subst (λ (i : Option (Bor _)). IsNext c.args.self.now i c.step.new.self)
      (ap (option_map (λ entry. entry.1)) w.in-Some.is ∙ sym w.result-is) c.step.ensures.goes
  | in-None w ↦
      subst (λ (i : Option (Bor _)). IsNext c.args.self.now i c.step.new.self)
      (ap (option_map (λ entry. entry.1)) w.in-None.is ∙ sym w.result-is) c.step.ensures.goes
]

pub returns-clause-goes : goal.returns-clause-goes
returns-clause-goes g c = elim c.match-step.branch [
  | in-Some w ↦
      progress_some (param 0 g.row.T) c.args.self.now c.args.self.now c.step.new.self w.in-Some.value
      w.in-Some.value (option_map (λ entry. entry.1) c.step.result) c.match-step.result
      refl (ap (option_map (λ entry. entry.1)) w.in-Some.is) w.result-is c.step.ensures.goes c.requires
  | in-None w ↦
      progress_none (param 0 g.row.T) c.args.self.now c.step.new.self c.match-step.result w.result-is
]
