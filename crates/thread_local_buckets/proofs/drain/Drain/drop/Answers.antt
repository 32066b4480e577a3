use Rattle.std.proofs.Common.{◌≡◌, ap, sym, subst, ◌∙◌}
use Rattle.thread_local_base.specs.Owned.{Owned}
use Rattle.thread_local_base.specs.Owner.{emptied}
use Rattle.thread_local_base.proofs.EmptyingLaws.{emptied-emptied}
use Rattle.thread_local_buckets.proofs.drain.Drain.drop.Goals as goal
use Rattle.thread_local_buckets.proofs.drain.Drain.drop.Goals.{then-not-is_over, else-not-is_over}

abbrev IsEmpty : {V : Type 0} → Owned V → Type 0
IsEmpty s = emptied s.contents ≡ s.contents

-- where no value was left, the buckets have none
pub invariant_of-self : goal.invariant_of-self
invariant_of-self g c =
    record {
      few = c.args.self.few;
      ends = λ over. elim c.if-not-is_over.branch [
        | then-not-is_over w ↦
            let left = w.drop_rest.ensures in
            subst IsEmpty (sym w.buckets-is)
            (ap (λ (s : Owned _). emptied s.contents) left
            ∙ emptied-emptied c.args.self.buckets.now.contents
            ∙ ap (λ (s : Owned _). s.contents) (sym left))
        | else-not-is_over w ↦ subst IsEmpty (sym w.buckets-is) (c.args.self.ends over)
      ];
    }
