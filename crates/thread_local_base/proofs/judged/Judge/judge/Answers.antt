-- By the fact of the type.
use Rattle.std.proofs.Common.{inl, inr}
use Rattle.thread_local_base.proofs.judged.Judge.judge.Goals as goal

pub returns : goal.returns
returns g c =
    let j = g.met.Self.Judge.everywhere in
    record {
      judged = elim j [
        | inl at ↦ inl at.1
        | inr names ↦ inr (λ shared. let at = names 0 0 in at.names (shared at.value 0 0 at.lifetime))
      ];
      everywhere = j;
    }
