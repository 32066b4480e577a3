use Rattle.std.proofs.Common.{◌≡◌, take}
use Rattle.std.specs.Prelude.{sum}
use Rattle.thread_local_examples_contracts.proofs.totals.added_up.Given as goal

-- what was added: the first parts
abbrev pub invariant-loop-index : goal.invariant-loop-index
invariant-loop-index g l = l.total ≡ sum (take l.index l.parts)
