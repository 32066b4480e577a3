-- the page stays as it is until an id is taken
use Rattle.std.proofs.Common.{◌≡◌}
use Rattle.thread_local_ids.proofs.first.FirstIds.take.Given as goal

abbrev pub invariant-loop : goal.invariant-loop
invariant-loop l = l.page ≡ l.fn.page
