use Rattle.thread_local_tls.proofs.MoveLaws.{IsRunTo}
use Rattle.thread_local_tls.proofs.moves.ids.Given as goal

abbrev pub invariant-loop-step : goal.invariant-loop-step
invariant-loop-step l = IsRunTo l.moves l.step-index l.manager.held l.ids.items
