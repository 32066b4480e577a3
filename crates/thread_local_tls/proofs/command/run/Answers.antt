use Rattle.std.proofs.KnownBytes.{Keeps-refl}
use Rattle.thread_local_tls.proofs.command.run.Goals as goal

pub returns-in-Ok-clause-silent : goal.returns-in-Ok-clause-silent
returns-in-Ok-clause-silent g c = λ _. Keeps-refl (g.E.Write.contents c.args.err.now)
