use Rattle.thread_local_base.proofs.Words.{seen_peak}
use Rattle.thread_local_base.proofs.manager.IdBits.peak.Goals as goal

pub returns : goal.returns
returns c = rw (← c.self.view_is) (seen_peak c.self.inside.words.items c.self.inside.peak c.self.inside.lowest c.self.invariant)
