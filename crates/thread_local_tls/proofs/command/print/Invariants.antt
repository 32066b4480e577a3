use Rattle.std.proofs.Common.{take}
use Rattle.std.specs.Io.KnownBytes.{Appends}
use Rattle.thread_local_tls.specs.Words.{lines_of}
use Rattle.thread_local_tls.proofs.command.print.Given as goal

abbrev pub invariant-loop-number : goal.invariant-loop-number
invariant-loop-number g l = Appends (g.O.Write.contents l.fn.out) (g.O.Write.contents l.out) (lines_of (take l.number-index l.numbers))
