use Rattle.std.proofs.Common.{◌∙◌, subst}
use Rattle.thread_local_tls.specs.Faults.{IsBegun}
use Rattle.thread_local_tls.proofs.fault.Fault.report.Goals as goal

pub returns-clause-line : goal.returns-clause-line
returns-clause-line g c =
    subst (λ text.
    IsBegun text (g.E.Write.contents c.args.err.now) (g.E.Write.contents c.write_text.new.out))
    (c.as_bytes.ensures.value ∙ c.line.ensures)
    c.write_text.ensures
