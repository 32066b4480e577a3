use Rattle.thread_local_bench.proofs.Held.{taken_again}
use Rattle.thread_local_bench.proofs.ids.again.Goals as goal

pub returns-in-Ok-clause-held : goal.returns-in-Ok-clause-held
returns-in-Ok-clause-held c =
    (taken_again c.args.manager.now c.free.new.self c.alloc.new.self c.args.held c.args.id
    c.in-Ok.taken c.requires.held c.requires.below c.free.ensures c.in-Ok.ensures.ok).1

pub returns-in-Ok-clause-id : goal.returns-in-Ok-clause-id
returns-in-Ok-clause-id c =
    (taken_again c.args.manager.now c.free.new.self c.alloc.new.self c.args.held c.args.id
    c.in-Ok.taken c.requires.held c.requires.below c.free.ensures c.in-Ok.ensures.ok).0
