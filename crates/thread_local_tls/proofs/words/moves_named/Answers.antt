use Rattle.thread_local_tls.proofs.words.moves_named.Goals as goal

pub returns-in_default-clause-memory : goal.returns-in_default-clause-memory
returns-in_default-clause-memory c = λ is. cc
