-- the buckets are in the first sharing of the other table
use Rattle.thread_local_shared_tests.proofs.Sharings.{first_is_first, first_is_of}
use Rattle.thread_local_shared_tests.proofs.notes.cleared.Goals as goal

-- src/notes.rt
pub returns-clause-first : goal.returns-clause-first
returns-clause-first g c = first_is_first _ _ c.clear.ensures.sharing

pub returns-clause-belongs : goal.returns-clause-belongs
returns-clause-belongs g c = first_is_of _ _ c.clear.ensures.sharing
