use Rattle.thread_local_history_tests.proofs.history.owned.Goals as goal

pub returns-clause-found : goal.returns-clause-found
returns-clause-found g c = c.walked_after.ensures.found c.in_ok-id.id c.args.number c.in_ok-id.ensures.value c.in_ok-id.ensures.in_range
