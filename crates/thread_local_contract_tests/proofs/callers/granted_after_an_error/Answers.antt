use Rattle.std.proofs.Common.{rules}
use Rattle.thread_local_contract_tests.proofs.callers.granted_after_an_error.Goals as goal

pub returns-in-Err-Create : goal.returns-in-Err-Create
returns-in-Err-Create g c =
    let failed = c.try_fill.ensures.create c.in-Err-Create.field-0-0 (search rules) in
    let granted = c.get_or.ensures.granted failed.known in
    search (rules, granted)
