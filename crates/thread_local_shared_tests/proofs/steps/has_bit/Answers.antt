use Rattle.thread_local_base.proofs.Word.{is_set-test}
use Rattle.thread_local_shared_tests.proofs.steps.has_bit.Goals as goal

pub returns : goal.returns
returns c = is_set-test c.args.word c.args.bit
