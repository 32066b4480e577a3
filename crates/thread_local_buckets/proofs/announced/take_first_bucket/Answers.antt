use Rattle.std.proofs.Common.{arith}
use Rattle.thread_local_base.proofs.Word.{rest_and_bit}
use Rattle.thread_local_buckets.proofs.announced.take_first_bucket.Goals as goal

-- The bit that was taken out of the word is the bucket's size.
pub returns-clause-size : goal.returns-clause-size
returns-clause-size c =
    let taken = c.take_first-bucket.ensures in
    let whole =
    rest_and_bit c.take_first-bucket.new.word c.args.left.now c.take_first-bucket.result taken.first.within
    (omega arith) (omega arith) taken.first.set taken.rest in
    omega (arith, whole)
