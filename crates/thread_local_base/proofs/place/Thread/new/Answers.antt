use Rattle.thread_local_base.proofs.PlaceLaws.{bits_are_place}
use Rattle.thread_local_base.proofs.place.Thread.new.Goals as goal

pub invariant_of-result-clause-in_bucket : goal.invariant_of-result-clause-in_bucket
invariant_of-result-clause-in_bucket c =
    let power = c.highest_bit-bucket.ensures in
    (bits_are_place c.args.id c.highest_bit-bucket.result c.bucket_size.result power.power power.next_power c.bucket_size.ensures).0

pub returns-clause-bucket : goal.returns-clause-bucket
returns-clause-bucket c =
    let power = c.highest_bit-bucket.ensures in
    (bits_are_place c.args.id c.highest_bit-bucket.result c.bucket_size.result power.power power.next_power c.bucket_size.ensures).1

pub returns-clause-index : goal.returns-clause-index
returns-clause-index c =
    let power = c.highest_bit-bucket.ensures in
    (bits_are_place c.args.id c.highest_bit-bucket.result c.bucket_size.result power.power power.next_power c.bucket_size.ensures).2
