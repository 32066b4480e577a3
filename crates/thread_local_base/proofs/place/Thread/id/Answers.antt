use Rattle.thread_local_base.proofs.PlaceLaws.{id_at-below, place-id_at}
use Rattle.thread_local_base.proofs.place.Thread.id.Goals as goal

pub returns-clause-in_range : goal.returns-clause-in_range
returns-clause-in_range c =
    rw c.bucket_size.ensures (id_at-below c.args.self.now.bucket c.args.self.now.index
    c.args.self.now.in_table c.args.self.now.in_bucket)

pub returns-clause-bucket : goal.returns-clause-bucket
returns-clause-bucket c = rw c.bucket_size.ensures (place-id_at c.args.self.now.bucket c.args.self.now.index c.args.self.now.in_bucket).0

pub returns-clause-index : goal.returns-clause-index
returns-clause-index c = rw c.bucket_size.ensures (place-id_at c.args.self.now.bucket c.args.self.now.index c.args.self.now.in_bucket).1
