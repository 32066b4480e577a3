use Rattle.std.proofs.Common.{subst, sym}
use Rattle.thread_local_base.specs.Buckets.{Contents}
use Rattle.thread_local_base.proofs.FillingLaws.{IsTable-no_contents}
use Rattle.thread_local_buckets.proofs.Announcing.{IsAnnounced, IsAnnounced-new}
use Rattle.thread_local_buckets.proofs.ContentsOf.{no_contents_of}
use Rattle.thread_local_buckets.proofs.bucket_pointers.BucketPointers.new.Goals as goal

pub invariant_of-result : goal.invariant_of-result
invariant_of-result g c =
    subst (λ (z : Contents g.row.T.Denot). IsAnnounced 127 0 z)
    (sym (no_contents_of (record { pointers = c.default.result }) c.default.ensures.long (λ i d near. c.default.ensures.at i d near)))
    (IsAnnounced-new (IsTable-no_contents _))

pub returns : goal.returns
returns g c =
    no_contents_of (record { pointers = c.default.result }) c.default.ensures.long (λ i d near. c.default.ensures.at i d near)
