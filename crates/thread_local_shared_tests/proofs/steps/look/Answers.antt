-- the id at the place that is looked at
use Rattle.std.proofs.Common.{◌≡◌, ◌^◌, ap, ◌∙◌, arith}
use Rattle.thread_local_base.specs.Place.{bucket_of}
use Rattle.thread_local_base.proofs.PlaceLaws.{id_at-place}
use Rattle.thread_local_shared_buckets.specs.Shared.{BucketView}
use Rattle.thread_local_shared_tests.proofs.steps.look.Goals as goal

pub give-requires-clause-id : goal.give-requires-clause-id
give-requires-clause-id c =
    let of = c.look-seen.ensures.of in
    let place = c.new-thread.ensures in
    let here : 2 ^ c.look-seen.result.of.bucket ≡ 2 ^ c.new-thread.result.bucket =
    ap (λ k. 2 ^ k) (ap (λ (d : BucketView). d.bucket) (of.0 ∙ c.in_ok-row.ensures.of) ∙ c.bucket.ensures.number) in
    let there : 2 ^ c.new-thread.result.bucket ≡ 2 ^ bucket_of c.args.id = ap (λ k. 2 ^ k) place.bucket in
    omega (arith, here, there, of.2, place.index, id_at-place c.args.id)
