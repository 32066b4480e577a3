-- the id at the place that is looked at
use Rattle.std.proofs.Common.{◌≡◌, ◌≤◌, ◌^◌, ap, ◌∙◌, arith, pow_mono}
use Rattle.thread_local_shared_buckets.specs.Shared.{BucketView}
use Rattle.thread_local_shared_tests.proofs.callers.buckets.published.Goals as goal

pub give-requires-clause-id : goal.give-requires-clause-id
give-requires-clause-id c =
    let of = c.look-seen.ensures.of in
    let power : 2 ^ c.look-seen.result.of.bucket ≡ 2 ^ c.args.bucket =
    ap (λ k. 2 ^ k) (ap (λ (d : BucketView). d.bucket) of.0 ∙ c.requires.bucket) in
    omega (arith, power, of.2, c.bucket_size-size.ensures, c.requires.in_bucket)

pub give-requires-clause-in_range : goal.give-requires-clause-in_range
give-requires-clause-in_range c =
    let last : c.args.bucket ≤ 62 = omega (arith, c.requires.in_table) in
    let most : 2 ^ c.args.bucket ≤ 2 ^ 62 = pow_mono last in
    omega (arith, most, c.bucket_size-size.ensures, c.requires.in_bucket)
