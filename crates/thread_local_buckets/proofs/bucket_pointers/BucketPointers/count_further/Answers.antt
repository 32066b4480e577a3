use Rattle.std.proofs.Common.{◌+◌, ◌∙◌, length, refl, ap, arith, lit<}
use Rattle.thread_local_base.specs.Buckets.{Contents, row}
use Rattle.thread_local_buckets.proofs.Counting.{counted_more, counted_past, counted_fits, counted_all}
use Rattle.thread_local_buckets.proofs.bucket_pointers.BucketPointers.count_further.Goals as goal

pub overflow_add-count : goal.overflow_add-count
overflow_add-count g c =
    let so = c.buckets.invariant.counted in
    let next =
    counted_more c.args.self.now c.stands.new.self c.buckets.count c.count_in_bucket-count.result c.buckets.left
    c.take_first_bucket-bucket.new.left c.take_first_bucket-bucket.result.0 so c.take_first_bucket-bucket.ensures.first
    c.take_first_bucket-bucket.ensures.rest (c.stands.ensures.same ∙ c.buckets.invariant.same)
    c.count_in_bucket-count.ensures.counted in
    let fits = counted_fits c.args.self.now c.take_first_bucket-bucket.new.left (c.buckets.count + c.count_in_bucket-count.result) next in
    omega (arith, fits)

pub buckets-preserved-then-stands : goal.buckets-preserved-then-stands
buckets-preserved-then-stands g c =
    record {
      counted =
          counted_more c.args.self.now c.stands.new.self c.buckets.count c.count_in_bucket-count.result c.buckets.left
          c.take_first_bucket-bucket.new.left c.take_first_bucket-bucket.result.0 c.buckets.invariant.counted
          c.take_first_bucket-bucket.ensures.first c.take_first_bucket-bucket.ensures.rest
          (c.stands.ensures.same ∙ c.buckets.invariant.same) c.count_in_bucket-count.ensures.counted;
      same = c.count_in_bucket-count.ensures.same ∙ c.stands.ensures.same ∙ c.buckets.invariant.same;
    }

pub returns : goal.returns
returns g c = record {
  counted = counted_all c.args.self.now c.buckets.left c.buckets.count c.buckets.invariant.counted c.buckets-test.false;
  fits = counted_fits c.args.self.now c.buckets.left c.buckets.count c.buckets.invariant.counted;
  same = c.buckets.invariant.same;
}

-- The search for these takes a second.
pub buckets-init : goal.buckets-init
buckets-init g c = record {
  counted = record { from = 7; low = omega arith; ahead = c.requires.ahead; summed = c.requires.counted };
  same = refl;
}

pub stands-requires : goal.stands-requires
stands-requires g c =
    let first = c.take_first_bucket-bucket.ensures.first in
    (lit< tt, (c.buckets.invariant.counted.ahead.inside c.take_first_bucket-bucket.result.0 first.within first.set).1)

pub count_in_bucket-count-requires : goal.count_in_bucket-count-requires
count_in_bucket-count-requires g c =
    let first = c.take_first_bucket-bucket.ensures.first in (
      lit< tt,
      (
        (c.buckets.invariant.counted.ahead.inside c.take_first_bucket-bucket.result.0 first.within first.set).1,
        (
          ap (λ (w : Contents g.row.T.Denot). length (row w c.take_first_bucket-bucket.result.0)) c.stands.ensures.same
              ∙ c.stands.ensures.whole c.if-stands.true,
          c.take_first_bucket-bucket.ensures.size,
        ),
      ),
    )

pub buckets-preserved : goal.buckets-preserved
buckets-preserved g c =
    record {
      counted =
          counted_past c.args.self.now c.buckets.self c.buckets.count c.buckets.left c.take_first_bucket-bucket.new.left
          c.take_first_bucket-bucket.result.0 c.buckets.invariant.counted c.take_first_bucket-bucket.ensures.first
          c.take_first_bucket-bucket.ensures.rest c.buckets.invariant.same (c.stands.ensures.absent c.if-stands.false);
      same = c.stands.ensures.same ∙ c.buckets.invariant.same;
    }
