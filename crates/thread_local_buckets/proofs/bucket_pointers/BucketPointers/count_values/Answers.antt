use Rattle.std.proofs.Common.{◌≡◌, ◌+◌, ◌*◌, ◌^◌, ◌<◌, ◌≤◌, min, [], length, ℕ, bit_and, sym, ◌∙◌, ap, lit<, refl, subst, arith, pow_mono}
use Rattle.thread_local_base.specs.Place.{id_at}
use Rattle.thread_local_base.specs.Buckets.{Contents, values, row}
use Rattle.thread_local_base.specs.Counting.{count_below}
use Rattle.thread_local_base.specs.Walk.{walk}
use Rattle.thread_local_base.proofs.TakingLaws.{id_at-next, count_below-zero, count_below-absent, count_below-fits}
use Rattle.thread_local_buckets.proofs.Counting.{counted_at_first, counted_fits, counted_all, IsCounted}
use Rattle.thread_local_buckets.specs.Announced.{Announces, AreAhead, HasNone}
use Rattle.thread_local_buckets.specs.Counted.{counted_to}
use Rattle.thread_local_buckets.proofs.Passing.{AreAhead-behind}
use Rattle.std.specs.Int.{w64, bit_not}
use Rattle.thread_local_buckets.proofs.bucket_pointers.BucketPointers.count_values.Goals as goal
use Rattle.thread_local_buckets.proofs.bucket_pointers.BucketPointers.count_values.Goals.{then-stands, else-stands}

-- the flags of one of the first seven buckets are one word
one_word : {V : Type 0} (contents : Contents V) (b n : ℕ) → b < 7
    → counted_to contents b 0 + n ≡ counted_to contents b 1
    → count_below (values contents) (id_at b 0) + n ≡ count_below (values contents) (id_at (b + 1) 0)
one_word contents b n small counted =
    let count : ℕ → ℕ = λ i. count_below (values contents) i in
    let low : b ≤ 6 = omega arith in
    let few : 2 ^ b ≤ 2 ^ 6 = pow_mono low in
    let start : min (0 * 64) (2 ^ b) ≡ 0 = omega arith in
    let end : min (1 * 64) (2 ^ b) ≡ 2 ^ b = omega (arith, few) in
    ap (λ (i : ℕ). count (id_at b i) + n) (sym start) ∙ counted ∙ ap (λ (i : ℕ). count (id_at b i)) end ∙ ap count (sym (id_at-next b))

pub loop-bucket-init : goal.loop-bucket-init
loop-bucket-init g c = record { counted = sym (count_below-zero (values c.args.self.now)); same = refl }

pub overflow_add-count : goal.overflow_add-count
overflow_add-count g c =
    let kept = c.loop-bucket.invariant in
    let here =
    counted_at_first _ c.args.self.now c.loop-bucket.bucket _ (c.stands.ensures.same ∙ kept.same)
    (one_word c.stands.new.self c.loop-bucket.bucket _ c.loop-bucket-test.true c.count_in_chunks-count.ensures.counted) in
    let fits = count_below-fits (values c.args.self.now) (c.loop-bucket.bucket + 1) (omega (arith, c.loop-bucket-test.true)) in
    omega (arith, here, kept.counted)

pub loop-bucket-preserved : goal.loop-bucket-preserved
loop-bucket-preserved g c =
    let kept = c.loop-bucket.invariant in
    elim c.if-stands.branch [
      | then-stands w ↦
          let here =
          counted_at_first _ c.args.self.now c.loop-bucket.bucket _
          (c.stands.ensures.same ∙ kept.same)
          (one_word c.stands.new.self c.loop-bucket.bucket _ c.loop-bucket-test.true w.count_in_chunks-count.ensures.counted) in
          record {
            counted = omega (arith, here, kept.counted, w.count-is);
            same = w.self-is ∙ w.count_in_chunks-count.ensures.same ∙ c.stands.ensures.same ∙ kept.same;
          }
      | else-stands w ↦
          let absent : row c.args.self.now c.loop-bucket.bucket ≡ [] =
          sym (ap (λ (w : Contents _). row w c.loop-bucket.bucket) kept.same)
          ∙ c.stands.ensures.absent w.if-stands.false in
          let none = count_below-absent c.args.self.now c.loop-bucket.bucket absent in
          record {
            counted = omega (arith, none, kept.counted, w.count-is);
            same = w.self-is ∙ c.stands.ensures.same ∙ kept.same;
          }
    ]

-- the first seven buckets are counted, and the word has the announced ones behind
are_counted : {V : Type 0} (c : Contents V) (announced count bucket : ℕ) → Announces announced c → bucket ≡ 7
    → count ≡ count_below (values c) (id_at bucket 0) → IsCounted c (bit_and announced (bit_not w64 127)) count
are_counted c announced count bucket told last counted = record {
  from = 7;
  low = omega arith;
  ahead = AreAhead-behind (HasNone c) announced 7 (omega arith) told.holding;
  summed = counted ∙ ap (λ (b : ℕ). count_below (values c) (id_at b 0)) last;
}

pub returns : goal.returns
returns g c = record {
  same = c.count_further.ensures.same ∙ c.loop-bucket.invariant.same;
  counted = c.count_further.ensures.counted ∙ ap (λ (w : Contents g.row.T.Denot). length (walk (values w))) c.loop-bucket.invariant.same;
  fits = c.count_further.ensures.fits;
}

pub returns-then-further-eq0 : goal.returns-then-further-eq0
returns-then-further-eq0 g c =
    let kept = c.loop-bucket.invariant in
    let further : ℕ = bit_and c.args.announced (bit_not w64 127) in
    let counted =
    are_counted c.args.self.now c.args.announced c.loop-bucket.count c.loop-bucket.bucket c.requires.announced
    (omega (arith, c.loop-bucket-test.false, c.loop-bucket.auto.bucket-end)) kept.counted in
    record {
      same = kept.same;
      counted = counted_all c.args.self.now further c.loop-bucket.count counted c.if-further-eq0.true;
      fits = counted_fits c.args.self.now further c.loop-bucket.count counted;
    }

pub count_further-requires : goal.count_further-requires
count_further-requires g c =
    let kept = c.loop-bucket.invariant in
    let last : c.loop-bucket.bucket ≡ 7 = omega (arith, c.loop-bucket-test.false, c.loop-bucket.auto.bucket-end) in
    let counted : c.loop-bucket.count ≡ count_below (values c.args.self.now) (id_at 7 0) =
    kept.counted ∙ ap (λ (b : ℕ). count_below (values c.args.self.now) (id_at b 0)) last in (
      lit< tt,
      subst
          (λ (w : Contents g.row.T.Denot).
          (c.loop-bucket.count ≡ count_below (values w) (id_at 7 0)) × AreAhead (HasNone w) (bit_and c.args.announced (bit_not w64 127)) 7)
          (sym kept.same)
          (counted, AreAhead-behind (HasNone c.args.self.now) c.args.announced 7 (omega arith) c.requires.announced.holding),
    )
