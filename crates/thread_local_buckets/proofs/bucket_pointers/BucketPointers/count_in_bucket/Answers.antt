use Rattle.std.proofs.Common.{◌≡◌, ℕ, ◌+◌, ◌*◌, ◌/◌, ◌^◌, ◌<◌, ◌≤◌, min, length, refl, ap, ◌∙◌, arith, lit<, pow_mono, suc}
use Rattle.std.proofs.Math.Nat.{two-pow-succ}
use Rattle.thread_local_base.specs.Buckets.{Contents, row, values}
use Rattle.thread_local_base.specs.Place.{id_at}
use Rattle.thread_local_base.specs.Counting.{count_below}
use Rattle.thread_local_base.proofs.TakingLaws.{count_below-le, id_at-next}
use Rattle.thread_local_buckets.specs.Counted.{counted_to}
use Rattle.thread_local_buckets.proofs.Counting.{part_counted}
use Rattle.thread_local_buckets.proofs.bucket_pointers.BucketPointers.count_in_bucket.Goals as goal

-- the count is below 2 ^ 64
counted_fits : {V : Type 0} (first : Contents V) (b k base count : ℕ) → b < 63 → base + count ≡ counted_to first b k
    → count < 2 ^ 64
counted_fits first b k base count low counted =
    let bound = count_below-le (values first) (id_at b (min (k * 64) (2 ^ b))) in
    let up : 2 ^ suc b ≤ 2 ^ 63 = pow_mono low in
    let twice = two-pow-succ b in
    omega (arith, counted, bound, up, twice)

-- a further group is counted
group_counted : {V : Type 0} (first now : Contents V) (b group base count more : ℕ) → now ≡ first
    → counted_to now b (group * 8) + more ≡ counted_to now b (group * 8 + 8)
    → base + count ≡ counted_to first b (group * 8)
    → base + (count + more) ≡ counted_to first b ((group + 1) * 8)
group_counted first now b group base count more same told counted =
    let next : group * 8 + 8 ≡ (group + 1) * 8 = omega arith in
    part_counted first now b (group * 8) (group * 8 + 8) base count more same told counted ∙ ap (counted_to first b) next

pub loop-group-init : goal.loop-group-init
loop-group-init g c = record { counted = omega arith; same = refl }

pub count_in_eight-count-requires : goal.count_in_eight-count-requires
count_in_eight-count-requires g c = (
  lit< tt,
  (
    c.requires.in_table,
    (
      c.requires.size,
      (
        ap (λ (w : Contents _). length (row w c.args.bucket)) c.loop-group.invariant.same ∙ c.requires.whole,
        omega (arith, c.loop-group-test.true, c.requires.size),
      ),
    ),
  ),
)

pub overflow_add-count : goal.overflow_add-count
overflow_add-count g c =
    let b : ℕ = c.args.bucket in
    let kept = c.loop-group.invariant in
    let first = c.args.self.now in
    record {
      fits =
          counted_fits first b ((c.loop-group.group + 1) * 8) (counted_to first b 0) (c.loop-group.count + c.count_in_eight-count.result)
          c.requires.in_table
          (group_counted first c.loop-group.self b c.loop-group.group (counted_to first b 0) c.loop-group.count
          c.count_in_eight-count.result kept.same c.count_in_eight-count.ensures.counted kept.counted);
    }

pub loop-group-preserved : goal.loop-group-preserved
loop-group-preserved g c =
    let b : ℕ = c.args.bucket in
    let kept = c.loop-group.invariant in
    let first = c.args.self.now in
    record {
      counted =
          group_counted first c.loop-group.self b c.loop-group.group (counted_to first b 0) c.loop-group.count
          c.count_in_eight-count.result kept.same c.count_in_eight-count.ensures.counted kept.counted;
      same = c.count_in_eight-count.ensures.same ∙ kept.same;
    }

-- the count of a whole bucket, from the count up to the last group's end
bucket_counted : {V : Type 0} (first now : Contents V) (b size group groups count more : ℕ)
    → now ≡ first → size ≡ 2 ^ b → group ≡ groups
    → counted_to now b (groups * 8) + more ≡ counted_to now b ((size + 63) / 64)
    → counted_to first b 0 + count ≡ counted_to first b (group * 8)
    → count_below (values first) (id_at b 0) + (count + more) ≡ count_below (values first) (id_at (b + 1) 0)
bucket_counted first now b size group groups count more same is last told counted =
    let to : ℕ → ℕ = λ i. count_below (values first) (id_at b i) in
    let start : min (0 * 64) (2 ^ b) ≡ 0 = omega arith in
    let end : min ((size + 63) / 64 * 64) (2 ^ b) ≡ 2 ^ b = omega (arith, is) in
    let here =
    part_counted first now b (groups * 8) ((size + 63) / 64) (counted_to first b 0) count more same told
    (counted ∙ ap (λ (n : ℕ). counted_to first b (n * 8)) last) in
    omega (arith, here, ap to start, ap to end, ap (count_below (values first)) (id_at-next b))

pub overflow_add-result : goal.overflow_add-result
overflow_add-result g c =
    let b : ℕ = c.args.bucket in
    let first = c.args.self.now in
    let kept = c.loop-group.invariant in
    let last : c.loop-group.group ≡ (c.args.size + 63) / 64 / 8 = omega (arith, c.loop-group-test.false, c.loop-group.auto.group-end) in
    record {
      fits =
          counted_fits first b ((c.args.size + 63) / 64) (counted_to first b 0) (c.loop-group.count + c.count_in_chunks.result)
          c.requires.in_table
          (part_counted first c.loop-group.self b ((c.args.size + 63) / 64 / 8 * 8) ((c.args.size + 63) / 64) (counted_to first b 0)
          c.loop-group.count c.count_in_chunks.result kept.same c.count_in_chunks.ensures.counted
          (kept.counted ∙ ap (λ (n : ℕ). counted_to first b (n * 8)) last));
    }

pub returns : goal.returns
returns g c = record {
  same = c.count_in_chunks.ensures.same ∙ c.loop-group.invariant.same;
  counted =
      bucket_counted c.args.self.now c.loop-group.self c.args.bucket c.args.size c.loop-group.group ((c.args.size + 63) / 64 / 8)
      c.loop-group.count c.count_in_chunks.result c.loop-group.invariant.same c.requires.size
      (omega (arith, c.loop-group-test.false, c.loop-group.auto.group-end))
      c.count_in_chunks.ensures.counted c.loop-group.invariant.counted;
}
