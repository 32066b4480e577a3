use Rattle.std.proofs.Common.{◌≡◌, ℕ, ◌+◌, ◌*◌, ◌^◌, ◌≤◌, min, length, refl, ap, ◌∙◌, arith, lit<, pow_mono, suc}
use Rattle.std.proofs.Math.Nat.{two-pow-succ}
use Rattle.thread_local_base.specs.Buckets.{Contents, row, values}
use Rattle.thread_local_base.specs.Place.{id_at}
use Rattle.thread_local_base.proofs.TakingLaws.{count_below-le}
use Rattle.thread_local_buckets.specs.Counted.{counted_to}
use Rattle.thread_local_buckets.specs.Slots.{flag_word_at}
use Rattle.thread_local_buckets.specs.contracts.chunk.flag_word_at.{T-row}
use Rattle.thread_local_buckets.proofs.Counting.{chunk_counted}
use Rattle.thread_local_buckets.proofs.bucket_pointers.BucketPointers.count_in_chunks.Goals as goal

pub loop-chunk-init : goal.loop-chunk-init
loop-chunk-init g c = record { counted = omega arith; same = refl }

pub flags-requires : goal.flags-requires
flags-requires g c =
    let long : length (row c.loop-chunk.self c.args.bucket)
    ≡ length (row c.args.self.now c.args.bucket) =
    ap (λ (w : Contents g.row.T.Denot). length (row w c.args.bucket))
    c.loop-chunk.invariant.same in (
      lit< tt,
      (
        c.requires.in_table,
        (
          omega (arith, long, c.requires.whole, c.requires.inside, c.loop-chunk-test.true),
          c.flag_word_at-flag_word.ensures ∙ ap (λ (n : ℕ). flag_word_at (T-row g.row.T) n c.loop-chunk.chunk) c.requires.size,
        ),
      ),
    )

pub overflow_add-count : goal.overflow_add-count
overflow_add-count g c =
    let kept = c.loop-chunk.invariant in
    let b : ℕ = c.args.bucket in
    let k : ℕ = c.loop-chunk.chunk in
    let base : ℕ = counted_to c.args.self.now b c.args.from in
    let counted =
    chunk_counted c.args.self.now c.loop-chunk.self b k c.flags.result kept.same c.requires.whole
    c.flags.type_inv c.flags.ensures.value base c.loop-chunk.count
    (omega (arith, c.requires.inside, c.loop-chunk-test.true)) kept.counted in
    let bound = count_below-le (values c.args.self.now) (id_at b (min ((k + 1) * 64) (2 ^ b))) in
    let up : 2 ^ suc b ≤ 2 ^ 63 = pow_mono c.requires.in_table in
    let twice = two-pow-succ b in
    record { fits = omega (arith, counted, bound, up, twice) }

pub loop-chunk-preserved : goal.loop-chunk-preserved
loop-chunk-preserved g c =
    let kept = c.loop-chunk.invariant in
    let b : ℕ = c.args.bucket in
    let base : ℕ = counted_to c.args.self.now b c.args.from in
    record {
      counted =
          chunk_counted c.args.self.now c.loop-chunk.self b c.loop-chunk.chunk c.flags.result
          kept.same c.requires.whole c.flags.type_inv c.flags.ensures.value base c.loop-chunk.count
          (omega (arith, c.requires.inside, c.loop-chunk-test.true)) kept.counted;
      same = c.flags.ensures.same ∙ kept.same;
    }

pub returns : goal.returns
returns g c = record {
  same = c.loop-chunk.invariant.same;
  counted = let b : ℕ = c.args.bucket in
      let last : c.loop-chunk.chunk ≡ c.args.to =
      omega (arith, c.loop-chunk-test.false, c.loop-chunk.auto.chunk-end, c.requires.order) in
      c.loop-chunk.invariant.counted ∙ ap (counted_to c.args.self.now b) last;
}
