use Rattle.std.proofs.Common.{◌≡◌, ℕ, ◌+◌, ◌^◌, length, bit_or, refl, ap, ◌∙◌, subst, arith, lit<}
use Rattle.std.proofs.lemmas.Nat.{le_or_l, le_or_r}
use Rattle.thread_local_base.specs.Buckets.{Contents, row}
use Rattle.thread_local_buckets.specs.Counted.{counted_to}
use Rattle.thread_local_buckets.specs.Slots.{flag_word_at}
use Rattle.thread_local_buckets.specs.contracts.chunk.flag_word_at.{T-row}
use Rattle.thread_local_buckets.proofs.Counting.{none_counted}
use Rattle.thread_local_buckets.proofs.bucket_pointers.BucketPointers.count_in_eight.Goals as goal

pub loop-at-init : goal.loop-at-init
loop-at-init g c = let begins : c.args.chunk ≡ c.args.chunk + 0 = omega arith in record {
  none = λ _. ap (counted_to c.args.self.now c.args.bucket) begins;
  same = refl;
}

pub flags-any-requires : goal.flags-any-requires
flags-any-requires g c =
    let long : length (row c.loop-at.self c.args.bucket)
    ≡ length (row c.args.self.now c.args.bucket) =
    ap (λ (w : Contents g.row.T.Denot). length (row w c.args.bucket)) c.loop-at.invariant.same in (
      lit< tt,
      (
        c.requires.in_table,
        (
          omega (arith, long, c.requires.whole, c.requires.inside, c.loop-at-test.true),
          c.flag_word_at-flag_word.ensures ∙ ap (λ (n : ℕ). flag_word_at (T-row g.row.T) n (c.args.chunk + c.loop-at.at)) c.requires.size,
        ),
      ),
    )

pub loop-at-preserved : goal.loop-at-preserved
loop-at-preserved g c =
    let kept = c.loop-at.invariant in
    let k : ℕ = c.args.chunk + c.loop-at.at in
    let old : ℕ = c.loop-at.any in
    let word : ℕ = c.flags-any.result in
    let after : k + 1 ≡ c.args.chunk + (c.loop-at.at + 1) = omega arith in
    record {
      none = λ (zero : bit_or old word ≡ 0).
          let left = le_or_l old word in
          let right = le_or_r old word in
          kept.none (omega (arith, left, zero))
          ∙ none_counted c.args.self.now c.loop-at.self c.args.bucket k word kept.same c.requires.whole c.flags-any.type_inv
          c.flags-any.ensures.value (omega (arith, c.requires.inside, c.loop-at-test.true)) (omega (arith, right, zero))
          ∙ ap (counted_to c.args.self.now c.args.bucket) after;
      same = c.flags-any.ensures.same ∙ kept.same;
    }

pub returns-then-any-eq0 : goal.returns-then-any-eq0
returns-then-any-eq0 g c =
    let kept = c.loop-at.invariant in
    let last : c.args.chunk + c.loop-at.at ≡ c.args.chunk + 8 = omega (arith, c.loop-at-test.false, c.loop-at.auto.at-end) in
    let none = kept.none c.if-any-eq0.true ∙ ap (counted_to c.args.self.now c.args.bucket) last in
    record { same = kept.same; counted = omega (arith, none) }

pub count_in_chunks-requires : goal.count_in_chunks-requires
count_in_chunks-requires g c =
    let long : length (row c.loop-at.self c.args.bucket) ≡ 2 ^ c.args.bucket =
    ap (λ (w : Contents g.row.T.Denot). length (row w c.args.bucket)) c.loop-at.invariant.same ∙ c.requires.whole in
    (lit< tt, (c.requires.in_table, (c.requires.size, (long, (omega arith, c.requires.inside)))))

pub returns : goal.returns
returns g c = record {
  same = c.count_in_chunks.ensures.same ∙ c.loop-at.invariant.same;
  counted =
      subst (λ (w : Contents g.row.T.Denot). counted_to w c.args.bucket c.args.chunk + c.count_in_chunks.result
      ≡ counted_to w c.args.bucket (c.args.chunk + 8)) c.loop-at.invariant.same c.count_in_chunks.ensures.counted;
}
