use Rattle.std.proofs.Common.{◌≡◌, ℕ, ◌+◌, ◌*◌, ◌^◌, ◌<◌, List, length, sym, ap, ◌∙◌, subst, arith}
use Rattle.std.specs.Prelude.{None, replicate}
use Rattle.std.proofs.lemmas.Result.{IfOk-from_err}
use Rattle.std.proofs.lemmas.List.{length-replicate}
use Rattle.thread_local_buckets.specs.Slots.{chunks, flag_word_at}
use Rattle.thread_local_buckets.specs.contracts.block.Block.new.{T-row}
use Rattle.thread_local_buckets.proofs.Flags.{chunks_counted}
use Rattle.thread_local_buckets.proofs.Rounding.{fits_by}
use Rattle.thread_local_buckets.proofs.block.Block.new.Goals as goal

-- The search for these takes seconds.
pub allocate-requires-clause-fits : goal.allocate-requires-clause-fits
allocate-requires-clause-fits g c =
    let size = c.value_size.ensures in
    let all = c.saturating_mul.ensures in
    let near : c.args.len * c.value_size.result < 2 ^ 58 = (let few = c.if-saturating_mul-ge-VALUES_LIMIT.false in omega arith) in
    fits_by (T-row g.row.T g.row.A) c.args.len c.ranges.len.fits (subst (λ (v : ℕ). c.args.len * v < 2 ^ 58) size near)

pub allocate-requires-clause-size : goal.allocate-requires-clause-size
allocate-requires-clause-size g c = c.bytes_of_block.ensures (allocate-requires-clause-fits g c)

pub returns-in_err-block : goal.returns-in_err-block
returns-in_err-block g c = IfOk-from_err c.from_residual.result _ c.from_residual.ensures.0

pub push-requires-in-chunks-clause-next : goal.push-requires-in-chunks-clause-next
push-requires-in-chunks-clause-next g c =
    let kept = c.chunks.invariant in
    let long : length c.chunks.block.slots ≡ c.args.len = ap length kept.1 ∙ length-replicate c.args.len None in (
      subst (λ (n : ℕ). c.chunks.chunk + c.chunks.block.left ≡ chunks n) (sym long) (let all = kept.2 in omega arith),
      (let all = kept.2 in let test = c.chunks-test.true in let count = c.div_ceil-count.ensures in omega arith),
    )

pub push-requires-in-chunks-clause-flag_word : goal.push-requires-in-chunks-clause-flag_word
push-requires-in-chunks-clause-flag_word g c =
    let long : length c.chunks.block.slots ≡ c.args.len = ap length c.chunks.invariant.1 ∙ length-replicate c.args.len None in
    c.flag_word_at-in-chunks.ensures ∙ ap (λ (n : ℕ). flag_word_at g.row.T n c.chunks.chunk) (sym long)

pub chunks-preserved : goal.chunks-preserved
chunks-preserved g c =
    let kept = c.chunks.invariant in
    let after = c.push-in-chunks.ensures in
    (after.0 ∙ kept.0, after.1 ∙ kept.1, (let one = after.2 in let all = kept.2 in omega arith))

pub returns : goal.returns
returns g c =
    let kept = c.chunks.invariant in
    let count = c.div_ceil-count.ensures in
    let test = c.chunks-test.false in
    (kept.0, kept.1, (let all = kept.2 in omega arith))

-- a block of one chunk has room for it
one_left : {X : Type 0} (slots : List X) (x : X) (n left count : ℕ) → slots ≡ replicate n x
    → left ≡ chunks n → count ≡ chunks n → count ≡ 1
    → (0 + left ≡ chunks (length slots)) × (0 < left)
one_left slots x n left count empty all counted one =
    let long : length slots ≡ n = ap length empty ∙ length-replicate n x in (
      subst (λ (k : ℕ). 0 + left ≡ chunks k) (sym long) (let z : 0 + left ≡ chunks n = omega (arith, all) in z),
      omega (arith, all, counted, one),
    )

none_left : (n left after count : ℕ) → left ≡ chunks n → after + 1 ≡ left → count ≡ chunks n → count ≡ 1 → after ≡ 0
none_left n left after count all pushed counted one = omega (arith, all, pushed, counted, one)

pub push-requires-clause-next : goal.push-requires-clause-next
push-requires-clause-next g c =
    let made = c.in_ok-block.ensures in
    one_left c.in_ok-block.block.slots None c.args.len c.in_ok-block.block.left c.div_ceil-count.result made.1 made.2
    (c.div_ceil-count.ensures ∙ chunks_counted c.args.len) c.if-count-eq1.true

pub push-requires-clause-flag_word : goal.push-requires-clause-flag_word
push-requires-clause-flag_word g c =
    let long : length c.in_ok-block.block.slots ≡ c.args.len = ap length c.in_ok-block.ensures.1 ∙ length-replicate c.args.len None in
    c.flag_word_at.ensures ∙ ap (λ (n : ℕ). flag_word_at g.row.T n 0) (sym long)

pub returns-then-count-eq1 : goal.returns-then-count-eq1
returns-then-count-eq1 g c =
    let made = c.in_ok-block.ensures in
    let after = c.push.ensures in (
      after.0 ∙ made.0,
      after.1 ∙ made.1,
      none_left c.args.len c.in_ok-block.block.left c.push.new.self.left c.div_ceil-count.result made.2 after.2
          (c.div_ceil-count.ensures ∙ chunks_counted c.args.len) c.if-count-eq1.true,
    )
