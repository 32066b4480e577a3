use Rattle.std.proofs.Common.{◌≡◌, ◌+◌, ◌≤◌, ℕ, ap, sym, ◌∙◌, arith}
use Rattle.thread_local_base.specs.Buckets.{Contents}
use Rattle.thread_local_base.specs.Owned.{Owned}
use Rattle.thread_local_buckets.specs.Cursor.{values_left}
use Rattle.thread_local_buckets.proofs.buckets.Buckets.drop_rest.Goals as goal

one_more : (counter before after end : ℕ) → counter + before ≡ end → after + 1 ≡ before → counter + 1 + after ≡ end
one_more counter before after end all left = omega (arith, all, left)

none : (counter left end : ℕ) → counter + left ≡ end → end ≤ counter → left ≡ 0
none counter left end all over = omega (arith, all, over)

pub loop-preserved : goal.loop-preserved
loop-preserved g c =
    let kept = c.loop.invariant in
    let taken = c.take_next-value in (
      taken.ensures.walk,
      one_more c.loop.counter (values_left c.loop.cursor) (values_left taken.new.cursor) c.len-end.result kept.1
          taken.ensures.left,
      taken.ensures.ends,
      taken.ensures.leaves ∙ kept.3,
    )

pub returns : goal.returns
returns g c =
    let kept = c.loop.invariant in
    let over = none c.loop.counter (values_left c.loop.cursor) c.len-end.result kept.1 c.loop-test.false in
    let P : Contents g.row.T.Denot → Owned g.row.T.Denot = λ w. record { contents = w; reserved = c.loop.self.reserved } in
    sym (ap P (kept.2 over)) ∙ kept.3
