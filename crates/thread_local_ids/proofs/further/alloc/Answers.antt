use Rattle.std.proofs.Common.{◌∙◌, ◌+◌, ap, arith, ℕ}
use Rattle.thread_local_base.specs.Held.{Takes}
use Rattle.thread_local_ids.specs.Filled.{TakesFurther}
use Rattle.thread_local_ids.proofs.FurtherLaws.{filled_grows, if_ok, takes_further}
use Rattle.thread_local_ids.proofs.further.alloc.Goals as goal

pub loop-preserved : goal.loop-preserved
loop-preserved c =
    let was = c.loop.invariant in
    let taken = c.in_ok-alloc.ensures.ok in
    let grows = filled_grows c.loop.manager c.alloc.new.self c.in_ok-alloc.field-0 was.1 (omega (arith, was.0, c.loop-test.true)) taken in (
      grows.0 ∙ ap (λ (n : ℕ). n + 1) was.0,
      grows.1,
      λ j far. was.2 j far ∙ grows.2 j far,
      omega (arith, was.3, taken.room),
    )

pub returns-clause-ok : goal.returns-clause-ok
returns-clause-ok c =
    let was = c.loop.invariant in
    let mid = c.loop.manager in
    let new = c.alloc-2.new.self in
    if_ok c.alloc-2.result (λ (id : ℕ). Takes mid new id) (λ (id : ℕ). TakesFurther c.args.manager.now new id)
    (λ id taken. takes_further c.args.manager.now mid new id was.1 (omega (arith, was.0, c.loop-test.false)) was.2 taken)
    c.alloc-2.ensures.ok
