use Rattle.thread_local_examples_contracts.proofs.snapshot.snapshot.Goals as goal

pub loop-id-preserved : goal.loop-id-preserved
loop-id-preserved g c = record {
  can = c.in-Some.ensures.goes.keeps;
  finite = tt;
  given =
      c.entries_give_told.ensures.goes _ _ _ _ _ _ _ c.in-Some.ensures.steps c.loop-id.invariant.given c.in_ok-push.ensures.items;
}
