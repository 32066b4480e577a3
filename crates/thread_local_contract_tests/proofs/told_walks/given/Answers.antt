use Rattle.thread_local_contract_tests.proofs.told_walks.given.Goals as goal

pub loop-token-preserved : goal.loop-token-preserved
loop-token-preserved c = record {
  can = c.in-Some.ensures.goes.keeps;
  finite = tt;
  given =
      c.tokens_give_told.ensures.goes _ _ _ _ _ _ _ _ c.in-Some.ensures.steps c.loop-token.invariant.given c.id.ensures.id
      c.in_ok-push.ensures.items;
}
