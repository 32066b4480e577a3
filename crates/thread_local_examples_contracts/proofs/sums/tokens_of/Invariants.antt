-- Whose tokens are there.
use Rattle.std.proofs.Common.{◌≡◌, All, map, take}
use Rattle.thread_local_examples_contracts.proofs.sums.tokens_of.Given as goal

-- the tokens of the first parts, in their order
abbrev pub invariant-loop-index : goal.invariant-loop-index
invariant-loop-index g l = record {
  sharing : All (λ token. token.sharing ≡ l.sums.sharing) l.tokens.items;
  values : map (λ token. token.value) l.tokens.items ≡ take l.index l.parts;
}
