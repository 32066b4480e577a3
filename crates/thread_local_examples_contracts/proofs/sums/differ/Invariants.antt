-- Of which tokens it is known that their ids differ.
use Rattle.std.proofs.Common.{◌≢◌, ◌<◌, ℕ, List, length, slice_index_or}
use Rattle.thread_local.specs.TokenViews.{TokenView}
use Rattle.thread_local_examples_contracts.proofs.sums.differ.Given as goal

-- the ids of two tokens differ
abbrev pub Differ : List (TokenView ℕ) → ℕ → ℕ → Type 0
Differ tokens one other = (d : TokenView ℕ) → (slice_index_or tokens one d).id ≢ (slice_index_or tokens other d).id

-- this one's differs from those of the tokens behind it, up to there
abbrev pub invariant-loop-other : goal.invariant-loop-other
invariant-loop-other l = (j : ℕ) → l.one < j → j < l.other → Differ l.tokens l.one j

-- those of the tokens before this one differ from those of all behind them
abbrev pub invariant-loop-one : goal.invariant-loop-one
invariant-loop-one l = (i j : ℕ) → i < j → i < l.one → j < length l.tokens → Differ l.tokens i j
