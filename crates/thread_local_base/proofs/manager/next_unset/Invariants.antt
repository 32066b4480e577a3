use Rattle.std.proofs.Common.{◌≡◌, ℕ, ◌*◌, ◌<◌, ◌≤◌, true}
use Rattle.thread_local_base.specs.Bits.{is_set_in}
use Rattle.thread_local_base.proofs.manager.next_unset.Given as goal

-- every bit of the words so far is set
abbrev pub invariant-loop-at : goal.invariant-loop-at
invariant-loop-at l = (i : ℕ) → l.from * 64 ≤ i → i < l.at * 64 → is_set_in l.words i ≡ true
