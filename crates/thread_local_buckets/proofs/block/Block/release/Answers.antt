use Rattle.std.proofs.Common.{ℕ, length, sym, ap, ◌∙◌, subst, arith}
use Rattle.std.specs.Prelude.{◌≡◌, ◌≤◌, Option, List, None}
use Rattle.std.proofs.lemmas.List.{take_all, drop_all, length-replicate}
use Rattle.thread_local_buckets.specs.Slots.{empty_slots}
use Rattle.thread_local_buckets.proofs.block.Block.release.Goals as goal

-- The search for these takes two seconds.
empty_all : {X : Type 0} (slots : List (Option X)) (len : ℕ) → slots ≡ empty_slots len → length slots ≤ len
empty_all {X = X} slots len all = subst (λ (n : ℕ). n ≤ len) (sym (ap length all ∙ length-replicate len None)) (omega arith)

pub of-requires-clause-whole : goal.of-requires-clause-whole
of-requires-clause-whole g c = c.requires.2

pub of-requires-clause-empty : goal.of-requires-clause-empty
of-requires-clause-empty g c = take_all c.args.len c.args.self.slots (empty_all c.args.self.slots c.args.len c.requires.1) ∙ c.requires.1

pub deallocate-requires-clause-left : goal.deallocate-requires-clause-left
deallocate-requires-clause-left g c = (
  c.of.ensures.0 ∙ c.requires.0,
  c.of.ensures.1 ∙ drop_all c.args.len c.args.self.slots (empty_all c.args.self.slots c.args.len c.requires.1),
  c.of.ensures.2,
)

pub deallocate-requires-clause-size : goal.deallocate-requires-clause-size
deallocate-requires-clause-size g c = c.bytes_of_block.ensures
