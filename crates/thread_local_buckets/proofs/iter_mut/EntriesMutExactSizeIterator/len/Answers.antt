-- The search for this takes a quarter of a second.
use Rattle.std.proofs.Common.{length, sym, ap, ◌∙◌}
use Rattle.thread_local_base.specs.Buckets.{values}
use Rattle.thread_local_buckets.specs.IterMut.{entries_mut_rest}
use Rattle.thread_local_buckets.proofs.EntriesLaws.{length_of_entries}
use Rattle.thread_local_buckets.proofs.iter_mut.EntriesMutExactSizeIterator.len.Goals as goal

pub returns-clause-value : goal.returns-clause-value
returns-clause-value g c =
    c.len.ensures ∙ c.self.invariant.0.counted ∙ sym (length_of_entries (values c.self.inside.loan.contents))
    ∙ ap (λ it. length (entries_mut_rest it)) c.self.view_is
