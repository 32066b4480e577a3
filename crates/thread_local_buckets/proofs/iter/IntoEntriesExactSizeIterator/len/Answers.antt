-- The search for this takes a third of a second.
use Rattle.std.proofs.Common.{ℕ, List, length, sym, ap, ◌∙◌}
use Rattle.thread_local_base.specs.Buckets.{values}
use Rattle.thread_local_buckets.proofs.EntriesLaws.{length_of_entries}
use Rattle.thread_local_buckets.proofs.iter.IntoEntriesExactSizeIterator.len.Goals as goal

pub returns-clause-value : goal.returns-clause-value
returns-clause-value g c =
    c.len.ensures ∙ c.self.invariant.counted ∙ sym (length_of_entries (values c.self.inside.buckets.contents))
    ∙ ap (λ (entries : List (ℕ × g.row.T.Denot)). length entries) c.self.view_is
