use Rattle.std.proofs.Common.{ℕ, map, refl, ap, ◌∙◌}
use Rattle.thread_local_base.specs.Buckets.{values}
use Rattle.thread_local_buckets.proofs.EntriesLaws.{walk_of_entries}
use Rattle.thread_local_buckets.proofs.buckets.Buckets.iter_mut.Goals as goal

pub returns : goal.returns
returns g c = (
  (refl, λ w. refl),
  record {
    writes_back = tt;
    rest = ap (map (λ (entry : ℕ × _). entry.1)) c.entries_mut.ensures.rest ∙ walk_of_entries (values c.args.self.now.contents);
    fresh = c.entries_mut.ensures.fresh;
    would_stand = c.entries_mut.ensures.would_stand;
    would_be_published = c.entries_mut.ensures.would_be_published;
  },
)
