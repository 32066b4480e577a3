-- Which buckets stand is the same once all values are gone, so the loan leaves the same view.
use Rattle.std.proofs.Common.{◌≡◌, ◌∙◌, ℕ, Bool, true, false, None, sym, ap, if◌then◌else◌, ◌==◌}
use Rattle.thread_local_base.specs.Buckets.{stands}
use Rattle.thread_local_base.specs.Owned.{Owned}
use Rattle.thread_local_buckets.specs.Drain.{drain_leaves}
use Rattle.thread_local_shared_buckets.specs.Grown.{stand_among, only_reserved}
use Rattle.thread_local_shared_buckets.specs.AfterLoan as shared
use Rattle.thread_local_shared_buckets.specs.TableView.{TableView}
use Rattle.thread_local.specs.Tables.{ThreadLocalView, view_with, thread_local_view}
use Rattle.thread_local.proofs.table.ThreadLocal.drain.Goals as goal

same_lent : {V : Type 0} (s : TableView) (lent other left : Owned V) → lent.reserved ≡ other.reserved
    → ((bucket : ℕ) → stands lent.contents bucket ≡ stands other.contents bucket)
    → shared.view_with s lent left ≡ shared.view_with s other left
same_lent s lent other left many there =
    ap (λ (known : ℕ × (ℕ → Bool)). record {
      table = s.table;
      sharing = None;
      reserved = left.reserved;
      grown_by_ids =
          if only_reserved left then true
          else if s.grown_by_ids then if left.reserved == known.0 then stand_among known.1 (stands left.contents) else false
          else false;
    })
    (λ k. (many k, λ bucket. there bucket k))

pub returns : goal.returns
returns g c = (
  (
    sym c.drain.ensures.same_reference,
    λ w.
        let leaves = c.drain.ensures.leaves in
        ap (λ (s : TableView). thread_local_view s c.self.inside.first.room)
        (same_lent c.self.inside.buckets c.owner.result.now (drain_leaves c.drain.result) w
        (sym (ap (λ (o : Owned g.row.T.Denot). o.reserved) leaves))
        (λ bucket. sym (ap (λ (o : Owned g.row.T.Denot). stands o.contents bucket) leaves ∙ c.drain.ensures.would_stand bucket)))
        ∙ ap (λ (s : ThreadLocalView). view_with s (drain_leaves c.drain.result) w) c.self.view_is,
  ),
  record {
    writes_back = tt;
    ready = c.drain.ensures.ready;
    fresh = c.drain.ensures.fresh;
    reserved =
        ap (λ (o : Owned g.row.T.Denot). o.reserved) c.drain.ensures.leaves ∙ c.owner.ensures.reserved
        ∙ sym (ap (λ (s : ThreadLocalView). s.reserved) (sym c.self.view_is));
    stays = c.drain.ensures.stays;
  },
)
