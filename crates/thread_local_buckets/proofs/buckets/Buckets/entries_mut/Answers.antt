-- The search for these takes a second.
use Rattle.std.proofs.Common.{refl, sym, ap, ◌∙◌, subst}
use Rattle.thread_local_base.specs.Buckets.{Contents, values}
use Rattle.thread_local_base.specs.Owned.{Owned, IsOwned}
use Rattle.thread_local_base.specs.Walk.{walk, paired}
use Rattle.thread_local_buckets.specs.LendingValues.{owned_refilled}
use Rattle.thread_local_buckets.proofs.Refilling.{refilled-stands, refilled-published}
use Rattle.thread_local_buckets.proofs.buckets.Buckets.entries_mut.Goals as goal

pub invariant_of-self : goal.invariant_of-self
invariant_of-self g c =
    subst (λ (w : Contents g.row.T.Denot). IsOwned (record { contents = w; reserved = c.self.inside.reserved }))
    (sym c.begin_walk-cursor.ensures.same) c.self.invariant

pub returns : goal.returns
returns g c =
    let counted =
    ap (λ (w : Contents g.row.T.Denot).
    let s : Owned g.row.T.Denot = record { contents = w; reserved = c.self.inside.reserved } in s)
    c.begin_walk-cursor.ensures.same
    ∙ c.self.view_is in (
      (refl, λ w. ap (λ (s : Owned _). owned_refilled s w) counted),
      record {
        writes_back = tt;
        rest =
            ap (λ (contents : Contents _). walk (paired (values contents))) c.lend.ensures.contents
            ∙ ap (λ (s : Owned _). walk (paired (values s.contents))) counted;
        fresh = c.lend.ensures.given;
        would_stand = refilled-stands c.args.self.now;
        would_be_published = refilled-published c.args.self.now;
      },
    )
