-- What a publishing leaves, in a block or in one that another installed first.
use Rattle.std.proofs.Common.{◌∙◌, ap, sym, subst}
use Rattle.thread_local_base.specs.Learnt.{Learnt}
use Rattle.thread_local_shared_buckets.specs.Known.{HasLooked, found_as}
use Rattle.thread_local_shared_buckets.proofs.ClaimLaws.{goes_on, seen_on}
use Rattle.thread_local_shared_buckets.proofs.Learning.{known_as}
use Rattle.thread_local_shared_buckets.proofs.claim.Claim.publish_in.Goals as goal

pub invariant_of-self : goal.invariant_of-self
invariant_of-self g c =
    let from = c.self.inside in
    let to = c.install.new.self in
    let looked = subst HasLooked (sym c.install.ensures.learnt) (known_as _) in
    goes_on from.slot to from.id from.announcements.now from.right to.learnt to.left c.self.invariant c.install.ensures.same looked

pub returns : goal.returns
returns g c =
    let from = c.self.inside in
    let to = c.install.new.self in
    let holds = ◌∙◌ {A = Learnt g.row.T.Denot} c.install.ensures.learnt (ap found_as c.filled-block.ensures.value) in
    seen_on from.slot to from.id from.right.before to.learnt to.left c.args.self.now c.install.ensures.same c.self.view_is
    ∙ ap (λ (l : Learnt g.row.T.Denot). record c.args.self.now { learnt = l }) holds
