-- What a publishing leaves: a claim that holds the value.
use Rattle.std.proofs.Common.{◌∙◌, Some, sym, ap}
use Rattle.thread_local_base.specs.Learnt.{Learnt, Holding, learnt_by_publish}
use Rattle.thread_local_shared_buckets.specs.declared.claimed.ClaimedSlot.{ClaimedSlot}
use Rattle.thread_local_shared_buckets.proofs.ClaimLaws.{goes_on, seen_on}
use Rattle.thread_local_shared_buckets.proofs.claim.Claim.publish.Goals as goal

pub returns-clause-same : goal.returns-clause-same
returns-clause-same g c =
    let from = c.self.inside in
    let to = c.publish.new.self in
    seen_on from.slot to from.id from.right.before (Holding c.args.value) to.left c.args.self.now c.publish.ensures c.self.view_is
    ∙ ap (λ (l : Learnt g.row.T.Denot). record c.args.self.now { learnt = l })
    (sym (ap (λ (slot : ClaimedSlot g.row.T.Denot). slot.learnt) c.publish.ensures))

pub returns-clause-learnt : goal.returns-clause-learnt
returns-clause-learnt g c =
    ap (λ (l : Learnt g.row.T.Denot). learnt_by_publish l c.args.value) c.requires.vacant
    ∙ ap Some (sym (ap (λ (slot : ClaimedSlot g.row.T.Denot). slot.learnt) c.publish.ensures))

pub invariant_of-self : goal.invariant_of-self
invariant_of-self g c =
    let from = c.self.inside in
    let to = c.publish.new.self in
    goes_on from.slot to from.id from.announcements.now from.right (Holding c.args.value) to.left c.self.invariant c.publish.ensures tt
