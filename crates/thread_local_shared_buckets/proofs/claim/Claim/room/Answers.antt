-- The search for these takes a second.
use Rattle.std.proofs.Common.{◌∙◌, ℕ, ap, sym}
use denote.Param.{param}
use Rattle.thread_local_base.specs.Place.{index_of}
use Rattle.thread_local_shared_buckets.specs.ClaimViews.{ClaimView}
use Rattle.thread_local_shared_buckets.proofs.ClaimLaws.{goes_on, seen_on}
use Rattle.thread_local_shared_buckets.proofs.IdLaws.{word_there}
use Rattle.thread_local_shared_buckets.proofs.claim.Claim.room.Goals as goal

pub find-requires-clause-index : goal.find-requires-clause-index
find-requires-clause-index g c =
    let id = ap (λ (view : ClaimView g.row.T.Denot). view.id) c.self.view_is in
    ◌∙◌ {A = ℕ} c.requires.place.1 (sym (◌∙◌ {A = ℕ} c.self.invariant.1 (ap index_of id)))

pub find-requires-clause-flag_word : goal.find-requires-clause-flag_word
find-requires-clause-flag_word g c =
    let id = ◌∙◌ {A = ℕ} c.self.invariant.0 (ap (λ (view : ClaimView g.row.T.Denot). view.id) c.self.view_is) in
    word_there (param 0 g.row.T) c.flag_word_of.result c.self.inside.slot.id c.args.self.now.id c.args.thread.bucket c.args.thread.index
    c.flag_word_of.ensures id c.requires.place.0 c.requires.place.1

pub returns-then-not-is_missing-2-clause-same : goal.returns-then-not-is_missing-2-clause-same
returns-then-not-is_missing-2-clause-same g c =
    let from = c.self.inside in
    let to = c.find.new.self in
    seen_on from.slot to from.id from.right.before to.learnt from.slot.left c.args.self.now c.find.ensures.same c.self.view_is

pub returns-in_err-new-clause-same : goal.returns-in_err-new-clause-same
returns-in_err-new-clause-same g c =
    let from = c.self.inside in
    let to = c.find.new.self in
    seen_on from.slot to from.id from.right.before to.learnt from.slot.left c.args.self.now c.find.ensures.same c.self.view_is

pub returns-clause-same : goal.returns-clause-same
returns-clause-same g c =
    let from = c.self.inside in
    let to = c.find.new.self in
    seen_on from.slot to from.id from.right.before to.learnt from.slot.left c.args.self.now c.find.ensures.same c.self.view_is

pub invariant_of-self : goal.invariant_of-self
invariant_of-self g c =
    let from = c.self.inside in
    let to = c.find.new.self in
    goes_on from.slot to from.id from.announcements.now from.right to.learnt from.slot.left c.self.invariant c.find.ensures.same
    c.find.ensures.looked
