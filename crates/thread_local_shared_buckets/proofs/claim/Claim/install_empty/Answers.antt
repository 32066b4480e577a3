-- An empty block has no value in any slot.
use Rattle.std.proofs.Common.{◌∙◌, ◌≡◌, ◌^◌, ℕ, List, Option, None, ap, sym, subst}
use Rattle.std.specs.Prelude.{slice_set}
use Rattle.thread_local_base.specs.Learnt.{Learnt, Vacant}
use Rattle.thread_local_base.specs.Place.{bucket_of}
use Rattle.thread_local_buckets.specs.Slots.{empty_slots, slot_value}
use Rattle.thread_local_shared_buckets.specs.declared.claimed.ClaimedSlot.{ClaimedSlot}
use Rattle.thread_local_shared_buckets.specs.Known.{HasLooked, found_as, state_of}
use Rattle.thread_local_shared_buckets.specs.ClaimViews.{ClaimView}
use Rattle.thread_local_shared_buckets.proofs.ClaimLaws.{goes_on, seen_on}
use Rattle.thread_local_shared_buckets.proofs.Fills.{vacant_then}
use Rattle.thread_local_shared_buckets.proofs.BlockLaws.{none_again, none_where}
use Rattle.thread_local_shared_buckets.proofs.claim.Claim.install_empty.Goals as goal
use Rattle.thread_local_shared_buckets.proofs.claim.Claim.install_empty.Goals.{After-exchange-back}

pub exchange-back-requires-clause-made : goal.exchange-back-requires-clause-made
exchange-back-requires-clause-made g c =
    let slot = c.self.inside.slot in
    let none : Option g.row.T.Denot = None in
    let id = c.self.invariant.0 ∙ ap (λ (view : ClaimView g.row.T.Denot). view.id) c.self.view_is in (
      c.requires.block.2,
      ◌∙◌ {A = List (Option g.row.T.Denot)}
          (ap (λ (cs : List (Option g.row.T.Denot)). slice_set cs slot.index none) c.requires.block.1)
          (none_again (2 ^ c.args.thread.bucket) slot.index
          ∙ ap (λ (b : ℕ). empty_slots {X = g.row.T.Denot} (2 ^ b)) (◌∙◌ {A = ℕ} c.requires.place.0 (sym (ap bucket_of id)))),
    )

pub exchange-back-requires-clause-state : goal.exchange-back-requires-clause-state
exchange-back-requires-clause-state g c =
    let none = none_where c.args.block.slots (2 ^ c.args.thread.bucket) c.self.inside.slot.index c.requires.block.1 in
    sym (ap (λ (v : Option g.row.T.Denot). state_of (found_as v)) none)

vacant_now : (g : _) (c : After-exchange-back g) → c.exchange-back.new.self.learnt ≡ Vacant
vacant_now g c =
    let slots = c.args.block.slots in
    let index = c.self.inside.slot.index in
    let none = none_where slots (2 ^ c.args.thread.bucket) index c.requires.block.1 in
    vacant_then c.exchange-back.result (slot_value slots index) c.exchange-back.new.self.learnt none c.exchange-back.ensures.learnt

pub returns : goal.returns
returns g c =
    let from = c.self.inside in
    let to = c.exchange-back.new.self in
    let vacant = vacant_now g (goal.at.returns g c).After-exchange-back in
    let same =
    ◌∙◌ {A = ClaimedSlot g.row.T.Denot} c.exchange-back.ensures.same
    (ap (λ (l : Learnt g.row.T.Denot). record from.slot { at = to.at; state = to.state; learnt = l; left = to.left }) vacant) in
    seen_on from.slot to from.id from.right.before Vacant to.left c.args.self.now same c.self.view_is

pub invariant_of-self : goal.invariant_of-self
invariant_of-self g c =
    let from = c.self.inside in
    let to = c.exchange-back.new.self in
    let looked = subst HasLooked (sym (vacant_now g (goal.at.invariant_of-self g c).After-exchange-back)) tt in
    goes_on from.slot to from.id from.announcements.now from.right to.learnt to.left c.self.invariant c.exchange-back.ensures.same looked
