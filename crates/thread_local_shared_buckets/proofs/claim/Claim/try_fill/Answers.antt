use Rattle.std.proofs.Common.{◌≢◌, ◌∙◌, ap}
use Rattle.thread_local_shared_buckets.specs.Known.{state_of}
use Rattle.thread_local_shared_buckets.specs.Room.{IsEmpty}
use Rattle.thread_local_shared_buckets.specs.ClaimViews.{ClaimView}
use Rattle.thread_local_shared_buckets.proofs.Fills.{filled_already, filled_by, empty_else}
use Rattle.thread_local_shared_buckets.proofs.claim.Claim.try_fill.Goals as goal
use Rattle.thread_local_shared_buckets.proofs.claim.Claim.try_fill.Goals.{After-state}

pub returns-then-state-eq-HOLDING-clause-ok : goal.returns-then-state-eq-HOLDING-clause-ok
returns-then-state-eq-HOLDING-clause-ok g c =
    filled_already _ c.args.self.now c.state.result (c.state.ensures ∙ ap (λ (view : ClaimView _). state_of view.learnt) c.self.view_is)
    c.if-state-eq-HOLDING.true

empty_here : (g : _) (c : After-state g) → c.state.result ≢ 2 → IsEmpty c.args.self.now.learnt
empty_here g c apart =
    empty_else c.self.inside.slot.learnt c.args.self.now.learnt c.state.result
    (ap (λ (view : ClaimView g.row.T.Denot). view.learnt) c.self.view_is) c.self.invariant.3 c.state.ensures apart

pub room-requires-clause-empty : goal.room-requires-clause-empty
room-requires-clause-empty g c = empty_here g (goal.at.room-requires-clause-empty g c).After-state c.if-state-eq-HOLDING.false

pub publish_in-requires-clause-room : goal.publish_in-requires-clause-room
publish_in-requires-clause-room g c = c.in_ok-block.ensures.ok

pub returns-in-Ok-clause-ok : goal.returns-in-Ok-clause-ok
returns-in-Ok-clause-ok g c =
    let empty = empty_here g (goal.at.returns-in-Ok-clause-ok g c).After-state c.if-state-eq-HOLDING.false in
    filled_by _ c.args.self.now c.room.new.self c.publish_in.new.self c.in-Ok.value empty c.in-Ok.ensures c.in_ok-block.ensures.same
    c.publish_in.ensures
