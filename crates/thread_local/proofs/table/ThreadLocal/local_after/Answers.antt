use Rattle.std.proofs.Common.{rules, arith, refl, ◌≡◌, ◌≤◌, ◌<◌, ◌-◌, ◌^◌, ◌∙◌, ℕ, ap, sym, subst}
use Rattle.thread_local.proofs.Reserved.{makes_local}
use Rattle.std.specs.Prelude.{List, Bool}
use mathlib.Core.List.{IsPrefix}
use Rattle.thread_local_base.specs.Held.{least, held_count, HoldsAllBelow}
use Rattle.thread_local_base.specs.IdMoves.{IdMove, Take, held_after, noted, published_in}
use Rattle.thread_local_base.specs.Answers.{view_of}
use Rattle.thread_local_ids.specs.Sharings.{left_of}
use Rattle.thread_local.proofs.Told.{ok_not_err}
use Rattle.thread_local.proofs.Counted.{all_below_count}
use Rattle.thread_local.proofs.table.ThreadLocal.local_after.Goals as goal

pub invariant_of-seat : goal.invariant_of-seat
invariant_of-seat g c =
    let made = c.claim in
    makes_local c.in_ok-held.held c.self.inside.buckets c.self.inside.first.room made.result c.self.view_is made.ensures.same_slot
    made.ensures.learnt made.ensures.reserved

pub returns-clause-least : goal.returns-clause-least
returns-clause-least g c =
    c.claim.ensures.same_slot.2 ∙ c.in_ok-held.held.least ∙ ap (λ (l : List IdMove). least (held_after l)) (sym c.claim.ensures.same_slot.3)

-- where as many ids are held as there was room for, no fewer are
pub returns-in_err-held-clause-granted : goal.returns-in_err-held-clause-granted
returns-in_err-held-clause-granted g c = λ few refused.
    let held : List Bool = held_after c.take.new.page.moves in
    let full : HoldsAllBelow c.args.self.now.room held = search (rules, refused) in
    let many : c.args.self.now.room ≤ held_count held = all_below_count c.args.self.now.room held full in
    omega (arith, few, many)

pub returns-clause-in_range : goal.returns-clause-in_range
returns-clause-in_range g c = subst (λ (id : ℕ). id < 2 ^ 63 - 1) (sym c.claim.ensures.same_slot.2) c.in_ok-held.held.in_range

pub returns-clause-early : goal.returns-clause-early
returns-clause-early g c = c.take.ensures.early

pub returns-clause-since : goal.returns-clause-since
returns-clause-since g c =
    subst (IsPrefix c.args.page.now.moves) (sym c.claim.ensures.same_slot.3) c.in_ok-held.ensures.taken.since

pub returns-clause-found : goal.returns-clause-found
returns-clause-found g c = λ first value says.
    let left : left_of g.row.T (view_of c.claim.result.learnt).value ≡ published_in c.in_ok-held.held.right.before c.claim.result.id = search (rules, first) in
    c.a_value_left_is_found.ensures.found _ _ _ _ _ value says c.in_ok-held.ensures.taken.since left refl

pub returns-clause-moves : goal.returns-clause-moves
returns-clause-moves g c =
    c.in_ok-held.ensures.taken.moves ∙ ap (λ (l : List IdMove). noted l Take) (sym c.claim.ensures.same_slot.3)

pub returns-clause-memory : goal.returns-clause-memory
returns-clause-memory g c = λ told. absurd (ok_not_err told)

pub returns-clause-granted : goal.returns-clause-granted
returns-clause-granted g c = λ few told. ok_not_err told

pub returns-clause-exhausted : goal.returns-clause-exhausted
returns-clause-exhausted g c = λ told. absurd (ok_not_err told)

pub returns-clause-page : goal.returns-clause-page
returns-clause-page g c = c.take.ensures.table

pub returns-in_err-held-clause-page : goal.returns-in_err-held-clause-page
returns-in_err-held-clause-page g c = c.take.ensures.table

pub returns-in_err-held-clause-early : goal.returns-in_err-held-clause-early
returns-in_err-held-clause-early g c = c.take.ensures.early
