use Rattle.std.proofs.Common.{◌∙◌, ℕ, ◌<◌, ◌≤◌, ◌-◌, ◌^◌, sym, subst, lit<, arith}
use Rattle.std.proofs.Math.Nat.{min-eq_left}
use Rattle.std.specs.Prelude.{min}
use Rattle.thread_local.proofs.Told.{ok_not_err}
use Rattle.thread_local.proofs.table.ThreadLocal.with_capacity.Goals as goal
use Rattle.thread_local.proofs.Grown.{grown_with_capacity}

-- room for as many ids as a capacity that isn't too large, or for all, is room for the capacity
fits : (capacity room : ℕ) → capacity < 2 ^ 63 → min capacity (2 ^ 63 - 1) ≤ room → capacity ≤ room
fits capacity room small least =
    let low : capacity ≤ 2 ^ 63 - 1 = omega (arith, small) in
    subst (λ (n : ℕ). n ≤ room) (min-eq_left low) least

-- The search for these takes a second.
pub of-requires : goal.of-requires
of-requires g c = (lit< tt, (lit< tt, (c.requires.judged, (c.in_ok-buckets.ensures.empty, c.in_ok-ids.ensures.new))))

pub returns-clause-room : goal.returns-clause-room
returns-clause-room g c =
    subst (λ (room : ℕ). c.args.capacity ≤ room) (sym c.of.ensures.room)
    (fits c.args.capacity c.in_ok-ids.ids.1.room c.in_ok-check.ensures.ok c.in_ok-ids.ensures.room)

pub returns-clause-not_too_large : goal.returns-clause-not_too_large
returns-clause-not_too_large g c = λ told. absurd (ok_not_err told)

pub returns-clause-sharing : goal.returns-clause-sharing
returns-clause-sharing g c = c.of.ensures.sharing

pub returns-clause-reserved : goal.returns-clause-reserved
returns-clause-reserved g c = c.of.ensures.reserved ∙ c.in_ok-buckets.ensures.reserved

pub returns-clause-grown : goal.returns-clause-grown
returns-clause-grown g c =
    c.of.ensures.grown
    ∙ grown_with_capacity c.in_ok-buckets.buckets c.args.capacity c.in_ok-buckets.ensures.reserved c.in_ok-buckets.ensures.stands
