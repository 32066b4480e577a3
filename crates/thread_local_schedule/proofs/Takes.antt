-- When a take is refused, and that a take or a give keeps the manager's part of the invariant.
use Rattle.std.proofs.Common.{◌≡◌, ℕ, ◌-◌, ◌^◌, Bool, false, not, ◌&&◌, length, arith, ◌≤◌, ◌⊎◌, IsTrue, subst, ⊎_elim}
use Rattle.std.proofs.Common.{inl, inr}
use Rattle.std.proofs.lemmas.Bool.{eqb-false, and_parts, not-true, eqb-true, and_cases, not-false}
use Rattle.thread_local_base.specs.Held.{Manager, least, HoldsAllBelow, is_exhausted, is_full, is_granted, taken_from}
use Rattle.thread_local_schedule.proofs.HeldCounts.{peak_after}
use Rattle.thread_local_schedule.specs.CoreFits.{ManagerFits}
use Rattle.thread_local_base.proofs.HeldLaws as ids

-- a refused take finds every id held, or no room and no memory
pub not_granted : (manager : Manager) (refused : Bool) → length manager.held ≤ manager.room → is_granted manager refused ≡ false
    → HoldsAllBelow (2 ^ 63 - 1) manager.held
    ⊎ (HoldsAllBelow (length manager.held) manager.held × (length manager.held ≡ manager.room)
    × IsTrue refused)
not_granted manager refused room none =
    let low = ids.least_bounded manager.held in
    let lower = ids.least_lower manager.held in
    ⊎_elim
    (λ all.
    let e = eqb-true (least manager.held) (2 ^ 63 - 1) (not-false (is_exhausted manager) all) in
    inl (subst (λ n. HoldsAllBelow n manager.held) e lower))
    (λ some.
    let both = and_parts refused (is_full manager) (not-false (refused && is_full manager) some) in
    let e = eqb-true (least manager.held) manager.room both.1 in
    let top : least manager.held ≡ length manager.held = omega arith in
    inr (subst (λ n. HoldsAllBelow n manager.held) top lower, omega arith, both.0))
    (and_cases (not (is_exhausted manager)) (not (refused && is_full manager)) none)

-- a granted take finds an id that isn't held
pub granted_some : (manager : Manager) (refused : Bool) → IsTrue (is_granted manager refused) → is_exhausted manager ≡ false
granted_some manager refused t =
    not-true (is_exhausted manager)
    (and_parts (not (is_exhausted manager)) (not (refused && is_full manager)) t).0

-- the manager's part after an id was taken or given back
pub taken-ManagerFits : (manager : Manager) (capacity growth : ℕ) → is_exhausted manager ≡ false
    → ManagerFits manager capacity
    → ManagerFits (taken_from manager growth) capacity
taken-ManagerFits manager capacity growth some h =
    let free = eqb-false (least manager.held) (2 ^ 63 - 1) some in
    let after = peak_after manager.held in
    let low = ids.least_bounded manager.held in
    record {
      peak_room = omega arith;
      capacity_room = omega (arith, h.capacity_room);
      peak_ids = omega (arith, h.peak_ids);
      capacity_ids = h.capacity_ids;
    }
