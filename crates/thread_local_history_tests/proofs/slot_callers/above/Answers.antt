use Rattle.std.proofs.Common.{◌≡◌, ◌∙◌, ◌<◌, ◌≤◌, ◌+◌, ◌==◌, Bool, true, false, List, length, if◌then◌else◌, refl, sym, ap, arith, ℕ, ⊎_elim}
use Rattle.std.proofs.lemmas.Bool.{eq-eqb, cases_lt}
use Rattle.thread_local_base.specs.Held.{least, with_least}
use Rattle.thread_local_base.specs.IdMoves.{IdMove, held_after}
use Rattle.thread_local_history_tests.proofs.slot_callers.above.Goals as goal

-- the least free id lies below the peak that its take leaves
below : (held : List Bool) (peak : ℕ) → least held ≤ length held
    → peak ≡ (if least held == length held then length held + 1 else length held) → least held < peak
below held peak bound is = by (least held == length held) refl is
  where
    by : (t : Bool) → (least held == length held) ≡ t → peak ≡ (if t then length held + 1 else length held) → least held < peak
    by true same e = omega (arith, e, bound)
    by false differs e =
        ⊎_elim (λ (low : least held < length held). omega (arith, e, low))
        (λ high.
        let same : least held ≡ length held = omega (arith, high, bound) in
        let clash : true ≡ false = sym (eq-eqb (least held) (length held) same) ∙ differs in cc)
        (cases_lt (least held) (length held))

pub returns : goal.returns
returns g c =
    let before : List IdMove = c.args.seat.now.before in
    let held : List Bool = held_after before in
    let low =
    below held (length (with_least held)) (c.least_is_least.ensures.bounded held) (c.taking_changes_the_least.ensures.peak held) in
    let same : held_after c.page.result.moves ≡ with_least held =
    ap held_after c.page.ensures.1 ∙ c.a_history_leaves_ids_held.ensures.take before in
    omega (arith, low, ap (λ (l : List Bool). length l) same, c.slots_and_peak-peak.ensures.shown, c.requires.least)
