-- The peak against the number of held ids.
use Rattle.std.proofs.Common.{◌≡◌, ℕ, zero, suc, ◌<◌, ◌≤◌, max, Bool, true, false, IsTrue, List, [], ◌∷◌, length, refl}
use Rattle.std.proofs.Common.{arith}
use Rattle.thread_local_base.specs.Held.{is_held, least, with_least, held_count}
use Rattle.thread_local_base.proofs.HeldLaws.{held_count-with_least, least_bounded}

-- a held id is below the peak
pub held_below : (held : List Bool) (id : ℕ) → IsTrue (is_held held id) → id < length held
held_below [] id h = cc
held_below (h ∷ held) zero t = omega arith
held_below (h ∷ held) (suc id) t = omega (arith, held_below held id t)

-- no more ids are held than the peak
pub held_count-le : (held : List Bool) → held_count held ≤ length held
held_count-le [] = omega arith
held_count-le (true ∷ held) = omega (arith, held_count-le held)
held_count-le (false ∷ held) = omega (arith, held_count-le held)

-- the least id that isn't held is at most how many are held
pub least-le-held_count : (held : List Bool) → least held ≤ held_count held
least-le-held_count [] = omega arith
least-le-held_count (true ∷ held) = omega (arith, least-le-held_count held)
least-le-held_count (false ∷ held) = omega arith

-- the peak after one more id is held
pub peak_after : (held : List Bool) → length (with_least held) ≡ max (length held) (suc (least held))
peak_after [] = refl
peak_after (true ∷ held) = omega (arith, peak_after held)
peak_after (false ∷ held) = omega arith

-- after the least free id is taken, the peak is the greater of the old peak and the number of held
-- ids
pub peak_counts : (held : List Bool) → length (with_least held) ≡ max (length held) (held_count (with_least held))
peak_counts held =
    let after = peak_after held in
    let more = held_count-with_least held in
    let some = least-le-held_count held in
    let within = held_count-le (with_least held) in
    let low = least_bounded held in
    omega arith
