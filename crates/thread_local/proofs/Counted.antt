-- How many ids are held, at least.
use Rattle.std.proofs.Common.{ℕ, zero, suc, ◌≤◌, Bool, true, false, List, [], ◌∷◌, arith}
use Rattle.thread_local_base.specs.Held.{held_count, HoldsAllBelow}

-- as many as there are ids below a number, where all of these are held
pub all_below_count : (n : ℕ) (held : List Bool) → HoldsAllBelow n held → n ≤ held_count held
all_below_count zero held all = omega arith
all_below_count (suc n) [] all = let first = all 0 (omega arith) in cc
all_below_count (suc n) (false ∷ held) all = let first = all 0 (omega arith) in cc
all_below_count (suc n) (true ∷ held) all =
    let rest : n ≤ held_count held = all_below_count n held (λ id below. all (suc id) (omega (arith, below))) in
    omega (arith, rest)
