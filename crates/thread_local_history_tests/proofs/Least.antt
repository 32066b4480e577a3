-- No free id is lower than the least.
use Rattle.std.proofs.Common.{◌≡◌, ℕ, zero, suc, ◌≤◌, Bool, true, false, List, [], ◌∷◌, arith}
use Rattle.thread_local_base.specs.Held.{is_held, least}

pub least_at_most : (held : List Bool) (id : ℕ) → is_held held id ≡ false → least held ≤ id
least_at_most [] id free = omega arith
least_at_most (false ∷ held) id free = omega arith
least_at_most (true ∷ held) zero free = cc
least_at_most (true ∷ held) (suc id) free = omega (arith, least_at_most held id free)
