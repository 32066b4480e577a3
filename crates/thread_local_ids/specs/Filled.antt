-- How the manager of the further ids counts the first ones: as held, from the first take on.
use Rattle.std.specs.Prelude.{◌≡◌, ℕ, ◌-◌, ◌^◌, ◌<◌, ◌≤◌, ◌==◌, min, Bool, true, false, List, length, if◌then◌else◌}
use Rattle.thread_local_base.specs.Held.{Manager, is_held, HoldsAllBelow}

-- all of the first ids count as held, up to the peak
abbrev pub IsFilled : List Bool → Type 0
IsFilled held = HoldsAllBelow (min 58 (length held)) held

-- `new` is `old` once the first ids count as held there, and the least further id is held
pub record TakesFurther (old new : Manager) (id : ℕ) : Type 0 where
  pub further : 58 ≤ id
  pub in_range : id < 2 ^ 63 - 1
  pub free : is_held old.held id ≡ false
  pub lower : (other : ℕ) → 58 ≤ other → other < id → is_held old.held other ≡ true
  pub at : (other : ℕ) → 58 ≤ other → is_held new.held other ≡ (if id == other then true else is_held old.held other)
