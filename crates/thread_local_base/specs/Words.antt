-- Which ids the words of a manager hold, and what always holds of them.
use Rattle.std.specs.Prelude.{◌≡◌, ◌⊎◌, ℕ, ◌-◌, ◌*◌, ◌^◌, ◌≤◌, min, false, List, length, take, IsTrue}
use Rattle.thread_local_base.specs.Held.{Manager, is_held}
use Rattle.thread_local_base.specs.Bits.{bits_of, IsNextUnset}

-- the bits below the peak are the held ids, and the room is the number of bits, or that of all ids
-- where that is less
abbrev pub manager_of : List ℕ → ℕ → Manager
manager_of words peak = record { held = take peak (bits_of words); room = min (length words * 64) (2 ^ 63 - 1) }

-- there are no more words than all ids need, no bit from the peak on is set, and this is the lowest bit
-- that isn't
pub record IsManager (words : List ℕ) (peak lowest : ℕ) : Type 0 where
  pub few : length words ≤ 2 ^ 57
  pub within : peak ≤ length words * 64
  pub in_range : peak ≤ 2 ^ 63 - 1
  pub above : (id : ℕ) → peak ≤ id → is_held (bits_of words) id ≡ false
  pub next : IsNextUnset words 0 lowest

-- the id that was given back last is still held by the bits, or there is none
pub record HasReturned (bits : Manager) (returned : ℕ) : Type 0 where
  pub peak_in_room : length bits.held ≤ bits.room
  pub room_in_range : bits.room ≤ 2 ^ 63 - 1
  pub still : (returned ≡ 2 ^ 63 - 1) ⊎ IsTrue (is_held bits.held returned)
