-- The held ids of a table: which id a take gets, what taking and giving back change, and when a
-- take is refused.
use Rattle.std.specs.Prelude.{◌≡◌, ℕ, suc, ◌+◌, ◌-◌, ◌^◌, ◌<◌, ◌≤◌, ◌==◌, max, Bool, true, false, not, ◌&&◌, List, []}
use Rattle.std.specs.Prelude.{◌∷◌, length, slice_index_or, slice_set, IsTrue, if◌then◌else◌}

-- How contracts see a table's manager of ids. The list has a truth value for each id below the
-- peak, true where the id is held. The room says how many ids have a bit, so that
-- taking and returning them needs no further memory.
pub record Manager : Type 0 where
  pub held : List Bool
  pub room : ℕ

-- whether an id is held
abbrev pub is_held : List Bool → ℕ → Bool
is_held held id = slice_index_or held id false

-- the least id that isn't held
abbrev pub least : List Bool → ℕ
least [] = 0
least (false ∷ held) = 0
least (true ∷ held) = suc (least held)

-- the held ids once the least free id is held too
abbrev pub with_least : List Bool → List Bool
with_least [] = true ∷ []
with_least (false ∷ held) = true ∷ held
with_least (true ∷ held) = true ∷ with_least held

-- the held ids without this one
abbrev pub without : List Bool → ℕ → List Bool
without held id = slice_set held id false

-- how many ids are held
abbrev pub held_count : List Bool → ℕ
held_count [] = 0
held_count (false ∷ held) = held_count held
held_count (true ∷ held) = suc (held_count held)

-- every id below n is held
abbrev pub HoldsAllBelow : ℕ → List Bool → Type 0
HoldsAllBelow n held = (id : ℕ) → id < n → IsTrue (is_held held id)

-- whether all ids are held
abbrev pub is_exhausted : Manager → Bool
is_exhausted manager = least manager.held == 2 ^ 63 - 1

-- whether every id that there is room for is held
abbrev pub is_full : Manager → Bool
is_full manager = least manager.held == manager.room

-- whether a take gets an id, where memory is refused or not
abbrev pub is_granted : Manager → Bool → Bool
is_granted manager refused = not (is_exhausted manager) && not (refused && is_full manager)

-- the manager once the least free id is held, and the room has grown as far as needed and by
-- `growth` more
abbrev pub taken_from : Manager → ℕ → Manager
taken_from manager growth = record { held = with_least manager.held; room = max manager.room (length (with_least manager.held)) + growth }

-- the manager once an id is given back
abbrev pub given_to : Manager → ℕ → Manager
given_to manager id = record manager { held = without manager.held id }

-- `new` is `old` once an id is taken. The id is the least that wasn't held, and is held from now
-- on; no other id changes. The peak grows by one where every id below it was held. The room stays
-- where the id has room already, and never grows by more than 64.
pub record Takes (old new : Manager) (id : ℕ) : Type 0 where
  pub least : id ≡ least old.held
  pub in_range : id < 2 ^ 63 - 1
  pub growth : ℕ
  pub taken : new ≡ taken_from old growth
  pub held : new.held ≡ with_least old.held
  pub at : (other : ℕ) → is_held new.held other ≡ (if id == other then true else is_held old.held other)
  pub peak : length new.held ≡ (if id == length old.held then length old.held + 1 else length old.held)
  pub room : old.room ≤ new.room
  pub stays : id < old.room → new.room ≡ old.room
  pub few : new.room ≤ old.room + 64
  pub peak_in_room : length new.held ≤ new.room
  pub room_in_range : new.room ≤ 2 ^ 63 - 1

-- `new` is `old` once an id is given back. The id was held, and isn't any more; no other id
-- changes, nor do the peak and the room.
pub record Gives (old new : Manager) (id : ℕ) : Type 0 where
  pub was_held : IsTrue (is_held old.held id)
  pub given : new ≡ given_to old id
  pub held : new.held ≡ without old.held id
  pub at : (other : ℕ) → is_held new.held other ≡ (if id == other then false else is_held old.held other)
  pub peak : length new.held ≡ length old.held
  pub room : new.room ≡ old.room
  pub peak_in_room : length new.held ≤ new.room
  pub room_in_range : new.room ≤ 2 ^ 63 - 1

-- The next id needs memory: every id below the peak is held, and there is no room for one more,
-- though an id is left.
pub record NeedsMemory (manager : Manager) : Type 0 where
  pub full : HoldsAllBelow (length manager.held) manager.held
  pub no_room : length manager.held ≡ manager.room
  pub in_range : manager.room < 2 ^ 63 - 1

-- No id is left: every one is held, and so the peak and the room are as large as can be.
pub record IsExhausted (manager : Manager) : Type 0 where
  pub full : HoldsAllBelow (2 ^ 63 - 1) manager.held
  pub peak : length manager.held ≡ 2 ^ 63 - 1
  pub room : manager.room ≡ 2 ^ 63 - 1
