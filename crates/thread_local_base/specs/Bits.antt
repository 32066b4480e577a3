-- The bits of 64-bit words as truth values, and which of them is the lowest that is set, or isn't.
use Rattle.std.specs.Prelude.{◌≡◌, ℕ, ◌/◌, ◌%◌, ◌<◌, ◌≤◌, ◌==◌, Bool, true, false, List, [], ◌∷◌, ◌++◌, map}
use Rattle.std.specs.Prelude.{slice_index, if◌then◌else◌}
use Rattle.std.specs.Int.{bit_at}
use Rattle.std.specs.List.{range_with_len}

-- whether a bit of a word is set; the lowest is bit 0
abbrev pub is_set : ℕ → ℕ → Bool
is_set word bit = bit_at word bit == 1

-- whether a bit of a list of words is set: bit j is bit j % 64 of word j / 64
abbrev pub is_set_in : List ℕ → ℕ → Bool
is_set_in words bit = is_set (slice_index words (bit / 64)) (bit % 64)

-- the `count` lowest bits of a word as truth values, the lowest first
unfoldable pub low_bits : ℕ → ℕ → List Bool
low_bits count word = map (is_set word) (range_with_len 0 count)

-- the bits of a list of words as truth values, 64 for each word, the lowest first
unfoldable pub bits_of : List ℕ → List Bool
bits_of [] = []
bits_of (word ∷ words) = low_bits 64 word ++ bits_of words

-- this bit of a word isn't set, and every lower bit is
pub record IsLowestUnset (word bit : ℕ) : Type 0 where
  pub within : bit < 64
  pub unset : is_set word bit ≡ false
  pub lower : (i : ℕ) → i < bit → is_set word i ≡ true

-- this bit of a word is set, and no lower bit is
pub record IsLowestSet (word bit : ℕ) : Type 0 where
  pub within : bit < 64
  pub set : is_set word bit ≡ true
  pub lower : (i : ℕ) → i < bit → is_set word i ≡ false

-- this bit of a list of words isn't set, and every bit from `from` up to it is
pub record IsNextUnset (words : List ℕ) (from bit : ℕ) : Type 0 where
  pub after : from ≤ bit
  pub unset : is_set_in words bit ≡ false
  pub between : (i : ℕ) → from ≤ i → i < bit → is_set_in words i ≡ true

-- `new` is `old` but for one bit, which is `value`
abbrev pub IsWordBut : ℕ → ℕ → ℕ → Bool → Type 0
IsWordBut new old bit value = (i : ℕ) → i < 64 → is_set new i ≡ (if bit == i then value else is_set old i)
