-- Words with a bit for each of a table's 63 buckets. The word of announced buckets has each bucket that
-- holds a value, and the first seven from the beginning. An owner may make buckets that it doesn't
-- announce yet, so another word covers all that stand.
use Rattle.std.specs.Prelude.{◌≡◌, ℕ, ◌<◌, ◌≤◌, true, false, [], None}
use Rattle.thread_local_base.specs.Bits.{is_set}
use Rattle.thread_local_base.specs.Buckets.{Contents, row}
use Rattle.thread_local_base.specs.Rows.{value_in}

-- the bucket doesn't stand
abbrev pub IsMissing : {V : Type 0} → Contents V → ℕ → Type 0
IsMissing contents bucket = row contents bucket ≡ []

-- no slot of the bucket has a value
abbrev pub HasNone : {V : Type 0} → Contents V → ℕ → Type 0
HasNone contents bucket = (index : ℕ) → value_in contents bucket index ≡ None

-- each bucket of the table that isn't in the word is such a bucket, and no further bit is set
pub record AllBut (Lacks : ℕ → Type 0) (word : ℕ) : Type 0 where
  pub others : (bucket : ℕ) → bucket < 63 → is_set word bucket ≡ false → Lacks bucket
  pub none_past : is_set word 63 ≡ false

-- the first seven buckets are announced, and each that holds a value
pub record Announces {V : Type 0} (word : ℕ) (contents : Contents V) : Type 0 where
  pub first : (bucket : ℕ) → bucket < 7 → is_set word bucket ≡ true
  pub holding : AllBut (HasNone contents) word

-- each bucket that stands is in this word
abbrev pub Covers : {V : Type 0} → ℕ → Contents V → Type 0
Covers word contents = AllBut (IsMissing contents) word

-- the buckets of a word from one on: each that isn't in the word is such a bucket
pub record AreAhead (Lacks : ℕ → Type 0) (word from : ℕ) : Type 0 where
  pub others : (bucket : ℕ) → from ≤ bucket → bucket < 63 → is_set word bucket ≡ false → Lacks bucket
  pub inside : (bucket : ℕ) → bucket < 64 → is_set word bucket ≡ true → (from ≤ bucket) × (bucket < 63)
