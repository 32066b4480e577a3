-- The word by which threads announce buckets, and what is known for good of each bucket that is
-- announced.
--
-- The buckets that were announced when a sharing began stay so, and this is all that is known of them.
-- For each other bucket there is a right, with one holder, to tell that it is announced. It lies with
-- the word until the bucket's bit is set. From then on it is told, and whoever wants may have that.
use Rattle.std.specs.Prelude.{◌≡◌, ℕ, zero, suc, ◌<◌, Bool, true, false, Some, refl}
use Rattle.std.specs.Coded.{Coded, coded_ℕ, coded×, coded_option, code_by}
use base.Fml.{GName, Fml, ftrue, fsep, fex}
use denote.Builtin.{u64}
use Rattle.thread_local_base.specs.Bits.{is_set}
use Rattle.thread_local_base.specs.Fact.{fact}
use Rattle.thread_local_ids.specs.Told.{untold_in, told_in}

-- what a contract sees of the word: the name under which it is told of buckets that they are announced,
-- the word as it was when the sharing began, and the word of the buckets that an owner made
pub record Announcing : Type 0 where
  pub name : ℕ
  pub begun : ℕ
  pub made : ℕ

-- an injective code of such views, for ghost state
abbrev pub announcing_coded : Coded Announcing
announcing_coded =
    code_by (ℕ × (ℕ × ℕ)) (coded× coded_ℕ (coded× coded_ℕ coded_ℕ)) (λ m. (m.name, (m.begun, m.made)))
    (λ p. record { name = p.0; begun = p.1.0; made = p.1.1 }) (λ _. refl)

-- the first seven buckets were announced from the beginning
abbrev pub BeginsWithFirst : Announcing → Type 0
BeginsWithFirst m = (bucket : ℕ) → bucket < 7 → is_set m.begun bucket ≡ true

-- this is the word of the buckets that an owner made, and it has no bit past the last bucket's
pub record AreMade (m : Announcing) (word : ℕ) : Type 0 where
  pub same : m.made ≡ word
  pub none_past : is_set word 63 ≡ false

-- it is told for good of a bucket that it is announced
abbrev pub told_of : GName → ℕ → Fml
told_of γ bucket = told_in (Some γ) bucket ((coded_option u64.coded).code (Some 0))

-- a bucket is announced for good, by whether it was when the sharing began
abbrev pub announced_by : GName → ℕ → Bool → Fml
announced_by γ bucket true = ftrue
announced_by γ bucket false = told_of γ bucket

-- a bucket is announced for good
abbrev pub announced : Announcing → ℕ → Fml
announced m bucket = announced_by m.name bucket (is_set m.begun bucket)

-- a bucket is announced for good, or an owner made it and this holds of it
abbrev pub announced_unless : Announcing → ℕ → Type 0 → Bool → Fml
announced_unless m bucket P true = announced m bucket
announced_unless m bucket P false = fact ((is_set m.made bucket ≡ true) × P)

abbrev pub announced_or : Announcing → ℕ → Type 0 → Fml
announced_or m bucket P = fex Bool (announced_unless m bucket P)

-- what lies with a bit of the word, by whether it was set when the sharing began, and whether it is set
abbrev pub lies_with_bit : GName → ℕ → Bool → Bool → Fml
lies_with_bit γ bucket true set = fact (set ≡ true)
lies_with_bit γ bucket false true = told_of γ bucket
lies_with_bit γ bucket false false = untold_in (Some γ) bucket

-- the same of the bits of the word n below a number
abbrev pub lies_with_bits : Announcing → ℕ → ℕ → Fml
lies_with_bits m n zero = ftrue
lies_with_bits m n (suc bucket) =
    fsep (lies_with_bit m.name bucket (is_set m.begun bucket) (is_set n bucket)) (lies_with_bits m n bucket)

-- the same of all 63 buckets; no further bit is set
abbrev pub lies_with_word : Announcing → ℕ → Fml
lies_with_word m n = fsep (fact (is_set n 63 ≡ false)) (lies_with_bits m n 63)
