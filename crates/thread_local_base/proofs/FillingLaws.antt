-- Contents without values, whose first buckets stand.
use Rattle.std.proofs.Common.{◌≡◌, ℕ, zero, suc, ◌-◌, ◌^◌, ◌<◌, ◌≤◌, inl}
use Rattle.std.proofs.Common.{length, List, [], ◌∷◌, replicate, get_or, Option, None, refl, ap, ◌∙◌, arith}
use Rattle.std.proofs.Common.{⊎_elim, pow_mono}
use Rattle.std.specs.Prelude.{nat_lt}
use Rattle.std.proofs.lemmas.Bool.{cases_lt, lt-ltb}
use Rattle.thread_local_base.specs.Place.{id_at}
use Rattle.thread_local_base.specs.Buckets.{Contents, row, stands, values, no_contents, slots, IsTable}
use Rattle.thread_local_base.specs.Owned.{IsOwned}
use Rattle.thread_local_base.specs.Capacity.{binary_digits, reserves_bucket, reserved_slots}
use Rattle.thread_local_base.proofs.CapacityLaws.{slots-reserved}
use Rattle.thread_local_base.proofs.RowLaws.{row-no_contents}
use Rattle.thread_local_base.proofs.StandingLaws.{slots-same}

-- the first n buckets stand, without values
pub record IsFilled {V : Type 0} (contents : Contents V) (n : ℕ) : Type 0 where
  pub table : IsTable contents
  pub standing : (bucket : ℕ) → stands contents bucket ≡ nat_lt bucket n
  pub empty : (id : ℕ) → values contents id ≡ None

pub IsTable-no_contents : (V : Type 0) → IsTable (no_contents {V = V})
IsTable-no_contents V = record { buckets = refl; whole = λ b. inl (ap length (row-no_contents V b)) }

-- a bucket that has one of the first 2 ^ n - 1 slots is one of the first n
pub below_reserved : (b n : ℕ) → id_at b 0 < 2 ^ n - 1 → b < n
below_reserved b n h =
    ⊎_elim (λ (low : b < n). low) (λ (high : n ≤ b). let up : 2 ^ n ≤ 2 ^ b = pow_mono high in absurd (omega arith)) (cases_lt b n)

pub IsOwned-filled : {V : Type 0} (c : Contents V) (n : ℕ) → n ≤ 63 → IsFilled c n
    → IsOwned (record { contents = c; reserved = 2 ^ n - 1 })
IsOwned-filled c n within h = record {
  table = h.table;
  first = record { buckets = n; in_table = within; all = refl };
  standing = λ b low first. h.standing b ∙ lt-ltb b n (below_reserved b n first);
}

pub slots-filled : {V : Type 0} (c : Contents V) (capacity : ℕ) → capacity < 2 ^ 63
    → IsFilled c (binary_digits capacity)
    → slots (stands c) ≡ reserved_slots capacity
slots-filled c capacity h filled = slots-same (stands c) (reserves_bucket capacity) filled.standing ∙ slots-reserved capacity h

pub reserved-digits : (capacity : ℕ) → 2 ^ binary_digits capacity - 1 ≡ reserved_slots capacity
unfolding reserved_slots
reserved-digits capacity = refl

-- rows that are all empty
rows-empty : {X : Type 0} (rows : List (List X)) (n : ℕ) → length rows ≡ n
    → ((k : ℕ) → k < n → get_or rows k [] ≡ [])
    → rows ≡ replicate n []
rows-empty [] zero e h = refl
rows-empty [] (suc n) e h = absurd (omega arith)
rows-empty (r ∷ rows) zero e h = absurd (omega arith)
rows-empty (r ∷ rows) (suc n) e h =
    let first : r ≡ [] = h 0 (omega arith) in
    let rest : rows ≡ replicate n [] = rows-empty rows n (omega arith) (λ k l. h (suc k) (omega arith)) in
    ap (λ s. s ∷ rows) first ∙ ap (λ s. [] ∷ s) rest

pub contents-empty : {V : Type 0} (c : Contents V) (n : ℕ) → length c.rows ≡ 63 → 63 ≤ n
    → ((b : ℕ) → b < n → row c b ≡ [])
    → c ≡ no_contents
contents-empty c n e high h =
    let same : c.rows ≡ replicate 63 [] = rows-empty c.rows 63 e (λ k l. h k (omega arith)) in
    ap (λ (rows : List (List (Option _))). let d : Contents _ = record { rows = rows } in d) same
