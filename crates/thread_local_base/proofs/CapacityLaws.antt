-- Binary digits, the buckets that a capacity reserves, and how many slots these have.
use Rattle.std.proofs.Common.{◌≡◌, ℕ, zero, suc, ◌+◌, ◌-◌, ◌*◌, ◌^◌, ◌<◌, ◌≤◌, IsTrue, refl, arith, pow_mono, pow_pos}
use Rattle.std.proofs.Common.{add-one, ⊎_elim}
use Rattle.std.specs.Prelude.{nat_lt, ◌↔◌}
use Rattle.std.proofs.lemmas.Bool.{cases_lt, ltb-true, lt-ltb, le-ltb}
use Rattle.std.proofs.Math.Nat.{two-pow-succ}
use Rattle.thread_local_base.specs.Place.{id_at, bucket_of}
use Rattle.thread_local_base.specs.Capacity.{binary_digits, reserves_bucket, reserved_slots, is_reserved}
use Rattle.thread_local_base.specs.Buckets.{slots}
use Rattle.thread_local_base.proofs.PlaceLaws as place
use Rattle.thread_local_base.proofs.SlotsLaws.{slots_of_first, slots_below-further}

pub no_digits : binary_digits 0 ≡ 0
unfolding binary_digits
no_digits = refl

pub below_digits : (n : ℕ) → n < 2 ^ binary_digits n
unfolding binary_digits
below_digits zero = omega arith
below_digits (suc n) =
    let e = place.equation n in
    let i = place.inside n in
    let twice : 2 ^ (bucket_of n + 1) ≡ 2 ^ bucket_of n + 2 ^ bucket_of n = rw add-one (two-pow-succ (bucket_of n)) in
    omega arith

pub digits_below : (n : ℕ) → 0 < n → 2 ^ binary_digits n ≤ 2 * n
unfolding binary_digits
digits_below zero h = absurd (omega arith)
digits_below (suc n) h =
    let e = place.equation n in
    let twice : 2 ^ (bucket_of n + 1) ≡ 2 ^ bucket_of n + 2 ^ bucket_of n = rw add-one (two-pow-succ (bucket_of n)) in
    omega arith

pub few_digits : (n : ℕ) → n < 2 ^ 63 → binary_digits n ≤ 63
unfolding binary_digits
few_digits zero h = omega arith
few_digits (suc n) h = omega (arith, place.bucket_of-below n (omega arith))

pub capacity-reserved_slots : (capacity : ℕ) → capacity ≤ reserved_slots capacity
unfolding reserved_slots
capacity-reserved_slots capacity = omega (arith, below_digits capacity)

-- the ids below 2 ^ k - 1 are in the first k buckets
pub in_first : (k id : ℕ) → id < 2 ^ k - 1 → bucket_of id < k
in_first k id h =
    ⊎_elim (λ below. below)
    (λ above.
    let e = place.equation id in
    let up : 2 ^ k ≤ 2 ^ bucket_of id = pow_mono above in
    absurd (omega arith))
    (cases_lt (bucket_of id) k)

pub below_first : (k id : ℕ) → bucket_of id < k → id < 2 ^ k - 1
below_first k id h =
    let e = place.equation id in
    let i = place.inside id in
    let up : 2 ^ suc (bucket_of id) ≤ 2 ^ k = pow_mono h in
    let twice = two-pow-succ (bucket_of id) in
    omega arith

pub reserved_buckets : (capacity id : ℕ) → IsTrue (is_reserved capacity id) ↔ IsTrue (reserves_bucket capacity (bucket_of id))
unfolding reserved_slots
reserved_buckets capacity id = (
  (λ t.
      lt-ltb (bucket_of id) (binary_digits capacity)
      (in_first (binary_digits capacity) id (ltb-true id (2 ^ binary_digits capacity - 1) t))),
  (λ t.
      lt-ltb id (2 ^ binary_digits capacity - 1)
      (below_first (binary_digits capacity) id
      (ltb-true (bucket_of id) (binary_digits capacity) t))),
)

-- the first slot of each of the first n buckets is one of the first 2 ^ n - 1 slots
pub first_reserved : (b n : ℕ) → b < n → id_at b 0 < 2 ^ n - 1
first_reserved b n h =
    let up : 2 ^ suc b ≤ 2 ^ n = pow_mono h in
    let twice = two-pow-succ b in
    let some = pow_pos b in
    omega arith

pub slots-first : (k : ℕ) → k ≤ 63 → slots (λ b. nat_lt b k) ≡ 2 ^ k - 1
unfolding slots
slots-first k within =
    let first = slots_of_first (λ b. nat_lt b k) k (λ b low. lt-ltb b k low) in
    let rest = slots_below-further (λ b. nat_lt b k) k 63 within (λ b low high. le-ltb b k low) in
    omega arith

pub slots-reserved : (capacity : ℕ) → capacity < 2 ^ 63 → slots (reserves_bucket capacity) ≡ reserved_slots capacity
unfolding reserved_slots
slots-reserved capacity h = slots-first (binary_digits capacity) (few_digits capacity h)
