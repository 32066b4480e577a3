-- A table that is made has no bucket but reserved ones.
use Rattle.std.proofs.Common.{◌≡◌, ◌∙◌, ℕ, ◌<◌, ◌≤◌, ◌+◌, ◌-◌, ◌^◌, true, false, length, sym, ap, arith, add-one, pow_pos, pow_mono}
use Rattle.std.specs.Prelude.{nat_lt}
use Rattle.std.proofs.Math.Nat.{two-pow-succ}
use Rattle.std.proofs.lemmas.Bool.{lt-ltb, ltb-true}
use Rattle.thread_local_base.specs.Buckets.{stands, no_contents}
use Rattle.thread_local_base.specs.Capacity.{binary_digits, reserved_slots, reserves_bucket}
use Rattle.thread_local_base.specs.Owned.{Owned}
use Rattle.thread_local_base.specs.Place.{id_at}
use Rattle.thread_local_base.proofs.RowLaws.{row-no_contents}
use Rattle.thread_local_shared_buckets.specs.Grown.{only_reserved}
use Rattle.thread_local_shared_buckets.proofs.GrownLaws.{only_reserved_if}

-- no bucket stands
pub grown_new : {V : Type 0} (owned : Owned V) → owned.contents ≡ no_contents → only_reserved owned ≡ true
grown_new {V} owned none =
    only_reserved_if owned (λ b there.
    let never : stands owned.contents b ≡ false = ap (λ c. stands c b) none ∙ ap (λ row. nat_lt 0 (length row)) (row-no_contents V b) in
    let clash : false ≡ true = sym never ∙ there in cc)

first_in : (b digits : ℕ) → b < digits → id_at b 0 < 2 ^ digits - 1
first_in b digits low =
    let more : b + 1 ≤ digits = omega (arith, low) in
    let fits : 2 ^ (b + 1) ≤ 2 ^ digits = pow_mono more in
    let twice : 2 ^ (b + 1) ≡ 2 ^ b + 2 ^ b = rw add-one (two-pow-succ b) in
    let some = pow_pos b in omega arith

-- the buckets that a capacity reserves stand
pub grown_with_capacity : {V : Type 0} (owned : Owned V) (capacity : ℕ) → owned.reserved ≡ reserved_slots capacity
    → ((b : ℕ) → stands owned.contents b ≡ reserves_bucket capacity b) → only_reserved owned ≡ true
unfolding reserved_slots
grown_with_capacity owned capacity same stand =
    only_reserved_if owned (λ b there.
    let low : b < binary_digits capacity = ltb-true b (binary_digits capacity) (sym (stand b) ∙ there) in
    ap (λ n. nat_lt (id_at b 0) n) same
    ∙ lt-ltb (id_at b 0) (2 ^ binary_digits capacity - 1) (first_in b (binary_digits capacity) low))
