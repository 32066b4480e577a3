-- The place of an id is the only solution of an equation, so ids and places correspond one to one.
use Rattle.std.proofs.Common.{◌≡◌, ℕ, zero, suc, ◌+◌, ◌-◌, ◌*◌, ◌^◌, ◌<◌, ◌≤◌, refl, ap, sym, arith, pow_pos, pow_mono, bit_xor}
use Rattle.std.proofs.Common.{eqb-true, eqb, add-one, ⊎_elim}
use Rattle.std.proofs.lemmas.Bool.{cond_both, eqb-false, cases_lt, cases_order}
use Rattle.std.proofs.Math.Nat.{two-pow-succ}
use Rattle.thread_local_base.proofs.Word.{without_highest}
use Rattle.thread_local_base.specs.Place.{Place, next_place, place, bucket_of, index_of, id_at}

-- the place solves the equation: the id plus one is the bucket's size plus the index
pub record IsPlaceOf (id : ℕ) (p : Place) : Type 0 where
  pub equation : id + 1 ≡ 2 ^ p.bucket + p.index
  pub inside : p.index < 2 ^ p.bucket

IsPlaceOf-next : (id : ℕ) (p : Place) → IsPlaceOf id p → IsPlaceOf (suc id) (next_place p)
unfolding next_place
IsPlaceOf-next id p h =
    let e = h.equation in
    let i = h.inside in
    cond_both (eqb (p.index + 1) (2 ^ p.bucket)) _ _ (IsPlaceOf (suc id))
    (λ t.
    let full = eqb-true (p.index + 1) (2 ^ p.bucket) t in
    let twice : 2 ^ (p.bucket + 1) ≡ 2 ^ p.bucket + 2 ^ p.bucket = rw add-one (two-pow-succ p.bucket) in
    let some = pow_pos p.bucket in
    record { equation = omega arith; inside = omega arith })
    (λ t.
    let room = eqb-false (p.index + 1) (2 ^ p.bucket) t in
    record { equation = omega arith; inside = omega arith })

pub IsPlaceOf-place : (id : ℕ) → IsPlaceOf id (place id)
unfolding place
IsPlaceOf-place zero = record { equation = refl; inside = omega arith }
IsPlaceOf-place (suc id) = IsPlaceOf-next id (place id) (IsPlaceOf-place id)

-- a bucket below another ends before the other begins
ends_before : (a b : ℕ) → a < b → 2 ^ a + 2 ^ a ≤ 2 ^ b
ends_before a b h =
    let up : 2 ^ suc a ≤ 2 ^ b = pow_mono h in
    let twice = two-pow-succ a in
    omega arith

-- the equation has one solution
pub one_bucket : (a b i j : ℕ) → 2 ^ a + i ≡ 2 ^ b + j → i < 2 ^ a → j < 2 ^ b → a ≡ b
one_bucket a b i j e hi hj =
    ⊎_elim (λ same. same)
    (⊎_elim
    (λ below. let up = ends_before a b below in absurd (omega arith))
    (λ above. let up = ends_before b a above in absurd (omega arith)))
    (cases_order a b)

pub only_place : (id bucket index : ℕ) → id + 1 ≡ 2 ^ bucket + index → index < 2 ^ bucket
    → (bucket ≡ bucket_of id) × (index ≡ index_of id)
unfolding bucket_of index_of
only_place id bucket index e h =
    let p = IsPlaceOf-place id in
    let q = p.equation in
    let here = p.inside in
    let same : bucket ≡ (place id).bucket = one_bucket bucket (place id).bucket index (place id).index (omega arith) h here in
    let power : 2 ^ bucket ≡ 2 ^ (place id).bucket = ap (λ n. 2 ^ n) same in
    (same, omega arith)

-- the highest bit of `id + 1` is the bucket's size, and the other bits are the index
pub bits_are_place : (id bucket size : ℕ) → 2 ^ bucket ≤ id + 1 → id + 1 < 2 * 2 ^ bucket → size ≡ 2 ^ bucket
    → (bit_xor (id + 1) size < 2 ^ bucket) × (bucket ≡ bucket_of id) × (bit_xor (id + 1) size ≡ index_of id)
bits_are_place id bucket size low high same =
    let rest = without_highest (id + 1) bucket size low high same in
    let inside : bit_xor (id + 1) size < 2 ^ bucket = omega arith in
    let placed = only_place id bucket (bit_xor (id + 1) size) (omega arith) inside in
    (inside, placed.0, placed.1)

pub equation : (id : ℕ) → id + 1 ≡ 2 ^ bucket_of id + index_of id
unfolding bucket_of index_of
equation id = (IsPlaceOf-place id).equation

pub inside : (id : ℕ) → index_of id < 2 ^ bucket_of id
unfolding bucket_of index_of
inside id = (IsPlaceOf-place id).inside

pub id_at-place : (id : ℕ) → id_at (bucket_of id) (index_of id) ≡ id
id_at-place id =
    let e = equation id in
    let some = pow_pos (bucket_of id) in
    omega arith

pub place-id_at : (bucket index : ℕ) → index < 2 ^ bucket
    → (bucket_of (id_at bucket index) ≡ bucket) × (index_of (id_at bucket index) ≡ index)
place-id_at bucket index h =
    let some = pow_pos bucket in
    let only = only_place (id_at bucket index) bucket index (omega arith) h in
    (sym only.0, sym only.1)

pub bucket_of-below : (id : ℕ) → id < 2 ^ 63 - 1 → bucket_of id < 63
bucket_of-below id h =
    ⊎_elim (λ below. below)
    (λ above.
    let e = equation id in
    let up : 2 ^ 63 ≤ 2 ^ bucket_of id = pow_mono above in
    absurd (omega arith))
    (cases_lt (bucket_of id) 63)

pub id_at-below : (bucket index : ℕ) → bucket < 63 → index < 2 ^ bucket → id_at bucket index < 2 ^ 63 - 1
id_at-below bucket index low h =
    let up : 2 ^ suc bucket ≤ 2 ^ 63 = pow_mono low in
    let twice = two-pow-succ bucket in
    let some = pow_pos bucket in
    omega arith
