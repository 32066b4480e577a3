-- Cleared contents: the reserved buckets stand, with all their slots empty, and no other bucket
-- does.
use Rattle.std.proofs.Common.{◌≡◌, ℕ, ◌-◌, ◌^◌, ◌<◌, ◌≤◌, Bool, true, false, cond, length, List, [], Option, None}
use Rattle.std.proofs.Common.{get_or, refl, ap, sym, ◌∙◌, arith, ⊎_elim, pow_mono}
use Rattle.std.specs.Prelude.{nat_lt}
use Rattle.std.proofs.lemmas.Bool.{cases_lt, cond-false, lt-ltb, le-ltb}
use Rattle.std.proofs.lemmas.List.{get_or_past}
use Rattle.thread_local_base.specs.Place.{id_at, bucket_of, index_of}
use Rattle.thread_local_base.specs.Buckets.{Contents, row, stands, values, slots, IsTable}
use Rattle.thread_local_base.specs.Rows.{empty_row}
use Rattle.thread_local_base.specs.Owned.{AreOfFirstBuckets, IsOwned}
use Rattle.thread_local_base.proofs.CapacityLaws.{first_reserved, slots-first}
use Rattle.thread_local_base.specs.Owner.{cleared_row}
use Rattle.thread_local_base.proofs.RowLaws.{length-empty_row, slot-empty_row}
use Rattle.thread_local_base.proofs.StandingLaws.{slots-same, standing-whole}

-- where the reserved slots are those of the first n buckets, these are the buckets with a reserved
-- slot
reserved_first : (b n reserved : ℕ) → reserved ≡ 2 ^ n - 1 → nat_lt (id_at b 0) reserved ≡ nat_lt b n
reserved_first b n reserved all =
    ⊎_elim
    (λ low. ap (nat_lt (id_at b 0)) all ∙ lt-ltb (id_at b 0) (2 ^ n - 1) (first_reserved b n low) ∙ sym (lt-ltb b n low))
    (λ (high : n ≤ b).
    let up : 2 ^ n ≤ 2 ^ b = pow_mono high in
    ap (nat_lt (id_at b 0)) all ∙ le-ltb (id_at b 0) (2 ^ n - 1) (omega arith) ∙ sym (le-ltb b n high))
    (cases_lt b n)

stands-row : (V : Type 0) (b : ℕ) (reserved : Bool) → nat_lt 0 (length (cond reserved (empty_row {V = V} b) [])) ≡ reserved
stands-row V b true = standing-whole (empty_row {V = V} b) b (length-empty_row V b)
stands-row V b false = refl

none-row : (V : Type 0) (b i : ℕ) (reserved : Bool) → get_or (cond reserved (empty_row {V = V} b) []) i None ≡ None
none-row V b i true = slot-empty_row V b i
none-row V b i false = refl

module _ {V : Type 0} where
  module _ (c : Contents V) (reserved : ℕ) (table : IsTable c) (first : AreOfFirstBuckets reserved)
      (cleared : (b : ℕ) → b < 63 → row c b ≡ cleared_row reserved b) where
    -- past the last bucket there is nothing
    pub row-cleared : (b : ℕ) → row c b ≡ cleared_row reserved b
    row-cleared b =
        ⊎_elim
        (cleared b)
        (λ (high : 63 ≤ b).
        let up : 2 ^ first.buckets ≤ 2 ^ b = pow_mono (let within = first.in_table in omega arith) in
        let past : length c.rows ≤ b = (let rows = table.buckets in omega arith) in
        let all = first.all in
        get_or_past c.rows b [] past
        ∙ sym (cond-false (nat_lt (id_at b 0) reserved) (empty_row b) []
        (le-ltb (id_at b 0) reserved (omega arith))))
        (cases_lt b 63)

    -- exactly the reserved buckets stand
    pub stands-cleared : (b : ℕ) → stands c b ≡ nat_lt (id_at b 0) reserved
    stands-cleared b = ap (λ (r : List (Option V)). nat_lt 0 (length r)) (row-cleared b) ∙ stands-row V b (nat_lt (id_at b 0) reserved)

    pub values-cleared : (id : ℕ) → values c id ≡ None
    values-cleared id =
        ap (λ (r : List (Option V)). get_or r (index_of id) None) (row-cleared (bucket_of id))
        ∙ none-row V (bucket_of id) (index_of id) (nat_lt (id_at (bucket_of id) 0) reserved)

    pub slots-cleared : slots (stands c) ≡ reserved
    slots-cleared =
        slots-same (stands c) (λ b. nat_lt b first.buckets) (λ b. stands-cleared b ∙ reserved_first b first.buckets reserved first.all)
        ∙ slots-first first.buckets first.in_table ∙ sym first.all

    pub IsOwned-cleared : IsOwned (record { contents = c; reserved = reserved })
    IsOwned-cleared = record {
      table = table;
      first = first;
      standing = λ b low below. stands-cleared b ∙ lt-ltb (id_at b 0) reserved below;
    }
