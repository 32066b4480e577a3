-- Contents that are being cleared, bucket by bucket, from the last one down that may stand.
use Rattle.std.proofs.Common.{◌≡◌, ◌≢◌, ℕ, suc, ◌+◌, ◌*◌, ◌^◌, ◌<◌, ◌≤◌, ◌⊎◌, Bool, true, false, cond, inl, inr, List, Option, None, [], length, refl, sym, ap, ◌∙◌, subst, arith}
use Rattle.std.proofs.Common.{⊎_elim}
use Rattle.std.specs.Prelude.{nat_lt, slice_index_or}
use Rattle.std.proofs.Math.Nat.{two-pow-succ}
use Rattle.std.proofs.lemmas.Bool.{cases_eq, cases_lt, cond-false, le-ltb, false≢true}
use Rattle.std.proofs.lemmas.Nat.Bits.{bit_at_above}
use Rattle.thread_local_base.specs.Bits.{is_set}
use Rattle.thread_local_base.specs.Place.{id_at}
use Rattle.thread_local_base.specs.Buckets.{Contents, row, stands, IsTable}
use Rattle.thread_local_base.specs.Rows.{with_row, empty_row}
use Rattle.thread_local_base.specs.Owner.{cleared_row}
use Rattle.thread_local_base.proofs.RowLaws.{row-with_row-same, row-with_row-other, IsTable-with_row, length-empty_row, slot-empty_row}
use Rattle.thread_local_buckets.specs.Announced.{Covers}
use Rattle.thread_local_buckets.proofs.Announcing.{IsAnnounced, IsAnnounced-with_row, unset}
use Rattle.thread_local_buckets.proofs.Passing.{is_set-highest}

-- a cleared row is empty or whole
whole : (V : Type 0) (b : ℕ) (stays : Bool)
    → (length (cond stays (empty_row {V = V} b) []) ≡ 0) ⊎ (length (cond stays (empty_row {V = V} b) []) ≡ 2 ^ b)
whole V b true = inr (length-empty_row V b)
whole V b false = inl refl

-- the buckets from `first` on are cleared, and those before are unchanged
pub record AreCleared {V : Type 0} (old new : Contents V) (reserved first : ℕ) : Type 0 where
  pub table : IsTable new
  pub cleared : (k : ℕ) → first ≤ k → k < 63 → row new k ≡ cleared_row reserved k
  pub before : (k : ℕ) → k < first → row new k ≡ row old k

-- the last bucket that may stand is one of the table's
pub last_in_table : {V : Type 0} (c : Contents V) (word last : ℕ) → Covers word c → 2 ^ last ≤ word → word < 2 * 2 ^ last → last < 64
    → last < 63
last_in_table c word last told low high within =
    ⊎_elim
    (λ (is : last ≡ 63). absurd (false≢true (sym told.none_past ∙ ap (is_set word) (sym is) ∙ is_set-highest word last low high)))
    (λ (apart : last ≢ 63). omega (arith, within, apart))
    (cases_eq last 63)

-- behind it all are cleared already, where no bucket of the reserved slots is missing
pub AreCleared-none : {V : Type 0} (c : Contents V) (word reserved last : ℕ) → IsTable c → Covers word c → word < 2 * 2 ^ last
    → ((b : ℕ) → b < 63 → id_at b 0 < reserved → stands c b ≡ true)
    → AreCleared c c reserved (last + 1)
AreCleared-none {V} c word reserved last table told high standing = record {
  table = table;
  cleared = λ b behind low.
      let out : is_set word b ≡ false = unset word b
      (bit_at_above word (suc last) b (let double = two-pow-succ last in omega arith) (omega (arith, behind))) in
      let none : row c b ≡ [] = told.others b low out in
      ⊎_elim
      (λ (in_reserve : id_at b 0 < reserved).
      absurd (false≢true (sym (ap (λ (r : List (Option V)). nat_lt 0 (length r)) none) ∙ standing b low in_reserve)))
      (λ (free : reserved ≤ id_at b 0).
      none
      ∙ sym (cond-false (nat_lt (id_at b 0) reserved) (empty_row b) [] (le-ltb (id_at b 0) reserved free)))
      (cases_lt (id_at b 0) reserved);
  before = λ k low. refl;
}

-- a further bucket is cleared
pub AreCleared-more : {V : Type 0} (old now new : Contents V) (reserved b : ℕ)
    → AreCleared old now reserved (b + 1) → b < 63 → new ≡ with_row now b (cleared_row reserved b)
    → AreCleared old new reserved b
AreCleared-more {V = V} old now new reserved b h low made =
    let within : b < length now.rows = omega (arith, h.table.buckets) in
    subst (λ (c : Contents V). AreCleared old c reserved b) (sym made) (record {
      table = IsTable-with_row now b (cleared_row reserved b) h.table (whole V b (nat_lt (id_at b 0) reserved));
      cleared = λ k after near.
          ⊎_elim
          (λ (here : b ≡ k).
          subst (λ (j : ℕ). row (with_row now b (cleared_row reserved b)) j ≡ cleared_row reserved j) here
          (row-with_row-same now b (cleared_row reserved b) within))
          (λ (apart : b ≢ k).
          row-with_row-other now b k (cleared_row reserved b) (λ e. apart (sym e)) ∙ h.cleared k (omega (arith, after, apart)) near)
          (cases_eq b k);
      before = λ k below.
          let apart : k ≢ b = omega arith in
          row-with_row-other now b k (cleared_row reserved b) apart ∙ h.before k (omega arith);
    })

-- a cleared bucket has no value
cleared_none : {V : Type 0} (b k : ℕ) (stays : Bool) → slice_index_or (cond stays (empty_row {V = V} b) []) k None ≡ None
cleared_none {V = V} b k true = slot-empty_row V b k
cleared_none b k false = refl

-- the pointers while they are cleared: the words stay right
pub record AreClearing {V : Type 0} (old now : Contents V) (announced made reserved first : ℕ) : Type 0 where
  pub cleared : AreCleared old now reserved first
  pub words : IsAnnounced announced made now

pub AreClearing-more : {V : Type 0} (old now new : Contents V) (announced made reserved b : ℕ)
    → AreClearing old now announced made reserved (b + 1) → b < 63
    → (id_at b 0 < reserved → stands now b ≡ true)
    → new ≡ with_row now b (cleared_row reserved b)
    → AreClearing old new announced made reserved b
AreClearing-more {V = V} old now new announced made reserved b h low standing is = record {
  cleared = AreCleared-more old now new reserved b h.cleared low is;
  words = subst (IsAnnounced announced made) (sym is)
      (IsAnnounced-with_row announced made now b (cleared_row reserved b) (whole V b (nat_lt (id_at b 0) reserved))
      (λ k. cleared_none b k (nat_lt (id_at b 0) reserved))
      (λ out. ⊎_elim
      (λ (in_reserve : id_at b 0 < reserved).
      absurd (false≢true (sym (ap (λ (r : List (Option V)). nat_lt 0 (length r)) (h.words.2.others b low out)) ∙ standing in_reserve)))
      (λ (free : reserved ≤ id_at b 0). cond-false (nat_lt (id_at b 0) reserved) (empty_row b) [] (le-ltb (id_at b 0) reserved free))
      (cases_lt (id_at b 0) reserved))
      h.words);
}
