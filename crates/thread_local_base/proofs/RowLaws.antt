-- What an owner's changes do to the rows.
use Rattle.std.proofs.Common.{◌≡◌, ◌≢◌, ℕ, ◌^◌, ◌<◌, ◌≤◌, ◌⊎◌, inl, length, List, [], Option, None, set, get_or, ap}
use Rattle.std.proofs.Common.{sym, ◌∙◌, subst, arith, ⊎_elim}
use Rattle.std.proofs.lemmas.List.{get_or-set_same, get_or-set_other, length-set, get_or-replicate, length-replicate, get_or_past}
use Rattle.std.proofs.lemmas.Bool.{cases_eq, cases_lt}
use Rattle.thread_local_base.specs.Buckets.{Contents, row, no_contents, IsTable}
use Rattle.thread_local_base.specs.Rows.{with_row, with_slot, empty_row}

module _ {V : Type 0} where
  pub row-with_row-same : (c : Contents V) (b : ℕ) (r : List (Option V)) → b < length c.rows → row (with_row c b r) b ≡ r
  row-with_row-same c b r h = get_or-set_same c.rows b r [] h

  pub row-with_row-other : (c : Contents V) (b j : ℕ) (r : List (Option V)) → j ≢ b → row (with_row c b r) j ≡ row c j
  row-with_row-other c b j r h = get_or-set_other c.rows b j r [] h

  pub rows-with_row : (c : Contents V) (b : ℕ) (r : List (Option V)) → length (with_row c b r).rows ≡ length c.rows
  rows-with_row c b r = length-set c.rows b r

  -- a bucket with a slot has all its slots
  pub row_whole : (c : Contents V) (b i : ℕ) → IsTable c → i < length (row c b) → length (row c b) ≡ 2 ^ b
  row_whole c b i t near = ⊎_elim (λ (none : length (row c b) ≡ 0). absurd (omega arith)) (λ all. all) (t.whole b)

  -- a table is still one once a row is replaced by one that is empty or whole
  pub IsTable-with_row : (c : Contents V) (b : ℕ) (r : List (Option V)) → IsTable c
      → (length r ≡ 0) ⊎ (length r ≡ 2 ^ b)
      → IsTable (with_row c b r)
  IsTable-with_row c b r t h = record {
    buckets = length-set c.rows b r ∙ t.buckets;
    whole = λ j.
        ⊎_elim
        (λ (here : j ≡ b).
        ⊎_elim
        (λ low. let P : ℕ → Type 0 = λ k. (length (row (with_row c b r) k) ≡ 0) ⊎ (length (row (with_row c b r) k) ≡ 2 ^ k) in
        subst P (sym here)
        (let same = row-with_row-same c b r low in
        subst (λ (s : List (Option V)). (length s ≡ 0) ⊎ (length s ≡ 2 ^ b)) (sym same) h))
        (λ (high : length c.rows ≤ b).
        let past : length (with_row c b r).rows ≤ j = rw rows-with_row (omega (arith, here, high)) in
        inl (ap length (get_or_past (with_row c b r).rows j [] past)))
        (cases_lt b (length c.rows)))
        (λ apart.
        let same = row-with_row-other c b j r apart in
        subst (λ (s : List (Option V)). (length s ≡ 0) ⊎ (length s ≡ 2 ^ j)) (sym same)
        (t.whole j))
        (cases_eq j b);
  }

  pub IsTable-with_slot : (c : Contents V) (b i : ℕ) (o : Option V) → IsTable c → IsTable (with_slot c b i o)
  IsTable-with_slot c b i o t =
      IsTable-with_row c b (set (row c b) i o) t
      (subst (λ n. (n ≡ 0) ⊎ (n ≡ 2 ^ b)) (sym (length-set (row c b) i o)) (t.whole b))

  pub length-row-with_slot : (c : Contents V) (b i j : ℕ) (o : Option V) → length (row (with_slot c b i o) j) ≡ length (row c j)
  length-row-with_slot c b i j o =
      ⊎_elim
      (λ (here : j ≡ b). ⊎_elim
      (λ low.
      let P : ℕ → Type 0 = λ k. length (row (with_slot c b i o) k) ≡ length (row c k) in
      subst P (sym here)
      (ap length (row-with_row-same c b (set (row c b) i o) low) ∙ length-set (row c b) i o))
      (λ (high : length c.rows ≤ b).
      let past : length (with_slot c b i o).rows ≤ j = rw (rows-with_row c b (set (row c b) i o)) (omega (arith, here, high)) in
      ap length (get_or_past (with_slot c b i o).rows j [] past) ∙ sym (ap length (get_or_past c.rows j [] (omega (arith, here, high)))))
      (cases_lt b (length c.rows)))
      (λ apart. ap length (row-with_row-other c b j (set (row c b) i o) apart))
      (cases_eq j b)

-- no bucket stands in a new table, and no value in a new bucket
pub row-no_contents : (V : Type 0) (b : ℕ) → row (no_contents {V = V}) b ≡ []
row-no_contents V b =
    ⊎_elim (λ low. get_or-replicate 63 b [] [] low)
    (λ (high : 63 ≤ b). let past : length (no_contents {V = V}).rows ≤ b = high in get_or_past (no_contents {V = V}).rows b [] past)
    (cases_lt b 63)

pub length-empty_row : (V : Type 0) (b : ℕ) → length (empty_row {V = V} b) ≡ 2 ^ b
length-empty_row V b = length-replicate (2 ^ b) None

pub slot-empty_row : (V : Type 0) (b i : ℕ) → get_or (empty_row {V = V} b) i None ≡ None
slot-empty_row V b i =
    ⊎_elim (λ low. get_or-replicate (2 ^ b) i None None low)
    (λ (high : 2 ^ b ≤ i).
    let past : length (empty_row {V = V} b) ≤ i = rw length-empty_row high in
    get_or_past (empty_row {V = V} b) i None past)
    (cases_lt i (2 ^ b))
