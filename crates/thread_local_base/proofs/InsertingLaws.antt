-- The contents after a value is inserted: its bucket stands, and its slot has a value.
use Rattle.std.proofs.Common.{◌≡◌, ◌≢◌, ℕ, ◌^◌, ◌<◌, inr, Bool, true, false, cond, eqb, length, List, [], Option, Some}
use Rattle.std.proofs.Common.{None, get_or, set, refl, ap, sym, ◌∙◌, subst, arith, ⊎_elim}
use Rattle.std.specs.Prelude.{nat_lt, unwrap_or, IsTrue}
use Rattle.std.proofs.lemmas.Bool.{cases_eq, cond-true, cond-false, eq-eqb, ne_eqb}
use Rattle.std.proofs.lemmas.List.{set-set}
use mathlib.Core.Path.{fun_ext}
use Rattle.thread_local_base.specs.Place.{id_at}
use Rattle.thread_local_base.specs.Buckets.{Contents, row, stands, values, IsTable}
use Rattle.thread_local_base.specs.Owned.{IsOwned}
use Rattle.thread_local_base.specs.Rows.{value_in, with_row, with_slot, empty_row}
use Rattle.thread_local_base.specs.Walk.{with_value}
use Rattle.thread_local_base.specs.Sheet.{Sheet, moved}
use Rattle.thread_local_base.specs.Owner.{with_bucket, with_published, sheet_of, publish_or_keep}
use Rattle.thread_local_base.proofs.RowLaws.{row-with_row-same, rows-with_row, slot-empty_row, length-empty_row}
use Rattle.thread_local_base.proofs.RowLaws.{length-row-with_slot, IsTable-with_row, IsTable-with_slot}
use Rattle.thread_local_base.proofs.ValueLaws.{values-id_at, values-with_slot-same, values-with_slot-other, values-with_empty_row}
use Rattle.thread_local_base.proofs.StandingLaws.{stands-made, row-absent, whole-with_bucket}

module _ {V : Type 0} where
  -- of two changes of one slot the second counts
  with_slot-twice : (c : Contents V) (b i : ℕ) (o p : Option V) → b < length c.rows
      → with_slot (with_slot c b i o) b i p ≡ with_slot c b i p
  with_slot-twice c b i o p h =
      let first = set (row c b) i o in
      let here : row (with_slot c b i o) b ≡ first = row-with_row-same c b first h in
      let D : List (List (Option V)) → Contents V = λ rows. record { rows = rows } in
      ap (λ (r : List (Option V)). D (set (set c.rows b first) b (set r i p))) here
      ∙ ap (λ (r : List (Option V)). D (set (set c.rows b first) b r)) (set-set (row c b) i o p)
      ∙ ap D (set-set c.rows b first (set (row c b) i p))

  -- a bucket stands or is made: what holds in both cases holds of the contents then
  by_standing : (c : Contents V) (b : ℕ) (P : Contents V → Type 0) → (stands c b ≡ true → P c)
      → (stands c b ≡ false → P (with_row c b (empty_row b)))
      → P (with_bucket c b)
  by_standing c b P standing missing = go (stands c b) standing missing
    where
      go : (s : Bool) → (s ≡ true → P c) → (s ≡ false → P (with_row c b (empty_row b)))
          → P (cond s c (with_row c b (empty_row b)))
      go true standing missing = standing refl
      go false standing missing = missing refl

  module _ (c : Contents V) (b : ℕ) (low : b < length c.rows) (absent : stands c b ≡ false → row c b ≡ []) where
    pub rows-with_bucket : length (with_bucket c b).rows ≡ length c.rows
    rows-with_bucket = by_standing c b (λ d. length d.rows ≡ length c.rows) (λ _. refl) (λ _. rows-with_row c b (empty_row b))

    pub slot-with_bucket : (i : ℕ) → value_in (with_bucket c b) b i ≡ value_in c b i
    slot-with_bucket i =
        by_standing c b (λ d. value_in d b i ≡ value_in c b i) (λ _. refl)
        (λ none.
        ap (λ (r : List (Option V)). get_or r i None) (row-with_row-same c b (empty_row b) low) ∙ slot-empty_row V b i
        ∙ sym (ap (λ (r : List (Option V)). get_or r i None) (absent none)))

    pub values-with_bucket : (id : ℕ) → values (with_bucket c b) id ≡ values c id
    values-with_bucket id =
        by_standing c b (λ d. values d id ≡ values c id) (λ _. refl)
        (λ none. values-with_empty_row c b id low (absent none))

    pub stands-with_bucket : (j : ℕ) → stands (with_bucket c b) j ≡ cond (eqb b j) true (stands c j)
    stands-with_bucket j =
        by_standing c b (λ d. stands d j ≡ cond (eqb b j) true (stands c j))
        (λ standing. ⊎_elim
        (λ (here : b ≡ j).
        let P : ℕ → Type 0 = λ k. stands c k ≡ true in
        subst P here standing ∙ sym (cond-true (eqb b j) true (stands c j) (eq-eqb b j here)))
        (λ (apart : b ≢ j). sym (cond-false (eqb b j) true (stands c j) (ne_eqb b j apart)))
        (cases_eq b j))
        (λ _. stands-made c b j low)

    -- the map has the value at the place's id, and is unchanged elsewhere
    pub values-with_published : (i : ℕ) (w : V) → i < 2 ^ b → i < length (row (with_bucket c b) b)
        → (j : ℕ)
        → values (with_published c b i w) j ≡ with_value (values c) (id_at b i) w j
    values-with_published i w inside in_row j =
        let within : b < length (with_bucket c b).rows = omega (arith, rows-with_bucket) in
        ⊎_elim
        (λ (here : id_at b i ≡ j).
        let P : ℕ → Type 0 = λ k. values (with_published c b i w) k ≡ Some w in
        subst P here (values-with_slot-same (with_bucket c b) b i (Some w) within inside in_row)
        ∙ sym (cond-true (eqb (id_at b i) j) (Some w) (values c j) (eq-eqb (id_at b i) j here)))
        (λ (apart : id_at b i ≢ j).
        values-with_slot-other (with_bucket c b) b i j (Some w) within (λ e. apart (sym e)) ∙ values-with_bucket j
        ∙ sym (cond-false (eqb (id_at b i) j) (Some w) (values c j) (ne_eqb (id_at b i) j apart)))
        (cases_eq (id_at b i) j)

    pub stands-with_published : (i : ℕ) (w : V) (j : ℕ) → stands (with_published c b i w) j ≡ cond (eqb b j) true (stands c j)
    stands-with_published i w j = ap (nat_lt 0) (length-row-with_slot (with_bucket c b) b i j (Some w)) ∙ stands-with_bucket j

    -- on the sheet it is the move that publishes the value, or keeps the one there
    pub moves : (i : ℕ) (value : V) → i < 2 ^ b → i < length (row (with_bucket c b) b)
        → sheet_of (with_published c b i (unwrap_or (value_in c b i) value))
        ≡ moved (sheet_of c) (publish_or_keep (value_in c b i) (id_at b i) value)
    moves i value inside in_row = go (value_in c b i) refl
      where
        go : (o : Option V) → value_in c b i ≡ o
            → sheet_of (with_published c b i (unwrap_or o value))
            ≡ moved (sheet_of c) (publish_or_keep o (id_at b i) value)
        go None is =
            ap (λ (f : ℕ → Option V).
            let s : Sheet V = record { held = []; values = f; capacity = 0 } in s)
            (fun_ext (values-with_published i value inside in_row))
        go (Some x) is =
            ap (λ (f : ℕ → Option V). let s : Sheet V = record { held = []; values = f; capacity = 0 } in s)
            (fun_ext (λ j. values-with_published i x inside in_row j
            ∙ ⊎_elim
            (λ (here : id_at b i ≡ j).
            cond-true (eqb (id_at b i) j) (Some x) (values c j) (eq-eqb (id_at b i) j here)
            ∙ sym is
            ∙ sym (values-id_at c b i inside)
            ∙ ap (values c) here)
            (λ (apart : id_at b i ≢ j). cond-false (eqb (id_at b i) j) (Some x) (values c j) (ne_eqb (id_at b i) j apart))
            (cases_eq (id_at b i) j)))

module _ {V : Type 0} (c : Contents V) (b : ℕ) (t : IsTable c) (low : b < 63) where
  in_table : b < length c.rows
  in_table = omega (arith, t.buckets)

  -- reserved buckets still stand, whatever is written
  pub IsOwned-with_published : (reserved i : ℕ) (w : V)
      → IsOwned (record { contents = c; reserved = reserved })
      → IsOwned (record { contents = with_published c b i w; reserved = reserved })
  IsOwned-with_published reserved i w o = record {
    table =
        IsTable-with_slot (with_bucket c b) b i (Some w)
        (by_standing c b IsTable (λ _. t)
        (λ _. IsTable-with_row c b (empty_row b) t (inr (length-empty_row V b))));
    first = o.first;
    standing = λ j below first.
        stands-with_published c b in_table (row-absent c b) i w j
        ∙ standing_on (eqb b j) (o.standing j below first);
  }
    where
      standing_on : (s : Bool) {r : Bool} → IsTrue r → cond s true r ≡ true
      standing_on true h = refl
      standing_on false h = h

  -- a value that is published, or the one there that is kept
  pub published_or_kept : (d e : Contents V) (i : ℕ) (value : V) → d ≡ with_bucket c b
      → e ≡ with_slot d b i (Some (unwrap_or (value_in d b i) value))
      → e ≡ with_published c b i (unwrap_or (value_in c b i) value)
  published_or_kept d e i value stood is =
      is
      ∙ ap (λ (k : Contents V). with_slot k b i (Some (unwrap_or (value_in k b i) value))) stood
      ∙ ap (λ (o : Option V). with_published c b i (unwrap_or o value)) (slot-with_bucket c b in_table (row-absent c b) i)

  -- and then written over
  pub written_over : (i : ℕ) (v w : V) → with_slot (with_published c b i v) b i (Some w) ≡ with_published c b i w
  written_over i v w =
      with_slot-twice (with_bucket c b) b i (Some v) (Some w)
      (let rows = rows-with_bucket c b in_table (row-absent c b) in let within = in_table in omega arith)

  pub published_moves : (i : ℕ) (value : V) → i < 2 ^ b
      → sheet_of (with_published c b i (unwrap_or (value_in c b i) value))
      ≡ moved (sheet_of c) (publish_or_keep (value_in c b i) (id_at b i) value)
  published_moves i value inside = moves c b in_table (row-absent c b) i value inside (omega (arith, whole-with_bucket c b t low))

  pub published_stands : (i : ℕ) (w : V) (j : ℕ) → stands (with_published c b i w) j ≡ cond (eqb b j) true (stands c j)
  published_stands i w j = stands-with_published c b in_table (row-absent c b) i w j

  -- the slot then has what was written
  pub published_slot : (i : ℕ) (w : V) → i < 2 ^ b → value_in (with_published c b i w) b i ≡ Some w
  published_slot i w inside =
      let whole = whole-with_bucket c b t low in
      sym (values-id_at (with_published c b i w) b i inside)
      ∙ values-with_published c b in_table (row-absent c b) i w inside (omega arith) (id_at b i)
      ∙ cond-true (eqb (id_at b i) (id_at b i)) (Some w) (values c (id_at b i)) (eq-eqb (id_at b i) (id_at b i) refl)

  pub published_values : (i : ℕ) (w : V) (id : ℕ) → i < 2 ^ b
      → values (with_published c b i w) id ≡ with_value (values c) (id_at b i) w id
  published_values i w id inside =
      let whole = whole-with_bucket c b t low in
      values-with_published c b in_table (row-absent c b) i w inside (omega arith) id
