-- What an owner's changes do to the map of values.
use Rattle.std.proofs.Common.{◌≡◌, ◌≢◌, ℕ, ◌^◌, ◌<◌, false, length, List, [], Option, None, set, get_or, ap, sym, ◌∙◌}
use Rattle.std.proofs.Common.{subst, ⊎_elim}
use Rattle.std.proofs.lemmas.List.{get_or-set_same, get_or-set_other}
use Rattle.std.proofs.lemmas.Bool.{cases_eq}
use Rattle.std.specs.Prelude.{nat_lt}
use Rattle.thread_local_base.specs.Place.{bucket_of, index_of, id_at}
use Rattle.thread_local_base.specs.Buckets.{Contents, row, stands, values, no_contents}
use Rattle.thread_local_base.specs.Rows.{value_in, with_row, with_slot, empty_row}
use Rattle.thread_local_base.proofs.PlaceLaws as place
use Rattle.thread_local_base.proofs.RowLaws.{row-with_row-same, row-with_row-other, row-no_contents, slot-empty_row}

module _ {V : Type 0} where
  -- the value at a place's id is what its slot has
  pub values-id_at : (c : Contents V) (b i : ℕ) → i < 2 ^ b → values c (id_at b i) ≡ value_in c b i
  values-id_at c b i h =
      let p = place.place-id_at b i h in
      ap (λ k. value_in c k (index_of (id_at b i))) p.0 ∙ ap (value_in c b) p.1

  -- a change of one slot changes the value at its id, and no other
  pub values-with_slot-same : (c : Contents V) (b i : ℕ) (o : Option V) → b < length c.rows
      → i < 2 ^ b → i < length (row c b)
      → values (with_slot c b i o) (id_at b i) ≡ o
  values-with_slot-same c b i o hb hi inside =
      values-id_at (with_slot c b i o) b i hi
      ∙ ap (λ (r : List (Option V)). get_or r i None) (row-with_row-same c b (set (row c b) i o) hb)
      ∙ get_or-set_same (row c b) i o None inside

  pub values-with_slot-other : (c : Contents V) (b i id : ℕ) (o : Option V) → b < length c.rows
      → id ≢ id_at b i
      → values (with_slot c b i o) id ≡ values c id
  values-with_slot-other c b i id o hb ne =
      ⊎_elim
      (λ (here : bucket_of id ≡ b).
      let apart : index_of id ≢ i = λ e. ne (sym (place.id_at-place id) ∙ ap (λ k. id_at k (index_of id)) here ∙ ap (id_at b) e) in
      let P : ℕ → Type 0 = λ k. value_in (with_slot c b i o) k (index_of id) ≡ value_in c k (index_of id) in
      subst P (sym here)
      (ap (λ (r : List (Option V)). get_or r (index_of id) None) (row-with_row-same c b (set (row c b) i o) hb)
      ∙ get_or-set_other (row c b) i (index_of id) o None apart))
      (λ (apart : bucket_of id ≢ b).
      ap (λ (r : List (Option V)). get_or r (index_of id) None)
      (row-with_row-other c b (bucket_of id) (set (row c b) i o) apart))
      (cases_eq (bucket_of id) b)

  -- a new bucket has no value
  pub values-with_empty_row : (c : Contents V) (b id : ℕ) → b < length c.rows → row c b ≡ []
      → values (with_row c b (empty_row b)) id ≡ values c id
  values-with_empty_row c b id hb absent =
      ⊎_elim
      (λ (here : bucket_of id ≡ b).
      let P : ℕ → Type 0 = λ k. value_in (with_row c b (empty_row b)) k (index_of id) ≡ value_in c k (index_of id) in
      subst P (sym here)
      (ap (λ (r : List (Option V)). get_or r (index_of id) None) (row-with_row-same c b (empty_row b) hb)
      ∙ slot-empty_row V b (index_of id)
      ∙ sym (ap (λ (r : List (Option V)). get_or r (index_of id) None) absent)))
      (λ (apart : bucket_of id ≢ b).
      ap (λ (r : List (Option V)). get_or r (index_of id) None)
      (row-with_row-other c b (bucket_of id) (empty_row b) apart))
      (cases_eq (bucket_of id) b)

  -- an id whose bucket doesn't stand has no value
  pub values-absent : (c : Contents V) (b id : ℕ) → bucket_of id ≡ b → row c b ≡ [] → values c id ≡ None
  values-absent c b id here absent = ap (λ (r : List (Option V)). get_or r (index_of id) None) (ap (row c) here ∙ absent)

pub values-no_contents : (V : Type 0) (id : ℕ) → values (no_contents {V = V}) id ≡ None
values-no_contents V id = ap (λ (r : List (Option V)). get_or r (index_of id) None) (row-no_contents V (bucket_of id))

pub stands-no_contents : (V : Type 0) (b : ℕ) → stands (no_contents {V = V}) b ≡ false
stands-no_contents V b = ap (λ (r : List (Option V)). nat_lt 0 (length r)) (row-no_contents V b)

pub slot-no_contents : (V : Type 0) (b i : ℕ) → value_in (no_contents {V = V}) b i ≡ None
slot-no_contents V b i = ap (λ (r : List (Option V)). get_or r i None) (row-no_contents V b)
