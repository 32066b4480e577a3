-- The contents without their values: the same buckets stand, and nothing is left to empty.
use Rattle.std.proofs.Common.{◌≡◌, ℕ, ◌^◌, ◌<◌, List, [], ◌∷◌, length, Option, None, get_or, map, set, refl, ap, sym}
use Rattle.std.proofs.Common.{◌∙◌, arith}
use Rattle.std.proofs.lemmas.List.{length-map, ext_get_or}
use Rattle.std.proofs.Math.ListN.{get_or-map}
use Rattle.std.proofs.Math.Seq.{map-set_same}
use Rattle.thread_local_base.specs.Place.{bucket_of, index_of, id_at}
use Rattle.thread_local_base.specs.Buckets.{Contents, row, values, IsTable}
use Rattle.thread_local_base.specs.Rows.{value_in, with_slot}
use Rattle.thread_local_base.specs.Walk.{walk}
use Rattle.thread_local_base.proofs.PlaceLaws as place
use Rattle.thread_local_base.specs.Owner.{emptied}
use Rattle.thread_local_base.proofs.RowLaws.{row_whole}
use Rattle.thread_local_base.proofs.TakingLaws.{NoneBelow-walk}
use Rattle.thread_local_base.proofs.ValueLaws.{values-id_at}

module _ {V : Type 0} where
  abbrev none : Option V → Option V
  none _ = None

  row-emptied : (c : Contents V) (b : ℕ) → row (emptied c) b ≡ map none (row c b)
  row-emptied c b = get_or-map (map none) c.rows b []

  -- no id has a value
  pub values-emptied : (c : Contents V) (id : ℕ) → values (emptied c) id ≡ None
  values-emptied c id =
      ap (λ (r : List (Option V)). get_or r (index_of id) None) (row-emptied c (bucket_of id))
      ∙ get_or-map none (row c (bucket_of id)) (index_of id) None

  -- a slot that is emptied before changes nothing
  pub emptied-with_slot : (c : Contents V) (b i : ℕ) (o : Option V) → emptied (with_slot c b i o) ≡ emptied c
  emptied-with_slot c b i o =
      ap (λ (rows : List (List (Option V))). let s : Contents V = record { rows = rows } in s)
      (map-set_same (map none) c.rows b (set (row c b) i o) [] (map-set_same none (row c b) i o None refl))

  twice_none : (r : List (Option V)) → map none (map none r) ≡ map none r
  twice_none [] = refl
  twice_none (o ∷ r) = ap (λ s. None ∷ s) (twice_none r)

  twice : (rows : List (List (Option V))) → map (map none) (map (map none) rows) ≡ map (map none) rows
  twice [] = refl
  twice (r ∷ rs) = ap (λ s. s ∷ map (map none) (map (map none) rs)) (twice_none r) ∙ ap (λ ss. map none r ∷ ss) (twice rs)

  -- contents without values have none to empty
  pub emptied-emptied : (c : Contents V) → emptied (emptied c) ≡ emptied c
  emptied-emptied c = ap (λ (rows : List (List (Option V))). let s : Contents V = record { rows = rows } in s) (twice c.rows)

  -- a table without values is empty
  pub emptied-none : (c : Contents V) → IsTable c → length (walk (values c)) ≡ 0 → emptied c ≡ c
  emptied-none c t nothing =
      let none_below = NoneBelow-walk (values c) nothing in
      let slot : (b i : ℕ) → b < length c.rows → i < length (row c b) → None ≡ value_in c b i =
      λ b i low near.
      let whole = row_whole c b i t near in
      let inside : i < 2 ^ b = omega arith in
      sym (none_below (id_at b i) (place.id_at-below b i (omega (arith, t.buckets, low)) inside)) ∙ values-id_at c b i inside in
      ap (λ (rows : List (List (Option V))). let s : Contents V = record { rows = rows } in s)
      (ext_get_or [] (map (map none) c.rows) c.rows (length-map c.rows (map none)) (λ b low.
      let in_table : b < length c.rows = rw (← length-map c.rows (map none)) low in
      get_or-map (map none) c.rows b []
      ∙ ext_get_or None (map none (row c b)) (row c b) (length-map (row c b) none) (λ i near.
      get_or-map none (row c b) i None ∙ slot b i in_table (rw (← length-map (row c b) none) near))))
