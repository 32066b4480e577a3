-- A walk with ids, and the one without.
use Rattle.std.proofs.Common.{◌≡◌, ℕ, ◌-◌, ◌^◌, ◌<◌, List, [], ◌∷◌, length, map, Option, sym, ap, ◌∙◌, arith, ◌+◌, ◌≤◌, pow_pos}
use Rattle.std.proofs.lemmas.List.{length-map, nil_from_length}
use Rattle.thread_local_base.specs.Walk.{walk, paired}
use Rattle.thread_local_base.proofs.PlaceLaws.{id_at-below}
use Rattle.thread_local_base.proofs.WalkLaws.{map-walk_below}

-- what is left once an item is given is shorter
pub shorter : {X : Type 0} (before after : List X) (x : X) → before ≡ x ∷ after → length after < length before
shorter before after x is = let long : length before ≡ length (x ∷ after) = ap length is in omega (arith, long)

-- a slot's index and its id are both a `usize`
pub record IsNear (i size : ℕ) : Type 0 where
  pub some : 1 ≤ size
  pub index : i < 2 ^ 64
  pub id : i + (size - 1) < 2 ^ 64

pub is_near : (b i size : ℕ) → b < 63 → i < 2 ^ b → size ≡ 2 ^ b → IsNear i size
is_near b i size low near all =
    let below = id_at-below b i low near in
    let some = pow_pos b in
    record { some = omega (arith, some, all); index = omega (arith, below); id = omega (arith, below, all) }

module _ {V : Type 0} where
  -- the values of the entries are those of the map
  pub walk_of_entries : (values : ℕ → Option V) → map (λ entry. entry.1) (walk (paired values)) ≡ walk values
  unfolding walk
  walk_of_entries values = map-walk_below values (2 ^ 63 - 1)

  -- and there are as many
  pub length_of_entries : (values : ℕ → Option V) → length (walk (paired values)) ≡ length (walk values)
  length_of_entries values = sym (length-map (walk (paired values)) (λ entry. entry.1)) ∙ ap length (walk_of_entries values)

  -- so none are left where no value is
  pub no_entries : (values : ℕ → Option V) → length (walk values) ≡ 0 → walk (paired values) ≡ []
  no_entries values none = nil_from_length (walk (paired values)) (length_of_entries values ∙ none)

  -- where an entry is the first of the walk with ids, its value is that of the walk without
  pub first_value : (before after : ℕ → Option V) (entry : ℕ × V) → walk (paired before) ≡ entry ∷ walk (paired after)
      → walk before ≡ entry.1 ∷ walk after
  first_value before after entry first =
      sym (walk_of_entries before) ∙ ap (map (λ (each : ℕ × V). each.1)) first ∙ ap (λ (vs : List V). entry.1 ∷ vs) (walk_of_entries after)
