-- Which slots have a value, after one value is taken out and after another is put back.
use Rattle.thread_local_base.proofs.Names.{◌≡◌, ℕ, zero, suc, ◌<◌, List, [], ◌∷◌, length, length-set, set, get_or}
use Rattle.thread_local_base.proofs.Names.{map, refl, sym, ap, ◌∙◌, subst, Bool, true, false, is_some, Option, Some}
use Rattle.thread_local_base.proofs.Names.{None}
use Rattle.std.proofs.lemmas.List.{set-set, set-get_or, get_or-set_same, map-set, length-map}
use Rattle.thread_local_buckets.specs.LoanOwns.{shape}

row_shape : {A B : Type 0} (f : A → B) (xss : List (List A)) (k : ℕ) → map f (get_or xss k []) ≡ get_or (map (map f) xss) k []
row_shape f [] k = refl
row_shape f (xs ∷ xss) zero = refl
row_shape f (xs ∷ xss) (suc k) = row_shape f xss k

slot_shape : {X : Type 0} (cs : List (Option X)) (i : ℕ) → is_some (get_or cs i None) ≡ get_or (map is_some cs) i false
slot_shape [] i = refl
slot_shape (c ∷ cs) zero = refl
slot_shape (c ∷ cs) (suc i) = slot_shape cs i

abbrev pub has : {X : Type 0} → List (Option X) → List Bool
has = map is_some

-- in rows with values in the same slots, a slot of one has a value where the other's does
pub slot_has : {X : Type 0} (ws cs : List (Option X)) (i : ℕ) → has ws ≡ has cs
    → is_some (get_or ws i None) ≡ is_some (get_or cs i None)
slot_has ws cs i same = slot_shape ws i ∙ ap (λ z. get_or z i false) same ∙ sym (slot_shape cs i)

abbrev Rows : Type 0 → Type 0
Rows X = List (List (Option X))

abbrev marked : List (List Bool) → ℕ → ℕ → Bool → List (List Bool)
marked has k i y = set has k (set (get_or has k []) i y)

module _ {X : Type 0} where
  -- the rows with another value, or none, in slot i of row k
  abbrev pub put : Rows X → ℕ → ℕ → Option X → Rows X
  put rs k i c = set rs k (set (get_or rs k []) i c)

  shape-put : (rs : Rows X) (k i : ℕ) (c : Option X) → shape (put rs k i c) ≡ marked (shape rs) k i (is_some c)
  shape-put rs k i c = map-set (map is_some) rs k (set (get_or rs k []) i c)
      ∙ ap (λ z. set (shape rs) k z) (map-set is_some (get_or rs k []) i c ∙ ap (λ z. set z i (is_some c)) (row_shape is_some rs k))

  module _ (rs ws : Rows X) (k i : ℕ) (same : shape ws ≡ shape rs) where
    pub long : length ws ≡ length rs
    long = sym (length-map ws (map is_some)) ∙ ap length same ∙ length-map rs (map is_some)

    pub row_long : length (get_or ws k []) ≡ length (get_or rs k [])
    row_long =
        sym (length-map (get_or ws k []) is_some)
        ∙ ap length
        (row_shape is_some ws k ∙ ap (λ z. get_or z k []) same ∙ sym (row_shape is_some rs k))
        ∙ length-map (get_or rs k []) is_some

    pub is_slot : is_some (get_or (get_or ws k []) i None) ≡ is_some (get_or (get_or rs k []) i None)
    is_slot =
        slot_has (get_or ws k []) (get_or rs k []) i
        (row_shape is_some ws k ∙ ap (λ z. get_or z k []) same ∙ sym (row_shape is_some rs k))

  -- row k, once its slot i is changed
  pub row-put : (rs : Rows X) (k i : ℕ) (c : Option X) → k < length rs → get_or (put rs k i c) k [] ≡ set (get_or rs k []) i c
  row-put rs k i c near = get_or-set_same rs k (set (get_or rs k []) i c) [] near

  pub slot-put : (rs : Rows X) (k i : ℕ) (c : Option X) → k < length rs
      → i < length (get_or rs k [])
      → get_or (get_or (put rs k i c) k []) i None ≡ c
  slot-put rs k i c near inside = ap (λ z. get_or z i None) (row-put rs k i c near) ∙ get_or-set_same (get_or rs k []) i c None inside

  pub long_put : (rs : Rows X) (k i : ℕ) (c : Option X) → length (put rs k i c) ≡ length rs
  long_put rs k i c = length-set rs k (set (get_or rs k []) i c)

  pub row_long_put : (rs : Rows X) (k i : ℕ) (c : Option X) → k < length rs
      → length (get_or (put rs k i c) k []) ≡ length (get_or rs k [])
  row_long_put rs k i c near = ap length (row-put rs k i c near) ∙ length-set (get_or rs k []) i c

  -- after a value is taken out and another is put back, the same slots have a value
  pub put_back : (rs ws : Rows X) (k i : ℕ) (x y : X) → k < length rs
      → get_or (get_or rs k []) i None ≡ Some x → shape ws ≡ shape (put rs k i None)
      → shape (put ws k i (Some y)) ≡ shape rs
  put_back rs ws k i x y near had same =
      let has = shape rs in
      let row = get_or has k [] in
      let near' : k < length has = subst (λ n. k < n) (sym (length-map rs (map is_some))) near in
      let marked_row : get_or (marked has k i false) k [] ≡ set row i false = get_or-set_same has k (set row i false) [] near' in
      let at : get_or row i false ≡ true =
      sym (slot_shape (get_or rs k []) i ∙ ap (λ z. get_or z i false) (row_shape is_some rs k))
      ∙ ap is_some had in
      let whole_row : set (set row i false) i true ≡ row =
      set-set row i false true ∙ ap (λ z. set row i z) (sym at) ∙ set-get_or row i false in
      shape-put ws k i (Some y) ∙ ap (λ z. marked z k i true) (same ∙ shape-put rs k i None)
      ∙ ap (λ z. set (marked has k i false) k (set z i true)) marked_row
      ∙ ap (λ z. set (marked has k i false) k z) whole_row
      ∙ set-set has k (set row i false) row
      ∙ set-get_or has k []
