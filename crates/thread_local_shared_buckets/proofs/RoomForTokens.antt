-- Slots that are counted bucket by bucket have room for the values of tokens: each of their ids gets a
-- slot of its own among them.
use Rattle.std.proofs.Common.{◌≡◌, ◌≢◌, ◌∙◌, ◌≤◌, ◌<◌, ◌+◌, ◌-◌, ◌^◌, ℕ, zero, suc, Bool, true, false, List, [], ◌∷◌, length}
use Rattle.std.proofs.Common.{Option, IsSome, cond, eqb, refl, sym, ap, subst, arith, pow_mono, pow_pos, ⊎_elim, ◌⊎◌, inl, inr}
use Rattle.std.specs.Prelude.{All, slice_index_or}
use Rattle.std.specs.List.{AllPairs}
use Rattle.std.proofs.Math.Nat.{two-pow-succ}
use Rattle.std.proofs.lemmas.Bool.{eqb-true, eqb-false, cases_lt}
use Rattle.thread_local_base.specs.Place.{bucket_of, index_of}
use Rattle.thread_local_base.proofs.PlaceLaws.{equation, inside, id_at-place}
use Rattle.thread_local_ids.specs.TokenLists.{NoneIn}
use Rattle.thread_local_ids.specs.TokenViews.{TokenView}

-- ---- numbers that differ, all below a bound, are no more than the bound
-- the numbers without the greatest that may be: where that one was, the last one stands
abbrev without : (ℕ → ℕ) → ℕ → ℕ → ℕ → ℕ
without f last greatest i = cond (eqb (f i) greatest) (f last) (f i)

without_by : (x greatest y : ℕ) (t : Bool) → eqb x greatest ≡ t
    → ((x ≡ greatest) × (cond t y x ≡ y)) ⊎ ((x ≢ greatest) × (cond t y x ≡ x))
without_by x greatest y true e = inl (eqb-true x greatest e, refl)
without_by x greatest y false e = inr (eqb-false x greatest e, refl)

module _ (f : ℕ → ℕ) (last greatest : ℕ) where
  is_without : (i : ℕ) → ((f i ≡ greatest) × (without f last greatest i ≡ f last)) ⊎ ((f i ≢ greatest) × (without f last greatest i ≡ f i))
  is_without i = without_by (f i) greatest (f last) (eqb (f i) greatest) refl

  abbrev Below : ℕ → ℕ → (ℕ → ℕ) → Type 0
  Below n m g = (i : ℕ) → i < n → g i < m

  abbrev Differ : ℕ → (ℕ → ℕ) → Type 0
  Differ n g = (i j : ℕ) → i < j → j < n → g i ≢ g j

  below_without : Below (suc last) (suc greatest) f → Differ (suc last) f → Below last greatest (without f last greatest)
  below_without below differ i near =
      let here = below i (omega arith) in
      let end = below last (omega arith) in
      let apart = differ i last near (omega arith) in
      elim (is_without i) [
        | inl is ↦ (let other : f last ≢ greatest = λ e. apart (is.0 ∙ sym e) in omega (arith, is.1, end, other))
        | inr is ↦ (let other : f i ≢ greatest = is.0 in omega (arith, is.1, here, other))
      ]

  differ_without : Differ (suc last) f → Differ last (without f last greatest)
  differ_without differ i j before near same =
      elim (is_without i) [
        | inl is ↦ elim (is_without j) [
          | inl at ↦ differ i j before (omega arith) (is.0 ∙ sym at.0)
          | inr at ↦ differ j last near (omega arith) (sym at.1 ∙ sym same ∙ is.1)
        ]
        | inr is ↦ elim (is_without j) [
          | inl at ↦ differ i last (omega arith) (omega arith) (sym is.1 ∙ same ∙ at.1)
          | inr at ↦ differ i j before (omega arith) (sym is.1 ∙ same ∙ at.1)
        ]
      ]

at_most : (n m : ℕ) (f : ℕ → ℕ) → ((i : ℕ) → i < n → f i < m) → ((i j : ℕ) → i < j → j < n → f i ≢ f j) → n ≤ m
at_most zero m f below differ = omega arith
at_most (suc n) zero f below differ = absurd (omega (arith, below n (omega arith)))
at_most (suc n) (suc m) f below differ =
    omega (arith, at_most n m (without f n m) (below_without f n m below differ) (differ_without f n m differ))

-- ---- the ids of tokens
-- an id that one of these tokens is of, in a sharing with a name
pub record IsTold {V : Type 0} (sharing : Option ℕ) (tokens : List (TokenView V)) (id : ℕ) : Type 0 where
  pub named : IsSome sharing
  pub at : ℕ
  pub some : TokenView V
  pub near : at < length tokens
  pub of_it : (slice_index_or tokens at some).sharing ≡ sharing
  pub is : (slice_index_or tokens at some).id ≡ id

-- a bucket without a token isn't that of a token's id
pub no_token : {V : Type 0} (sharing : Option ℕ) (tokens : List (TokenView V)) (bucket id : ℕ) → NoneIn sharing bucket tokens
    → IsTold sharing tokens id → bucket_of id ≢ bucket
no_token {V} sharing tokens bucket id none told same =
    let absent = subst (λ (b : ℕ). NoneIn {V = V} sharing b tokens) (sym same) none in
    absent told.named told.at told.some told.near told.of_it (index_of id) (inside id) (told.is ∙ sym (id_at-place id))

-- ---- room for them
-- so many slots are counted of the buckets before one: each of these ids that lies there has one of
-- them, and its whole bucket is counted
pub record HasRoom (In : ℕ → Type 0) (from slots : ℕ) : Type 0 where
  pub at : ℕ → ℕ
  pub within : (id : ℕ) → In id → bucket_of id < from → at id < slots
  pub apart : (a b : ℕ) → In a → In b → bucket_of a < from → bucket_of b < from → at a ≡ at b → a ≡ b
  pub whole : (id : ℕ) → In id → bucket_of id < from → 2 ^ bucket_of id ≤ slots

-- two buckets up to one take no more slots than it
twice : (b from : ℕ) → b < from → 2 ^ b + 2 ^ b ≤ 2 ^ from
twice b from before = let up : 2 ^ suc b ≤ 2 ^ from = pow_mono before in let two = two-pow-succ b in omega arith

-- all slots of the first buckets
pub first_slots : (In : ℕ → Type 0) (from : ℕ) → HasRoom In from (2 ^ from - 1)
first_slots In from = record {
  at = λ id. id;
  within = λ id told before.
      let place = equation id in
      let index = inside id in
      let up = twice (bucket_of id) from before in
      omega arith;
  apart = λ a b one other low near same. same;
  whole = λ id told before.
      let up = twice (bucket_of id) from before in
      let some = pow_pos (bucket_of id) in
      omega arith;
}

module _ (In : ℕ → Type 0) (from bucket slots : ℕ) (so : HasRoom In from slots)
    (none : (id : ℕ) → In id → from ≤ bucket_of id → bucket_of id < bucket → ⊥) where
  -- the bucket has no slot of these ids
  pub same_slots : ((id : ℕ) → In id → bucket_of id ≢ bucket) → HasRoom In (bucket + 1) slots
  same_slots absent =
      let before : (id : ℕ) → In id → bucket_of id < bucket + 1 → bucket_of id < from = λ id told low.
      let other = absent id told in
      ⊎_elim (λ (here : bucket_of id < from). here)
      (λ (behind : from ≤ bucket_of id). absurd (none id told behind (omega (arith, low, other))))
      (cases_lt (bucket_of id) from) in
      record {
        at = so.at;
        within = λ id told low. so.within id told (before id told low);
        apart = λ a b one other low near same. so.apart a b one other (before a one low) (before b other near) same;
        whole = λ id told low. so.whole id told (before id told low);
      }

  -- the slot of an id, where those of the bucket come behind the others
  abbrev slot_by : Bool → ℕ → ℕ
  slot_by t id = cond t (slots + index_of id) (so.at id)

  record Stands (id slot : ℕ) : Type 0 where
    pub within : slot < slots + 2 ^ bucket
    pub whole : 2 ^ bucket_of id ≤ slots + 2 ^ bucket
    pub which : ((bucket_of id ≡ bucket) × (slot ≡ slots + index_of id)) ⊎ ((bucket_of id < from) × (slot ≡ so.at id))

  stands_by : (id : ℕ) → In id → bucket_of id < bucket + 1 → (t : Bool) → eqb (bucket_of id) bucket ≡ t → Stands id (slot_by t id)
  stands_by id told low true e =
      let here : bucket_of id ≡ bucket = eqb-true (bucket_of id) bucket e in
      let size : 2 ^ bucket_of id ≡ 2 ^ bucket = ap (λ b. 2 ^ b) here in
      let index = inside id in
      record { within = omega (arith, size, index); whole = omega (arith, size); which = inl (here, refl) }
  stands_by id told low false e =
      let other : bucket_of id ≢ bucket = eqb-false (bucket_of id) bucket e in
      let before : bucket_of id < from = ⊎_elim (λ (here : bucket_of id < from). here)
      (λ (behind : from ≤ bucket_of id). absurd (none id told behind (omega (arith, low, other))))
      (cases_lt (bucket_of id) from) in
      let slot = so.within id told before in
      let most = so.whole id told before in
      record { within = omega (arith, slot); whole = omega (arith, most); which = inr (before, refl) }

  stands : (id : ℕ) → In id → bucket_of id < bucket + 1 → Stands id (slot_by (eqb (bucket_of id) bucket) id)
  stands id told low = stands_by id told low (eqb (bucket_of id) bucket) refl

  -- in one bucket two ids have two indexes
  one_id : (a b : ℕ) → bucket_of a ≡ bucket → bucket_of b ≡ bucket → index_of a ≡ index_of b → a ≡ b
  one_id a b here there same =
      let size : 2 ^ bucket_of a ≡ 2 ^ bucket_of b = ap (λ n. 2 ^ n) (here ∙ sym there) in
      let one = equation a in
      let other = equation b in
      omega (arith, size, one, other, same)

  -- the whole bucket is counted
  pub more_slots : HasRoom In (bucket + 1) (slots + 2 ^ bucket)
  more_slots = record {
    at = λ id. slot_by (eqb (bucket_of id) bucket) id;
    within = λ id told low. (stands id told low).within;
    apart = λ a b one other low near same.
        elim (stands a one low).which [
          | inl is ↦ elim (stands b other near).which [
            | inl at ↦ one_id a b is.0 at.0 (omega (arith, is.1, at.1, same))
            | inr at ↦ (let slot = so.within b other at.0 in absurd (omega (arith, is.1, at.1, same, slot)))
          ]
          | inr is ↦ elim (stands b other near).which [
            | inl at ↦ (let slot = so.within a one is.0 in absurd (omega (arith, is.1, at.1, same, slot)))
            | inr at ↦ so.apart a b one other is.0 at.0 (sym is.1 ∙ same ∙ at.1)
          ]
        ];
    whole = λ id told low. (stands id told low).whole;
  }

-- tokens of different ids, all of the sharing, are no more than the slots
pub tokens_fit : {V : Type 0} (sharing : Option ℕ) (tokens : List (TokenView V)) (from slots : ℕ)
    → HasRoom (IsTold sharing tokens) from slots
    → ((id : ℕ) → IsTold sharing tokens id → bucket_of id < from)
    → IsSome sharing → All (λ token. token.sharing ≡ sharing) tokens
    → AllPairs (λ one other. one.id ≢ other.id) tokens
    → length tokens ≤ slots
tokens_fit sharing [] from slots so before named all different = omega arith
tokens_fit {V} sharing (some ∷ tokens) from slots so before named all different =
    let told : List (TokenView V) = some ∷ tokens in
    let id : ℕ → ℕ = λ k. (slice_index_or told k some).id in
    let is : (k : ℕ) → k < length told → IsTold sharing told (id k) = λ k near. record {
      named = named;
      at = k;
      some = some;
      near = near;
      of_it = all k some near;
      is = refl;
    } in
    at_most (length told) slots (λ k. so.at (id k)) (λ k near. so.within (id k) (is k near) (before (id k) (is k near)))
    (λ i j low near same.
    let far : i < length told = omega (arith, low, near) in
    different i j some low near
    (so.apart (id i) (id j) (is i far) (is j near) (before (id i) (is i far)) (before (id j) (is j near)) same))
