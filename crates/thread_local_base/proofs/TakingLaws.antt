-- How a walk goes on once its first value is taken, and how values are counted.
use Rattle.std.proofs.Common.{◌≡◌, ◌≢◌, ℕ, zero, suc, ◌+◌, ◌-◌, ◌^◌, ◌<◌, ◌≤◌, false, cond, length, [], ◌∷◌, ◌++◌}
use Rattle.std.proofs.Common.{Option, Some, None, is_some, refl, ap, sym, ◌∙◌, subst, arith, ⊎_elim, length-append}
use Rattle.std.proofs.Common.{add-one, pow_pos, pow_mono}
use Rattle.std.specs.Prelude.{option_to_list, option_map}
use Rattle.std.proofs.lemmas.List.{get_or_past}
use Rattle.std.proofs.lemmas.Bool.{cases_eq, cases_lt}
use Rattle.std.proofs.Math.Nat.{two-pow-succ}
use Rattle.thread_local_base.specs.Place.{bucket_of, id_at}
use Rattle.thread_local_base.specs.Walk.{walk, walk_below, paired}
use Rattle.thread_local_base.specs.Buckets.{Contents, row, values}
use Rattle.thread_local_base.specs.Rows.{value_in, with_slot}
use Rattle.thread_local_base.proofs.PlaceLaws as place
use Rattle.thread_local_base.proofs.CapacityLaws.{in_first, below_first}
use Rattle.thread_local_base.proofs.WalkLaws.{walk_below-none, walk_below-add, length-walk_below}
use Rattle.thread_local_base.specs.Owner.{NoneBelow}
use Rattle.thread_local_base.specs.Counting.{count_below}
use Rattle.thread_local_base.proofs.ValueLaws.{values-absent, values-id_at, values-with_slot-same, values-with_slot-other}

module _ {V : Type 0} where
  -- where no id below n has a value and n has one, the walk is that value, and then the walk
  -- without it
  pub walk_below-taken : (values others : ℕ → Option V) (n : ℕ) (v : V) → NoneBelow values n
      → values n ≡ Some v → others n ≡ None → ((id : ℕ) → id ≢ n → others id ≡ values id)
      → (k : ℕ) → n < k → walk_below values k ≡ v ∷ walk_below others k
  unfolding walk_below
  walk_below-taken values others n v none here gone same zero lt = absurd (omega arith)
  walk_below-taken values others n v none here gone same (suc k) lt =
      ⊎_elim
      (λ (at : k ≡ n).
      let before : walk_below values k ≡ [] = walk_below-none values k (λ id l. none id (omega arith)) in
      let after : walk_below others k ≡ [] =
      walk_below-none others k
      (λ id l. let apart : id ≢ n = omega arith in same id apart ∙ none id (omega arith)) in
      let value : values k ≡ Some v = ap values at ∙ here in
      let nothing : others k ≡ None = ap others at ∙ gone in
      rw (before, after, value, nothing) refl)
      (λ (apart : k ≢ n).
      ap (λ vs. vs ++ option_to_list (values k)) (walk_below-taken values others n v none here gone same k (omega arith))
      ∙ ap (λ o. v ∷ (walk_below others k ++ option_to_list o)) (sym (same k apart)))
      (cases_eq k n)

  pub walk-taken : (values others : ℕ → Option V) (n : ℕ) (v : V) → n < 2 ^ 63 - 1
      → NoneBelow values n → values n ≡ Some v → others n ≡ None
      → ((id : ℕ) → id ≢ n → others id ≡ values id) → walk values ≡ v ∷ walk others
  unfolding walk
  walk-taken values others n v lt none here gone same = walk_below-taken values others n v none here gone same (2 ^ 63 - 1) lt

  pub walk-none : (values : ℕ → Option V) → NoneBelow values (2 ^ 63 - 1) → walk values ≡ []
  unfolding walk
  walk-none values none = walk_below-none values (2 ^ 63 - 1) none

  length-option_to_list : (o : Option V) → length (option_to_list o) ≡ cond (is_some o) 1 0
  length-option_to_list None = refl
  length-option_to_list (Some v) = refl

  none_of : (o : Option V) → length (option_to_list o) ≡ 0 → o ≡ None
  none_of None h = refl
  none_of (Some v) h = absurd (omega (arith, h))

  -- there are none below 0, and one more past each value
  pub count_below-zero : (values : ℕ → Option V) → count_below values 0 ≡ 0
  unfolding count_below walk_below
  count_below-zero values = refl

  pub count_below-more : (values : ℕ → Option V) (n : ℕ)
      → count_below values (suc n) ≡ count_below values n + cond (is_some (values n)) 1 0
  unfolding count_below walk_below
  count_below-more values n =
      length-append (walk_below values n) (option_to_list (values n))
      ∙ ap (λ k. length (walk_below values n) + k) (length-option_to_list (values n))

  pub count_below-walk : (values : ℕ → Option V) → count_below values (2 ^ 63 - 1) ≡ length (walk values)
  unfolding count_below walk
  count_below-walk values = refl

  -- where no value is counted, there is none
  NoneBelow-counted : (values : ℕ → Option V) (n : ℕ) → length (walk_below values n) ≡ 0 → NoneBelow values n
  unfolding walk_below
  NoneBelow-counted values zero nothing id l = absurd (omega arith)
  NoneBelow-counted values (suc n) nothing id l =
      let both = length-append (walk_below values n) (option_to_list (values n)) in
      ⊎_elim (λ (at : id ≡ n). ap values at ∙ none_of (values n) (omega arith))
      (λ (apart : id ≢ n). NoneBelow-counted values n (omega arith) id (omega arith))
      (cases_eq id n)

  pub NoneBelow-walk : (values : ℕ → Option V) → length (walk values) ≡ 0 → NoneBelow values (2 ^ 63 - 1)
  unfolding walk
  NoneBelow-walk values nothing = NoneBelow-counted values (2 ^ 63 - 1) nothing

  pub count_below-le : (values : ℕ → Option V) (n : ℕ) → count_below values n ≤ n
  unfolding count_below
  count_below-le values n = length-walk_below values n

  -- ids without a value add none
  pub count_below-none : (values : ℕ → Option V) (n k : ℕ)
      → ((i : ℕ) → i < k → values (n + i) ≡ None)
      → count_below values (n + k) ≡ count_below values n
  unfolding count_below
  count_below-none values n k none =
      ap length (walk_below-add values n k) ∙ length-append (walk_below values n) (walk_below (λ i. values (n + i)) k)
      ∙ (let nothing : walk_below (λ i. values (n + i)) k ≡ [] =
      walk_below-none (λ i. values (n + i)) k none in
      rw nothing (omega arith))

  -- no id below n + 1 has a value where none below n has, nor n
  pub NoneBelow-more : (values : ℕ → Option V) (n : ℕ) → NoneBelow values n → values n ≡ None → NoneBelow values (n + 1)
  NoneBelow-more values n none here id l =
      ⊎_elim (λ (at : id ≡ n). ap values at ∙ here) (λ (apart : id ≢ n). none id (omega arith)) (cases_eq id n)

  -- once the first value, at n, is taken, no id below n + 1 has one
  pub NoneBelow-taken : (values others : ℕ → Option V) (n : ℕ) → NoneBelow values n
      → others n ≡ None → ((id : ℕ) → id ≢ n → others id ≡ values id)
      → NoneBelow others (n + 1)
  NoneBelow-taken values others n none gone same id l =
      ⊎_elim (λ (at : id ≡ n). ap others at ∙ gone) (λ (apart : id ≢ n). same id apart ∙ none id (omega arith)) (cases_eq id n)

  -- a bucket that doesn't stand is skipped
  pub NoneBelow-absent : (c : Contents V) (b i : ℕ) → NoneBelow (values c) (id_at b i)
      → row c b ≡ []
      → NoneBelow (values c) (id_at (b + 1) 0)
  NoneBelow-absent c b i none absent id l =
      ⊎_elim
      (λ (here : bucket_of id ≡ b). values-absent c b id here absent)
      (λ (apart : bucket_of id ≢ b).
      let below : bucket_of id < b + 1 = in_first (b + 1) id (omega arith) in
      let before : id < 2 ^ b - 1 = below_first b id (omega arith) in
      none id (omega arith))
      (cases_eq (bucket_of id) b)

-- the first id of the next bucket follows the last id of a bucket
pub id_at-next : (b : ℕ) → id_at (b + 1) 0 ≡ id_at b (2 ^ b)
id_at-next b =
    let twice : 2 ^ (b + 1) ≡ 2 ^ b + 2 ^ b = rw add-one (two-pow-succ b) in
    let some = pow_pos b in
    omega arith

-- a slot that shows no value is empty
pub shows_none : {V : Type 0} (o : Option V) → is_some o ≡ false → o ≡ None
shows_none None h = refl
shows_none (Some v) h = cc

module _ {V : Type 0} where
  -- an empty slot is skipped
  pub NoneBelow-slot : (c : Contents V) (b i : ℕ) → i < 2 ^ b → NoneBelow (values c) (id_at b i)
      → is_some (value_in c b i) ≡ false
      → NoneBelow (values c) (id_at b (i + 1))
  NoneBelow-slot c b i inside none here =
      let next : id_at b i + 1 ≡ id_at b (i + 1) = omega arith in
      let P : ℕ → Type 0 = NoneBelow (values c) in
      subst P next (NoneBelow-more (values c) (id_at b i) none (values-id_at c b i inside ∙ shows_none (value_in c b i) here))

  -- a slot adds one where it has a value
  pub count_below-slot : (c : Contents V) (b i : ℕ) → i < 2 ^ b
      → count_below (values c) (id_at b (i + 1))
      ≡ count_below (values c) (id_at b i) + cond (is_some (value_in c b i)) 1 0
  count_below-slot c b i inside =
      let next : id_at b (i + 1) ≡ suc (id_at b i) = omega arith in
      ap (count_below (values c)) next
      ∙ count_below-more (values c) (id_at b i)
      ∙ ap (λ (o : Option V). count_below (values c) (id_at b i) + cond (is_some o) 1 0)
      (values-id_at c b i inside)

  -- a bucket that doesn't stand adds none
  pub count_below-absent : (c : Contents V) (b : ℕ) → row c b ≡ []
      → count_below (values c) (id_at (b + 1) 0) ≡ count_below (values c) (id_at b 0)
  count_below-absent c b absent =
      let end : id_at (b + 1) 0 ≡ id_at b 0 + 2 ^ b = omega (arith, id_at-next b) in
      ap (count_below (values c)) end
      ∙ count_below-none (values c) (id_at b 0) (2 ^ b) (λ i inside.
      let here : id_at b 0 + i ≡ id_at b i = omega arith in
      ap (values c) here ∙ values-absent c b (id_at b i) (place.place-id_at b i inside).0 absent)

  -- fewer than 2 ^ 63 values are in the buckets before one
  pub count_below-fits : (values : ℕ → Option V) (b : ℕ) → b ≤ 63 → count_below values (id_at b 0) < 2 ^ 63
  count_below-fits values b h =
      let bound = count_below-le values (id_at b 0) in
      let up : 2 ^ b ≤ 2 ^ 63 = pow_mono h in
      let some = pow_pos b in
      omega arith

  -- past the last bucket there is nothing
  pub walk-met : (c : Contents V) (b i : ℕ) → 63 ≤ b → NoneBelow (values c) (id_at b i) → length (walk (values c)) ≡ 0
  walk-met c b i past none =
      let up : 2 ^ 63 ≤ 2 ^ b = pow_mono past in
      ap length (walk-none (values c) (λ id l. none id (omega arith)))

-- a value was taken from the first slot that had one: the walk before is that value and then the
-- walk after, with ids and without
pub record Takes {V : Type 0} (before after : Contents V) (b i : ℕ) (v : V) : Type 0 where
  pub walked : walk (values before) ≡ v ∷ walk (values after)
  pub entries : walk (paired (values before)) ≡ (id_at b i, v) ∷ walk (paired (values after))
  pub behind : NoneBelow (values after) (id_at b (i + 1))

module _ {V : Type 0} where
  -- a bucket with slots is one of the 63
  pub in_rows : (c : Contents V) (b : ℕ) → length (row c b) ≡ 2 ^ b → b < length c.rows
  in_rows c b whole =
      ⊎_elim (λ (low : b < length c.rows). low)
      (λ (high : length c.rows ≤ b).
      let none : length (row c b) ≡ 0 = ap length (get_or_past c.rows b [] high) in
      let some = pow_pos b in
      absurd (omega arith))
      (cases_lt b (length c.rows))

  pub taking : (c d : Contents V) (b i : ℕ) (v : V) → b < 63 → i < 2 ^ b → length (row c b) ≡ 2 ^ b
      → NoneBelow (values c) (id_at b i)
      → value_in c b i ≡ Some v → d ≡ with_slot c b i None → Takes c d b i v
  taking c d b i v low inside whole none here after =
      let rows = in_rows c b whole in
      let gone : values (with_slot c b i None) (id_at b i) ≡ None = values-with_slot-same c b i None rows inside (omega arith) in
      let same : (id : ℕ) → id ≢ id_at b i → values (with_slot c b i None) id ≡ values c id =
      λ id ne. values-with_slot-other c b i id None rows ne in
      let next : id_at b i + 1 ≡ id_at b (i + 1) = omega arith in
      let P : ℕ → Type 0 = NoneBelow (values (with_slot c b i None)) in
      let taken : Takes c (with_slot c b i None) b i v = record {
        walked =
            walk-taken (values c) (values (with_slot c b i None)) (id_at b i) v
            (place.id_at-below b i low inside) none (values-id_at c b i inside ∙ here) gone same;
        entries =
            walk-taken (paired (values c)) (paired (values (with_slot c b i None))) (id_at b i)
            (id_at b i, v) (place.id_at-below b i low inside)
            (λ id l. ap (option_map (λ w. (id, w))) (none id l))
            (ap (option_map (λ w. (id_at b i, w))) (values-id_at c b i inside ∙ here))
            (ap (option_map (λ w. (id_at b i, w))) gone) (λ id ne. ap (option_map (λ w. (id, w))) (same id ne));
        behind = subst P next (NoneBelow-taken (values c) (values (with_slot c b i None)) (id_at b i) none gone same);
      } in
      let Q : Contents V → Type 0 = λ e. Takes c e b i v in
      subst Q (sym after) taken
