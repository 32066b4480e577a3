-- What a table shows to an owner, bucket by bucket, and how its events change that.
use Rattle.std.proofs.Common.{◌≡◌, ℕ, ◌-◌, ◌^◌, ◌<◌, ◌≤◌, ◌⊎◌, inl, inr, Bool, true, false, cond, eqb, List, [], length}
use Rattle.std.proofs.Common.{set, get_or, Option, Some, None, is_some, IsTrue, refl, ap, sym, ◌∙◌, subst, arith}
use Rattle.std.proofs.Common.{⊎_elim, pow_pos, length-set}
use Rattle.std.specs.Prelude.{nat_lt, ◌∷◌, map, option_map, unwrap_or}
use Rattle.std.specs.List.{range_with_len}
use Rattle.std.proofs.lemmas.Bool.{cases_eq, cases_lt, eq-eqb, ne_eqb, lt-ltb, le-ltb, false≢true}
use Rattle.std.proofs.lemmas.List.{ext_get_or, get_or-set_same, get_or-set_other, get_or_past, length-replicate, get_or-replicate}
use Rattle.std.proofs.lemmas.List.FromFn.{length-map-range_with_len, get_or-map-range_with_len}
use Rattle.thread_local_base.specs.Place.{bucket_of, index_of, id_at}
use Rattle.thread_local_base.specs.Buckets.{Contents, row, stands as stands_for_owner, values, no_contents, IsTable}
use Rattle.thread_local_base.specs.Rows.{with_row, with_slot as with_owners_slot, empty_row}
use Rattle.thread_local_base.specs.Capacity.{binary_digits, reserves_bucket, is_reserved}
use Rattle.thread_local_base.proofs.CapacityLaws as reserve
use Rattle.thread_local_base.specs.Walk.{walk}
use Rattle.thread_local_base.proofs.PlaceLaws as place
use Rattle.thread_local_base.proofs.WalkLaws.{walk_below-same}
use Rattle.thread_local_base.specs.Owner.{with_bucket, with_published, emptied}
use Rattle.thread_local_base.proofs.RowLaws.{row-with_row-same, row-with_row-other}
use Rattle.thread_local_base.specs.Refilled.{refilled_slot, refilled_row, refilled}
use Rattle.thread_local_base.proofs.FillingLaws.{contents-empty}
use Rattle.thread_local_base.proofs.RefilledLaws.{length-refilled_row, length-refilled_rows, refilled_row-at, refilled_rows-at}
use Rattle.thread_local_schedule.specs.Table.{Slot, Bucket, fresh_bucket, Table, value_of, slot_of, slot_at, published}
use Rattle.thread_local_schedule.specs.Table.{bucket_stands, made_table, with_fresh_bucket, with_filled_bucket, with_slot_of}
use Rattle.thread_local_schedule.specs.Table.{with_table_slot, with_flag}
use Rattle.thread_local_schedule.specs.Cleared.{emptied_bucket, cleared, drained}
use Rattle.thread_local_schedule.specs.OwnerWalk.{owner_walk, rewritten_slot, rewritten_bucket, rewritten}
use Rattle.thread_local_schedule.proofs.TableLaws.{bucket_stands-made_table, bucket_stands-with_fresh_bucket, slot_at-made_table}
use Rattle.thread_local_schedule.proofs.OwnerLaws.{owner_walk-walk, value_of-rewritten_slot, slot_of-rewritten_bucket}
use Rattle.thread_local_schedule.proofs.OwnerLaws.{published-rewritten, bucket_stands-rewritten}
use Rattle.thread_local_schedule.specs.Shown.{shown_row, shown}
use Rattle.std.proofs.lemmas.Simd.{map-map}

module _ {V : Type 0} where
  -- the rows shown are those of the pointers
  pub rows-shown : (table : Table V) → length (shown table).rows ≡ 63
  unfolding shown
  rows-shown table = length-map-range_with_len (λ bucket. shown_row (table.pointers bucket) bucket) 0 63

  pub row-shown : (table : Table V) (b : ℕ) → b < 63 → row (shown table) b ≡ shown_row (table.pointers b) b
  unfolding shown
  row-shown table b low = get_or-map-range_with_len (λ bucket. shown_row (table.pointers bucket) bucket) 0 63 b b [] low (omega arith)

  row-past : (table : Table V) (b : ℕ) → 63 ≤ b → row (shown table) b ≡ []
  row-past table b high = get_or_past (shown table).rows b [] (omega (arith, rows-shown table, high))

  -- a bucket that stands has all its slots, and shows what they do
  length-shown_row : (here : Bucket V) (b : ℕ) → length (shown_row (Some here) b) ≡ 2 ^ b
  length-shown_row here b = length-map-range_with_len (λ index. value_of (here.slot index)) 0 (2 ^ b)

  shown-at : (pointer : Option (Bucket V)) (b i : ℕ) → i < 2 ^ b
      → get_or (shown_row pointer b) i None ≡ value_of (slot_of pointer i)
  shown-at None b i inside = refl
  shown-at (Some here) b i inside = get_or-map-range_with_len (λ index. value_of (here.slot index)) 0 (2 ^ b) i i None inside (omega arith)

  whole : (pointer : Option (Bucket V)) (b : ℕ) → (length (shown_row pointer b) ≡ 0) ⊎ (length (shown_row pointer b) ≡ 2 ^ b)
  whole None b = inl refl
  whole (Some here) b = inr (length-shown_row here b)

  pub IsTable-shown : (table : Table V) → IsTable (shown table)
  IsTable-shown table = record {
    buckets = rows-shown table;
    whole = λ b.
        ⊎_elim
        (λ low.
        subst (λ (r : List (Option V)). (length r ≡ 0) ⊎ (length r ≡ 2 ^ b))
        (sym (row-shown table b low)) (whole (table.pointers b) b))
        (λ high. inl (ap length (row-past table b high)))
        (cases_lt b 63);
  }

  standing : (pointer : Option (Bucket V)) (b : ℕ) → nat_lt 0 (length (shown_row pointer b)) ≡ is_some pointer
  standing None b = refl
  standing (Some here) b = let some = pow_pos b in lt-ltb 0 (length (shown_row (Some here) b)) (omega (arith, length-shown_row here b))

  pub bucket_stands-shown : (table : Table V) (b : ℕ) → b < 63 → stands_for_owner (shown table) b ≡ bucket_stands table b
  unfolding bucket_stands
  bucket_stands-shown table b low =
      ap (λ (r : List (Option V)). nat_lt 0 (length r)) (row-shown table b low)
      ∙ standing (table.pointers b) b

  pub values-shown : (table : Table V) (id : ℕ) → id < 2 ^ 63 - 1 → values (shown table) id ≡ published table id
  unfolding published slot_at
  values-shown table id below =
      ap (λ (r : List (Option V)). get_or r (index_of id) None) (row-shown table (bucket_of id) (place.bucket_of-below id below))
      ∙ shown-at (table.pointers (bucket_of id)) (bucket_of id) (index_of id) (place.inside id)

  pub owner_walk-shown : (table : Table V) → owner_walk table ≡ walk (values (shown table))
  unfolding walk
  owner_walk-shown table =
      owner_walk-walk table
      ∙ walk_below-same (published table) (values (shown table)) (2 ^ 63 - 1)
      (λ id below. sym (values-shown table id below))

  -- contents of 63 equal rows are the same
  same_contents : (c d : Contents V) → length c.rows ≡ 63 → length d.rows ≡ 63
      → ((b : ℕ) → b < 63 → row c b ≡ row d b)
      → c ≡ d
  same_contents c d m n h =
      ap (λ (rows : List (List (Option V))). let e : Contents V = record { rows = rows } in e)
      (ext_get_or [] c.rows d.rows (m ∙ sym n) (λ i inside. h i (omega (arith, m, inside))))

  -- a fresh bucket shows no value
  fresh : (number b : ℕ) → shown_row (Some (fresh_bucket {V = V} number)) b ≡ empty_row b
  fresh number b =
      ext_get_or None (shown_row (Some (fresh_bucket {V = V} number)) b) (empty_row b)
      (length-shown_row (fresh_bucket number) b ∙ sym (length-replicate (2 ^ b) None))
      (λ i inside.
      let low : i < 2 ^ b = omega (arith, inside, length-shown_row (fresh_bucket {V = V} number) b) in
      shown-at (Some (fresh_bucket number)) b i low ∙ sym (get_or-replicate (2 ^ b) i None None low))

  pub shown-with_fresh_bucket : (table : Table V) (b number : ℕ) → b < 63
      → bucket_stands table b ≡ false
      → shown (with_fresh_bucket table b number) ≡ with_bucket (shown table) b
  unfolding with_fresh_bucket
  shown-with_fresh_bucket table b number low none =
      let absent : stands_for_owner (shown table) b ≡ false = bucket_stands-shown table b low ∙ none in
      let within : b < length (shown table).rows = omega (arith, low, rows-shown table) in
      same_contents (shown (with_fresh_bucket table b number))
      (with_row (shown table) b (empty_row b)) (rows-shown (with_fresh_bucket table b number))
      (length-set (shown table).rows b (empty_row b) ∙ rows-shown table)
      (λ j below.
      row-shown (with_fresh_bucket table b number) j below
      ∙ ⊎_elim
      (λ (here : b ≡ j).
      let P : ℕ → Type 0 = λ k.
      shown_row (cond (eqb b k) (Some (fresh_bucket number)) (table.pointers k)) k
      ≡ row (with_row (shown table) b (empty_row b)) k in
      subst P here (rw (eq-eqb b b refl) (fresh number b ∙ sym (row-with_row-same (shown table) b (empty_row b) within))))
      (λ apart.
      rw (ne_eqb b j apart) (sym (row-shown table j below)
      ∙ sym (row-with_row-other (shown table) b j (empty_row b) (λ e. apart (sym e)))))
      (cases_eq b j))
      ∙ sym (ap (λ t. cond t (shown table) (with_row (shown table) b (empty_row b))) absent)

  -- a changed slot changes one entry of its row
  shown_row-with_slot_of : (pointer : Option (Bucket V)) (b i : ℕ) (slot : Slot V) (v : V)
      → IsTrue (is_some pointer) → i < 2 ^ b → value_of slot ≡ Some v
      → shown_row (with_slot_of pointer i slot) b ≡ set (shown_row pointer b) i (Some v)
  shown_row-with_slot_of None b i slot v t inside shows = cc
  shown_row-with_slot_of (Some here) b i slot v t inside shows =
      let after : Bucket V = record here { slot = λ k. cond (eqb i k) slot (here.slot k) } in
      ext_get_or None (shown_row (Some after) b) (set (shown_row (Some here) b) i (Some v))
      (length-shown_row after b ∙ sym (length-set (shown_row (Some here) b) i (Some v) ∙ length-shown_row here b))
      (λ j low.
      let below : j < 2 ^ b = omega (arith, low, length-shown_row after b) in
      shown-at (Some after) b j below
      ∙ ⊎_elim
      (λ (same : i ≡ j).
      let P : ℕ → Type 0 = λ k.
      value_of (cond (eqb i k) slot (here.slot k))
      ≡ get_or (set (shown_row (Some here) b) i (Some v)) k None in
      subst P same (rw (eq-eqb i i refl)
      (shows
      ∙ sym (get_or-set_same (shown_row (Some here) b) i (Some v) None
      (omega (arith, inside, length-shown_row here b))))))
      (λ apart.
      rw (ne_eqb i j apart) (sym (shown-at (Some here) b j below)
      ∙ sym
      (get_or-set_other (shown_row (Some here) b) i j (Some v) None (λ e. apart (sym e)))))
      (cases_eq i j))

  shown-with_table_slot : (table : Table V) (id : ℕ) (slot : Slot V) (v : V) → id < 2 ^ 63 - 1
      → IsTrue (bucket_stands table (bucket_of id)) → value_of slot ≡ Some v
      → shown (with_table_slot table id slot) ≡ with_published (shown table) (bucket_of id) (index_of id) v
  unfolding with_table_slot bucket_stands
  shown-with_table_slot table id slot v below t shows =
      let b = bucket_of id in
      let i = index_of id in
      let low = place.bucket_of-below id below in
      let within : b < length (shown table).rows = omega (arith, low, rows-shown table) in
      same_contents (shown (with_table_slot table id slot)) (with_owners_slot (shown table) b i (Some v))
      (rows-shown (with_table_slot table id slot))
      (length-set (shown table).rows b (set (row (shown table) b) i (Some v)) ∙ rows-shown table)
      (λ j beneath.
      row-shown (with_table_slot table id slot) j beneath
      ∙ ⊎_elim
      (λ (here : b ≡ j).
      let P : ℕ → Type 0 = λ k.
      shown_row (cond (eqb b k) (with_slot_of (table.pointers k) i slot) (table.pointers k)) k
      ≡ row (with_owners_slot (shown table) b i (Some v)) k in
      subst P here
      (rw (eq-eqb b b refl)
      (shown_row-with_slot_of (table.pointers b) b i slot v t (place.inside id) shows
      ∙ sym (ap (λ (r : List (Option V)). set r i (Some v)) (row-shown table b low))
      ∙ sym (row-with_row-same (shown table) b (set (row (shown table) b) i (Some v)) within))))
      (λ apart.
      rw (ne_eqb b j apart) (sym (row-shown table j beneath)
      ∙ sym (row-with_row-other (shown table) b j (set (row (shown table) b) i (Some v))
      (λ e. apart (sym e)))))
      (cases_eq b j))
      ∙ sym
      (ap (λ s.
      with_owners_slot (cond s (shown table) (with_row (shown table) b (empty_row b))) b i
      (Some v))
      (bucket_stands-shown table b low ∙ t))

  pub shown-with_flag : (table : Table V) (id : ℕ) (v : V) → id < 2 ^ 63 - 1
      → IsTrue (bucket_stands table (bucket_of id)) → (slot_at table id).written ≡ Some v
      → shown (with_flag table id) ≡ with_published (shown table) (bucket_of id) (index_of id) v
  shown-with_flag table id v below t written =
      shown-with_table_slot table id (record (slot_at table id) { flag = true }) v below t written

  -- a bucket installed with a value in it shows what an owner's insert leaves
  pub shown-with_filled_bucket : (table : Table V) (id number : ℕ) (v : V) → id < 2 ^ 63 - 1
      → bucket_stands table (bucket_of id) ≡ false
      → shown (with_filled_bucket table id number v) ≡ with_published (shown table) (bucket_of id) (index_of id) v
  shown-with_filled_bucket table id number v below none =
      let b = bucket_of id in
      let i = index_of id in
      let there = with_fresh_bucket table b number in
      let low = place.bucket_of-below id below in
      let stood : IsTrue (bucket_stands there b) =
      bucket_stands-with_fresh_bucket table b number b ∙ ap (λ t. cond t true (bucket_stands table b)) (eq-eqb b b refl) in
      shown-with_table_slot there id (record { written = Some v; flag = true }) v below stood refl
      ∙ ap (λ t. with_owners_slot (cond t (shown there) (with_row (shown there) b (empty_row b))) b i (Some v))
      (bucket_stands-shown there b low ∙ stood)
      ∙ ap (λ c. with_owners_slot c b i (Some v)) (shown-with_fresh_bucket table b number low none)

  pub values-shown-rewritten : (table : Table V) (others : ℕ → V → V) (id : ℕ) → id < 2 ^ 63 - 1
      → values (shown (rewritten table others)) id
      ≡ option_map (others id) (values (shown table) id)
  values-shown-rewritten table others id below =
      values-shown (rewritten table others) id below
      ∙ published-rewritten table others id
      ∙ sym (ap (option_map (others id)) (values-shown table id below))

  pub bucket_stands-shown-rewritten : (table : Table V) (others : ℕ → V → V) (b : ℕ) → b < 63
      → stands_for_owner (shown (rewritten table others)) b ≡ stands_for_owner (shown table) b
  bucket_stands-shown-rewritten table others b low =
      bucket_stands-shown (rewritten table others) b low
      ∙ bucket_stands-rewritten table others b
      ∙ sym (bucket_stands-shown table b low)

  -- an owner's writes refill what is shown
  shown_row-refilled : (others : ℕ → V → V) (pointer : Option (Bucket V)) (b : ℕ) (ws : List (Option V))
      → ((i : ℕ) → i < 2 ^ b
      → option_map (others i) (value_of (slot_of pointer i))
      ≡ refilled_slot (value_of (slot_of pointer i)) (get_or ws i None))
      → shown_row (rewritten_bucket others pointer) b ≡ refilled_row (shown_row pointer b) ws
  shown_row-refilled others None b ws h = refl
  shown_row-refilled others (Some here) b ws h =
      let after : Bucket V = record here { slot = λ i. rewritten_slot (others i) (here.slot i) } in
      ext_get_or None (shown_row (Some after) b) (refilled_row (shown_row (Some here) b) ws)
      (length-shown_row after b ∙ sym (length-refilled_row (shown_row (Some here) b) ws ∙ length-shown_row here b))
      (λ i low.
      let below : i < 2 ^ b = omega (arith, low, length-shown_row after b) in
      shown-at (Some after) b i below
      ∙ value_of-rewritten_slot (others i) (here.slot i).written (here.slot i).flag
      ∙ h i below
      ∙ sym (ap (λ o. refilled_slot o (get_or ws i None)) (shown-at (Some here) b i below))
      ∙ sym (refilled_row-at (shown_row (Some here) b) ws i))

  shown-refilled : (table : Table V) (others : ℕ → V → V) (written : Contents V)
      → ((b i : ℕ) → b < 63 → i < 2 ^ b
      → option_map (others (id_at b i)) (value_of (slot_of (table.pointers b) i))
      ≡ refilled_slot (value_of (slot_of (table.pointers b) i))
      (get_or (row written b) i None))
      → shown (rewritten table others) ≡ refilled (shown table) written
  unfolding rewritten
  shown-refilled table others written h =
      same_contents (shown (rewritten table others)) (refilled (shown table) written)
      (rows-shown (rewritten table others))
      (length-refilled_rows (shown table).rows written.rows ∙ rows-shown table)
      (λ b low.
      row-shown (rewritten table others) b low
      ∙ shown_row-refilled (λ i. others (id_at b i)) (table.pointers b) b (row written b) (λ i inside. h b i low inside)
      ∙ sym (ap (λ (r : List (Option V)). refilled_row r (row written b)) (row-shown table b low))
      ∙ sym (refilled_rows-at (shown table).rows written.rows b))

  -- each slot by the value written to it
  by_itself : (f : V → V) (o : Option V) → option_map f o ≡ refilled_slot o (option_map f o)
  by_itself f None = refl
  by_itself f (Some x) = refl

  pub rewritten-refills : (table : Table V) (others : ℕ → V → V)
      → shown (rewritten table others) ≡ refilled (shown table) (shown (rewritten table others))
  unfolding rewritten
  rewritten-refills table others =
      shown-refilled table others (shown (rewritten table others))
      (λ b i low inside.
      let slot = slot_of (table.pointers b) i in
      let shows : get_or (row (shown (rewritten table others)) b) i None ≡ option_map (others (id_at b i)) (value_of slot) =
      ap (λ (r : List (Option V)). get_or r i None) (row-shown (rewritten table others) b low)
      ∙ shown-at ((rewritten table others).pointers b) b i inside
      ∙ ap value_of (slot_of-rewritten_bucket (λ j. others (id_at b j)) (table.pointers b) i)
      ∙ value_of-rewritten_slot (others (id_at b i)) slot.written slot.flag in
      by_itself (others (id_at b i)) (value_of slot) ∙ sym (ap (refilled_slot (value_of slot)) shows))

  -- and each refilling comes of the writes of its values
  by_its_values : (o w : Option V) → option_map (unwrap_or w) o ≡ refilled_slot o w
  by_its_values None w = refl
  by_its_values (Some x) None = refl
  by_its_values (Some x) (Some y) = refl

  pub refilled-rewrites : (table : Table V) (written : Contents V)
      → shown (rewritten table (λ id. unwrap_or (values written id)))
      ≡ refilled (shown table) written
  refilled-rewrites table written =
      shown-refilled table (λ id. unwrap_or (values written id)) written
      (λ b i low inside.
      let at = place.place-id_at b i inside in
      let slot = slot_of (table.pointers b) i in
      let there : values written (id_at b i) ≡ get_or (row written b) i None =
      ap (λ (k : ℕ). get_or (row written k) (index_of (id_at b i)) None) at.0
      ∙ ap (λ (k : ℕ). get_or (row written b) k None) at.1 in
      ap (λ (w : Option V). option_map (unwrap_or w) (value_of slot)) there
      ∙ by_its_values (value_of slot) (get_or (row written b) i None))

-- a table of a capacity shows its buckets, with no value
pub bucket_stands-shown-made : (V : Type 0) (capacity b : ℕ) → b < 63
    → stands_for_owner (shown (made_table {V = V} capacity)) b ≡ reserves_bucket capacity b
bucket_stands-shown-made V capacity b low = bucket_stands-shown (made_table capacity) b low ∙ bucket_stands-made_table V capacity b

pub values-shown-made : (V : Type 0) (capacity id : ℕ) → id < 2 ^ 63 - 1 → values (shown (made_table {V = V} capacity)) id ≡ None
unfolding published
values-shown-made V capacity id below = values-shown (made_table capacity) id below ∙ ap value_of (slot_at-made_table capacity id)

none_below : (n b : ℕ) → n ≡ 0 → nat_lt b n ≡ false
none_below n b none = le-ltb b n (omega arith)

no_row : {V : Type 0} (pointer : Option (Bucket V)) (b : ℕ) → is_some pointer ≡ false → shown_row pointer b ≡ []
no_row None b none = refl
no_row (Some here) b none = cc

pub shown-new : (V : Type 0) → shown (made_table {V = V} 0) ≡ no_contents
unfolding bucket_stands binary_digits
shown-new V =
    contents-empty (shown (made_table 0)) 63 (rows-shown (made_table 0)) (omega arith)
    (λ b low.
    row-shown (made_table 0) b low
    ∙ no_row ((made_table {V = V} 0).pointers b) b
    (bucket_stands-made_table V 0 b ∙ none_below 0 b refl))

-- a cleared table shows the reserved buckets, with all slots empty, and no other
row_of-emptied : {V : Type 0} (reserved : Bool) (pointer : Option (Bucket V)) (b : ℕ) → (IsTrue reserved → IsTrue (is_some pointer))
    → shown_row (cond reserved (emptied_bucket pointer) None) b ≡ cond reserved (empty_row b) []
row_of-emptied true None b stood = absurd (false≢true (stood refl))
row_of-emptied true (Some here) b stood = fresh here.number b
row_of-emptied false pointer b stood = refl

row_of-made : {V : Type 0} (reserved : Bool) (number b : ℕ)
    → shown_row {V = V} (cond reserved (Some (fresh_bucket number)) None) b
    ≡ cond reserved (empty_row b) []
row_of-made true number b = fresh number b
row_of-made false number b = refl

row-cleared : {V : Type 0} (table : Table V) (capacity b : ℕ)
    → (IsTrue (reserves_bucket capacity b) → IsTrue (bucket_stands table b)) → b < 63
    → row (shown (cleared table capacity)) b ≡ cond (reserves_bucket capacity b) (empty_row b) []
unfolding cleared bucket_stands
row-cleared table capacity b stood low =
    row-shown (cleared table capacity) b low
    ∙ row_of-emptied (reserves_bucket capacity b) (table.pointers b) b stood

row-made : (V : Type 0) (capacity b : ℕ) → b < 63
    → row (shown (made_table {V = V} capacity)) b
    ≡ cond (reserves_bucket capacity b) (empty_row b) []
unfolding made_table
row-made V capacity b low = row-shown (made_table capacity) b low ∙ row_of-made (reserves_bucket capacity b) b b

same_test : (a b : Bool) → (IsTrue a → IsTrue b) → (IsTrue b → IsTrue a) → a ≡ b
same_test true b f g = sym (f refl)
same_test false true f g = absurd (false≢true (g refl))
same_test false false f g = refl

-- a bucket is reserved where its first id is
reserved_first : (capacity b : ℕ) → reserves_bucket capacity b ≡ is_reserved capacity (id_at b 0)
reserved_first capacity b =
    let at = (place.place-id_at b 0 (pow_pos b)).0 in
    let both = reserve.reserved_buckets capacity (id_at b 0) in
    same_test (reserves_bucket capacity b) (is_reserved capacity (id_at b 0))
    (λ t. both.1 (subst (λ k. IsTrue (reserves_bucket capacity k)) (sym at) t))
    (λ t. subst (λ k. IsTrue (reserves_bucket capacity k)) at (both.0 t))

pub shown-cleared_row : {V : Type 0} (table : Table V) (capacity b : ℕ)
    → (IsTrue (reserves_bucket capacity b) → IsTrue (bucket_stands table b)) → b < 63
    → row (shown (cleared table capacity)) b ≡ cond (is_reserved capacity (id_at b 0)) (empty_row b) []
shown-cleared_row table capacity b stood low =
    row-cleared table capacity b stood low ∙ ap (λ reserved. cond reserved (empty_row b) []) (reserved_first capacity b)

-- so a cleared table shows what a table made with the capacity does
pub shown-cleared : {V : Type 0} (table : Table V) (capacity : ℕ)
    → ((b : ℕ) → IsTrue (reserves_bucket capacity b) → IsTrue (bucket_stands table b))
    → shown (cleared table capacity) ≡ shown (made_table capacity)
shown-cleared table capacity stood =
    same_contents (shown (cleared table capacity)) (shown (made_table capacity))
    (rows-shown (cleared table capacity)) (rows-shown (made_table capacity))
    (λ b low. row-cleared table capacity b (stood b) low ∙ sym (row-made _ capacity b low))

-- a drain leaves the same rows without their values
map-same : {A B : Type 0} (f g : A → B) (xs : List A) → ((x : A) → f x ≡ g x) → map f xs ≡ map g xs
map-same f g [] same = refl
map-same f g (x ∷ xs) same = rw (same x, map-same f g xs same) refl

shown_row-emptied : {V : Type 0} (pointer : Option (Bucket V)) (bucket : ℕ)
    → shown_row (emptied_bucket pointer) bucket ≡ map (λ _. None) (shown_row pointer bucket)
shown_row-emptied None bucket = refl
shown_row-emptied (Some here) bucket =
    sym (map-map (λ _. None) (λ index. value_of (here.slot index)) (range_with_len 0 (2 ^ bucket)))

pub shown-drained : {V : Type 0} (table : Table V) → shown (drained table) ≡ emptied (shown table)
unfolding shown drained
shown-drained table =
    ap (λ rows. record { rows = rows })
    (map-same (λ bucket. shown_row (emptied_bucket (table.pointers bucket)) bucket)
    (λ bucket. map (λ _. None) (shown_row (table.pointers bucket) bucket))
    (range_with_len 0 63) (λ bucket. shown_row-emptied (table.pointers bucket) bucket)
    ∙ sym (map-map (map (λ _. None)) (λ bucket. shown_row (table.pointers bucket) bucket) (range_with_len 0 63)))
