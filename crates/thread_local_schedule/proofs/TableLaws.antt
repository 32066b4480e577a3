-- How installing a bucket and changing a slot change what a table shows.
use Rattle.std.proofs.Common.{◌≡◌, ℕ, ◌^◌, Bool, true, false, cond, eqb, IsTrue, Option, Some, None, is_some, refl, ap}
use Rattle.std.proofs.Common.{sym, ◌∙◌, arith, ⊎_elim}
use Rattle.std.proofs.lemmas.Bool.{cases_eq, cases_Bool, cond_both, eq-eqb, ne_eqb, false≢true}
use Rattle.thread_local_base.specs.Place.{bucket_of, index_of}
use Rattle.thread_local_base.proofs.PlaceLaws as place
use Rattle.thread_local_schedule.specs.Table.{Slot, empty_slot, value_of, Bucket, fresh_bucket, Table, slot_of, slot_at}
use Rattle.thread_local_schedule.specs.Table.{published, bucket_stands, with_announced, with_fresh_bucket, with_slot_of}
use Rattle.thread_local_schedule.specs.Table.{with_table_slot, with_filled_bucket, made_table}
use Rattle.thread_local_base.specs.Capacity.{reserves_bucket}
use Rattle.thread_local_schedule.specs.Fits.{number_at, IsSameBucket}
use Rattle.std.specs.Prelude.{option_map, nat_lt}

pub same_function : {A B : Type 0} (f g : A → B) → ((x : A) → f x ≡ g x) → f ≡ g
same_function f g h = λ i x. h x i

-- an id is determined by its place
pub same_id : (id other : ℕ) → bucket_of id ≡ bucket_of other → index_of id ≡ index_of other → id ≡ other
same_id id other b i =
    let e = place.equation id in
    let f = place.equation other in
    let power : 2 ^ bucket_of id ≡ 2 ^ bucket_of other = ap (λ k. 2 ^ k) b in
    omega arith

-- one slot of a bucket changes, and the others stay
slot_of-with_slot_of_same : {V : Type 0} (pointer : Option (Bucket V)) (index : ℕ) (slot : Slot V)
    → IsTrue (is_some pointer)
    → slot_of (with_slot_of pointer index slot) index ≡ slot
slot_of-with_slot_of_same None index slot t = cc
slot_of-with_slot_of_same (Some bucket) index slot t = rw (eq-eqb index index refl) refl

slot_of-with_slot_of_other : {V : Type 0} (pointer : Option (Bucket V)) (index i : ℕ)
    (slot : Slot V)
    → (index ≡ i → ⊥)
    → slot_of (with_slot_of pointer index slot) i ≡ slot_of pointer i
slot_of-with_slot_of_other None index i slot apart = refl
slot_of-with_slot_of_other (Some bucket) index i slot apart = rw (ne_eqb index i apart) refl

-- the slot of an id changes, and those of other ids stay
pub slot_at-with_slot_same : {V : Type 0} (table : Table V) (id : ℕ) (slot : Slot V)
    → IsTrue (bucket_stands table (bucket_of id))
    → slot_at (with_table_slot table id slot) id ≡ slot
unfolding slot_at with_table_slot bucket_stands
slot_at-with_slot_same table id slot t =
    rw (eq-eqb (bucket_of id) (bucket_of id) refl) (slot_of-with_slot_of_same (table.pointers (bucket_of id)) (index_of id) slot t)

pub slot_at-with_slot_other : {V : Type 0} (table : Table V) (id other : ℕ) (slot : Slot V)
    → (id ≡ other → ⊥)
    → slot_at (with_table_slot table id slot) other ≡ slot_at table other
unfolding slot_at with_table_slot
slot_at-with_slot_other table id other slot apart =
    ⊎_elim
    (λ same.
    rw (eq-eqb (bucket_of id) (bucket_of other) same)
    (slot_of-with_slot_of_other (table.pointers (bucket_of other)) (index_of id) (index_of other)
    slot (λ i. apart (same_id id other same i))))
    (λ elsewhere. rw (ne_eqb (bucket_of id) (bucket_of other) elsewhere) refl)
    (cases_eq (bucket_of id) (bucket_of other))

-- a changed slot leaves each pointer at the bucket that it led to
some-with_slot_of : {V : Type 0} (pointer : Option (Bucket V)) (index : ℕ) (slot : Slot V)
    → is_some (with_slot_of pointer index slot) ≡ is_some pointer
some-with_slot_of None index slot = refl
some-with_slot_of (Some bucket) index slot = refl

same-cond : {A B : Type 0} (f : A → B) (b : Bool) (x y : A) → f x ≡ f y → f (cond b x y) ≡ f y
same-cond f true x y h = h
same-cond f false x y h = refl

pub bucket_stands-with_table_slot : {V : Type 0} (table : Table V) (id bucket : ℕ) (slot : Slot V)
    → bucket_stands (with_table_slot table id slot) bucket ≡ bucket_stands table bucket
unfolding bucket_stands with_table_slot
bucket_stands-with_table_slot table id bucket slot =
    same-cond is_some (eqb (bucket_of id) bucket)
    (with_slot_of (table.pointers bucket) (index_of id) slot) (table.pointers bucket)
    (some-with_slot_of (table.pointers bucket) (index_of id) slot)

-- a null pointer has empty slots
slot_of-none : {V : Type 0} (pointer : Option (Bucket V)) (index : ℕ) → is_some pointer ≡ false
    → slot_of pointer index ≡ empty_slot
slot_of-none None index none = refl
slot_of-none (Some bucket) index none = cc

pub slot_at-none : {V : Type 0} (table : Table V) (id : ℕ)
    → bucket_stands table (bucket_of id) ≡ false
    → slot_at table id ≡ empty_slot
unfolding slot_at bucket_stands
slot_at-none table id none = slot_of-none (table.pointers (bucket_of id)) (index_of id) none

-- a new bucket has empty slots, which its null pointer showed too
pub slot_at-with_fresh_bucket : {V : Type 0} (table : Table V) (bucket number id : ℕ)
    → bucket_stands table bucket ≡ false
    → slot_at (with_fresh_bucket table bucket number) id ≡ slot_at table id
unfolding slot_at with_fresh_bucket bucket_stands
slot_at-with_fresh_bucket table bucket number id none =
    ⊎_elim
    (λ here.
    rw (eq-eqb bucket (bucket_of id) here)
    (sym (slot_of-none (table.pointers (bucket_of id)) (index_of id)
    (ap (λ b. is_some (table.pointers b)) (sym here) ∙ none))))
    (λ apart. rw (ne_eqb bucket (bucket_of id) apart) refl)
    (cases_eq bucket (bucket_of id))

pub bucket_stands-with_fresh_bucket : {V : Type 0} (table : Table V) (bucket number other : ℕ)
    → bucket_stands (with_fresh_bucket table bucket number) other
    ≡ cond (eqb bucket other) true (bucket_stands table other)
unfolding bucket_stands with_fresh_bucket
bucket_stands-with_fresh_bucket table bucket number other =
    ⊎_elim
    (λ here. rw (eq-eqb bucket other here) refl)
    (λ apart. rw (ne_eqb bucket other apart) refl)
    (cases_eq bucket other)

-- an installed bucket stands, and every other stands that stood
pub bucket_stands-with_filled_bucket : {V : Type 0} (table : Table V) (id number : ℕ) (v : V) (other : ℕ)
    → bucket_stands (with_filled_bucket table id number v) other
    ≡ cond (eqb (bucket_of id) other) true (bucket_stands table other)
bucket_stands-with_filled_bucket table id number v other =
    bucket_stands-with_table_slot (with_fresh_bucket table (bucket_of id) number) id other _
    ∙ bucket_stands-with_fresh_bucket table (bucket_of id) number other

pub published-slot_at : {V : Type 0} (old new : Table V) (id : ℕ) → slot_at new id ≡ slot_at old id
    → published new id ≡ published old id
unfolding published
published-slot_at old new id same = ap value_of same

-- a value is published only where the bucket stands
pub published_stands : {V : Type 0} (table : Table V) (id : ℕ) (v : V) → published table id ≡ Some v
    → IsTrue (bucket_stands table (bucket_of id))
unfolding published
published_stands table id v h =
    ⊎_elim (λ t. t)
    (λ none. let e = ap value_of (slot_at-none table id none) in absurd cc)
    (cases_Bool (bucket_stands table (bucket_of id)))

-- what a slot shows, by its flag
pub published_unset : {V : Type 0} (table : Table V) (id : ℕ) → (slot_at table id).flag ≡ false → published table id ≡ None
unfolding published
published_unset table id h = rw h refl

-- a bucket that is made and not yet offered changes no slot and no pointer
pub slot_at-made : {V : Type 0} (table : Table V) (made id : ℕ) → slot_at (record table { made = made }) id ≡ slot_at table id
unfolding slot_at
slot_at-made table made id = refl

pub bucket_stands-made : {V : Type 0} (table : Table V) (made bucket : ℕ)
    → bucket_stands (record table { made = made }) bucket ≡ bucket_stands table bucket
unfolding bucket_stands
bucket_stands-made table made bucket = refl

pub number_at-made : {V : Type 0} (table : Table V) (made bucket : ℕ) → number_at (record table { made = made }) bucket ≡ number_at table bucket
unfolding number_at
number_at-made table made bucket = refl

-- a changed slot leaves every pointer at its bucket
number_at-with_table_slot_of : {V : Type 0} (pointer : Option (Bucket V)) (index : ℕ) (slot : Slot V)
    → option_map (λ here. here.number) (with_slot_of pointer index slot)
    ≡ option_map (λ here. here.number) pointer
number_at-with_table_slot_of None index slot = refl
number_at-with_table_slot_of (Some bucket) index slot = refl

pub number_at-with_table_slot : {V : Type 0} (table : Table V) (id bucket : ℕ) (slot : Slot V)
    → number_at (with_table_slot table id slot) bucket ≡ number_at table bucket
unfolding number_at with_table_slot
number_at-with_table_slot table id bucket slot =
    same-cond (λ pointer. option_map (λ here. here.number) pointer) (eqb (bucket_of id) bucket)
    (with_slot_of (table.pointers bucket) (index_of id) slot) (table.pointers bucket)
    (number_at-with_table_slot_of (table.pointers bucket) (index_of id) slot)

-- to announce a bucket changes no slot and no pointer, and leaves all announced that were
pub slot_at-with_announced : {V : Type 0} (table : Table V) (bucket id : ℕ) → slot_at (with_announced table bucket) id ≡ slot_at table id
unfolding slot_at with_announced
slot_at-with_announced table bucket id = refl

pub bucket_stands-with_announced : {V : Type 0} (table : Table V) (bucket other : ℕ)
    → bucket_stands (with_announced table bucket) other ≡ bucket_stands table other
unfolding bucket_stands with_announced
bucket_stands-with_announced table bucket other = refl

pub number_at-with_announced : {V : Type 0} (table : Table V) (bucket other : ℕ)
    → number_at (with_announced table bucket) other ≡ number_at table other
unfolding number_at with_announced
number_at-with_announced table bucket other = refl

pub announced-with_announced : {V : Type 0} (table : Table V) (bucket other : ℕ)
    → (with_announced table bucket).announced other ≡ cond (eqb bucket other) true (table.announced other)
unfolding with_announced
announced-with_announced table bucket other = refl

pub announced-more : {V : Type 0} (table : Table V) (bucket other : ℕ) → IsTrue (table.announced other)
    → IsTrue ((with_announced table bucket).announced other)
announced-more table bucket other t =
    announced-with_announced table bucket other
    ∙ cond_both (eqb bucket other) true (table.announced other) (λ b. b ≡ true) (λ _. refl) (λ _. t)

pub announced-own : {V : Type 0} (table : Table V) (bucket : ℕ) → IsTrue ((with_announced table bucket).announced bucket)
announced-own table bucket =
    announced-with_announced table bucket bucket ∙ ap (λ here. cond here true (table.announced bucket)) (eq-eqb bucket bucket refl)

-- an install and a changed slot announce nothing
pub announced-with_fresh_bucket : {V : Type 0} (table : Table V) (bucket number : ℕ)
    → (with_fresh_bucket table bucket number).announced ≡ table.announced
unfolding with_fresh_bucket
announced-with_fresh_bucket table bucket number = refl

pub announced-with_table_slot : {V : Type 0} (table : Table V) (id : ℕ) (slot : Slot V)
    → (with_table_slot table id slot).announced ≡ table.announced
unfolding with_table_slot
announced-with_table_slot table id slot = refl

pub announced-with_filled_bucket : {V : Type 0} (table : Table V) (id number : ℕ) (v : V)
    → (with_filled_bucket table id number v).announced ≡ table.announced
announced-with_filled_bucket table id number v =
    announced-with_table_slot (with_fresh_bucket table (bucket_of id) number) id _
    ∙ announced-with_fresh_bucket table (bucket_of id) number

-- an install leaves every other pointer at its bucket
pub number_at-with_fresh_bucket : {V : Type 0} (table : Table V) (bucket number other : ℕ)
    → (bucket ≡ other → ⊥)
    → number_at (with_fresh_bucket table bucket number) other ≡ number_at table other
unfolding number_at with_fresh_bucket
number_at-with_fresh_bucket table bucket number other apart = rw (ne_eqb bucket other apart) refl

pub number_at-with_filled_bucket : {V : Type 0} (table : Table V) (id number : ℕ) (v : V) (other : ℕ)
    → (bucket_of id ≡ other → ⊥)
    → number_at (with_filled_bucket table id number v) other ≡ number_at table other
number_at-with_filled_bucket table id number v other apart =
    number_at-with_table_slot (with_fresh_bucket table (bucket_of id) number) id other _
    ∙ number_at-with_fresh_bucket table (bucket_of id) number other apart

-- the table of a capacity has a bucket for each binary digit, and empty slots
slot_of-made : {V : Type 0} (b : Bool) (number index : ℕ)
    → slot_of {V = V} (cond b (Some (fresh_bucket number)) None) index ≡ empty_slot
slot_of-made true number index = refl
slot_of-made false number index = refl

pub slot_at-made_table : {V : Type 0} (capacity id : ℕ) → slot_at {V = V} (made_table capacity) id ≡ empty_slot
unfolding slot_at made_table
slot_at-made_table capacity id = slot_of-made (reserves_bucket capacity (bucket_of id)) (bucket_of id) (index_of id)

some-made : {A : Type 0} (b : Bool) (x : A) → is_some (cond b (Some x) None) ≡ b
some-made true x = refl
some-made false x = refl

pub bucket_stands-made_table : (T : Type 0) (capacity bucket : ℕ)
    → bucket_stands {V = T} (made_table capacity) bucket ≡ reserves_bucket capacity bucket
unfolding bucket_stands made_table
bucket_stands-made_table T capacity bucket = some-made {A = Bucket T} (reserves_bucket capacity bucket) (fresh_bucket bucket)

-- the table of a capacity announces the first seven buckets alone
pub announced-made_table : (T : Type 0) (capacity bucket : ℕ) → (made_table {V = T} capacity).announced bucket ≡ nat_lt bucket 7
unfolding made_table
announced-made_table T capacity bucket = refl

-- a pointer that leads to a bucket is not null
some-mapped : {A B : Type 0} (f : A → B) (o : Option A) (b : B) → option_map f o ≡ Some b → IsTrue (is_some o)
some-mapped f None b e = cc
some-mapped f (Some a) b e = refl

pub numbered_stands : {V : Type 0} (table : Table V) (bucket k : ℕ) → number_at table bucket ≡ Some k → IsTrue (bucket_stands table bucket)
unfolding number_at bucket_stands
numbered_stands table bucket k e = some-mapped (λ here. here.number) (table.pointers bucket) k e

-- a bucket that stands keeps its number where each number of it stays
numbered : {V : Type 0} (old new : Table V) (bucket : ℕ) (pointer : Option (Bucket V))
    → option_map (λ here. here.number) pointer ≡ number_at old bucket
    → IsTrue (is_some pointer)
    → ((k : ℕ) → number_at old bucket ≡ Some k → number_at new bucket ≡ Some k)
    → IsSameBucket old new bucket
numbered old new bucket None e t stays = absurd (false≢true t)
numbered old new bucket (Some here) e t stays =
    let then = stays here.number (sym e) in (numbered_stands new bucket here.number then, then ∙ e)

pub same_bucket : {V : Type 0} (old new : Table V) (bucket : ℕ)
    → ((k : ℕ) → number_at old bucket ≡ Some k → number_at new bucket ≡ Some k)
    → IsTrue (bucket_stands old bucket)
    → IsSameBucket old new bucket
unfolding number_at bucket_stands
same_bucket old new bucket stays t = numbered old new bucket (old.pointers bucket) refl t stays

-- a bucket that stands is at no other place
pub at_one_place : {V : Type 0} (table : Table V) (a b : ℕ)
    → ((k : ℕ) → number_at table a ≡ Some k → number_at table b ≡ Some k → a ≡ b)
    → IsTrue (bucket_stands table a) → number_at table a ≡ number_at table b
    → a ≡ b
unfolding number_at bucket_stands
at_one_place table a b apart t e = placed table a b (table.pointers a) refl t e apart
  where
    placed : {V : Type 0} (table : Table V) (a b : ℕ) (pointer : Option (Bucket V))
        → option_map (λ here. here.number) pointer ≡ number_at table a
        → IsTrue (is_some pointer) → number_at table a ≡ number_at table b
        → ((k : ℕ) → number_at table a ≡ Some k → number_at table b ≡ Some k → a ≡ b)
        → a ≡ b
    placed table a b None at t e apart = absurd (false≢true t)
    placed table a b (Some here) at t e apart = apart here.number (sym at) (sym e ∙ sym at)
