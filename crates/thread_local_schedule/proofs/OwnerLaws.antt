-- An owner's walk gives the published values by ascending id, and an owner's writes change values
-- only.
use Rattle.std.proofs.Common.{◌≡◌, ℕ, zero, suc, ◌+◌, ◌-◌, ◌^◌, Bool, true, false, ◌++◌, Option, Some, None, is_some}
use Rattle.std.proofs.Common.{refl, ap, sym, ◌∙◌, subst, arith, pow_pos, add_comm}
use Rattle.std.specs.Prelude.{option_map}
use Rattle.std.proofs.Math.Nat.{two-pow-succ}
use Rattle.thread_local_base.specs.Place.{bucket_of, index_of, id_at}
use Rattle.thread_local_base.specs.Walk.{walk, walk_below}
use Rattle.thread_local_base.proofs.PlaceLaws as place
use Rattle.thread_local_base.proofs.WalkLaws.{walk_below-same, walk_below-none, walk_below-add}
use Rattle.thread_local_schedule.specs.Table.{Bucket, Table, value_of, slot_of, slot_at, published, bucket_stands}
use Rattle.thread_local_schedule.specs.OwnerWalk.{values_in, owner_walk_below, owner_walk, rewritten_slot, rewritten_bucket, rewritten}
use Rattle.thread_local_schedule.specs.Fits.{IsWritten, AllWritten, number_at}
use Rattle.thread_local_schedule.proofs.WalkStepLaws.{shown_at_place}

-- what an owner finds in a bucket is what its slots show, in order
values_in-walk_below : {V : Type 0} (pointer : Option (Bucket V)) (bucket : ℕ)
    → values_in pointer bucket ≡ walk_below (λ index. value_of (slot_of pointer index)) (2 ^ bucket)
values_in-walk_below None bucket = sym (walk_below-none (λ _. None) (2 ^ bucket) (λ _ _. refl))
values_in-walk_below (Some here) bucket = refl

-- what an owner finds in bucket n is the walk of what is published at its ids
one_bucket : {V : Type 0} (table : Table V) (n : ℕ)
    → values_in (table.pointers n) n ≡ walk_below (λ i. published table (2 ^ n - 1 + i)) (2 ^ n)
one_bucket table n =
    values_in-walk_below (table.pointers n) n
    ∙ walk_below-same (λ index. value_of (slot_of (table.pointers n) index)) (λ i. published table (2 ^ n - 1 + i)) (2 ^ n)
    (λ i l. sym (shown_at_place table n i l) ∙ ap (published table) (add_comm i (2 ^ n - 1)))

-- what an owner finds in the buckets below n is the walk of what is published at theirs
owner_walk_below-walk_below : {V : Type 0} (table : Table V) (n : ℕ)
    → owner_walk_below table n ≡ walk_below (published table) (2 ^ n - 1)
unfolding owner_walk_below
owner_walk_below-walk_below table zero = sym (walk_below-none (published table) 0 (λ id l. absurd (omega arith)))
owner_walk_below-walk_below table (suc n) =
    let twice = two-pow-succ n in
    let some = pow_pos n in
    let size : 2 ^ n - 1 + 2 ^ n ≡ 2 ^ suc n - 1 = omega arith in
    ap (λ vs. vs ++ values_in (table.pointers n) n) (owner_walk_below-walk_below table n)
    ∙ ap (λ vs. walk_below (published table) (2 ^ n - 1) ++ vs) (one_bucket table n)
    ∙ sym (walk_below-add (published table) (2 ^ n - 1) (2 ^ n))
    ∙ ap (walk_below (published table)) size

pub owner_walk-walk : {V : Type 0} (table : Table V) → owner_walk table ≡ walk (published table)
unfolding owner_walk walk
owner_walk-walk table = owner_walk_below-walk_below table 63

-- an owner's writes change the value that a slot shows, and nothing else
pub value_of-rewritten_slot : {V : Type 0} (other : V → V) (written : Option V) (flag : Bool)
    → value_of (rewritten_slot other (record { written = written; flag = flag }))
    ≡ option_map other (value_of (record { written = written; flag = flag }))
value_of-rewritten_slot other written true = refl
value_of-rewritten_slot other written false = refl

pub slot_of-rewritten_bucket : {V : Type 0} (others : ℕ → V → V) (pointer : Option (Bucket V))
    (index : ℕ)
    → slot_of (rewritten_bucket others pointer) index
    ≡ rewritten_slot (others index) (slot_of pointer index)
slot_of-rewritten_bucket others None index = refl
slot_of-rewritten_bucket others (Some here) index = refl

slot_at-rewritten : {V : Type 0} (table : Table V) (others : ℕ → V → V) (id : ℕ)
    → slot_at (rewritten table others) id ≡ rewritten_slot (others id) (slot_at table id)
unfolding slot_at rewritten
slot_at-rewritten table others id =
    slot_of-rewritten_bucket (λ index. others (id_at (bucket_of id) index)) (table.pointers (bucket_of id)) (index_of id)
    ∙ ap (λ j. rewritten_slot (others j) (slot_of (table.pointers (bucket_of id)) (index_of id))) (place.id_at-place id)

pub published-rewritten : {V : Type 0} (table : Table V) (others : ℕ → V → V) (id : ℕ)
    → published (rewritten table others) id ≡ option_map (others id) (published table id)
unfolding published
published-rewritten table others id =
    ap value_of (slot_at-rewritten table others id)
    ∙ value_of-rewritten_slot (others id) (slot_at table id).written (slot_at table id).flag

IsWritten-rewritten_slot : {V : Type 0} (other : V → V) (written : Option V) (flag : Bool)
    → IsWritten (record { written = written; flag = flag })
    → IsWritten (rewritten_slot other (record { written = written; flag = flag }))
IsWritten-rewritten_slot other (Some v) true h t = refl
IsWritten-rewritten_slot other None true h t = h t
IsWritten-rewritten_slot other written false h t = h t

pub AllWritten-rewritten : {V : Type 0} (table : Table V) (others : ℕ → V → V) → AllWritten table
    → AllWritten (rewritten table others)
AllWritten-rewritten table others h id =
    subst IsWritten (sym (slot_at-rewritten table others id))
    (IsWritten-rewritten_slot (others id) (slot_at table id).written
    (slot_at table id).flag (h id))

some-rewritten_bucket : {V : Type 0} (others : ℕ → V → V) (pointer : Option (Bucket V))
    → is_some (rewritten_bucket others pointer) ≡ is_some pointer
some-rewritten_bucket others None = refl
some-rewritten_bucket others (Some here) = refl

pub bucket_stands-rewritten : {V : Type 0} (table : Table V) (others : ℕ → V → V) (bucket : ℕ)
    → bucket_stands (rewritten table others) bucket ≡ bucket_stands table bucket
unfolding bucket_stands rewritten
bucket_stands-rewritten table others bucket = some-rewritten_bucket (λ index. others (id_at bucket index)) (table.pointers bucket)

-- an owner's writes change no pointer
number_at-rewritten_bucket : {V : Type 0} (others : ℕ → V → V) (pointer : Option _)
    → option_map (λ here. here.number) (rewritten_bucket others pointer)
    ≡ option_map (λ here. here.number) pointer
number_at-rewritten_bucket others None = refl
number_at-rewritten_bucket others (Some here) = refl

pub number_at-rewritten : {V : Type 0} (table : Table V) (others : ℕ → V → V) (bucket : ℕ)
    → number_at (rewritten table others) bucket ≡ number_at table bucket
unfolding number_at rewritten
number_at-rewritten table others bucket = number_at-rewritten_bucket (λ index. others (id_at bucket index)) (table.pointers bucket)

pub made-rewritten : {V : Type 0} (table : Table V) (others : ℕ → V → V) → (rewritten table others).made ≡ table.made
unfolding rewritten
made-rewritten table others = refl

pub announced-rewritten : {V : Type 0} (table : Table V) (others : ℕ → V → V) → (rewritten table others).announced ≡ table.announced
unfolding rewritten
announced-rewritten table others = refl
