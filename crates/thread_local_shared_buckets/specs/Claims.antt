-- What a claim owns, by what it has learnt of its slot, and what a `&` to it shows.
--
-- A claim begins with the right to an id, under one sharing of the id's bucket. As soon as it has
-- looked, the right lies in the bucket's invariant. Where the bucket was missing, the claim has the
-- pass of its slot for it. Once the bucket stands, it has what the slot holds.
use Rattle.std.specs.Prelude.{◌≡◌, ℕ, ◌+◌, ◌/◌, ◌^◌, ◌<◌, Bool, true, false, Option, None, Some, is_some}
use Rattle.thread_local_base.specs.Place.{bucket_of, index_of}
use Rattle.thread_local_base.specs.Learnt.{Learnt, Unknown, Missing, Standing, Vacant, Holding}
use Rattle.thread_local_shared_buckets.specs.Known.{state_of, value_held}
use mathlib.Core.Logic.{inl, inr}
use base.Fml.{Lft, GName, Fml, ffalse, fsep, fex}
use denote.RattleType.{RattleType}
use denote.Memory.{shared_of}
use denote.RawPtr.{Ptr, InBlock, block_ptr, block_of, count_of}
use denote.Sharing.{said, beside, within, some, held, nothing}
use Rattle.thread_local_ids.specs.Rights.{right_owns}
use Rattle.thread_local_base.specs.Judged.{Judged}
use Rattle.thread_local_buckets.specs.Slots.{flag_word_at, value_offset}
use Rattle.thread_local_base.specs.Fact.{fact}
use Rattle.thread_local_ids.specs.Told.{tells}
use Rattle.thread_local_shared_buckets.specs.Announcing.{Announcing}
use Rattle.thread_local_shared_buckets.specs.Shared.{name_at, BucketView, Turn, StandingBlock, holds, first, len, kept, loaded}

-- a claim without the value that its slot holds: its id, the index of its slot, the address of its
-- bucket's pointer, where it points itself, the sharing if that has a name, what the table's word of
-- announced buckets is, and whether the bucket is reserved
pub record ClaimFields : Type 0 where
  pub id : ℕ
  pub index : ℕ
  pub bucket : Ptr
  pub at : Ptr
  pub sharing : Option ℕ
  pub word : Announcing
  pub reserved : Bool

abbrev pub claim_fields : ℕ → ℕ → Ptr → Ptr → Option ℕ → Announcing → Bool → ClaimFields
claim_fields id index bucket at sharing word reserved = record {
  id = id;
  index = index;
  bucket = bucket;
  at = at;
  sharing = sharing;
  word = word;
  reserved = reserved;
}

-- what a claim has where it has found no bucket: its right, or the pass of its slot once it has
-- looked. `slots_side` is what lies with the slot meanwhile
abbrev pub claims_side : Bool → GName → GName → ℕ → Fml
claims_side false table pass id = right_owns table id
claims_side true table pass id = right_owns pass id

-- what a look at the slot tells: the flag tells whether the slot holds a value, and a claim that had
-- looked before finds it empty
abbrev pub IsTold : {X : Type 0} → Bool → Bool → Option X → Type 0
IsTold looked set v = (set ≡ is_some v) × (looked ≡ true → v ≡ None)

module _ (R : RattleType) where
  -- the number of the word that has the flag of an id's slot, as the code computes it
  abbrev pub flag_word_of : ℕ → ℕ
  flag_word_of id = flag_word_at R (2 ^ bucket_of id) (index_of id / 64)

  -- the address of the value at an index, in a block at this pointer
  abbrev pub value_at : Ptr → ℕ → Ptr
  value_at p i = block_ptr (block_of p) (value_offset R (count_of p) i)

  module _ (d : BucketView) (t : Turn) (β : Lft) (c : ClaimFields) where
    -- what a claim has of a standing block, where the slot holds v: it points to the slot's value
    abbrev pub has_slot : Option R.Denot → StandingBlock → Fml
    has_slot v s =
        fsep (fact (c.at ≡ value_at s.at c.index))
        (fsep (loaded R d t s β) (holds R t (block_of s.at) s.block_life d.sharing c.id
        (value_offset R (count_of s.at) c.index) (name_at s.names c.index) v))

    -- what a claim has before it has found its bucket: its address is that of the bucket's pointer, and
    -- it owns one right. `name` says which: the table's, its right to the id; the pass, what it was
    -- given for that right when it looked in vain
    abbrev pub has_no_slot : GName → Fml
    has_no_slot name = fsep (fact (c.at ≡ c.bucket)) (right_owns name c.id)

    -- what a claim has, by what it has learnt; none knows that its bucket stands and not what its
    -- slot holds
    abbrev pub has : Learnt R.Denot → Fml
    has Unknown = has_no_slot d.table
    has Missing = has_no_slot t.pass
    has Standing = ffalse
    has Vacant = fex StandingBlock (has_slot None)
    has (Holding x) = fex StandingBlock (has_slot (Some x))

  -- the number that a claim keeps at run time is that of what it has learnt
  abbrev pub IsStateOf : ℕ → Learnt R.Denot → Type 0
  IsStateOf state l = state ≡ state_of l

  -- the claim is of this bucket, and its id is the one at its index there
  abbrev pub IsOf : ℕ → ClaimFields → BucketView → Type 0
  IsOf table c d =
      InBlock c.bucket × Judged R × (d.table ≡ table) × (c.id ≡ c.index + first R d)
      × (c.index < len R d) × (d.reserved ≡ c.reserved) × (d.sharing ≡ c.sharing) × (d.word ≡ c.word)

  module _ (β : Lft) (table : ℕ) (c : ClaimFields) (l : Learnt R.Denot) where
    -- a claim under one sharing of its bucket
    abbrev pub has_at : BucketView × Turn → Fml
    has_at z = fsep (fact (IsOf table c z.0)) (fsep (kept R z.0 z.1 (block_of c.bucket) (count_of c.bucket + 0) β) (has z.0 z.1 β c l))

    abbrev pub claim_owns : ℕ → Fml
    claim_owns state = fsep (fact (IsStateOf state l)) (fex (BucketView × Turn) has_at)

  -- a `&` to the value for as long as the bucket is borrowed, where it names no thread
  abbrev pub lasts : Lft → ℕ → ℕ → R.Denot → Judged R → Lft → Fml
  lasts β b e x (inl _) = held β (shared_of R x b e)
  lasts β b e x (inr _) = nothing

  -- what a `&` to a claim shows: a `&` to the value that it points to, if its slot holds one, and
  -- that it is told of its id
  abbrev pub shows_value : Lft → ClaimFields → Option R.Denot → Lft → Fml
  shows_value β c None = nothing
  shows_value β c (Some x) = let b : ℕ = block_of c.at in let e : ℕ = count_of c.at in
      beside (said (fact (InBlock c.at)))
      (beside (within β (shared_of R x b e))
      (beside (some (Judged R) (lasts β b e x)) (said (tells R c.sharing c.id (Some x)))))

  abbrev pub claim_shares : Lft → ClaimFields → Learnt R.Denot → ℕ → Lft → Fml
  claim_shares β c l state = beside (said (fact (IsStateOf state l))) (shows_value β c (value_held l))
