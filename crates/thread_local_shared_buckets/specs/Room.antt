-- A claim's parts. The room that it has for a value: a vacant slot, or a block that was made for its
-- missing bucket. What filling the slot leaves.
use Rattle.std.specs.Prelude.{◌≡◌, ◌⊎◌, ℕ, true, ◌^◌, ◌-◌, ◌<◌, Option, None, Some}
use Rattle.thread_local_base.specs.Learnt.{Learnt, Missing, Vacant, Holding}
use Rattle.thread_local_base.specs.Place.{index_of}
use Rattle.thread_local_buckets.specs.Slots.{empty_slots}
use Rattle.thread_local_ids.specs.Sharings.{Belongs}
use Rattle.thread_local_ids.specs.Taken.{IsRightTo}
use Rattle.thread_local_ids.specs.declared.rights.right.Right.{Right}
use Rattle.thread_local_shared_buckets.specs.Announcing.{Announcing, BeginsWithFirst}
use Rattle.thread_local_shared_buckets.specs.Known.{HasLooked}
use Rattle.thread_local_shared_buckets.specs.declared.claimed.ClaimedSlot.{ClaimedSlot}
use Rattle.thread_local_buckets.specs.declared.block.Block.{Block}
use Rattle.thread_local_shared_buckets.specs.ClaimViews.{ClaimView}

-- the slot is vacant and there is no block, or the bucket of this number is missing and there is an
-- empty block for it from this heap
abbrev pub HasRoom : {V A : Type 0} → A → ℕ → Learnt V → Option (Block V A) → Type 0
HasRoom heap bucket learnt None = learnt ≡ Vacant
HasRoom heap bucket learnt (Some block) =
    (learnt ≡ Missing) × (block.heap ≡ heap) × (block.slots ≡ empty_slots (2 ^ bucket)) × (block.left ≡ 0)

-- What a claim keeps of its slot, the id, the word of announced buckets, and the right to the id: all are
-- of the same table, and the slot is that of the id.
abbrev pub IsClaim : {V : Type 0} → ClaimedSlot V → ℕ → Announcing → Right → Type 0
IsClaim slot id word right =
    (slot.id ≡ id)
    × (slot.index ≡ index_of id)
    × (id < 2 ^ 63 - 1)
    × HasLooked slot.learnt
    × Belongs slot.sharing slot.table
    × (slot.word ≡ word)
    × BeginsWithFirst word
    × IsRightTo slot.table id right
    × (right.lent ≡ true)

-- no value is known: the bucket was missing, or the slot is vacant
abbrev pub IsEmpty : {V : Type 0} → Learnt V → Type 0
IsEmpty learnt = (learnt ≡ Missing) ⊎ (learnt ≡ Vacant)

-- the slot holds a value then: the one that it held, or where it was empty, one that is made so
pub record IsFilledBy {V : Type 0} (makes : V → Type 0) (old new : ClaimView V) : Type 0 where
  pub value : V
  pub holds : new ≡ record old { learnt = Holding value }
  pub made : (old.learnt ≡ Holding value) ⊎ (IsEmpty old.learnt × makes value)
