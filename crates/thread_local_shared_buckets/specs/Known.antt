-- What a claim has learnt of its slot: nothing yet, that the bucket is missing, that the slot is
-- vacant, or the value that it holds.
use Rattle.std.specs.Prelude.{ℕ, Bool, true, false, Option, None, Some, ⊤}
use Rattle.thread_local_base.specs.Learnt.{Learnt, Unknown, Missing, Standing, Vacant, Holding}

-- the claim has looked: its bucket was missing, or it has seen its slot. Every claim that a call
-- hands out has
abbrev pub HasLooked : {V : Type 0} → Learnt V → Type 0
HasLooked Unknown = ⊥
HasLooked Missing = ⊤
HasLooked Standing = ⊥
HasLooked Vacant = ⊤
HasLooked (Holding v) = ⊤

-- the claim has not looked yet, or has found its bucket missing: it may look for its bucket
abbrev pub MayLook : {V : Type 0} → Learnt V → Type 0
MayLook Unknown = ⊤
MayLook Missing = ⊤
MayLook Standing = ⊥
MayLook Vacant = ⊥
MayLook (Holding v) = ⊥

-- whether the claim points to its bucket's pointer, and not to its slot: true unless it is vacant or
-- holding
abbrev pub points_to_pointer : {V : Type 0} → Learnt V → Bool
points_to_pointer Unknown = true
points_to_pointer Missing = true
points_to_pointer Standing = true
points_to_pointer Vacant = false
points_to_pointer (Holding v) = false

-- the number by which a claim keeps what it has learnt: 0 where it has found no bucket, 1 where its
-- slot is vacant, 2 where it holds a value
abbrev pub state_of : {V : Type 0} → Learnt V → ℕ
state_of Unknown = 0
state_of Missing = 0
state_of Standing = 0
state_of Vacant = 1
state_of (Holding v) = 2

-- the number of a claim that has found its bucket, by its slot's flag
abbrev pub state_by : Bool → ℕ
state_by false = 1
state_by true = 2

-- whether the claim has looked for its bucket and found it missing
abbrev pub looked_in_vain : {V : Type 0} → Learnt V → Bool
looked_in_vain Unknown = false
looked_in_vain Missing = true
looked_in_vain Standing = false
looked_in_vain Vacant = false
looked_in_vain (Holding v) = false

-- the value that the slot is known to hold, if any
abbrev pub value_held : {V : Type 0} → Learnt V → Option V
value_held Unknown = None
value_held Missing = None
value_held Standing = None
value_held Vacant = None
value_held (Holding v) = Some v

-- what a claim learns of a slot that holds this
abbrev pub found_as : {V : Type 0} → Option V → Learnt V
found_as None = Vacant
found_as (Some v) = Holding v
