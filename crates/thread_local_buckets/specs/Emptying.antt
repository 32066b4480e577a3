-- What a block owns while it is emptied: room where its first slots were, and its other slots.
use Rattle.std.specs.Prelude.{◌≡◌, ℕ, ◌+◌, List, [], ◌∷◌, length, Option}
use base.Fml.{Fml, fsep, fex}
use mir.Syntax.{Ty}
use denote.RattleType.{RattleType}
use denote.RawPtr.{Ptr, block_of, count_of, InBlock}
use Rattle.thread_local_buckets.specs.Slots.{empty_slots, chunks, Fits, AreWords, AreFlagsFrom, each, flags_at, slot, block_ty, back}
use Rattle.thread_local_base.specs.Fact.{fact}

-- the slots after the first
abbrev pub rest : {X : Type 0} → List (Option X) → List (Option X)
rest [] = []
rest (c ∷ cs) = cs

-- words whose bits from `gone` on are the flags of the slots that are left; the bits before may be
-- anything
abbrev pub flags_left : (R : RattleType) → ℕ → ℕ → ℕ → List (Option R.Denot) → List ℕ → Fml
flags_left R b o gone cs ns =
    fsep (fact ((length ns ≡ chunks (gone + length cs)) × AreWords ns × AreFlagsFrom gone ns cs))
    (each (flags_at R (gone + length cs) b o) ns 0)

-- those words, room for the values of the first slots, the slots that are left, the way back to the
-- block's room, and the right to free it
abbrev pub emptying_owns : (R : RattleType) → (Ty → Ptr → Fml) → Ptr → ℕ → List (Option R.Denot) → Fml
emptying_owns R token p gone cs =
    fsep (fact (InBlock p × Fits R (gone + length cs))) (fsep
    (fex (List ℕ) (flags_left R (block_of p) (count_of p) gone cs))
    (fsep (each (slot R (block_of p) (count_of p)) (empty_slots gone) 0) (fsep (each (slot R (block_of p) (count_of p)) cs gone)
    (fsep (back R (block_of p) (count_of p) (gone + length cs)) (token (block_ty R (gone + length cs)) p)))))
