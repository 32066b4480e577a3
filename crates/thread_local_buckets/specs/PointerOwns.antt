-- What a bucket's pointer owns: nothing where it is null, and else the block that it points to.
use Rattle.std.specs.Prelude.{◌≡◌, List, [], ◌∷◌, Option}
use base.Fml.{Fml}
use mir.Syntax.{Ty}
use denote.RattleType.{RattleType}
use denote.RawPtr.{Ptr, null_ptr}
use Rattle.thread_local_buckets.specs.Slots.{block_owns}
use Rattle.thread_local_base.specs.Fact.{fact}

-- the pointer is null where there are no slots, and else points to a block of these
abbrev pub pointer_owns : (R : RattleType) → (Ty → Ptr → Fml) → Ptr → List (Option R.Denot) → Fml
pointer_owns R token p [] = fact (p ≡ null_ptr)
pointer_owns R token p (c ∷ cs) = block_owns R token p (c ∷ cs) 0
