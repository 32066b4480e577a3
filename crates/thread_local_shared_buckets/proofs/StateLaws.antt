-- What the number tells that a claim keeps for what it has learnt.
use Rattle.std.proofs.Common.{◌≡◌, eqb, refl, is_some}
use Rattle.thread_local_base.specs.Learnt.{Learnt, Unknown, Missing, Standing, Vacant, Holding}
use Rattle.thread_local_shared_buckets.specs.Known.{points_to_pointer, state_of, value_held}

pub missing_by : {X : Type 0} (l : Learnt X) → eqb (state_of l) 0 ≡ points_to_pointer l
missing_by Unknown = refl
missing_by Missing = refl
missing_by Standing = refl
missing_by Vacant = refl
missing_by (Holding x) = refl

pub published_by : {X : Type 0} (l : Learnt X) → eqb (state_of l) 2 ≡ is_some (value_held l)
published_by Unknown = refl
published_by Missing = refl
published_by Standing = refl
published_by Vacant = refl
published_by (Holding x) = refl
