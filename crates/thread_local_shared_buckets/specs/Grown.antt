-- Whether the buckets of an owner that stand are among some.
use Rattle.std.specs.Prelude.{ℕ, zero, suc, Bool, true, false, if◌then◌else◌, nat_lt}
use Rattle.thread_local_base.specs.Buckets.{stands}
use Rattle.thread_local_base.specs.Owned.{Owned}
use Rattle.thread_local_base.specs.Place.{id_at}

-- whether a bucket is among some if it stands
abbrev pub is_among : Bool → Bool → Bool
is_among true among = among
is_among false among = true

-- whether each bucket below n that stands is among these
unfoldable pub stand_among_below : (ℕ → Bool) → (ℕ → Bool) → ℕ → Bool
stand_among_below among stands zero = true
stand_among_below among stands (suc b) = if is_among (stands b) (among b) then stand_among_below among stands b else false

-- whether each bucket of a table that stands is among these
unfoldable pub stand_among : (ℕ → Bool) → (ℕ → Bool) → Bool
stand_among among stands = stand_among_below among stands 63

-- whether no bucket stands but reserved ones
abbrev pub only_reserved : {V : Type 0} → Owned V → Bool
only_reserved owned = stand_among (λ bucket. nat_lt (id_at bucket 0) owned.reserved) (stands owned.contents)
