-- What a claim does that fills its slot, by what it has learnt.
use Rattle.std.proofs.Common.{◌≡◌, ◌≢◌, ◌∙◌, ℕ, Option, None, Some, refl, sym, ap, inl, inr}
use Rattle.std.specs.Prelude.{IsSome, MatchOption}
use Rattle.thread_local_base.specs.Learnt.{Learnt, Unknown, Missing, Standing, Vacant, Holding}
use Rattle.thread_local_shared_buckets.specs.Known.{HasLooked, found_as, state_of}
use Rattle.thread_local_shared_buckets.specs.Room.{IsEmpty, IsFilledBy}
use Rattle.thread_local_shared_buckets.specs.ClaimViews.{ClaimView}

module _ {V : Type 0} where
  held_still : (learnt : Learnt V) → state_of learnt ≡ 2 → (x : V) × (learnt ≡ Holding x)
  held_still Unknown two = absurd cc
  held_still Missing two = absurd cc
  held_still Standing two = absurd cc
  held_still Vacant two = absurd cc
  held_still (Holding x) two = (x, refl)

  -- the slot is filled already
  pub filled_already : (makes : V → Type 0) (claim : ClaimView V) (state : ℕ) → state ≡ state_of claim.learnt → state ≡ 2
      → IsFilledBy makes claim claim
  filled_already makes claim state is two =
      let there = held_still claim.learnt (sym is ∙ two) in
      record {
        value = there.0;
        holds = ap (λ (l : Learnt V). record claim { learnt = l }) there.1;
        made = inl there.1;
      }

  -- it is empty still
  pub empty_else : (inner learnt : Learnt V) (state : ℕ) → inner ≡ learnt → HasLooked inner → state ≡ state_of inner → state ≢ 2
      → IsEmpty learnt
  empty_else Unknown learnt state same looked is apart = absurd looked
  empty_else Missing learnt state same looked is apart = inl (sym same)
  empty_else Standing learnt state same looked is apart = absurd looked
  empty_else Vacant learnt state same looked is apart = inr (sym same)
  empty_else (Holding x) learnt state same looked is apart = absurd (apart is)

  -- it is filled by a publishing where there was room
  pub filled_by : (makes : V → Type 0) (claim room filled : ClaimView V) (value : V) → IsEmpty claim.learnt → makes value
      → room ≡ record claim { learnt = room.learnt } → filled ≡ record room { learnt = Holding value }
      → IsFilledBy makes claim filled
  filled_by makes claim room filled value empty made same published = record {
    value = value;
    holds = published ∙ ap (λ (c : ClaimView V). record c { learnt = Holding value }) same;
    made = inr (empty, made);
  }

  -- the number of a claim that finds a value
  pub holding_number : (v : Option V) → IsSome v → 2 ≡ state_of (found_as v)
  holding_number None some = absurd cc
  holding_number (Some x) some = refl

  -- a block without a value leaves the slot vacant, whichever block was installed first
  pub vacant_then : {B : Type 0} (back : Option B) (v : Option V) (learnt : Learnt V) → v ≡ None
      → MatchOption back (learnt ≡ found_as v) (λ _. learnt ≡ Vacant)
      → learnt ≡ Vacant
  vacant_then None v learnt none is = is ∙ ap found_as none
  vacant_then (Some block) v learnt none is = is
