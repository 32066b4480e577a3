-- What a claim has, by what it has learnt. Assumes `Logic`.
use Rattle.std.proofs.Common.{◌≡◌, ℕ, ◌+◌, ◌/◌, ◌^◌, ◌<◌, Bool, true, false, bit_and, refl, ap, ◌∙◌, arith, lit<}
use Rattle.std.proofs.Common.{⊎_elim, Option, None, Some, is_some}
use Rattle.std.specs.Int.{bit_at}
use Rattle.std.proofs.lemmas.Bool.{cases_eq}
use Rattle.std.proofs.lemmas.Nat.Bits.{shr_and_one, bit_at-lt}
use Rattle.thread_local_base.specs.Bits.{is_set}
use seplogic.Ra.Ura.{Ura}
use base.Logic.{ent, id⊢}
use base.Fml.{Lft, fsep, fex}
use types.Logic.{Logic, sem}
use denote.RattleType.{RattleType}
use Rattle.thread_local_base.specs.Learnt.{Learnt, Unknown, Missing, Standing, Vacant, Holding, learnt_by_look, Finds}
use Rattle.thread_local_base.specs.Fact.{fact}
use Rattle.thread_local_shared_buckets.specs.Shared.{BucketView, Turn, StandingBlock}
use Rattle.thread_local_shared_buckets.specs.Known.{HasLooked, MayLook, looked_in_vain, state_by, value_held, found_as}
use Rattle.thread_local_shared_buckets.specs.Claims.{ClaimFields, has_slot, has, claims_side, IsStateOf}

pub known_as : {X : Type 0} (v : Option X) → HasLooked (found_as v)
known_as None = tt
known_as (Some x) = tt

pub not_missing : {X : Type 0} (v : Option X) → found_as v ≡ Missing → ⊥
not_missing None e = cc
not_missing (Some x) e = cc

-- what it is to find in the model: a load of null, or a load of a pointer to a block and then a
-- look at the slot
pub finds_nothing : {X : Type 0} (l : Learnt X) → MayLook l → Finds l Missing
finds_nothing Unknown h = record { stands = false; shown = None; learnt = refl }
finds_nothing Missing h = record { stands = false; shown = None; learnt = refl }
finds_nothing Standing h = absurd h
finds_nothing Vacant h = absurd h
finds_nothing (Holding x) h = absurd h

looked_at : {X : Type 0} (v : Option X) → learnt_by_look Standing v ≡ Some (found_as v)
looked_at None = refl
looked_at (Some x) = refl

pub finds_slot : {X : Type 0} (l : Learnt X) → MayLook l → (v : Option X) → Finds l (found_as v)
finds_slot Unknown h v = record { stands = true; shown = v; learnt = looked_at v }
finds_slot Missing h v = record { stands = true; shown = v; learnt = looked_at v }
finds_slot Standing h v = absurd h
finds_slot Vacant h v = absurd h
finds_slot (Holding x) h v = absurd h

-- a claim whose slot holds a value knows the value
pub holding : {X : Type 0} (l : Learnt X) → is_some (value_held l) ≡ true → (x : X) × (l ≡ Holding x)
holding (Holding x) e = (x, refl)
holding Unknown e = cc
holding Missing e = cc
holding Standing e = cc
holding Vacant e = cc

-- the flag tells whether the slot holds a value
pub kept_as : (R : RattleType) (v : Option R.Denot) (set : Bool) → set ≡ is_some v → IsStateOf R (state_by set) (found_as v)
kept_as R None set e = ap state_by e
kept_as R (Some x) set e = ap state_by e

pub state_by-fits : (set : Bool) → state_by set < 2 ^ 64
state_by-fits false = lit< tt
state_by-fits true = lit< tt

-- the number by the flag, as code computes it: `1 + (word >> bit & 1)`
pub state_by-flag : (word bit : ℕ) → 1 + bit_and (word / 2 ^ bit) 1 ≡ state_by (is_set word bit)
state_by-flag word bit = ap (λ n. 1 + n) (shr_and_one word bit) ∙ ⊎_elim
    (λ (one : bit_at word bit ≡ 1). rw one refl)
    (λ other. let none : bit_at word bit ≡ 0 = omega (arith, bit_at-lt word bit) in rw none refl)
    (cases_eq (bit_at word bit) 1)

module _ {M : Type 1} {𝓤 : Ura M} (𝓛 : Logic 𝓤) (R : RattleType) (d : BucketView) (t : Turn) (β : Lft) (c : ClaimFields) where
  -- before a claim has found its bucket, it points to the bucket's pointer, and has its right or
  -- the pass
  pub unfound : (l : Learnt R.Denot) → MayLook l
      → ent 𝓤 (sem 𝓛 (has R d t β c l))
      (sem 𝓛 (fsep (fact (c.at ≡ c.bucket)) (claims_side (looked_in_vain l) d.table t.pass c.id)))
  unfound Unknown h = id⊢ 𝓤 _
  unfound Missing h = id⊢ 𝓤 _
  unfound Standing h = absurd h
  unfound Vacant h = absurd h
  unfound (Holding x) h = absurd h

  -- once a claim has found its bucket, it has what the slot holds
  pub found : (v : Option R.Denot)
      → ent 𝓤 (sem 𝓛 (fex StandingBlock (has_slot R d t β c v)))
      (sem 𝓛 (has R d t β c (found_as v)))
  found None = id⊢ 𝓤 _
  found (Some x) = id⊢ 𝓤 _
