-- A block may be sent to another thread where its values may.
use Rattle.std.proofs.Common.{ℕ, List, [], ◌∷◌}
use Rattle.std.specs.Prelude.{Option, Some, None, replicate}
use mir.Syntax.{Ty}
use base.Fraction.{full_share}
use base.Fml.{Fml}
use base.Shift.{Keyless}
use denote.RattleType.{RattleType}
use denote.RawPtr.{Ptr}
use denote.Param.Send.{IsSend, part_keyless}
use Rattle.std.proofs.Crossing.{frees}
use Rattle.thread_local_buckets.specs.Slots.{heap_token, empty_slots, chunks, each, content_at, flags_at, flag_room}
use Rattle.thread_local_buckets.specs.Slots.{slot, value_offset, back, block_owns}

pub token_keyless : (τ : Ty) (p : Ptr) → Keyless (heap_token τ p)
token_keyless τ p = λ a. frees.frees a τ p

pub each_keyless : {X : Type 0} (F : X → ℕ → Fml) → ((x : X) (k : ℕ) → Keyless (F x k))
    → (xs : List X) (j : ℕ)
    → Keyless (each F xs j)
each_keyless F one [] j = tt
each_keyless F one (x ∷ xs) j = (one x j, each_keyless F one xs _)

module _ (R : RattleType) (s : IsSend R) where
  pub place_keyless : (c : Option R.Denot) (b e : ℕ) → Keyless (content_at R c b e)
  place_keyless None b e = tt
  place_keyless (Some x) b e = part_keyless R s full_share x b e

  pub slots_keyless : (b o : ℕ) (cs : List (Option R.Denot)) (j : ℕ) → Keyless (each (slot R b o) cs j)
  slots_keyless b o cs j = each_keyless (slot R b o) (λ c k. place_keyless c b (value_offset R o k)) cs j

  pub back_keyless : (b o n : ℕ) → Keyless (back R b o n)
  back_keyless b o n = ((each_keyless (flag_room R n b o) (λ _ _. tt) (replicate (chunks n) 0) 0, slots_keyless b o (empty_slots n) 0), tt)

  pub block_keyless : (token : Ty → Ptr → Fml) → ((τ : Ty) (p : Ptr) → Keyless (token τ p))
      → (p : Ptr) (cs : List (Option R.Denot)) (left : ℕ)
      → Keyless (block_owns R token p cs left)
  block_keyless token freed p cs left = (
    (λ _. tt),
    (
      (λ ns. (
        (λ _. tt),
        (each_keyless (flags_at R _ _ _) (λ _ _. tt) ns _, each_keyless (flag_room R _ _ _) (λ _ _. tt) (replicate left 0) _),
      )),
      (slots_keyless _ _ cs _, (back_keyless _ _ _, freed _ p)),
    ),
  )
