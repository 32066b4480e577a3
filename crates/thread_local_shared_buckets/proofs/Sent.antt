-- What a claim owns names no thread, if its values may go to another thread.
use Rattle.std.proofs.Common.{ℕ, ◌+◌, Option, None, Some}
use mathlib.Core.Logic.{inl, inr}
use base.Fml.{Lft, GName, fex}
use base.Shift.{Keyless}
use denote.RattleType.{RattleType}
use denote.Param.Send.{IsSend}
use denote.RawPtr.{block_of, count_of}
use Rattle.thread_local_base.specs.Judged.{Judged}
use Rattle.thread_local_ids.proofs.ToldElements.{tells_keyless}
use Rattle.thread_local_ids.proofs.RightElements.{right_keyless}
use Rattle.thread_local_buckets.specs.Slots.{value_offset}
use Rattle.thread_local_shared_buckets.specs.Shared.{name_at, BucketView, Turn, StandingBlock, age, by, holds}
use Rattle.thread_local_shared_buckets.proofs.BucketSent.{value_keyless, kept_keyless, row_keyless}
use Rattle.thread_local_base.specs.Learnt.{Learnt, Unknown, Missing, Standing, Vacant, Holding}
use Rattle.thread_local_shared_buckets.specs.Claims.{ClaimFields, has_slot, has, claim_owns}

module _ (R : RattleType) (sent : IsSend R) where
  by_keyless : (t : Turn) (b ν e : ℕ) (η : GName) (x : R.Denot) (j : Judged R) → Keyless (by R t b ν e η x j)
  by_keyless t b ν e η x (inl shareable) = shareable x b e (age R t b ν)
  by_keyless t b ν e η x (inr not) = value_keyless R sent b e η

  holds_keyless : (t : Turn) (b ν : ℕ) (sharing : Option GName) (k e : ℕ) (η : GName)
      (v : Option R.Denot)
      → Keyless (holds R t b ν sharing k e η v)
  holds_keyless t b ν sharing k e η None = (right_keyless t.vacant k, (tt, value_keyless R sent b e η))
  holds_keyless t b ν sharing k e η (Some x) = (
    right_keyless t.filled k,
    ((tt, tells_keyless R sharing k (Some x)), λ j. by_keyless t b ν e η x j),
  )

  slot_keyless : (d : BucketView) (t : Turn) (β : Lft) (c : ClaimFields) (v : Option R.Denot)
      → Keyless (fex StandingBlock (has_slot R d t β c v))
  slot_keyless d t β c v = λ s. (
    (λ _. tt),
    (
      row_keyless R sent d t s β,
      holds_keyless t (block_of s.at) s.block_life d.sharing c.id
          (value_offset R (count_of s.at) c.index) (name_at s.names c.index) v,
    ),
  )

  has_keyless : (d : BucketView) (t : Turn) (β : Lft) (c : ClaimFields) (l : Learnt R.Denot) → Keyless (has R d t β c l)
  has_keyless d t β c Unknown = ((λ _. tt), right_keyless d.table c.id)
  has_keyless d t β c Missing = ((λ _. tt), right_keyless t.pass c.id)
  has_keyless d t β c Standing = tt
  has_keyless d t β c Vacant = slot_keyless d t β c None
  has_keyless d t β c (Holding x) = slot_keyless d t β c (Some x)

  pub claim_keyless : (β : Lft) (table : ℕ) (c : ClaimFields) (l : Learnt R.Denot) (state : ℕ)
      → Keyless (claim_owns R β table c l state)
  claim_keyless β table c l state = (
    (λ _. tt),
    λ z. ((λ _. tt), (kept_keyless R sent z.0 z.1 (block_of c.bucket) (count_of c.bucket + 0) β, has_keyless z.0 z.1 β c l)),
  )
