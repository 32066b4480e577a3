-- What a bucket owns and shares names no thread, if its values may go to another thread.
use Rattle.std.proofs.Common.{ℕ, zero, suc, ◌+◌, Bool, true, false, List, ◌∷◌, Option, None, Some}
use mathlib.Core.Logic.{inl, inr}
use base.Fml.{Lft, GName}
use base.Shift.{Keyless}
use denote.RattleType.{RattleType}
use denote.RawPtr.{Ptr, block_ptr, null_ptr, block_of, count_of}
use denote.Param.Send.{IsSend}
use Rattle.thread_local_ids.proofs.ReachedElements.{reached_keyless}
use Rattle.thread_local_ids.proofs.RightElements.{right_keyless}
use Rattle.thread_local_base.specs.Chain.{chain_keyless}
use Rattle.thread_local_base.specs.Judged.{Judged}
use Rattle.thread_local_ids.proofs.ToldElements.{untold_keyless, tells_keyless, told_or_untold_keyless, all_telling_keyless}
use Rattle.thread_local_base.specs.Bits.{is_set_in}
use Rattle.thread_local_buckets.specs.Slots.{each, flags_at, empty_slots}
use Rattle.thread_local_buckets.specs.Slots.{value_offset, block_ty}
use Rattle.thread_local_shared_buckets.specs.Shared.{BucketView, Turn, StandingBlock, Who, free, claimed, early}
use Rattle.thread_local_shared_buckets.specs.Shared.{tracked_value, pinned_and_told, by, holds, stays, lies_with_slot, shared_slot}
use Rattle.thread_local_shared_buckets.specs.Shared.{numbered_slot, slots_side, all_unborn, rests, slots_rest, block_rests}
use Rattle.thread_local_shared_buckets.specs.Shared.{block_stands, beside_pointer, kept, loaded, row_owns, at_rest, len}
use Rattle.thread_local_shared_buckets.specs.Shared.{first, shown_by, grown, announced_where, NoneSet, if_set, seen_value, seen_slot, seen_owns}
use Rattle.thread_local_shared_buckets.specs.Announcing.{Announcing, announced_unless}
use Rattle.thread_local_shared_buckets.proofs.AnnouncingSent.{announced_keyless}
use Rattle.thread_local_buckets.proofs.Sent.{token_keyless, each_keyless, place_keyless, back_keyless}

pub grown_keyless : (d : BucketView) → Keyless (grown d)
grown_keyless d = reached_keyless d.table (shown_by d)

unless_keyless : (m : Announcing) (bucket : ℕ) (P : Type 0) (t : Bool) → Keyless (announced_unless m bucket P t)
unless_keyless m bucket P true = announced_keyless m bucket
unless_keyless m bucket P false = λ _. tt

where_keyless : (d : BucketView) (ns : List ℕ) → Keyless (announced_where d ns)
where_keyless d ns = unless_keyless d.word d.bucket (NoneSet ns)

module _ (R : RattleType) (s : IsSend R) where
  words_keyless : (n b o : ℕ) (ns : List ℕ) → Keyless (each (flags_at R n b o) ns 0)
  words_keyless n b o ns = each_keyless (flags_at R n b o) (λ _ _. tt) ns 0

  pub value_keyless : (b e : ℕ) (η : GName) → Keyless (tracked_value R b e η)
  value_keyless b e η = λ c. (place_keyless R s c b e, tt)

  module _ (t : Turn) (b ν : ℕ) where
    pub by_keyless : (e : ℕ) (η : GName) (x : R.Denot) (j : Judged R) → Keyless (by R t b ν e η x j)
    by_keyless e η x (inl j) = j x b e (ν ∷ t.life)
    by_keyless e η x (inr refuted) = value_keyless b e η

    module _ (sharing : Option GName) where
      published_keyless : (k : ℕ) (η : GName) (x : R.Denot) → Keyless (pinned_and_told R sharing k η x)
      published_keyless k η x = (tt, tells_keyless R sharing k (Some x))

      pub holds_keyless : (k e : ℕ) (η : GName) (v : Option R.Denot) → Keyless (holds R t b ν sharing k e η v)
      holds_keyless k e η None = (right_keyless t.vacant k, (tt, value_keyless b e η))
      holds_keyless k e η (Some x) = (right_keyless t.filled k, (published_keyless k η x, by_keyless e η x))

      pub stays_keyless : (k e : ℕ) (η : GName) (v : Option R.Denot) → Keyless (stays R t b ν sharing k e η v)
      stays_keyless k e η None = (right_keyless t.filled k, untold_keyless sharing k)
      stays_keyless k e η (Some x) = (right_keyless t.vacant k, (published_keyless k η x, λ j. j x b e (ν ∷ t.life)))

      pub lies_with_slot_keyless : (table k e : ℕ) (η : GName) (v : Option R.Denot) (w : Who) → Keyless (lies_with_slot R t b ν sharing table k e η v w)
      lies_with_slot_keyless table k e η v free = (right_keyless t.pass k, holds_keyless k e η v)
      lies_with_slot_keyless table k e η v claimed = (right_keyless table k, right_keyless t.pass k)
      lies_with_slot_keyless table k e η v early = (right_keyless table k, holds_keyless k e η None)

      slot_keyless : (table : ℕ) (set : Bool) (k e : ℕ) (η : GName) → Keyless (shared_slot R t b ν sharing table set k e η)
      slot_keyless table set k e η = (
        value_keyless b e η,
        λ z. ((λ _. tt), (stays_keyless k e η z.0, lies_with_slot_keyless table k e η z.0 z.1)),
      )

      slots_keyless : (table k o : ℕ) (names ns : List ℕ) → Keyless (each (numbered_slot R t b ν sharing table k o ns) names 0)
      slots_keyless table k o names ns =
          each_keyless (numbered_slot R t b ν sharing table k o ns)
          (λ η i. slot_keyless table (is_set_in ns i) (i + k) (value_offset R o i) η) names 0

  slots_side_keyless : (w : Bool) (table pass k : ℕ) → Keyless (slots_side R w table pass k)
  slots_side_keyless true table pass k = right_keyless table k
  slots_side_keyless false table pass k = right_keyless pass k

  unborn_keyless : (sharing : Option GName) (table : ℕ) (t : Turn) (n k : ℕ) → Keyless (all_unborn R sharing table t n k)
  unborn_keyless sharing table t zero k = tt
  unborn_keyless sharing table t (suc n) k = (
    (
      right_keyless t.vacant k,
      ((right_keyless t.filled k, untold_keyless sharing k), λ w. slots_side_keyless w table t.pass k),
    ),
    unborn_keyless sharing table t n (suc k),
  )

  stands_keyless : (d : BucketView) (t : Turn) (p : Ptr) (z : StandingBlock) → Keyless (block_stands R d t p z)
  stands_keyless d t p z =
      let b : ℕ = block_of p in
      let o : ℕ = count_of p in (
        (λ ns. (
          (λ _. tt),
          (
            words_keyless (len R d) b o ns,
            (where_keyless d ns, slots_keyless t b z.block_life d.sharing d.table (first R d) o z.names ns),
          ),
        )),
        back_keyless R s b o (len R d),
      )

  beside_keyless : (d : BucketView) (t : Turn) (p : Ptr) → Keyless (beside_pointer R d t p)
  beside_keyless d t null_ptr = ((λ _. tt), ((tt, tt), unborn_keyless d.sharing d.table t (len R d) (first R d)))
  beside_keyless d t (block_ptr b o) = λ z. (
    (λ _. tt),
    (
      (tt, (tt, grown_keyless d)),
      (tt, (stands_keyless d t (block_ptr b o) z.0, token_keyless (block_ty R (len R d)) (block_ptr b o))),
    ),
  )

  pub kept_keyless : (d : BucketView) (t : Turn) (b o : ℕ) (κ : Lft) → Keyless (kept R d t b o κ)
  kept_keyless d t b o κ = ((λ νs. chain_keyless νs κ t.life), λ p. (tt, beside_keyless d t p))

  pub row_keyless : (d : BucketView) (t : Turn) (z : StandingBlock) (κ : Lft) → Keyless (loaded R d t z κ)
  row_keyless d t z κ = ((λ _. tt), (tt, λ νs. chain_keyless νs κ (z.block_life ∷ t.life)))

  rests_keyless : (owed : Bool) (b e : ℕ) (v : Option R.Denot) → Keyless (rests R owed b e v)
  rests_keyless false b e v = place_keyless R s v b e
  rests_keyless true b e None = λ z. (tt, value_keyless b e z.1)
  rests_keyless true b e (Some x) = λ z. (tt, (tt, value_keyless b e z.1))

  slots_rest_keyless : (sharing : Option GName) (k n i b o : ℕ) (ns : List ℕ) → Keyless (slots_rest R sharing k n i b o ns)
  slots_rest_keyless sharing k zero i b o ns = tt
  slots_rest_keyless sharing k (suc n) i b o ns = (
    (λ z. ((λ _. tt), (told_or_untold_keyless R sharing (i + k) z.0, rests_keyless z.1 b (value_offset R o i) z.0))),
    slots_rest_keyless sharing k n (suc i) b o ns,
  )

  block_rests_keyless : (d : BucketView) (k n b o : ℕ) → Keyless (block_rests R d.sharing k (announced_where d) n b o)
  block_rests_keyless d k n b o = (
    (λ ns. ((λ _. tt), (words_keyless n b o ns, (where_keyless d ns, slots_rest_keyless d.sharing k n 0 b o ns)))),
    back_keyless R s b o n,
  )

  pub at_rest_keyless : (d : BucketView) (p : Ptr) → Keyless (at_rest R d p)
  at_rest_keyless d null_ptr = ((λ _. tt), all_telling_keyless R d.sharing (first R d) (empty_slots (len R d)))
  at_rest_keyless d (block_ptr b o) = (
    (λ _. tt),
    (
      block_rests_keyless d (first R d) (len R d) b o,
      (token_keyless (block_ty R (len R d)) (block_ptr b o), grown_keyless d),
    ),
  )

  pub found_keyless : (d : BucketView) (names : List ℕ) (β : Lft) (p : Ptr) → Keyless (row_owns R d names β p)
  found_keyless d names β p = λ z. ((λ _. tt), (kept_keyless d z.0 z.2 z.3 β, (reached_keyless d.table (shown_by d), row_keyless d z.0 z.1 β)))

  seen_value_keyless : (d : BucketView) (p : Ptr) (κ : Lft) (η : GName) (i : ℕ) (set : Bool)
      → Keyless (if_set R (seen_value R d p κ η i) set)
  seen_value_keyless d p κ η i false = tt
  seen_value_keyless d p κ η i true = λ x. (
    (tt, tells_keyless R d.sharing (i + first R d) (Some x)),
    λ j. j x (block_of p) (value_offset R (count_of p) i) κ,
  )

  pub seen_keyless : (d : BucketView) (p : Ptr) (names : List ℕ) (chunk flags : ℕ) (values : Ptr) (β : Lft)
      → Keyless (seen_owns R d p names chunk flags values β)
  seen_keyless d p names chunk flags values β = λ z. (
    (λ _. tt),
    (
      (λ νs. chain_keyless νs β z.0),
      each_keyless (seen_slot R d p z.0 z.1)
          (λ η i. seen_value_keyless d p z.0 η i (is_set_in z.1 i)) names 0,
    ),
  )
