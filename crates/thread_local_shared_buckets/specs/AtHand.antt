-- What a walk has at hand: the flags that it loaded whose values it hasn't given.
use Rattle.std.specs.Prelude.{◌≡◌, ℕ, ◌+◌, ◌-◌, ◌*◌, ◌^◌, ◌<◌, ◌≤◌, true, false, Option, None}
use Rattle.std.specs.Prelude.{Some, IfSome, Bool, MatchBool, List}
use Rattle.thread_local_base.specs.Bits.{is_set}
use Rattle.thread_local_base.specs.Place.{id_at}
use Rattle.thread_local_shared_buckets.specs.declared.row.Row.{Row}
use Rattle.thread_local_shared_buckets.specs.declared.seen.Seen.{Seen}
use Rattle.thread_local_shared_buckets.specs.declared.steps.Own.{Own}
use Rattle.thread_local_shared_buckets.specs.declared.steps.Walk.{Walk}
use Rattle.thread_local_ids.specs.TokenLists.{AllOf, NoneIn}
use Rattle.thread_local_ids.specs.TokenViews.{TokenView}
use Rattle.thread_local_shared_buckets.specs.Positions.{resting, lies_in, is_at, OwnIsTold, IsSharedWalk}
use Rattle.thread_local_shared_buckets.specs.Positions.{Skips, IsBehind}
use Rattle.thread_local_shared_buckets.specs.WalkSteps.{SilentSteps}

module _ {V : Type 0} where
  -- 1. What the walk has at hand.

  -- the row is that of this bucket, in this sharing
  abbrev pub IsRowOf : Option ℕ → ℕ → Row V → Type 0
  IsRowOf sharing bucket row = (row.of.bucket ≡ bucket) × (row.of.sharing ≡ sharing)

  -- the index of a slot, by its bit in the word at hand
  abbrev pub slot_of : Walk V → ℕ → ℕ
  slot_of walk bit = (walk.chunks - 1) * 64 + bit

  -- a walk over this sharing, which has seen so many chunks of this bucket, saw this bit set in the
  -- last of them
  abbrev pub HasSeen : Option ℕ → ℕ → ℕ → ℕ → Option (Seen V) → Type 0
  HasSeen sharing bucket chunks bit None = ⊥
  HasSeen sharing bucket chunks bit (Some seen) =
      (seen.of.sharing ≡ sharing) × (seen.of.bucket ≡ bucket) × (chunks ≡ seen.chunk + 1)
      × (is_set seen.flags bit ≡ true)

  -- the slot of this bit is one of the walk's bucket that the walk hasn't passed, and the own value
  -- lies there, or the walk has seen its flag set
  pub record IsAtHand (walk : Walk V) (bit : ℕ) : Type 0 where
    pub in_table : walk.raw.bucket < 63
    pub some : 0 < walk.chunks
    pub ahead : walk.raw.index ≤ slot_of walk bit
    pub inside : slot_of walk bit < 2 ^ walk.raw.bucket
    pub by : is_at walk.own walk.raw.bucket (slot_of walk bit) ≡ false → HasSeen walk.buckets.now.sharing walk.raw.bucket walk.chunks bit walk.seen

  -- if the own value lies in the chunks that the walk has seen of its bucket, its flag is at hand
  abbrev pub OwnIsAtHand : Walk V → Own V → Type 0
  OwnIsAtHand walk own =
      own.thread.bucket ≡ walk.raw.bucket → own.thread.index < walk.chunks * 64
      → ((walk.chunks - 1) * 64 ≤ own.thread.index)
      × (is_set walk.rest (own.thread.index - (walk.chunks - 1) * 64) ≡ true)

  -- if an id lies in the chunks that the walk has seen of its bucket, and not behind the walk, its
  -- flag is at hand
  abbrev pub IsMarked : Walk V → ℕ → Type 0
  IsMarked w id =
      (i : ℕ) → i < 2 ^ w.raw.bucket → id ≡ id_at w.raw.bucket i → w.raw.index ≤ i → i < w.chunks * 64
      → ((w.chunks - 1) * 64 ≤ i) × (is_set w.rest (i - (w.chunks - 1) * 64) ≡ true)

  -- The buckets that are left to walk, a bit each: all lie behind the walk's bucket. One behind it that isn't
  -- left has neither the slot of one of these tokens nor the own value.
  pub record AreLeft (sharing : Option ℕ) (told : List (TokenView V)) (own : Option (Own V)) (from left : ℕ) : Type 0 where
    pub behind : (bucket : ℕ) → bucket < 64 → is_set left bucket ≡ true → from < bucket
    pub none_past : is_set left 63 ≡ false
    pub none_told : (bucket : ℕ) → from < bucket → bucket < 63 → is_set left bucket ≡ false → NoneIn sharing bucket told
    pub none_owed : (bucket : ℕ) → from < bucket → bucket < 63 → is_set left bucket ≡ false → lies_in own bucket ≡ false

  -- a walk between two calls
  pub record IsWalk (w : Walk V) : Type 0 where
    pub walk : IsSharedWalk w.raw w.own
    pub told : IfSome w.own (OwnIsTold w.buckets.now.sharing)
    pub seen_to : w.raw.index ≤ w.chunks * 64
    pub row : IfSome w.row (IsRowOf w.buckets.now.sharing w.raw.bucket)
    pub at_hand : (bit : ℕ) → bit < 64 → is_set w.rest bit ≡ true → IsAtHand w bit
    pub kept : IfSome w.own (OwnIsAtHand w)
    pub marked : AllOf w.buckets.now.sharing (λ p. IsMarked w p.id) w.told
    pub left : AreLeft w.buckets.now.sharing w.told w.own w.raw.bucket w.left

  -- 2. What single steps of a call do.

  -- the walk has looked on in its bucket; where no flag is at hand then, the own value lies elsewhere
  pub record LooksIn (w to : Walk V) : Type 0 where
    pub walk : IsWalk to
    pub buckets : to.buckets.now ≡ w.buckets.now
    pub raw : to.raw ≡ w.raw
    pub own : to.own ≡ w.own
    pub none : to.rest ≡ 0 → lies_in to.own to.raw.bucket ≡ false
    pub told : to.told ≡ w.told
    pub behind : to.rest ≡ 0 → AllOf to.buckets.now.sharing (λ p. IsBehind to.raw p.id) to.told

  -- steps that give nothing led a walk here
  pub record HasSkipped (w to : Walk V) : Type 0 where
    pub buckets : to.buckets.now ≡ w.buckets.now
    pub own : to.own ≡ w.own
    pub leads : SilentSteps (resting w.raw) (resting to.raw)
    pub told : to.told ≡ w.told
    pub skips : AllOf w.buckets.now.sharing (λ p. Skips w.raw to.raw p.id) w.told

  -- the walk has looked on until a flag is at hand, or to the end
  pub record Reaches (w : Walk V) (found : Bool) (to : Walk V) : Type 0 where
    pub walk : IsWalk to
    pub comes : HasSkipped w to
    pub by : MatchBool found (0 < to.rest) (63 ≤ to.raw.bucket)
