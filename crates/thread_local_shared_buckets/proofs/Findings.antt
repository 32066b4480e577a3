-- What a walk's looks at its bucket found, and what it gave, as the lemmas say it.
use Rattle.std.proofs.Common.{◌≡◌, ◌≢◌, ℕ, suc, ◌+◌, ◌-◌, ◌*◌, ◌/◌, ◌%◌, ◌^◌, ◌<◌, ◌≤◌, true, List, Option, None, Some, IfSome, option_map}
use Rattle.std.specs.Prelude.{◌==◌, MatchOption, if◌then◌else◌}
use Rattle.thread_local_base.specs.Bits.{is_set, IsWordBut}
use Rattle.thread_local_base.specs.Cursor.{cursor_id}
use Rattle.thread_local_base.specs.Place.{id_at}
use denote.Ref.{Bor}
use Rattle.thread_local_buckets.specs.declared.cursor.RawIter.{RawIter}
use Rattle.thread_local_ids.specs.TokenLists.{AllOf}
use Rattle.thread_local_ids.specs.TokenViews.{TokenView}
use Rattle.thread_local_shared_buckets.specs.Shared.{BucketView}
use Rattle.thread_local_shared_buckets.specs.declared.row.Row.{Row}
use Rattle.thread_local_shared_buckets.specs.declared.seen.Seen.{Seen}
use Rattle.thread_local_shared_buckets.specs.declared.steps.Own.{Own}
use Rattle.thread_local_shared_buckets.specs.Positions.{next_id, owed, resting}
use Rattle.thread_local_shared_buckets.specs.Walks.{Yields}

-- the own slot, if it has an index in the bucket, lies in another chunk
abbrev pub LiesOutside : Option ℕ → ℕ → Type 0
LiesOutside own chunk = IfSome own (λ index. index / 64 ≢ chunk)

-- the chunk and the flag of the own slot, if it has an index in the bucket, and else no flag
abbrev pub MarksOwn : Option ℕ → ℕ → ℕ → Type 0
MarksOwn own chunk flag = MatchOption own (flag ≡ 0) (λ index. (chunk ≡ index / 64) × (flag ≡ 1 * 2 ^ (index % 64) % 2 ^ 64))

-- no look found a flag: the own slot's flag is at hand, or nothing is
abbrev pub IsOwnAlone : Option ℕ → ℕ → ℕ → ℕ → Type 0
IsOwnAlone own from chunks flags =
    MatchOption own ((chunks ≡ from) × (flags ≡ 0))
    (λ index. (chunks ≡ index / 64 + 1) × IsWordBut flags 0 (index % 64) true)

-- what a walk gives: a value, and a token of it
abbrev pub Item : Type 0 → Type 0
Item V = TokenView V × Bor V

-- the walk goes past one slot, and passes an id only if it is that slot's
abbrev pub Stops : RawIter → RawIter → ℕ → Type 0
Stops from to id = next_id from ≤ id → id < next_id to → next_id to ≡ suc id

module _ {V : Type 0} where
  -- 1. What a look saw.

  -- it gave this value of the slot with this bit
  pub record IsGivenBy (bit : ℕ) (found : Item V) (seen : Seen V) : Type 0 where
    pub sharing : found.0.sharing ≡ seen.of.sharing
    pub id : found.0.id ≡ id_at seen.of.bucket (seen.chunk * 64 + bit)
    pub value : found.0.value ≡ found.1.now

  -- A look at a chunk of this bucket, the chunk `from` or a later one, after which so many chunks were
  -- seen. The walk takes these flags from it: those that are set, and that of the own slot if its
  -- index `own` lies in the chunk. The own slot lies in none of the chunks before, from `from` on.
  pub record IsRead (d : BucketView) (own : Option ℕ) (from : ℕ) (seen : Seen V) (chunks flags : ℕ) : Type 0 where
    pub of : seen.of ≡ d
    pub later : from ≤ seen.chunk
    pub chunk : chunks ≡ seen.chunk + 1
    pub some : 0 < flags
    pub inside : (bit : ℕ) → bit < 64 → is_set seen.flags bit ≡ true → seen.chunk * 64 + bit < 2 ^ d.bucket
    pub adds : IfSome own (λ index. index / 64 ≡ seen.chunk → IsWordBut flags seen.flags (index % 64) true)
    pub other : LiesOutside own seen.chunk → flags ≡ seen.flags
    pub none_before : (chunk : ℕ) → from ≤ chunk → chunk < seen.chunk → LiesOutside own chunk

  -- what looks at the chunks of a row find, from the chunk `from` on
  abbrev pub LooksAt : Option (Row V) → Option ℕ → ℕ → Seen V → ℕ → ℕ → Type 0
  LooksAt None own from seen chunks flags = ⊥
  LooksAt (Some row) own from seen chunks flags = IsRead row.of own from seen chunks flags

  abbrev pub HasLookedOn : Option (Row V) → Option ℕ → ℕ → Option (Seen V) × ℕ × ℕ → Type 0
  HasLookedOn row own from x = MatchOption x.0 (IsOwnAlone own from x.1 x.2) (λ seen. LooksAt row own from seen x.1 x.2)

  -- where looks at a bucket's chunks from this one on found a flag, the id's flag is at hand, if the id
  -- lies in the chunks that were looked at; where none did, it doesn't lie in these chunks
  abbrev pub IsFoundAt : ℕ → ℕ → Option (Seen V) × ℕ × ℕ → ℕ → Type 0
  IsFoundAt bucket from x id =
      (i : ℕ) → i < 2 ^ bucket → id ≡ id_at bucket i → from * 64 ≤ i
      → MatchOption x.0 ⊥ (λ _. i < x.1 * 64 → ((x.1 - 1) * 64 ≤ i) × (is_set x.2 (i - (x.1 - 1) * 64) ≡ true))

  -- so it is with the id of each of these tokens that is of the row's sharing
  abbrev pub FindsTokens : Option (Row V) → ℕ → List (TokenView V) → Option (Seen V) × ℕ × ℕ → Type 0
  FindsTokens row from tokens x = IfSome row (λ r. AllOf r.of.sharing (λ p. IsFoundAt r.of.bucket from x p.id) tokens)

  -- 2. The own value, and what a walk gave.

  -- its index in a bucket, if it lies there
  abbrev pub own_index : Option (Own V) → ℕ → Option ℕ
  own_index None bucket = None
  own_index (Some own) bucket = if own.thread.bucket == bucket then Some own.thread.index else None

  -- the token says of the id that the walk has just passed that its slot was published with the
  -- value, in this sharing
  pub record IsToldAt (name : Option ℕ) (to : RawIter) (found : Item V) : Type 0 where
    pub sharing : found.0.sharing ≡ name
    pub id : cursor_id (resting to) ≡ suc found.0.id
    pub value : found.0.value ≡ found.1.now

  -- a call that yields a value, from where the walk is to where it is then, with the own value that
  -- is still to come
  abbrev pub YieldsFrom : RawIter → Option (Own V) → V → RawIter → Option (Own V) → Type 0
  YieldsFrom raw own v to left = Yields (resting raw) (option_map owed own) v (resting to) (option_map owed left)
