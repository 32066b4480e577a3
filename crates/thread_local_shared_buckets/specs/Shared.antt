-- What threads share of a bucket: its pointer, null or to a block, and the slots of that block.
--
-- A sharing is what contracts see of the time in which threads share a table: its name, or none. What
-- one bucket has of that time is its turn, which no contract sees: a life, which is the lifetime of
-- the sharing, and fresh names. For that life, one invariant holds the bucket's pointer with all
-- slots. Its terms:
--     a standing block    its address, a lifetime of its own beside the turn's life, and for each
--                         slot a name that tracks the slot's value
--     rights of a turn    three for every id, with one holder each:
--                         pass      lies with the slot, unless a claim took it before the block
--                                   stood, and laid down its right instead
--                         vacant    lies with the slot once a value is published, and until then
--                                   with whoever may publish it, or with the slot too while nobody
--                                   may
--                         filled    the other way round
--     holds, stays        what the claim of a slot has of it, and what stays with the slot, by the
--                         value that is published
--     telling             what is told of the slot's id under the sharing's name, if it has one: it
--                         stays with the slot, whoever claims it
--     grown               what a block that stands shows of the ids that were held at once, where its
--                         bucket was made for an id
--     announced_where     what the flags of a block show: that its bucket is announced, or that an owner
--                         made it and none is set
--
-- Where a `&` to a value names no thread, a published value is shared for good. Where it may name
-- one, the claim of the slot has the borrow of the value.
--
-- The letters have one meaning everywhere below and in the proofs:
--     R         the type of the values that slots hold
--     x         one such value
--     v         what a slot holds: a value, or none
--     j         whether a `&` to a value names no thread
--     d         the view of a bucket: its table, the sharing, its number, whether it is reserved,
--               and whether its table grew by ids alone
--     t         a turn: the life and the names of one sharing
--     b, o      the address of the pointer, or of its block: the allocation, and the offset in it
--     e         the offset of a slot's value in the allocation of its block
--     k         the id that the slot is for
--     i         the index of a slot in its block
--     set       whether the slot's flag is set
--     ns        the words of flags of a block
--     p         the bucket's pointer: null, or to a block
--     s         the block that stands, or what a slot holds and who has it
--     ν         the lifetime of its own of a standing block
--     η         the name under which a slot's value is tracked
--     κ, β      the lifetime of a loan: κ of any `&`, β of the `&` to the bucket
--     n         a number of slots
--     z         several of these at once
--
-- Terms from other files:
--     fact φ                 φ holds, and nothing is owned
--     untold_in sharing k    nothing is told of the id k in this sharing yet, and one holder may
--     tells R sharing k v    it is told of the id k for good that its slot was published with v
--     telling R sharing k v  the first where v is none, else the second; all_telling of several
--     right_owns γ k         the one token at the key k under the name γ; under a table's name it
--                            is the right to the id k
--     reached_owns γ n       n ids of the table γ were held at once
--     each F xs i            F of each of these and its index, from i on
--     value_offset R o i     the offset of the value of the slot i in the block at o
--     flags_at R n b o w c   the word w as the flags of the chunk c, in a block of n slots
--     is_set_in ns i         the flag of the slot i in these words
--     content_at R v b e     the value v at b and e, or the room for one
--     back R b o n           the way back: the words and the slots of a block of n slots, given
--                            back as room, make its room
--     heap_token τ p         the right to free what the heap gave for the type τ at p
--     Shareable R            a `&` to a value of R names no thread
--     Judged R               it is known whether that is so
--     cell b o p             the pointer p lies at b and o, for atomic steps
--     shared_of R x b e κ    a `&` for κ to the value x, which lies at b and e
--     fobs, fauth, fres      a name: it said this once; what it says now; it says this for good
--     flft κ q               a part of κ's token: κ hasn't ended
--     fdead κ                κ has ended
--     fbor κ P               P is lent out until κ ends
--     flent κ P              P comes back once κ has ended
--     before κ α             κ ends before α does

use Rattle.std.specs.Prelude.{◌≡◌, ℕ, zero, suc, ◌+◌, ◌*◌, ◌^◌, ◌≤◌, Bool, true, false, List, [], ◌∷◌, length, Option, None}
use Rattle.std.specs.Prelude.{Some, is_some, slice_index}
use Rattle.std.specs.Coded.{coded_option}
use mathlib.Core.Logic.{inl, inr}
use base.Stored.{Gv, Coded, gnil, gcons, coded×, coded_ℕ, coded_list, coded_bool, coded_via}
use base.Fml.{Lft, GName, Share, Fml, ftrue, ffalse, fsep, fex, fall, flft, fdead, fobs, fauth, fres, fbor, flent}
use base.Before.{before}
use denote.RattleType.{RattleType}
use denote.Memory.{shared_of}
use denote.RawPtr.{Ptr, block_ptr, null_ptr, block_of, count_of, InBlock, Testable, coded_ptr}
use denote.Sharing.{said, beside, some, ends, always}
use Rattle.std.specs.Sync.RawAtomic.Pointer.{cell}
use Rattle.thread_local_base.specs.Place.{id_at}
use Rattle.thread_local_ids.specs.Rights.{right_owns, reached_owns}
use Rattle.thread_local_base.specs.Judged.{Shareable, Judged}
use Rattle.thread_local_base.specs.Bits.{is_set_in}
use Rattle.thread_local_buckets.specs.Slots.{heap_token, chunks, each, AreWords, block_ty, Fits, value_offset, flags_at}
use Rattle.thread_local_buckets.specs.Slots.{content_at, back, empty_slots}
use Rattle.thread_local_base.specs.Fact.{fact}
use Rattle.thread_local_shared_buckets.specs.Announcing.{Announcing, announcing_coded, announced_or}
use Rattle.thread_local_ids.specs.Told.{untold_in, tells, told_or_untold, all_told_or_untold}

-- 1. What is known of a bucket, of a sharing and of a block.

-- what a contract sees of a shared bucket: its table, the sharing if that has a name, its number,
-- whether it is reserved, whether each bucket of its table that isn't reserved was made for an id, and
-- what the table's word of announced buckets is
pub record BucketView : Type 0 where
  pub table : ℕ
  pub sharing : Option ℕ
  pub bucket : ℕ
  pub reserved : Bool
  pub grown_by_ids : Bool
  pub word : Announcing

-- an injective code of such views, for ghost state
abbrev pub bucket_view_coded : Coded BucketView
bucket_view_coded =
    coded_via
    (coded× coded_ℕ (coded× (coded_option coded_ℕ) (coded× coded_ℕ (coded× coded_bool (coded× coded_bool announcing_coded)))))
    (λ (d : BucketView). (d.table, (d.sharing, (d.bucket, (d.reserved, (d.grown_by_ids, d.word))))))
    (λ x y e i. record {
      table = (e i).0;
      sharing = (e i).1.0;
      bucket = (e i).1.1.0;
      reserved = (e i).1.1.1.0;
      grown_by_ids = (e i).1.1.1.1.0;
      word = (e i).1.1.1.1.1;
    })

-- how many ids were held at once for sure once a bucket stands, by whether its table grew by ids
-- alone, whether it is reserved, and its number: as many as it has slots, where it was made for an
-- id
abbrev pub ids_shown : Bool → Bool → ℕ → ℕ
ids_shown false reserved bucket = 0
ids_shown true true bucket = 0
ids_shown true false bucket = 2 ^ bucket

-- how many ids a bucket of this view shows to have been held at once, once it stands
abbrev pub shown_by : BucketView → ℕ
shown_by d = ids_shown d.grown_by_ids d.reserved d.bucket

-- what a standing bucket shows: how many ids were held at once
abbrev pub grown : BucketView → Fml
grown d = reached_owns d.table (shown_by d)

-- no flag is set in these words
abbrev pub NoneSet : List ℕ → Type 0
NoneSet ns = (i : ℕ) → is_set_in ns i ≡ false

-- what these flags show: that the bucket is announced, or that an owner made it and none is set
abbrev pub announced_where : BucketView → List ℕ → Fml
announced_where d ns = announced_or d.word d.bucket (NoneSet ns)

-- the life and the names that one bucket has in one sharing; `which` is the name that says which block
-- stands
pub record Turn : Type 0 where
  pub life : Lft
  pub pass : GName
  pub vacant : GName
  pub filled : GName
  pub which : GName

-- the block that a pointer leads to, its own lifetime, and the names of its slots
pub record StandingBlock : Type 0 where
  pub at : Ptr
  pub block_life : ℕ
  pub names : List ℕ

-- an injective code of such blocks, for ghost state
abbrev pub standing_coded : Coded StandingBlock
standing_coded =
    coded_via (coded× coded_ptr (coded× coded_ℕ (coded_list coded_ℕ)))
    (λ (s : StandingBlock). (s.at, (s.block_life, s.names)))
    (λ x y e i. record { at = (e i).0; block_life = (e i).1.0; names = (e i).1.1 })

-- the name that tracks the slot at an index
abbrev pub name_at : List ℕ → ℕ → ℕ
name_at [] i = 0
name_at (η ∷ names) zero = η
name_at (η ∷ names) (suc i) = name_at names i

-- what the name `which` says once a block stands
abbrev pub block_code : StandingBlock → Gv
block_code s = gcons gnil (standing_coded.code s)

-- a turn, a block that stands under it, and the address of the bucket's pointer
abbrev pub Found : Type 0
Found = Turn × StandingBlock × ℕ × ℕ

-- who has a slot: nobody, a claim, or a claim that took the pass before the block stood
pub data Who : Type 0 where
  free : Who
  claimed : Who
  early : Who

module _ (R : RattleType) where
  -- 2. A slot under one sharing: its value, what its claim has, and what stays with it.

  -- the code of what a slot holds, under the name that tracks it
  abbrev pub value_code : Option R.Denot → Gv
  value_code = (coded_option R.coded).code

  -- the slot's value is x for good
  abbrev pub pinned : GName → R.Denot → Fml
  pinned η x = fres η (value_code (Some x))

  -- the same, and it is told of the slot's id
  abbrev pub pinned_and_told : Option GName → ℕ → GName → R.Denot → Fml
  pinned_and_told sharing k η x = fsep (pinned η x) (tells R sharing k (Some x))

  -- the memory of a slot's value, with the name that tracks it
  abbrev pub tracked_value : ℕ → ℕ → GName → Fml
  tracked_value b e η = fex (Option R.Denot) (λ c. fsep (content_at R c b e) (fauth η (value_code c)))

  module _ (t : Turn) (b ν : ℕ) where
    -- the lifetime of what is lent of a block: until the block's own lifetime or the turn's life
    -- ends
    abbrev pub age : Lft
    age = ν ∷ t.life

    -- a `&` to the value of the slot at e
    abbrev pub shared_value : ℕ → R.Denot → Fml
    shared_value e x = shared_of R x b e age

    -- the same, for whoever shows that a `&` to a value names no thread
    abbrev pub opened : ℕ → R.Denot → Fml
    opened e x = fall (Shareable R) (λ _. shared_value e x)

    -- how the claim of the slot has the published value: shared, or borrowed
    abbrev pub by : ℕ → GName → R.Denot → Judged R → Fml
    by e η x (inl _) = shared_value e x
    by e η x (inr _) = fbor age (tracked_value b e η)

    module _ (sharing : Option GName) where
      -- what the claim of the slot k has of it
      abbrev pub holds : ℕ → ℕ → GName → Option R.Denot → Fml
      holds k e η None = fsep (right_owns t.vacant k) (fsep (fobs η (value_code None)) (fbor age (tracked_value b e η)))
      holds k e η (Some x) = fsep (right_owns t.filled k) (fsep (pinned_and_told sharing k η x) (fex (Judged R) (by e η x)))

      -- what stays with the slot
      abbrev pub stays : ℕ → ℕ → GName → Option R.Denot → Fml
      stays k e η None = fsep (right_owns t.filled k) (untold_in sharing k)
      stays k e η (Some x) = fsep (right_owns t.vacant k) (fsep (pinned_and_told sharing k η x) (opened e x))

      -- what lies with the slot, by who has the slot
      abbrev pub lies_with_slot : ℕ → ℕ → ℕ → GName → Option R.Denot → Who → Fml
      lies_with_slot table k e η v free = fsep (right_owns t.pass k) (holds k e η v)
      lies_with_slot table k e η v claimed = fsep (right_owns table k) (right_owns t.pass k)
      lies_with_slot table k e η v early = fsep (right_owns table k) (holds k e η None)

      -- a slot of which it is known what it holds and who has it
      abbrev pub shared_slot_as : ℕ → Bool → ℕ → ℕ → GName → Option R.Denot × Who → Fml
      shared_slot_as table set k e η s = fsep (fact (set ≡ is_some s.0)) (fsep (stays k e η s.0) (lies_with_slot table k e η s.0 s.1))

      -- a slot, with the loan of its memory
      abbrev pub shared_slot : ℕ → Bool → ℕ → ℕ → GName → Fml
      shared_slot table set k e η = fsep (flent age (tracked_value b e η)) (fex (Option R.Denot × Who) (shared_slot_as table set k e η))

      -- the slot i of a block at o; k is the first id of the block, and ns are its flags
      abbrev pub numbered_slot : ℕ → ℕ → ℕ → List ℕ → GName → ℕ → Fml
      numbered_slot table k o ns η i = shared_slot table (is_set_in ns i) (i + k) (value_offset R o i) η

  -- 3. The slots of a bucket: of a block that stands, and before there is one.

  -- ns are the flags of n slots: one word for each chunk, and no bit is set past the last slot
  abbrev pub AreFlagWords : ℕ → List ℕ → Type 0
  AreFlagWords n ns = (length ns ≡ chunks n) × AreWords ns × ((i : ℕ) → n ≤ i → is_set_in ns i ≡ false)

  -- words of flags, and n slots whose flags they are
  abbrev pub slots_under : ℕ → ℕ → ℕ → (List ℕ → Fml) → List ℕ → Fml
  slots_under n b o slots ns = fsep (fact (AreFlagWords n ns)) (fsep (each (flags_at R n b o) ns 0) (slots ns))

  -- what lies with a slot that has no block yet: the right of the claim that took the pass, or else
  -- the pass. `claims_side` is what the claim has meanwhile
  abbrev pub slots_side : Bool → GName → GName → ℕ → Fml
  slots_side true table pass k = right_owns table k
  slots_side false table pass k = right_owns pass k

  -- a slot that has no block yet: its rights `vacant` and `filled`, with nothing told, and the pass or
  -- the right that was laid down for it
  abbrev pub unborn : Option GName → ℕ → Turn → ℕ → Fml
  unborn sharing table t k =
      fsep (right_owns t.vacant k)
      (fsep (fsep (right_owns t.filled k) (untold_in sharing k))
      (fex Bool (λ early. slots_side early table t.pass k)))

  -- the same of n slots, from the id k on
  abbrev pub all_unborn : Option GName → ℕ → Turn → ℕ → ℕ → Fml
  all_unborn sharing table t zero k = ftrue
  all_unborn sharing table t (suc n) k = fsep (unborn sharing table t k) (all_unborn sharing table t n (suc k))

  -- 4. A slot at rest, when the bucket isn't shared.

  -- a slot whose sharing has ended and whose loan is still due: the loan of its memory, and what
  -- its name says of a value
  abbrev pub due : ℕ → ℕ → Option R.Denot → Lft × GName → Fml
  due b e None s = fsep (fdead s.0) (flent s.0 (tracked_value b e s.1))
  due b e (Some x) s = fsep (pinned s.1 x) (fsep (fdead s.0) (flent s.0 (tracked_value b e s.1)))

  -- the memory of a slot at rest: as it lies, or still due from a sharing that has ended
  abbrev pub rests : Bool → ℕ → ℕ → Option R.Denot → Fml
  rests false b e v = content_at R v b e
  rests true b e v = fex (Lft × GName) (due b e v)

  module _ (sharing : Option GName) (k : ℕ) where
    -- the slot at rest of the id k
    abbrev pub slot_rests_as : Bool → ℕ → ℕ → Option R.Denot × Bool → Fml
    slot_rests_as set b e s = fsep (fact (set ≡ is_some s.0)) (fsep (told_or_untold R sharing k s.0) (rests s.1 b e s.0))

    -- the same, whatever it holds
    abbrev pub slot_rests : Bool → ℕ → ℕ → Fml
    slot_rests set b e = fex (Option R.Denot × Bool) (slot_rests_as set b e)

  module _ (sharing : Option GName) (k : ℕ) where
    -- n slots at rest of a block at o, from the slot i on, whose flags are in these words; k is the
    -- first id of the block
    abbrev pub slots_rest : ℕ → ℕ → ℕ → ℕ → List ℕ → Fml
    slots_rest zero i b o ns = ftrue
    slots_rest (suc n) i b o ns = fsep (slot_rests sharing (i + k) (is_set_in ns i) b (value_offset R o i)) (slots_rest n (suc i) b o ns)

    -- a block of n slots at rest: its words, what these show, its slots, and the way back
    abbrev pub block_rests : (List ℕ → Fml) → ℕ → ℕ → ℕ → Fml
    block_rests shown n b o =
        fsep (fex (List ℕ) (slots_under n b o (λ ns. fsep (shown ns) (slots_rest n 0 b o ns)))) (back R b o n)

  -- p leads to a block and may be compared with null, and the size of n slots fits
  abbrev pub Sized : ℕ → Ptr → Type 0
  Sized n p = InBlock p × Testable p × Fits R n

  -- 5. The bucket: its invariant while it is shared, and what it owns at rest.
  module _ (d : BucketView) where
    -- how many slots the bucket has
    abbrev pub len : ℕ
    len = 2 ^ d.bucket

    -- the id of its first slot
    abbrev pub first : ℕ
    first = id_at d.bucket 0

    module _ (t : Turn) where
      -- no block stands: the name `which` says nothing yet
      abbrev pub pending : Fml
      pending = fsep (fobs t.which gnil) (fauth t.which gnil)

      -- the name `which` says for good which block stands
      abbrev pub settled : StandingBlock → Fml
      settled s = fsep (fauth t.which (block_code s)) (fsep (fres t.which (block_code s)) (grown d))

      -- the slots of a block, one for each name, under the words of their flags, and what these show
      abbrev pub slots_stand : Ptr → StandingBlock → List ℕ → Fml
      slots_stand p s ns = fsep (announced_where d ns) (each (numbered_slot t (block_of p) s.block_life d.sharing d.table first (count_of p) ns) s.names 0)

      -- a standing block: its words, its slots, and the way back
      abbrev pub block_stands : Ptr → StandingBlock → Fml
      block_stands p s =
          fsep (fex (List ℕ) (slots_under len (block_of p) (count_of p) (slots_stand p s)))
          (back R (block_of p) (count_of p) len)

      -- what lies beside a pointer p to a block: the name that says which block it is, with what it
      -- shows, a part of the token of its own lifetime, its slots, and the right to free it
      abbrev pub standing : Ptr → StandingBlock × Share → Fml
      standing p s =
          fsep (fact ((s.0.at ≡ p) × (length s.0.names ≡ len) × Sized len p)) (fsep (settled s.0)
          (fsep (flft (s.0.block_life ∷ []) s.1)
          (fsep (block_stands p s.0) (heap_token (block_ty R len) p))))

      -- what lies beside the pointer, null or to a block
      abbrev pub beside_pointer : Ptr → Fml
      beside_pointer null_ptr = fsep (fact (d.reserved ≡ false)) (fsep pending (all_unborn d.sharing d.table t len first))
      beside_pointer (block_ptr b o) = fex (StandingBlock × Share) (standing (block_ptr b o))

      -- the pointer with what lies beside it
      abbrev pub bucket_invariant : ℕ → ℕ → Fml
      bucket_invariant b o = fex Ptr (λ p. fsep (cell b o p) (beside_pointer p))

      -- what a sharing keeps: the turn lasts, and its invariant stands
      abbrev pub kept : ℕ → ℕ → Lft → Fml
      kept b o = beside (ends t.life) (always (fbor t.life (bucket_invariant b o)))

      -- what a load hands out of a standing block: which block it is, and that it lasts
      abbrev pub loaded : StandingBlock → Lft → Fml
      loaded s κ =
          fsep (fact ((length s.names ≡ len) × Sized len s.at))
          (fsep (fres t.which (block_code s)) (before κ (s.block_life ∷ t.life)))

    -- what a bucket at rest owns beside its pointer
    abbrev pub at_rest : Ptr → Fml
    at_rest null_ptr = fsep (fact (d.reserved ≡ false)) (all_told_or_untold R d.sharing first (empty_slots len))
    at_rest (block_ptr b o) =
        fsep (fact (Sized len (block_ptr b o)))
        (fsep (block_rests d.sharing first (announced_where d) len b o) (fsep (heap_token (block_ty R len) (block_ptr b o)) (grown d)))

    -- a bucket at rest: its pointer with what lies beside it, and values of a type that is judged
    abbrev pub bucket_owns : (Ptr → Fml) → Fml
    bucket_owns fields = fsep (fact (Judged R)) (fex Ptr (λ p. fsep (fields p) (at_rest p)))

    -- what a `&` to the bucket at an address holds
    abbrev pub bucket_shares : Ptr → Lft → Fml
    bucket_shares (block_ptr b o) = beside (said (fact (Judged R))) (some Turn (λ t. kept t b (o + 0)))
    bucket_shares null_ptr = said ffalse

  -- 6. What a load hands out, as a value, and what a look says of the value that it finds.
  module _ (d : BucketView) (names : List ℕ) where
    -- a row: the bucket is shared, this block stands at p, whose slots have these names, and so many ids
    -- were held at once
    abbrev pub row_as : Lft → Ptr → Found → Fml
    row_as β p z =
        fsep (fact ((z.1.at ≡ p) × (z.1.names ≡ names) × Judged R))
        (fsep (kept d z.0 z.2 z.3 β) (fsep (reached_owns d.table (shown_by d)) (loaded d z.0 z.1 β)))

    -- a row of some turn and block
    abbrev pub row_owns : Lft → Ptr → Fml
    row_owns β p = fex Found (row_as β p)

  -- 7. What a look at the flags of a chunk hands out, as a value: what it saw of the slots.

  -- what a look has of a slot, by whether it saw the flag set
  abbrev pub if_set : {X : Type 0} → (X → Fml) → Bool → Fml
  if_set F false = ftrue
  if_set {X} F true = fex X F

  module _ (d : BucketView) (p : Ptr) where
    -- a slot with the value x whose flag was set: its value for good, what is told of its id, and a
    -- `&` to the value for whoever shows that it names no thread
    abbrev pub seen_value : Lft → GName → ℕ → R.Denot → Fml
    seen_value κ η i x =
        fsep (pinned_and_told d.sharing (i + first d) η x)
        (fall (Shareable R) (λ _. shared_of R x (block_of p) (value_offset R (count_of p) i) κ))

    -- the same of each slot whose flag is set in these words
    abbrev pub seen_slot : Lft → List ℕ → GName → ℕ → Fml
    seen_slot κ ns η i = if_set (seen_value κ η i) (is_set_in ns i)

    module _ (names : List ℕ) (chunk flags : ℕ) (values : Ptr) where
      -- the word of the chunk had these flags, the block is one of the bucket, threads may share its
      -- values, and the chunk's values begin here
      abbrev pub WereFlags : List ℕ → Type 0
      WereFlags ns =
          (slice_index ns chunk ≡ flags) × AreFlagWords (len d) ns × (length names ≡ len d)
          × Sized (len d) p × Shareable R
          × (values ≡ block_ptr (block_of p) (value_offset R (count_of p) (chunk * 64)))

      -- what was seen, for as long as a lifetime that lasts longer than β
      abbrev pub seen_as : Lft → Lft × List ℕ → Fml
      seen_as β z = fsep (fact (WereFlags z.1)) (fsep (before β z.0) (each (seen_slot z.0 z.1) names 0))

      -- the slots at one instant, at which the word of the chunk had these flags
      abbrev pub seen_owns : Lft → Fml
      seen_owns β = fex (Lft × List ℕ) (seen_as β)
