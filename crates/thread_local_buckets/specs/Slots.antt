-- How the slots of a block lie in memory, and what a block owns: each slot is room (flag 0) or a
-- value (flag 1).
--
-- A block is the values of its slots side by side, or room for them, and then the words of their
-- flags. A chunk is 64 consecutive slots, or the fewer at the end, and has one word: bit j of it is
-- the flag of the chunk's slot j.
--
-- Slots and chunks are numbered within their block: the flag of slot j is bit j % 64 of the word of
-- chunk j / 64.
use Rattle.std.specs.Prelude.{◌≡◌, ℕ, suc, ◌+◌, ◌*◌, ◌/◌, ◌%◌, ◌^◌, ◌<◌, List, [], ◌∷◌, length, replicate, Option, Some}
use Rattle.std.specs.Prelude.{None, is_some, slice_index, slice_index_or}
use base.Fraction.{full_share}
use base.Fml.{Fml, ftrue, fsep, fex, fwand, froom}
use mir.Syntax.{Ty, w64, ty_int, ty_array, ty_struct, tcons, tnil}
use mir.Raw.{raw}
use prog.Memory.{size, capped}
use denote.RattleType.{RattleType}
use denote.Memory.{lone, part_at}
use denote.RawPtr.{Ptr, block_of, count_of, InBlock}
use Rattle.std.specs.Sync.RawAtomic.{word as atomic}
use Rattle.std.specs.declared.alloc.Global.{Global}
use Rattle.std.specs.contracts.impls.GlobalAllocator.TheImpl.{ghosts}
use Rattle.thread_local_base.specs.Bits.{is_set_in}
use Rattle.thread_local_base.specs.Fact.{fact}

-- n slots without a value
abbrev pub empty_slots : {X : Type 0} → ℕ → List (Option X)
empty_slots n = replicate n None

-- the value of the slot at this index, if there is one
abbrev pub slot_value : {X : Type 0} → List (Option X) → ℕ → Option X
slot_value slots index = slice_index_or slots index None

-- the right to free what the heap gave for this type at this pointer, through any of the heap's
-- handles
abbrev pub heap_token : Ty → Ptr → Fml
heap_token τ p = fex Global (λ a. ghosts.dealloc_token a τ p)

-- how many chunks a block of n slots has
abbrev pub chunks : ℕ → ℕ
chunks n = (n + 63) / 64

-- one assertion for each element of a list; the elements are numbered from j on
abbrev pub each : {X : Type 0} → (X → ℕ → Fml) → List X → ℕ → Fml
each F [] j = ftrue
each F (x ∷ xs) j = fsep (F x j) (each F xs (suc j))

-- each number is a word: below 2 ^ 64
abbrev pub AreWords : List ℕ → Type 0
AreWords ns = (c : ℕ) → slice_index ns c < 2 ^ 64

-- from bit `from` on, the bits of these words are the flags of the slots
abbrev pub AreFlagsFrom : {X : Type 0} → ℕ → List ℕ → List (Option X) → Type 0
AreFlagsFrom from ns slots = (j : ℕ) → is_set_in ns (j + from) ≡ is_some (slot_value slots j)

-- these words are the flags of the slots, and no other bit is set
pub record AreFlags {X : Type 0} (ns : List ℕ) (slots : List (Option X)) : Type 0 where
  pub words : AreWords ns
  pub flags : (j : ℕ) → is_set_in ns j ≡ is_some (slot_value slots j)

module _ (R : RattleType) where
  -- how many bytes a value takes
  abbrev pub stride : ℕ
  stride = size (lone R.mir)

  -- how many words the values of n slots take
  abbrev pub value_words : ℕ → ℕ
  value_words n = (n * stride + 7) / 8

  -- how n slots lie in memory
  abbrev pub slots_ty : ℕ → Ty
  slots_ty n = ty_struct [] (tcons (ty_array (lone R.mir) n) (tcons (ty_array (ty_int w64) (chunks n)) tnil))

  -- the type of a block of n slots
  abbrev pub block_ty : ℕ → Ty
  block_ty n = raw (slots_ty n)

  -- a block may have n slots: it takes fewer than 2 ^ 63 bytes
  abbrev pub Fits : ℕ → Type 0
  Fits n = size (slots_ty n) < 2 ^ 63

  -- the offset of a chunk's word, for a block of n slots at offset o
  abbrev pub word_offset : ℕ → ℕ → ℕ → ℕ
  word_offset n o c = (value_words n + c) * 8 + o

  -- the number of that word from the start of the block, as code computes it: for a block that
  -- fits, this is how many words are before it
  abbrev pub flag_word_at : ℕ → ℕ → ℕ
  flag_word_at n c = ((n * capped stride % 2 ^ 64 + 7) % 2 ^ 64 / 8 + c) % 2 ^ 64

  -- the offset of the value of slot j, for a block at offset o
  abbrev pub value_offset : ℕ → ℕ → ℕ
  value_offset o j = j * stride + o

  -- the value of a slot, or the room for one
  abbrev pub content_at : Option R.Denot → ℕ → ℕ → Fml
  content_at None b e = froom (raw (lone R.mir)) b e
  content_at (Some x) b e = part_at R full_share x b e

  module _ (n b o : ℕ) where
    -- a chunk's word in a block of n slots, and the room for one
    abbrev pub flags_at : ℕ → ℕ → Fml
    flags_at word c = atomic b (word_offset n o c) word

    abbrev pub flag_room : ℕ → ℕ → Fml
    flag_room word c = froom (ty_int w64) b (word_offset n o c)

  module _ (b o : ℕ) where
    -- the value of slot j, or the room for one
    abbrev pub slot : Option R.Denot → ℕ → Fml
    slot v j = content_at v b (value_offset o j)

    -- the way back: the words and the slots, once all are room, make the room of the block
    abbrev pub back : ℕ → Fml
    back n = fwand (fsep (each (flag_room n b o) (replicate (chunks n) 0) 0) (each slot (empty_slots n) 0)) (froom (block_ty n) b o)

    -- words that are the flags of these slots, and then room for `left` more
    abbrev pub flags_own : List (Option R.Denot) → ℕ → List ℕ → Fml
    flags_own slots left ns = fsep (fact ((length ns + left ≡ chunks (length slots)) × AreFlags ns slots))
        (fsep (each (flags_at (length slots) b o) ns 0) (each (flag_room (length slots) b o) (replicate left 0) (length ns)))

    -- words that are the flags of these slots
    abbrev pub flags : List (Option R.Denot) → Fml
    flags slots = fex (List ℕ) (flags_own slots 0)

  -- a block at a pointer: its slots, the words of all but the last `left` chunks, and the right to
  -- free it
  abbrev pub block_owns : (Ty → Ptr → Fml) → Ptr → List (Option R.Denot) → ℕ → Fml
  block_owns token p slots left =
      fsep (fact (InBlock p × Fits (length slots))) (fsep
      (fex (List ℕ) (flags_own (block_of p) (count_of p) slots left))
      (fsep (each (slot (block_of p) (count_of p)) slots 0)
      (fsep (back (block_of p) (count_of p) (length slots)) (token (block_ty (length slots)) p))))
