-- How a walk finds its next value by the flags of 64 slots at a time.
use Rattle.std.proofs.Common.{◌≡◌, ℕ, zero, suc, ◌+◌, ◌*◌, ◌/◌, ◌%◌, ◌^◌, ◌<◌, ◌≤◌, true, false, length, None, is_some}
use Rattle.std.proofs.Common.{refl, ap, sym, ◌∙◌, subst, arith, ⊎_elim, true≢false, ◌-◌}
use Rattle.std.proofs.lemmas.List.{get_or_past}
use Rattle.std.proofs.lemmas.Bool.{cases_lt}
use Rattle.thread_local_base.specs.Bits.{is_set, IsLowestSet}
use Rattle.thread_local_base.proofs.Word.{is_set-zero}
use Rattle.thread_local_base.specs.Place.{id_at}
use Rattle.thread_local_base.specs.Buckets.{Contents, row, values}
use Rattle.thread_local_base.specs.Rows.{value_in}
use Rattle.thread_local_base.specs.Owner.{NoneBelow}
use Rattle.thread_local_buckets.specs.Cursor.{behind_next, AreFlagsAt, IsAt}
use Rattle.thread_local_buckets.specs.declared.cursor.RawIter.{RawIter}
use Rattle.thread_local_base.proofs.TakingLaws.{NoneBelow-slot, id_at-next}

-- a slot is the first that has a value, and these are the flags of its chunk, of which its own is
-- the lowest that is set
pub record IsFirst {V : Type 0} (c : Contents V) (raw : RawIter) (word index : ℕ) : Type 0 where
  pub inside : index < 2 ^ raw.bucket
  pub read : index < raw.index
  pub behind : NoneBelow (values c) (id_at raw.bucket index)
  pub whole : length (row c raw.bucket) ≡ 2 ^ raw.bucket
  pub flags : AreFlagsAt c raw.bucket index word
  pub first : IsLowestSet word (index % 64)

-- the walk at the first slot of a bucket
abbrev at_bucket : RawIter → ℕ → RawIter
at_bucket raw bucket = record { yielded = raw.yielded; bucket = bucket; bucket_size = 2 ^ bucket; index = 0 }

module _ {V : Type 0} where
  -- empty slots are skipped
  pub none_to : (c : Contents V) (b i n to : ℕ) → to ≡ n + i → to ≤ 2 ^ b
      → NoneBelow (values c) (id_at b i)
      → ((k : ℕ) → i ≤ k → k < to → is_some (value_in c b k) ≡ false)
      → NoneBelow (values c) (id_at b to)
  none_to c b i zero to is near none empty =
      let same : i ≡ to = omega arith in
      let P : ℕ → Type 0 = λ k. NoneBelow (values c) (id_at b k) in
      subst P same none
  none_to c b i (suc n) to is near none empty =
      let last : n + i + 1 ≡ to = omega arith in
      let before = none_to c b i n (n + i) refl (omega arith) none (λ k from below. empty k from (omega arith)) in
      let P : ℕ → Type 0 = λ k. NoneBelow (values c) (id_at b k) in
      subst P last (NoneBelow-slot c b (n + i) (omega arith) before (empty (n + i) (omega arith) (omega arith)))

  -- a slot whose bit isn't set among the flags is empty
  unset_empty : (c : Contents V) (b i word k : ℕ) → AreFlagsAt c b i word → k / 64 ≡ i / 64
      → is_set word (k % 64) ≡ false
      → is_some (value_in c b k) ≡ false
  unset_empty c b i word k flags chunk unset =
      let here : i / 64 * 64 + k % 64 ≡ k = omega arith in
      ap (λ j. is_some (value_in c b j)) (sym here) ∙ sym (flags (k % 64) (omega arith)) ∙ unset

  -- where flags are 0, none of their slots has a value
  pub none_in_chunk : (c : Contents V) (b i to : ℕ) → AreFlagsAt c b i 0 → i ≤ to
      → to ≤ i / 64 * 64 + 64 → to ≤ 2 ^ b → NoneBelow (values c) (id_at b i)
      → NoneBelow (values c) (id_at b to)
  none_in_chunk c b i to flags from near inside none =
      none_to c b i (to - i) to (omega arith) inside none
      (λ k after below. unset_empty c b i 0 k flags (omega arith) (is_set-zero (k % 64)))

  -- so a walk whose flags are 0 finds no value before the place where it goes on
  pub none_at_hand : (c : Contents V) (raw : RawIter) (to : ℕ) → IsAt c raw 0 → to ≤ raw.index
      → to ≤ raw.bucket_size
      → NoneBelow (values c) (id_at raw.bucket to)
  none_at_hand c raw to at near inside =
      let size = at.size in
      let round = at.round in
      ⊎_elim
      (λ (before : to < raw.index - 64 + 1). λ id below. at.behind id (omega arith))
      (λ (after : raw.index - 64 + 1 ≤ to).
      none_in_chunk c raw.bucket (raw.index - 64) to (at.flags (omega arith)) (omega arith)
      (omega arith) (omega arith) at.behind)
      (cases_lt to (raw.index - 64 + 1))

  -- and where its bucket has no further flags, none before the next bucket
  pub none_to_next : (c : Contents V) (raw : RawIter) → IsAt c raw 0 → raw.bucket_size ≤ raw.index
      → NoneBelow (values c) (id_at (raw.bucket + 1) 0)
  none_to_next c raw at past id below =
      let size = at.size in
      let next = id_at-next raw.bucket in
      none_at_hand c raw raw.bucket_size at past (omega arith) id (omega (arith, below, size, next))

  -- a walk with flags at hand is behind their slots
  pub behind_slots : (c : Contents V) (raw : RawIter) (word : ℕ) → IsAt c raw word → 0 < word → 64 ≤ raw.index
  behind_slots c raw word at some =
      let round = at.round in ⊎_elim
      (λ (start : raw.index < 1). let nothing : word ≡ 0 = at.none (omega arith) in absurd (omega arith))
      (λ (far : 1 ≤ raw.index). omega arith)
      (cases_lt raw.index 1)

  -- the lowest set bit of the flags is that of the first value
  pub first_at_hand : (c : Contents V) (raw : RawIter) (word bit : ℕ) → 0 < word → IsLowestSet word bit
      → IsAt c raw word
      → IsFirst c raw word (raw.index - 64 + bit)
  first_at_hand c raw word bit some low at =
      let within : bit < 64 = low.within in
      let round = at.round in
      let behind : 64 ≤ raw.index = behind_slots c raw word at some in
      let far : 0 < raw.index = omega (arith, behind) in
      let from : ℕ = raw.index - 64 in
      let index : ℕ = from + bit in
      let chunk : index / 64 ≡ from / 64 = omega arith in
      let at_bit : index % 64 ≡ bit = omega arith in
      let slot : from / 64 * 64 + bit ≡ index = omega arith in
      let size = at.size in
      let whole = at.whole far in
      let flags = at.flags far in
      let here : is_some (value_in c raw.bucket index) ≡ true =
      ap (λ i. is_some (value_in c raw.bucket i)) (sym slot) ∙ sym (flags bit within) ∙ low.set in
      let inside : index < raw.bucket_size = ⊎_elim
      (λ (near : index < raw.bucket_size). near)
      (λ past. absurd (true≢false (sym here ∙ ap is_some (get_or_past (row c raw.bucket) index None (omega arith)))))
      (cases_lt index raw.bucket_size) in
      record {
        inside = omega arith;
        read = omega arith;
        behind = none_to c raw.bucket from bit index (omega arith) (omega arith) at.behind
            (λ k after below. unset_empty c raw.bucket from word k flags (omega arith) (low.lower (k % 64) (omega arith)));
        whole = whole ∙ size;
        flags = rw chunk flags;
        first = rw at_bit low;
      }

  -- behind a chunk whose flags were read
  pub behind_chunk : (c : Contents V) (raw : RawIter) (word : ℕ) → IsAt c raw 0 → raw.index < raw.bucket_size
      → length (row c raw.bucket) ≡ raw.bucket_size → AreFlagsAt c raw.bucket raw.index word
      → IsAt c (behind_next raw) word
  behind_chunk c raw word at inside whole flags =
      let from : raw.index + 64 - 64 ≡ raw.index = omega arith in
      let round = at.round in
      record {
        in_table = at.in_table;
        size = at.size;
        round = omega arith;
        within = omega arith;
        behind = rw from (none_at_hand c raw raw.index at (omega arith) (omega arith));
        whole = λ _. whole;
        flags = λ _. rw from flags;
        none = λ start. absurd (omega arith);
      }

  -- a walk at the first slot of a bucket has read none of its flags
  pub at_start : (c : Contents V) (raw : RawIter) (b : ℕ) → b < 63 → NoneBelow (values c) (id_at b 0) → IsAt c (at_bucket raw b) 0
  at_start c raw b low none = record {
    in_table = low;
    size = refl;
    round = omega arith;
    within = omega arith;
    behind = λ id below. none id (omega arith);
    whole = λ more. absurd (omega arith);
    flags = λ more. absurd (omega arith);
    none = λ _. refl;
  }
