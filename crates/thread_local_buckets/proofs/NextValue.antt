-- The walk and the contents once the walk has passed its next value.
use Rattle.std.proofs.Common.{◌≡◌, ◌≢◌, ℕ, ◌+◌, ◌-◌, ◌*◌, ◌/◌, ◌%◌, ◌^◌, ◌<◌, ◌≤◌, false, length, ◌∷◌, Option, Some}
use Rattle.std.proofs.Common.{None, is_some, IsSome, bit_and, count_ones, set, refl, ap, sym, ◌∙◌, subst, arith, ⊎_elim}
use Rattle.std.specs.Int.{w64, bit_not}
use Rattle.std.proofs.lemmas.Bool.{cases_eq, eq-eqb, ne_eqb, cases_lt}
use Rattle.std.proofs.lemmas.Nat.{zero_from_ones}
use Rattle.std.proofs.lemmas.List.{get_or-set_same, get_or-set_other}
use Rattle.thread_local_base.specs.Bits.{IsLowestSet, IsWordBut}
use Rattle.thread_local_base.specs.Place.{id_at}
use Rattle.thread_local_base.specs.Buckets.{Contents, row, values}
use Rattle.thread_local_base.specs.Walk.{walk, paired}
use Rattle.thread_local_base.specs.Rows.{value_in, with_slot}
use Rattle.thread_local_buckets.proofs.CountingLaws.{counted_at_hand, few_at_hand, count_below-taken, walk-few}
use Rattle.thread_local_buckets.proofs.FlagLaws.{IsFirst, first_at_hand, at_start}
use Rattle.thread_local_base.proofs.RowLaws.{row-with_row-same, length-row-with_slot}
use Rattle.thread_local_base.proofs.TakingLaws.{in_rows, taking}
use Rattle.thread_local_base.proofs.ValueLaws.{values-id_at, values-with_slot-same, values-with_slot-other}
use Rattle.thread_local_base.specs.Owner.{NoneBelow}
use Rattle.thread_local_base.specs.Counting.{count_below}
use Rattle.thread_local_buckets.specs.declared.cursor.RawIter.{RawIter}
use Rattle.thread_local_buckets.specs.declared.cursor.OwnerCursor.{OwnerCursor}
use Rattle.thread_local_buckets.specs.Cursor.{read_to, values_left, AreFlagsAt, IsAt, IsOwnerWalk}
use Rattle.thread_local_buckets.specs.Announced.{Announces, AreAhead, HasNone}
use Rattle.thread_local_buckets.proofs.Announcing.{none_taken}
use Rattle.thread_local_buckets.proofs.Passing.{AreAhead-behind}
use Rattle.thread_local_buckets.proofs.Slots.{value_of as held_value}

-- the cursor with other flags to pass
abbrev pub past : OwnerCursor → ℕ → OwnerCursor
past cursor rest = record { raw = cursor.raw; read = cursor.read; chunk = cursor.chunk; rest = rest; later = cursor.later; left = cursor.left }

-- a walk passes the value of a slot, and goes on with the flags that are left
pub record Passes {V : Type 0} (c : Contents V) (cursor : OwnerCursor) (rest given index : ℕ) : Type 0 where
  pub inside : index < length (row c cursor.raw.bucket)
  pub published : IsSome (value_in c cursor.raw.bucket index)
  pub ahead : given ≤ id_at cursor.raw.bucket index
  pub read : 64 ≤ cursor.raw.index
  pub before : id_at cursor.raw.bucket index < read_to cursor.raw
  pub left : count_ones rest + 1 ≡ count_ones cursor.rest
  pub flags : AreFlagsAt (with_slot c cursor.raw.bucket index None) cursor.raw.bucket index rest
  pub on : IsOwnerWalk (with_slot c cursor.raw.bucket index None) (past cursor rest)
  pub behind : NoneBelow (values (with_slot c cursor.raw.bucket index None)) (id_at cursor.raw.bucket index + 1)
  pub first : (v : V) → value_in c cursor.raw.bucket index ≡ Some v
      → walk (paired (values c))
      ≡ (id_at cursor.raw.bucket index, v)
      ∷ walk (paired (values (with_slot c cursor.raw.bucket index None)))

is_none : {V : Type 0} (o : Option V) → o ≡ None → IsSome o → ⊥
is_none None e h = cc
is_none (Some v) e h = cc

-- the cursor once it has read flags
abbrev pub behind_flags : OwnerCursor → RawIter → ℕ → ℕ → ℕ → OwnerCursor
behind_flags cursor raw flags chunk buckets = record {
  raw = record { yielded = raw.yielded + count_ones flags; bucket = raw.bucket; bucket_size = raw.bucket_size; index = raw.index };
  read = flags;
  chunk = chunk;
  rest = flags;
  later = cursor.later - count_ones flags;
  left = buckets;
}

-- the cursor of a walk that begins
abbrev begun : ℕ → ℕ → OwnerCursor
begun announced count = record {
  raw = record { yielded = 0; bucket = 0; bucket_size = 1; index = 0 };
  read = 0;
  chunk = 0;
  rest = 0;
  later = count;
  left = bit_and announced (bit_not w64 1);
}

-- flags that are 0 have no value
pub no_ones : (rest : ℕ) → rest ≡ 0 → count_ones rest ≡ 0
unfolding lib.Count.ones
no_ones rest none = ap count_ones none

-- and flags that aren't 0 have a value
pub some_ones : (rest : ℕ) → 0 < rest → 0 < count_ones rest
some_ones rest some =
    ⊎_elim (λ (none : count_ones rest < 1).
    absurd (let nothing = zero_from_ones rest (omega arith) in omega arith))
    (λ (more : 1 ≤ count_ones rest). more) (cases_lt (count_ones rest) 1)

module _ {V : Type 0} where
  -- the flags with the lowest cleared are those of the slots without that value
  flags_left : (c : Contents V) (raw : RawIter) (word rest i : ℕ) → IsFirst c raw word i
      → IsWordBut rest word (i % 64) false
      → AreFlagsAt (with_slot c raw.bucket i None) raw.bucket i rest
  flags_left c raw word rest i at but bit within =
      let b : ℕ = raw.bucket in
      let slot : ℕ = i / 64 * 64 + bit in
      let whole = at.whole in
      let inside = at.inside in
      let rows = in_rows c b (omega arith) in
      let now : row (with_slot c b i None) b ≡ set (row c b) i None = row-with_row-same c b (set (row c b) i None) rows in
      but bit within ∙ ⊎_elim
      (λ (here : i % 64 ≡ bit).
      let same : slot ≡ i = omega arith in
      rw (eq-eqb (i % 64) bit here, now, same, get_or-set_same (row c b) i None None (omega arith)) refl)
      (λ (apart : i % 64 ≢ bit).
      let other : slot ≢ i = λ e. apart (omega arith) in
      rw (ne_eqb (i % 64) bit apart, now, get_or-set_other (row c b) i slot None None other) (at.flags bit within))
      (cases_eq (i % 64) bit)

  -- the first slot that has a value has one
  is_published : (c : Contents V) (raw : RawIter) (word i : ℕ) → IsFirst c raw word i → IsSome (value_in c raw.bucket i)
  is_published c raw word i at =
      let whole : i / 64 * 64 + i % 64 ≡ i = omega arith in
      ap (λ k. is_some (value_in c raw.bucket k)) (sym whole) ∙ sym (at.flags (i % 64) at.first.within) ∙ at.first.set

  pub passes : (c : Contents V) (cursor : OwnerCursor) (rest bit given : ℕ) → IsOwnerWalk c cursor
      → cursor.rest < 2 ^ 64 → 0 < cursor.rest → rest < 2 ^ 64
      → IsLowestSet cursor.rest bit → IsWordBut rest cursor.rest bit false → NoneBelow (values c) given
      → Passes c cursor rest given (cursor.raw.index - 64 + bit)
  passes c cursor rest bit given walks fit some fits low cleared before =
      let raw : RawIter = cursor.raw in
      let i : ℕ = raw.index - 64 + bit in
      let b : ℕ = raw.bucket in
      let at = walks.at in
      let size = at.size in
      let within = at.within in
      let round = at.round in
      let from = first_at_hand c raw cursor.rest bit some low at in
      let lies = low.within in
      let at_bit : bit ≡ i % 64 = omega arith in
      let but = subst (λ (k : ℕ). IsWordBut rest cursor.rest k false) at_bit cleared in
      let inside = from.inside in
      let read = from.read in
      let whole = from.whole in
      let published = is_published c raw cursor.rest i from in
      let there = held_value (value_in c b i) published in
      let after : Contents V = with_slot c b i None in
      let rows = in_rows c b whole in
      let taken = λ (v : V) (here : value_in c b i ≡ Some v). taking c after b i v at.in_table inside whole from.behind here refl in
      let now = taken there.0 there.1 in
      let one : length (walk (values c)) ≡ length (there.0 ∷ walk (values after)) = ap length now.walked in
      let keeps : length (row after b) ≡ raw.bucket_size = length-row-with_slot c b i b None ∙ whole ∙ sym size in
      let flags = flags_left c raw cursor.rest rest i from but in
      let behind : NoneBelow (values after) (id_at b i + 1) = λ id below. now.behind id (omega arith) in
      let chunk : (raw.index - 64) / 64 ≡ i / 64 = omega arith in
      let on : IsAt after raw rest = record {
        in_table = at.in_table;
        size = size;
        round = round;
        within = within;
        behind = λ id below. now.behind id (omega arith);
        whole = λ _. keeps;
        flags = λ _. rw chunk flags;
        none = λ start. absurd (omega arith);
      } in
      let fewer : count_below (values after) (read_to raw) + 1 ≡ count_below (values c) (read_to raw) =
      count_below-taken (values c) (values after) (id_at b i) there.0 from.behind
      (values-id_at c b i inside ∙ there.1)
      (values-with_slot-same c b i None rows inside (omega arith))
      (λ id ne. values-with_slot-other c b i id None rows ne) (read_to raw) (omega arith) in
      let left : count_ones rest + 1 ≡ count_ones cursor.rest =
      omega (arith, fewer, counted_at_hand c raw cursor.rest fit at, counted_at_hand after raw rest fits on) in
      let few = walk-few (values after) in
      let counted = walks.counted in
      record {
        inside = omega (arith, inside, whole);
        published = published;
        ahead = ⊎_elim
            (λ (below : id_at b i < given).
            absurd (is_none (value_in c b i)
            (sym (values-id_at c b i inside) ∙ before (id_at b i) below) published))
            (λ (from : given ≤ id_at b i). from)
            (cases_lt (id_at b i) given);
        read = omega arith;
        before = omega arith;
        left = left;
        flags = flags;
        on = record {
          at = on;
          announced = record {
            others = λ k from low out. none_taken c b i k rows (walks.announced.others k from low out);
            inside = walks.announced.inside;
          };
          counted = omega (arith, left, one, counted);
          few = omega (arith, left, one, counted, few);
          fits = walks.fits;
          chunk = walks.chunk;
        };
        behind = behind;
        first = λ v here. (taken v here).entries;
      }

  -- the flags that a walk reads are of values that were behind those that it passed
  pub flags_few : (c : Contents V) (cursor : OwnerCursor) (raw : RawIter) (flags : ℕ)
      → IsOwnerWalk c cursor → cursor.rest ≡ 0 → flags < 2 ^ 64 → IsAt c raw flags
      → count_ones flags ≤ cursor.later
  flags_few c cursor raw flags walks none fits at = omega (arith, few_at_hand c raw flags fits at, walks.counted, no_ones cursor.rest none)

  pub reads_on : (c : Contents V) (cursor : OwnerCursor) (raw : RawIter) (flags chunk buckets : ℕ)
      → IsOwnerWalk c cursor → cursor.rest ≡ 0 → flags < 2 ^ 64 → IsAt c raw flags → chunk ≡ (raw.index - 64) / 64
      → AreAhead (HasNone c) buckets (raw.bucket + 1) → raw.yielded ≡ cursor.raw.yielded
      → IsOwnerWalk c (behind_flags cursor raw flags chunk buckets)
      × (values_left (behind_flags cursor raw flags chunk buckets) ≡ values_left cursor)
  reads_on c cursor raw flags chunk buckets walks none fits at are announced yielded =
      let few = flags_few c cursor raw flags walks none fits at in
      let nothing = no_ones cursor.rest none in
      let left : values_left (behind_flags cursor raw flags chunk buckets) ≡ values_left cursor = omega (arith, few, nothing) in (
        record {
          at = record {
            in_table = at.in_table;
            size = at.size;
            round = at.round;
            within = at.within;
            behind = at.behind;
            whole = at.whole;
            flags = at.flags;
            none = at.none;
          };
          announced = announced;
          counted = left ∙ walks.counted;
          few = omega (arith, left, walks.few);
          fits = omega (arith, few, walks.fits, yielded);
          chunk = are;
        },
        left,
      )

  -- a walk begins at the first slot, with all values to come
  pub begins : (c : Contents V) (announced count : ℕ) → Announces announced c → count ≡ length (walk (values c))
      → count < 2 ^ 63 → IsOwnerWalk c (begun announced count)
  begins c announced count told counted few =
      let left : count_ones 0 + count ≡ count = omega (arith, no_ones 0 refl) in
      record {
        at = at_start c (begun announced count).raw 0 (omega arith) (λ id below. absurd (omega (arith, below)));
        announced = AreAhead-behind (HasNone c) announced 1 (omega arith) told.holding;
        counted = left ∙ counted;
        few = omega (arith, left, few);
        fits = omega (arith, few);
        chunk = refl;
      }
