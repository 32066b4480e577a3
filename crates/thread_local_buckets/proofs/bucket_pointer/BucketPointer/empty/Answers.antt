-- The search for these takes a second.
use Rattle.std.proofs.Common.{◌≡◌, ◌≢◌, ℕ, zero, suc, ◌+◌, ◌*◌, w64, ◌/◌, ◌%◌, ◌^◌, ◌<◌, bit_and, false, IsSome, List, [], ◌∷◌, length, slice_set}
use Rattle.std.proofs.Common.{Option, None, Some, is_some, refl, sym, ap, ◌∙◌, subst, arith, ⊎_elim}
use Rattle.std.proofs.lemmas.Bool.{cases_eq, eq-eqb, ne_eqb}
use Rattle.std.proofs.lemmas.List.{get_or-set_same, get_or-set_other, length-set}
use Rattle.thread_local_buckets.specs.Slots.{slot_value, empty_slots, flag_word_at}
use Rattle.thread_local_buckets.specs.contracts.bucket_pointer.BucketPointer.flags.{T-row}
use Rattle.thread_local_buckets.specs.declared.bucket_pointer.BucketPointer.{BucketPointer}
use Rattle.std.specs.Int.{bit_not}
use Rattle.thread_local_base.proofs.Word.{clear_bit, place_below}
use Rattle.thread_local_buckets.proofs.ChunkFlags.{HasFlags, flag_read, flags_changed}
use Rattle.thread_local_buckets.proofs.bucket_pointer.BucketPointer.empty.Goals as goal
use Rattle.thread_local_buckets.proofs.bucket_pointer.BucketPointer.empty.Goals.{then-flags-index-eq1, else-flags-index-eq1}

-- slots that are all empty
all_empty : {X : Type 0} (slots : List (Option X)) (n : ℕ) → length slots ≡ n
    → ((k : ℕ) → k < n → slot_value slots k ≡ None)
    → slots ≡ empty_slots n
all_empty [] zero long each = refl
all_empty [] (suc n) long each = absurd (omega arith)
all_empty (s ∷ slots) zero long each = absurd (omega arith)
all_empty (s ∷ slots) (suc n) long each =
    let first : s ≡ None = each 0 (omega arith) in
    let rest : slots ≡ empty_slots n = all_empty slots n (omega arith) (λ k near. each (suc k) (omega arith)) in
    ap (λ t. t ∷ slots) first ∙ ap (λ ts. None ∷ ts) rest

pub returns : goal.returns
returns g c =
    all_empty c.slots.self.slots c.args.len c.slots.invariant.whole
    (λ k near. c.slots.invariant.empty k (omega (arith, near, c.slots-test.false)))

-- a slot more is empty, once its value is taken
emptied : {X : Type 0} (old new : List (Option X)) (index len : ℕ) → length old ≡ len → index < len
    → ((k : ℕ) → k < index → slot_value old k ≡ None) → new ≡ slice_set old index None
    → (length new ≡ len) × ((k : ℕ) → k < index + 1 → slot_value new k ≡ None)
emptied {X = X} old new index len long near before is = (
  ap length is ∙ length-set old index None ∙ long,
  λ k below.
      ap (λ (slots : List (Option X)). slot_value slots k) is ∙ ⊎_elim
      (λ (here : k ≡ index). rw here (get_or-set_same old index None None (omega arith)))
      (λ (apart : k ≢ index). get_or-set_other old index k None None apart ∙ before k (omega arith))
      (cases_eq k index),
)

none_there : {X : Type 0} (slot : Option X) → is_some slot ≡ false → slot ≡ None
none_there None none = refl
none_there (Some x) none = cc

kept_empty : {X : Type 0} (old new : List (Option X)) (index len : ℕ) → length old ≡ len
    → ((k : ℕ) → k < index → slot_value old k ≡ None) → slot_value old index ≡ None → new ≡ old
    → (length new ≡ len) × ((k : ℕ) → k < index + 1 → slot_value new k ≡ None)
kept_empty {X = X} old new index len long before none is = (
  ap length is ∙ long,
  λ k below.
      ap (λ (slots : List (Option X)). slot_value slots k) is ∙ ⊎_elim
      (λ (here : k ≡ index). rw here none)
      (λ (apart : k ≢ index). before k (omega arith))
      (cases_eq k index),
)

pub slots-init : goal.slots-init
slots-init g c = record { whole = c.requires; empty = λ k none. absurd (omega (arith, none)) }

pub flags-flags-requires-clause-in_block : goal.flags-flags-requires-clause-in_block
flags-flags-requires-clause-in_block g c =
    omega (arith, c.slots.invariant.whole, c.slots-test.true)

pub flags-flags-requires-clause-flag_word : goal.flags-flags-requires-clause-flag_word
flags-flags-requires-clause-flag_word g c =
    c.flag_word_at-flag_word.ensures ∙ ap (λ (n : ℕ). flag_word_at (T-row g.row.T) n (c.slots.index / 64)) (sym c.slots.invariant.whole)

pub take_and_store-requires : goal.take_and_store-requires
take_and_store-requires g c =
    let slots = c.slots.self.slots in
    let index = c.slots.index in
    let read = c.flags-flags in
    let back = sym read.ensures.same in
    let whole = sym c.slots.invariant.whole in
    let near : index < length slots = subst (λ (n : ℕ). index < n) whole c.slots-test.true in
    record {
      in_block = subst (λ (later : BucketPointer g.row.T.Denot). index < length later.slots) back near;
      flag_word = c.flag_word_at-flag_word.ensures
          ∙ ap (λ (n : ℕ). flag_word_at (T-row g.row.T) n (index / 64)) whole
          ∙ ap (λ (later : BucketPointer g.row.T.Denot). flag_word_at (T-row g.row.T) (length later.slots) (index / 64)) back;
      published = subst (λ (later : BucketPointer g.row.T.Denot). IsSome (slot_value later.slots index)) back
          (flag_read slots index read.result read.ensures.value
          ∙ eq-eqb (bit_and (read.result / 2 ^ (index % 64)) 1) 1 c.if-flags-index-eq1.true);
      flags = subst (λ (later : BucketPointer g.row.T.Denot). HasFlags (slice_set later.slots index None) (index / 64)
          (bit_and read.result (bit_not w64 (1 * 2 ^ (index % 64) % 2 ^ 64))))
          back
          (flags_changed slots index None read.result _ near read.ensures.value (clear_bit read.result (index % 64) (place_below index)));
    }

pub slots-preserved : goal.slots-preserved
slots-preserved g c =
    let old : List (Option g.row.T.Denot) = c.slots.self.slots in
    let new : List (Option g.row.T.Denot) = c.if-flags-index-eq1.self.slots in
    let index : ℕ = c.slots.index in
    let kept = c.slots.invariant in
    elim c.if-flags-index-eq1.branch [
      | then-flags-index-eq1 w ↦
          let is : new ≡ slice_set old index None =
          ap (λ p. p.slots) w.self-is ∙ w.take_and_store.ensures.after ∙ ap (λ p. slice_set p.slots index None) c.flags-flags.ensures.same in
          let more = emptied old new index c.args.len kept.whole c.slots-test.true kept.empty is in
          record { whole = more.0; empty = more.1 }
      | else-flags-index-eq1 w ↦
          let is : new ≡ old = ap (λ p. p.slots) w.self-is ∙ ap (λ p. p.slots) c.flags-flags.ensures.same in
          let none =
          none_there (slot_value old index)
          (flag_read old index c.flags-flags.result c.flags-flags.ensures.value
          ∙ ne_eqb (bit_and (c.flags-flags.result / 2 ^ (index % 64)) 1) 1 w.if-flags-index-eq1.false) in
          let more = kept_empty old new index c.args.len kept.whole kept.empty none is in
          record { whole = more.0; empty = more.1 }
    ]
