-- A word that has the flags of a chunk of slots, and how it changes where one slot does.
use Rattle.std.specs.Prelude.{◌==◌, if◌then◌else◌}
use Rattle.std.proofs.Common.{◌≡◌, ◌≢◌, ℕ, ◌+◌, ◌*◌, ◌/◌, ◌%◌, ◌^◌, ◌<◌, List, length, Option, None, is_some, slice_set, eqb, bit_and, refl, sym, ap}
use Rattle.std.proofs.Common.{◌∙◌, arith, ⊎_elim}
use Rattle.std.proofs.lemmas.Bool.{cases_eq, eq-eqb, ne_eqb}
use Rattle.std.proofs.lemmas.List.{get_or-set_same, get_or-set_other}
use Rattle.thread_local_base.specs.Bits.{is_set, IsWordBut}
use Rattle.thread_local_base.proofs.Word.{is_set-test, place_below}
use Rattle.thread_local_buckets.specs.Slots.{slot_value}

-- the bits of this word are the flags of a chunk of these slots
abbrev pub HasFlags : {X : Type 0} → List (Option X) → ℕ → ℕ → Type 0
HasFlags slots chunk word = (bit : ℕ) → bit < 64 → is_set word bit ≡ is_some (slot_value slots (chunk * 64 + bit))

-- a slot has a value where its flag is set
pub flag_read : {X : Type 0} (slots : List (Option X)) (index flags : ℕ) → HasFlags slots (index / 64) flags
    → is_some (slot_value slots index) ≡ eqb (bit_and (flags / 2 ^ (index % 64)) 1) 1
flag_read slots index flags seen =
    let at : index / 64 * 64 + index % 64 ≡ index = omega arith in
    ap (λ (k : ℕ). is_some (slot_value slots k)) (sym at)
    ∙ sym (seen (index % 64) (place_below index)) ∙ sym (is_set-test flags (index % 64))

-- a slot gets other content, and its chunk's word becomes `new`
module _ {X : Type 0} (slots : List (Option X)) (index : ℕ) (content : Option X) (word new : ℕ)
    (near : index < length slots) (flags : HasFlags slots (index / 64) word) where
  -- each flag of the chunk is then what the word told, but for the slot's own
  flag_then : (bit : ℕ) → bit < 64
      → (if index % 64 == bit then is_some content else is_set word bit)
      ≡ is_some (slot_value (slice_set slots index content) (index / 64 * 64 + bit))
  flag_then bit within =
      let slot : ℕ = index / 64 * 64 + bit in
      ⊎_elim
      (λ (here : index % 64 ≡ bit).
      let same : slot ≡ index = omega arith in
      rw (eq-eqb (index % 64) bit here, same, get_or-set_same slots index content None near) refl)
      (λ (apart : index % 64 ≢ bit).
      let other : slot ≢ index = λ e. apart (omega arith) in
      rw (ne_eqb (index % 64) bit apart, get_or-set_other slots index slot content None other) (flags bit within))
      (cases_eq (index % 64) bit)

  -- so the word has the chunk's flags where the slot's bit alone changes
  pub flags_changed : IsWordBut new word (index % 64) (is_some content) → HasFlags (slice_set slots index content) (index / 64) new
  flags_changed but bit within = but bit within ∙ flag_then bit within

  -- and the slot's bit alone changes where the word has the chunk's flags
  pub bit_changed : HasFlags (slice_set slots index content) (index / 64) new → IsWordBut new word (index % 64) (is_some content)
  bit_changed told bit within = told bit within ∙ sym (flag_then bit within)
