-- What each step of a manager makes of its words.
use Rattle.std.proofs.Common.{◌≡◌, ◌≢◌, ℕ, suc, ◌+◌, ◌-◌, ◌*◌, ◌/◌, ◌%◌, ◌^◌, ◌<◌, ◌≤◌, min, max, Bool, true, false, List, []}
use Rattle.std.proofs.Common.{◌∷◌, ◌++◌, length, take, set, get_or, replicate, bit_xor, ap, sym, ◌∙◌, arith, refl, ⊎_elim, not, IsTrue, ◌⊎◌}
use Rattle.std.proofs.lemmas.Bool.{cases_eq, cases_lt}
use Rattle.std.proofs.lemmas.List.{length-replicate, length_push, length-take, get_or_read, get_or-set_same, get_or-set_other}
use Rattle.std.proofs.Math.Seq.{take-nil, take-set-lt}
use Rattle.thread_local_base.specs.Bits.{bits_of, is_set_in, IsNextUnset}
use Rattle.thread_local_base.specs.Held.{is_held, least, with_least, Takes, Gives, NeedsMemory}
use Rattle.thread_local_base.specs.Words.{manager_of, IsManager}
use Rattle.thread_local_base.proofs.HeldLaws.{least_lower, least_only, least_bounded, takes, gives}
use Rattle.thread_local_base.proofs.Views.{IsFreeFrom-set, is_held-push, take-push, is_held-take, least-take, below_peak}
use Rattle.thread_local_base.proofs.Views.{taken_at_peak, taken_below_peak}
use Rattle.thread_local_base.proofs.Word.{turn_bit, place_below}
use Rattle.thread_local_base.proofs.WordBits.{length-bits_of, get_or-bits_of, bits_of-set, is_set_in-zeros, is_set_in-push_zero, next_unset_from}

-- the room is no more than there are ids
pub room_bounded : (words : List ℕ) (peak : ℕ) → (manager_of words peak).room ≤ 2 ^ 63 - 1
room_bounded words peak = omega arith

-- as many zeros as there are to be words
pub zeros : (count before : ℕ) (none items : List ℕ) → none ≡ [] → before ≡ 0
    → items ≡ take count none ++ replicate (count - before) 0
    → items ≡ replicate count 0
zeros count before none items empty start filled =
    let all : count - before ≡ count = omega arith in
    filled ∙ rw (empty, all) (ap (λ (l : List ℕ). l ++ replicate count 0) (take-nil count))

-- words that are all 0 hold no id
pub of_zeros : (words : List ℕ) (count : ℕ) → words ≡ replicate count 0 → count ≤ 2 ^ 57 → IsManager words 0 0
of_zeros words count zeros few = record {
  few = rw zeros (omega (arith, length-replicate {A = ℕ} count 0));
  within = omega arith;
  in_range = omega arith;
  above = λ id _. rw zeros (get_or-bits_of (replicate count 0) id ∙ is_set_in-zeros count id);
  next = record { after = omega arith; unset = rw zeros (is_set_in-zeros count 0); between = λ i _ below. absurd (omega arith) };
}

-- `new` is the words with one bit turned
abbrev pub IsTurned : List ℕ → ℕ → List ℕ → Type 0
IsTurned words bit new = bits_of new ≡ set (bits_of words) bit (not (is_set_in words bit))

-- a bit is turned in its word, which was `old`
pub bit_turned : (words : List ℕ) (bit old : ℕ) → bit / 64 < length words → old ≡ get_or words (bit / 64) old
    → IsTurned words bit (set words (bit / 64) (bit_xor old (1 * 2 ^ (bit % 64) % 2 ^ 64)))
bit_turned words bit old within read =
    bits_of-set words bit _ _ within
    (rw (← get_or_read words (bit / 64) old within read 0) (turn_bit old (bit % 64) (place_below bit)))

-- the held ids that contracts see fit into the room
in_room : (words : List ℕ) (peak lowest : ℕ) → IsManager words peak lowest
    → length (manager_of words peak).held ≤ (manager_of words peak).room
in_room words peak lowest is = omega (arith, length-take peak (bits_of words), is.within, is.in_range)

-- how words are seen
module _ (words : List ℕ) (peak lowest : ℕ) (is : IsManager words peak lowest) where
  -- as many ids are seen as the peak says
  pub seen_peak : peak ≡ length (manager_of words peak).held
  seen_peak = omega (arith, length-take peak (bits_of words), length-bits_of words, is.within)

  -- a bit is set where its id is held
  pub seen_bit : (id : ℕ) → is_set_in words id ≡ is_held (manager_of words peak).held id
  seen_bit id = sym (get_or-bits_of words id) ∙ sym (is_held-take (bits_of words) peak id is.above)

  first_unset : lowest ≡ least (bits_of words)
  first_unset =
      least_only (bits_of words) lowest (get_or-bits_of words lowest ∙ is.next.unset)
      (λ k below. get_or-bits_of words k ∙ is.next.between k (omega arith) below)

  -- the lowest unset bit is the least id that isn't held
  pub seen_least : lowest ≡ least (manager_of words peak).held
  seen_least =
      first_unset ∙ sym (least-take (bits_of words) peak (omega (arith, length-bits_of words, is.within)) is.above)

  least_within : lowest ≤ peak
  least_within = omega (arith, seen_least, seen_peak, least_bounded (manager_of words peak).held)

  -- every id is held that has a bit
  pub needs_memory : lowest < 2 ^ 63 - 1 → length words ≤ lowest / 64 → NeedsMemory (manager_of words peak)
  needs_memory range past =
      let within = least_within in let under = is.within in record {
        full = λ k below. least_lower (manager_of words peak).held k (omega (arith, seen_least, seen_peak));
        no_room = omega (arith, seen_peak);
        in_range = omega arith;
      }

  -- there is a word for it, or one more is made
  pub word_at : lowest < 2 ^ 63 - 1 → lowest / 64 ≤ length words
  word_at range = let within = least_within in let under = is.within in omega (arith, within, under)

  -- its bit is set, and another is the lowest unset one then
  module _ (new : List ℕ) (turned : IsTurned words lowest new) (many : length new ≡ length words) (inside : lowest / 64 < length words)
      (range : lowest < 2 ^ 63 - 1) (then : ℕ) (next : IsNextUnset new (lowest / 64 * 64) then) where
    bits : bits_of new ≡ set (bits_of words) lowest true
    bits = turned ∙ ap (λ (b : Bool). set (bits_of words) lowest (not b)) is.next.unset

    pub taken : IsManager new (max peak (lowest + 1)) then
    taken = let under = is.within in record {
      few = omega (arith, is.few);
      within = omega arith;
      in_range = omega (arith, is.in_range);
      above = rw bits (IsFreeFrom-set (bits_of words) (max peak (lowest + 1)) lowest true (omega arith) (λ k from. is.above k (omega arith)));
      next = next_unset_from new 0 (lowest / 64 * 64) then (omega arith)
          (λ k _ below. sym (get_or-bits_of new k)
          ∙ rw bits (get_or-set_other (bits_of words) lowest k true false (omega arith))
          ∙ get_or-bits_of words k ∙ is.next.between k (omega arith) (omega arith))
          next;
    }

    pub taken_held : (manager_of new (max peak (lowest + 1))).held ≡ with_least (manager_of words peak).held
    taken_held =
        let within = least_within in let under = is.within in
        ⊎_elim
        (λ (at : lowest ≡ peak).
        let more : max peak (lowest + 1) ≡ suc peak = omega arith in
        let here =
        taken_at_peak (bits_of words) peak (omega (arith, length-bits_of words)) is.above (omega (arith, first_unset)) in
        rw (bits, more, at) here)
        (λ apart.
        let same : max peak (lowest + 1) ≡ peak = omega arith in
        rw (bits, same, first_unset)
        (taken_below_peak (bits_of words) peak (omega (arith, length-bits_of words)) is.above
        (λ same. apart (first_unset ∙ same))))
        (cases_eq lowest peak)

    pub takes_it : Takes (manager_of words peak) (manager_of new (max peak (lowest + 1))) lowest
    takes_it =
        let same : (manager_of new (max peak (lowest + 1))).room ≡ (manager_of words peak).room =
        ap (λ (count : ℕ). min (count * 64) (2 ^ 63 - 1)) many in
        takes _ _ _ seen_least range taken_held (omega (arith, same)) (λ _. same) (omega (arith, same))
        (in_room new (max peak (lowest + 1)) then taken) (room_bounded new (max peak (lowest + 1)))

  -- an id is freed
  module _ (id : ℕ) (here : IsTrue (is_held (manager_of words peak).held id)) where
    pub freed_below : id < peak
    freed_below = below_peak (bits_of words) peak id here

    pub has_word : id / 64 < length words
    has_word = omega (arith, freed_below, is.within)

    freed_bits : (new : List ℕ) → IsTurned words id new
        → bits_of new ≡ set (bits_of words) id false
    freed_bits new turned = turned ∙ ap (λ (b : Bool). set (bits_of words) id (not b)) (seen_bit id ∙ here)

    still_set : is_set_in words id ≡ false → ⊥
    still_set unset = let never : true ≡ false = sym (seen_bit id ∙ here) ∙ unset in cc

    -- the other bits are kept
    kept : (new : List ℕ) → bits_of new ≡ set (bits_of words) id false → (k : ℕ) → k ≢ id → is_set_in new k ≡ is_set_in words k
    kept new bits k apart =
        sym (get_or-bits_of new k) ∙ rw bits (get_or-set_other (bits_of words) id k false false apart) ∙ get_or-bits_of words k

    pub freed : (new : List ℕ) → IsTurned words id new → length new ≡ length words
        → IsManager new peak (min lowest id)
    freed new turned many =
        let bits = freed_bits new turned in record {
          few = omega (arith, is.few);
          within = omega (arith, is.within);
          in_range = is.in_range;
          above = rw bits (IsFreeFrom-set (bits_of words) peak id false freed_below is.above);
          next = record {
            after = omega arith;
            unset = ⊎_elim
                (λ (below : id < lowest).
                let here : min lowest id ≡ id = omega arith in
                rw here (sym (get_or-bits_of new id)
                ∙ rw bits (get_or-set_same (bits_of words) id false false (omega (arith, freed_below, is.within, length-bits_of words)))))
                (λ (above : lowest ≤ id).
                let there : min lowest id ≡ lowest = omega arith in
                rw there (kept new bits lowest (λ same. still_set (rw (← same) is.next.unset)) ∙ is.next.unset))
                (cases_lt id lowest);
            between = λ k _ below. kept new bits k (omega arith) ∙ is.next.between k (omega arith) (omega arith);
          };
        }

    pub gives_it : (new : List ℕ) → IsTurned words id new → length new ≡ length words
        → Gives (manager_of words peak) (manager_of new peak) id
    gives_it new turned many =
        gives _ _ id here
        (ap (take peak) (freed_bits new turned) ∙ take-set-lt peak (bits_of words) id false freed_below)
        (ap (λ (count : ℕ). min (count * 64) (2 ^ 63 - 1)) many)
        (in_room new peak (min lowest id) (freed new turned many)) (room_bounded new peak)

-- The words have a bit for the id already, or one more word is made, all of whose bits are free.
abbrev pub HasBit : List ℕ → ℕ → List ℕ → Type 0
HasBit words id more = ((more ≡ words) × (id / 64 < length words)) ⊎ ((more ≡ words ++ 0 ∷ []) × (id / 64 ≡ length words))

-- what the words are once that bit is set, and another is the lowest unset one
abbrev pub IsSet : List ℕ → ℕ → ℕ → List ℕ → ℕ → ℕ → Type 0
IsSet words peak id new top then = IsManager new top then × Takes (manager_of words peak) (manager_of new top) id

-- the lowest unset bit is set once there is a word for it
module _ (words : List ℕ) (peak id : ℕ) (more : List ℕ) (is : IsManager words peak id) (range : id < 2 ^ 63 - 1)
    (bit : HasBit words id more) where
  pub has_bit : id / 64 < length more
  has_bit =
      ⊎_elim
      (λ same. rw same.0 same.1)
      (λ pushed. rw pushed.0 (omega (arith, pushed.1, length_push words 0)))
      bit

  pub are : IsManager more peak id
  are =
      ⊎_elim
      (λ same. rw same.0 is)
      (λ pushed. rw pushed.0 (record {
        few = omega (arith, pushed.1, length_push words 0);
        within = omega (arith, length_push words 0, is.within);
        in_range = is.in_range;
        above = λ id from. rw is_held-push (is.above id from);
        next = record {
          after = is.next.after;
          unset = is_set_in-push_zero words id ∙ is.next.unset;
          between = λ i lower below. is_set_in-push_zero words i ∙ is.next.between i lower below;
        };
      }))
      bit

  -- what is seen doesn't change but for the room
  still_held : (manager_of more peak).held ≡ (manager_of words peak).held
  still_held = ⊎_elim (λ same. rw same.0 refl) (λ pushed. rw pushed.0 (take-push words peak is.within)) bit

  pub is_set : (new : List ℕ) → IsTurned more id new → length new ≡ length more → (then : ℕ) → IsNextUnset new (id / 64 * 64) then
      → IsSet words peak id new (max peak (id + 1)) then
  is_set new turned many then next =
      let takes_so = takes_it more peak id are new turned many has_bit range then next in
      let same : (manager_of new (max peak (id + 1))).room ≡ (manager_of more peak).room =
      ap (λ (count : ℕ). min (count * 64) (2 ^ 63 - 1)) many in (
        taken more peak id are new turned many has_bit range then next,
        ⊎_elim
            (λ same. rw (← same.0) takes_so)
            (λ pushed.
            let one : length more ≡ length words + 1 = rw pushed.0 (length_push words 0) in
            takes _ _ _ (seen_least words peak id is) range (takes_so.held ∙ ap with_least still_held) (omega arith)
            (λ inside. absurd (omega (arith, inside, pushed.1))) (omega arith) takes_so.peak_in_room takes_so.room_in_range)
            bit,
      )
