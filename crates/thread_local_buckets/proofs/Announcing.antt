-- Which buckets are announced and which stand, by two words, as the contents change.
use Rattle.std.proofs.Common.{◌≡◌, ◌≢◌, ℕ, zero, suc, eqb, ◌^◌, ◌%◌, ◌*◌, ◌<◌, ◌⊎◌, true, false, List, [], ◌∷◌, Option, None, Some, IsSome, length, bit_or, refl, sym, ap, ◌∙◌, subst, arith, ⊎_elim}
use Rattle.std.specs.Prelude.{slice_index_or, slice_set}
use Rattle.std.specs.Int.{bit_at}
use Rattle.std.proofs.lemmas.Bool.{cases_eq, cases_Bool, eq-eqb, ne_eqb, false≢true}
use Rattle.std.proofs.lemmas.Nat.Bits.{bit_at_ones, bit_at_or}
use Rattle.thread_local_base.specs.Bits.{is_set}
use Rattle.thread_local_base.specs.Buckets.{Contents, row, no_contents, IsTable}
use Rattle.thread_local_base.specs.Rows.{value_in, with_row, with_slot}
use Rattle.thread_local_base.proofs.RowLaws.{row-with_row-same, row-with_row-other, row-no_contents, IsTable-with_row, IsTable-with_slot}
use Rattle.thread_local_base.proofs.Word.{set_bit, bit_at-unset}
use Rattle.thread_local_buckets.specs.Announced.{Announces, Covers, AllBut, HasNone, IsMissing}

-- the contents of a table, and its words of announced buckets and of those that an owner made
abbrev pub IsAnnounced : {V : Type 0} → ℕ → ℕ → Contents V → Type 0
IsAnnounced announced made contents = IsTable contents × Announces announced contents × Covers (bit_or announced made) contents

-- a bit that is 0 isn't set
pub unset : (word bit : ℕ) → bit_at word bit ≡ 0 → is_set word bit ≡ false
unset word bit none = ap (λ b. eqb b 1) none

-- a bit is set in one of two words, or in neither
pub in_neither : (one other bit : ℕ) → is_set (bit_or one other) bit ≡ false → (is_set one bit ≡ false) × (is_set other bit ≡ false)
in_neither one other bit out =
    let both = bit_at_or one other bit in
    let none = bit_at-unset (bit_or one other) bit out in
    (unset one bit (omega (arith, both, none)), unset other bit (omega (arith, both, none)))

pub not_in : (one other bit : ℕ) → is_set one bit ≡ false → is_set other bit ≡ false → is_set (bit_or one other) bit ≡ false
not_in one other bit out out' =
    unset (bit_or one other) bit (omega (arith, bit_at_or one other bit, bit_at-unset one bit out, bit_at-unset other bit out'))

-- a bit that isn't clear is set
pub set_unless : (word bit : ℕ) → (is_set word bit ≡ false → ⊥) → is_set word bit ≡ true
set_unless word bit clear = ⊎_elim (λ is. is) (λ out. absurd (clear out)) (cases_Bool (is_set word bit))

-- a word with one more bucket of the table
abbrev pub and_bit : ℕ → ℕ → ℕ
and_bit word bucket = bit_or word (1 * 2 ^ bucket % 2 ^ 64)

pub bit_added : (word b : ℕ) → b < 63 → is_set (and_bit word b) b ≡ true
bit_added word b low = set_bit word b (omega arith) b (omega arith) ∙ rw (eq-eqb b b refl) refl

none_past-more : (word b : ℕ) → b < 63 → is_set word 63 ≡ false → is_set (and_bit word b) 63 ≡ false
none_past-more word b low none =
    set_bit word b (omega arith) 63 (omega arith) ∙ (let apart : b ≢ 63 = omega arith in rw (ne_eqb b 63 apart) none)

-- what holds of all buckets but those of a word, once it changes at one of them alone
AllBut-at : (P Q : ℕ → Type 0) (word b : ℕ) → ((j : ℕ) → j ≢ b → P j → Q j) → (b < 63 → is_set word b ≡ false → P b → Q b)
    → AllBut P word → AllBut Q word
AllBut-at P Q word b apart here all = record {
  others = λ j low out. ⊎_elim
      (λ (same : j ≡ b).
      subst (λ (k : ℕ). k < 63 → is_set word k ≡ false → P k → Q k) (sym same) here low out (all.others j low out))
      (λ (other : j ≢ b). apart j other (all.others j low out))
      (cases_eq j b);
  none_past = all.none_past;
}

-- or once it follows
AllBut-so : (P Q : ℕ → Type 0) (word : ℕ) → ((b : ℕ) → P b → Q b) → AllBut P word → AllBut Q word
AllBut-so P Q word so all = record { others = λ b low out. so b (all.others b low out); none_past = all.none_past }

module _ {V : Type 0} where
  -- an empty slot stays empty where another one's value is taken
  none_kept : (cs : List (Option V)) (i k : ℕ) → slice_index_or cs k None ≡ None → slice_index_or (slice_set cs i None) k None ≡ None
  none_kept [] i k none = none
  none_kept (c ∷ cs) zero zero none = refl
  none_kept (c ∷ cs) zero (suc k) none = none
  none_kept (c ∷ cs) (suc i) zero none = none
  none_kept (c ∷ cs) (suc i) (suc k) none = none_kept cs i k none

  -- a row changes, which has values only where the bucket is announced, and slots only where it is covered
  with_row_kept : (announced made : ℕ) (c : Contents V) (b : ℕ) (r : List (Option V))
      → (b < 63 → is_set announced b ≡ false → HasNone c b → (k : ℕ) → slice_index_or r k None ≡ None)
      → (is_set (bit_or announced made) b ≡ false → IsMissing c b → r ≡ [])
      → IsTable (with_row c b r) → IsAnnounced announced made c → IsAnnounced announced made (with_row c b r)
  with_row_kept announced made c b r none missing table so =
      let value : ℕ → List (Option V) → Option V = λ k s. slice_index_or s k None in (
        table,
        record {
          first = so.1.first;
          holding = AllBut-at (HasNone c) (HasNone (with_row c b r)) announced b
              (λ j apart was k. ap (value k) (row-with_row-other c b j r apart) ∙ was k)
              (λ low out was k. ap (value k) (row-with_row-same c b r (omega (arith, so.0.buckets))) ∙ none low out was k)
              so.1.holding;
        },
        AllBut-at (IsMissing c) (IsMissing (with_row c b r)) (bit_or announced made) b
            (λ j apart was. row-with_row-other c b j r apart ∙ was)
            (λ low out was. row-with_row-same c b r (omega (arith, so.0.buckets)) ∙ missing out was)
            so.2,
      )

  -- a bucket is made, emptied or freed
  pub IsAnnounced-with_row : (announced made : ℕ) (c : Contents V) (b : ℕ) (r : List (Option V))
      → (length r ≡ 0) ⊎ (length r ≡ 2 ^ b) → ((k : ℕ) → slice_index_or r k None ≡ None)
      → (is_set (bit_or announced made) b ≡ false → r ≡ [])
      → IsAnnounced announced made c → IsAnnounced announced made (with_row c b r)
  IsAnnounced-with_row announced made c b r long none missing so =
      with_row_kept announced made c b r (λ _ _ _. none) (λ out _. missing out) (IsTable-with_row c b r so.0 long) so

  -- a value goes, or one comes where the bucket is announced
  pub IsAnnounced-with_slot : (announced made : ℕ) (c : Contents V) (b i : ℕ) (o : Option V)
      → (b < 63 → is_set announced b ≡ false → o ≡ None)
      → IsAnnounced announced made c → IsAnnounced announced made (with_slot c b i o)
  IsAnnounced-with_slot announced made c b i o gone so =
      with_row_kept announced made c b (slice_set (row c b) i o)
      (λ low out was k. ap (λ (p : Option V). slice_index_or (slice_set (row c b) i p) k None) (gone low out)
      ∙ none_kept (row c b) i k (was k))
      (λ out was. ap (λ (s : List (Option V)). slice_set s i o) was)
      (IsTable-with_slot c b i o so.0) so

  -- a bucket without values stays so where a value is taken
  pub none_taken : (c : Contents V) (b i j : ℕ) → b < length c.rows → HasNone c j → HasNone (with_slot c b i None) j
  none_taken c b i j low was k =
      let value : List (Option V) → Option V = λ s. slice_index_or s k None in
      let r : List (Option V) = slice_set (row c b) i None in
      ⊎_elim
      (λ (same : j ≡ b).
      subst (λ (n : ℕ). value_in c n k ≡ None → value_in (with_row c b r) n k ≡ None) (sym same)
      (λ none. ap value (row-with_row-same c b r low) ∙ none_kept (row c b) i k none) (was k))
      (λ (apart : j ≢ b). ap value (row-with_row-other c b j r apart) ∙ was k)
      (cases_eq j b)

  -- a bucket that holds a value is announced
  pub holds_announced : (announced : ℕ) (c : Contents V) (b i : ℕ) → b < 63 → Announces announced c → IsSome (value_in c b i)
      → is_set announced b ≡ true
  holds_announced announced c b i low told some = set_unless announced b (λ out.
      is_none (value_in c b i) (told.holding.others b low out i) some)
    where
      is_none : (o : Option V) → o ≡ None → IsSome o → ⊥
      is_none None e h = cc
      is_none (Some v) e h = cc

  -- a new table announces its first seven buckets
  pub IsAnnounced-new : IsTable (no_contents {V = V}) → IsAnnounced 127 0 (no_contents {V = V})
  IsAnnounced-new table = (
    table,
    record {
      first = λ b low. ap (λ v. eqb v 1) (bit_at_ones 7 b low);
      holding = record { others = λ b low out k. ap (λ (s : List (Option V)). slice_index_or s k None) (row-no_contents V b); none_past = refl };
    },
    record { others = λ b low out. row-no_contents V b; none_past = refl },
  )

  -- the words get more buckets
  IsAnnounced-larger : (announced made announced' made' : ℕ) (c : Contents V)
      → ((i : ℕ) → is_set announced' i ≡ false → is_set announced i ≡ false)
      → ((i : ℕ) → is_set made' i ≡ false → is_set made i ≡ false)
      → is_set announced' 63 ≡ false → is_set made' 63 ≡ false
      → IsAnnounced announced made c → IsAnnounced announced' made' c
  IsAnnounced-larger announced made announced' made' c fewer fewer' none none' so = (
    so.0,
    record {
      first = λ i near. set_unless announced' i (λ out. false≢true (sym (fewer i out) ∙ so.1.first i near));
      holding = record { others = λ b low out. so.1.holding.others b low (fewer b out); none_past = none };
    },
    record {
      others = λ b low out.
          let neither = in_neither announced' made' b out in
          so.2.others b low (not_in announced made b (fewer b neither.0) (fewer' b neither.1));
      none_past = not_in announced' made' 63 none none';
    },
  )

  -- one is announced
  pub IsAnnounced-announced : (announced made : ℕ) (c : Contents V) (b : ℕ) → b < 63 → IsAnnounced announced made c
      → IsAnnounced (and_bit announced b) made c
  IsAnnounced-announced announced made c b low so =
      let last = in_neither announced made 63 so.2.none_past in
      IsAnnounced-larger announced made (and_bit announced b) made c (λ i out. (in_neither announced (1 * 2 ^ b % 2 ^ 64) i out).0)
      (λ i out. out) (none_past-more announced b low last.0) last.1 so

  -- one is noted as made
  pub IsAnnounced-made : (announced made : ℕ) (c : Contents V) (b : ℕ) → b < 63 → IsAnnounced announced made c
      → IsAnnounced announced (and_bit made b) c
  IsAnnounced-made announced made c b low so =
      let last = in_neither announced made 63 so.2.none_past in
      IsAnnounced-larger announced made announced (and_bit made b) c (λ i out. out)
      (λ i out. (in_neither made (1 * 2 ^ b % 2 ^ 64) i out).0) last.0 (none_past-more made b low last.1) so

  -- the same slots hold values in other contents
  pub IsAnnounced-same : (announced made : ℕ) (c d : Contents V) → IsTable d → ((b : ℕ) → HasNone c b → HasNone d b)
      → ((b : ℕ) → IsMissing c b → IsMissing d b) → IsAnnounced announced made c → IsAnnounced announced made d
  IsAnnounced-same announced made c d table none missing so = (
    table,
    record { first = so.1.first; holding = AllBut-so (HasNone c) (HasNone d) announced none so.1.holding },
    AllBut-so (IsMissing c) (IsMissing d) (bit_or announced made) missing so.2,
  )
