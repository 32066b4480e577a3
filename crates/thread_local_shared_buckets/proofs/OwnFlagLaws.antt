-- The flag of the own slot among the flags of a chunk, and tests of two numbers.
use Rattle.thread_local_shared_buckets.proofs.Findings.{LiesOutside, MarksOwn, IsOwnAlone}
use Rattle.std.proofs.Common.{◌≡◌, ◌≢◌, ℕ, ◌+◌, ◌/◌, ◌%◌, ◌<◌, ◌≤◌, Bool, true, false, cond, eqb}
use Rattle.std.proofs.Common.{◌*◌, ◌^◌, bit_or, refl, ap, sym, ◌∙◌, subst, arith, ⊎_elim}
use Rattle.std.proofs.Common.{Option, None, Some, IfSome}
use Rattle.std.specs.Int.Bits.{or_zero_l, or_zero_r}
use Rattle.std.proofs.lemmas.Bool.{cond_both, eqb-true, eq-eqb, cases_lt, cases_eq}
use Rattle.thread_local_base.specs.Bits.{is_set, IsWordBut}
use Rattle.thread_local_base.proofs.Word.{set_bit, never_set, added_set, keeps_bit}

pub both_so : (a b c d : ℕ) → a ≡ b → c ≡ d → cond (eqb a b) (eqb c d) false ≡ true
both_so a b c d e f = ap (λ (u : Bool). cond u (eqb c d) false) (eq-eqb a b e) ∙ eq-eqb c d f

pub both_if : (a b c d : ℕ) → cond (eqb a b) (eqb c d) false ≡ true → (a ≡ b) × (c ≡ d)
both_if a b c d =
    cond_both {A = Bool} (eqb a b) (eqb c d) false (λ (u : Bool). u ≡ true → (a ≡ b) × (c ≡ d))
    (λ t set. (eqb-true a b t, eqb-true c d set)) (λ f set. let never : false ≡ true = set in cc)

pub by_test : {X : Type 0} (u : Bool) → (u ≡ true → X) → (u ≡ false → X) → X
by_test true t f = t refl
by_test false t f = f refl

-- no own slot lies in the chunks so far, if none lies in this one
pub none_further : (own : Option ℕ) (from chunk : ℕ) → ((k : ℕ) → from ≤ k → k < chunk → LiesOutside own k) → LiesOutside own chunk
    → (k : ℕ) → from ≤ k → k < chunk + 1 → LiesOutside own k
none_further own from chunk before here k late below =
    ⊎_elim (λ (less : k < chunk). before k late less)
    (λ (more : chunk ≤ k). let same : chunk ≡ k = omega arith in subst (LiesOutside own) same here)
    (cases_lt k chunk)

-- where no flag of a chunk is set, the own slot lies elsewhere
pub none_in_chunk : (own : Option ℕ) (chunk flags word : ℕ)
    → IfSome own (λ index. index / 64 ≡ chunk → IsWordBut word flags (index % 64) true) → word ≡ 0
    → LiesOutside own chunk
none_in_chunk None chunk flags word adds none = tt
none_in_chunk (Some index) chunk flags word adds none = λ at.
    let small : index % 64 < 64 = omega arith in
    never_set word (index % 64) none (added_set word flags (index % 64) (adds at) small)

-- a chunk's flags with that of the own slot have every flag that the chunk has
pub keeps_set : (own : Option ℕ) (chunk flags word bit : ℕ)
    → IfSome own (λ index. index / 64 ≡ chunk → IsWordBut word flags (index % 64) true)
    → (LiesOutside own chunk → word ≡ flags) → bit < 64 → is_set flags bit ≡ true
    → is_set word bit ≡ true
keeps_set None chunk flags word bit adds other small set = subst (λ (n : ℕ). is_set n bit ≡ true) (sym (other tt)) set
keeps_set (Some index) chunk flags word bit adds other small set =
    ⊎_elim (λ (here : index / 64 ≡ chunk). keeps_bit word flags (index % 64) bit (adds here) small set)
    (λ apart. subst (λ (n : ℕ). is_set n bit ≡ true) (sym (other apart)) set)
    (cases_eq (index / 64) chunk)

-- a chunk's flags as a walk takes them: that of the own slot is set in addition, if it lies there
pub record Counts (own : Option ℕ) (chunk flags word : ℕ) : Type 0 where
  pub adds : IfSome own (λ index. index / 64 ≡ chunk → IsWordBut word flags (index % 64) true)
  pub other : LiesOutside own chunk → word ≡ flags

-- the own slot's chunk, and another one
pub counts_here : (own : Option ℕ) (own_chunk own_flag chunk flags word : ℕ) → MarksOwn own own_chunk own_flag → chunk ≡ own_chunk
    → word ≡ bit_or flags own_flag → Counts own chunk flags word
counts_here None own_chunk own_flag chunk flags word marks here so =
    record { adds = tt; other = λ _. so ∙ ap (bit_or flags) marks ∙ or_zero_r flags }
counts_here (Some index) own_chunk own_flag chunk flags word marks here so = record {
  adds = λ _.
      subst (λ (n : ℕ). IsWordBut n flags (index % 64) true) (sym (so ∙ ap (bit_or flags) marks.1))
      (let small : index % 64 < 64 = omega arith in set_bit flags (index % 64) small);
  other = λ apart. absurd (apart (sym (here ∙ marks.0)));
}

pub counts_there : (own : Option ℕ) (own_chunk own_flag chunk flags word : ℕ) → MarksOwn own own_chunk own_flag → chunk ≢ own_chunk
    → word ≡ flags → Counts own chunk flags word
counts_there None own_chunk own_flag chunk flags word marks apart so = record { adds = tt; other = λ _. so }
counts_there (Some index) own_chunk own_flag chunk flags word marks apart so =
    record { adds = λ here. absurd (apart (sym here ∙ sym marks.0)); other = λ _. so }

-- the own slot's flag alone
pub alone_set : (index : ℕ) → IsWordBut (1 * 2 ^ (index % 64) % 2 ^ 64) 0 (index % 64) true
alone_set index =
    subst (λ (n : ℕ). IsWordBut n 0 (index % 64) true) (or_zero_l (1 * 2 ^ (index % 64) % 2 ^ 64))
    (let small : index % 64 < 64 = omega arith in set_bit 0 (index % 64) small)

-- where no look finds a flag, it is the one at hand, if it lies in the bucket
pub alone_own : (own : Option ℕ) (from chunk flag : ℕ) → MarksOwn own chunk flag → flag ≢ 0 → IsOwnAlone own from (chunk + 1) flag
alone_own None from chunk flag marks some = absurd (some marks)
alone_own (Some index) from chunk flag marks some =
    (ap (λ (n : ℕ). n + 1) marks.0, subst (λ (n : ℕ). IsWordBut n 0 (index % 64) true) (sym marks.1) (alone_set index))

pub alone_none : (own : Option ℕ) (from chunk flag rest : ℕ) → MarksOwn own chunk flag → flag ≡ 0 → rest ≡ 0 → IsOwnAlone own from from rest
alone_none None from chunk flag rest marks none nothing = (refl, nothing)
alone_none (Some index) from chunk flag rest marks none nothing =
    let small : index % 64 < 64 = omega arith in
    let but : IsWordBut flag 0 (index % 64) true = subst (λ (n : ℕ). IsWordBut n 0 (index % 64) true) (sym marks.1) (alone_set index) in
    never_set flag (index % 64) none (added_set flag 0 (index % 64) but small)
