use Rattle.std.proofs.Common.{◌≡◌, ◌⊎◌, ◌+◌, ◌/◌, is_some, ◌<◌, ◌≤◌, ℕ, List, [], ◌∷◌, length, Option, true, false, inl, inr, refl, sym, ap, ◌∙◌, subst, arith}
use Rattle.std.specs.Prelude.{nat_lt}
use Rattle.std.proofs.lemmas.Bool.{lt-ltb, ltb-true, true≢false}
use Rattle.thread_local_buckets.specs.Emptying.{rest}
use Rattle.thread_local_buckets.specs.Slots.{slot_value, flag_word_at}
use Rattle.thread_local_buckets.specs.contracts.bucket_pointer.BucketPointer.release.{T-row}
use Rattle.thread_local_buckets.proofs.bucket_pointer.BucketPointer.release.Goals as goal
use Rattle.thread_local_buckets.proofs.bucket_pointer.BucketPointer.release.Goals.{then-is_next_published, else-is_next_published}

no_slots : {X : Type 0} (cs : List X) → false ≡ nat_lt 0 (length cs) → cs ≡ []
no_slots [] absent = refl
no_slots (x ∷ cs) absent = absurd (true≢false (sym (lt-ltb 0 (length (x ∷ cs)) (omega arith)) ∙ sym absent))

-- a block that stands has all its slots
all_slots : (n len : ℕ) → (n ≡ 0) ⊎ (n ≡ len) → true ≡ nat_lt 0 n → n ≡ len
all_slots n len (inl none) stands = absurd (let some = ltb-true 0 n (sym stands) in omega arith)
all_slots n len (inr all) stands = all

none_left : {X : Type 0} (cs : List (Option X)) (i len : ℕ) → length cs + i ≡ len → len ≤ i → cs ≡ []
none_left [] i len all past = refl
none_left (c ∷ cs) i len all past = absurd (omega arith)

one_less : {X : Type 0} (cs ds : List (Option X)) (i len : ℕ) → ds ≡ rest cs → length cs + i ≡ len → i < len
    → length ds + (i + 1) ≡ len
one_less [] ds i len is all near = absurd (omega arith)
one_less (c ∷ cs) ds i len is all near = let long : length ds ≡ length cs = ap length is in omega arith

-- The search for each of these takes a quarter of a second or more.
pub returns-then-not-stands : goal.returns-then-not-stands
returns-then-not-stands g c =
    ap (λ w. w.slots) c.stands.ensures.same ∙ no_slots c.args.self.now.slots c.if-not-stands.ensures.value

pub lift-requires : goal.lift-requires
lift-requires g c =
    subst (λ w. 0 < length w.slots) (sym c.stands.ensures.same)
    (ltb-true 0 (length c.args.self.now.slots) (sym c.if-not-stands.ensures.value))

pub of-emptying-requires-clause-whole : goal.of-emptying-requires-clause-whole
of-emptying-requires-clause-whole g c = c.lift.ensures.block.2

pub of-emptying-requires-clause-empty : goal.of-emptying-requires-clause-empty
of-emptying-requires-clause-empty g c = refl

pub slots-init : goal.slots-init
slots-init g c =
    let slots = c.args.self.now.slots in
    let long : (length slots ≡ 0) ⊎ (length slots ≡ c.args.len) = elim c.requires [
      | inl none ↦ inl (ap length none)
      | inr all ↦ inr all
    ] in
    let all : length slots ≡ c.args.len = all_slots (length slots) c.args.len long c.if-not-stands.ensures.value in
    let same : c.of-emptying.result.slots ≡ slots =
    c.of-emptying.ensures.1 ∙ c.lift.ensures.block.1 ∙ ap (λ w. w.slots) c.stands.ensures.same in
    let still : length c.of-emptying.result.slots ≡ c.args.len = ap length same ∙ all in (
      c.of-emptying.ensures.0 ∙ c.lift.ensures.block.0,
      c.of-emptying.ensures.2,
      (let z : (n len : ℕ) → n ≡ len → n + 0 ≡ len = λ n len e. omega (arith, e) in z (length c.of-emptying.result.slots) c.args.len still),
    )

pub is_next_published-requires : goal.is_next_published-requires
is_next_published-requires g c =
    let kept = c.slots.invariant in
    let n : ℕ = length c.slots.emptying.slots in
    let some : 0 < n = omega (arith, kept.2, c.slots-test.true) in
    let whole : c.args.len ≡ c.slots.emptying.gone + n = omega (arith, kept.1, kept.2) in
    record {
      next = (sym kept.1, some);
      flag_word = c.flag_word_at-flag_word.ensures ∙ ap (λ (m : ℕ). flag_word_at (T-row g.row.T) m (c.slots.index / 64)) whole;
    }

pub move_next-requires : goal.move_next-requires
move_next-requires g c =
    let looked = c.if-is_next_published.ensures in
    record {
      in_block = (
        sym c.slots.invariant.1 ∙ sym looked.after.2,
        subst (λ (cs : List (Option g.row.T.Denot)). 0 < length cs) (sym looked.after.1)
            (let kept = c.slots.invariant in omega (arith, kept.2, c.slots-test.true)),
      );
      published = ap (λ (cs : List (Option g.row.T.Denot)). is_some (slot_value cs 0)) looked.after.1 ∙ sym looked.value;
    }

pub slots-preserved : goal.slots-preserved
slots-preserved g c =
    let kept = c.slots.invariant in
    let less = one_less c.slots.emptying.slots c.if-is_next_published.emptying.slots c.slots.index c.args.len in
    elim c.if-is_next_published.branch [
      | then-is_next_published w ↦
          let looked = w.if-is_next_published.ensures.after in
          let moved = w.move_next.ensures.after in (
            ap (λ r. r.heap) w.emptying-is ∙ moved.0 ∙ looked.0 ∙ kept.0,
            ap (λ r. r.gone) w.emptying-is ∙ moved.2 ∙ ap (λ (n : ℕ). n + 1) (looked.2 ∙ kept.1),
            less (ap (λ r. r.slots) w.emptying-is ∙ moved.1 ∙ ap rest looked.1) kept.2 c.slots-test.true,
          )
      | else-is_next_published w ↦
          let looked = w.if-is_next_published.ensures.after in (
            ap (λ r. r.heap) w.emptying-is ∙ looked.0 ∙ kept.0,
            ap (λ r. r.gone) w.emptying-is ∙ looked.2 ∙ ap (λ (n : ℕ). n + 1) kept.1,
            less (ap (λ r. r.slots) w.emptying-is ∙ looked.1) kept.2 c.slots-test.true,
          )
    ]

pub deallocate-requires-clause-left : goal.deallocate-requires-clause-left
deallocate-requires-clause-left g c =
    let kept = c.slots.invariant in
    let end : (n i len : ℕ) → n + i ≡ len → len ≤ i → i ≡ len = λ n i len all past. omega (arith, all, past) in (
      kept.0,
      none_left c.slots.emptying.slots c.slots.index c.args.len kept.2 c.slots-test.false,
      kept.1 ∙ end (length c.slots.emptying.slots) c.slots.index c.args.len kept.2 c.slots-test.false,
    )

pub deallocate-requires-clause-size : goal.deallocate-requires-clause-size
deallocate-requires-clause-size g c = c.bytes_of_block.ensures

pub returns : goal.returns
returns g c = c.lift.ensures.null
