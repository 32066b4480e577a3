-- No event gives two buckets the same number.
use Rattle.std.proofs.Common.{◌≡◌, ℕ, ◌<◌, ◌⊎◌, Bool, true, false, cond, Option, Some, None, IsTrue, refl, ap, sym, ◌∙◌}
use Rattle.std.proofs.Common.{arith, ⊎_elim, inl, inr}
use Rattle.std.specs.Prelude.{option_map}
use Rattle.std.proofs.lemmas.Bool.{ltb-true}
use Rattle.thread_local_base.specs.Capacity.{binary_digits, reserves_bucket}
use Rattle.thread_local_schedule.specs.Table.{Table, Bucket, fresh_bucket, made_table}
use Rattle.thread_local_schedule.specs.Local.{Local, fresh_local}
use Rattle.thread_local_base.specs.Answers.{View}
use Rattle.thread_local_schedule.specs.OwnerWalk.{rewritten}
use Rattle.thread_local_schedule.specs.Cleared.{cleared, drained}
use Rattle.thread_local_schedule.specs.Fits.{number_at}
use Rattle.thread_local_schedule.specs.Numbers.{own_number, NumbersGo}
use Rattle.thread_local_schedule.proofs.OwnerLaws.{number_at-rewritten, made-rewritten}
use Rattle.thread_local_schedule.proofs.ClearedLaws.{made-cleared, standing_before_clear, made-drained, number_at-drained}
use Rattle.thread_local_schedule.specs.Core.{put}
use Rattle.thread_local_schedule.specs.CoreFits.{NumbersFit}
use Rattle.thread_local_schedule.proofs.PutLaws.{put_cases, still}

-- the numbers fit where no pointer leads to another bucket than before, and no call owns one that
-- it didn't
carried : {V E : Type 0} (old new : Table V) (locals later : ℕ → Option (Local V E))
    → new.made ≡ old.made → ((bucket k : ℕ) → number_at new bucket ≡ Some k → number_at old bucket ≡ Some k)
    → ((n : ℕ) (local : Local V E) (k : ℕ) → later n ≡ Some local → own_number local.doing ≡ Some k
    → (was : Local V E) × (locals n ≡ Some was) × (own_number was.doing ≡ Some k))
    → NumbersFit old locals → NumbersFit new later
carried old new locals later made names own h = record {
  standing_made = λ bucket k e. omega (arith, made, h.standing_made bucket k (names bucket k e));
  standing_apart = λ a b k e f. h.standing_apart a b k (names a k e) (names b k f);
  own_made = λ n local k at e. let was = own n local k at e in omega (arith, made, h.own_made n was.0 k was.1 was.2);
  own_nowhere = λ n local k bucket at e f. let was = own n local k at e in h.own_nowhere n was.0 k bucket was.1 was.2 (names bucket k f);
  own_apart = λ m n a b k at in_b e f.
      let first = own m a k at e in
      let second = own n b k in_b f in
      h.own_apart m n first.0 second.0 k first.1 second.1 first.2 second.2;
}

-- a new Local has no bucket of its own
pub taken-NumbersFit : {V E : Type 0} (table : Table V) (locals : ℕ → Option (Local V E))
    (number id : ℕ) (view : View V)
    → NumbersFit table locals
    → NumbersFit table (put locals number (Some (fresh_local id view)))
taken-NumbersFit table locals number id view h =
    carried table table locals (put locals number (Some (fresh_local id view))) refl (λ bucket k e. e)
    (λ n local k at e.
    ⊎_elim
    (λ here.
    let same : fresh_local id view ≡ local = (let some = here.1 in cc) in
    let none : own_number local.doing ≡ None = ap (λ x. own_number x.doing) (sym same) in
    absurd cc)
    (λ apart. (local, apart.1, e))
    (put_cases locals number (Some (fresh_local id view)) n local at))
    h

pub removed-NumbersFit : {V E : Type 0} (table : Table V) (locals : ℕ → Option (Local V E))
    (number : ℕ)
    → NumbersFit table locals
    → NumbersFit table (put locals number None)
removed-NumbersFit table locals number h =
    carried table table locals (put locals number None) refl (λ bucket k e. e)
    (λ n local k at e. (local, (still locals number n local at).1, e)) h

pub rewritten-NumbersFit : {V E : Type 0} (table : Table V) (others : ℕ → V → V)
    (locals : ℕ → Option (Local V E))
    → NumbersFit table locals
    → NumbersFit (rewritten table others) locals
rewritten-NumbersFit table others locals h =
    carried table (rewritten table others) locals locals (made-rewritten table others)
    (λ bucket k e. sym (number_at-rewritten table others bucket) ∙ e)
    (λ n local k at e. (local, at, e)) h

pub cleared-NumbersFit : {V E : Type 0} (table : Table V) (capacity : ℕ)
    (locals : ℕ → Option (Local V E))
    → NumbersFit table locals
    → NumbersFit (cleared table capacity) locals
cleared-NumbersFit table capacity locals h =
    carried table (cleared table capacity) locals locals (made-cleared table capacity)
    (standing_before_clear table capacity) (λ n local k at e. (local, at, e)) h

pub drained-NumbersFit : {V E : Type 0} (table : Table V) (locals : ℕ → Option (Local V E))
    → NumbersFit table locals
    → NumbersFit (drained table) locals
drained-NumbersFit table locals h =
    carried table (drained table) locals locals (made-drained table)
    (λ bucket k e. sym (number_at-drained table bucket) ∙ e) (λ n local k at e. (local, at, e)) h

-- each bucket of a new table has the number of its pointer
numbered_by_digits : (T : Type 0) (b : Bool) (bucket number : ℕ)
    → option_map (λ here. here.number)
    (cond {A = Option (Bucket T)} b (Some (fresh_bucket bucket)) None)
    ≡ Some number
    → (b ≡ true) × (bucket ≡ number)
numbered_by_digits T true bucket number e = (refl, cc)
numbered_by_digits T false bucket number e = cc

number_at-made_table : (T : Type 0) (capacity bucket number : ℕ)
    → number_at {V = T} (made_table capacity) bucket ≡ Some number
    → IsTrue (reserves_bucket capacity bucket) × (bucket ≡ number)
unfolding number_at made_table
number_at-made_table T capacity bucket number e = numbered_by_digits T (reserves_bucket capacity bucket) bucket number e

made-made_table : (T : Type 0) (capacity : ℕ) → (made_table {V = T} capacity).made ≡ binary_digits capacity
unfolding made_table
made-made_table T capacity = refl

pub made-NumbersFit : {V E : Type 0} (capacity : ℕ) → NumbersFit {V = V} {E = E} (made_table capacity) (λ _. None)
made-NumbersFit {V} {E} capacity = record {
  standing_made = λ bucket k e.
      let at = number_at-made_table V capacity bucket k e in
      omega (arith, made-made_table V capacity, ltb-true bucket (binary_digits capacity) at.0, at.1);
  standing_apart = λ a b k e f. (number_at-made_table V capacity a k e).1 ∙ sym (number_at-made_table V capacity b k f).1;
  own_made = λ n local k at e. cc;
  own_nowhere = λ n local k bucket at e f. cc;
  own_apart = λ m n a b k at too e f. cc;
}

-- A step of a Local: a pointer that is newly set takes the call's own bucket, and a new bucket gets
-- the next number.
module _ {V E : Type 0} (table : Table V) (locals : ℕ → Option (Local V E)) (number : ℕ)
    (local : Local V E) (after : Table V × Local V E) (at : locals number ≡ Some local)
    (go : NumbersGo table local after) (h : NumbersFit table locals) where
  -- a bucket that a Local owns after the step was its own before, or is the next one made
  own_was : (n : ℕ) (then : Local V E) (k : ℕ) → put locals number (Some after.1) n ≡ Some then → own_number then.doing ≡ Some k
      → ((was : Local V E) × (locals n ≡ Some was) × (own_number was.doing ≡ Some k))
      ⊎ ((number ≡ n) × (k ≡ table.made) × (table.made < after.0.made))
  own_was n then k e own =
      ⊎_elim
      (λ here.
      let same : after.1 ≡ then = (let some = here.1 in cc) in
      ⊎_elim
      (λ before. inl (local, ap locals (sym here.0) ∙ at, before))
      (λ next. inr (here.0, next.0, next.1))
      (go.own_before k (ap (λ x. own_number x.doing) same ∙ own)))
      (λ apart. inl (then, apart.1, own))
      (put_cases locals number (Some after.1) n then e)

  below : (n : ℕ) (then : Local V E) (k : ℕ) → put locals number (Some after.1) n ≡ Some then
      → own_number then.doing ≡ Some k
      → k < after.0.made
  below n then k e own =
      ⊎_elim
      (λ was. omega (arith, go.made, h.own_made n was.0 k was.1 was.2))
      (λ next. omega (arith, next.1, next.2))
      (own_was n then k e own)

  -- after the step no Local owns a bucket that a pointer leads to
  nowhere : (n : ℕ) (then : Local V E) (k bucket : ℕ)
      → put locals number (Some after.1) n ≡ Some then → own_number then.doing ≡ Some k
      → number_at after.0 bucket ≡ Some k
      → ⊥
  nowhere n then k bucket e own name =
      ⊎_elim
      (λ before.
      ⊎_elim
      (λ was. h.own_nowhere n was.0 k bucket was.1 was.2 before)
      (λ next. omega (arith, next.1, h.standing_made bucket k before))
      (own_was n then k e own))
      (λ offered.
      ⊎_elim
      (λ here.
      let same : after.1 ≡ then = (let some = here.1 in cc) in
      let none : own_number then.doing ≡ None = ap (λ x. own_number x.doing) (sym same) ∙ offered.2 in
      cc)
      (λ apart. apart.0 (h.own_apart number n local then k at apart.1 offered.0 own))
      (put_cases locals number (Some after.1) n then e))
      (go.standing_before bucket k name)

  apart_standing : (a b k : ℕ) → number_at after.0 a ≡ Some k → number_at after.0 b ≡ Some k → a ≡ b
  apart_standing a b k e f =
      ⊎_elim
      (λ first.
      ⊎_elim
      (λ second. h.standing_apart a b k first second)
      (λ second. absurd (h.own_nowhere number local k a at second.0 first))
      (go.standing_before b k f))
      (λ first.
      ⊎_elim
      (λ second. absurd (h.own_nowhere number local k b at first.0 second))
      (λ second. sym first.1 ∙ second.1)
      (go.standing_before b k f))
      (go.standing_before a k e)

  apart_own : (m n : ℕ) (a b : Local V E) (k : ℕ) → put locals number (Some after.1) m ≡ Some a
      → put locals number (Some after.1) n ≡ Some b
      → own_number a.doing ≡ Some k → own_number b.doing ≡ Some k → m ≡ n
  apart_own m n a b k e f own_a own_b =
      ⊎_elim
      (λ first.
      ⊎_elim
      (λ second. h.own_apart m n first.0 second.0 k first.1 second.1 first.2 second.2)
      (λ next. absurd (omega (arith, next.1, h.own_made m first.0 k first.1 first.2)))
      (own_was n b k f own_b))
      (λ next.
      ⊎_elim
      (λ second. absurd (omega (arith, next.1, h.own_made n second.0 k second.1 second.2)))
      (λ too. sym next.0 ∙ too.0)
      (own_was n b k f own_b))
      (own_was m a k e own_a)

  pub stepped-NumbersFit : NumbersFit after.0 (put locals number (Some after.1))
  stepped-NumbersFit = record {
    standing_made = λ bucket k e.
        ⊎_elim
        (λ before. omega (arith, go.made, h.standing_made bucket k before))
        (λ offered. omega (arith, go.made, h.own_made number local k at offered.0))
        (go.standing_before bucket k e);
    standing_apart = apart_standing;
    own_made = below;
    own_nowhere = nowhere;
    own_apart = apart_own;
  }
