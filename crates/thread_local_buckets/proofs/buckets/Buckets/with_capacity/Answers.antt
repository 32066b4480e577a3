use Rattle.std.specs.Prelude.{IsErrAnd, is_ok}
use Rattle.std.proofs.lemmas.Bool.{true≢false}
use Rattle.std.proofs.lemmas.Result.{IfOk-from_err, err_from_is_err_and}
use Rattle.std.proofs.Common.{◌≡◌, ◌≢◌, ◌+◌, ◌-◌, ◌*◌, ◌^◌, ◌<◌, ◌≤◌, ℕ, zero, suc, Result, Ok, Err, subst, sym, ap, ◌∙◌, refl, arith}
use Rattle.thread_local_base.specs.Buckets.{Contents}
use Rattle.thread_local_base.specs.Owned.{IsOwned}
use Rattle.thread_local_base.specs.Capacity.{binary_digits}
use Rattle.thread_local_base.specs.Place.{bucket_of}
use Rattle.thread_local_base.proofs.CapacityLaws.{no_digits, few_digits}
use Rattle.thread_local_base.proofs.PlaceLaws.{only_place}
use Rattle.thread_local_base.proofs.FillingLaws.{IsFilled, IsOwned-filled, slots-filled, reserved-digits}
use Rattle.std.specs.declared.alloc.AllocError.{AllocError}
use Rattle.thread_local_buckets.specs.declared.buckets.CapacityError.{CapacityError}
use Rattle.thread_local_buckets.specs.declared.buckets.CapacityError.TheVariants.{TooLarge, Memory}
use Rattle.thread_local_buckets.proofs.Filling.{IsFilled-none, IsFilled-more}
use Rattle.thread_local_buckets.proofs.buckets.Buckets.with_capacity.Goals as goal
use Rattle.thread_local_buckets.proofs.buckets.Buckets.with_capacity.Goals.{then-capacity-eq0, else-capacity-eq0}

-- once the loop ends, all buckets of the capacity are made
all_made : {V : Type 0} (pointers : Contents V) (bucket end : ℕ) → bucket ≡ end → IsFilled pointers bucket → IsFilled pointers end
all_made pointers bucket end e h = let P : ℕ → Type 0 = IsFilled pointers in subst P e h

pub returns-in_err-check : goal.returns-in_err-check
returns-in_err-check g c =
    let result = c.from_residual.result in
    let failed = c.from_residual.ensures.0 in
    let handed = err_from_is_err_and result c.from_residual.ensures.1 in
    record {
      empty = IfOk-from_err result _ failed;
      stands = IfOk-from_err result _ failed;
      slots = IfOk-from_err result _ failed;
      reserved = IfOk-from_err result _ failed;
      too_large = λ _. handed.1 ∙ ap Err (handed.2 ∙ c.in_err-check.ensures.too_large);
      not_too_large = λ _. c.in_err-check.ensures.err;
    }

-- out of memory is no capacity that is too large
not_large : {X : Type 0} (result : Result X CapacityError) (refused : AllocError) → IsErrAnd result (λ e. e ≡ Memory refused)
    → result ≢ Err TooLarge
not_large (Ok x) refused told = absurd told
not_large (Err e) refused told = λ same. cc

pub returns-in_err-ensure_bucket : goal.returns-in_err-ensure_bucket
returns-in_err-ensure_bucket g c =
    let result = c.from_residual-in_err-ensure_bucket.result in
    let told = c.from_residual-in_err-ensure_bucket.ensures in
    record {
      empty = IfOk-from_err result _ told.0;
      stands = IfOk-from_err result _ told.0;
      slots = IfOk-from_err result _ told.0;
      reserved = IfOk-from_err result _ told.0;
      too_large = λ large. absurd (omega (arith, large, c.in_ok-check.ensures.ok));
      not_too_large = λ same. absurd (not_large result c.in_err-ensure_bucket.field-0.0 told.1 same);
    }

-- a number above 0 has one digit more than the number of its predecessor's bucket
digits-above : (n : ℕ) → (n ≡ 0 → ⊥) → bucket_of (n - 1) + 1 ≡ binary_digits n
unfolding binary_digits
digits-above zero h = absurd (h refl)
digits-above (suc n) h = let e : suc n - 1 ≡ n = omega arith in ap (λ k. bucket_of k + 1) e

-- the highest digit of a number is that of its predecessor's bucket
highest : (n high : ℕ) → (n ≡ 0 → ⊥) → 2 ^ high ≤ n → n < 2 * 2 ^ high → high + 1 ≡ binary_digits n
highest n high some low below =
    let one : 0 < n = omega arith in
    ap (λ k. k + 1) (only_place (n - 1) high (n - 2 ^ high) (omega (arith, one, low)) (omega (arith, low, below))).0
    ∙ digits-above n some

pub loop-bucket-init : goal.loop-bucket-init
loop-bucket-init g c = record {
  filled = let P : Contents _ → Type 0 = λ w. IsFilled w 0 in subst P (sym c.new-pointers.ensures) (IsFilled-none _);
  first = elim c.if-capacity-eq0.branch [
    | then-capacity-eq0 w ↦ w.first-is ∙ sym (ap binary_digits w.if-capacity-eq0.true ∙ no_digits)
    | else-capacity-eq0 w ↦ w.first-is ∙ highest c.args.capacity w.ilog2.result w.if-capacity-eq0.false w.ilog2.ensures.power_le w.ilog2.ensures.next_power_gt
  ];
}

pub loop-bucket-preserved : goal.loop-bucket-preserved
loop-bucket-preserved g c =
    let few = few_digits c.args.capacity c.in_ok-check.ensures.ok in
    record {
      filled = IsFilled-more c.loop-bucket.pointers c.ensure_bucket.new.self c.loop-bucket.bucket
          c.loop-bucket.invariant.filled (omega (arith, few, c.loop-bucket.invariant.first)) c.ensure_bucket.ensures.absent
          c.in_ok-ensure_bucket.ensures.ok;
      first = c.loop-bucket.invariant.first;
    }

pub invariant_of-result : goal.invariant_of-result
invariant_of-result g c =
    let kept = c.loop-bucket.invariant in
    let first : ℕ = c.if-capacity-eq0.first in
    let low : first ≤ 63 = (let few = few_digits c.args.capacity c.in_ok-check.ensures.ok in omega (arith, kept.first)) in
    let filled = all_made c.loop-bucket.pointers c.loop-bucket.bucket first (omega arith) kept.filled in
    let P : ℕ → Type 0 = λ n. IsOwned (record { contents = c.loop-bucket.pointers; reserved = n - 1 }) in
    subst P (sym c.bucket_size.ensures) (IsOwned-filled c.loop-bucket.pointers first low filled)

pub returns : goal.returns
returns g c =
    let kept = c.loop-bucket.invariant in
    let last : c.loop-bucket.bucket ≡ c.if-capacity-eq0.first = omega arith in
    let made =
    all_made c.loop-bucket.pointers c.loop-bucket.bucket (binary_digits c.args.capacity)
    (last ∙ kept.first) kept.filled in
    record {
      empty = kept.filled.empty;
      stands = made.standing;
      slots = slots-filled c.loop-bucket.pointers c.args.capacity c.in_ok-check.ensures.ok
          made;
      reserved = ap (λ n. n - 1) c.bucket_size.ensures ∙ ap (λ k. 2 ^ k - 1) kept.first ∙ reserved-digits c.args.capacity;
      too_large = λ large. absurd (omega (arith, large, c.in_ok-check.ensures.ok));
      not_too_large = λ same. absurd (true≢false (ap (λ (r : Result _ _). is_ok r) same));
    }
