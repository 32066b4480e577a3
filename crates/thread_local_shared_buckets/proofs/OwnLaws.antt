-- Where the own slot lies, by its index.
use Rattle.std.proofs.Common.{◌≡◌, ◌≢◌, ℕ, Bool, true, false, cond, eqb}
use Rattle.std.proofs.Common.{Option, None, Some, refl, ap, sym, ◌∙◌}
use Rattle.std.proofs.lemmas.Bool.{eqb-true, eq-eqb, ne_eqb}
use Rattle.thread_local_shared_buckets.specs.declared.steps.Own.{Own}
use Rattle.thread_local_shared_buckets.specs.Positions.{lies_in, is_at}
use Rattle.thread_local_shared_buckets.proofs.Findings.{own_index}
use Rattle.thread_local_shared_buckets.proofs.OwnFlagLaws.{both_so, by_test}

module _ {V : Type 0} where
  pub index_of_own : (own : Own V) (bucket : ℕ) → own.thread.bucket ≡ bucket → own_index (Some own) bucket ≡ Some own.thread.index
  index_of_own own bucket same =
      ap (λ (u : Bool). cond u (Some own.thread.index) None) (eq-eqb own.thread.bucket bucket same)

  pub index_outside : (own : Own V) (bucket : ℕ) → own.thread.bucket ≢ bucket → own_index (Some own) bucket ≡ None
  index_outside own bucket apart =
      ap (λ (u : Bool). cond u (Some own.thread.index) None) (ne_eqb own.thread.bucket bucket apart)

  -- where it has an index in a bucket, it lies in that bucket, at that index
  pub at_own_index : (own : Own V) (bucket i : ℕ) → own_index (Some own) bucket ≡ Some i
      → (own.thread.bucket ≡ bucket) × (own.thread.index ≡ i)
  at_own_index own bucket i here =
      by_test (eqb own.thread.bucket bucket)
      (λ t.
      let same = eqb-true own.thread.bucket bucket t in
      let index : Some own.thread.index ≡ Some i = sym (index_of_own own bucket same) ∙ here in
      (same, cc))
      (λ f.
      let none : None ≡ Some i = sym (ap (λ (u : Bool). cond u (Some own.thread.index) None) f) ∙ here in cc)

  pub at_index : (own : Option (Own V)) (bucket i : ℕ) → own_index own bucket ≡ Some i → is_at own bucket i ≡ true
  at_index None bucket i here = cc
  at_index (Some own) bucket i here =
      let at = at_own_index own bucket i here in both_so own.thread.bucket bucket own.thread.index i at.0 at.1

  -- it lies in no bucket but where it has an index
  pub elsewhere : (own : Option (Own V)) (bucket : ℕ) → own_index own bucket ≡ None → lies_in own bucket ≡ false
  elsewhere None bucket none = refl
  elsewhere (Some own) bucket none =
      by_test (eqb own.thread.bucket bucket)
      (λ t.
      let never : Some own.thread.index ≡ None = sym (index_of_own own bucket (eqb-true own.thread.bucket bucket t)) ∙ none in
      cc)
      (λ f. f)

  -- whether it lies at an index of a bucket, by the tests that code makes one after the other
  pub at_if : (own : Option (Own V)) (o : Own V) (bucket i : ℕ) → own ≡ Some o → o.thread.bucket ≡ bucket
      → is_at own bucket i ≡ eqb o.thread.index i
  at_if own o bucket i is same =
      ap (λ (u : Option (Own V)). is_at u bucket i) is
      ∙ ap (λ (u : Bool). cond u (eqb o.thread.index i) false) (eq-eqb o.thread.bucket bucket same)

  pub not_at : (own : Option (Own V)) (o : Own V) (bucket i : ℕ) → own ≡ Some o → o.thread.bucket ≢ bucket
      → is_at own bucket i ≡ false
  not_at own o bucket i is apart =
      ap (λ (u : Option (Own V)). is_at u bucket i) is
      ∙ ap (λ (u : Bool). cond u (eqb o.thread.index i) false) (ne_eqb o.thread.bucket bucket apart)
