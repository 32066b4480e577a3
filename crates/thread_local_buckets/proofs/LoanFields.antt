-- The data fields of a loan, and what a pointer points to. Assumes `Logic`.
use Rattle.thread_local_base.proofs.Names.{◌≡◌, ◌^◌, ◌<◌, T, true, List, [], ◌∷◌, ◌++◌, length, refl, ap, ◌∙◌, sym}
use Rattle.thread_local_base.proofs.Names.{subst, lit<, arith, Ura, Val, vstruct, vcons, vnil, of_list}
use Rattle.thread_local_base.proofs.Names.{ent, emp, Logic, sem, RattleType, Is, Ptr, InBlock, block_ptr}
use Rattle.thread_local_base.proofs.Names.{null_ptr, ptr_val, count_of, Option}
use Rattle.std.specs.Prelude.{nat_lt, not}
use mir.Val.{vnull, ptr_same, ptr_eq_ok}
use denote.RawPtr.{tests_null}
use denote.Ref.{NamedLft}
use denote.Shadow.{makes_shadow}
use denote.Struct.Struct.{Struct}
use denote.Struct.Owning.{shape}
use Rattle.std.proofs.lemmas.Bool.{lt-ltb, false≢true}
use Rattle.std.proofs.Common.{IsSome, Some, None, ℕ, ◌+◌, ◌*◌, add-mul}
use Rattle.thread_local_buckets.specs.Slots.{stride, value_offset, Fits}
use Rattle.thread_local_buckets.proofs.Flags.{value_near}
use Rattle.thread_local_buckets.specs.LoanOwns.{PointsTo}
use Rattle.thread_local_buckets.specs.contracts.loan.Loan as loan

abbrev pub loan_val : Ptr → Ptr → Val
loan_val p v = vstruct (vcons (ptr_val p) (vcons (ptr_val v) (vcons (vstruct vnil) vnil)))

module _ (a : NamedLft) (R : RattleType) where
  abbrev pub FieldsType : RattleType
  FieldsType = Struct (shape (loan.the_type a R))

  pub told : (p v : Ptr) (vs : List Val) → Is FieldsType (p, (v, (tt, tt))) vs → vs ≡ loan_val p v ∷ []
  told p v vs is =
      is.1.0 ∙ ap (λ (ws : List Val). vstruct (of_list (ws ++ (is.0.1.0 ++ (is.0.1.1.0 ++ [])))) ∷ []) is.1.1.0
      ∙ ap (λ (ws : List Val). vstruct (of_list (ptr_val p ∷ (ws ++ (is.0.1.1.0 ++ [])))) ∷ []) is.1.1.1.0
      ∙ ap (λ (ws : List Val). vstruct (of_list (ptr_val p ∷ (ptr_val v ∷ (ws ++ [])))) ∷ []) is.1.1.1.1.0.1.0

  pub made : {M : Type 1} {𝓤 : Ura M} (𝓛 : Logic 𝓤) (p v : Ptr)
      → ent 𝓤 (emp 𝓤) (sem 𝓛 (FieldsType.own_val (p, (v, (tt, tt))) (loan_val p v ∷ [])))
  made 𝓛 p v =
      makes_shadow 𝓛 (FieldsType.own_val (p, (v, (tt, tt))) (loan_val p v ∷ []))
      (λ vss. (tt, (tt, (tt, ((λ uss. (tt, tt)), tt)))))
      ((ptr_val p ∷ [], (ptr_val v ∷ [], (vstruct vnil ∷ [], tt))), (refl, (refl, (refl, ((tt, (refl, tt)), tt)))))

-- ---- a pointer
module _ (R : RattleType) where
  pub testable : (p : Ptr) (cs : List (Option R.Denot)) → PointsTo R p cs → T (ptr_eq_ok (ptr_val p) vnull)
  testable p [] e = tests_null p (subst (λ (q : Ptr). count_of q < 2 ^ 63) (sym e) (lit< tt))
  testable p (c ∷ cs) at = tests_null p at.1

  stands_at : (p : Ptr) → InBlock p → not (ptr_same (ptr_val p) vnull) ≡ true
  stands_at (block_ptr b o) i = refl
  stands_at null_ptr i = absurd i

  -- a pointer points to a block where it isn't null
  pub leads : (p : Ptr) (cs : List (Option R.Denot)) → PointsTo R p cs → not (ptr_same (ptr_val p) vnull) ≡ nat_lt 0 (length cs)
  leads p [] e = ap (λ (q : Ptr). not (ptr_same (ptr_val q) vnull)) e
  leads p (c ∷ cs) at = stands_at p at.0 ∙ sym (lt-ltb 0 (length (c ∷ cs)) (omega arith))

  -- a pointer with slots points to a block, which they fit
  pub leads_in : (p : Ptr) (cs : List (Option R.Denot)) → PointsTo R p cs → 0 < length cs → InBlock p × Fits R (length cs)
  leads_in p [] e some = absurd (omega arith)
  leads_in p (c ∷ cs) at some = (at.0, at.2)

abbrev pub the_value : {X : Type 0} (c : Option X) → IsSome c → X
the_value None e = absurd (false≢true e)
the_value (Some x) e = x

pub the_value_is : {X : Type 0} (c : Option X) (is : IsSome c) → c ≡ Some (the_value c is)
the_value_is None e = absurd (false≢true e)
the_value_is (Some x) e = refl

module _ (R : RattleType) where
  -- the address of a slot's value, from that of an earlier slot's value
  pub value_apart : (o first bit : ℕ) → bit * stride R + value_offset R o first ≡ value_offset R o (first + bit)
  value_apart o first bit = omega (arith, add-mul first bit (stride R))

  pub distance_fits : (n first bit : ℕ) → Fits R n → first + bit < n → bit * stride R < 2 ^ 64
  distance_fits n first bit fits near = omega (arith, value_near R n (first + bit) fits near, add-mul first bit (stride R))
