-- A loan may be sent to another thread where its values may.
use Rattle.thread_local_base.proofs.Names.{ℕ, suc, ◌+◌, List, [], ◌∷◌, Option, Some, None, full_share, Fml}
use Rattle.thread_local_base.proofs.Names.{RattleType, Ptr, block_of, count_of}
use base.Fml.{Lft, GName}
use base.Shift.{Keyless}
use denote.Exit.{Exit, unchanged, leaves, hidden, under}
use denote.Param.Send.{IsSend, Quiet, AllSend, part_keyless, owning_send, struct_send, sendable}
use denote.Ref.{NamedLft}
use denote.Struct.Owning.{shape as fields_shape, fields, to}
use denote.Struct.Struct.{exits_of}
use Rattle.thread_local_base.specs.Buckets.{Contents}
use Rattle.thread_local_buckets.specs.Slots.{each, flags_at, value_offset}
use Rattle.thread_local_buckets.specs.LoanOwns.{flagged, valued, frames, values_at, loan_owns}
use Rattle.thread_local_buckets.specs.contracts.loan.Loan as loan

quiet : {D X : Type 0} (f : D → X) (e : Exit X) → Quiet e → Quiet (hidden (under f e))
quiet f unchanged q = λ x w. tt
quiet f (leaves L l S s r₀) q = λ d. q (f d)

each_cross : {X : Type 0} (F : X → ℕ → Fml) → ((x : X) (j : ℕ) → Keyless (F x j))
    → (xs : List X) (j : ℕ)
    → Keyless (each F xs j)
each_cross F k [] j = tt
each_cross F k (x ∷ xs) j = (k x j, each_cross F k xs (suc j))

module _ (R : RattleType) where
  flags_cross : (p : Ptr) (cs : List (Option R.Denot)) → Keyless (flagged R p cs)
  flags_cross p [] = tt
  flags_cross p (c ∷ cs) = λ ns. ((λ _. tt), (each_cross (flags_at R _ _ _) (λ _ _. tt) ns 0, tt))

  frames_cross : (b e : ℕ) (ps : List Ptr) (rs : List (List (Option R.Denot))) → Keyless (frames R b e ps rs)
  frames_cross b e [] [] = tt
  frames_cross b e [] (r ∷ rs) = tt
  frames_cross b e (p ∷ ps) [] = tt
  frames_cross b e (p ∷ ps) (r ∷ rs) = ((tt, ((λ _. tt), flags_cross p r)), frames_cross b (e + 8) ps rs)

  module _ (s : IsSend R) where
    value_crosses : (b o : ℕ) (c : Option R.Denot) (j : ℕ) → Keyless (valued R b o c j)
    value_crosses b o None j = tt
    value_crosses b o (Some x) j = part_keyless R s full_share x b (value_offset R o j)

    values_cross : (ps : List Ptr) (rs : List (List (Option R.Denot))) → Keyless (values_at R ps rs)
    values_cross [] [] = tt
    values_cross [] (r ∷ rs) = tt
    values_cross (p ∷ ps) [] = tt
    values_cross (p ∷ ps) (r ∷ rs) = (
      each_cross (valued R (block_of p) (count_of p)) (value_crosses (block_of p) (count_of p))
          r 0,
      values_cross ps rs,
    )

    owned_crosses : (κ : Lft) (p v : Ptr) (name : GName) (left : Contents R.Denot)
        (given bucket first : ℕ)
        → Keyless (loan_owns κ R p v name left given bucket first)
    owned_crosses κ p v name left given bucket first = λ z. (
      (λ _. tt),
      (frames_cross (block_of p) (count_of p) z.0 z.1.rows, (tt, (λ w. (((λ _. tt), values_cross z.0 w.contents.rows), tt)))),
    )

pub loan_send : (a : NamedLft) (V : RattleType) → IsSend V → IsSend (loan.the_row a V)
loan_send a V s =
    let O = loan.the_type a V in
    let all : AllSend (fields O) = (search sendable, (search sendable, (search sendable, tt))) in
    owning_send O all
    (λ d. owned_crosses V s a.lft d.pointers d.values d.name d.contents d.given d.bucket d.first)
    (λ k. quiet (to O) (exits_of k (fields O)) ((struct_send (fields_shape O) all).leaving k))
