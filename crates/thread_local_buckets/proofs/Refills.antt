-- Contents refilled from contents with a value in the same slots are the latter.
use Rattle.thread_local_base.proofs.Names.{◌≡◌, List, [], ◌∷◌, length, refl, ap, arith, is_some, Option, Some, None}
use Rattle.std.proofs.lemmas.Bool.{true≢false, false≢true}
use Rattle.thread_local_base.specs.Buckets.{Contents}
use Rattle.thread_local_buckets.specs.LoanOwns.{shape}
use Rattle.thread_local_base.specs.Refilled.{refilled_slot, refilled_row, refilled_rows, refilled}
use Rattle.thread_local_buckets.proofs.Blocks.{first_of, rest_of}
use Rattle.thread_local_buckets.proofs.Shapes.{has}
use Rattle.thread_local_buckets.proofs.Taking.{first_row, rest_of_rows}

module _ {V : Type 0} where
  same_slot : (c w : Option V) → is_some w ≡ is_some c → refilled_slot c w ≡ w
  same_slot None None e = refl
  same_slot None (Some y) e = absurd (true≢false e)
  same_slot (Some x) None e = absurd (false≢true e)
  same_slot (Some x) (Some y) e = refl

  same_row : (cs ws : List (Option V)) → has ws ≡ has cs → refilled_row cs ws ≡ ws
  same_row [] [] e = refl
  same_row [] (w ∷ ws) e = absurd (let n = ap length e in omega arith)
  same_row (c ∷ cs) [] e = absurd (let n = ap length e in omega arith)
  same_row (c ∷ cs) (w ∷ ws) e = λ i. same_slot c w (ap first_of e) i ∷ same_row cs ws (ap rest_of e) i

  same_rows : (rs ws : List (List (Option V))) → shape ws ≡ shape rs → refilled_rows rs ws ≡ ws
  same_rows [] [] e = refl
  same_rows [] (w ∷ ws) e = absurd (let n = ap length e in omega arith)
  same_rows (r ∷ rs) [] e = absurd (let n = ap length e in omega arith)
  same_rows (r ∷ rs) (w ∷ ws) e = λ i. same_row r w (ap first_row e) i ∷ same_rows rs ws (ap rest_of_rows e) i

  pub refilled_same : (old w : Contents V) → shape w.rows ≡ shape old.rows → refilled old w ≡ w
  refilled_same old w e = λ i. record { rows = same_rows old.rows w.rows e i }
