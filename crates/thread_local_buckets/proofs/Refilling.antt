-- An owner's buckets once other values were written into the same slots.
use Rattle.std.proofs.Common.{◌≡◌, ℕ, ◌^◌, ◌⊎◌, List, [], length, get_or, refl, sym, ap, ◌∙◌, subst, Option, Some, None}
use Rattle.std.proofs.Common.{nat_lt, IsTrue}
use Rattle.std.specs.Prelude.{is_some}
use Rattle.thread_local_base.specs.Place.{bucket_of, index_of}
use Rattle.thread_local_base.specs.Buckets.{Contents, row, stands, values}
use Rattle.thread_local_base.specs.Owned.{Owned, IsOwned}
use Rattle.thread_local_base.specs.Refilled.{refilled_slot, refilled_rows, refilled}
use Rattle.thread_local_base.proofs.RefilledLaws.{length-refilled_row, length-refilled_rows, refilled_row-at, refilled_rows-at}
use Rattle.thread_local_buckets.specs.LendingValues.{owned_refilled}

module _ {V : Type 0} where
  refilled-long : (rs ws : List (List (Option V))) (b : ℕ) → length (get_or (refilled_rows rs ws) b []) ≡ length (get_or rs b [])
  refilled-long rs ws b = ap length (refilled_rows-at rs ws b) ∙ length-refilled_row (get_or rs b []) (get_or ws b [])

  -- they are still an owner's buckets
  pub IsOwned-refilled : (owned w : Owned V) → IsOwned owned → IsOwned (owned_refilled owned w)
  IsOwned-refilled owned with so =
      let rs = owned.contents.rows in
      let w : Contents V = with.contents in
      let long : (b : ℕ)
      → length (row (refilled owned.contents w) b) ≡ length (row owned.contents b) =
      refilled-long rs w.rows in
      record {
        table = record {
          buckets = length-refilled_rows rs w.rows ∙ so.table.buckets;
          whole = λ b. subst (λ n. (n ≡ 0) ⊎ (n ≡ 2 ^ b)) (sym (long b)) (so.table.whole b);
        };
        first = so.first;
        standing = λ b inside below. subst (λ n. IsTrue (nat_lt 0 n)) (sym (long b)) (so.standing b inside below);
      }

  refilled_slot-some : (c : Option V) (w : Option V) → is_some (refilled_slot c w) ≡ is_some c
  refilled_slot-some None w = refl
  refilled_slot-some (Some x) None = refl
  refilled_slot-some (Some x) (Some y) = refl

  refilled_rows-some : (rs ws : List (List (Option V))) (b i : ℕ)
      → is_some (get_or (get_or (refilled_rows rs ws) b []) i None)
      ≡ is_some (get_or (get_or rs b []) i None)
  refilled_rows-some rs ws b i =
      ap (λ (r : List (Option V)). is_some (get_or r i None)) (refilled_rows-at rs ws b)
      ∙ ap is_some (refilled_row-at (get_or rs b []) (get_or ws b []) i)
      ∙ refilled_slot-some (get_or (get_or rs b []) i None) (get_or (get_or ws b []) i None)

  -- the same buckets stand
  pub refilled-stands : (owned w : Owned V) (b : ℕ) → stands (owned_refilled owned w).contents b ≡ stands owned.contents b
  refilled-stands owned w b = ap (nat_lt 0) (refilled-long owned.contents.rows w.contents.rows b)

  -- and the same ids have a value
  pub refilled-published : (owned w : Owned V) (id : ℕ)
      → is_some (values (owned_refilled owned w).contents id) ≡ is_some (values owned.contents id)
  refilled-published owned w id = refilled_rows-some owned.contents.rows w.contents.rows (bucket_of id) (index_of id)
