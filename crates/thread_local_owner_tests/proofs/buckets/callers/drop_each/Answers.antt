use Rattle.std.proofs.Common.{◌≡◌, ◌∙◌, ℕ, ap, rules}
use Rattle.std.specs.Prelude.{None}
use Rattle.thread_local_base.specs.Buckets.{values, stands}
use Rattle.thread_local_base.specs.Owned.{Owned}
use Rattle.thread_local_buckets.specs.Emptied.{owned_emptied}
use Rattle.thread_local_owner_tests.proofs.buckets.callers.drop_each.Goals as goal

module _ {X : Type 0} where
  -- what holds of buckets that are as a `Drain` leaves them
  are_left : (old new : Owned X) → new ≡ owned_emptied old
      → ((id : ℕ) → values (owned_emptied old).contents id ≡ None)
      → ((bucket : ℕ) → stands (owned_emptied old).contents bucket ≡ stands old.contents bucket)
      → record {
        empty : (id : ℕ) → values new.contents id ≡ None;
        stands : (bucket : ℕ) → stands new.contents bucket ≡ stands old.contents bucket;
        reserved : new.reserved ≡ old.reserved;
      }
  are_left old new same none still = record {
    empty = λ id. ap (λ (o : Owned X). values o.contents id) same ∙ none id;
    stands = λ bucket. ap (λ (o : Owned X). stands o.contents bucket) same ∙ still bucket;
    reserved = ap (λ (o : Owned X). o.reserved) same;
  }

pub returns : goal.returns
returns g c = are_left c.args.buckets.now _ (search rules) c.drain-value-items.ensures.would_be_empty
    c.drain-value-items.ensures.would_stand
