use Rattle.std.proofs.Common.{◌≡◌, ◌∙◌, ℕ, ap, rules}
use Rattle.std.specs.Prelude.{None}
use Rattle.thread_local_base.specs.Buckets.{values}
use Rattle.thread_local_base.specs.Owned.{Owned}
use Rattle.thread_local_buckets.specs.Emptied.{owned_emptied}
use Rattle.thread_local_owner_tests.proofs.buckets.callers.take_first.Goals as goal

-- what holds of buckets that are as a `Drain` leaves them
are_left : {X : Type 0} (old new : Owned X) → new ≡ owned_emptied old
    → ((id : ℕ) → values (owned_emptied old).contents id ≡ None)
    → record {
      empty : (id : ℕ) → values new.contents id ≡ None;
      reserved : new.reserved ≡ old.reserved;
    }
are_left {X} old new same none = record {
  empty = λ id. ap (λ (o : Owned X). values o.contents id) same ∙ none id;
  reserved = ap (λ (o : Owned X). o.reserved) same;
}

pub returns : goal.returns
returns g c = are_left c.args.buckets.now _ (search rules) c.drain.ensures.would_be_empty
