use Rattle.std.proofs.Common.{◌≡◌, ◌+◌, refl, sym, ◌∙◌, ap, subst, arith}
use Rattle.thread_local_base.specs.Buckets.{Contents, stands, slots}
use Rattle.thread_local_base.specs.Owned.{Owned, IsOwned}
use Rattle.thread_local_buckets.specs.Announced.{Covers}
use Rattle.thread_local_buckets.proofs.AddingSlots.{added_none, added_more, added_absent, added_fits, added_all}
use Rattle.thread_local_buckets.proofs.Reserving.{few_reserved}
use Rattle.thread_local_buckets.proofs.buckets.Buckets.slots.Goals as goal

pub buckets-init : goal.buckets-init
buckets-init g c = let word = c.standing-left in record {
  added =
      added_none word.new.self word.result
      (subst (λ (w : Contents g.row.T.Denot). Covers word.result w) (sym word.ensures.same) word.ensures.covers);
  same = refl;
  reserved = refl;
}

pub buckets-preserved-then-stands : goal.buckets-preserved-then-stands
buckets-preserved-then-stands g c =
    let kept = c.buckets.invariant in
    let bucket = c.take_first_bucket-bucket in
    record {
      added =
          added_more c.standing-left.new.self _ c.buckets.slots bucket.result.1 c.buckets.left bucket.new.left
          bucket.result.0 kept.added bucket.ensures.first bucket.ensures.rest kept.same
          (sym c.stands.ensures.value ∙ c.if-stands.true) bucket.ensures.size;
      same = c.stands.ensures.same ∙ kept.same;
      reserved = kept.reserved;
    }

pub overflow_add-slots : goal.overflow_add-slots
overflow_add-slots g c =
    let kept = c.buckets.invariant in
    let bucket = c.take_first_bucket-bucket in
    let fits =
    added_fits c.standing-left.new.self bucket.new.left (c.buckets.slots + bucket.result.1)
    (added_more c.standing-left.new.self _ c.buckets.slots bucket.result.1 c.buckets.left bucket.new.left
    bucket.result.0 kept.added bucket.ensures.first bucket.ensures.rest kept.same
    (sym c.stands.ensures.value ∙ c.if-stands.true) bucket.ensures.size) in
    omega (arith, fits)

pub buckets-preserved : goal.buckets-preserved
buckets-preserved g c =
    let kept = c.buckets.invariant in
    let bucket = c.take_first_bucket-bucket in
    record {
      added =
          added_absent c.standing-left.new.self _ c.buckets.slots c.buckets.left bucket.new.left bucket.result.0 kept.added
          bucket.ensures.first bucket.ensures.rest kept.same (sym c.stands.ensures.value ∙ c.if-stands.false);
      same = c.stands.ensures.same ∙ kept.same;
      reserved = kept.reserved;
    }

-- the buckets as they came
same_buckets : (g : _) (c : goal.After-buckets g)
    → ◌≡◌ {A = Owned g.row.T.Denot} (record { contents = c.buckets.self-inside.pointers; reserved = c.buckets.self-inside.reserved })
    (record { contents = c.self.inside.pointers; reserved = c.self.inside.reserved })
same_buckets g c = λ i. record {
  contents = (c.buckets.invariant.same ∙ c.standing-left.ensures.same) i;
  reserved = c.buckets.invariant.reserved i;
}

pub invariant_of-self : goal.invariant_of-self
invariant_of-self g c = subst (λ (o : Owned g.row.T.Denot). IsOwned o) (sym (same_buckets g c)) c.self.invariant

pub returns : goal.returns
returns g c =
    let value =
    added_all c.standing-left.new.self c.buckets.left c.buckets.slots c.buckets.invariant.added c.buckets-test.false
    ∙ ap (λ (w : Contents g.row.T.Denot). slots (stands w)) c.standing-left.ensures.same in
    let few = few_reserved (record { contents = c.self.inside.pointers; reserved = c.self.inside.reserved }) c.self.invariant in
    let same = ap (λ (o : Owned _). o.reserved) c.self.view_is in
    record {
      value = value ∙ ap (λ (o : Owned _). slots (stands o.contents)) c.self.view_is;
      reserved = omega (arith, value, few, same);
      same = same_buckets g c ∙ c.self.view_is;
    }
