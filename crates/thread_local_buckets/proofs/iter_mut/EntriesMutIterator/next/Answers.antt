use Rattle.std.proofs.Common.{◌≡◌, ◌+◌, ◌-◌, ◌^◌, ◌<◌, ◌≤◌, ℕ, None, Some, ◌∷◌, ap, sym, ◌∙◌, subst, length, arith}
use Rattle.std.specs.Prelude.{IsSome}
use Rattle.thread_local_base.specs.Place.{id_at}
use Rattle.thread_local_base.specs.Buckets.{Contents, row, values}
use Rattle.thread_local_base.specs.Rows.{value_in, with_slot}
use Rattle.thread_local_base.specs.Walk.{walk, paired}
use Rattle.thread_local_buckets.specs.Cursor.{slot_at, read_to, IsAt, IsOwnerWalk}
use Rattle.thread_local_buckets.specs.declared.cursor.RawIter.{RawIter}
use Rattle.thread_local_buckets.specs.Entered.{IsEntered}
use Rattle.thread_local_buckets.specs.IterMut.{entries_mut_rest}
use Rattle.thread_local_buckets.specs.declared.loan.Loan.{Loan}
use Rattle.thread_local_buckets.proofs.EntriesLaws.{IsNear, is_near, no_entries, shorter}
use Rattle.thread_local_buckets.proofs.iter_mut.EntriesMutIterator.next.Goals as goal

-- the slot that the loan gives is the one that the walk passes
record IsThere {V : Type 0} (l m : Loan V) (raw : RawIter) (bit : ℕ) : Type 0 where
  same : l ≡ m
  bucket : l.bucket ≡ raw.bucket
  first : l.first ≡ raw.index - 64
  slot : l.first + bit ≡ slot_at raw bit

is_there : {V : Type 0} (l m : Loan V) (raw old : RawIter) (bit : ℕ) → l ≡ m → IsEntered m old → raw ≡ old
    → IsThere l m raw bit
is_there l m raw old bit same entered is =
    let first : l.first ≡ raw.index - 64 =
    ap (λ (w : Loan _). w.first) same ∙ entered.1 ∙ ap (λ (r : RawIter). r.index - 64) (sym is) in
    record {
      same = same;
      bucket = ap (λ (w : Loan _). w.bucket) same ∙ entered.0 ∙ ap (λ (r : RawIter). r.bucket) (sym is);
      first = first;
      slot = ap (λ (n : ℕ). n + bit) first;
    }

it_is_there : (g : _) (c : goal.After-give-item g)
    → IsThere c.pass-bit.new.source c.lead.new.loan c.pass-bit.new.self.raw c.pass-bit.result
it_is_there g c =
    is_there c.pass-bit.new.source c.lead.new.loan c.pass-bit.new.self.raw c.lead.new.cursor.raw c.pass-bit.result
    c.pass-bit.ensures.same c.lead.ensures.entered c.pass-bit.ensures.raw

-- the slot is one of its bucket's, and its id is a `usize`
slot_is_near : {V : Type 0} (c d : Contents V) (raw old : RawIter) (rest i : ℕ) → IsAt c old rest → raw ≡ old → d ≡ c
    → 64 ≤ raw.index → i < length (row d raw.bucket) → IsNear i raw.bucket_size
slot_is_near c d raw old rest i at is same = let P : RawIter → Type 0 = λ r. 64 ≤ r.index → i < length (row d r.bucket) → IsNear i r.bucket_size in
    subst P (sym is) (λ read inside.
    let long : length (row d old.bucket) ≡ 2 ^ old.bucket =
    ap (λ (w : Contents _). length (row w old.bucket)) same ∙ at.whole (omega (arith, read)) ∙ at.size in
    is_near old.bucket i old.bucket_size at.in_table (subst (λ (n : ℕ). i < n) long inside) at.size)

it_is_near : (g : _) (c : goal.After-give-item g) → IsNear (slot_at c.pass-bit.new.self.raw c.pass-bit.result) c.pass-bit.new.self.raw.bucket_size
it_is_near g c =
    slot_is_near c.self.inside.loan.contents c.lead.new.loan.contents c.pass-bit.new.self.raw c.lead.new.cursor.raw c.lead.new.cursor.rest
    (slot_at c.pass-bit.new.self.raw c.pass-bit.result) c.lead.ensures.read.walk.at c.pass-bit.ensures.raw
    c.lead.ensures.contents c.pass-bit.ensures.read c.pass-bit.ensures.in_bucket

-- what the loan has left, and up to where it has given values
record Gave {V : Type 0} (l m now : Loan V) (raw : RawIter) (bit : ℕ) : Type 0 where
  contents : now.contents ≡ with_slot m.contents raw.bucket (slot_at raw bit) None
  given : now.given ≡ id_at raw.bucket (slot_at raw bit) + 1

gave : {V : Type 0} (l m now : Loan V) (raw : RawIter) (bit : ℕ) → IsThere l m raw bit
    → now.contents ≡ with_slot l.contents l.bucket (l.first + bit) None
    → now.given ≡ id_at l.bucket (l.first + bit) + 1
    → Gave l m now raw bit
gave l m now raw bit there contents given =
    let same = there.same in
    let bucket = there.bucket in
    let slot = there.slot in
    record {
      contents = contents ∙ (λ j. with_slot (same j).contents (bucket j) (slot j) None);
      given = given ∙ (λ j. id_at (bucket j) (slot j) + 1);
    }

it_gave : (g : _) (c : goal.After-give-item g)
    → Gave c.pass-bit.new.source c.lead.new.loan c.give-item.new.self c.pass-bit.new.self.raw c.pass-bit.result
it_gave g c =
    gave c.pass-bit.new.source c.lead.new.loan c.give-item.new.self c.pass-bit.new.self.raw c.pass-bit.result
    (it_is_there g c) c.give-item.ensures.contents c.give-item.ensures.given

-- The search for all that follows takes three seconds.
pub lead-requires : goal.lead-requires
lead-requires g c = record {
  may_read = record {
    walk = c.self.invariant.0;
    ahead = c.self.invariant.2;
    some = c.is_over.ensures.goes_on c.if-is_over.false;
  };
  entered = c.self.invariant.3;
}

pub pass-bit-requires : goal.pass-bit-requires
pass-bit-requires g c = record {
  walk = subst (λ (w : Contents _). IsOwnerWalk w c.lead.new.cursor) (sym c.lead.ensures.contents) c.lead.ensures.read.walk;
  given = λ id below.
      ap (λ (w : Contents _). values w id) c.lead.ensures.contents
      ∙ c.self.invariant.1 id (subst (λ (n : ℕ). id < n) c.lead.ensures.given below);
  some = c.lead.ensures.read.some;
}

pub give-item-requires : goal.give-item-requires
give-item-requires g c =
    let there =
    is_there c.pass-bit.new.source c.lead.new.loan c.pass-bit.new.self.raw c.lead.new.cursor.raw c.pass-bit.result
    c.pass-bit.ensures.same c.lead.ensures.entered c.pass-bit.ensures.raw in
    let same = sym there.same in
    let bucket = sym there.bucket in
    let slot = sym there.slot in
    record {
      in_table = subst (λ (b : ℕ). b < 63) bucket c.pass-bit.ensures.walk.at.in_table;
      in_bucket = subst (λ (t : Type 0). t) (λ j. slot j < length (row (same j).contents (bucket j))) c.pass-bit.ensures.in_bucket;
      ahead = subst (λ (t : Type 0). t) (λ j. (same j).given ≤ id_at (bucket j) (slot j)) c.pass-bit.ensures.ahead;
      published = subst (λ (t : Type 0). t) (λ j. IsSome (value_in (same j).contents (bucket j) (slot j))) c.pass-bit.ensures.published;
    }

pub overflow_add-index : goal.overflow_add-index
overflow_add-index g c = record { fits = (it_is_near g c).index }

pub overflow_sub-result : goal.overflow_sub-result
overflow_sub-result g c = (it_is_near g c).some

pub overflow_add-result : goal.overflow_add-result
overflow_add-result g c = record { fits = (it_is_near g c).id }

pub invariant_of-self : goal.invariant_of-self
invariant_of-self g c =
    let cursor = c.pass-bit.new.self in
    let there = it_is_there g c in
    let now = it_gave g c in
    let next : (a b : ℕ) → a < b → a + 1 ≤ b = λ a b less. omega (arith, less) in (
      subst (λ (w : Contents _). IsOwnerWalk w cursor) (sym now.contents) c.pass-bit.ensures.walk,
      (λ id below.
          ap (λ (w : Contents _). values w id) now.contents
          ∙ c.pass-bit.ensures.behind id (subst (λ (n : ℕ). id < n) now.given below)),
      subst (λ (n : ℕ). n ≤ read_to cursor.raw) (sym now.given)
          (next (id_at cursor.raw.bucket (slot_at cursor.raw c.pass-bit.result)) (read_to cursor.raw) c.pass-bit.ensures.before),
      (λ _. (c.give-item.ensures.bucket ∙ there.bucket, c.give-item.ensures.first ∙ there.first)),
    )

pub returns-then-is_over : goal.returns-then-is_over
returns-then-is_over g c =
    let none =
    sym (ap entries_mut_rest c.self.view_is)
    ∙ no_entries (values c.self.inside.loan.contents) (sym c.self.invariant.0.counted ∙ c.is_over.ensures.over c.if-is_over.true) in
    record { steps = (none, none); goes = record { on = λ _. tt; keeps = tt; rests = λ _. tt } }

it_steps : (g : _) (c : goal.After-give-item g)
    → entries_mut_rest c.args.self.now
    ≡ (slot_at c.pass-bit.new.self.raw c.pass-bit.result + (c.pass-bit.new.self.raw.bucket_size - 1), c.give-item.result.now)
    ∷ walk (paired (values c.give-item.new.self.contents))
it_steps g c =
    let raw = c.pass-bit.new.self.raw in
    let i = slot_at raw c.pass-bit.result in
    let item = c.give-item.result.now in
    let there = it_is_there g c in
    let same = sym there.same in
    let bucket = sym there.bucket in
    let slot = sym there.slot in
    let value : value_in c.lead.new.loan.contents raw.bucket i ≡ Some item =
    (λ j. value_in (same j).contents (bucket j) (slot j)) ∙ c.give-item.ensures.value in
    let size = sym c.pass-bit.ensures.walk.at.size in
    let left = sym (it_gave g c).contents in
    sym (ap entries_mut_rest c.self.view_is)
    ∙ ap (λ (w : Contents _). walk (paired (values w))) (sym c.lead.ensures.contents)
    ∙ c.pass-bit.ensures.first item value
    ∙ (λ j. (i + (size j - 1), item) ∷ walk (paired (values (left j))))

pub returns : goal.returns
returns g c = record {
  steps = it_steps g c;
  goes = record { on = λ _. (tt, tt, shorter _ _ _ (it_steps g c)); keeps = tt; rests = λ _. tt };
}
