use Rattle.std.proofs.Common.{◌≡◌, ◌⊎◌, ◌+◌, ◌-◌, ◌^◌, ◌<◌, ◌≤◌, ℕ, true, inl, inr, List, Option, [], length, sym, ap, ◌∙◌, subst, arith, pow_pos, refl}
use Rattle.std.specs.Prelude.{nat_lt}
use Rattle.std.proofs.lemmas.Bool.{cond-true, cond-false, lt-ltb, ltb-true, le-ltb}
use Rattle.std.proofs.lemmas.List.{nil_from_length}
use Rattle.thread_local_base.specs.Place.{id_at}
use Rattle.thread_local_base.specs.Buckets.{Contents, row, stands}
use Rattle.thread_local_base.specs.Rows.{empty_row, with_row}
use Rattle.thread_local_base.specs.Owner.{cleared_row}
use Rattle.thread_local_base.proofs.RowLaws.{row_whole}
use Rattle.thread_local_buckets.specs.Pointers.{contents_of}
use Rattle.thread_local_buckets.specs.Slots.{empty_slots}
use Rattle.thread_local_buckets.specs.declared.bucket_pointers.BucketPointers.TheInside.{Inside}
use Rattle.thread_local_buckets.proofs.Clearing.{AreCleared, AreClearing, AreClearing-more, AreCleared-none, last_in_table}
use Rattle.thread_local_buckets.proofs.ContentsOf.{row_of_pointer, row_changes, row_seen}
use Rattle.thread_local_buckets.proofs.bucket_pointers.BucketPointers.clear.Goals as goal
use Rattle.thread_local_buckets.proofs.bucket_pointers.BucketPointers.clear.Goals.{then-size-reserved, else-size-reserved}

none_or_all : {X : Type 0} (cs ds : List X) (n size : ℕ) → cs ≡ ds → size ≡ n → (length cs ≡ 0) ⊎ (length cs ≡ n)
    → (ds ≡ []) ⊎ (length ds ≡ size)
none_or_all cs ds n size same is (inl long) = inl (nil_from_length ds (sym (ap length same) ∙ long))
none_or_all cs ds n size same is (inr long) = inr (sym (ap length same) ∙ long ∙ sym is)

-- a bucket with a reserved slot is cleared once it is empty, and any other once it is freed
reserved_row : {V : Type 0} (slots : List (Option V)) (n size b : ℕ) → slots ≡ empty_slots size → size ≡ 2 ^ b → size ≤ n
    → slots ≡ cleared_row n b
reserved_row {V} slots n size b made is fits =
    let some = pow_pos b in
    made ∙ ap (λ (k : ℕ). empty_slots {X = V} k) is
    ∙ sym (cond-true (nat_lt (id_at b 0) n) (empty_row b) [] (lt-ltb (id_at b 0) n (omega arith)))

free_row : {V : Type 0} (slots : List (Option V)) (n size b : ℕ) → slots ≡ [] → size ≡ 2 ^ b → n < size → slots ≡ cleared_row n b
free_row slots n size b made is larger =
    made ∙ sym (cond-false (nat_lt (id_at b 0) n) (empty_row b) [] (le-ltb (id_at b 0) n (omega arith)))

-- a bucket that isn't cleared yet stands as before
still_stands : {V : Type 0} (old now : Contents V) (reserved first b : ℕ) → AreCleared old now reserved first → b < first
    → (id_at b 0 < reserved → stands old b ≡ true)
    → id_at b 0 < reserved → stands now b ≡ true
still_stands {V} old now reserved first b h below standing in_reserve =
    ap (λ (r : List (Option V)). nat_lt 0 (length r)) (h.before b below) ∙ standing in_reserve

-- the buckets behind the last one that may stand are cleared already
pub buckets-init : goal.buckets-init
buckets-init g c =
    let told = c.standing.ensures in
    let last : ℕ = c.ilog2-last.result in
    let all : last + 1 ≡ last + 1 - 0 = omega arith in
    let now : c.args.self.now ≡ contents_of c.self.inside.pointers = sym (c.self.view_is ∙ told.same) in
    record {
      low = last_in_table c.args.self.now c.standing.result last told.covers c.ilog2-last.ensures.power_le
          c.ilog2-last.ensures.next_power_gt (let bound = c.ilog2-last.ensures.bound in omega arith);
      clearing = record {
        cleared = subst (λ (w : Contents g.row.T.Denot). AreCleared c.args.self.now w c.args.reserved (last + 1 - 0)) now
            (subst (AreCleared c.args.self.now c.args.self.now c.args.reserved) all
            (AreCleared-none c.args.self.now c.standing.result c.args.reserved last told.table told.covers
            c.ilog2-last.ensures.next_power_gt c.requires.standing));
        words = c.self.invariant;
      };
    }

pub empty-requires : goal.empty-requires
empty-requires g c =
    let s = c.buckets.self-inside.pointers in
    let b : ℕ = c.ilog2-last.result - c.buckets.done in
    let kept = c.buckets.invariant in
    let low : b < 63 = omega (arith, kept.low) in
    let size = c.bucket_size-size.ensures in
    let some = pow_pos b in
    let standing =
    still_stands c.args.self.now (contents_of s) c.args.reserved (c.ilog2-last.result + 1 - c.buckets.done) b kept.clearing.cleared
    (omega (arith, c.buckets-test.true)) (c.requires.standing b low) (omega (arith, c.if-size-reserved.true)) in
    ap (λ w. length w.slots) c.pointer_mut.ensures.value
    ∙ sym (ap length (row_of_pointer s b))
    ∙ row_whole (contents_of s) b 0 kept.clearing.cleared.table (ltb-true 0 (length (row (contents_of s) b)) standing)
    ∙ sym size

pub release-requires : goal.release-requires
release-requires g c =
    let s = c.buckets.self-inside.pointers in
    let b : ℕ = c.ilog2-last.result - c.buckets.done in
    let pointer = c.pointer_mut-else-size-reserved.result.now in
    none_or_all (row (contents_of s) b) pointer.slots (2 ^ b) c.bucket_size-size.result
    (row_seen s (contents_of s) b pointer refl c.pointer_mut-else-size-reserved.ensures.value)
    c.bucket_size-size.ensures (c.buckets.invariant.clearing.cleared.table.whole b)

pub buckets-preserved : goal.buckets-preserved
buckets-preserved g c =
    let s = c.buckets.self-inside in
    let new = c.if-size-reserved.self-inside in
    let last : ℕ = c.ilog2-last.result in
    let done : ℕ = c.buckets.done in
    let b : ℕ = last - done in
    let kept = c.buckets.invariant in
    let low : b < 63 = omega (arith, kept.low) in
    let next : last + 1 - done ≡ b + 1 = (let test = c.buckets-test.true in omega arith) in
    let after : b ≡ last + 1 - (done + 1) = omega arith in
    let size = c.bucket_size-size in
    let with : Inside g.row.T.Denot → Type 0 = λ i.
    (contents_of i.pointers ≡ with_row (contents_of s.pointers) b (cleared_row c.args.reserved b)) × (i.announced.bits ≡ s.announced.bits) × (i.made.bits ≡ s.made.bits) in
    let made : with new = elim c.if-size-reserved.branch [
      | then-size-reserved w ↦
          let slots = reserved_row w.empty.new.self.slots c.args.reserved size.result b w.empty.ensures size.ensures w.if-size-reserved.true in
          subst with (sym w.self-inside-is) (row_changes s.pointers b w.empty.new.self (cleared_row c.args.reserved b) slots, refl, refl)
      | else-size-reserved w ↦
          let slots = free_row w.release.new.self.slots c.args.reserved size.result b w.release.ensures size.ensures w.if-size-reserved.false in
          subst with (sym w.self-inside-is) (row_changes s.pointers b w.release.new.self (cleared_row c.args.reserved b) slots, refl, refl)
    ] in
    let clearing : AreClearing c.args.self.now (contents_of s.pointers) new.announced.bits new.made.bits c.args.reserved (b + 1) =
    subst (λ (n : ℕ). AreClearing c.args.self.now (contents_of s.pointers) new.announced.bits new.made.bits c.args.reserved n) next
    (subst (λ (n : ℕ). AreClearing c.args.self.now (contents_of s.pointers) n new.made.bits c.args.reserved (last + 1 - done)) (sym made.1)
    (subst (λ (n : ℕ). AreClearing c.args.self.now (contents_of s.pointers) s.announced.bits n c.args.reserved (last + 1 - done)) (sym made.2)
    kept.clearing)) in
    record {
      low = kept.low;
      clearing = subst (λ (n : ℕ). AreClearing c.args.self.now (contents_of new.pointers) new.announced.bits new.made.bits c.args.reserved n) after
          (AreClearing-more c.args.self.now (contents_of s.pointers) (contents_of new.pointers) new.announced.bits new.made.bits c.args.reserved b
          clearing low
          (still_stands c.args.self.now (contents_of s.pointers) c.args.reserved (b + 1) b clearing.cleared (omega arith) (c.requires.standing b low))
          made.0);
    }

pub invariant_of-self : goal.invariant_of-self
invariant_of-self g c = c.buckets.invariant.clearing.words

pub returns-clause-rows : goal.returns-clause-rows
returns-clause-rows g c = λ bucket low.
    c.buckets.invariant.clearing.cleared.cleared bucket (let over = c.buckets-test.false in omega arith) low
