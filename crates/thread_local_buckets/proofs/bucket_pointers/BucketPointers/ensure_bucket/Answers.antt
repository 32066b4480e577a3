use Rattle.std.specs.Prelude.{OnErr}
use Rattle.std.proofs.Common.{◌≡◌, ◌∙◌, ◌^◌, ℕ, List, Option, Result, Ok, Err, length, inr, sym, ap, subst, arith, pow_pos}
use Rattle.std.proofs.lemmas.Bool.{cond-true, cond-false, false≢true}
use Rattle.std.proofs.lemmas.Result.{IfOk-from_err}
use Rattle.thread_local_base.specs.Buckets.{Contents, row, stands}
use Rattle.thread_local_base.specs.Rows.{with_row, empty_row}
use Rattle.thread_local_base.proofs.RowLaws.{length-empty_row, slot-empty_row}
use Rattle.thread_local_base.proofs.StandingLaws.{row-absent}
use Rattle.thread_local_buckets.specs.Slots.{empty_slots}
use Rattle.thread_local_buckets.specs.Pointers.{contents_of}
use Rattle.thread_local_buckets.proofs.Announcing.{IsAnnounced, IsAnnounced-with_row, IsAnnounced-made, and_bit, bit_added, in_neither}
use Rattle.thread_local_buckets.proofs.ContentsOf.{row_changes, row_seen}
use Rattle.thread_local_buckets.proofs.bucket_pointers.BucketPointers.ensure_bucket.Goals as goal

-- the slots of a new block are those of an empty bucket
new_row : {X : Type 0} (slots : List (Option X)) (size b : ℕ) → slots ≡ empty_slots size → size ≡ 2 ^ b → slots ≡ empty_row b
new_row {X = X} slots size b made is = made ∙ ap (λ (n : ℕ). empty_slots {X = X} n) is

-- what holds in any case
either : {X E P : Type 0} (result : Result X E) → P → OnErr result P
either (Ok x) here = tt
either (Err e) here = here

-- The search for these takes two seconds.
pub returns-then-stands : goal.returns-then-stands
returns-then-stands g c =
    let now = c.args.self.now in
    let b = c.args.bucket in
    record {
      ok = c.stands.ensures.same
          ∙ sym (cond-true (stands now b) now (with_row now b (empty_row b)) (sym c.stands.ensures.value ∙ c.if-stands.true));
      err = tt;
      refused = tt;
      absent = λ missing. row-absent now b missing;
      table = c.stands.ensures.table;
    }

pub lay-requires-clause-made : goal.lay-requires-clause-made
lay-requires-clause-made g c =
    let b : ℕ = c.args.bucket in
    let long : length c.in_ok-block.block.slots ≡ 2 ^ b =
    ap length (new_row c.in_ok-block.block.slots c.bucket_size.result b c.in_ok-block.ensures.1
    c.bucket_size.ensures)
    ∙ length-empty_row _ b in
    (c.in_ok-block.ensures.2, omega (arith, long, pow_pos b))

pub lay-requires-clause-null : goal.lay-requires-clause-null
lay-requires-clause-null g c =
    sym (row_seen c.self.inside.pointers c.stands.new.self c.args.bucket c.pointer_mut.result.now c.self.view_is
    c.pointer_mut.ensures.value)
    ∙ ap (λ (k : Contents g.row.T.Denot). row k c.args.bucket) c.stands.ensures.same
    ∙ c.stands.ensures.absent c.if-stands.false

pub invariant_of-self : goal.invariant_of-self
invariant_of-self g c =
    let b : ℕ = c.args.bucket in
    let made = new_row c.in_ok-block.block.slots c.bucket_size.result b c.in_ok-block.ensures.1 c.bucket_size.ensures in
    let s = c.self.inside.pointers in
    let announced : ℕ = c.self.inside.announced.bits in
    let word : ℕ = c.self.inside.made.bits in
    subst (λ (z : Contents g.row.T.Denot). IsAnnounced announced (and_bit word b) z)
    (sym (row_changes s b c.lay.new.self (empty_row b) (c.lay.ensures ∙ made)))
    (IsAnnounced-with_row announced (and_bit word b) (contents_of s) b (empty_row b) (inr (length-empty_row _ b)) (slot-empty_row _ b)
    (λ out. absurd (false≢true (sym (in_neither announced (and_bit word b) b out).1 ∙ bit_added word b c.requires)))
    (IsAnnounced-made announced word (contents_of s) b c.requires c.self.invariant))

pub returns : goal.returns
returns g c =
    let now = c.args.self.now in
    let b : ℕ = c.args.bucket in
    let made = new_row c.in_ok-block.block.slots c.bucket_size.result b c.in_ok-block.ensures.1 c.bucket_size.ensures in
    record {
      ok = row_changes c.self.inside.pointers b c.lay.new.self (empty_row b) (c.lay.ensures ∙ made)
          ∙ ap (λ (z : Contents g.row.T.Denot). with_row z b (empty_row b)) (c.self.view_is ∙ c.stands.ensures.same)
          ∙ sym (cond-false (stands now b) now (with_row now b (empty_row b)) (sym c.stands.ensures.value ∙ c.if-stands.false));
      err = tt;
      refused = tt;
      absent = λ missing. row-absent now b missing;
      table = c.stands.ensures.table;
    }

pub returns-in_err-block : goal.returns-in_err-block
returns-in_err-block g c = record {
  err = either c.from_residual.result c.stands.ensures.same;
  refused = either c.from_residual.result (sym c.stands.ensures.value ∙ c.if-stands.false);
  absent = λ missing. row-absent c.args.self.now c.args.bucket missing;
  table = c.stands.ensures.table;
  ok = IfOk-from_err c.from_residual.result _ c.from_residual.ensures.0;
}
