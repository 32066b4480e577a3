use Rattle.std.proofs.Common.{◌≡◌, ◌+◌, ◌<◌, ℕ, arith, refl, sym, ◌∙◌}
use Rattle.std.proofs.lemmas.List.{nil_from_length}
use Rattle.thread_local_base.specs.Buckets.{values}
use Rattle.thread_local_base.specs.Walk.{walk}
use Rattle.thread_local_buckets.proofs.EntriesLaws.{first_value}
use Rattle.thread_local_buckets.proofs.drain.DrainIterator.next.Goals as goal

fewer : (after before : ℕ) → after + 1 ≡ before → after < before
fewer after before is = omega (arith, is)

pub returns : goal.returns
returns g c =
    let taken = c.take_next-value in
    let walk = taken.ensures.walk in
    record {
      steps = (
        first_value (values c.args.self.now.buckets.now.contents) (values taken.new.self.contents) taken.result taken.ensures.first,
        (refl, taken.ensures.leaves),
        walk,
      );
      goes = record { on = λ _. (walk, tt, fewer _ _ taken.ensures.left); keeps = walk; rests = λ _. tt };
    }

pub returns-then-is_over : goal.returns-then-is_over
returns-then-is_over g c =
    let over = c.is_over.ensures.over c.if-is_over.true in
    let none = nil_from_length (walk (values c.args.self.now.buckets.now.contents)) (sym c.requires.counted ∙ over) in
    record { steps = ((none, none), (refl, refl), c.requires); goes = record { on = λ _. tt; keeps = tt; rests = λ _. tt } }

pub invariant_of-self : goal.invariant_of-self
invariant_of-self g c =
    let taken = c.take_next-value in
    record { few = taken.ensures.walk.few; ends = taken.ensures.ends }
