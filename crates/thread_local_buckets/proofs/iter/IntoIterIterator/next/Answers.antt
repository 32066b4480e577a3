use Rattle.std.proofs.Common.{sym, ◌∙◌, lit<}
use Rattle.std.proofs.lemmas.List.{nil_from_length}
use Rattle.thread_local_base.specs.Buckets.{values}
use Rattle.thread_local_base.specs.Walk.{walk}
use Rattle.thread_local_buckets.proofs.EntriesLaws.{first_value, shorter}
use Rattle.thread_local_buckets.proofs.iter.IntoIterIterator.next.Goals as goal

pub returns-then-is_over : goal.returns-then-is_over
returns-then-is_over g c =
    let over = c.is_over.ensures.over c.if-is_over.true in
    let none =
    sym c.self.view_is
    ∙ nil_from_length (walk (values c.self.inside.buckets.contents)) (sym c.self.invariant.counted ∙ over) in
    record { steps = (none, none); goes = record { on = λ _. tt; keeps = tt; rests = λ _. tt } }

pub take_next-value-requires : goal.take_next-value-requires
take_next-value-requires g c = (lit< tt, (c.self.invariant, c.is_over.ensures.goes_on c.if-is_over.false))

pub invariant_of-self : goal.invariant_of-self
invariant_of-self g c = c.take_next-value.ensures.walk

pub returns : goal.returns
returns g c =
    let taken = c.take_next-value in
    let steps = sym c.self.view_is
    ∙ first_value (values c.self.inside.buckets.contents) (values taken.new.self.contents) taken.result taken.ensures.first in
    record { steps = steps; goes = record { on = λ _. (tt, tt, shorter _ _ _ steps); keeps = tt; rests = λ _. tt } }
