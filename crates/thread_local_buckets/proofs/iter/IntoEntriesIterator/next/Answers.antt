use Rattle.std.proofs.Common.{sym, ◌∙◌, lit<}
use Rattle.thread_local_base.specs.Buckets.{values}
use Rattle.thread_local_buckets.proofs.EntriesLaws.{no_entries, shorter}
use Rattle.thread_local_buckets.proofs.iter.IntoEntriesIterator.next.Goals as goal

pub returns-then-is_over : goal.returns-then-is_over
returns-then-is_over g c =
    let none =
    sym c.self.view_is
    ∙ no_entries (values c.self.inside.buckets.contents) (sym c.self.invariant.counted ∙ c.is_over.ensures.over c.if-is_over.true) in
    record { steps = (none, none); goes = record { on = λ _. tt; keeps = tt; rests = λ _. tt } }

pub take_next-requires : goal.take_next-requires
take_next-requires g c = (lit< tt, (c.self.invariant, c.is_over.ensures.goes_on c.if-is_over.false))

pub invariant_of-self : goal.invariant_of-self
invariant_of-self g c = c.take_next.ensures.walk

pub returns : goal.returns
returns g c =
    let steps = sym c.self.view_is ∙ c.take_next.ensures.first in
    record { steps = steps; goes = record { on = λ _. (tt, tt, shorter _ _ _ steps); keeps = tt; rests = λ _. tt } }
