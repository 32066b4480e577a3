use Rattle.std.proofs.Common.{ap, ◌∙◌, arith}
use Rattle.std.specs.Prelude.{nat_lt}
use Rattle.thread_local_base.specs.Place.{id_at}
use Rattle.thread_local_base.specs.Owned.{Owned}
use Rattle.thread_local_base.specs.Owner.{cleared_row}
use Rattle.thread_local_base.proofs.ClearingLaws.{row-cleared, stands-cleared, values-cleared, slots-cleared, IsOwned-cleared}
use Rattle.thread_local_buckets.proofs.buckets.Buckets.clear.Goals as goal

pub clear-requires : goal.clear-requires
clear-requires g c = (omega arith, c.self.invariant.standing)

pub invariant_of-self : goal.invariant_of-self
invariant_of-self g c =
    IsOwned-cleared c.clear.new.self c.self.inside.reserved c.clear.ensures.table
    c.self.invariant.first c.clear.ensures.rows

pub returns : goal.returns
returns g c = record {
  rows = λ b.
      row-cleared c.clear.new.self c.self.inside.reserved c.clear.ensures.table c.self.invariant.first c.clear.ensures.rows b
      ∙ ap (λ (o : Owned g.row.T.Denot). cleared_row o.reserved b) c.self.view_is;
  empty = values-cleared c.clear.new.self c.self.inside.reserved c.clear.ensures.table
      c.self.invariant.first c.clear.ensures.rows;
  stands = λ b.
      stands-cleared c.clear.new.self c.self.inside.reserved c.clear.ensures.table c.self.invariant.first c.clear.ensures.rows b
      ∙ ap (λ (o : Owned g.row.T.Denot). nat_lt (id_at b 0) o.reserved) c.self.view_is;
  slots = slots-cleared c.clear.new.self c.self.inside.reserved c.clear.ensures.table c.self.invariant.first c.clear.ensures.rows
      ∙ ap (λ (o : Owned g.row.T.Denot). o.reserved) c.self.view_is;
  reserved = ap (λ (o : Owned g.row.T.Denot). o.reserved) c.self.view_is;
}
