use Rattle.std.proofs.Common.{arith}
use Rattle.std.proofs.lemmas.Nat.{le_or_r}
use Rattle.thread_local_base.proofs.Word.{highest_kept}
use Rattle.thread_local_base.proofs.place.highest_bit.Goals as goal

pub ilog2-requires : goal.ilog2-requires
ilog2-requires c = omega (arith, le_or_r c.args.number 1)

pub returns-clause-power : goal.returns-clause-power
returns-clause-power c = (highest_kept c.args.number c.ilog2.result c.requires c.ilog2.ensures.power_le c.ilog2.ensures.next_power_gt).0

pub returns-clause-next_power : goal.returns-clause-next_power
returns-clause-next_power c =
    (highest_kept c.args.number c.ilog2.result c.requires c.ilog2.ensures.power_le
    c.ilog2.ensures.next_power_gt).1
