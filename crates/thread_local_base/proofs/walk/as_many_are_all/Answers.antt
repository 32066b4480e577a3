use Rattle.std.proofs.Common.{◌-◌, ◌^◌}
use Rattle.thread_local_base.specs.Walk.{walk}
use Rattle.thread_local_base.proofs.EntriesLaws.{are_all}
use Rattle.thread_local_base.proofs.walk.as_many_are_all.Goals as goal

pub returns : goal.returns
unfolding walk
returns g c = λ values entries. are_all entries values (2 ^ 63 - 1)
