use Rattle.std.proofs.Common.{◌-◌, ◌^◌}
use Rattle.thread_local_base.specs.Walk.{walk}
use Rattle.thread_local_base.proofs.WalkLaws as laws
use Rattle.thread_local_base.proofs.walk.walk_lists_the_map.Goals as goal

pub returns-clause-values : goal.returns-clause-values
unfolding walk
returns-clause-values g c = λ values. laws.map-walk_below values (2 ^ 63 - 1)

pub returns-clause-exact : goal.returns-clause-exact
unfolding walk
returns-clause-exact g c = λ values id v. (
  (laws.listed values (2 ^ 63 - 1) id v),
  (λ h. laws.in_list values (2 ^ 63 - 1) id v h.0 h.1),
)

pub returns-clause-ascending : goal.returns-clause-ascending
unfolding walk
returns-clause-ascending g c = λ values. laws.strictly_ascends values (2 ^ 63 - 1)
