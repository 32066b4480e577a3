-- Threads may share a list of tokens: what they tell names none of them.
use denote.RattleType.{RattleType}
use denote.Param.Send.{IsSync}
use Rattle.thread_local_ids.proofs.TokenListLaws.{each_keyless}
use Rattle.thread_local_ids.specs.contracts.tokens.told_list.Told.{the_row}

pub sync : (T : RattleType) → IsSync (the_row T)
sync T = record { shared = λ d b o κ x. (((((tt, λ _. tt), tt), λ _. tt), each_keyless T x.0.tokens), tt) }
