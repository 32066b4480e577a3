-- A list of tokens may go to another thread: what they tell names none.
use denote.RattleType.{RattleType}
use denote.Param.Send.{IsSend}
use Rattle.thread_local_ids.proofs.TokenListLaws.{each_keyless}
use Rattle.thread_local_ids.specs.contracts.tokens.told_list.Told.{the_row}

pub send : (T : RattleType) → IsSend (the_row T)
send T = record { owned = λ d vs x. (((λ vss. (tt, ((λ uss. (tt, tt)), tt))), each_keyless T x.0.tokens), tt); leaving = λ k f vs. tt }
