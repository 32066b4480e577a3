-- A `Shown` may go to another thread, whatever the type: it owns a fact alone.
use denote.RattleType.{RattleType}
use denote.Ref.{NamedLft}
use denote.Param.Send.{IsSend}
use Rattle.thread_local_shared_buckets.specs.contracts.shown.Shown.{the_row}

pub send : (a : NamedLft) (T : RattleType) → IsSend (the_row a T)
send a T = record { owned = λ d vs. ((λ vss. (tt, ((λ uss. (tt, tt)), tt))), (λ holds. tt)); leaving = λ k f vs. tt }
