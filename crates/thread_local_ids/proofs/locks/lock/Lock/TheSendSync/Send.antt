-- A lock may go to another thread if its value may.
use denote.RattleType.{RattleType}
use denote.Param.Send.{IsSend}
use Rattle.thread_local_ids.specs.declared.locks.lock.Fits.{Ghosts}
use Rattle.thread_local_ids.specs.contracts.locks.lock.Lock.{the_row}

pub send : (V : RattleType) (g : Ghosts V.Denot) → IsSend V → IsSend (the_row V g)
send V g s = record {
  owned = λ d vs. ((λ _. tt), λ z. ((λ vss. (tt, ((tt, tt), (s.owned z.1 vss.1.0, tt)))), λ _. tt));
  leaving = λ k d w. tt;
}
