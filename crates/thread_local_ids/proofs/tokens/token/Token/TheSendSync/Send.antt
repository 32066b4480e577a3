-- A token may go to another thread: what it says names none.
use Rattle.std.proofs.Common.{Some}
use denote.RattleType.{RattleType}
use denote.Param.Send.{IsSend}
use Rattle.thread_local_ids.proofs.ToldElements.{tells_keyless}
use Rattle.thread_local_ids.specs.contracts.tokens.token.Token.{the_row}

pub send : (T : RattleType) → IsSend (the_row T)
send T = record {
  owned = λ d vs x. (
    ((λ vss. (tt, ((tt, tt), ((λ uss. (tt, tt)), tt)))), tells_keyless T x.0.sharing x.0.id (Some x.0.value)),
    tt,
  );
  leaving = λ k f vs. tt;
}
