-- A loan may be sent to another thread where its values may.
use denote.RattleType.{RattleType}
use denote.Ref.{NamedLft}
use denote.Param.Send.{IsSend}
use Rattle.thread_local_buckets.specs.contracts.loan.Loan.{the_row}
use Rattle.thread_local_buckets.proofs.Crosses.{loan_send}

pub send : (a : NamedLft) (V : RattleType) → IsSend V → IsSend (the_row a V)
send = loan_send
