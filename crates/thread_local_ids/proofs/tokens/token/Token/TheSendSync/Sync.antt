-- Threads may share a token: what it says names none of them.
use Rattle.std.proofs.Common.{Some}
use denote.RattleType.{RattleType}
use denote.Param.Send.{IsSync}
use Rattle.thread_local_ids.proofs.ToldElements.{tells_keyless}
use Rattle.thread_local_ids.proofs.TokenFields.{FieldsType, fields_of}
use Rattle.thread_local_ids.specs.contracts.tokens.token.Token.{the_row}

pub sync : (T : RattleType) → IsSync (the_row T)
sync T =
    let fields : IsSync (FieldsType T) = search denote.Param.Send.sendable depth 20 in
    record { shared = λ d b o κ x. ((fields.shared (fields_of T x.0.id) b o κ, tells_keyless T x.0.sharing x.0.id (Some x.0.value)), tt) }
