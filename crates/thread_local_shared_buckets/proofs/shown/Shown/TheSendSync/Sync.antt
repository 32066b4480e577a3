-- Threads may share a `Shown`, whatever the type: it owns a fact alone.
use denote.RattleType.{RattleType}
use denote.Ref.{NamedLft}
use denote.Param.Send.{IsSync}
use Rattle.thread_local_shared_buckets.specs.contracts.shown.Shown.{the_row}
use Rattle.thread_local_shared_buckets.proofs.Fields.{Bare}

pub sync : (a : NamedLft) (T : RattleType) → IsSync (the_row a T)
sync a T =
    let fields : IsSync (Bare a T) = search denote.Param.Send.sendable depth 20 in
    record { shared = λ d b o κ. (fields.shared (record {}, tt) b o κ, (λ holds. tt)) }
