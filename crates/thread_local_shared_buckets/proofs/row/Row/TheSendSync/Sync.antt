-- Threads may share a row if the values may go to another thread.
use denote.RattleType.{RattleType}
use denote.Ref.{NamedLft}
use denote.Param.Send.{IsSend, IsSync}
use Rattle.thread_local_shared_buckets.specs.contracts.row.Row.{the_row}
use Rattle.thread_local_shared_buckets.proofs.RowFields.{FieldsType}
use Rattle.thread_local_shared_buckets.proofs.BucketSent.{found_keyless}

pub sync : (a : NamedLft) (T : RattleType) → IsSend T → IsSync (the_row a T)
sync a T s =
    let fields : IsSync (FieldsType a T) = search denote.Param.Send.sendable depth 20 in
    record { shared = λ d b o κ. (fields.shared (d.at, (record {}, tt)) b o κ, found_keyless T s d.of d.names a.lft d.at) }
