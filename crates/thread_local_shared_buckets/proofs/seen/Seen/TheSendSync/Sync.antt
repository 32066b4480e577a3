-- Threads may share what was seen if the values may go to another thread.
use denote.RattleType.{RattleType}
use denote.Ref.{NamedLft}
use denote.Param.Send.{IsSend, IsSync}
use Rattle.thread_local_shared_buckets.specs.contracts.seen.Seen.{the_row}
use Rattle.thread_local_shared_buckets.proofs.SeenFields.{FieldsType}
use Rattle.thread_local_shared_buckets.proofs.BucketSent.{seen_keyless}

pub sync : (a : NamedLft) (T : RattleType) → IsSend T → IsSync (the_row a T)
sync a T s =
    let fields : IsSync (FieldsType a T) = search denote.Param.Send.sendable depth 20 in
    record {
      shared = λ d b o κ.
          (fields.shared (d.values, (d.flags, (record {}, tt))) b o κ, seen_keyless T s d.of d.at d.names d.chunk d.flags d.values a.lft);
    }
