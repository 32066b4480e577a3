-- A claimed slot may go to another thread if its values may.
use denote.RattleType.{RattleType}
use denote.Ref.{NamedLft}
use denote.Param.Send.{IsSend}
use Rattle.thread_local_ids.proofs.NoteElements.{note_keyless}
use Rattle.thread_local_shared_buckets.specs.Claims.{claim_fields}
use Rattle.thread_local_shared_buckets.specs.contracts.claimed.ClaimedSlot.{the_row}
use Rattle.thread_local_shared_buckets.proofs.Sent.{claim_keyless}

pub send : (a : NamedLft) (T : RattleType) → IsSend T → IsSend (the_row a T)
send a T s = record {
  owned = λ d vs. (
    (λ vss. (tt, (tt, ((tt, tt), ((λ uss. (tt, tt)), tt))))),
    (
      claim_keyless T s a.lft d.table (claim_fields d.id d.index d.bucket d.at d.sharing d.word d.reserved)
          d.learnt d.state,
      note_keyless d.table d.id d.left,
    ),
  );
  leaving = λ k f vs. tt;
}
