-- A block may be sent to another thread where its values and its allocator may.
use denote.RattleType.{RattleType}
use denote.Param.Send.{IsSend, Frees}
use Rattle.std.specs.declared.alloc.Allocator as Allocator
use Rattle.thread_local_buckets.specs.contracts.block.Block.{the_row}
use Rattle.thread_local_buckets.proofs.Sent.{block_keyless}

pub send : (T A : RattleType) (g : Allocator.Ghosts A.Denot) → IsSend T → IsSend A
    → Frees g g.dealloc_token
    → IsSend (the_row T A g)
send T A g s _ f = record {
  owned = λ d vs. (
    (λ vss. (tt, (tt, ((λ uss. (tt, tt)), tt)))),
    block_keyless T s (g.dealloc_token d.heap) (f.frees d.heap) d.at d.slots d.left,
  );
  leaving = λ k x vs. tt;
}
