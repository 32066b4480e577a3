-- A bucket's pointer, with its block, may be sent to another thread where its values may.
use Rattle.std.proofs.Common.{List, [], ◌∷◌}
use Rattle.std.specs.Prelude.{Option}
use base.Shift.{Keyless}
use denote.RattleType.{RattleType}
use denote.RawPtr.{Ptr}
use denote.Param.Send.{IsSend}
use Rattle.thread_local_buckets.specs.Slots.{heap_token}
use Rattle.thread_local_buckets.proofs.Sent.{token_keyless, block_keyless}
use Rattle.thread_local_buckets.specs.PointerOwns.{pointer_owns}
use Rattle.thread_local_buckets.specs.contracts.bucket_pointer.BucketPointer.{the_row}

pointer_keyless : (R : RattleType) → IsSend R → (p : Ptr) (cs : List (Option R.Denot)) → Keyless (pointer_owns R heap_token p cs)
pointer_keyless R s p [] = λ _. tt
pointer_keyless R s p (c ∷ cs) = block_keyless R s heap_token token_keyless p (c ∷ cs) 0

pub send : (T : RattleType) → IsSend T → IsSend (the_row T)
send T s = record { owned = λ d vs. ((λ vss. (tt, (tt, tt))), pointer_keyless T s d.at d.slots); leaving = λ k x vs. tt }
