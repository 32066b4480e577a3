-- The reserved slots are slots of buckets that stand.
use Rattle.std.proofs.Common.{◌≤◌, arith}
use Rattle.thread_local_base.specs.Buckets.{stands, slots}
use Rattle.thread_local_base.specs.Owned.{Owned, IsOwned}
use Rattle.thread_local_base.proofs.CapacityLaws.{first_reserved}
use Rattle.thread_local_base.proofs.SlotsLaws.{slots_of_first, slots_grow}

-- the reserved slots are no more than the slots of the buckets that stand
pub few_reserved : {V : Type 0} (owned : Owned V) → IsOwned owned → owned.reserved ≤ slots (stands owned.contents)
unfolding slots
few_reserved owned so =
    let n = so.first.buckets in
    let all = so.first.all in
    let within = so.first.in_table in
    let first =
    slots_of_first (stands owned.contents) n (λ b low.
    so.standing b (omega arith) (let below = first_reserved b n low in omega arith)) in
    let more = slots_grow (stands owned.contents) n 63 within in
    omega arith
