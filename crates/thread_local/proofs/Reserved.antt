-- A table's claim of a held id makes a `Local`: where the id is reserved, the claim has found its
-- bucket.
use Rattle.std.proofs.Common.{◌≡◌, ◌≢◌, ◌<◌, ◌-◌, ◌^◌, ℕ, subst, sym, arith}
use Rattle.thread_local_base.specs.Place.{bucket_of, id_at}
use Rattle.thread_local_base.specs.Learnt.{Missing}
use Rattle.thread_local_base.proofs.PlaceLaws.{id_at-place}
use Rattle.thread_local_shared_buckets.specs.Known.{HasLooked}
use Rattle.thread_local_shared_buckets.specs.ClaimViews.{ClaimView}
use Rattle.thread_local_shared_buckets.specs.TableView.{TableView}
use Rattle.thread_local.specs.Tables.{ThreadLocalView, thread_local_view}
use Rattle.thread_local_ids.specs.declared.rights.held.HeldId.{HeldId}
use Rattle.thread_local.specs.Locals.{IsLocalOf}

-- where an id is below a number, so is the first id of its bucket
first_below : (id n : ℕ) → id < n → id_at (bucket_of id) 0 < n
first_below id n below = let same = id_at-place id in omega arith

-- an id that the ids of a table gave and the claim that its buckets answer make a `Local`
pub makes_local : {V : Type 0} {of : ThreadLocalView} (held : HeldId) (buckets : TableView) (room : ℕ) (claim : ClaimView V)
    → thread_local_view buckets room ≡ of
    → (claim.table ≡ buckets.table) × (claim.sharing ≡ buckets.sharing) × (claim.id ≡ held.id) × (claim.before ≡ held.right.before)
    → HasLooked claim.learnt
    → (id_at (bucket_of held.id) 0 < buckets.reserved → claim.learnt ≢ Missing)
    → IsLocalOf of claim
makes_local {V} {of} held buckets room claim is same_slot known found =
    subst (λ (table : ThreadLocalView). IsLocalOf table claim) is (record {
      table = same_slot.0;
      sharing = same_slot.1;
      in_range = subst (λ n. n < 2 ^ 63 - 1) (sym same_slot.2) held.in_range;
      known = known;
      reserved = λ below. found (first_below held.id buckets.reserved (subst (λ n. n < buckets.reserved) same_slot.2 below));
    })
