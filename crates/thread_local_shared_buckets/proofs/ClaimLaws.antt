-- A claim keeps what it keeps of its parts, whatever its slot learns.
use Rattle.std.proofs.Common.{◌≡◌, ◌∙◌, List, Option, ℕ, ap, sym, subst}
use base.Stored.{Gv}
use Rattle.thread_local_base.specs.IdMoves.{IdMove}
use Rattle.thread_local_base.specs.Learnt.{Learnt}
use Rattle.thread_local_ids.specs.declared.rights.right.Right.{Right}
use Rattle.thread_local_shared_buckets.specs.Announcing.{Announcing}
use Rattle.thread_local_shared_buckets.specs.Known.{HasLooked}
use Rattle.thread_local_shared_buckets.specs.Room.{IsClaim}
use Rattle.thread_local_shared_buckets.specs.declared.claimed.ClaimedSlot.{ClaimedSlot}
use Rattle.thread_local_shared_buckets.specs.ClaimViews.{ClaimView}

module _ {V : Type 0} where
  -- it keeps that where its slot has learnt something
  pub goes_on : (slot to : ClaimedSlot V) (id : ℕ) (word : Announcing) (right : Right) (learnt : Learnt V) (left : Option Gv)
      → IsClaim slot id word right
      → to ≡ record slot { at = to.at; state = to.state; learnt = learnt; left = left } → HasLooked learnt
      → IsClaim to id word right
  goes_on slot to id word right learnt left kept same looked =
      subst (λ (s : ClaimedSlot V). IsClaim s id word right) (sym same)
      (kept.0, kept.1, kept.2, looked, kept.4, kept.5, kept.6, kept.7, kept.8)

  abbrev view : ClaimedSlot V → ℕ → List IdMove → ClaimView V
  view slot id before = record {
    table = slot.table;
    sharing = slot.sharing;
    id = id;
    before = before;
    reserved = slot.reserved;
    learnt = slot.learnt;
  }

  -- what contracts see of it then
  pub seen_on : (slot to : ClaimedSlot V) (id : ℕ) (before : List IdMove) (learnt : Learnt V) (left : Option Gv) (claim : ClaimView V)
      → to ≡ record slot { at = to.at; state = to.state; learnt = learnt; left = left } → view slot id before ≡ claim
      → view to id before ≡ record claim { learnt = learnt }
  seen_on slot to id before learnt left claim same seen =
      ap (λ (s : ClaimedSlot V). view s id before) same ∙ ap (λ (c : ClaimView V). record c { learnt = learnt }) seen
