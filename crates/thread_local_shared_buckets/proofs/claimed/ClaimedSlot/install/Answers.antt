-- The search for these takes seconds.
use Rattle.std.proofs.Common.{◌∙◌, ◌^◌, ℕ, List, Option, None, ap, sym, subst}
use Rattle.std.specs.Prelude.{IsSome, slice_set}
use Rattle.thread_local_base.specs.Learnt.{Learnt}
use Rattle.thread_local_base.specs.Place.{bucket_of, index_of}
use Rattle.thread_local_buckets.specs.Slots.{slot_value, empty_slots}
use Rattle.thread_local_ids.specs.Sharings.{Belongs}
use Rattle.thread_local_shared_buckets.specs.declared.claimed.ClaimedSlot.{ClaimedSlot}
use Rattle.thread_local_shared_buckets.specs.Announcing.{Announcing}
use Rattle.thread_local_shared_buckets.specs.Known.{found_as, state_of}
use Rattle.thread_local_shared_buckets.proofs.Fills.{holding_number}
use Rattle.thread_local_shared_buckets.proofs.claimed.ClaimedSlot.install.Goals as goal

pub exchange-back-requires : goal.exchange-back-requires
exchange-back-requires g c =
    let slots = c.args.block.slots in
    let none : Option g.row.T.Denot = None in
    let asked = c.requires in
    record {
      missing = asked.missing;
      index = asked.index;
      made = (
        asked.block.1,
        ◌∙◌ {A = List (Option g.row.T.Denot)} (ap (λ (i : ℕ). slice_set slots i none) (sym asked.index))
            (asked.others ∙ ap (λ (b : ℕ). empty_slots {X = g.row.T.Denot} (2 ^ b)) asked.place.0),
      );
      right = asked.right;
      announced = (
        ◌∙◌ {A = Announcing} c.announce-announced.ensures.0 asked.announcements.0,
        ◌∙◌ {A = ℕ} c.announce-announced.ensures.1 asked.place.0,
      );
      state =
          ◌∙◌ {A = ℕ} (holding_number (slot_value slots c.args.thread.index) asked.value)
          (ap (λ (i : ℕ). state_of (found_as (slot_value slots i))) asked.index);
      sharing = asked.sharing;
    }

pub publish_second-requires : goal.publish_second-requires
publish_second-requires g c =
    let i = c.args.thread.index in
    let none : Option g.row.T.Denot = None in
    let same = c.exchange-back.ensures.same in
    let back = c.in-Some.ensures.back in
    let asked = c.requires in
    let id = ap (λ (slot : ClaimedSlot g.row.T.Denot). slot.id) same in
    record {
      vacant = c.in-Some.ensures.learnt;
      place = (◌∙◌ {A = ℕ} asked.place.0 (sym (ap bucket_of id)), ◌∙◌ {A = ℕ} asked.place.1 (sym (ap index_of id)));
      index = ◌∙◌ {A = ℕ} asked.index (sym (ap (λ (slot : ClaimedSlot g.row.T.Denot). slot.index) same));
      block = (back.0 ∙ asked.block.0, back.2);
      others = ◌∙◌ {A = List (Option g.row.T.Denot)} (ap (λ (cs : List (Option g.row.T.Denot)). slice_set cs i none) back.1) asked.others;
      value = subst (λ (cs : List (Option g.row.T.Denot)). IsSome (slot_value cs i)) (sym back.1) asked.value;
      announcements = (
        ◌∙◌ {A = Announcing} asked.announcements.0 (sym (ap (λ (slot : ClaimedSlot g.row.T.Denot). slot.word) same)),
        asked.announcements.1,
      );
      sharing = subst (λ (slot : ClaimedSlot g.row.T.Denot). Belongs slot.sharing slot.table) (sym same) asked.sharing;
    }

pub returns-in-Some : goal.returns-in-Some
returns-in-Some g c =
    let to = c.publish_second.new.self in
    let i = c.args.thread.index in
    record {
      same =
          ◌∙◌ {A = ClaimedSlot g.row.T.Denot} c.publish_second.ensures.same
          (ap (λ (slot : ClaimedSlot g.row.T.Denot). record slot { at = to.at; state = to.state; learnt = to.learnt; left = to.left })
          c.exchange-back.ensures.same);
      learnt =
          ◌∙◌ {A = Learnt g.row.T.Denot} c.publish_second.ensures.learnt
          (ap (λ (cs : List (Option g.row.T.Denot)). found_as (slot_value cs i)) c.in-Some.ensures.back.1);
    }

pub returns-in_default : goal.returns-in_default
returns-in_default g c = record {
  same = c.exchange-back.ensures.same;
  learnt =
      ◌∙◌ {A = Learnt g.row.T.Denot} c.in_default.ensures.learnt
      (ap (λ (i : ℕ). found_as (slot_value c.args.block.slots i)) (sym c.requires.index));
}
