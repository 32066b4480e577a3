-- The search for these takes seconds.
use Rattle.std.proofs.Common.{◌≡◌, ◌∙◌, ℕ, Option, ◌<◌, ◌^◌, sym, ap, subst, refl, get_or}
use Rattle.std.specs.Prelude.{nat_lt}
use Rattle.std.proofs.lemmas.Bool.{lt-ltb}
use denote.Param.{param}
use Rattle.thread_local_base.specs.Learnt.{Learnt, Finds}
use Rattle.thread_local_base.specs.Place.{bucket_of, index_of, id_at}
use Rattle.thread_local_base.proofs.PlaceLaws.{id_at-place}
use Rattle.thread_local_ids.specs.Sharings.{Belongs, is_first, left_of}
use Rattle.thread_local_ids.specs.Rights.{taken_id}
use Rattle.thread_local_ids.specs.declared.rights.right.Right.{Right}
use Rattle.thread_local_shared_buckets.specs.declared.claimed.ClaimedSlot.{ClaimedSlot}
use Rattle.thread_local_shared_buckets.specs.Known.{HasLooked, MayLook, value_held}
use Rattle.thread_local_shared_buckets.specs.Shared.{BucketView}
use Rattle.thread_local_shared_buckets.specs.TableView.{bucket_view}
use Rattle.thread_local_shared_buckets.proofs.IdLaws.{word_there}
use Rattle.thread_local_shared_buckets.proofs.Lists.{listed_bucket}
use Rattle.thread_local_shared_buckets.proofs.shared.Shared.claim.Goals as goal
use Rattle.thread_local_shared_buckets.proofs.shared.Shared.claim.Goals.{After-index-pointers-thread}

-- the bucket at the place is the table's of this number
at_place : (g : _) (c : After-index-pointers-thread g)
    → get_or c.behind-self.inside.pointers.pointers.pointers c.new-thread.result.bucket c.index-pointers-thread.result
    ≡ bucket_view c.args.self.now c.behind-self.inside.pointers.announced c.new-thread.result.bucket
at_place g c =
    let parts = c.behind-self.inside in
    listed_bucket parts.pointers.pointers.pointers parts.pointers.announced parts.reserved
    c.new-thread.result.bucket c.index-pointers-thread.result c.args.self.now
    c.behind-self.told c.new-thread.result.in_table c.behind-self.invariant.0 (c.behind-self.view_is ∙ c.parts.ensures)

-- the right's id is at the place where the claim looks
id_there : (held bucket there index : ℕ) → bucket ≡ there → there ≡ bucket_of held → index ≡ index_of held → held ≡ id_at bucket index
id_there held bucket there index at in_bucket at_index =
    sym (id_at-place held) ∙ ap (λ i. id_at (bucket_of held) i) (sym at_index)
    ∙ ap (λ b. id_at b index) (sym (at ∙ in_bucket))

pub hold-slot-requires : goal.hold-slot-requires
hold-slot-requires g c =
    let here = at_place g (goal.at.hold-slot-requires g c).After-index-pointers-thread in
    let thread = c.new-thread.result in
    let bucket = ap (λ (d : BucketView). d.bucket) here in
    record {
      right = (
        c.requires.table ∙ sym (ap (λ (d : BucketView). d.table) here),
        sym (id_there c.args.held.id _ thread.bucket thread.index bucket c.new-thread.ensures.bucket c.new-thread.ensures.index)
            ∙ c.args.held.least,
        c.args.held.held.0,
      );
      here = c.args.held.held.1;
      within = subst (λ (b : ℕ). thread.index < 2 ^ b) (sym bucket) thread.in_bucket;
    }

pub find-requires : goal.find-requires
find-requires g c =
    let thread = c.new-thread.result in
    record {
      missing = subst (λ (l : Learnt _). MayLook l) (sym c.hold-slot.ensures.unknown) tt;
      index = sym c.hold-slot.ensures.same_slot.4;
      flag_word =
          word_there (param 0 g.row.T) c.flag_word_of.result c.hold-slot.result.0.id c.args.held.id thread.bucket thread.index
          c.flag_word_of.ensures (c.hold-slot.ensures.same_slot.3 ∙ sym c.args.held.least) c.new-thread.ensures.bucket c.new-thread.ensures.index;
    }

pub returns : goal.returns
returns g c =
    let Slot : Type 0 = ClaimedSlot g.row.T.Denot in
    let now = c.args.self.now in
    let here = at_place g (goal.at.returns g c).After-index-pointers-thread in
    let slot = c.hold-slot.ensures.same_slot in
    let table = ap (λ (s : Slot). s.table) c.find.ensures.same ∙ slot.0 ∙ c.requires.table in
    let sharing = ap (λ (s : Slot). s.sharing) c.find.ensures.same ∙ slot.1 ∙ ap (λ (d : BucketView). d.sharing) here in
    let found = c.find.ensures in
    let same = c.notes.ensures.same in
    record {
      same_slot = (
        ap (λ (s : Slot). s.table) same ∙ table,
        ap (λ (s : Slot). s.sharing) same ∙ sharing,
        refl,
        ap (λ (r : Right). r.before) c.hold-slot.ensures.right,
      );
      found = subst (λ (l : Learnt _). Finds l c.notes.new.self.learnt) c.hold-slot.ensures.unknown
          (subst (λ (s : Slot). Finds c.hold-slot.result.0.learnt s.learnt) (sym same) found.found);
      learnt = subst (λ (s : Slot). HasLooked s.learnt) (sym same) found.looked;
      reserved = λ below none.
          found.reserved
          (ap (λ (s : Slot). s.reserved) found.same ∙ c.hold-slot.ensures.reserved ∙ ap (λ (d : BucketView). d.reserved) here
          ∙ ap (λ (n : ℕ). nat_lt (id_at n 0) now.reserved) c.new-thread.ensures.bucket
          ∙ lt-ltb (id_at (bucket_of c.args.held.id) 0) now.reserved below)
          (ap (λ (s : Slot). s.learnt) (sym same) ∙ none);
      left = λ first.
          sym (ap (λ (s : Slot). s.left) found.same ∙ c.hold-slot.ensures.left)
          ∙ c.notes.ensures.left ((λ i. is_first (sharing i) (table i)) ∙ first)
          ∙ ap (λ (s : Slot). left_of (param 0 g.row.T) (value_held s.learnt)) (sym same);
    }

pub invariant_of-result : goal.invariant_of-result
invariant_of-result g c =
    let Slot : Type 0 = ClaimedSlot g.row.T.Denot in
    let here = at_place g (goal.at.invariant_of-result g c).After-index-pointers-thread in
    let slot = c.hold-slot.ensures.same_slot in
    let right = c.hold-slot.ensures.right in
    let looked = c.notes.ensures.same in
    let same = looked ∙ c.find.ensures.same in
    let table = ap (λ (s : Slot). s.table) same ∙ slot.0 ∙ c.requires.table in
    let sharing = ap (λ (s : Slot). s.sharing) same ∙ slot.1 ∙ ap (λ (d : BucketView). d.sharing) here in (
      ap (λ (s : Slot). s.id) same ∙ slot.3 ∙ sym c.args.held.least,
      ap (λ (s : Slot). s.index) same ∙ slot.4 ∙ c.new-thread.ensures.index,
      c.args.held.in_range,
      subst (λ (s : Slot). HasLooked s.learnt) (sym looked) c.find.ensures.looked,
      subst (λ (s : Option ℕ × ℕ). Belongs s.0 s.1) (λ i. (sym sharing i, sym table i)) c.requires.sharing,
      ap (λ (s : Slot). s.word) same ∙ slot.2 ∙ ap (λ (d : BucketView). d.word) here,
      c.behind-self.invariant.1,
      (
        ap (λ (r : Right). r.table) right ∙ c.requires.table ∙ sym table,
        c.args.held.least ∙ sym (ap (λ (r : Right). taken_id r.before) right),
        ap (λ (r : Right). r.held) right ∙ c.args.held.held.0,
      ),
      ap (λ (r : Right). r.lent) right,
    )
