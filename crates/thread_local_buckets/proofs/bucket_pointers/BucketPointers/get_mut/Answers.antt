use Rattle.std.proofs.Common.{◌<◌, List, Option, None, length, refl, sym, ap, ◌∙◌, subst, Some}
use Rattle.std.specs.Prelude.{slice_index_or, IsSome}
use Rattle.std.proofs.lemmas.Bool.{false≢true}
use Rattle.thread_local_base.specs.Buckets.{Contents}
use Rattle.thread_local_base.specs.Rows.{with_slot}
use Rattle.thread_local_buckets.specs.LentValue.{with_slot_value}
use Rattle.thread_local_buckets.specs.Pointers.{contents_of}
use Rattle.thread_local_base.specs.Rows.{value_in}
use Rattle.thread_local_buckets.proofs.Announcing.{IsAnnounced, IsAnnounced-with_slot, holds_announced}
use Rattle.thread_local_buckets.proofs.ContentsOf.{row_seen, slot_changes}
use Rattle.thread_local_buckets.proofs.bucket_pointers.BucketPointers.get_mut.Goals as goal

pub get_mut-requires-clause-in_block : goal.get_mut-requires-clause-in_block
get_mut-requires-clause-in_block g c =
    subst (λ (cs : List (Option _)). c.args.thread.index < length cs)
    (row_seen c.self.inside.pointers c.args.self.now c.args.thread.bucket c.pointer_mut.result.now c.self.view_is c.pointer_mut.ensures.value)
    c.requires.in_bucket

pub get_mut-requires-clause-published : goal.get_mut-requires-clause-published
get_mut-requires-clause-published g c =
    subst (λ (cs : List (Option _)). IsSome (slice_index_or cs c.args.thread.index None))
    (row_seen c.self.inside.pointers c.args.self.now c.args.thread.bucket c.pointer_mut.result.now c.self.view_is c.pointer_mut.ensures.value)
    c.requires.published

pub invariant_of-self-lent : goal.invariant_of-self-lent
invariant_of-self-lent g c = λ w. let s = c.self.inside.pointers in let b = c.args.thread.bucket in let i = c.args.thread.index in
    let words = c.self.inside in
    let published = subst (λ (z : Contents g.row.T.Denot). IsSome (value_in z b i)) (sym c.self.view_is) c.requires.published in
    subst (λ (z : Contents g.row.T.Denot). IsAnnounced words.announced.bits words.made.bits z)
    (sym (slot_changes s b c.pointer_mut.result.now (with_slot_value c.pointer_mut.result.now i w) i (Some w) c.pointer_mut.ensures.value refl))
    (IsAnnounced-with_slot words.announced.bits words.made.bits (contents_of s) b i (Some w)
    (λ low out. absurd (false≢true (sym out ∙ holds_announced words.announced.bits (contents_of s) b i low c.self.invariant.1 published)))
    c.self.invariant)

pub returns : goal.returns
returns g c = let s = c.self.inside.pointers in let b = c.args.thread.bucket in let i = c.args.thread.index in (
  (
    refl,
    λ w.
        slot_changes s b c.pointer_mut.result.now (with_slot_value c.pointer_mut.result.now i w) i (Some w) c.pointer_mut.ensures.value refl
        ∙ ap (λ (z : Contents g.row.T.Denot). with_slot z b i (Some w)) c.self.view_is,
  ),
  record {
    writes_back = tt;
    value =
        ap (λ (cs : List (Option g.row.T.Denot)). slice_index_or cs i None)
        (row_seen s c.args.self.now b c.pointer_mut.result.now c.self.view_is c.pointer_mut.ensures.value)
        ∙ c.get_mut.ensures.value;
  },
)
