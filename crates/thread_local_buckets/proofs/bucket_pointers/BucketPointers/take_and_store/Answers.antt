use Rattle.std.specs.Prelude.{◌/◌, ◌*◌, ◌+◌, ◌<◌, ℕ, slice_index_or, IsSome}
use Rattle.std.proofs.Common.{◌≡◌, refl, sym, ap, ◌∙◌, subst, List, Option, None, is_some, length, set, arith}
use Rattle.thread_local_base.specs.Buckets.{Contents, IsTable, row}
use Rattle.thread_local_base.specs.Rows.{with_slot}
use Rattle.thread_local_base.proofs.RowLaws.{row-with_row-same}
use Rattle.thread_local_buckets.specs.Pointers.{contents_of}
use Rattle.thread_local_buckets.specs.Slots.{flag_word_at}
use Rattle.thread_local_buckets.specs.contracts.bucket_pointers.BucketPointers.take_and_store.{T-row}
use Rattle.thread_local_buckets.proofs.Announcing.{IsAnnounced, IsAnnounced-with_slot}
use Rattle.thread_local_buckets.proofs.ContentsOf.{size_of_pointer, slot_changes, row_seen}
use Rattle.thread_local_buckets.proofs.bucket_pointers.BucketPointers.take_and_store.Goals as goal

pub invariant_of-self : goal.invariant_of-self
invariant_of-self g c =
    let s = c.self.inside.pointers in
    let changed =
    slot_changes s c.args.bucket c.pointer_mut.result.now c.take_and_store.new.self c.args.index
    None c.pointer_mut.ensures.value c.take_and_store.ensures.after in
    subst (λ (z : Contents g.row.T.Denot). IsAnnounced c.self.inside.announced.bits c.self.inside.made.bits z) (sym changed)
    (IsAnnounced-with_slot c.self.inside.announced.bits c.self.inside.made.bits (contents_of s) c.args.bucket c.args.index None (λ _ _. refl)
    c.self.invariant)

-- The search for these takes seconds.
pub take_and_store-requires : goal.take_and_store-requires
take_and_store-requires g c =
    let v = c.args.self.now in
    let b = c.args.bucket in
    let i = c.args.index in
    let seen = row_seen c.self.inside.pointers v b c.pointer_mut.result.now c.self.view_is c.pointer_mut.ensures.value in
    let table = subst (λ (z : Contents g.row.T.Denot). IsTable z) c.self.view_is c.self.invariant.0 in
    let low : b < length v.rows = let here = c.requires.in_table in omega (arith, table.buckets) in
    let taken : row (with_slot v b i None) b ≡ set c.pointer_mut.result.now.slots i None =
    row-with_row-same v b (set (row v b) i None) low ∙ ap (λ (cs : List (Option g.row.T.Denot)). set cs i None) seen in
    record {
      in_block = subst (λ (cs : List (Option _)). i < length cs) seen c.requires.in_bucket;
      flag_word = c.flag_word_at-flag_word.ensures
          ∙ ap (λ (n : ℕ). flag_word_at (T-row g.row.T) c.args.size n) c.requires.chunk
          ∙ ap (λ (n : ℕ). flag_word_at (T-row g.row.T) n (i / 64))
          (size_of_pointer c.self.inside.pointers v b i c.args.size c.pointer_mut.result.now c.self.view_is c.self.invariant.0
          c.pointer_mut.ensures.value c.requires.in_bucket c.requires.size);
      published = subst (λ (cs : List (Option _)). IsSome (slice_index_or cs i None)) seen c.requires.published;
      flags = λ bit near. c.requires.flags bit near
          ∙ ap (λ (cs : List (Option g.row.T.Denot)). is_some (slice_index_or cs (i / 64 * 64 + bit) None)) taken;
    }

pub returns : goal.returns
returns g c =
    let s = c.self.inside.pointers in
    let b = c.args.bucket in
    let lent = c.pointer_mut in
    record {
      value = ap (λ (cs : List (Option g.row.T.Denot)). slice_index_or cs c.args.index None)
          (row_seen s c.args.self.now b lent.result.now c.self.view_is lent.ensures.value)
          ∙ c.take_and_store.ensures.value;
      after = slot_changes s b lent.result.now c.take_and_store.new.self c.args.index None lent.ensures.value c.take_and_store.ensures.after
          ∙ ap (λ (z : Contents g.row.T.Denot). with_slot z b c.args.index None) c.self.view_is;
    }
