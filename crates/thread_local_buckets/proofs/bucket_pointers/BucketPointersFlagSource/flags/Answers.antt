use Rattle.std.proofs.Common.{◌∙◌, refl, ◌^◌, ap, sym, subst, List, Option, None, length, is_some}
use Rattle.std.specs.Prelude.{◌*◌, ◌+◌, ◌<◌, ℕ, slice_index_or}
use Rattle.thread_local_base.specs.Buckets.{Contents, IsTable}
use Rattle.thread_local_buckets.specs.Slots.{flag_word_at}
use Rattle.thread_local_buckets.specs.contracts.bucket_pointers.BucketPointersFlagSource.flags.{T-row}
use Rattle.thread_local_buckets.proofs.Announcing.{IsAnnounced}
use Rattle.thread_local_buckets.proofs.ContentsOf.{size_of_pointer, row_seen, contents_stay}
use Rattle.thread_local_buckets.proofs.bucket_pointers.BucketPointersFlagSource.flags.Goals as goal

pub flags-requires-clause-flag_word : goal.flags-requires-clause-flag_word
flags-requires-clause-flag_word g c =
    c.requires.flag_word
    ∙ ap (λ (n : ℕ). flag_word_at (T-row g.row.T) n c.args.chunk)
    (size_of_pointer c.self.inside.pointers c.args.self.now c.args.bucket (c.args.chunk * 64)
    (2 ^ c.args.bucket) c.pointer_mut.result.now c.self.view_is c.self.invariant.0
    c.pointer_mut.ensures.value c.requires.in_bucket refl)

-- The search for these takes seconds.
pub flags-requires-clause-in_block : goal.flags-requires-clause-in_block
flags-requires-clause-in_block g c =
    subst (λ (cs : List (Option _)). c.args.chunk * 64 < length cs)
    (row_seen c.self.inside.pointers c.args.self.now c.args.bucket c.pointer_mut.result.now c.self.view_is
    c.pointer_mut.ensures.value)
    c.requires.in_bucket

pub invariant_of-self : goal.invariant_of-self
invariant_of-self g c =
    subst (λ (z : Contents g.row.T.Denot). IsAnnounced c.self.inside.announced.bits c.self.inside.made.bits z)
    (sym (contents_stay c.self.inside.pointers c.args.bucket c.flags.new.self
    (c.flags.ensures.same ∙ c.pointer_mut.ensures.value)))
    c.self.invariant

pub returns-clause-value : goal.returns-clause-value
returns-clause-value g c = λ bit low.
    c.flags.ensures.value bit low
    ∙ ap (λ (cs : List (Option _)). is_some (slice_index_or cs (c.args.chunk * 64 + bit) None))
    (sym (row_seen c.self.inside.pointers c.args.self.now c.args.bucket c.pointer_mut.result.now c.self.view_is
    c.pointer_mut.ensures.value))

pub returns-clause-table : goal.returns-clause-table
returns-clause-table g c = subst (λ (z : Contents g.row.T.Denot). IsTable z) c.self.view_is c.self.invariant.0

pub returns-clause-same : goal.returns-clause-same
returns-clause-same g c =
    contents_stay c.self.inside.pointers c.args.bucket c.flags.new.self (c.flags.ensures.same ∙ c.pointer_mut.ensures.value)
    ∙ c.self.view_is
