use Rattle.std.proofs.Common.{◌≡◌, ◌∙◌, ◌/◌, ◌%◌, ◌^◌, ◌<◌, ℕ, bit_and, [], List, Option, None, Some, IsSome, length, refl, sym, ap, subst}
use Rattle.std.specs.Prelude.{slice_index_or, slice_set, unwrap_or}
use Rattle.std.proofs.lemmas.Bool.{eq-eqb, ne_eqb, false≢true}
use Rattle.std.proofs.lemmas.List.{set-get_or}
use Rattle.thread_local_base.specs.Buckets.{Contents, row}
use Rattle.thread_local_base.specs.Rows.{value_in, with_slot}
use Rattle.thread_local_base.proofs.TakingLaws.{shows_none}
use Rattle.thread_local_base.proofs.Word.{set_bit, place_below}
use Rattle.thread_local_buckets.specs.Pointers.{contents_of}
use Rattle.thread_local_buckets.specs.Slots.{flag_word_at}
use Rattle.thread_local_buckets.specs.contracts.bucket_pointers.BucketPointers.publish_or_drop.{T-row}
use Rattle.thread_local_buckets.proofs.Announcing.{IsAnnounced, IsAnnounced-with_slot, IsAnnounced-announced, and_bit, bit_added}
use Rattle.thread_local_buckets.proofs.ChunkFlags.{HasFlags, flag_read, flags_changed}
use Rattle.thread_local_buckets.proofs.ContentsOf.{size_of_pointer, slot_changes, row_seen}
use Rattle.thread_local_buckets.proofs.bucket_pointers.BucketPointers.publish_or_drop.Goals as goal

-- a slot that keeps its value stays as it is
with_slot-same : {V : Type 0} (c : Contents V) (b i : ℕ) (value : V) → IsSome (value_in c b i)
    → c ≡ with_slot c b i (Some (unwrap_or (value_in c b i) value))
with_slot-same {V} c b i value there =
    let as_contents : List (List (Option V)) → Contents V = λ rows. record { rows = rows } in
    sym (ap (λ (o : Option V). with_slot c b i o) (kept (value_in c b i) there)
    ∙ ap (λ (r : List (Option V)). as_contents (slice_set c.rows b r)) (set-get_or (row c b) i None)
    ∙ ap as_contents (set-get_or c.rows b []))
  where
    kept : (o : Option V) → IsSome o → Some (unwrap_or o value) ≡ o
    kept None some = cc
    kept (Some x) some = refl

pub publish_and_store-requires : goal.publish_and_store-requires
publish_and_store-requires g c =
    let b = c.args.thread.bucket in
    let i = c.args.thread.index in
    let now = c.args.self.now in
    let word = c.flags-flags.result in
    let seen = row_seen c.self.inside.pointers now b c.pointer_mut.result.now (c.self.view_is ∙ c.flags-flags.ensures.same) c.pointer_mut.ensures.value in
    let flags : HasFlags c.pointer_mut.result.now.slots (i / 64) word =
    subst (λ (cs : List (Option g.row.T.Denot)). HasFlags cs (i / 64) word) seen c.flags-flags.ensures.value in
    let near : i < length c.pointer_mut.result.now.slots = subst (λ (cs : List (Option _)). i < length cs) seen c.requires.in_bucket in
    record {
      in_block = near;
      flag_word = c.flag_word_at-flag_word.ensures
          ∙ ap (λ (n : ℕ). flag_word_at (T-row g.row.T) n (i / 64))
          (size_of_pointer c.self.inside.pointers now b i c.bucket_size.result c.pointer_mut.result.now
          (c.self.view_is ∙ c.flags-flags.ensures.same) c.self.invariant.0 c.pointer_mut.ensures.value c.requires.in_bucket c.bucket_size.ensures);
      empty = shows_none (slice_index_or c.pointer_mut.result.now.slots i None)
          (flag_read c.pointer_mut.result.now.slots i word flags ∙ ne_eqb (bit_and (word / 2 ^ (i % 64)) 1) 1 c.if-flags-thread-ne1.true);
      flags = flags_changed c.pointer_mut.result.now.slots i (Some c.args.value) word _ near flags (set_bit word (i % 64) (place_below i));
    }

pub invariant_of-self : goal.invariant_of-self
invariant_of-self g c =
    let s = c.self.inside.pointers in
    let changed =
    slot_changes s c.args.thread.bucket c.pointer_mut.result.now c.publish_and_store.new.self
    c.args.thread.index (Some c.args.value) c.pointer_mut.ensures.value c.publish_and_store.ensures in
    let b : ℕ = c.args.thread.bucket in
    let announced : ℕ = c.self.inside.announced.bits in
    let made : ℕ = c.self.inside.made.bits in
    let low : b < 63 = c.args.thread.in_table in
    subst (λ (z : Contents g.row.T.Denot). IsAnnounced (and_bit announced b) made z) (sym changed)
    (IsAnnounced-with_slot (and_bit announced b) made (contents_of s) b c.args.thread.index (Some c.args.value)
    (λ _ out. absurd (false≢true (sym out ∙ bit_added announced b low)))
    (IsAnnounced-announced announced made (contents_of s) b low c.self.invariant))

pub returns-then-flags-thread-ne1 : goal.returns-then-flags-thread-ne1
returns-then-flags-thread-ne1 g c =
    let b = c.args.thread.bucket in
    let i = c.args.thread.index in
    let now = c.args.self.now in
    let word = c.flags-flags.result in
    let none : value_in now b i ≡ None = shows_none (value_in now b i)
    (flag_read (row now b) i word c.flags-flags.ensures.value ∙ ne_eqb (bit_and (word / 2 ^ (i % 64)) 1) 1 c.if-flags-thread-ne1.true) in
    slot_changes c.self.inside.pointers b c.pointer_mut.result.now c.publish_and_store.new.self i (Some c.args.value)
    c.pointer_mut.ensures.value c.publish_and_store.ensures
    ∙ ap (λ (z : Contents g.row.T.Denot). with_slot z b i (Some c.args.value)) (c.self.view_is ∙ c.flags-flags.ensures.same)
    ∙ ap (λ (o : Option g.row.T.Denot). with_slot now b i (Some (unwrap_or o c.args.value))) (sym none)

pub returns-else-flags-thread-ne1 : goal.returns-else-flags-thread-ne1
returns-else-flags-thread-ne1 g c =
    let b = c.args.thread.bucket in
    let i = c.args.thread.index in
    let word = c.flags-flags.result in
    c.flags-flags.ensures.same
    ∙ with_slot-same c.args.self.now b i c.args.value
    (flag_read (row c.args.self.now b) i word c.flags-flags.ensures.value
    ∙ eq-eqb (bit_and (word / 2 ^ (i % 64)) 1) 1 c.if-flags-thread-ne1.false)
