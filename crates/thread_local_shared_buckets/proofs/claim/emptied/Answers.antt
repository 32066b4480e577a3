-- The search for each of these takes seconds.
use Rattle.std.proofs.Common.{◌∙◌, ℕ, ◌+◌, ◌*◌, ◌/◌, ◌^◌, List, Option, None, is_some, length, sym, ap, subst}
use Rattle.std.specs.Prelude.{IsSome, slice_set}
use Rattle.std.proofs.lemmas.List.{length-set}
use Rattle.std.proofs.lemmas.Nat.{pow_pos}
use Rattle.thread_local_buckets.specs.Slots.{slot_value, flag_word_at}
use Rattle.thread_local_shared_buckets.specs.contracts.claim.emptied.{T-row}
use Rattle.thread_local_base.proofs.Word.{is_set-zero}
use Rattle.thread_local_shared_buckets.proofs.BlockLaws.{long, none_where, within}
use Rattle.thread_local_shared_buckets.proofs.claim.emptied.Goals as goal

pub lay-requires-clause-null : goal.lay-requires-clause-null
lay-requires-clause-null g c = c.default-pointer.ensures

pub lay-requires-clause-made : goal.lay-requires-clause-made
lay-requires-clause-made g c = let n = 2 ^ c.args.thread.bucket in let cs = c.args.block.slots in (
  c.requires.left,
  within cs n 0 (long cs n c.args.thread.index c.requires.others) (pow_pos c.args.thread.bucket),
)

pub take_and_store-value-requires-clause-in_block : goal.take_and_store-value-requires-clause-in_block
take_and_store-value-requires-clause-in_block g c = let n = 2 ^ c.args.thread.bucket in let i = c.args.thread.index in
    within c.lay.new.self.slots n i (ap length c.lay.ensures ∙ long c.args.block.slots n i c.requires.others)
    c.args.thread.in_bucket

pub take_and_store-value-requires-clause-flag_word : goal.take_and_store-value-requires-clause-flag_word
take_and_store-value-requires-clause-flag_word g c = let n = 2 ^ c.args.thread.bucket in let i = c.args.thread.index in
    c.flag_word_of.ensures
    ∙ ap (λ (m : ℕ). flag_word_at (T-row g.row.T) m (i / 64))
    (sym (ap length c.lay.ensures ∙ long c.args.block.slots n i c.requires.others))

pub take_and_store-value-requires-clause-published : goal.take_and_store-value-requires-clause-published
take_and_store-value-requires-clause-published g c =
    subst (λ (cs : List (Option g.row.T.Denot)). IsSome (slot_value cs c.args.thread.index)) (sym c.lay.ensures)
    c.requires.published

-- the slot's flag was the only one
pub take_and_store-value-requires-clause-flags : goal.take_and_store-value-requires-clause-flags
take_and_store-value-requires-clause-flags g c = λ bit near.
    let i = c.args.thread.index in
    let all = ap (λ (cs : List (Option g.row.T.Denot)). slice_set cs i None) c.lay.ensures ∙ c.requires.others in
    is_set-zero bit ∙ sym (ap is_some (none_where (slice_set c.lay.new.self.slots i None) (2 ^ c.args.thread.bucket) (i / 64 * 64 + bit) all))

pub lift-requires : goal.lift-requires
lift-requires g c = let n = 2 ^ c.args.thread.bucket in let i = c.args.thread.index in
    within c.take_and_store-value.new.self.slots n 0
    (ap length c.take_and_store-value.ensures.after ∙ length-set c.lay.new.self.slots i None
    ∙ ap length c.lay.ensures ∙ long c.args.block.slots n i c.requires.others)
    (pow_pos c.args.thread.bucket)

pub returns-clause-value : goal.returns-clause-value
returns-clause-value g c =
    ap (λ (cs : List (Option g.row.T.Denot)). slot_value cs c.args.thread.index) (sym c.lay.ensures)
    ∙ c.take_and_store-value.ensures.value

pub returns-clause-block : goal.returns-clause-block
returns-clause-block g c = (
  c.lift.ensures.block.0,
  c.lift.ensures.block.1 ∙ c.take_and_store-value.ensures.after
      ∙ ap (λ (cs : List (Option g.row.T.Denot)). slice_set cs c.args.thread.index None) c.lay.ensures
      ∙ c.requires.others,
  c.lift.ensures.block.2,
)
