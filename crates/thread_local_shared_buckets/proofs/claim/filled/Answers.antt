-- The search for each of these takes seconds.
use Rattle.std.proofs.Common.{◌≡◌, ◌∙◌, ℕ, ◌+◌, ◌*◌, ◌/◌, ◌%◌, ◌^◌, true, List, Option, None, Some, is_some, length, sym, ap, subst}
use Rattle.std.specs.Prelude.{slice_set}
use Rattle.std.proofs.lemmas.List.{length-set, length-replicate, get_or-set_same}
use Rattle.std.proofs.lemmas.Nat.{pow_pos}
use Rattle.thread_local_buckets.specs.Slots.{empty_slots, slot_value, flag_word_at}
use Rattle.thread_local_shared_buckets.specs.contracts.claim.filled.{T-row}
use Rattle.std.specs.Int.Bits.{or_zero_l}
use Rattle.thread_local_base.specs.Bits.{IsWordBut}
use Rattle.thread_local_base.proofs.Word.{set_bit, place_below, is_set-zero}
use Rattle.thread_local_buckets.proofs.ChunkFlags.{flags_changed}
use Rattle.thread_local_shared_buckets.proofs.BlockLaws.{without, none_where, within}
use Rattle.thread_local_shared_buckets.proofs.claim.filled.Goals as goal

long : {V : Type 0} (cs : List (Option V)) (n : ℕ) → cs ≡ empty_slots n → length cs ≡ n
long {V = V} cs n empty = let none : Option V = None in ap length empty ∙ length-replicate n none

pub lay-requires-clause-null : goal.lay-requires-clause-null
lay-requires-clause-null g c = c.default-pointer.ensures

pub lay-requires-clause-made : goal.lay-requires-clause-made
lay-requires-clause-made g c = let n = 2 ^ c.args.thread.bucket in let cs = c.args.block.slots in (
  c.requires.block.1,
  within cs n 0 (long cs n c.requires.block.0) (pow_pos c.args.thread.bucket),
)

pub publish_and_store-requires-clause-in_block : goal.publish_and_store-requires-clause-in_block
publish_and_store-requires-clause-in_block g c = let n = 2 ^ c.args.thread.bucket in let cs = c.lay.new.self.slots in
    within cs n c.args.thread.index (long cs n (c.lay.ensures ∙ c.requires.block.0)) c.args.thread.in_bucket

pub publish_and_store-requires-clause-flag_word : goal.publish_and_store-requires-clause-flag_word
publish_and_store-requires-clause-flag_word g c = let n = 2 ^ c.args.thread.bucket in
    c.flag_word_of.ensures
    ∙ ap (λ (m : ℕ). flag_word_at (T-row g.row.T) m (c.args.thread.index / 64))
    (sym (long c.lay.new.self.slots n (c.lay.ensures ∙ c.requires.block.0)))

pub publish_and_store-requires-clause-empty : goal.publish_and_store-requires-clause-empty
publish_and_store-requires-clause-empty g c = none_where c.lay.new.self.slots (2 ^ c.args.thread.bucket) c.args.thread.index (c.lay.ensures ∙ c.requires.block.0)

-- the flags were all 0
pub publish_and_store-requires-clause-flags : goal.publish_and_store-requires-clause-flags
publish_and_store-requires-clause-flags g c =
    let n = 2 ^ c.args.thread.bucket in
    let i = c.args.thread.index in
    let cs = c.lay.new.self.slots in
    let word : ℕ = 1 * 2 ^ (i % 64) % 2 ^ 64 in
    let empty = c.lay.ensures ∙ c.requires.block.0 in
    flags_changed cs i (Some c.args.value) 0 word
    (within cs n i (long cs n empty) c.args.thread.in_bucket)
    (λ at near. is_set-zero at ∙ sym (ap is_some (none_where cs n (i / 64 * 64 + at) empty)))
    (subst (λ (w : ℕ). IsWordBut w 0 (i % 64) true) (or_zero_l word) (set_bit 0 (i % 64) (place_below i)))

pub lift-requires : goal.lift-requires
lift-requires g c = let n = 2 ^ c.args.thread.bucket in let cs = c.lay.new.self.slots in
    within c.publish_and_store.new.self.slots n 0
    (ap length c.publish_and_store.ensures ∙ length-set cs c.args.thread.index (Some c.args.value)
    ∙ long cs n (c.lay.ensures ∙ c.requires.block.0))
    (pow_pos c.args.thread.bucket)

pub returns-clause-block : goal.returns-clause-block
returns-clause-block g c = (c.lift.ensures.block.0, c.lift.ensures.block.2)

pub returns-clause-others : goal.returns-clause-others
returns-clause-others g c =
    without c.lift.result.slots (2 ^ c.args.thread.bucket) c.args.thread.index (Some c.args.value)
    (c.lift.ensures.block.1 ∙ c.publish_and_store.ensures
    ∙ ap (λ (cs : List (Option g.row.T.Denot)). slice_set cs c.args.thread.index (Some c.args.value))
    (c.lay.ensures ∙ c.requires.block.0))

pub returns-clause-value : goal.returns-clause-value
returns-clause-value g c =
    let n = 2 ^ c.args.thread.bucket in
    let i = c.args.thread.index in
    let cs = c.lay.new.self.slots in
    ap (λ (ds : List (Option g.row.T.Denot)). slot_value ds i) (c.lift.ensures.block.1 ∙ c.publish_and_store.ensures)
    ∙ get_or-set_same cs i (Some c.args.value) None
    (within cs n i (long cs n (c.lay.ensures ∙ c.requires.block.0)) c.args.thread.in_bucket)
