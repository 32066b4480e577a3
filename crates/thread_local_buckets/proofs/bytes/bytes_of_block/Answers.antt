use Rattle.std.proofs.Common.{◌≡◌, ◌∙◌}
use Rattle.thread_local_buckets.specs.Slots.{chunks}
use Rattle.thread_local_buckets.specs.contracts.bytes.bytes_of_block.{T-row}
use Rattle.thread_local_buckets.proofs.Flags.{chunks_counted}
use Rattle.thread_local_buckets.proofs.Rounding.{bytes_counted}
use Rattle.thread_local_buckets.proofs.bytes.bytes_of_block.Goals as goal

pub returns : goal.returns
returns g c =
    let count : c.div_ceil.result ≡ chunks c.args.len = c.div_ceil.ensures ∙ chunks_counted c.args.len in
    rw (c.flag_word_at.ensures, count, c.block_align-align.ensures) (bytes_counted (T-row g.row.T) c.args.len)
