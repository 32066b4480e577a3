use Rattle.std.proofs.Common.{◌≡◌, ◌-◌, ◌/◌, ◌<◌, ◌≤◌, length}
use Rattle.thread_local_base.specs.Buckets.{row}
use Rattle.thread_local_buckets.specs.Cursor.{read_to, IsAt}
use Rattle.thread_local_buckets.proofs.cursor.flags_in_bucket.Given as goal

-- the walk is in the bucket, which stands, and has flags to read
abbrev pub invariant-chunks : goal.invariant-chunks
invariant-chunks g l = record {
  at : IsAt (g.P.FlagSource.contents l.fn.source) l.raw 0;
  inside : l.raw.index < l.raw.bucket_size;
  whole : length (row (g.P.FlagSource.contents l.fn.source) l.raw.bucket) ≡ l.raw.bucket_size;
  ahead : g.P.FlagSource.given l.fn.source ≤ read_to l.raw;
  same : l.source ≡ l.fn.source;
  yielded : l.raw.yielded ≡ l.fn.raw.yielded;
  bucket : l.raw.bucket ≡ l.fn.raw.bucket;
  chunk : l.chunk ≡ l.raw.index / 64;
}

abbrev pub decreases-chunks : goal.decreases-chunks
decreases-chunks g l = l.raw.bucket_size - l.raw.index
