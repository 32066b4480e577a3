use Rattle.std.proofs.Common.{◌≡◌, ◌≢◌, ◌-◌, ◌/◌, ◌^◌, ◌<◌}
use Rattle.thread_local_buckets.proofs.Passing.{IsReading}
use Rattle.thread_local_buckets.proofs.cursor.OwnerCursor.read_on.Given as goal

-- these are the flags that the walk read last
abbrev pub invariant-buckets : goal.invariant-buckets
invariant-buckets g l = record {
  read : IsReading (g.P.FlagSource.contents l.fn.source) l.left (g.P.FlagSource.given l.fn.source) l.raw l.flags;
  fits : l.flags < 2 ^ 64;
  same : l.source ≡ l.fn.source;
  yielded : l.raw.yielded ≡ l.fn.self.raw.yielded;
  chunk : l.flags ≢ 0 → l.chunk ≡ (l.raw.index - 64) / 64;
}

abbrev pub decreases-buckets : goal.decreases-buckets
decreases-buckets g l = 63 - l.raw.bucket
