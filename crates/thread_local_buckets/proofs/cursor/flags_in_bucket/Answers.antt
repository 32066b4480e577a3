-- The search for these takes seconds.
use Rattle.std.proofs.Common.{◌≡◌, ℕ, ◌+◌, ◌-◌, ◌*◌, ◌/◌, ◌<◌, ◌≤◌, is_some, length, refl, sym, ap, ◌∙◌, subst, arith}
use Rattle.thread_local_base.specs.Bits.{is_set}
use Rattle.thread_local_base.specs.Place.{id_at}
use Rattle.thread_local_base.specs.Rows.{value_in}
use Rattle.thread_local_base.specs.Buckets.{Contents, row, values}
use Rattle.thread_local_base.specs.Owner.{NoneBelow}
use Rattle.thread_local_base.proofs.TakingLaws.{NoneBelow-absent}
use Rattle.thread_local_buckets.specs.Cursor.{behind_next, read_to, IsAt}
use Rattle.thread_local_buckets.specs.Slots.{flag_word_at}
use Rattle.thread_local_buckets.specs.contracts.chunk.flag_word_at.{T-row}
use Rattle.thread_local_buckets.specs.declared.cursor.RawIter.{RawIter}
use Rattle.thread_local_buckets.proofs.FlagLaws.{behind_chunk, none_to_next}
use Rattle.thread_local_buckets.proofs.cursor.flags_in_bucket.Goals as goal
use Rattle.thread_local_buckets.proofs.cursor.flags_in_bucket.Goals.{After-flags-flags, then-flags-ne0-via-then-flags-ne0, then-flags-ne0-via-else-flags-ne0+then-raw}

-- behind a chunk whose flags were read, of contents that stay
has_read : {V : Type 0} (c d : Contents V) (raw : RawIter) (chunk word : ℕ) → d ≡ c → IsAt c raw 0 → raw.index < raw.bucket_size
    → length (row c raw.bucket) ≡ raw.bucket_size → chunk ≡ raw.index / 64
    → ((bit : ℕ) → bit < 64 → is_set word bit ≡ is_some (value_in d raw.bucket (chunk * 64 + bit)))
    → IsAt c (behind_next raw) word
has_read c d raw chunk word same at inside whole here flags =
    let Flags = λ (w : Contents _) (k : ℕ). (bit : ℕ) → bit < 64 → is_set word bit ≡ is_some (value_in w raw.bucket (k * 64 + bit)) in
    behind_chunk c raw word at inside whole
    (subst (λ (w : Contents _). Flags w (raw.index / 64)) same (subst (Flags d) here flags))

-- a bucket of which all flags are read and the last are 0 has no further value
none_left : {V : Type 0} (c : Contents V) (raw : RawIter) (word bucket : ℕ) → IsAt c raw word → word ≡ 0 → raw.bucket ≡ bucket
    → raw.bucket_size ≤ raw.index
    → NoneBelow (values c) (id_at (bucket + 1) 0)
none_left c raw word bucket at none same past =
    subst (λ (b : ℕ). NoneBelow (values c) (id_at (b + 1) 0)) same
    (none_to_next c raw (subst (λ (n : ℕ). IsAt c raw n) none at) past)

-- a walk doesn't go back
still_ahead : (given : ℕ) (raw : RawIter) → given ≤ read_to raw → given ≤ read_to (behind_next raw)
still_ahead given raw ahead =
    let on : read_to raw ≤ read_to (behind_next raw) = omega arith in omega (arith, ahead, on)

pub returns-then-not-stands : goal.returns-then-not-stands
returns-then-not-stands g c = record {
  same = c.stands.ensures.same;
  at = c.requires.at;
  ahead = c.requires.ahead;
  yielded = refl;
  bucket = refl;
  behind = λ _. NoneBelow-absent (g.P.FlagSource.contents c.args.source.now) c.args.raw.now.bucket (c.args.raw.now.index - 64)
      c.requires.at.behind (c.stands.ensures.absent c.if-not-stands.true);
  chunk = λ some. absurd (some refl);
}

pub chunks-init : goal.chunks-init
chunks-init g c = record {
  at = c.requires.at;
  inside = c.requires.inside;
  whole = c.stands.ensures.whole c.if-not-stands.false ∙ sym c.requires.at.size;
  ahead = c.requires.ahead;
  same = c.stands.ensures.same;
  yielded = refl;
  bucket = refl;
  chunk = refl;
}

pub flags-flags-requires : goal.flags-flags-requires
flags-flags-requires g c =
    let kept = c.chunks.invariant in
    let raw = c.chunks.raw in
    let first : ℕ = c.chunks.chunk * 64 in
    record {
      in_table = kept.at.in_table;
      flag_word = c.flag_word_at-flag_word.ensures ∙ ap (λ (n : ℕ). flag_word_at (T-row g.row.P-Value) n c.chunks.chunk) kept.at.size;
      in_bucket = subst (λ (l : g.row.P.Denot). first < length (row (g.P.FlagSource.contents l) raw.bucket)) (sym kept.same)
          (omega (arith, kept.whole, kept.inside, kept.chunk));
      ahead = subst (λ (l : g.row.P.Denot). g.P.FlagSource.given l ≤ id_at raw.bucket first) (sym kept.same)
          (omega (arith, kept.ahead, kept.inside, kept.at.round, kept.chunk));
    }

-- the flags that are read, of the contents as they came
read : (g : _) (c : After-flags-flags g)
    → IsAt (g.P.FlagSource.contents c.args.source.now) (behind_next c.chunks.raw) c.flags-flags.result
read g c =
    let kept = c.chunks.invariant in
    has_read (g.P.FlagSource.contents c.args.source.now) (g.P.FlagSource.contents c.chunks.source) c.chunks.raw
    c.chunks.chunk c.flags-flags.result (ap (λ (l : g.row.P.Denot). g.P.FlagSource.contents l) kept.same) kept.at kept.inside
    kept.whole kept.chunk c.flags-flags.ensures.value

pub returns-then-flags-ne0 : goal.returns-then-flags-ne0
returns-then-flags-ne0 g c =
    let kept = c.chunks.invariant in
    record {
      same = c.flags-flags.ensures.same ∙ kept.same;
      at = read g (goal.at.returns-then-flags-ne0 g c).After-flags-flags;
      ahead = still_ahead (g.P.FlagSource.given c.args.source.now) c.chunks.raw kept.ahead;
      yielded = kept.yielded;
      bucket = kept.bucket;
      behind = λ none. elim c.then-flags-ne0.branch [
        | then-flags-ne0-via-then-flags-ne0 w ↦ absurd (w.if-flags-ne0.true none)
        | then-flags-ne0-via-else-flags-ne0+then-raw w ↦
            none_left (g.P.FlagSource.contents c.args.source.now) (behind_next c.chunks.raw) c.flags-flags.result
            c.args.raw.now.bucket (read g (goal.at.returns-then-flags-ne0 g c).After-flags-flags) none kept.bucket w.if-raw.true
      ];
      chunk = λ _. omega (arith, kept.chunk);
    }

pub chunks-preserved : goal.chunks-preserved
chunks-preserved g c =
    let kept = c.chunks.invariant in
    record {
      at = subst (λ (n : ℕ). IsAt (g.P.FlagSource.contents c.args.source.now) (behind_next c.chunks.raw) n) c.if-flags-ne0.false
          (read g (goal.at.chunks-preserved g c).After-flags-flags);
      inside = c.if-raw.false;
      whole = kept.whole;
      ahead = still_ahead (g.P.FlagSource.given c.args.source.now) c.chunks.raw kept.ahead;
      same = c.flags-flags.ensures.same ∙ kept.same;
      yielded = kept.yielded;
      bucket = kept.bucket;
      chunk = omega (arith, kept.chunk);
    }
