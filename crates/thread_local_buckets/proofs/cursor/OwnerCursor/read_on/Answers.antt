-- The walk goes from one announced bucket to the next until it finds flags that aren't 0. The search for these takes seconds.
use Rattle.std.proofs.Common.{◌≡◌, ◌+◌, ◌-◌, ◌/◌, ◌^◌, ◌<◌, ◌≤◌, ℕ, false, length, ap, sym, ◌∙◌, subst, arith, pow_mono, ⊎_elim}
use Rattle.std.proofs.lemmas.Bool.{cases_lt}
use Rattle.std.proofs.lemmas.Nat.{pow_pos}
use Rattle.thread_local_base.specs.Bits.{IsLowestSet, IsWordBut}
use Rattle.thread_local_base.specs.Place.{id_at}
use Rattle.thread_local_base.specs.Buckets.{Contents, values}
use Rattle.thread_local_base.specs.Owner.{NoneBelow}
use Rattle.thread_local_base.specs.Walk.{walk}
use Rattle.thread_local_base.proofs.TakingLaws.{walk-met, id_at-next}
use Rattle.thread_local_buckets.specs.Announced.{AreAhead, HasNone}
use Rattle.thread_local_buckets.specs.Cursor.{read_to, IsAt}
use Rattle.thread_local_buckets.specs.declared.cursor.RawIter.{RawIter}
use Rattle.thread_local_buckets.proofs.FlagLaws.{at_start, none_to_next}
use Rattle.thread_local_buckets.proofs.NextValue.{flags_few, reads_on}
use Rattle.thread_local_buckets.proofs.Passing.{IsReading, takes, none_ahead, NoneBelow-passed}
use Rattle.thread_local_buckets.proofs.cursor.OwnerCursor.read_on.Goals as goal
use Rattle.thread_local_buckets.proofs.cursor.OwnerCursor.read_on.Goals.{then-raw, else-raw}

-- the walk is at the first slot of a bucket, and no value stands before it
record IsOn {V : Type 0} (contents : Contents V) (left given : ℕ) (raw : RawIter) : Type 0 where
  at : IsAt contents raw 0
  announced : AreAhead (HasNone contents) left (raw.bucket + 1)
  ahead : given ≤ read_to raw

module _ {V : Type 0} (c : Contents V) (left given : ℕ) (raw : RawIter) (word : ℕ) (read : IsReading c left given raw word)
    (nothing : word ≡ 0) where
  -- where a value is left, a bucket is
  some_left : (count : ℕ) → 0 < count → count ≡ length (walk (values c)) → 0 < left
  some_left count some counted =
      let low = read.at.in_table in
      ⊎_elim
      (λ (out : left < 1).
      let end = NoneBelow-passed c (raw.bucket + 1) 63 (omega arith) (read.none nothing)
      (λ k after near. none_ahead (HasNone c) left (raw.bucket + 1) read.announced (omega arith) k after near) in
      absurd (omega (arith, some, counted, walk-met c 63 0 (omega arith) end)))
      (λ (more : 1 ≤ left). more)
      (cases_lt left 1)

  -- the walk goes to the bucket that it took out of the word
  is_on : (rest b size : ℕ) → IsLowestSet left b → IsWordBut rest left b false → size ≡ 2 ^ b
      → IsOn c rest given (record { yielded = raw.yielded; bucket = b; bucket_size = size; index = 0 })
  is_on rest b size low but is =
      let taken = takes (HasNone c) left rest (raw.bucket + 1) b read.announced low but in
      let up : 2 ^ (raw.bucket + 1) ≤ 2 ^ b = pow_mono taken.after in
      let whole = read.at.size in
      let ahead = read.ahead in
      let next = id_at-next raw.bucket in
      let P : ℕ → Type 0 = λ s. IsOn c rest given (record { yielded = raw.yielded; bucket = b; bucket_size = s; index = 0 }) in
      subst P (sym is) record {
        at = at_start c raw b taken.in_table
            (NoneBelow-passed c (raw.bucket + 1) b taken.after (read.none nothing) taken.passed);
        announced = taken.ahead;
        ahead = omega (arith, up, ahead, whole, next);
      }

-- the walk has read flags of the bucket that it is in
has_read : {V : Type 0} (c : Contents V) (left given bucket : ℕ) (raw : RawIter) (word : ℕ) → AreAhead (HasNone c) left (bucket + 1)
    → IsAt c raw word → given ≤ read_to raw → raw.bucket ≡ bucket
    → (word ≡ 0 → NoneBelow (values c) (id_at (bucket + 1) 0))
    → IsReading c left given raw word
has_read c left given bucket raw word announced at ahead same behind = record {
  at = at;
  ahead = ahead;
  announced = subst (λ (b : ℕ). AreAhead (HasNone c) left (b + 1)) (sym same) announced;
  none = λ none. subst (λ (b : ℕ). NoneBelow (values c) (id_at (b + 1) 0)) (sym same) (behind none);
}

pub flags_in_bucket-flags-requires : goal.flags_in_bucket-flags-requires
flags_in_bucket-flags-requires g c = record {
  at = subst (λ (n : ℕ). IsAt (g.P.FlagSource.contents c.args.source.now) c.args.self.now.raw n) c.requires.passed c.requires.may_read.walk.at;
  inside = c.if-raw.true;
  ahead = c.requires.may_read.ahead;
}

pub buckets-init : goal.buckets-init
buckets-init g c =
    let contents = g.P.FlagSource.contents c.args.source.now in
    let given = g.P.FlagSource.given c.args.source.now in
    let raw = c.args.self.now.raw in
    let may = c.requires.may_read in
    let at : IsAt contents raw 0 = subst (λ (n : ℕ). IsAt contents raw n) c.requires.passed may.walk.at in
    elim c.if-raw.branch [
      | then-raw w ↦
          let looked = w.flags_in_bucket-flags in
          let done = looked.ensures in
          let read : IsReading contents c.args.self.now.left given looked.new.raw looked.result =
          has_read contents c.args.self.now.left given raw.bucket looked.new.raw looked.result may.walk.announced
          done.at done.ahead done.bucket done.behind in
          record {
            read = subst (λ (r : RawIter). IsReading contents c.args.self.now.left given r c.if-raw.flags) (sym w.raw-is)
                (subst (λ (n : ℕ). IsReading contents c.args.self.now.left given looked.new.raw n) (sym w.flags-is) read);
            same = w.source-is ∙ done.same;
            fits = subst (λ (n : ℕ). n < 2 ^ 64) (sym w.flags-is) looked.type_inv;
            yielded = ap (λ (r : RawIter). r.yielded) w.raw-is ∙ done.yielded;
            chunk = λ some. w.chunk-is ∙ done.chunk (λ none. some (w.flags-is ∙ none))
                ∙ ap (λ (r : RawIter). (r.index - 64) / 64) (sym w.raw-is);
          }
      | else-raw w ↦
          let read : IsReading contents c.args.self.now.left given raw 0 = record {
            at = at;
            ahead = may.ahead;
            announced = may.walk.announced;
            none = λ _. none_to_next contents raw at w.if-raw.false;
          } in
          record {
            read = subst (λ (r : RawIter). IsReading contents c.args.self.now.left given r c.if-raw.flags) (sym w.raw-is)
                (subst (λ (n : ℕ). IsReading contents c.args.self.now.left given raw n) (sym w.flags-is) read);
            same = w.source-is;
            fits = omega (arith, w.flags-is);
            yielded = ap (λ (r : RawIter). r.yielded) w.raw-is;
            chunk = λ some. absurd (some w.flags-is);
          }
    ]

pub take_first_bucket-bucket-requires : goal.take_first_bucket-bucket-requires
take_first_bucket-bucket-requires g c =
    some_left (g.P.FlagSource.contents c.args.source.now) c.buckets.left (g.P.FlagSource.given c.args.source.now) c.buckets.raw
    c.buckets.flags c.buckets.invariant.read c.buckets-test.true _ c.requires.may_read.some c.requires.may_read.walk.counted

pub flags_in_bucket-flags-requires-in-buckets : goal.flags_in_bucket-flags-requires-in-buckets
flags_in_bucket-flags-requires-in-buckets g c =
    let kept = c.buckets.invariant in
    let first = c.take_first_bucket-bucket in
    let raw : RawIter = record { yielded = c.buckets.raw.yielded; bucket = first.result.0; bucket_size = first.result.1; index = 0 } in
    let on =
    is_on (g.P.FlagSource.contents c.args.source.now) c.buckets.left (g.P.FlagSource.given c.args.source.now) c.buckets.raw
    c.buckets.flags kept.read c.buckets-test.true first.new.left first.result.0 first.result.1
    first.ensures.first first.ensures.rest first.ensures.size in
    record {
      at = subst (λ (l : g.row.P.Denot). IsAt (g.P.FlagSource.contents l) raw 0) (sym kept.same) on.at;
      inside = subst (λ (n : ℕ). 0 < n) (sym first.ensures.size) (pow_pos first.result.0);
      ahead = subst (λ (l : g.row.P.Denot). g.P.FlagSource.given l ≤ read_to raw) (sym kept.same) on.ahead;
    }

pub buckets-smaller : goal.buckets-smaller
buckets-smaller g c =
    let first = c.take_first_bucket-bucket in
    let looked = c.flags_in_bucket-flags-in-buckets in
    let kept = c.buckets.invariant in
    let taken =
    takes (HasNone (g.P.FlagSource.contents c.args.source.now)) c.buckets.left first.new.left (c.buckets.raw.bucket + 1) first.result.0
    kept.read.announced first.ensures.first first.ensures.rest in
    omega (arith, taken.after, taken.in_table, looked.ensures.bucket)

pub buckets-preserved : goal.buckets-preserved
buckets-preserved g c =
    let contents = g.P.FlagSource.contents c.args.source.now in
    let given = g.P.FlagSource.given c.args.source.now in
    let kept = c.buckets.invariant in
    let first = c.take_first_bucket-bucket in
    let looked = c.flags_in_bucket-flags-in-buckets in
    let on =
    is_on contents c.buckets.left given c.buckets.raw c.buckets.flags kept.read c.buckets-test.true first.new.left
    first.result.0 first.result.1 first.ensures.first first.ensures.rest first.ensures.size in
    record {
      read = has_read contents first.new.left given first.result.0 looked.new.raw looked.result on.announced
          (subst (λ (l : g.row.P.Denot). IsAt (g.P.FlagSource.contents l) looked.new.raw looked.result) kept.same looked.ensures.at)
          (subst (λ (l : g.row.P.Denot). g.P.FlagSource.given l ≤ read_to looked.new.raw) kept.same looked.ensures.ahead)
          looked.ensures.bucket
          (subst (λ (l : g.row.P.Denot). looked.result ≡ 0
          → NoneBelow (values (g.P.FlagSource.contents l)) (id_at (first.result.0 + 1) 0))
          kept.same looked.ensures.behind);
      same = looked.ensures.same ∙ kept.same;
      fits = looked.type_inv;
      yielded = looked.ensures.yielded ∙ kept.yielded;
      chunk = looked.ensures.chunk;
    }

pub overflow_add-raw : goal.overflow_add-raw
overflow_add-raw g c =
    let kept = c.buckets.invariant in
    let walk = c.requires.may_read.walk in
    let few =
    flags_few (g.P.FlagSource.contents c.args.source.now) c.args.self.now c.buckets.raw c.buckets.flags walk c.requires.passed
    kept.fits kept.read.at in
    record { fits = omega (arith, few, walk.fits, kept.yielded) }

pub overflow_sub-self : goal.overflow_sub-self
overflow_sub-self g c =
    let kept = c.buckets.invariant in
    flags_few (g.P.FlagSource.contents c.args.source.now) c.args.self.now c.buckets.raw c.buckets.flags
    c.requires.may_read.walk c.requires.passed kept.fits kept.read.at

pub returns-clause-same : goal.returns-clause-same
returns-clause-same g c = c.buckets.invariant.same

pub returns-clause-read : goal.returns-clause-read
returns-clause-read g c =
    let kept = c.buckets.invariant in
    let on =
    reads_on (g.P.FlagSource.contents c.args.source.now) c.args.self.now c.buckets.raw c.buckets.flags c.buckets.chunk
    c.buckets.left c.requires.may_read.walk c.requires.passed kept.fits kept.read.at (kept.chunk c.buckets-test.false)
    kept.read.announced kept.yielded in
    record { walk = on.0; ahead = kept.read.ahead; some = omega (arith, c.buckets-test.false); left = on.1 }
