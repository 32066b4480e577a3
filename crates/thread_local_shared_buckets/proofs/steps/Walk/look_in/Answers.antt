-- The search for these takes seconds.
use Rattle.thread_local_ids.specs.TokenViews.{TokenView}
use Rattle.thread_local_ids.specs.TokenLists.{NoneIn}
use Rattle.thread_local_shared_buckets.specs.AtHand.{IsRowOf, IsWalk, LooksIn}
use Rattle.thread_local_shared_buckets.specs.Shared.{BucketView}
use Rattle.thread_local_shared_buckets.specs.Announcing.{Announcing}
use Rattle.thread_local_shared_buckets.specs.TableView.{TableView, bucket_view}
use Rattle.thread_local_shared_buckets.specs.declared.row.Row.{Row}
use Rattle.thread_local_shared_buckets.specs.declared.seen.Seen.{Seen}
use Rattle.thread_local_shared_buckets.specs.declared.steps.Own.{Own}
use Rattle.thread_local_shared_buckets.specs.declared.steps.Walk.{Walk}
use Rattle.thread_local_shared_buckets.proofs.Findings.{FindsTokens, HasLookedOn, LiesOutside, MarksOwn, own_index}
use Rattle.std.proofs.Common.{◌≡◌, ◌∙◌, ◌<◌, ◌≤◌, ◌*◌, ◌^◌, ◌+◌, ◌/◌, ◌%◌, ℕ, List, Option, None, Some, IfSome}
use Rattle.std.proofs.Common.{subst, sym, ap, refl, arith, bit_or, get_or, w64, Fits, pow_mono}
use denote.Param.{param}
use Rattle.thread_local_buckets.specs.Slots.{flag_word_at}
use Rattle.thread_local_shared_buckets.proofs.Lists.{listed_bucket}
use Rattle.thread_local_shared_buckets.proofs.OwnFlagLaws.{none_in_chunk, none_further, keeps_set, Counts, counts_here, counts_there}
use Rattle.thread_local_shared_buckets.proofs.OwnFlagLaws.{alone_own, alone_none}
use Rattle.thread_local_shared_buckets.proofs.LookLaws.{looked_on, read_at}
use Rattle.thread_local_shared_buckets.proofs.OwnLaws.{index_of_own, index_outside}
use Rattle.thread_local_shared_buckets.proofs.ToldLaws.{NoneBefore, none_next, found_at, none_found, none_there}
use Rattle.thread_local_shared_buckets.proofs.steps.Walk.look_in.Goals as goal
use Rattle.thread_local_shared_buckets.proofs.steps.Walk.look_in.Goals.{Joined-walk, Joined-walk-2, Joined-chunk-own_chunk}
use Rattle.thread_local_shared_buckets.proofs.steps.Walk.look_in.Goals.{in-None, in_default}
use Rattle.thread_local_shared_buckets.proofs.steps.Walk.look_in.Goals.{in-Some+then-own-walk, in-Some+else-own-walk, in_default-own}
use Rattle.thread_local_shared_buckets.proofs.steps.Walk.look_in.Goals.{then-chunk-own_chunk, else-chunk-own_chunk}
use Rattle.thread_local_shared_buckets.proofs.steps.Walk.look_in.Goals.{in-Some-row+else-loop-chunk-test, in_default-row}

module _ {V : Type 0} where
  -- the walk has the bucket's row at hand, or has found none
  record Loaded (w met : Walk V) : Type 0 where
    pub row : Option (Row V)
    pub is : met ≡ record w { row = row }
    pub of : IfSome row (IsRowOf w.buckets.now.sharing w.raw.bucket)
    pub absent : row ≡ None → NoneIn w.buckets.now.sharing w.raw.bucket w.told

  of_bucket : (s : TableView) (w : Announcing) (bucket : ℕ) (d : BucketView) (row : Option (Row V)) → d ≡ bucket_view s w bucket
      → IfSome row (λ r. r.of ≡ d) → IfSome row (IsRowOf s.sharing bucket)
  of_bucket s w bucket d None is of = tt
  of_bucket s w bucket d (Some r) is of =
      (ap (λ (b : BucketView). b.bucket) (of ∙ is), ap (λ (b : BucketView). b.sharing) (of ∙ is))

  -- the index of the own slot, if it lies in the walk's bucket
  abbrev own_here : Walk V → Option ℕ
  own_here w = own_index w.own w.raw.bucket

  looked : (w met : Walk V) → Loaded w met → (x : Option (Seen V) × ℕ × ℕ) → IsWalk w → w.rest ≡ 0 → w.raw.bucket < 63
      → HasLookedOn met.row (own_here w) met.chunks x
      → FindsTokens met.row met.chunks met.told x
      → LooksIn w (record met { seen = x.0; chunks = x.1; rest = x.2 })
  looked w met loaded x walk none low =
      subst (λ (t : Walk V).
      HasLookedOn t.row (own_here w) t.chunks x
      → FindsTokens t.row t.chunks t.told x
      → LooksIn w (record t { seen = x.0; chunks = x.1; rest = x.2 })) (sym loaded.is)
      (λ looks finds. looked_on w loaded.row (own_here w) x walk none low loaded.of refl looks finds loaded.absent)

  -- the row that is at hand is that of the walk's bucket
  row_of : (w met : Walk V) (r : Row V) → Loaded w met → met.row ≡ Some r → IsRowOf w.buckets.now.sharing w.raw.bucket r
  row_of w met r loaded is =
      subst (λ (row : Option (Row V)). IfSome row (IsRowOf w.buckets.now.sharing w.raw.bucket))
      (ap (λ (t : Walk V). t.row) (sym loaded.is) ∙ is) loaded.of

  -- the bucket's size is that of the row that is at hand
  sized : (w met : Walk V) (r : Row V) → Loaded w met → w.raw.bucket_size ≡ 2 ^ w.raw.bucket → met.row ≡ Some r
      → met.raw.bucket_size ≡ 2 ^ r.of.bucket
  sized w met r loaded size is =
      ap (λ (t : Walk V). t.raw.bucket_size) loaded.is ∙ size ∙ ap (λ (k : ℕ). 2 ^ k) (sym (row_of w met r loaded is).0)

-- a bucket's size with the 63 that round up to whole chunks fits a word
rounds_up : (size b : ℕ) → b < 63 → size ≡ 2 ^ b → Fits w64 (size + 63)
rounds_up size b low is = let few : 2 ^ b ≤ 2 ^ 62 = pow_mono {j = 62} (omega arith) in omega arith

-- a chunk before the end lies in the bucket, and its number fits
chunk_inside : (chunk size b : ℕ) → size ≡ 2 ^ b → chunk < (size + 63) / 64 → chunk * 64 < 2 ^ b
chunk_inside chunk size b is low = omega arith

next_fits : (chunk size b : ℕ) → b < 63 → size ≡ 2 ^ b → chunk < (size + 63) / 64 → Fits w64 (chunk + 1)
next_fits chunk size b small is low = let few : 2 ^ b ≤ 2 ^ 62 = pow_mono {j = 62} (omega arith) in omega arith

-- a bit's place in its word
in_word : (i : ℕ) → i % 64 < 64
in_word i = omega arith

-- before the first look no chunk was seen
none_between : {V : Type 0} (own : Option ℕ) (r : Row V) (from : ℕ) (tokens : List (TokenView V))
    → (from ≤ from) × ((k : ℕ) → from ≤ k → k < from → LiesOutside own k) × NoneBefore r from from tokens
none_between own r from tokens = (omega arith, (λ k low high. absurd (omega arith)), λ named k d near same i under at later. later)

-- what the walk has at hand of the bucket's pointer
loaded : (g : _) (c : Joined-walk g) → Loaded c.args.self.now c.match-self.self
loaded g c =
    let w = c.args.self.now in
    elim c.match-self.branch [
      | in-None x ↦
          let parts = x.behind-walk.inside in
          let here =
          listed_bucket parts.pointers.pointers.pointers parts.pointers.announced parts.reserved w.raw.bucket x.index-pointers-walk.result
          w.buckets.now x.behind-walk.told c.requires.in_table x.behind-walk.invariant.0 (x.behind-walk.view_is ∙ x.parts.ensures) in
          (record {
            row = x.load-self.result;
            is = x.self-is;
            of =
                of_bucket w.buckets.now parts.pointers.announced w.raw.bucket
                (get_or parts.pointers.pointers.pointers w.raw.bucket x.index-pointers-walk.result) x.load-self.result here
                x.load-self.ensures.of;
            absent = λ none.
                subst (λ (b : BucketView). NoneIn b.sharing b.bucket w.told) here (x.load-self.ensures.told none);
          })
      | in_default x ↦
          (record { row = w.row; is = x.self-is; of = c.requires.walk.row; absent = λ none. absurd (x.in_default.not-None none) })
    ]

-- the chunk and the flag of the own slot, if it lies in the bucket
marks : (g : _) (c : Joined-walk g) → MarksOwn (own_here c.args.self.now) c.match-walk.own_chunk c.match-walk.own_flag
marks g c =
    let w = c.match-self.self in
    let chunk = c.match-walk.own_chunk in
    let flag = c.match-walk.own_flag in
    subst (λ (o : Option ℕ). MarksOwn o chunk flag) (ap own_here (loaded g c).is)
    (elim c.match-walk.branch [
      | in-Some+then-own-walk x ↦
          subst (λ (o : Option ℕ). MarksOwn o chunk flag)
          (sym (ap (λ (own : Option (Own _)). own_index own w.raw.bucket) x.in-Some.is ∙ index_of_own x.in-Some.own w.raw.bucket x.if-own-walk.true))
          (x.own_chunk-is, x.own_flag-is)
      | in-Some+else-own-walk x ↦
          subst (λ (o : Option ℕ). MarksOwn o chunk flag)
          (sym (ap (λ (own : Option (Own _)). own_index own w.raw.bucket) x.in-Some.is ∙ index_outside x.in-Some.own w.raw.bucket x.if-own-walk.false))
          x.own_flag-is
      | in_default-own x ↦
          subst (λ (own : Option (Own _)). MarksOwn (own_index own w.raw.bucket) chunk flag) (sym x.in_default-own.is) x.own_flag-is
    ])

-- the row at hand is that of the walk's bucket, whose size the walk keeps
at_row : (g : _) (c : Joined-walk g) (r : Row _) → c.match-self.self.row ≡ Some r
    → (r.of.bucket < 63) × (c.match-self.self.raw.bucket_size ≡ 2 ^ r.of.bucket)
at_row g c r is =
    let at = loaded g c in (
      subst (λ (b : ℕ). b < 63) (sym (row_of c.args.self.now c.match-self.self r at is).0) c.requires.in_table,
      sized c.args.self.now c.match-self.self r at c.requires.walk.walk.size is,
    )

pub overflow_shl-own_flag : goal.overflow_shl-own_flag
overflow_shl-own_flag g c = in_word c.in-Some.own.thread.index

pub overflow_add-chunk-end : goal.overflow_add-chunk-end
overflow_add-chunk-end g c =
    let row = at_row g (goal.at.overflow_add-chunk-end g c).Joined-walk c.in-Some-row.row c.in-Some-row.is in
    rounds_up c.match-self.self.raw.bucket_size c.in-Some-row.row.of.bucket row.0 row.1

pub loop-chunk-init : goal.loop-chunk-init
loop-chunk-init g c =
    let none = none_between (own_here c.args.self.now) c.in-Some-row.row c.match-self.self.chunks c.match-self.self.told in
    record { later = none.0; none_before = none.1; none_told = none.2 }

pub look-seen-requires-clause-shareable : goal.look-seen-requires-clause-shareable
look-seen-requires-clause-shareable g c = c.requires.shareable

pub look-seen-requires-clause-in_table : goal.look-seen-requires-clause-in_table
look-seen-requires-clause-in_table g c =
    (at_row g (goal.at.look-seen-requires-clause-in_table g c).Joined-walk c.in-Some-row.row c.in-Some-row.is).0

pub look-seen-requires-clause-inside : goal.look-seen-requires-clause-inside
look-seen-requires-clause-inside g c =
    let row = at_row g (goal.at.look-seen-requires-clause-inside g c).Joined-walk c.in-Some-row.row c.in-Some-row.is in
    chunk_inside c.loop-chunk.chunk c.match-self.self.raw.bucket_size c.in-Some-row.row.of.bucket row.1 c.loop-chunk-test.true

pub look-seen-requires-clause-flag_word : goal.look-seen-requires-clause-flag_word
look-seen-requires-clause-flag_word g c =
    let row = at_row g (goal.at.look-seen-requires-clause-flag_word g c).Joined-walk c.in-Some-row.row c.in-Some-row.is in
    subst (λ (n : ℕ). c.flag_word_at.result ≡ flag_word_at (param 0 g.row.T) n c.loop-chunk.chunk) row.1 c.flag_word_at.ensures

pub overflow_add-self : goal.overflow_add-self
overflow_add-self g c =
    let row = at_row g (goal.at.overflow_add-self g c).Joined-walk c.in-Some-row.row c.in-Some-row.is in
    next_fits c.loop-chunk.chunk c.match-self.self.raw.bucket_size c.in-Some-row.row.of.bucket row.0 row.1 c.loop-chunk-test.true

-- the flags that the walk takes are those that the look saw, and that of the own slot if it lies in the chunk
counted : (g : _) (c : Joined-chunk-own_chunk g) → MarksOwn (own_here c.args.self.now) c.match-walk.own_chunk c.match-walk.own_flag
    → Counts (own_here c.args.self.now) c.loop-chunk.chunk c.look-seen.result.flags c.if-chunk-own_chunk.flags
counted g c marks =
    let own = own_here c.args.self.now in
    let at = c.match-walk in
    let chunk = c.loop-chunk.chunk in
    let set = c.look-seen.result.flags in
    let flags = c.if-chunk-own_chunk.flags in
    elim c.if-chunk-own_chunk.branch [
      | then-chunk-own_chunk w ↦
          counts_here own at.own_chunk at.own_flag chunk set flags marks w.if-chunk-own_chunk.true
          (w.flags-is ∙ ap (λ (n : ℕ). bit_or n at.own_flag) c.flags-set.ensures)
      | else-chunk-own_chunk w ↦
          counts_there own at.own_chunk at.own_flag chunk set flags marks w.if-chunk-own_chunk.false (w.flags-is ∙ c.flags-set.ensures)
    ]

pub returns-then-flags-ne0 : goal.returns-then-flags-ne0
returns-then-flags-ne0 g c =
    let here = goal.at.returns-then-flags-ne0 g c in
    let taken = counted g here.Joined-chunk-own_chunk (marks g here.Joined-walk) in
    let kept = c.loop-chunk.invariant in
    let look = c.look-seen.ensures in
    let w = c.match-self.self in
    let own = own_here c.args.self.now in
    let chunk = c.loop-chunk.chunk in
    let set = c.look-seen.result.flags in
    let flags = c.if-chunk-own_chunk.flags in
    looked c.args.self.now w (loaded g here.Joined-walk) (Some c.look-seen.result, chunk + 1, flags) c.requires.walk c.requires.passed
    c.requires.in_table
    (read_at w.row c.in-Some-row.row own w.chunks chunk set flags c.look-seen.result c.in-Some-row.is look.of.0 look.of.2 refl
    kept.later look.inside kept.none_before taken.adds taken.other c.if-flags-ne0.true)
    (found_at w.row c.in-Some-row.row c.look-seen.result w.chunks chunk set flags w.told c.in-Some-row.is
    kept.none_told look.told (λ bit small. keeps_set own chunk set flags bit taken.adds taken.other small))

pub loop-chunk-preserved : goal.loop-chunk-preserved
loop-chunk-preserved g c =
    let here = goal.at.loop-chunk-preserved g c in
    let taken = counted g here.Joined-chunk-own_chunk (marks g here.Joined-walk) in
    let kept = c.loop-chunk.invariant in
    let own = own_here c.args.self.now in
    let from = c.match-self.self.chunks in
    let chunk = c.loop-chunk.chunk in
    let set = c.look-seen.result.flags in
    let flags = c.if-chunk-own_chunk.flags in
    record {
      later = omega (arith, kept.later);
      none_before =
          none_further own from chunk kept.none_before (none_in_chunk own chunk set flags taken.adds c.if-flags-ne0.false);
      none_told =
          none_next c.in-Some-row.row from chunk set flags c.match-self.self.told kept.none_told c.look-seen.ensures.told
          (λ bit small. keeps_set own chunk set flags bit taken.adds taken.other small) c.if-flags-ne0.false;
    }

-- no look found a flag
none_at_hand : (g : _) (c : Joined-walk-2 g) → Loaded c.args.self.now c.match-self.self → (chunks flags : ℕ)
    → FindsTokens c.match-self.self.row c.match-self.self.chunks c.match-self.self.told (None, chunks, flags)
none_at_hand g c loaded chunks flags =
    let w = c.match-self.self in
    elim c.match-walk-2.branch [
      | in-Some-row+else-loop-chunk-test x ↦
          none_found w.row x.in-Some-row.row w.chunks x.loop-chunk.chunk w.raw.bucket_size chunks flags w.told
          x.in-Some-row.is x.loop-chunk.invariant.none_told
          (sized c.args.self.now w x.in-Some-row.row loaded c.requires.walk.walk.size x.in-Some-row.is)
          (omega (arith, x.loop-chunk-test.false))
      | in_default-row x ↦ none_there w.row w.chunks w.told (None, chunks, flags) x.in_default-row.is
    ]

pub returns-then-own_flag-ne0 : goal.returns-then-own_flag-ne0
returns-then-own_flag-ne0 g c =
    let here = goal.at.returns-then-own_flag-ne0 g c in
    let at = loaded g here.Joined-walk in
    let w = c.match-self.self in
    let own = c.match-walk in
    looked c.args.self.now w at (None, own.own_chunk + 1, own.own_flag) c.requires.walk c.requires.passed c.requires.in_table
    (alone_own (own_here c.args.self.now) w.chunks own.own_chunk own.own_flag (marks g here.Joined-walk) c.if-own_flag-ne0.true)
    (none_at_hand g here.Joined-walk-2 at (own.own_chunk + 1) own.own_flag)

pub returns-else-own_flag-ne0 : goal.returns-else-own_flag-ne0
returns-else-own_flag-ne0 g c =
    let here = goal.at.returns-else-own_flag-ne0 g c in
    let at = loaded g here.Joined-walk in
    let w = c.match-self.self in
    let own = c.match-walk in
    let nothing : w.rest ≡ 0 = ap (λ (t : Walk _). t.rest) at.is ∙ c.requires.passed in
    looked c.args.self.now w at (None, w.chunks, w.rest) c.requires.walk c.requires.passed c.requires.in_table
    (alone_none (own_here c.args.self.now) w.chunks own.own_chunk own.own_flag w.rest (marks g here.Joined-walk) c.if-own_flag-ne0.false nothing)
    (none_at_hand g here.Joined-walk-2 at w.chunks w.rest)
