-- What a walk does about the tokens that it was made with.
use Rattle.std.proofs.Common.{◌≡◌, ◌≢◌, ℕ, suc, ◌+◌, ◌-◌, ◌*◌, ◌/◌, ◌^◌, ◌<◌, ◌≤◌, true, false, List, Option, None, Some, IfSome}
use Rattle.std.proofs.Common.{refl, ap, sym, ◌∙◌, subst, arith, ⊎_elim, inl, inr, pow_mono, All}
use Rattle.std.specs.Prelude.{MatchOption, slice_index_or}
use Rattle.std.proofs.lemmas.Bool.{cases_lt, cases_eq}
use Rattle.thread_local_base.specs.Place.{id_at, bucket_of, index_of}
use Rattle.thread_local_base.specs.Cursor.{cursor_id}
use Rattle.thread_local_base.specs.Bits.{is_set, IsLowestSet, IsWordBut}
use Rattle.thread_local_base.proofs.PlaceLaws.{id_at-place, inside}
use Rattle.thread_local_ids.specs.TokenViews.{TokenView}
use Rattle.thread_local_ids.specs.TokenLists.{AllOf, NoneIn}
use Rattle.thread_local_buckets.specs.declared.cursor.RawIter.{RawIter}
use Rattle.thread_local_shared_buckets.specs.declared.row.Row.{Row}
use Rattle.thread_local_shared_buckets.specs.declared.seen.Seen.{Seen}
use Rattle.thread_local_shared_buckets.specs.declared.steps.Own.{Own}
use Rattle.thread_local_shared_buckets.specs.declared.steps.Walk.{Walk}
use Rattle.thread_local_shared_buckets.specs.Walks.{GivesTold}
use Rattle.thread_local_shared_buckets.specs.Positions.{resting, past, next_id, Skips, IsBehind}
use Rattle.thread_local_shared_buckets.specs.AtHand.{IsRowOf, slot_of, IsMarked, IsWalk}
use Rattle.thread_local_shared_buckets.proofs.Findings.{Item, Stops, IsToldAt, IsFoundAt, FindsTokens}
use Rattle.thread_local_base.proofs.Word.{never_set, stays_set}
use Rattle.thread_local_shared_buckets.proofs.MoveLaws.{resting-id}
use Rattle.thread_local_shared_buckets.proofs.WalkLaws.{later_bucket}

skips_at : (from to : RawIter) (id : ℕ) → from.bucket < to.bucket → to.index ≡ 0 → IsBehind from id
    → ((bucket : ℕ) → from.bucket < bucket → bucket < to.bucket → (i : ℕ) → i < 2 ^ bucket → id ≢ id_at bucket i)
    → Skips from to id
skips_at from to id further first behind none =
    let b : ℕ = bucket_of id in
    let i : ℕ = index_of id in
    let low : i < 2 ^ b = inside id in
    let at : id ≡ id_at b i = sym (id_at-place id) in
    ⊎_elim
    (λ (less : b < from.bucket).
    let under : id_at b i < id_at from.bucket from.index = later_bucket b from.bucket i from.index less low in
    inl (omega arith))
    (λ (more : from.bucket ≤ b).
    ⊎_elim
    (λ (same : b ≡ from.bucket).
    let power : 2 ^ b ≡ 2 ^ from.bucket = ap (λ n. 2 ^ n) same in
    let under : i < from.index = behind i (omega arith) (omega arith) in
    inl (omega arith))
    (λ apart.
    ⊎_elim
    (λ (near : b < to.bucket). absurd (none b (omega arith) near i low at))
    (λ (far : to.bucket ≤ b).
    let power : 2 ^ to.bucket ≤ 2 ^ b = pow_mono far in
    inr (omega arith))
    (cases_lt b to.bucket))
    (cases_eq b from.bucket))
    (cases_lt b from.bucket)

skip_then : (from met to : RawIter) (id : ℕ) → Skips from met id → Skips met to id → Skips from to id
skip_then from met to id (inl low) after = inl low
skip_then from met to id (inr high) (inl low) = absurd (omega arith)
skip_then from met to id (inr high) (inr more) = inr more

-- every bit that is set in one word is in another
abbrev pub Keeps : ℕ → ℕ → Type 0
Keeps flags word = (bit : ℕ) → bit < 64 → is_set flags bit ≡ true → is_set word bit ≡ true

module _ {V : Type 0} where
  pub moved : (s r : Option ℕ) (xs ys : List (TokenView V)) (P : TokenView V → Type 0) → s ≡ r → xs ≡ ys → AllOf s P xs → AllOf r P ys
  moved s r xs ys P same is all =
      subst (λ (zs : List (TokenView V)). AllOf r P zs) is (subst (λ (o : Option ℕ). AllOf o P xs) same all)

  -- 1. A walk begins, or is at the first slot of a bucket.

  pub unmarked : (w : Walk V) → w.chunks ≡ 0 → AllOf w.buckets.now.sharing (λ p. IsMarked w p.id) w.told
  unmarked w none = λ named k d near same i low at ahead seen. absurd (omega arith)

  -- 2. It looks on in its bucket.

  found_mark : (o : Option (Seen V)) (chunks i : ℕ) (X : Type 0) → MatchOption o ⊥ (λ _. i < chunks * 64 → X) → i < chunks * 64 → X
  found_mark None chunks i X none seen = absurd none
  found_mark (Some s) chunks i X mark seen = mark seen

  pub found_all : (sharing : Option ℕ) (bucket from : ℕ) (tokens : List (TokenView V)) (x : Option (Seen V) × ℕ × ℕ) (row : Option (Row V))
      → IfSome row (IsRowOf sharing bucket) → FindsTokens row from tokens x → (row ≡ None → NoneIn sharing bucket tokens)
      → AllOf sharing (λ p. IsFoundAt {V = V} bucket from x p.id) tokens
  found_all sharing bucket from tokens x None of finds none =
      λ named k d near same i low at later. absurd (none refl named k d near same i low at)
  found_all sharing bucket from tokens x (Some r) of finds none =
      subst (λ (b : ℕ). AllOf sharing (λ p. IsFoundAt {V = V} b from x p.id) tokens) of.0
      (subst (λ (o : Option ℕ). AllOf o (λ p. IsFoundAt {V = V} r.of.bucket from x p.id) tokens) of.1 finds)

  mark_at : (w : Walk V) (row : Option (Row V)) (x : Option (Seen V) × ℕ × ℕ) (id : ℕ) → w.rest ≡ 0 → IsMarked w id
      → IsFoundAt {V = V} w.raw.bucket w.chunks x id
      → IsMarked (record w { row = row; seen = x.0; chunks = x.1; rest = x.2 }) id
  mark_at w row x id none marked found i low at ahead seen =
      ⊎_elim
      (λ (before : i < w.chunks * 64).
      never_set w.rest (i - (w.chunks - 1) * 64) none (marked i low at ahead before).1)
      (λ (later : w.chunks * 64 ≤ i). found_mark x.0 x.1 i _ (found i low at later) seen)
      (cases_lt i (w.chunks * 64))

  pub marked_on : (w : Walk V) (row : Option (Row V)) (x : Option (Seen V) × ℕ × ℕ) → IsWalk w → w.rest ≡ 0
      → AllOf w.buckets.now.sharing (λ p. IsFoundAt {V = V} w.raw.bucket w.chunks x p.id) w.told
      → AllOf w.buckets.now.sharing (λ p. IsMarked (record w { row = row; seen = x.0; chunks = x.1; rest = x.2 }) p.id) w.told
  marked_on w row x walk none found = λ named k d near same.
      mark_at w row x (slice_index_or w.told k d).id none (walk.marked named k d near same) (found named k d near same)

  behind_at : (w : Walk V) (chunks flags id : ℕ) → w.rest ≡ 0 → IsMarked w id
      → IsFoundAt {V = V} w.raw.bucket w.chunks (None, chunks, flags) id
      → IsBehind w.raw id
  behind_at w chunks flags id none marked found i low at =
      ⊎_elim (λ (behind : i < w.raw.index). behind)
      (λ (ahead : w.raw.index ≤ i).
      ⊎_elim
      (λ (before : i < w.chunks * 64).
      never_set w.rest (i - (w.chunks - 1) * 64) none (marked i low at ahead before).1)
      (λ (later : w.chunks * 64 ≤ i). absurd (found i low at later))
      (cases_lt i (w.chunks * 64)))
      (cases_lt i w.raw.index)

  -- where no look finds a flag, the tokens' ids lie elsewhere or behind the walk
  pub all_behind : (w : Walk V) (chunks flags : ℕ) → IsWalk w → w.rest ≡ 0
      → AllOf w.buckets.now.sharing (λ p. IsFoundAt {V = V} w.raw.bucket w.chunks (None, chunks, flags) p.id) w.told
      → AllOf w.buckets.now.sharing (λ p. IsBehind w.raw p.id) w.told
  all_behind w chunks flags walk none found = λ named k d near same.
      behind_at w chunks flags (slice_index_or w.told k d).id none (walk.marked named k d near same) (found named k d near same)

  -- 3. It gives the value of the lowest flag at hand.

  later_mark : (w : Walk V) (low rest : ℕ) (own : Option (Own V)) (id : ℕ) → 0 < w.chunks → w.raw.index ≤ slot_of w low
      → IsWordBut rest w.rest low false → IsMarked w id
      → IsMarked (record w { raw = past w.raw (slot_of w low); own = own; rest = rest }) id
  later_mark w low rest own id some up but marked i inside_bucket at ahead seen =
      let near : w.raw.index ≤ i = omega arith in
      let here = marked i inside_bucket at near seen in
      let base : (w.chunks - 1) * 64 ≤ i = here.0 in
      let bit : ℕ = i - (w.chunks - 1) * 64 in
      let small : bit < 64 = omega arith in
      let other : low ≢ bit = λ e. absurd (omega arith) in
      (here.0, stays_set rest w.rest low bit but small other here.1)

  pub marked_later : (w : Walk V) (low rest : ℕ) (own : Option (Own V)) → IsWalk w → IsLowestSet w.rest low
      → IsWordBut rest w.rest low false
      → AllOf w.buckets.now.sharing
      (λ p. IsMarked (record w { raw = past w.raw (slot_of w low); own = own; rest = rest }) p.id) w.told
  marked_later w low rest own walk lowest but = λ named k d near same.
      let there = walk.at_hand low lowest.within lowest.set in
      later_mark w low rest own (slice_index_or w.told k d).id there.some there.ahead but (walk.marked named k d near same)

  stops_at : (w : Walk V) (low id : ℕ) → 0 < w.chunks → slot_of w low < 2 ^ w.raw.bucket → IsLowestSet w.rest low
      → IsMarked w id
      → Stops w.raw (past w.raw (slot_of w low)) id
  stops_at w low id some inside_bucket lowest marked ahead below =
      let few : low < 64 = lowest.within in
      let base : ℕ = (w.chunks - 1) * 64 in
      let i : ℕ = id - (2 ^ w.raw.bucket - 1) in
      let at : id ≡ id_at w.raw.bucket i = omega arith in
      let here = marked i (omega arith) at (omega arith) (omega arith) in
      let from : base ≤ i = here.0 in
      let bit : ℕ = i - base in
      ⊎_elim (λ (less : bit < low). let never : true ≡ false = sym here.1 ∙ lowest.lower bit less in cc)
      (λ (more : low ≤ bit). omega arith) (cases_lt bit low)

  pub stops : (w : Walk V) (low : ℕ) → IsWalk w → IsLowestSet w.rest low
      → AllOf w.buckets.now.sharing (λ p. Stops w.raw (past w.raw (slot_of w low)) p.id) w.told
  stops w low walk lowest = λ named k d near same.
      let there = walk.at_hand low lowest.within lowest.set in
      stops_at w low (slice_index_or w.told k d).id there.some there.inside lowest (walk.marked named k d near same)

  -- 4. It moves on behind its bucket.

  pub skips : (w : Walk V) (to : RawIter) → w.raw.bucket < to.bucket → to.index ≡ 0
      → AllOf w.buckets.now.sharing (λ p. IsBehind w.raw p.id) w.told
      → ((bucket : ℕ) → w.raw.bucket < bucket → bucket < to.bucket → NoneIn w.buckets.now.sharing bucket w.told)
      → AllOf w.buckets.now.sharing (λ p. Skips w.raw to p.id) w.told
  skips w to further first behind none = λ named k d near same.
      skips_at w.raw to (slice_index_or w.told k d).id further first (behind named k d near same)
      (λ bucket low high. none bucket low high named k d near same)

  pub skips_nowhere : (sharing : Option ℕ) (tokens : List (TokenView V)) (raw : RawIter) → AllOf sharing (λ p. Skips raw raw p.id) tokens
  skips_nowhere sharing tokens raw = λ named k d near same.
      cases_lt (slice_index_or tokens k d).id (next_id raw)

  pub skips_then : (sharing : Option ℕ) (tokens : List (TokenView V)) (from met to : RawIter)
      → AllOf sharing (λ p. Skips from met p.id) tokens → AllOf sharing (λ p. Skips met to p.id) tokens
      → AllOf sharing (λ p. Skips from to p.id) tokens
  skips_then sharing tokens from met to first after = λ named k d near same.
      skip_then from met to (slice_index_or tokens k d).id (first named k d near same) (after named k d near same)

  -- 5. A whole call.

  meet_some : (from met to : RawIter) (x : Item V) (p : TokenView V) → Skips from met p.id → Stops met to p.id
      → cursor_id (resting to) ≡ suc x.0.id → x.0.value ≡ x.1.now → (p.id ≡ x.0.id → p.value ≡ x.0.value)
      → GivesTold (resting from) (Some x.1) (resting to) p
  meet_some from met to x p (inl low) stop at value agrees = λ ahead below. let start = resting-id from in absurd (omega arith)
  meet_some from met to x p (inr high) stop at value agrees = λ ahead below.
      let end = resting-id to in
      let one : next_id to ≡ suc p.id = stop high (omega arith) in
      let last : cursor_id (resting to) ≡ suc p.id = end ∙ one in
      (last, agrees (omega arith) ∙ value)

  pub meets_some : (sharing : Option ℕ) (tokens : List (TokenView V)) (from met to : RawIter) (x : Item V)
      → AllOf sharing (λ p. Skips from met p.id) tokens → AllOf sharing (λ p. Stops met to p.id) tokens
      → IsToldAt sharing to x → AllOf x.0.sharing (λ p. p.id ≡ x.0.id → p.value ≡ x.0.value) tokens
      → AllOf sharing (GivesTold (resting from) (Some x.1) (resting to)) tokens
  meets_some sharing tokens from met to x skip stop told agrees =
      let here : AllOf sharing (λ p. p.id ≡ x.0.id → p.value ≡ x.0.value) tokens =
      subst (λ (o : Option ℕ). AllOf o (λ p. p.id ≡ x.0.id → p.value ≡ x.0.value) tokens) told.sharing agrees in
      λ named k d near same.
      meet_some from met to x (slice_index_or tokens k d) (skip named k d near same) (stop named k d near same) told.id told.value
      (here named k d near same)

  meet_none : (from to : RawIter) (p : TokenView V) → Skips from to p.id → 63 ≤ to.bucket → p.id < 2 ^ 63 - 1
      → GivesTold (resting from) None (resting to) p
  meet_none from to p (inl low) far small = let start = resting-id from in omega arith
  meet_none from to p (inr high) far small = let most : 2 ^ 63 ≤ 2 ^ to.bucket = pow_mono far in absurd (omega arith)

  -- a call that gave nothing went past the last bucket, and skipped no token's id
  pub meets_none : (sharing : Option ℕ) (tokens : List (TokenView V)) (from to : RawIter)
      → AllOf sharing (λ p. Skips from to p.id) tokens → 63 ≤ to.bucket → All (λ p. p.id < 2 ^ 63 - 1) tokens
      → AllOf sharing (GivesTold (resting from) None (resting to)) tokens
  meets_none sharing tokens from to skip far small = λ named k d near same.
      meet_none from to (slice_index_or tokens k d) (skip named k d near same) far (small k d near)

  -- 6. Looks at the chunks of a row, one after another.

  -- no token's id lies in the chunks from one on, up to another
  abbrev pub NoneBefore : Row V → ℕ → ℕ → List (TokenView V) → Type 0
  NoneBefore r from chunk tokens =
      AllOf r.of.sharing (λ p. (i : ℕ) → i < 2 ^ r.of.bucket → p.id ≡ id_at r.of.bucket i → from * 64 ≤ i → chunk * 64 ≤ i) tokens

  -- what a look at a chunk tells
  abbrev pub LookTells : Row V → ℕ → ℕ → List (TokenView V) → Type 0
  LookTells r chunk flags tokens =
      AllOf r.of.sharing (λ p.
      (bit : ℕ) → bit < 64 → chunk * 64 + bit < 2 ^ r.of.bucket → p.id ≡ id_at r.of.bucket (chunk * 64 + bit)
      → is_set flags bit ≡ true)
      tokens

  set_in_word : (r : Row V) (tokens : List (TokenView V)) (chunk flags word id i : ℕ)
      → ((bit : ℕ) → bit < 64 → chunk * 64 + bit < 2 ^ r.of.bucket → id ≡ id_at r.of.bucket (chunk * 64 + bit) → is_set flags bit ≡ true)
      → Keeps flags word → chunk * 64 ≤ i → i < chunk * 64 + 64 → i < 2 ^ r.of.bucket → id ≡ id_at r.of.bucket i
      → is_set word (i - chunk * 64) ≡ true
  set_in_word r tokens chunk flags word id i tells keeps base below low at =
      let bit : ℕ = i - chunk * 64 in
      let small : bit < 64 = omega arith in
      keeps bit small (tells bit small (omega arith) (omega arith))

  pub none_next : (r : Row V) (from chunk flags word : ℕ) (tokens : List (TokenView V))
      → NoneBefore r from chunk tokens → LookTells r chunk flags tokens → Keeps flags word → word ≡ 0
      → NoneBefore r from (chunk + 1) tokens
  none_next r from chunk flags word tokens before tells keeps zero = λ named k d near same i low at later.
      let base : chunk * 64 ≤ i = before named k d near same i low at later in
      ⊎_elim
      (λ (below : i < chunk * 64 + 64).
      never_set word (i - chunk * 64) zero
      (set_in_word r tokens chunk flags word (slice_index_or tokens k d).id i (tells named k d near same) keeps base below low at))
      (λ (past : chunk * 64 + 64 ≤ i). omega arith)
      (cases_lt i (chunk * 64 + 64))

  pub found_at : (row : Option (Row V)) (r : Row V) (seen : Seen V) (from chunk flags word : ℕ) (tokens : List (TokenView V)) → row ≡ Some r
      → NoneBefore r from chunk tokens → LookTells r chunk flags tokens → Keeps flags word
      → FindsTokens row from tokens (Some seen, chunk + 1, word)
  found_at row r seen from chunk flags word tokens is before tells keeps =
      subst (λ (o : Option (Row V)). FindsTokens o from tokens (Some seen, chunk + 1, word)) (sym is)
      (λ named k d near same i low at later below.
      let base : chunk * 64 ≤ i = before named k d near same i low at later in
      let last : i - chunk * 64 ≡ i - (chunk + 1 - 1) * 64 = omega arith in (
        omega arith,
        subst (λ (j : ℕ). is_set word j ≡ true) last
            (set_in_word r tokens chunk flags word (slice_index_or tokens k d).id i (tells named k d near same) keeps base (omega arith)
            low at),
      ))

  -- no look of any chunk found a flag
  pub none_found : (row : Option (Row V)) (r : Row V) (from chunk size chunks flags : ℕ) (tokens : List (TokenView V)) → row ≡ Some r
      → NoneBefore r from chunk tokens → size ≡ 2 ^ r.of.bucket → (size + 63) / 64 ≤ chunk
      → FindsTokens row from tokens (None, chunks, flags)
  none_found row r from chunk size chunks flags tokens is before power end =
      subst (λ (o : Option (Row V)). FindsTokens o from tokens (None, chunks, flags)) (sym is)
      (λ named k d near same i low at later.
      let base : chunk * 64 ≤ i = before named k d near same i low at later in
      absurd (omega arith))

  pub none_there : (row : Option (Row V)) (from : ℕ) (tokens : List (TokenView V)) (x : Option (Seen V) × ℕ × ℕ) → row ≡ None
      → FindsTokens row from tokens x
  none_there row from tokens x is = subst (λ (o : Option (Row V)). FindsTokens o from tokens x) (sym is) tt
