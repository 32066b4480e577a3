-- Flags come to hand.
use Rattle.std.proofs.Common.{◌≡◌, ◌≢◌, ℕ, ◌+◌, ◌-◌, ◌*◌, ◌/◌, ◌%◌, ◌^◌, ◌<◌, ◌≤◌, ◌⊎◌, true, false}
use Rattle.std.proofs.Common.{Option, None, Some, IfSome, refl, ap, sym, ◌∙◌, subst, arith, ⊎_elim, inl, inr}
use Rattle.std.proofs.lemmas.Bool.{cases_lt, cases_eq}
use Rattle.thread_local_base.specs.Bits.{is_set, IsWordBut}
use Rattle.thread_local_shared_buckets.specs.Shared.{BucketView}
use Rattle.thread_local_shared_buckets.specs.declared.seen.Seen.{Seen}
use Rattle.thread_local_shared_buckets.specs.declared.row.Row.{Row}
use Rattle.thread_local_shared_buckets.specs.declared.steps.Own.{Own}
use Rattle.thread_local_shared_buckets.specs.declared.steps.Walk.{Walk}
use Rattle.thread_local_shared_buckets.specs.Positions.{lies_in, is_at}
use Rattle.thread_local_shared_buckets.specs.Positions.{IsAhead}
use Rattle.thread_local_shared_buckets.specs.AtHand.{IsRowOf, slot_of}
use Rattle.thread_local_shared_buckets.specs.AtHand.{OwnIsAtHand, IsWalk, LooksIn, IsMarked}
use Rattle.thread_local_ids.specs.TokenLists.{AllOf, NoneIn}
use Rattle.thread_local_shared_buckets.specs.Positions.{IsBehind}
use Rattle.thread_local_shared_buckets.proofs.Findings.{own_index, LiesOutside, IsRead, IsOwnAlone, LooksAt, HasLookedOn, IsFoundAt, FindsTokens}
use Rattle.thread_local_shared_buckets.proofs.ToldLaws.{found_all, marked_on, all_behind}
use Rattle.thread_local_shared_buckets.proofs.OwnFlagLaws.{both_if, both_so}
use Rattle.thread_local_base.proofs.Word.{added_set, never_set, was_set}
use Rattle.thread_local_shared_buckets.proofs.OwnLaws.{at_index, at_own_index, elsewhere, index_of_own}

module _ {V : Type 0} where
  -- the own slot alone
  pub own_comes : (w : Walk V) (own : Own V) (chunks rest : ℕ) → w.own ≡ Some own → IsWalk w
      → own.thread.bucket ≡ w.raw.bucket → chunks ≡ own.thread.index / 64 + 1
      → IsWordBut rest 0 (own.thread.index % 64) true
      → AllOf w.buckets.now.sharing (λ p. IsMarked (record w { chunks = chunks; rest = rest }) p.id) w.told
      → IsWalk (record w { chunks = chunks; rest = rest })
  own_comes w own chunks rest is walk same counted but marked =
      let i : ℕ = own.thread.index in
      let ahead : IsAhead w.raw own = subst (λ (o : Option (Own V)). IfSome o (IsAhead w.raw)) is walk.walk.own_ahead in
      let near : w.raw.index ≤ i = ahead.index same in
      let power : 2 ^ own.thread.bucket ≡ 2 ^ w.raw.bucket = ap (λ k. 2 ^ k) same in
      let inside : i < 2 ^ own.thread.bucket = own.thread.in_bucket in
      let to : Walk V = record w { chunks = chunks; rest = rest } in
      record {
        walk = walk.walk;
        told = walk.told;
        seen_to = omega arith;
        row = walk.row;
        at_hand = λ bit small set.
            let here : i % 64 ≡ bit =
            ⊎_elim (λ (one : i % 64 ≡ bit). one)
            (λ old. never_set 0 bit refl old) (was_set rest 0 (i % 64) bit but small set) in
            let at : i ≡ slot_of to bit = omega arith in
            record {
              in_table = (let low = own.thread.in_table in omega arith);
              some = omega arith;
              ahead = omega arith;
              inside = omega arith;
              by = λ apart.
                  let so : is_at w.own w.raw.bucket (slot_of to bit) ≡ true =
                  subst (λ (o : Option (Own V)). is_at o w.raw.bucket (slot_of to bit) ≡ true) (sym is)
                  (both_so own.thread.bucket w.raw.bucket i (slot_of to bit) same at) in
                  let never : true ≡ false = sym so ∙ apart in cc;
            };
        kept =
            subst (λ (o : Option (Own V)). IfSome o (OwnIsAtHand to)) (sym is) (λ _ seen.
            let base : (chunks - 1) * 64 ≤ i = omega arith in
            let bit : i - (chunks - 1) * 64 ≡ i % 64 = omega arith in (
              base,
              subst (λ (k : ℕ). is_set rest k ≡ true) (sym bit)
                  (added_set rest 0 (i % 64) but (omega arith)),
            ));
        marked = marked;
        left = walk.left;
      }

  -- the walk once it has looked on: its row, what it saw, how many chunks, and the flags at hand
  abbrev pub after_look : Walk V → Option (Row V) → Option (Seen V) → ℕ → ℕ → Walk V
  after_look w row seen chunks flags = record w { row = row; seen = seen; chunks = chunks; rest = flags }

  read_in : (w : Walk V) (of : BucketView) (seen : Seen V) (chunks flags : ℕ) (own : Option ℕ)
      → own_index w.own w.raw.bucket ≡ own
      → IsRead of own w.chunks seen chunks flags → (bit : ℕ) → bit < 64 → is_set flags bit ≡ true
      → (is_at w.own w.raw.bucket (seen.chunk * 64 + bit) ≡ true) ⊎ (is_set seen.flags bit ≡ true)
  read_in w of seen chunks flags None is read bit small set =
      inr (subst (λ (n : ℕ). is_set n bit ≡ true) (read.other tt) set)
  read_in w of seen chunks flags (Some i) is read bit small set =
      ⊎_elim
      (λ (at : i / 64 ≡ seen.chunk).
      ⊎_elim
      (λ (one : i % 64 ≡ bit).
      let here : i ≡ seen.chunk * 64 + bit = omega arith in
      inl (at_index w.own w.raw.bucket (seen.chunk * 64 + bit) (is ∙ ap Some here)))
      (λ old. inr old)
      (was_set flags seen.flags (i % 64) bit (read.adds at) small set))
      (λ apart. inr (subst (λ (n : ℕ). is_set n bit ≡ true) (read.other apart) set))
      (cases_eq (i / 64) seen.chunk)

  inside_own : (own : Option (Own V)) (bucket index : ℕ) → is_at own bucket index ≡ true → index < 2 ^ bucket
  inside_own None bucket index at = let never : false ≡ true = at in cc
  inside_own (Some own) bucket index at =
      let same = both_if own.thread.bucket bucket own.thread.index index at in
      let power : 2 ^ own.thread.bucket ≡ 2 ^ bucket = ap (λ k. 2 ^ k) same.0 in
      let one : own.thread.index ≡ index = same.1 in
      let inside : own.thread.index < 2 ^ own.thread.bucket = own.thread.in_bucket in
      omega arith

  kept_read : (w to : Walk V) (of : BucketView) (own : Option (Own V)) (seen : Seen V)
      → to.raw.bucket ≡ w.raw.bucket
      → IfSome own (OwnIsAtHand w) → w.rest ≡ 0 → IsRead of (own_index own w.raw.bucket) w.chunks seen to.chunks to.rest
      → IfSome own (OwnIsAtHand to)
  kept_read w to of None seen stays kept none read = tt
  kept_read w to of (Some own) seen stays kept none read = λ same within_seen.
      let here : own.thread.bucket ≡ w.raw.bucket = same ∙ stays in
      let i : ℕ = own.thread.index in
      let c : ℕ = seen.chunk in
      let at_own : IsRead of (Some i) w.chunks seen to.chunks to.rest =
      subst (λ (o : Option ℕ). IsRead of o w.chunks seen to.chunks to.rest) (index_of_own own w.raw.bucket here) read in
      let counted : to.chunks ≡ c + 1 = read.chunk in
      let within : i / 64 ≤ c = omega arith in
      let from : w.chunks ≤ i / 64 =
      ⊎_elim
      (λ (before : i < w.chunks * 64).
      never_set w.rest (i - (w.chunks - 1) * 64) none (kept here before).1)
      (λ (behind : w.chunks * 64 ≤ i). omega arith) (cases_lt i (w.chunks * 64)) in
      let last : i / 64 ≡ c =
      ⊎_elim
      (λ (before : i / 64 < c). absurd (at_own.none_before (i / 64) from before refl))
      (λ (late : c ≤ i / 64). omega arith) (cases_lt (i / 64) c) in
      let base : (to.chunks - 1) * 64 ≤ i = omega arith in
      let bit : i - (to.chunks - 1) * 64 ≡ i % 64 = omega arith in (
        base,
        subst (λ (k : ℕ). is_set to.rest k ≡ true) (sym bit)
            (added_set to.rest seen.flags (i % 64) (at_own.adds last) (omega arith)),
      )

  read_comes : (w : Walk V) (row : Option (Row V)) (of : BucketView) (seen : Seen V) (chunks flags : ℕ)
      → IsWalk w → w.rest ≡ 0 → w.raw.bucket < 63
      → IfSome row (IsRowOf w.buckets.now.sharing w.raw.bucket)
      → of.bucket ≡ w.raw.bucket → of.sharing ≡ w.buckets.now.sharing
      → IsRead of (own_index w.own w.raw.bucket) w.chunks seen chunks flags
      → AllOf w.buckets.now.sharing (λ p. IsMarked (after_look w row (Some seen) chunks flags) p.id) w.told
      → IsWalk (after_look w row (Some seen) chunks flags)
  read_comes w row of seen chunks flags walk none low rows bucket sharing read marked =
      let c : ℕ = seen.chunk in
      let counted : chunks ≡ c + 1 = read.chunk in
      let from : w.chunks ≤ c = read.later in
      let to : w.raw.index ≤ w.chunks * 64 = walk.seen_to in
      let power : 2 ^ of.bucket ≡ 2 ^ w.raw.bucket = ap (λ k. 2 ^ k) bucket in
      record {
        walk = walk.walk;
        told = walk.told;
        seen_to = omega arith;
        row = rows;
        at_hand = λ bit small set.
            let at : (chunks - 1) * 64 + bit ≡ c * 64 + bit = omega arith in
            let either = read_in w of seen chunks flags (own_index w.own w.raw.bucket) refl read bit small set in
            record {
              in_table = low;
              some = omega arith;
              ahead = omega arith;
              inside =
                  subst (λ (i : ℕ). i < 2 ^ w.raw.bucket) (sym at)
                  (⊎_elim (λ own. inside_own w.own w.raw.bucket (c * 64 + bit) own)
                  (λ was. subst (λ (n : ℕ). c * 64 + bit < n) power (read.inside bit small was)) either);
              by = λ apart.
                  ⊎_elim
                  (λ own.
                  let never : true ≡ false = sym (subst (λ (i : ℕ). is_at w.own w.raw.bucket i ≡ true) (sym at) own) ∙ apart in
                  cc)
                  (λ was. (
                    ap (λ (d : BucketView). d.sharing) read.of ∙ sharing,
                    ap (λ (d : BucketView). d.bucket) read.of ∙ bucket,
                    counted,
                    was,
                  ))
                  either;
            };
        kept = kept_read w (after_look w row (Some seen) chunks flags) of w.own seen refl walk.kept none read;
        marked = marked;
        left = walk.left;
      }

  -- the walk with another row of the same bucket, of which it has seen nothing that is at hand
  pub unseen : (w : Walk V) (row : Option (Row V)) → IsWalk w → w.rest ≡ 0 → IfSome row (IsRowOf w.buckets.now.sharing w.raw.bucket)
      → IsWalk (record w { row = row; seen = None })
  unseen w row walk none of = record {
    walk = walk.walk;
    told = walk.told;
    seen_to = walk.seen_to;
    row = of;
    at_hand = λ bit small set. never_set w.rest bit none set;
    kept = walk.kept;
    marked = walk.marked;
    left = walk.left;
  }

  -- the own slot alone comes to hand, at its index in the bucket
  alone_comes : (w : Walk V) (own : Option (Own V)) (i chunks rest : ℕ) → w.own ≡ own → IsWalk w
      → own_index own w.raw.bucket ≡ Some i → chunks ≡ i / 64 + 1 → IsWordBut rest 0 (i % 64) true
      → AllOf w.buckets.now.sharing (λ p. IsMarked (record w { chunks = chunks; rest = rest }) p.id) w.told
      → IsWalk (record w { chunks = chunks; rest = rest })
  alone_comes w None i chunks rest is walk here counted but marked = cc
  alone_comes w (Some own) i chunks rest is walk here counted but marked =
      let at = at_own_index own w.raw.bucket i here in
      let index : i ≡ own.thread.index = sym at.1 in
      own_comes w own chunks rest is walk at.0 (counted ∙ ap (λ k. k / 64 + 1) index)
      (subst (λ (k : ℕ). IsWordBut rest 0 (k % 64) true) index but) marked

  looks_in : (w : Walk V) (row : Option (Row V)) (seen : Option (Seen V)) (chunks flags : ℕ)
      → IsWalk (after_look w row seen chunks flags) → (flags ≡ 0 → lies_in w.own w.raw.bucket ≡ false)
      → (flags ≡ 0 → AllOf w.buckets.now.sharing (λ p. IsBehind w.raw p.id) w.told)
      → LooksIn w (after_look w row seen chunks flags)
  looks_in w row seen chunks flags walk none behind =
      record { walk = walk; buckets = refl; raw = refl; own = refl; none = none; told = refl; behind = behind }

  -- the tokens' flags at hand once the walk has looked on
  abbrev Finds : Walk V → Option (Seen V) × ℕ × ℕ → Type 0
  Finds w x = AllOf w.buckets.now.sharing (λ p. IsFoundAt w.raw.bucket w.chunks x p.id) w.told

  looked_seen : (w : Walk V) (row : Option (Row V)) (seen : Seen V) (chunks flags : ℕ) → IsWalk w → w.rest ≡ 0
      → w.raw.bucket < 63 → IfSome row (IsRowOf w.buckets.now.sharing w.raw.bucket)
      → LooksAt row (own_index w.own w.raw.bucket) w.chunks seen chunks flags
      → Finds w (Some seen, chunks, flags)
      → LooksIn w (after_look w row (Some seen) chunks flags)
  looked_seen w None seen chunks flags walk none low of read finds = absurd read
  looked_seen w (Some row) seen chunks flags walk none low of read finds =
      looks_in w (Some row) (Some seen) chunks flags
      (read_comes w (Some row) row.of seen chunks flags walk none low of of.0 of.1 read
      (marked_on w (Some row) (Some seen, chunks, flags) walk none finds))
      (λ zero. let some : 0 < flags = read.some in absurd (omega arith))
      (λ zero. let some : 0 < flags = read.some in absurd (omega arith))

  looked_alone : (w : Walk V) (row : Option (Row V)) (chunks flags : ℕ) (own : Option ℕ) → IsWalk w → w.rest ≡ 0
      → IfSome row (IsRowOf w.buckets.now.sharing w.raw.bucket)
      → own_index w.own w.raw.bucket ≡ own
      → IsOwnAlone own w.chunks chunks flags
      → Finds w (None, chunks, flags)
      → LooksIn w (after_look w row None chunks flags)
  looked_alone w row chunks flags None walk none of is alone finds =
      let bare : Walk V = record w { row = row; seen = None } in
      let begun : IsWalk bare = unseen w row walk none of in
      let stays : IsWalk (record bare { rest = flags }) =
      subst (λ (n : ℕ). IsWalk (record bare { rest = n })) (none ∙ sym alone.1) begun in
      looks_in w row None chunks flags
      (subst (λ (n : ℕ). IsWalk (record bare { chunks = n; rest = flags })) (sym alone.0) stays)
      (λ zero. elsewhere w.own w.raw.bucket is)
      (λ zero. all_behind w chunks flags walk none finds)
  looked_alone w row chunks flags (Some i) walk none of is alone finds =
      let bare : Walk V = record w { row = row; seen = None } in
      looks_in w row None chunks flags
      (alone_comes bare w.own i chunks flags refl (unseen w row walk none of) is alone.0 alone.1
      (marked_on w row (None, chunks, flags) walk none finds))
      (λ zero.
      let small : i % 64 < 64 = omega arith in
      never_set flags (i % 64) zero (added_set flags 0 (i % 64) alone.1 small))
      (λ zero. all_behind w chunks flags walk none finds)

  looked_by : (w : Walk V) (row : Option (Row V)) (seen : Option (Seen V)) (chunks flags : ℕ) → IsWalk w → w.rest ≡ 0
      → w.raw.bucket < 63 → IfSome row (IsRowOf w.buckets.now.sharing w.raw.bucket)
      → HasLookedOn row (own_index w.own w.raw.bucket) w.chunks (seen, chunks, flags)
      → Finds w (seen, chunks, flags)
      → LooksIn w (after_look w row seen chunks flags)
  looked_by w row None chunks flags walk none low of x finds =
      looked_alone w row chunks flags (own_index w.own w.raw.bucket) walk none of refl x finds
  looked_by w row (Some seen) chunks flags walk none low of x finds =
      looked_seen w row seen chunks flags walk none low of x finds

  pub looked_on : (w : Walk V) (row : Option (Row V)) (own : Option ℕ) (x : Option (Seen V) × ℕ × ℕ) → IsWalk w → w.rest ≡ 0
      → w.raw.bucket < 63 → IfSome row (IsRowOf w.buckets.now.sharing w.raw.bucket)
      → own ≡ own_index w.own w.raw.bucket
      → HasLookedOn row own w.chunks x
      → FindsTokens row w.chunks w.told x
      → (row ≡ None → NoneIn w.buckets.now.sharing w.raw.bucket w.told)
      → LooksIn w (after_look w row x.0 x.1 x.2)
  looked_on w row own x walk none low of is looked finds absent =
      looked_by w row x.0 x.1 x.2 walk none low of (subst (λ (o : Option ℕ). HasLookedOn row o w.chunks x) is looked)
      (found_all w.buckets.now.sharing w.raw.bucket w.chunks w.told x row of finds absent)

  -- a look at a chunk of the row finds a flag
  pub read_at : (row : Option (Row V)) (r : Row V) (own : Option ℕ) (from chunk given word : ℕ) (seen : Seen V) → row ≡ Some r
      → seen.of ≡ r.of → seen.chunk ≡ chunk → given ≡ seen.flags → from ≤ chunk
      → ((bit : ℕ) → bit < 64 → is_set seen.flags bit ≡ true → chunk * 64 + bit < 2 ^ r.of.bucket)
      → ((k : ℕ) → from ≤ k → k < chunk → LiesOutside own k)
      → IfSome own (λ index. index / 64 ≡ chunk → IsWordBut word given (index % 64) true)
      → (LiesOutside own chunk → word ≡ given) → word ≢ 0
      → HasLookedOn row own from (Some seen, chunk + 1, word)
  read_at row r own from chunk given word seen is of at flags later inside none adds other some =
      subst (λ (u : Option (Row V)). LooksAt u own from seen (chunk + 1) word) (sym is) record {
        of = of;
        later = omega arith;
        chunk = ap (λ k. k + 1) (sym at);
        some = omega arith;
        inside = λ bit small set. subst (λ (k : ℕ). k * 64 + bit < 2 ^ r.of.bucket) (sym at) (inside bit small set);
        adds =
            subst (λ (n : ℕ). IfSome own (λ index. index / 64 ≡ seen.chunk → IsWordBut word n (index % 64) true)) flags
            (subst (λ (k : ℕ). IfSome own (λ index. index / 64 ≡ k → IsWordBut word given (index % 64) true)) (sym at) adds);
        other = λ apart. other (subst (LiesOutside own) at apart) ∙ flags;
        none_before = λ k late below. none k late (omega arith);
      }
