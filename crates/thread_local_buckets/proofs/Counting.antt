-- How many values the flags of a chunk count.
use Rattle.std.proofs.Common.{◌≡◌, ℕ, ◌+◌, ◌*◌, ◌/◌, ◌^◌, ◌<◌, min, length}
use Rattle.std.proofs.Common.{[], false, count_ones, is_some, sym, ap, subst, ◌∙◌, arith}
use Rattle.thread_local_base.specs.Bits.{is_set, IsLowestSet, IsWordBut}
use Rattle.thread_local_base.specs.Place.{id_at}
use Rattle.thread_local_base.specs.Buckets.{Contents, row, values}
use Rattle.thread_local_base.specs.Rows.{value_in}
use Rattle.thread_local_base.specs.Counting.{count_below}
use Rattle.thread_local_base.specs.Walk.{walk}
use Rattle.thread_local_base.proofs.TakingLaws.{id_at-next, count_below-none, count_below-fits, count_below-walk}
use Rattle.thread_local_base.proofs.ValueLaws.{values-id_at}
use Rattle.thread_local_buckets.specs.Announced.{HasNone}
use Rattle.thread_local_buckets.specs.Counted.{counted_to}
use Rattle.thread_local_buckets.proofs.Passing.{none_missing}
use Rattle.thread_local_buckets.proofs.Summing.{IsSummed, summed_more, summed_past, summed_all}
use Rattle.thread_local_buckets.proofs.CountingLaws.{count_below-chunk}

module _ {V : Type 0} (first now : Contents V) (b k word : ℕ) (same : now ≡ first)
    (whole : length (row first b) ≡ 2 ^ b) (fits : word < 2 ^ 64)
    (flags : (bit : ℕ) → bit < 64 → is_set word bit ≡ is_some (value_in now b (k * 64 + bit))) where
  abbrev to : ℕ → ℕ
  to = counted_to first b

  -- a further chunk adds what its word counts
  pub chunk_counted : (base count : ℕ) → k < (2 ^ b + 63) / 64 → base + count ≡ to k
      → base + (count + count_ones word) ≡ to (k + 1)
  chunk_counted base count inside counted =
      let here : min (k * 64) (2 ^ b) ≡ k * 64 = omega arith in
      let before : base + count ≡ count_below (values first) (id_at b (k * 64)) =
      counted ∙ ap (λ (i : ℕ). count_below (values first) (id_at b i)) here in
      let more =
      count_below-chunk first b k word whole (omega arith)
      (λ bit within. flags bit within ∙ ap (λ w. is_some (value_in w b (k * 64 + bit))) same) fits in
      omega (arith, before, more)

  -- and nothing where that word is 0
  pub none_counted : k < (2 ^ b + 63) / 64 → word ≡ 0 → to k ≡ to (k + 1)
  unfolding lib.Count.ones
  none_counted inside unset =
      let none : count_ones word ≡ 0 = ap count_ones unset in
      omega (arith, none, chunk_counted (to k) 0 inside (omega arith))

-- what part of a bucket adds, which is the same for the pointers as they were at first
pub part_counted : {V : Type 0} (first now : Contents V) (b from to base count more : ℕ) → now ≡ first
    → counted_to now b from + more ≡ counted_to now b to
    → base + count ≡ counted_to first b from
    → base + (count + more) ≡ counted_to first b to
part_counted first now b from to base count more same told counted =
    let here : counted_to first b from + more ≡ counted_to first b to =
    subst (λ (w : Contents _). counted_to w b from + more ≡ counted_to w b to) same told in
    omega (arith, here, counted)

-- the count of a bucket, which is the same for the pointers as they were at first
pub counted_at_first : {V : Type 0} (now first : Contents V) (b n : ℕ) → now ≡ first
    → count_below (values now) (id_at b 0) + n ≡ count_below (values now) (id_at (b + 1) 0)
    → count_below (values first) (id_at b 0) + n ≡ count_below (values first) (id_at (b + 1) 0)
counted_at_first now first b n same counted =
    subst (λ (w : Contents _).
    count_below (values w) (id_at b 0) + n ≡ count_below (values w) (id_at (b + 1) 0))
    same counted

-- a loop over announced buckets has counted the values of those that it has taken out of the word
abbrev pub IsCounted : {V : Type 0} → Contents V → ℕ → ℕ → Type 0
IsCounted contents = IsSummed (HasNone contents) (λ b. count_below (values contents) (id_at b 0))

module _ {V : Type 0} (c : Contents V) where
  abbrev counts : ℕ → ℕ
  counts b = count_below (values c) (id_at b 0)

  -- a bucket without values adds nothing
  pub none_in : (b : ℕ) → HasNone c b → counts (b + 1) ≡ counts b
  none_in b none =
      let end : id_at (b + 1) 0 ≡ id_at b 0 + 2 ^ b = omega (arith, id_at-next b) in
      ap (count_below (values c)) end
      ∙ count_below-none (values c) (id_at b 0) (2 ^ b) (λ i inside.
      let here : id_at b 0 + i ≡ id_at b i = omega arith in
      ap (values c) here ∙ values-id_at c b i inside ∙ none i)

  -- the loop takes a bucket that stands
  pub counted_more : (now : Contents V) (count more left rest b : ℕ) → IsCounted c left count → IsLowestSet left b
      → IsWordBut rest left b false → now ≡ c → count_below (values now) (id_at b 0) + more ≡ count_below (values now) (id_at (b + 1) 0)
      → IsCounted c rest (count + more)
  counted_more now count more left rest b so low but same here =
      summed_more (HasNone c) counts none_in left rest b count more so low but (counted_at_first now c b more same here)

  -- and where a bucket doesn't stand, it adds nothing
  pub counted_past : (now : Contents V) (count left rest b : ℕ) → IsCounted c left count → IsLowestSet left b
      → IsWordBut rest left b false → now ≡ c → row now b ≡ [] → IsCounted c rest count
  counted_past now count left rest b so low but same absent =
      summed_past (HasNone c) counts none_in left rest b count so low but (none_missing c b (ap (λ w. row w b) (sym same) ∙ absent))

  pub counted_fits : (left count : ℕ) → IsCounted c left count → count < 2 ^ 63
  counted_fits left count so = let fits = count_below-fits (values c) so.from so.low in omega (arith, fits, so.summed)

  -- where no bucket is left, all values are counted
  pub counted_all : (left count : ℕ) → IsCounted c left count → left ≡ 0 → count ≡ length (walk (values c))
  counted_all left count so none = summed_all (HasNone c) counts none_in left count so none ∙ count_below-walk (values c)
