-- How many values a walk has left: those whose flags it has at hand, and those behind.
use Rattle.std.proofs.Common.{◌≡◌, ℕ, zero, suc, ◌+◌, ◌-◌, ◌*◌, ◌/◌, ◌^◌, ◌<◌, ◌≤◌, min, cond, length, count_ones, ◌∷◌}
use Rattle.std.proofs.Common.{Option, Some, None, is_some, refl, sym, ap, ◌∙◌, arith, ⊎_elim, length-append, pow_mono}
use Rattle.std.proofs.Common.{◌≢◌}
use Rattle.std.proofs.Math.Nat.{two-pow-succ}
use Rattle.std.specs.List.{count_by}
use Rattle.std.proofs.lemmas.Bool.{cases_lt}
use Rattle.std.proofs.lemmas.List.{get_or_past}
use Rattle.std.proofs.lemmas.List.FromFn.{sum_by-map-range_with_len_more}
use Rattle.thread_local_base.specs.Bits.{is_set, low_bits}
use Rattle.thread_local_base.proofs.Word.{count_ones-counts}
use Rattle.thread_local_base.specs.Place.{id_at}
use Rattle.thread_local_base.specs.Buckets.{Contents, row, values}
use Rattle.thread_local_base.specs.Rows.{value_in}
use Rattle.thread_local_base.specs.Walk.{walk, walk_below}
use Rattle.thread_local_base.proofs.WalkLaws.{walk_below-none, walk_below-add, length-walk_below}
use Rattle.thread_local_base.specs.Owner.{NoneBelow}
use Rattle.thread_local_base.specs.Counting.{count_below}
use Rattle.thread_local_buckets.specs.Cursor.{IsAt, read_to}
use Rattle.thread_local_buckets.specs.declared.cursor.RawIter.{RawIter}
use Rattle.thread_local_base.proofs.TakingLaws.{count_below-slot, count_below-walk, walk_below-taken}

-- how many of the lowest bits of a word are set
low_count : ℕ → ℕ → ℕ
low_count word n = count_by (λ v. v) (low_bits n word)

low_count-zero : (word : ℕ) → low_count word 0 ≡ 0
unfolding low_bits low_count
low_count-zero word = refl

low_count-more : (word n : ℕ) → low_count word (suc n) ≡ low_count word n + cond (is_set word n) 1 0
unfolding low_bits low_count
low_count-more word n =
    let one : suc n ≡ n + 1 = omega arith in
    ap (low_count word) one
    ∙ sum_by-map-range_with_len_more (λ v. cond v 1 0) (is_set word) 0 n n (omega arith)

low_count-all : (word : ℕ) → word < 2 ^ 64 → count_ones word ≡ low_count word 64
unfolding low_count
low_count-all word fits = count_ones-counts 64 word fits

module _ {V : Type 0} (c : Contents V) (b k word : ℕ) (whole : length (row c b) ≡ 2 ^ b)
    (low : k * 64 ≤ 2 ^ b)
    (flags : (bit : ℕ) → bit < 64 → is_set word bit ≡ is_some (value_in c b (k * 64 + bit))) where
  -- how many values there are before the slot at this index
  abbrev counted_to : ℕ → ℕ
  counted_to i = count_below (values c) (id_at b i)

  -- the lowest bits of a chunk's word count the values of as many of its slots
  count_below-bits : (n : ℕ) → n ≤ 64 → counted_to (min (k * 64 + n) (2 ^ b)) ≡ counted_to (k * 64) + low_count word n
  count_below-bits zero near =
      let same : min (k * 64 + 0) (2 ^ b) ≡ k * 64 = omega arith in
      ap counted_to same ∙ (let none = low_count-zero word in omega arith)
  count_below-bits (suc n) near =
      let at : ℕ = k * 64 + n in
      let before = count_below-bits n (omega arith) in
      let next : low_count word (suc n) ≡ low_count word n + cond (is_some (value_in c b at)) 1 0 =
      low_count-more word n ∙ ap (λ v. low_count word n + cond v 1 0) (flags n (omega arith)) in
      ⊎_elim
      (λ (inside : at < 2 ^ b).
      let now : min (k * 64 + suc n) (2 ^ b) ≡ at + 1 = omega arith in
      let was : at ≡ min at (2 ^ b) = omega arith in
      let slot : counted_to (at + 1) ≡ counted_to at + cond (is_some (value_in c b at)) 1 0 = count_below-slot c b at inside in
      let here : counted_to at ≡ counted_to (k * 64) + low_count word n = ap counted_to was ∙ before in
      ap counted_to now ∙ omega (arith, slot, here, next))
      (λ (past : 2 ^ b ≤ at).
      let now : min (k * 64 + suc n) (2 ^ b) ≡ min at (2 ^ b) = omega arith in
      let none : value_in c b at ≡ None = get_or_past (row c b) at None (omega (arith, whole)) in
      let nothing : cond {A = ℕ} (is_some (value_in c b at)) 1 0 ≡ 0 = ap (λ (o : Option V). cond {A = ℕ} (is_some o) 1 0) none in
      ap counted_to now ∙ before ∙ omega (arith, next, nothing))
      (cases_lt at (2 ^ b))

  -- and all its bits count the values of the chunk
  pub count_below-chunk : word < 2 ^ 64
      → count_below (values c) (id_at b (min ((k + 1) * 64) (2 ^ b)))
      ≡ count_below (values c) (id_at b (k * 64)) + count_ones word
  count_below-chunk fits =
      let same : min ((k + 1) * 64) (2 ^ b) ≡ min (k * 64 + 64) (2 ^ b) = omega arith in
      ap counted_to same ∙ count_below-bits 64 (omega arith) ∙ ap (λ m. counted_to (k * 64) + m) (sym (low_count-all word fits))

module _ {V : Type 0} where
  -- where no id below n has a value, none is counted
  count_below-nothing : (values : ℕ → Option V) (n : ℕ) → NoneBelow values n → count_below values n ≡ 0
  unfolding count_below
  count_below-nothing values n none = ap length (walk_below-none values n none)

  -- more ids count no less
  count_below-more_ids : (values : ℕ → Option V) (n k : ℕ) → count_below values n ≤ count_below values (n + k)
  unfolding count_below
  count_below-more_ids values n k =
      let both : length (walk_below values (n + k))
      ≡ length (walk_below values n) + length (walk_below (λ i. values (n + i)) k) =
      ap length (walk_below-add values n k)
      ∙ length-append (walk_below values n) (walk_below (λ i. values (n + i)) k) in
      omega (arith, both)

  -- a walk has fewer than 2 ^ 63 values
  pub walk-few : (values : ℕ → Option V) → length (walk values) < 2 ^ 63
  unfolding walk
  walk-few values = omega (arith, length-walk_below values (2 ^ 63 - 1))

  -- the flags at hand count the values up to the place where the walk goes on
  pub counted_at_hand : (c : Contents V) (raw : RawIter) (rest : ℕ) → rest < 2 ^ 64
      → IsAt c raw rest
      → count_below (values c) (read_to raw) ≡ count_ones rest
  unfolding lib.Count.ones
  counted_at_hand c raw rest fits at =
      let b : ℕ = raw.bucket in
      let size = at.size in
      let round = at.round in
      let within = at.within in
      ⊎_elim
      (λ (start : raw.index < 1).
      let here : read_to raw ≡ id_at b 0 = omega arith in
      let nothing : rest ≡ 0 = at.none (omega arith) in
      let none : NoneBelow (values c) (id_at b 0) = λ id below. at.behind id (omega arith) in
      ap (count_below (values c)) here ∙ count_below-nothing (values c) (id_at b 0) none ∙ sym (ap count_ones nothing))
      (λ (some : 1 ≤ raw.index).
      let k : ℕ = raw.index / 64 - 1 in
      let first : k * 64 ≡ raw.index - 64 = omega arith in
      let chunk : (raw.index - 64) / 64 * 64 ≡ k * 64 = omega arith in
      let flags : (bit : ℕ) → bit < 64 → is_set rest bit ≡ is_some (value_in c b (k * 64 + bit)) =
      λ bit inside. at.flags some bit inside ∙ ap (λ i. is_some (value_in c b (i + bit))) chunk in
      let here : read_to raw ≡ id_at b (min ((k + 1) * 64) (2 ^ b)) = omega arith in
      let none : count_below (values c) (id_at b (k * 64)) ≡ 0 =
      count_below-nothing (values c) (id_at b (k * 64))
      (λ id below. at.behind id (omega arith)) in
      let more = ap (count_below (values c)) here ∙ count_below-chunk c b k rest (at.whole some ∙ size) (omega arith) flags fits in
      omega (arith, more, none))
      (cases_lt raw.index 1)

  -- which are among those that the walk has left
  pub few_at_hand : (c : Contents V) (raw : RawIter) (rest : ℕ) → rest < 2 ^ 64 → IsAt c raw rest
      → count_ones rest ≤ length (walk (values c))
  few_at_hand c raw rest fits at =
      let size = at.size in
      let low = at.in_table in
      let up : 2 ^ suc raw.bucket ≤ 2 ^ 63 = pow_mono low in
      let twice = two-pow-succ raw.bucket in
      let more = count_below-more_ids (values c) (read_to raw) (2 ^ 63 - 1 - read_to raw) in
      let end : read_to raw + (2 ^ 63 - 1 - read_to raw) ≡ 2 ^ 63 - 1 = omega arith in
      let all : count_below (values c) (read_to raw + (2 ^ 63 - 1 - read_to raw))
      ≡ length (walk (values c)) =
      ap (count_below (values c)) end ∙ count_below-walk (values c) in
      omega (arith, counted_at_hand c raw rest fits at, more, all)

  -- once the first value, at n, is taken, one less is counted
  pub count_below-taken : (values others : ℕ → Option V) (n : ℕ) (v : V) → NoneBelow values n
      → values n ≡ Some v → others n ≡ None → ((id : ℕ) → id ≢ n → others id ≡ values id)
      → (k : ℕ) → n < k → count_below others k + 1 ≡ count_below values k
  unfolding count_below
  count_below-taken values others n v none here gone same k after =
      let one : length (walk_below values k) ≡ length (v ∷ walk_below others k) =
      ap length (walk_below-taken values others n v none here gone same k after) in
      omega (arith, one)
