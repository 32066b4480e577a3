-- A loop over the buckets of a word adds up what they have: values, or slots.
use Rattle.std.proofs.Common.{◌≡◌, ℕ, zero, suc, ◌+◌, ◌-◌, ◌<◌, ◌≤◌, false, sym, ap, ◌∙◌, arith}
use Rattle.thread_local_base.specs.Bits.{IsLowestSet, IsWordBut}
use Rattle.thread_local_buckets.specs.Announced.{AreAhead}
use Rattle.thread_local_buckets.proofs.Passing.{takes, none_ahead}

-- what the buckets have that the loop has taken out of the word; `below` is what those before a bucket have
pub record IsSummed (Lacks : ℕ → Type 0) (below : ℕ → ℕ) (left sum : ℕ) : Type 0 where
  pub from : ℕ
  pub low : from ≤ 63
  pub ahead : AreAhead Lacks left from
  pub summed : sum ≡ below from

module _ (Lacks : ℕ → Type 0) (below : ℕ → ℕ) (lacking : (b : ℕ) → Lacks b → below (b + 1) ≡ below b) where
  -- buckets that lack what is summed have nothing
  passed : (from n : ℕ) → ((k : ℕ) → from ≤ k → k < from + n → Lacks k) → below (from + n) ≡ below from
  passed from zero none = let same : from + 0 ≡ from = omega arith in ap below same
  passed from (suc n) none =
      let next : from + suc n ≡ from + n + 1 = omega arith in
      ap below next
      ∙ lacking (from + n) (none (from + n) (omega arith) (omega arith))
      ∙ passed from n (λ k after near. none k after (omega (arith, near)))

  up_to : (sum from b : ℕ) → from ≤ b → ((k : ℕ) → from ≤ k → k < b → Lacks k) → sum ≡ below from → sum ≡ below b
  up_to sum from b order none summed =
      let whole : from + (b - from) ≡ b = omega arith in
      summed ∙ sym (passed from (b - from) (λ k after near. none k after (omega (arith, near)))) ∙ ap below whole

  -- the loop takes a bucket that adds so many
  pub summed_more : (left rest b sum more : ℕ) → IsSummed Lacks below left sum → IsLowestSet left b → IsWordBut rest left b false
      → below b + more ≡ below (b + 1)
      → IsSummed Lacks below rest (sum + more)
  summed_more left rest b sum more so low but here =
      let taken = takes Lacks left rest so.from b so.ahead low but in
      let before = up_to sum so.from b taken.after taken.passed so.summed in
      record {
        from = b + 1;
        low = (let low = taken.in_table in omega arith);
        ahead = taken.ahead;
        summed = omega (arith, before, here);
      }

  -- or one that has nothing
  pub summed_past : (left rest b sum : ℕ) → IsSummed Lacks below left sum → IsLowestSet left b → IsWordBut rest left b false
      → Lacks b
      → IsSummed Lacks below rest sum
  summed_past left rest b sum so low but none =
      let more = summed_more left rest b sum 0 so low but (omega (arith, lacking b none)) in
      record { from = more.from; low = more.low; ahead = more.ahead; summed = omega (arith, more.summed) }

  -- where no bucket is left, all are added up
  pub summed_all : (left sum : ℕ) → IsSummed Lacks below left sum → left ≡ 0 → sum ≡ below 63
  summed_all left sum so none = up_to sum so.from 63 so.low (none_ahead Lacks left so.from so.ahead none) so.summed
