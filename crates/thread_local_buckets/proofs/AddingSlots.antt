-- A loop over the buckets that may stand adds up the slots of those that do.
use Rattle.std.proofs.Common.{◌≡◌, ℕ, ◌+◌, ◌^◌, ◌<◌, ◌≤◌, true, false, [], List, Option, length, refl, sym, ap, ◌∙◌, arith, pow_mono}
use Rattle.std.specs.Prelude.{nat_lt}
use Rattle.thread_local_base.specs.Bits.{IsLowestSet, IsWordBut}
use Rattle.thread_local_base.specs.Buckets.{Contents, row, stands, slots, slots_below}
use Rattle.thread_local_base.proofs.SlotsLaws.{slots_below-lt}
use Rattle.thread_local_base.proofs.StandingLaws.{slots_below-zero, slots_below-standing, slots_below-absent, slots-all, row-absent}
use Rattle.thread_local_buckets.specs.Announced.{Covers, IsMissing}
use Rattle.thread_local_buckets.proofs.Passing.{AreAhead-all}
use Rattle.thread_local_buckets.proofs.Summing.{IsSummed, summed_more, summed_past, summed_all}

-- the slots of the buckets that the loop has taken out of the word are added up
abbrev pub IsAdded : {V : Type 0} → Contents V → ℕ → ℕ → Type 0
IsAdded contents = IsSummed (IsMissing contents) (slots_below (stands contents))

module _ {V : Type 0} (c : Contents V) where
  missing : (b : ℕ) → row c b ≡ [] → slots_below (stands c) (b + 1) ≡ slots_below (stands c) b
  missing b none = slots_below-absent (stands c) b (ap (λ (r : List (Option V)). nat_lt 0 (length r)) none)

  pub added_none : (word : ℕ) → Covers word c → IsAdded c word 0
  added_none word told = record {
    from = 0;
    low = omega arith;
    ahead = AreAhead-all (IsMissing c) word told;
    summed = sym (slots_below-zero (stands c));
  }

  -- the loop takes a bucket that stands
  pub added_more : (d : Contents V) (sum size left rest b : ℕ) → IsAdded c left sum → IsLowestSet left b
      → IsWordBut rest left b false → d ≡ c → stands d b ≡ true → size ≡ 2 ^ b
      → IsAdded c rest (sum + size)
  added_more d sum size left rest b so low but same stood all =
      summed_more (IsMissing c) (slots_below (stands c)) missing left rest b sum size so low but
      (let more = slots_below-standing (stands c) b (ap (λ w. stands w b) (sym same) ∙ stood) in omega (arith, more, all))

  -- or one that doesn't
  pub added_absent : (d : Contents V) (sum left rest b : ℕ) → IsAdded c left sum → IsLowestSet left b
      → IsWordBut rest left b false → d ≡ c → stands d b ≡ false → IsAdded c rest sum
  added_absent d sum left rest b so low but same none =
      summed_past (IsMissing c) (slots_below (stands c)) missing left rest b sum so low but (row-absent c b (ap (λ w. stands w b) (sym same) ∙ none))

  pub added_fits : (left sum : ℕ) → IsAdded c left sum → sum < 2 ^ 63
  added_fits left sum so =
      let few = slots_below-lt (stands c) so.from in
      let up : 2 ^ so.from ≤ 2 ^ 63 = pow_mono so.low in
      omega (arith, few, up, so.summed)

  -- where no bucket is left, all are added up
  pub added_all : (left sum : ℕ) → IsAdded c left sum → left ≡ 0 → sum ≡ slots (stands c)
  added_all left sum so none = summed_all (IsMissing c) (slots_below (stands c)) missing left sum so none ∙ slots-all (stands c) 63 refl
