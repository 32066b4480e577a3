use Rattle.std.proofs.Common.{ℕ, ◌/◌, ◌^◌, ◌<◌, refl, sym, subst, arith}
use Rattle.std.specs.Int.{w64, trailing_ones}
use Rattle.thread_local_base.specs.Bits.{IsLowestUnset}
use Rattle.thread_local_base.proofs.Word.{lowest_unset}
use Rattle.thread_local_ids.proofs.first.FirstIds.take.Goals as goal

lowest : (n : ℕ) → n < 2 ^ 64 → IsLowestUnset (n / 64) (trailing_ones w64 (n / 64))
lowest n fits =
    let few : n / 64 < 2 ^ 58 = omega (arith, fits) in
    lowest_unset (n / 64) (omega (arith, few)) (λ all. absurd (omega (arith, all, few)))

pub word_with-requires-clause-lowest : goal.word_with-requires-clause-lowest
word_with-requires-clause-lowest c =
    subst (IsLowestUnset (c.loop.seen / 64)) (sym c.trailing_ones-id.ensures) (lowest c.loop.seen (omega arith))

pub try_take-found-requires-in-loop-clause-lowest : goal.try_take-found-requires-in-loop-clause-lowest
try_take-found-requires-in-loop-clause-lowest c =
    subst (IsLowestUnset (c.loop.seen / 64)) (sym c.trailing_ones-id.ensures) (lowest c.loop.seen (omega arith))

pub try_take-found-requires-clause-lowest : goal.try_take-found-requires-clause-lowest
try_take-found-requires-clause-lowest _ =
    record { within = omega arith; unset = refl; lower = λ _ below. absurd (omega (arith, below)) }
