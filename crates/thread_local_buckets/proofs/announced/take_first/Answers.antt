use Rattle.std.proofs.Common.{arith}
use Rattle.std.specs.Int.{w64, trailing_zeros}
use Rattle.thread_local_base.proofs.Word.{lowest_set, clear_lowest_at}
use Rattle.thread_local_buckets.proofs.announced.take_first.Goals as goal

pub returns-clause-first : goal.returns-clause-first
returns-clause-first c =
    lowest_set c.args.word.now (omega arith) (λ none. absurd (let some = c.requires in omega (arith, none, some)))

pub returns-clause-rest : goal.returns-clause-rest
returns-clause-rest c =
    clear_lowest_at c.args.word.now (trailing_zeros w64 c.args.word.now) (omega arith)
    (lowest_set c.args.word.now (omega arith) (λ none. absurd (let some = c.requires in omega (arith, none, some))))
