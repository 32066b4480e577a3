-- what the book tells so far
use Rattle.std.proofs.Common.{◌≡◌, ◌-◌, ◌^◌, ◌<◌, Some}
use Rattle.std.specs.List.{AllWithin}
use Rattle.thread_local_base.specs.Buckets.{values}
use Rattle.thread_local_ids.proofs.tokens.book.Book.tells_all.Given as goal

abbrev pub invariant-loop-index : goal.invariant-loop-index
invariant-loop-index g l =
    AllWithin
    (λ token. (token.id < 2 ^ 63 - 1) × (values l.self.contents token.id ≡ Some token.value))
    l.tokens 0 l.index
