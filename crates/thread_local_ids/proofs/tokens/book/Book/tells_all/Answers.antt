use Rattle.std.proofs.Common.{◌≡◌, ◌∙◌, length, arith, subst}
use Rattle.std.specs.List.{AllWithin}
use Rattle.std.proofs.lemmas.List.{get_or_default}
use Rattle.std.proofs.lemmas.List.Elements.{AllWithin-more}
use Rattle.thread_local_base.specs.Buckets.{values}
use Rattle.thread_local_ids.proofs.Whole.{IsIn, tokens_are_all}
use Rattle.thread_local_ids.proofs.tokens.book.Book.tells_all.Goals as goal

pub loop-index-preserved : goal.loop-index-preserved
loop-index-preserved g c =
    let token = c.index-tokens-index in
    let told = c.tells.ensures in
    let tokens = c.args.tokens.now in
    let P = IsIn (values c.args.self.now.contents) in
    let n = c.loop-index.index in
    AllWithin-more P tokens 0 n c.loop-index.invariant (λ d.
    subst P (token.is ∙ get_or_default tokens n token.result d c.loop-index-test.true)
    (told.in_range, told.value))

pub returns : goal.returns
returns g c =
    let tokens = c.args.tokens.now in
    let vs = values c.args.self.now.contents in
    let end : c.loop-index.index ≡ length tokens = omega (arith, c.loop-index-test.false, c.loop-index.auto.index-end) in
    tokens_are_all vs tokens (subst (AllWithin (IsIn vs) tokens 0) end c.loop-index.invariant) c.requires.different c.requires.as_many
