use Rattle.std.proofs.Common.{◌≡◌, ◌∙◌, ℕ, None, lit<, ap, rules}
use Rattle.thread_local_base.specs.Buckets.{Contents, values}
use Rattle.thread_local_base.proofs.ValueLaws.{values-no_contents}
use Rattle.thread_local.proofs.Grown.{grown_new}
use Rattle.thread_local.proofs.table.ThreadLocalMadeWithGlobal.made_with.Goals as goal

pub of-requires : goal.of-requires
of-requires g c =
    let none : (id : ℕ) → values c.new.result.contents id ≡ None =
    λ id. ap (λ (w : Contents g.row.T.Denot). values w id) c.new.ensures.contents ∙ values-no_contents g.row.T.Denot id in
    (lit< tt, (lit< tt, (c.judge.ensures.judged, (none, c.new-2.ensures.new))))

pub returns : goal.returns
returns g c = (
  c.of.ensures.sharing,
  c.of.ensures.first,
  c.of.ensures.reserved ∙ c.new.ensures.reserved,
  c.of.ensures.room ∙ search rules,
  c.of.ensures.grown ∙ grown_new c.new.result c.new.ensures.contents,
)
