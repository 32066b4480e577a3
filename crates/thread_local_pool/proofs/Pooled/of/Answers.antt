use Rattle.std.proofs.Common.{◌∙◌, sym, ap}
use Rattle.std.proofs.lemmas.Option.{none-some}
use Rattle.thread_local_pool.specs.Pooled.{PooledView}
use Rattle.thread_local_pool.proofs.PoolLends.{newness, as_found}
use Rattle.thread_local_pool.proofs.Pooled.of.Goals as goal

-- The search for these takes a second.
pub create-requires : goal.create-requires
create-requires g c = c.requires c.in-None.is

pub returns-in-Some-clause-is_new : goal.returns-in-Some-clause-is_new
returns-in-Some-clause-is_new g c = newness c.in-Some.is c.new.ensures

pub returns-in-Some-clause-kept : goal.returns-in-Some-clause-kept
returns-in-Some-clause-kept g c = as_found c.in-Some.is c.new.ensures

pub returns-in-Some-clause-created : goal.returns-in-Some-clause-created
returns-in-Some-clause-created g c = λ none. absurd (none-some _ (sym none ∙ c.in-Some.is))

pub returns-in-None-clause-is_new : goal.returns-in-None-clause-is_new
returns-in-None-clause-is_new g c = newness c.in-None.is c.new-in-None.ensures

pub returns-in-None-clause-kept : goal.returns-in-None-clause-kept
returns-in-None-clause-kept g c = λ value found. absurd (none-some value (sym c.in-None.is ∙ found))

pub returns-in-None-clause-created : goal.returns-in-None-clause-created
returns-in-None-clause-created g c = λ none.
    rw (ap (λ (pooled : PooledView g.row.T.Denot). pooled.value) c.new-in-None.ensures) c.create.ensures
