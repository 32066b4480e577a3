use Rattle.std.proofs.Common.{◌∙◌, sym, ap}
use Rattle.std.proofs.lemmas.Bool.{false≢true}
use Rattle.std.proofs.lemmas.Option.{none-some}
use Rattle.thread_local_pool.specs.Pooled.{PooledView}
use Rattle.thread_local_pool.proofs.PoolLends.{newness, as_found}
use Rattle.thread_local_pool.proofs.Pooled.tried.Goals as goal

-- The search for these takes a second.
pub create-requires : goal.create-requires
create-requires g c = c.requires c.in-None.is

pub returns-in-Some-clause-is_new : goal.returns-in-Some-clause-is_new
returns-in-Some-clause-is_new g c = newness c.in-Some.is c.new.ensures

pub returns-in-Some-clause-kept : goal.returns-in-Some-clause-kept
returns-in-Some-clause-kept g c = as_found c.in-Some.is c.new.ensures

pub returns-in-Some-clause-created : goal.returns-in-Some-clause-created
returns-in-Some-clause-created g c = λ new.
    absurd (false≢true (sym (ap (λ (pooled : PooledView g.row.T.Denot). pooled.is_new) c.new.ensures) ∙ new))

pub returns-in-Ok-clause-is_new : goal.returns-in-Ok-clause-is_new
returns-in-Ok-clause-is_new g c = newness c.in-None.is c.new-in-Ok.ensures

pub returns-in-Ok-clause-kept : goal.returns-in-Ok-clause-kept
returns-in-Ok-clause-kept g c = λ value found. absurd (none-some value (sym c.in-None.is ∙ found))

pub returns-in-Ok-clause-created : goal.returns-in-Ok-clause-created
returns-in-Ok-clause-created g c = λ new.
    rw (ap (λ (pooled : PooledView g.row.T.Denot). pooled.value) c.new-in-Ok.ensures) c.in-Ok.ensures

pub returns-clause-kept : goal.returns-clause-kept
returns-clause-kept g c = λ value found. absurd (none-some value (sym c.in-None.is ∙ found))

pub returns-clause-created : goal.returns-clause-created
returns-clause-created g c = c.in-Err.ensures
