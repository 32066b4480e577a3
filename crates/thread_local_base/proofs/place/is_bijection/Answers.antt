use Rattle.thread_local_base.proofs.PlaceLaws as laws
use Rattle.thread_local_base.proofs.place.is_bijection.Goals as goal

pub returns-clause-equation : goal.returns-clause-equation
returns-clause-equation c = laws.equation

pub returns-clause-inside : goal.returns-clause-inside
returns-clause-inside c = laws.inside

pub returns-clause-only : goal.returns-clause-only
returns-clause-only c = laws.only_place

pub returns-clause-back : goal.returns-clause-back
returns-clause-back c = laws.id_at-place

pub returns-clause-onto : goal.returns-clause-onto
returns-clause-onto c = laws.place-id_at

pub returns-clause-bounded : goal.returns-clause-bounded
returns-clause-bounded c = laws.bucket_of-below

pub returns-clause-filled : goal.returns-clause-filled
returns-clause-filled c = laws.id_at-below
