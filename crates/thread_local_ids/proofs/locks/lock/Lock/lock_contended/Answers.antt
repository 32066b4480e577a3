-- Each guard comes from a try, which says what holds of it.
use Rattle.thread_local_ids.proofs.locks.lock.Lock.lock_contended.Goals as goal

-- The search for these takes a while.
pub returns-in-Some-clause-tag : goal.returns-in-Some-clause-tag
returns-in-Some-clause-tag g c = c.in-Some.ensures.tag

pub returns-in-Some-clause-fits : goal.returns-in-Some-clause-fits
returns-in-Some-clause-fits g c = c.in-Some.ensures.fits

pub returns-in-Some-take-clause-tag : goal.returns-in-Some-take-clause-tag
returns-in-Some-take-clause-tag g c = c.in-Some-take.ensures.tag

pub returns-in-Some-take-clause-fits : goal.returns-in-Some-take-clause-fits
returns-in-Some-take-clause-fits g c = c.in-Some-take.ensures.fits
