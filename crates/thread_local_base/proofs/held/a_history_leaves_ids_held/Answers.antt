use Rattle.thread_local_base.proofs.IdMoveLaws as laws
use Rattle.thread_local_base.proofs.held.a_history_leaves_ids_held.Goals as goal

pub returns-clause-take : goal.returns-clause-take
returns-clause-take c = laws.after_take

pub returns-clause-give : goal.returns-clause-give
returns-clause-give c = laws.after_give

pub returns-clause-peak : goal.returns-clause-peak
returns-clause-peak c = laws.peak_grows
