use Rattle.thread_local_base.proofs.CursorLaws as laws
use Rattle.thread_local_base.proofs.cursor.steps_pass_ids_upward.Goals as goal

pub returns-clause-load : goal.returns-clause-load
returns-clause-load c = laws.at_place-id

pub returns-clause-never_lower : goal.returns-clause-never_lower
returns-clause-never_lower c = laws.never_lower

pub returns-clause-look : goal.returns-clause-look
returns-clause-look c = laws.after_look-id

pub returns-clause-place : goal.returns-clause-place
returns-clause-place c = laws.place

pub returns-clause-bounded : goal.returns-clause-bounded
returns-clause-bounded c = laws.bounded
