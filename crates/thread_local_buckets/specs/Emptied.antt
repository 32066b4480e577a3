-- An owner's buckets without their values.
use Rattle.thread_local_base.specs.Owned.{Owned}
use Rattle.thread_local_base.specs.Owner.{emptied}

-- the same buckets stand, and as many slots are reserved
abbrev pub owned_emptied : {V : Type 0} → Owned V → Owned V
owned_emptied owned = record owned { contents = emptied owned.contents }
