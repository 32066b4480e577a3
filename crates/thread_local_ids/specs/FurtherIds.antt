-- What a contract sees of the further ids, which lie under a lock.
use Rattle.std.specs.Prelude.{◌≡◌, ℕ, ◌-◌, ◌^◌, ◌<◌, ◌≤◌, max, List, length}
use Rattle.thread_local_base.specs.Held.{Manager}
use Rattle.thread_local_base.specs.IdMoves.{IdMove, held_after}
use Rattle.thread_local_ids.specs.FirstIds.{IsSameBeyond}
use Rattle.thread_local_ids.specs.Filled.{IsFilled}
use Rattle.thread_local_ids.specs.declared.further.Further.TheInside.{Inside}

-- the manager, the name of the table, and the moves up to the last one of a further id
pub record FurtherIds : Type 0 where
  pub manager : Manager
  pub table : ℕ
  pub moves : List IdMove

abbrev pub further_of : Inside → FurtherIds
further_of i = record { manager = i.manager; table = i.log.table; moves = i.log.moves }

-- of the further ids the manager holds those that the history leaves held, and there is still room
-- for as many as at the beginning, of which the first need none of the manager's
pub record IsFurther (i : Inside) : Type 0 where
  pub filled : IsFilled i.manager.held
  pub beyond : IsSameBeyond (held_after i.log.moves) i.manager.held
  pub reached : i.reached ≡ length (held_after i.log.moves) - 58
  pub few : i.reached < 2 ^ 63
  pub room : i.start.room ≤ max 58 i.manager.room
  pub start : i.start.table ≡ i.log.table
