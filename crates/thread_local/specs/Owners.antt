-- What an owner's call leaves of a table, whatever it writes.
use Rattle.std.specs.Prelude.{◌≡◌}
use Rattle.thread_local.specs.Tables.{ThreadLocalView}

-- it has its name, as many reserved slots, and its room
pub record KeepsReserved (old left : ThreadLocalView) : Type 0 where
  pub table : left.table ≡ old.table
  pub reserved : left.reserved ≡ old.reserved
  pub room : left.room ≡ old.room
