-- What steps on the word of the first ids leave, and what takes answer.
use Rattle.std.specs.Prelude.{◌≡◌, ℕ, Bool, true, false, ◌-◌, ◌^◌, List, Option, Some, None, Result, Ok, Err, alloc_error}
use mathlib.Core.List.{IsPrefix}
use Rattle.thread_local_base.specs.Held.{HoldsAllBelow}
use Rattle.thread_local_base.specs.IdMoves.{IdMove, Take, held_after, noted, published_in}
use Rattle.thread_local_base.specs.declared.manager.LocalError.{LocalError}
use Rattle.thread_local_ids.specs.declared.rights.held.HeldId.{HeldId}
use Rattle.thread_local_ids.specs.declared.rights.page.Page.{Page}
use Rattle.thread_local_ids.specs.declared.rights.right.Right.{Right}
use Rattle.thread_local_ids.specs.Rights.{taken_id}

-- what a step leaves, which took the least id after the right's moves, or saw these
pub record IsStepped (table : ℕ) (took : Bool) (right : Right) : Type 0 where
  pub of_table : right.table ≡ table
  pub held : right.held ≡ took
  pub here : right.lent ≡ false
  pub left : right.left ≡ published_in right.before (taken_id right.before)

-- the right to an id of a table, while the id is held
abbrev pub IsRightTo : ℕ → ℕ → Right → Type 0
IsRightTo table id right = (right.table ≡ table) × (id ≡ taken_id right.before) × (right.held ≡ true)

-- the id was taken after moves that extend `early`, and `later` are these moves with the take
pub record IsTakenAfter (table : ℕ) (early later : List IdMove) (held : HeldId) : Type 0 where
  pub of_table : held.right.table ≡ table
  pub since : IsPrefix early held.right.before
  pub moves : later ≡ noted held.right.before Take
  pub left : held.right.left ≡ published_in held.right.before held.id

-- no id was taken: after the moves of `later`, which extend those of `early`, all ids are held that
-- there is room for, or all that there are
pub record IsRefusedAfter (early later : Page) (error : LocalError) : Type 0 where
  pub since : IsPrefix early.moves later.moves
  pub memory : error ≡ LocalError.Memory alloc_error → HoldsAllBelow early.room (held_after later.moves)
  pub exhausted : error ≡ LocalError.Exhausted → HoldsAllBelow (2 ^ 63 - 1) (held_after later.moves)

-- what a take answers that goes on under the lock
abbrev pub IsTake : (table : ℕ) (early later : Page) → Result HeldId LocalError → Type 0
IsTake table early later (Ok held) = IsTakenAfter table early.moves later.moves held
IsTake table early later (Err error) = IsRefusedAfter early later error

-- what one try under the lock answers: where it answers nothing, it leaves the page as it is
abbrev pub IsTry : (table : ℕ) (early later : Page) → Option (Result HeldId LocalError) → Type 0
IsTry table early later None = later ≡ early
IsTry table early later (Some tried) = IsTake table early later tried
