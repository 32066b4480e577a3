-- The steps of one call of a walk: loads and looks, by what they find.
use Rattle.std.specs.Prelude.{◌≡◌, Bool, false, List, [], ◌∷◌, IsTrue, MatchBool, if◌then◌else◌}
use Rattle.thread_local_base.specs.Cursor.{Cursor, may_load, after_load, after_look}

-- the cursor after the next step, by what the step finds: a look finds a value or none, and a load
-- finds the bucket or none
abbrev pub after_step : Cursor → Bool → Cursor
after_step cursor found = if cursor.looks then after_look cursor found else after_load cursor found

-- the next step gives no value: a look finds none, and a load is made at one of the buckets
abbrev pub GivesNothing : Cursor → Bool → Type 0
GivesNothing cursor found = MatchBool cursor.looks (found ≡ false) (IsTrue (may_load cursor))

-- steps that find this, one after another, give no value and lead from one cursor to another
abbrev pub Passes : Cursor → List Bool → Cursor → Type 0
Passes from [] to = from ≡ to
Passes from (found ∷ rest) to = GivesNothing from found × Passes (after_step from found) rest to

-- steps that give no value lead from one cursor to another
pub record SilentSteps (from to : Cursor) : Type 0 where
  pub found : List Bool
  pub passes : Passes from found to
