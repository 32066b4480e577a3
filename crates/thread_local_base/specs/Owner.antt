-- How an owner's calls change the contents: they make a bucket, publish a value in a slot, clear,
-- or drain.
use Rattle.std.specs.Prelude.{ℕ, ◌<◌, ◌≡◌, nat_lt, List, [], map, Option, Some, None, if◌then◌else◌}
use Rattle.thread_local_base.specs.Place.{id_at}
use Rattle.thread_local_base.specs.Buckets.{Contents, stands, values}
use Rattle.thread_local_base.specs.Rows.{with_row, with_slot, empty_row}
use Rattle.thread_local_base.specs.IdMoves.{Publish}
use Rattle.thread_local_base.specs.Sheet.{Sheet, Move, OfHistory, Keep}

-- the contents with this bucket standing: unchanged where it stands already, and else with all its
-- slots empty
abbrev pub with_bucket : {V : Type 0} → Contents V → ℕ → Contents V
with_bucket contents bucket = if stands contents bucket then contents else with_row contents bucket (empty_row bucket)

-- the contents with this bucket standing, and this value in one of its slots
abbrev pub with_published : {V : Type 0} → Contents V → ℕ → ℕ → V → Contents V
with_published contents bucket index v = with_slot (with_bucket contents bucket) bucket index (Some v)

-- a bucket's slots after clearing: all of them, empty, where the bucket has a reserved slot, and
-- else none
abbrev pub cleared_row : {V : Type 0} → ℕ → ℕ → List (Option V)
cleared_row reserved bucket = if nat_lt (id_at bucket 0) reserved then empty_row bucket else []

-- the contents without their values: the same buckets stand
abbrev pub emptied : {V : Type 0} → Contents V → Contents V
emptied contents = record { rows = map (map (λ _. None)) contents.rows }

-- an owner's contents as a sheet on which no id is held
abbrev pub sheet_of : {V : Type 0} → Contents V → Sheet V
sheet_of contents = record { held = []; values = values contents; capacity = 0 }

-- offering a value at an id publishes it where there is none, and else keeps the one there
abbrev pub publish_or_keep : {V : Type 0} → Option V → ℕ → V → Move V
publish_or_keep None id v = OfHistory (Publish id v)
publish_or_keep (Some kept) id v = Keep id v

-- no id below n has a value
abbrev pub NoneBelow : {V : Type 0} → (ℕ → Option V) → ℕ → Type 0
NoneBelow values n = (id : ℕ) → id < n → values id ≡ None
