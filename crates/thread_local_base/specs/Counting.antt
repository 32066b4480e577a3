-- How many values a map has at the ids below n.
use Rattle.std.specs.Prelude.{ℕ, Option, length}
use Rattle.thread_local_base.specs.Walk.{walk_below}

unfoldable pub count_below : {V : Type 0} → (ℕ → Option V) → ℕ → ℕ
count_below values n = length (walk_below values n)
