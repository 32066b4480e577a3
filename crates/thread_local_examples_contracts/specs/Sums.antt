-- What workers hand back of their parts of a sum.
use Rattle.std.specs.Prelude.{◌≡◌, ◌<◌, ℕ, List, length, slice_index_or, Option, Result, IfOk}
use Rattle.thread_local.specs.TokenViews.{TokenView}

-- each worker that has an answer has published the part of its number, and its token says so
abbrev pub HaveParts : {Kept Refused : Type 0} → Option ℕ → List ℕ → List (Result (Kept × TokenView ℕ) Refused) → Type 0
HaveParts {Kept} {Refused} sharing parts answers =
    (i : ℕ) (d : Result (Kept × TokenView ℕ) Refused) → i < length parts
    → IfOk (slice_index_or answers i d)
    (λ kept. (kept.1.sharing ≡ sharing) × (kept.1.value ≡ slice_index_or parts i 0))
