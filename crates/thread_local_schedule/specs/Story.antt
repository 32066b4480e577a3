-- One schedule in parts: four `Local`s publish, a walk runs, the ids are given back, and the next
-- `Local` calls.
use Rattle.std.specs.Prelude.{ℕ, zero, suc, false, List, [], ◌∷◌, ◌++◌, Ok}
use Rattle.thread_local_schedule.specs.Local.{LocalStep, BeginGet, BeginGetOr, LoadPointer, LookAtFlag, MakeBucket}
use Rattle.thread_local_schedule.specs.Local.{FillBucket, InstallBucket, WriteValue, SetFlag, Reply}
use Rattle.thread_local_schedule.specs.SharedWalk.{Pass, Load, Look}
use Rattle.thread_local_schedule.specs.Core.{Core, new_core}
use Rattle.thread_local_schedule.specs.Events.{Event, TakeId, OfLocal, GiveBack, BeginWalk, OfWalk, EndWalk, run}

-- the steps of a Local, one after another
abbrev pub steps_of : {V E : Type 0} → ℕ → List (LocalStep V E) → List (Event V E)
steps_of number [] = []
steps_of number (step ∷ steps) = OfLocal number step ∷ steps_of number steps

-- a publishing call whose bucket is missing, and announced
abbrev pub publishes_first : {V E : Type 0} → ℕ → V → List (Event V E)
publishes_first number value =
    steps_of number (BeginGetOr (Ok value) ∷ LoadPointer ∷ MakeBucket false ∷ FillBucket ∷ InstallBucket ∷ [])

-- a publishing call whose bucket stands, and is announced
abbrev pub publishes_beside : {V E : Type 0} → ℕ → V → List (Event V E)
publishes_beside number value = steps_of number (BeginGetOr (Ok value) ∷ LoadPointer ∷ LookAtFlag ∷ WriteValue ∷ SetFlag ∷ [])

-- four Locals are made, and then publish one after another, with no refusal
unfoldable pub four_publish : {V E : Type 0} → V → V → V → V → List (Event V E)
four_publish a b c d =
    TakeId false 0 ∷ TakeId false 0 ∷ TakeId false 0 ∷ TakeId false 0 ∷ []
    ++ publishes_first 0 a ++ publishes_first 1 b ++ publishes_beside 2 c ++ publishes_first 3 d

-- n passes, n loads and n looks of a walk, in turn: those that aren't enabled do nothing
unfoldable pub walk_on : {V E : Type 0} → ℕ → ℕ → List (Event V E)
walk_on number zero = []
walk_on number (suc n) = OfWalk number Pass ∷ OfWalk number Load ∷ OfWalk number Look ∷ walk_on number n

-- a walk, from its start to its end
unfoldable pub whole_walk : {V E : Type 0} → List (Event V E)
whole_walk = BeginWalk ∷ walk_on 0 70

-- the four give their ids back
unfoldable pub four_give_back : {V E : Type 0} → List (Event V E)
four_give_back = GiveBack 0 ∷ GiveBack 1 ∷ GiveBack 2 ∷ GiveBack 3 ∷ []

-- a new table after the four have published
unfoldable pub after_publishing : {V E : Type 0} → V → V → V → V → Core V E
after_publishing a b c d = run new_core (four_publish a b c d)

-- the same after a walk has run to its end
unfoldable pub after_walking : {V E : Type 0} → V → V → V → V → Core V E
after_walking a b c d = run (after_publishing a b c d) whole_walk

-- the same after that walk is over and the four have given their ids back
unfoldable pub after_giving_back : {V E : Type 0} → V → V → V → V → Core V E
after_giving_back a b c d = run (after_walking a b c d) (EndWalk 0 ∷ four_give_back)

-- the steps of the next Local: a get, and a publishing call with another value
abbrev pub next_calls : {V E : Type 0} → V → List (Event V E)
next_calls other = steps_of 4 (BeginGet ∷ LoadPointer ∷ LookAtFlag ∷ Reply ∷ BeginGetOr (Ok other) ∷ Reply ∷ [])

-- the same after the next Local was taken and made its calls
unfoldable pub after_next : {V E : Type 0} → V → V → V → V → Core V E
after_next a b c d = run (after_giving_back a b c d) (TakeId false 0 ∷ next_calls b)

-- the same after that one gave its id back too
unfoldable pub after_all : {V E : Type 0} → V → V → V → V → Core V E
after_all a b c d = run (after_next a b c d) (GiveBack 4 ∷ [])
