-- The status and line of each fault, and what a command writes.
use Rattle.std.specs.Prelude.{◌≡◌, ℕ, ◌++◌, List, [], ◌∷◌, Option, Result, Ok, Err, MatchOption, codes}
use Rattle.std.specs.Io.KnownBytes.{Appends, Keeps}
use Rattle.thread_local_tls.specs.Moves.{ids_given}
use Rattle.thread_local_tls.specs.Words.{IsRunnable, NamesMoves, MayBeRun, tally_of, lines_of}
use Rattle.thread_local_base.specs.declared.manager.LocalError.{LocalError}
use Rattle.thread_local_tls.specs.declared.fault.Fault.{Fault}
use Rattle.thread_local_tls.specs.declared.fault.Fault.TheVariants.{Usage, Memory, Write}
use Rattle.thread_local_tls.specs.declared.moves.IdsError.{IdsError}
use Rattle.thread_local_tls.specs.declared.moves.IdsError.TheVariants.{Local, NotHeld}

-- the status with which the program ends
abbrev pub status_of : Fault → ℕ
status_of Usage = 2
status_of Memory = 1
status_of Write = 1

-- the line that tells of a fault
abbrev pub line_of : Fault → List ℕ
line_of Usage = codes "usage: tls ids WORDS.. | tls tally WORKERS NUMBERS\n"
line_of Memory = codes "tls: out of memory\n"
line_of Write = codes "tls: write failed\n"

-- a text is written, or its beginning
pub record IsBegun (text : List ℕ) (old new : Option (List ℕ)) : Type 0 where
  pub written : List ℕ
  pub rest : List ℕ
  pub splits : text ≡ written ++ rest
  pub appended : Appends old new written

-- the line of a fault is written, or its beginning
abbrev pub IsTold : Fault → Option (List ℕ) → Option (List ℕ) → Type 0
IsTold fault old new = IsBegun (line_of fault) old new

-- the fault of moves that can't run: to give back an id that isn't held is a wrong argument
abbrev pub fault_of : IdsError → Fault
fault_of (Local error) = Memory
fault_of NotHeld = Usage

-- the words spell moves that may run, and a line for each id that they take is written
pub record AnswersIds (words : List (List ℕ)) (old new : Option (List ℕ)) : Type 0 where
  pub runnable : IsRunnable words
  pub written : Appends old new (lines_of (ids_given [] runnable.moves))

-- `tally` answered a total, and a line with it is written
pub record IsToldAndWritten (told : Result ℕ LocalError → Type 0) (old new : Option (List ℕ)) : Type 0 where
  pub total : ℕ
  pub is_told : told (Ok total)
  pub written : Appends old new (lines_of (total ∷ []))

-- what is written answers the words: the total where they spell a tally, and otherwise the ids that
-- their moves take
abbrev pub Answers : (ℕ → ℕ → Result ℕ LocalError → Type 0) → List (List ℕ) → Option (List ℕ)
    → Option (List ℕ)
    → Type 0
Answers told words old new =
    MatchOption (tally_of words) (AnswersIds words old new)
    (λ tally. IsToldAndWritten (told tally.0 tally.1) old new)

-- memory may have been asked for: `tally` answered that it was refused, or the words name moves
abbrev pub MayBeRefused : (ℕ → ℕ → Result ℕ LocalError → Type 0) → List (List ℕ) → Type 0
MayBeRefused told words =
    MatchOption (tally_of words) (NamesMoves words)
    (λ tally. (error : LocalError) × told tally.0 tally.1 (Err error))

-- what holds where memory was refused, which is told: it may have been, and nothing is written
pub record IsRefused (told : ℕ → ℕ → Result ℕ LocalError → Type 0) (words : List (List ℕ))
    (old new old_err new_err : Option (List ℕ)) : Type 0 where
  pub may_be : MayBeRefused told words
  pub keeps : Keeps old new
  pub is_told : IsTold Memory old_err new_err

-- what holds where a write failed, which is told: the words spell what may run
pub record IsCutOff (words : List (List ℕ)) (old_err new_err : Option (List ℕ)) : Type 0 where
  pub may_run : MayBeRun words
  pub is_told : IsTold Write old_err new_err
