-- What the words of a command line spell: moves, a tally, or neither.
use Rattle.std.specs.Prelude.{◌≡◌, ℕ, ◌^◌, ◌&&◌, ◌++◌, List, [], ◌∷◌, length, nat_lt, map, flat_map, Option, Some, None}
use Rattle.std.specs.Prelude.{option_map, option_and_then, MatchOption, if◌then◌else◌, codes, bytes_eq, decimal, String}
use Rattle.std.specs.Prelude.{string_bytes, IsTrue}
use Rattle.std.specs.Char.{is_ascii_digit}
use Rattle.std.specs.List.{list_all}
use Rattle.std.specs.declared.alloc.Global.{Global}
use Rattle.std.specs.Str.Parse.{digits_value}
use Rattle.thread_local_tls.specs.Limits.{limited}
use Rattle.thread_local_tls.specs.Moves.{MayRun}
use Rattle.thread_local_tls.specs.declared.moves.Move.{Move}
use Rattle.thread_local_tls.specs.declared.moves.Move.TheVariants.{Take, Give}

-- the bytes of each word
abbrev pub texts : List (String Global) → List (List ℕ)
texts words = map string_bytes words

-- the number that a word spells: one or more digits, with a value below 2^64
abbrev pub number_of : List ℕ → Option ℕ
number_of word =
    if nat_lt 0 (length word) && list_all is_ascii_digit word && nat_lt (digits_value 10 word) (2 ^ 64)
    then Some (digits_value 10 word)
    else None

-- a move in front of others
abbrev pub move_then : Move → Option (List Move) → Option (List Move)
move_then move moves = option_map (λ rest. move ∷ rest) moves

-- the moves that the words spell: `take`, or `give` and a number
unfoldable pub moves_of : List (List ℕ) → Option (List Move)
moves_of [] = Some []
moves_of (word ∷ []) = if bytes_eq word (codes "take") then Some (Take ∷ []) else None
moves_of (word ∷ next ∷ words) =
    if bytes_eq word (codes "take") then move_then Take (moves_of (next ∷ words))
    else (if bytes_eq word (codes "give") then option_and_then (λ id. move_then (Give id) (moves_of words)) (number_of next) else None)

-- the moves of a command line: `ids`, and then at least one move
abbrev pub moves_named : List (List ℕ) → Option (List Move)
moves_named [] = None
moves_named (command ∷ words) = if bytes_eq command (codes "ids") && nat_lt 0 (length words) then moves_of words else None

-- the words name moves: `ids`, and then at least one word
abbrev pub NamesMoves : List (List ℕ) → Type 0
NamesMoves [] = ⊥
NamesMoves (command ∷ words) = IsTrue (bytes_eq command (codes "ids") && nat_lt 0 (length words))

-- the workers and the numbers of a command line: `tally`, and then two numbers within the limits
abbrev pub tally_of : List (List ℕ) → Option (ℕ × ℕ)
tally_of [] = None
tally_of (command ∷ []) = None
tally_of (command ∷ workers ∷ []) = None
tally_of (command ∷ workers ∷ numbers ∷ []) =
    if bytes_eq command (codes "tally") then option_and_then
    (λ w. option_and_then (λ n. limited w n) (number_of numbers)) (number_of workers) else None
tally_of (command ∷ workers ∷ numbers ∷ more ∷ words) = None

-- the words spell moves that may run
pub record IsRunnable (words : List (List ℕ)) : Type 0 where
  pub moves : List Move
  pub spelled : moves_named words ≡ Some moves
  pub may_run : MayRun [] moves

-- the words spell what may run: a tally within the limits, or moves that may run
abbrev pub MayBeRun : List (List ℕ) → Type 0
MayBeRun words = MatchOption (tally_of words) (IsRunnable words) (λ tally. Unit {0})

-- the words spell no moves, or moves that give back an id that isn't held
abbrev pub MayNotRun : List (List ℕ) → Type 0
MayNotRun words = MatchOption (moves_named words) (Unit {0}) (λ moves. ¬ MayRun [] moves)

-- the words spell no moves that may run, and no tally within the limits
abbrev pub IsMisuse : List (List ℕ) → Type 0
IsMisuse words = MayNotRun words × (tally_of words ≡ None)

-- a line for each number
abbrev pub lines_of : List ℕ → List ℕ
lines_of numbers = flat_map (λ number. decimal number ++ 10 ∷ []) numbers
