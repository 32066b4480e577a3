-- The word of the first 58 ids, and what lies with it while threads share it: the history of the
-- table's ids and all rights that aren't out.
--
-- The word has a bit for each of these ids, set where the id is held, and below them their peak. The
-- further ids lie under a lock. So that the two agree, the moves up to the last one of a further id
-- are kept in two halves, of which one lies with the word and one under the lock.
use Rattle.std.specs.Prelude.{◌≡◌, ℕ, ◌+◌, ◌-◌, ◌*◌, ◌/◌, ◌%◌, ◌^◌, ◌<◌, ◌≤◌, ◌==◌, min, Bool, true, false, List, length, if◌then◌else◌, refl}
use Rattle.std.specs.Coded.{Coded, coded_ℕ, code_by}
use mathlib.Core.List.{IsPrefix}
use mathlib.Core.Option.{some}
use base.Fraction.{full_share, left}
use base.Fml.{Share, Fml, fsep, fex}
use Rattle.thread_local_base.specs.Bits.{is_set}
use Rattle.thread_local_base.specs.Fact.{fact}
use Rattle.thread_local_base.specs.Held.{is_held}
use Rattle.thread_local_base.specs.IdMoves.{IdMove, Take, Give, held_after, noted}
use Rattle.thread_local_ids.specs.Rights.{is_out, element_at, rights_own, history_owns, all_noted, AreNotedOut}

-- what a contract sees of the word: the name of the table
pub record FirstView : Type 0 where
  pub table : ℕ

abbrev pub first_coded : Coded FirstView
first_coded = code_by ℕ coded_ℕ (λ first. first.table) (λ table. record { table = table }) (λ _. refl)

-- the word says in its low 6 bits what the peak among the first 58 ids is, and above which are held
pub record IsWordOf (n : ℕ) (held : List Bool) : Type 0 where
  pub fits : n < 2 ^ 64
  pub bits : (id : ℕ) → id < 58 → is_set (n / 64) id ≡ is_held held id
  pub peak : n % 64 ≡ min 58 (length held)

-- whether all of the first 58 ids are held
abbrev pub is_full : ℕ → Bool
is_full n = n / 64 == 2 ^ 58 - 1

-- the word once this id is taken, which is the least that isn't held
abbrev pub word_with : ℕ → ℕ → ℕ
word_with n id = n + 64 * 2 ^ id + (if id == n % 64 then 1 else 0)

-- of the further ids the same are held
abbrev pub IsSameBeyond : List Bool → List Bool → Type 0
IsSameBeyond a b = (id : ℕ) → 58 ≤ id → is_held a id ≡ is_held b id

-- `new` is `old` once this further id, which was held, is given back
pub record IsGivenBeyond (old new : List Bool) (id : ℕ) : Type 0 where
  pub held : is_held old id ≡ true
  pub at : (other : ℕ) → 58 ≤ other → is_held new other ≡ (if id == other then false else is_held old other)
  pub peak : length new - 58 ≡ length old - 58

-- a further id isn't held
pub record HasFurther (held : List Bool) : Type 0 where
  pub id : ℕ
  pub further : 58 ≤ id
  pub in_range : id < 2 ^ 63 - 1
  pub free : is_held held id ≡ false

-- the right to an id is out exactly where the id is held
abbrev pub AreOutOf : List ℕ → List Bool → Type 0
AreOutOf out held = (id : ℕ) → id < 2 ^ 63 - 1 → is_out out id ≡ is_held held id

-- how the word, all moves, the rights that are out and the moves up to the last one of a further id
-- belong together
pub record IsTiedTo (n : ℕ) (moves : List IdMove) (out : List ℕ) (log : List IdMove) : Type 0 where
  pub word : IsWordOf n (held_after moves)
  pub rights : AreOutOf out (held_after moves)
  pub notes : AreNotedOut out moves
  pub beyond : IsSameBeyond (held_after log) (held_after moves)
  pub peak : length (held_after log) - 58 ≡ length (held_after moves) - 58
  pub early : IsPrefix log moves

-- a return of an id, which was taken after `before`, is the last of these moves
pub record IsReturn (before : List IdMove) (id : ℕ) (moves : List IdMove) : Type 0 where
  pub since : List IdMove
  pub given : moves ≡ noted since (Give id)
  pub early : IsPrefix (noted before Take) since

-- the key of the moves up to the last one of a further id, which no `usize` is
abbrev pub log_key : ℕ
log_key = 2 ^ 64 + 1

abbrev pub log_share : Bool → Share
log_share true = full_share
log_share false = left full_share

-- these were all moves up to the last one of a further id: both halves, or one
unfoldable pub log_owns : ℕ → Bool → List IdMove → Fml
log_owns table whole moves = element_at log_key table (some (log_share whole), moves)

-- all moves, the rights that are out, and the moves up to the last one of a further id
abbrev pub Kept : Type 0
Kept = List IdMove × (List ℕ × List IdMove)

-- all moves, with what they note
abbrev pub ledger_owns : ℕ → List IdMove → Fml
ledger_owns table moves = fsep (history_owns table moves) (all_noted table moves)

abbrev pub kept_with : ℕ → ℕ → Kept → Fml
kept_with table n s =
    fsep (ledger_owns table s.0)
    (fsep (rights_own table s.1.0) (fsep (log_owns table false s.1.1) (fact (IsTiedTo n s.0 s.1.0 s.1.1))))

-- what lies with the word
abbrev pub lies_with : ℕ → ℕ → Fml
lies_with table n = fex Kept (kept_with table n)
