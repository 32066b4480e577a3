-- What a contract sees of a `Local`: the name of its table, the sharing if that has a name, its id, how
-- many slots of the table are reserved, what is known of the id's slot, and what was done with the
-- table's ids before.
use Rattle.std.specs.Prelude.{◌≡◌, ◌≢◌, ℕ, ◌<◌, ◌-◌, ◌^◌, Bool, true, false, Option, Some, None, option_map, List, Result, Ok}
use Rattle.std.specs.Prelude.{Err, refl}
use base.Stored.{coded_bool}
use Rattle.std.specs.Coded.{Coded, coded_option, coded_ℕ, coded×, code_by}
use Rattle.thread_local_base.specs.Answers.{View, GetOr, Answered, Refused, Failed, Says, answer, view_of}
use Rattle.thread_local_base.specs.Learnt.{Missing}
use Rattle.thread_local_ids.specs.TokenViews.{TokenView}
use Rattle.thread_local_base.specs.IdMoves.{IdMove, Take, Give, moves_coded, noted}
use mathlib.Core.List.{IsPrefix}
use Rattle.thread_local_shared_buckets.specs.Known.{HasLooked}
use Rattle.thread_local_shared_buckets.specs.ClaimViews.{ClaimView}
use Rattle.thread_local.specs.Tables.{ThreadLocalView}
use Rattle.thread_local_shared_buckets.specs.Walks.{Owed}

-- the table, the sharing, the id, the number of reserved slots, of the id's slot the value, if
-- there is one, and whether its bucket is known to stand, and the history before the id was taken
pub record LocalView (V : Type 0) : Type 0 where
  pub table : ℕ
  pub sharing : Option ℕ
  pub id : ℕ
  pub reserved : ℕ
  pub value : Option V
  pub known : Bool
  pub before : List IdMove

-- an injective code of such views, for ghost state
abbrev pub local_view_coded : {V : Type 0} → Coded V → Coded (LocalView V)
local_view_coded {V} c =
    code_by (ℕ × (Option ℕ × (ℕ × (ℕ × (Option V × (Bool × List IdMove))))))
    (coded× coded_ℕ (coded× (coded_option coded_ℕ)
    (coded× coded_ℕ (coded× coded_ℕ (coded× (coded_option c) (coded× coded_bool moves_coded))))))
    (λ s. (s.table, (s.sharing, (s.id, (s.reserved, (s.value, (s.known, s.before)))))))
    (λ p. record {
      table = p.0;
      sharing = p.1.0;
      id = p.1.1.0;
      reserved = p.1.1.1.0;
      value = p.1.1.1.1.0;
      known = p.1.1.1.1.1.0;
      before = p.1.1.1.1.1.1;
    })
    (λ _. refl)

-- what is known of the slot
abbrev pub knows : {V : Type 0} → LocalView V → View V
knows s = record { value = s.value; known = s.known }

-- the same `Local`, with this known of its slot
abbrev pub knowing : {V : Type 0} → LocalView V → View V → LocalView V
knowing s view = record { table = s.table; sharing = s.sharing; id = s.id; reserved = s.reserved; value = view.value; known = view.known; before = s.before }

-- the view of a claim of a table's slot
abbrev pub local_view : {V : Type 0} → ThreadLocalView → ClaimView V → LocalView V
local_view of claim =
    record {
      table = of.table;
      sharing = of.sharing;
      id = claim.id;
      reserved = of.reserved;
      value = (view_of claim.learnt).value;
      known = (view_of claim.learnt).known;
      before = claim.before;
    }

-- the own value that a walk has still to give, with its id
abbrev pub own_of : {V : Type 0} → LocalView V → Option (Owed V)
own_of s = option_map (λ v. record { id = s.id; value = v }) s.value

-- what the slot was published with, if it holds a value, as a token says it
abbrev pub token_of : {V : Type 0} → LocalView V → Option (TokenView V)
token_of s = option_map (λ v. record { sharing = s.sharing; id = s.id; value = v }) s.value

-- it is the same `Local`, of the same table in the same sharing, with the same id
pub record IsSameLocal {V : Type 0} (old new : LocalView V) : Type 0 where
  pub table : new.table ≡ old.table
  pub sharing : new.sharing ≡ old.sharing
  pub id : new.id ≡ old.id
  pub reserved : new.reserved ≡ old.reserved
  pub before : new.before ≡ old.before

-- a `Local` of a table: its claim is of this table in this sharing, has looked for its bucket, and
-- has found it where the id is reserved
pub record IsLocalOf {V : Type 0} (of : ThreadLocalView) (claim : ClaimView V) : Type 0 where
  pub table : claim.table ≡ of.table
  pub sharing : claim.sharing ≡ of.sharing
  pub in_range : claim.id < 2 ^ 63 - 1
  pub known : HasLooked claim.learnt
  pub reserved : claim.id < of.reserved → claim.learnt ≢ Missing

-- what is known of a slot that holds this value
abbrev pub holding : {V : Type 0} → V → View V
holding v = record { value = Some v; known = true }

-- What a call of the `get_or` family answers, if it answers a value: the slot's, or the one that
-- the closure made where the slot was empty. E is the type of the closure's errors.
pub record IsAnswered {V : Type 0} (E : Type 0) (makes : V → Type 0) (old : LocalView V) (value : V) : Type 0 where
  pub answered : answer {E = E} (knows old) (GetOr (Ok value) false) ≡ Answered value
  pub made : old.value ≡ None → makes value

-- such a call's answer, and the view that the call leaves, in which the slot holds this value; it
-- may have held it before
pub record Fills {V : Type 0} (E : Type 0) (makes : V → Type 0) (old new : LocalView V) (value : V) : Type 0 where
  pub says : Says {V = V} {E = E} (knows old) (GetOr (Ok value) false) (Answered value) (knows new)
  pub made : old.value ≡ None → makes value
  pub same : IsSameLocal old new

-- such a call leaves some value in the slot
pub record IsFilled {V : Type 0} (E : Type 0) (makes : V → Type 0) (old new : LocalView V) : Type 0 where
  pub value : V
  pub fills : Fills E makes old new value

-- such a call ends with an error of the closure, which ran since the slot was empty, and leaves this
-- view: the slot is still empty, and its bucket is known to stand
pub record Fails {V E : Type 0} (makes : E → Type 0) (old new : LocalView V) (error : E) : Type 0 where
  pub says : Says (knows old) (GetOr (Err error) false) (Failed error) (knows new)
  pub known : new.known ≡ true
  pub made : makes error
  pub same : IsSameLocal old new

-- Such a call runs out of memory, whatever the closure would have answered: the slot was empty, its
-- bucket was not known to stand, and the view stays.
pub record IsRefused {V : Type 0} (E : Type 0) (old new : LocalView V) : Type 0 where
  pub says : (create : Result V E) → Says {V = V} {E = E} (knows old) (GetOr create true) Refused (knows new)
  pub stays : new ≡ old

-- A history ends with the return of a `Local`'s id, and begins with all that was done up to the
-- take.
pub record EndsWithReturn {V : Type 0} (local : LocalView V) (moves : List IdMove) : Type 0 where
  pub before : List IdMove
  pub given : moves ≡ noted before (Give local.id)
  pub early : IsPrefix (noted local.before Take) before
