-- What a contract sees of a walk over buckets that threads share, and what a call of `next` does.
use Rattle.std.specs.Prelude.{◌≡◌, ℕ, suc, ◌-◌, ◌^◌, ◌<◌, ◌≤◌, ◌⊎◌, Bool, true, IsTrue, List, [], Option, Some, None, MatchOption}
use Rattle.std.specs.Prelude.{IfSome, option_map, refl, All, Contains}
use Rattle.std.specs.List.{AllPairs}
use Rattle.std.specs.Iterator.{Count, at_most}
use Rattle.std.specs.Coded.{Coded, coded_option, coded_ℕ, coded×, code_by}
use base.Stored.{coded_bool, coded_list}
use denote.Ref.{Bor}
use denote.RattleType.{RattleType}
use Rattle.thread_local_base.specs.Cursor.{Cursor, fresh_cursor, cursor_id, is_complete, after_look}
use Rattle.thread_local_base.specs.Judged.{Shareable}
use Rattle.thread_local_ids.specs.TokenViews.{TokenView, token_view_coded}
use Rattle.thread_local_ids.specs.TokenLists.{AllOf}
use Rattle.thread_local_shared_buckets.specs.WalkSteps.{SilentSteps}

-- an own value that a walk has still to give, and its id
pub record Owed (V : Type 0) : Type 0 where
  pub id : ℕ
  pub value : V

-- the sharing that a walk goes over, if that has a name, where the walk is, the own value that it has
-- still to give, if any, whether it was shown that threads may share the values, and the tokens
-- whose values it gives for sure
pub record WalkView (V : Type 0) : Type 0 where
  pub sharing : Option ℕ
  pub cursor : Cursor
  pub own : Option (Owed V)
  pub shown : Bool
  pub told : List (TokenView V)

-- injective codes of such views, for ghost state
abbrev cursor_coded : Coded Cursor
cursor_coded =
    code_by (ℕ × (ℕ × Bool)) (coded× coded_ℕ (coded× coded_ℕ coded_bool))
    (λ c. (c.bucket, (c.index, c.looks)))
    (λ p. record { bucket = p.0; index = p.1.0; looks = p.1.1 }) (λ _. refl)

abbrev owed_coded : {V : Type 0} → Coded V → Coded (Owed V)
owed_coded {V} c = code_by (ℕ × V) (coded× coded_ℕ c) (λ o. (o.id, o.value)) (λ p. record { id = p.0; value = p.1 }) (λ _. refl)

abbrev pub walk_view_coded : {V : Type 0} → Coded V → Coded (WalkView V)
walk_view_coded {V} c =
    code_by (Option ℕ × (Cursor × (Option (Owed V) × (Bool × List (TokenView V)))))
    (coded× (coded_option coded_ℕ)
    (coded× cursor_coded (coded× (coded_option (owed_coded c)) (coded× coded_bool (coded_list (token_view_coded c))))))
    (λ w. (w.sharing, (w.cursor, (w.own, (w.shown, w.told)))))
    (λ p. record { sharing = p.0; cursor = p.1.0; own = p.1.1.0; shown = p.1.1.1.0; told = p.1.1.1.1 }) (λ _. refl)

-- a walk over a sharing that has just begun, with an own value to give or none, and the values of
-- these tokens
abbrev pub fresh_with : {V : Type 0} → Option ℕ → Option (Owed V) → Bool → List (TokenView V) → WalkView V
fresh_with sharing own shown told = record { sharing = sharing; cursor = fresh_cursor; own = own; shown = shown; told = told }

-- the same with no tokens
abbrev pub fresh : {V : Type 0} → Option ℕ → Option (Owed V) → Bool → WalkView V
fresh sharing own shown = fresh_with sharing own shown []

-- the own value, without its id
abbrev pub owed_value : {V : Type 0} → Option (Owed V) → Option V
owed_value None = None
owed_value (Some owed) = Some owed.value

-- what a walk has still to give after it gave a value at an id: that was the own value, or the own
-- value lies ahead
abbrev pub YieldsOwn : {V : Type 0} → Option (Owed V) → ℕ → V → Option (Owed V) → Type 0
YieldsOwn None id v left = left ≡ None
YieldsOwn (Some owed) id v left = ((owed ≡ record { id = id; value = v }) × (left ≡ None)) ⊎ ((id < owed.id) × (left ≡ Some owed))

-- a call gave a value: steps that give nothing lead to its slot, at an id that the walk hadn't
-- passed, and the look there found it
pub record Yields {V : Type 0} (from : Cursor) (own : Option (Owed V)) (v : V) (to : Cursor) (left : Option (Owed V)) : Type 0 where
  pub met : Cursor
  pub leads : SilentSteps from met
  pub looks : IsTrue met.looks
  pub found : to ≡ after_look met true
  pub ahead : cursor_id from ≤ cursor_id met
  pub in_range : cursor_id met < 2 ^ 63 - 1
  pub passed : cursor_id to ≡ suc (cursor_id met)
  pub own_given : YieldsOwn own (cursor_id met) v left

-- a call gave nothing: such steps lead past the last bucket, and no own value is left to give
pub record Ends {V : Type 0} (from : Cursor) (own : Option (Owed V)) (to : Cursor) (left : Option (Owed V)) : Type 0 where
  pub leads : SilentSteps from to
  pub complete : IsTrue (is_complete to)
  pub none_owed : own ≡ None
  pub none_left : left ≡ None

-- what a call does about a token of the walk's sharing: one that gives nothing leaves no token's id
-- ahead. One that gives a value passes no token's id before the value's, and if that is the token's
-- id, the value is the token's
abbrev pub GivesTold : {V : Type 0} → Cursor → Option (Bor V) → Cursor → TokenView V → Type 0
GivesTold from item to p =
    MatchOption item (p.id < cursor_id from)
    (λ x. cursor_id from ≤ p.id → p.id < cursor_id to → (cursor_id to ≡ suc p.id) × (p.value ≡ x.now))

-- what a call of `next` does
pub record IsNext {V : Type 0} (walk : WalkView V) (item : Option (Bor V)) (left : WalkView V) : Type 0 where
  pub gives : MatchOption item (Ends walk.cursor walk.own left.cursor left.own)
      (λ x. Yields walk.cursor walk.own x.now left.cursor left.own)
  pub shown : left.shown ≡ walk.shown
  pub sharing : left.sharing ≡ walk.sharing
  pub told : left.told ≡ walk.told
  pub meets : AllOf walk.sharing (GivesTold walk.cursor item left.cursor) walk.told

-- what a call of `next` does where it gives each value with its id, which is the last one passed
pub record IsNextWithId {V : Type 0} (walk : WalkView V) (item : Option (ℕ × Bor V)) (left : WalkView V) : Type 0 where
  pub goes : IsNext walk (option_map (λ entry. entry.1) item) left
  pub id : IfSome item (λ entry. cursor_id left.cursor ≡ suc entry.0)

-- a token that comes with a value says what the slot of the last id that was passed was published
-- with, in the walk's sharing: it was this value
pub record IsTokenOf {V : Type 0} (walk left : WalkView V) (entry : TokenView V × Bor V) : Type 0 where
  pub sharing : entry.0.sharing ≡ walk.sharing
  pub id : cursor_id left.cursor ≡ suc entry.0.id
  pub value : entry.0.value ≡ entry.1.now

-- what a call of `next` does where it gives each value with such a token
pub record IsNextWithToken {V : Type 0} (walk : WalkView V) (item : Option (TokenView V × Bor V)) (left : WalkView V) : Type 0 where
  pub goes : IsNext walk (option_map (λ entry. entry.1) item) left
  pub told : IfSome item (IsTokenOf walk left)

-- a walk over this sharing, made with these tokens, has given these ids with their values: the ids
-- ascend and lie behind the walk, and each token of the sharing that lies behind it is among them
pub record HasGiven {V : Type 0} (sharing : Option ℕ) (told : List (TokenView V)) (walk : WalkView V) (given : List (ℕ × V)) : Type 0 where
  pub sharing_of : walk.sharing ≡ sharing
  pub told_of : walk.told ≡ told
  pub passed : All (λ entry. entry.0 < cursor_id walk.cursor) given
  pub ascending : AllPairs (λ one other. one.0 < other.0) given
  pub met : AllOf sharing (λ p. p.id < cursor_id walk.cursor → Contains given (p.id, p.value)) told

-- a walk may go on where it was shown that threads may share the values, or their type says so
abbrev pub CanGo : {V : Type 0} → RattleType → WalkView V → Type 0
CanGo R walk = (walk.shown ≡ true) ⊎ Shareable R

-- a walk gives no more values than there are ids ahead of it
abbrev pub ids_left : {V : Type 0} → WalkView V → Count
ids_left walk = at_most (2 ^ 63 - 1 - cursor_id walk.cursor)
