-- What each call of a `Local` answers, by what it knows of its slot: the value, and whether the
-- bucket is known to stand.
use Rattle.std.specs.Prelude.{◌≡◌, ℕ, Bool, true, false, not, ◌&&◌, ◌||◌, List, [], ◌∷◌, Option, Some, None, is_some}
use Rattle.std.specs.Prelude.{Result, Ok, Err}
use Rattle.thread_local_base.specs.Capacity.{is_reserved}
use Rattle.thread_local_base.specs.Sheet.{Sheet}
use Rattle.thread_local_base.specs.Learnt.{Learnt, Unknown, Missing, Standing, Vacant, Holding}

-- what a `Local` knows of its slot
pub record View (V : Type 0) : Type 0 where
  pub value : Option V
  pub known : Bool

-- what a `Local` knows when it takes an id: the bucket is known to stand where the id is reserved
-- or has a value
abbrev pub first_view : {V : Type 0} → Sheet V → ℕ → View V
first_view sheet id = record { value = sheet.values id; known = is_reserved sheet.capacity id || is_some (sheet.values id) }

-- the view that what is learnt of a slot gives
abbrev pub view_of : {V : Type 0} → Learnt V → View V
view_of Unknown = record { value = None; known = false }
view_of Missing = record { value = None; known = false }
view_of Standing = record { value = None; known = true }
view_of Vacant = record { value = None; known = true }
view_of (Holding v) = record { value = Some v; known = true }

-- A call of a `Local`: `get`, or one of the `get_or` family, with what its closure would return and
-- whether memory for a bucket would be refused.
pub data Call (V E : Type 0) : Type 0 where
  Get : Call V E
  GetOr : (create : Result V E) → (refused : Bool) → Call V E

-- what a call answers: what a `get` found, a value, out of memory, or the closure's error
pub data Answer (V E : Type 0) : Type 0 where
  Found : (value : Option V) → Answer V E
  Answered : (value : V) → Answer V E
  Refused : Answer V E
  Failed : (error : E) → Answer V E

-- what the `get_or` family answers, by whether a bucket is needed and refused
abbrev pub answer_or : {V E : Type 0} → Option V → Bool → Result V E → Answer V E
answer_or (Some v) refused create = Answered v
answer_or None true create = Refused
answer_or None false (Ok v) = Answered v
answer_or None false (Err e) = Failed e

-- what a call answers at a view
abbrev pub answer : {V E : Type 0} → View V → Call V E → Answer V E
answer view Get = Found view.value
answer view (GetOr create refused) = answer_or view.value (refused && not view.known) create

-- the view after a call of the `get_or` family
abbrev pub view_after_or : {V E : Type 0} → View V → Option V → Bool → Result V E → View V
view_after_or view (Some v) refused create = view
view_after_or view None true create = view
view_after_or view None false (Ok v) = record { value = Some v; known = true }
view_after_or view None false (Err e) = record { value = None; known = true }

-- the view after a call
abbrev pub view_after : {V E : Type 0} → View V → Call V E → View V
view_after view Get = view
view_after view (GetOr create refused) = view_after_or view view.value (refused && not view.known) create

-- the answers to a sequence of calls that begins at a view
abbrev pub answers : {V E : Type 0} → View V → List (Call V E) → List (Answer V E)
answers view [] = []
answers view (call ∷ calls) = answer view call ∷ answers (view_after view call) calls

-- the view after a sequence of calls
abbrev pub view_after_all : {V E : Type 0} → View V → List (Call V E) → View V
view_after_all view [] = view
view_after_all view (call ∷ calls) = view_after_all (view_after view call) calls

-- at `view` the call answers `told`, and the view after it is `left`
pub record Says {V E : Type 0} (view : View V) (call : Call V E) (told : Answer V E) (left : View V) : Type 0 where
  pub answered : answer view call ≡ told
  pub leaves : view_after view call ≡ left
