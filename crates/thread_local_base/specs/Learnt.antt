-- What is learnt of an id's slot: nothing yet, the bucket missing, the bucket standing, the slot
-- vacant, or the slot's value.
use Rattle.std.specs.Prelude.{◌≡◌, ℕ, zero, suc, Bool, true, false, Option, Some, None, option_and_then, refl, if◌then◌else◌}
use Rattle.std.specs.Coded.{Coded, coded_option, coded_ℕ, coded×, code_by}

-- What the holder of the right to an id has learnt of the id's slot: `Unknown`, nothing yet;
-- `Missing`, the bucket didn't stand; `Standing`, the bucket stands; `Vacant`, it stands and the
-- slot is empty; `Holding`, the slot's value.
pub data Learnt (V : Type 0) : Type 0 where
  Unknown : Learnt V
  Missing : Learnt V
  Standing : Learnt V
  Vacant : Learnt V
  Holding : (value : V) → Learnt V

-- what is learnt by a load of the bucket's pointer, where the bucket isn't known to stand
abbrev pub learnt_by_load : {V : Type 0} → Learnt V → Bool → Option (Learnt V)
learnt_by_load Unknown stands = Some (if stands then Standing else Missing)
learnt_by_load Missing stands = Some (if stands then Standing else Missing)
learnt_by_load learnt stands = None

-- what is learnt by a look at a slot whose bucket stands
abbrev pub learnt_by_look : {V : Type 0} → Learnt V → Option V → Option (Learnt V)
learnt_by_look Standing None = Some Vacant
learnt_by_look Standing (Some v) = Some (Holding v)
learnt_by_look learnt shown = None

-- what is learnt by a load of the pointer and, where the bucket stands, a look at the slot
abbrev pub learnt_by_find : {V : Type 0} → Learnt V → Bool → Option V → Option (Learnt V)
learnt_by_find learnt false shown = learnt_by_load learnt false
learnt_by_find learnt true shown = option_and_then (λ loaded. learnt_by_look loaded shown) (learnt_by_load learnt true)

-- what is learnt by installing a bucket where the pointer was null: a bucket stands then, this or
-- another thread's, and the slot is empty
abbrev pub learnt_by_install : {V : Type 0} → Learnt V → Option (Learnt V)
learnt_by_install Missing = Some Vacant
learnt_by_install learnt = None

-- what is learnt by publishing a value in a slot that was empty
abbrev pub learnt_by_publish : {V : Type 0} → Learnt V → V → Option (Learnt V)
learnt_by_publish Vacant value = Some (Holding value)
learnt_by_publish learnt value = None

-- A load of the pointer and, where the bucket stands, a look at the slot lead from `before` to
-- `after`. They find out whether the bucket stands and what the slot shows.
pub record Finds {V : Type 0} (before after : Learnt V) : Type 0 where
  pub stands : Bool
  pub shown : Option V
  pub learnt : learnt_by_find before stands shown ≡ Some after

-- how a proof tells apart what is learnt: by a number and the value, if there is one
abbrev number_of : {V : Type 0} → Learnt V → ℕ × Option V
number_of Unknown = (0, None)
number_of Missing = (1, None)
number_of Standing = (2, None)
number_of Vacant = (3, None)
number_of (Holding v) = (4, Some v)

abbrev learnt_of : {V : Type 0} → ℕ → Option V → Learnt V
learnt_of n (Some v) = Holding v
learnt_of zero None = Unknown
learnt_of (suc zero) None = Missing
learnt_of (suc (suc zero)) None = Standing
learnt_of (suc (suc (suc n))) None = Vacant

abbrev same_again : {V : Type 0} → (l : Learnt V) → learnt_of (number_of l).0 (number_of l).1 ≡ l
same_again Unknown = refl
same_again Missing = refl
same_again Standing = refl
same_again Vacant = refl
same_again (Holding v) = refl

abbrev pub learnt_coded : {V : Type 0} → Coded V → Coded (Learnt V)
learnt_coded {V} c = code_by (ℕ × Option V) (coded× coded_ℕ (coded_option c)) number_of (λ p. learnt_of p.0 p.1) same_again
