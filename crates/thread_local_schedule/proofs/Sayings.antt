-- What the words of the theorems say, each from the side on which it promises nothing.
use Rattle.std.proofs.Common.{◌≡◌, ℕ, ◌^◌, ◌<◌, false, List, [], ◌∷◌, ◌++◌, Some, IsTrue, refl, ◌↔◌, ◌⊎◌, Bool, true}
use Rattle.std.proofs.Common.{not, ◌&&◌, Option, None, IsSomeAnd, Result, sym, ap, ◌∙◌}
use Rattle.thread_local_base.specs.Place.{bucket_of}
use Rattle.thread_local_base.specs.Held.{held_count, is_granted}
use Rattle.thread_local_schedule.specs.Local.{Doing, Gets, Started, Private, Filled, Written, Local, LocalStep, MakeBucket}
use Rattle.thread_local_schedule.specs.Numbers.{own_number}
use Rattle.thread_local_schedule.specs.Core.{Core, private_slots}
use Rattle.thread_local_schedule.specs.Events.{Event, happens, run, TakeId, OfLocal, GiveBack, Forget, BeginWalk}
use Rattle.thread_local_schedule.specs.Events.{OfWalk, EndWalk, Owner, OwnerCall, IntoIter}
use Rattle.thread_local_schedule.specs.Events.{DropTable, RewriteTable, DrainTable, ClearTable, is_enabled}
use Rattle.thread_local_schedule.specs.Schedule.{is_take, is_refused, is_exclusive, is_of, is_of_walk, begins_walk}
use Rattle.thread_local_schedule.specs.Schedule.{changes_values, ends_table, is_granted_take, newcomer, NoneTaken}
use Rattle.thread_local_schedule.specs.Bounds.{TakesBelow, NothingRefused}
use mathlib.Core.Logic.{inl, inr}
use Rattle.std.proofs.Common.{suc, ◌+◌, cond, ⊎_elim}
use Rattle.thread_local_base.specs.Answers.{Get, GetOr}
use Rattle.thread_local_schedule.specs.Calls.{gets_of, closure_of, CallsStay, PublishingEnds, GoesOn}
use Rattle.thread_local_schedule.specs.Local.{LoadPointer, LookAtFlag, FillBucket, AnnounceBucket, InstallBucket, WriteValue, Reply}
use Rattle.std.proofs.lemmas.Bool.{false≢true, eqb-true}
use Rattle.std.specs.Prelude.{option_map}
use Rattle.thread_local_schedule.specs.Table.{Table, Bucket}
use Rattle.thread_local_schedule.specs.SharedWalk.{WalkStep, buckets_among}
use Rattle.thread_local_schedule.specs.Fits.{number_at}
use Rattle.thread_local_schedule.specs.CoreFits.{CoreFits}
use Rattle.thread_local_schedule.proofs.Clauses.{comes}
use Rattle.std.proofs.lemmas.Option.{none-some}
use Rattle.std.proofs.lemmas.Bool.{and_right}

pub private : {V E : Type 0} (id : ℕ) (doing : Doing V E) (number : ℕ)
    → own_number doing ≡ Some number
    → private_slots id doing ≡ 2 ^ bucket_of id
private id (Gets count) number e = cc
private id (Started create) number e = cc
private id (Private create own) number e = refl
private id (Filled create own announced) number e = refl
private id (Written v announced) number e = cc

pub nothing : {V E : Type 0} (core : Core V E) (events later : List (Event V E)) (event : Event V E)
    → NothingRefused core (events ++ event ∷ later)
    → is_refused (run core events) event ≡ false
unfolding run
nothing core [] later event none = none.0
nothing core (first ∷ events) later event none = nothing (happens core first) events later event none.1

pub takes : {V E : Type 0} (p : ℕ) (core : Core V E) (events : List (Event V E)) (event : Event V E) → TakesBelow p core events
    → (IsTrue (is_take event) → held_count (run core events).manager.held < p) → TakesBelow p core (events ++ event ∷ [])
unfolding run
takes p core [] event few last = (last, tt)
takes p core (first ∷ events) event few last = (few.0, takes p (happens core first) events event few.1 last)

pub take : {V E : Type 0} (event : Event V E) → IsTrue (is_take event)
    → (refused : Bool) × (growth : ℕ) × (event ≡ TakeId refused growth)
take (TakeId refused growth) t = (refused, growth, refl)
take _ t = absurd (false≢true t)

pub owners : {V E : Type 0} (event : Event V E) → IsTrue (is_exclusive event) → (call : OwnerCall V) × (event ≡ Owner call)
owners (Owner call) t = (call, refl)
owners _ t = absurd (false≢true t)

pub local : {V E : Type 0} (n : ℕ) (event : Event V E) → IsTrue (is_of n event)
    → ((step : LocalStep V E) × (event ≡ OfLocal n step)) ⊎ ((event ≡ GiveBack n) ⊎ (event ≡ Forget n))
local n (OfLocal number step) t = inl (step, ap (λ m. OfLocal m step) (eqb-true number n t))
local n (GiveBack number) t = inr (inl (ap GiveBack (eqb-true number n t)))
local n (Forget number) t = inr (inr (ap Forget (eqb-true number n t)))
local n _ t = absurd (false≢true t)

pub walk : {V E : Type 0} (n : ℕ) (event : Event V E) → IsTrue (is_of_walk n event)
    → ((step : WalkStep) × (event ≡ OfWalk n step)) ⊎ (event ≡ EndWalk n)
walk n (OfWalk number step) t = inl (step, ap (λ m. OfWalk m step) (eqb-true number n t))
walk n (EndWalk number) t = inr (ap EndWalk (eqb-true number n t))
walk n _ t = absurd (false≢true t)

pub begins : {V E : Type 0} (event : Event V E) → IsTrue (begins_walk event) → event ≡ BeginWalk
begins BeginWalk t = refl
begins _ t = absurd (false≢true t)

pub changes : {V E : Type 0} (event : Event V E) → IsTrue (changes_values event)
    → ((others : ℕ → V → V) × (event ≡ Owner (RewriteTable others)))
    ⊎ ((event ≡ Owner DrainTable) ⊎ (event ≡ Owner ClearTable))
changes (Owner (RewriteTable others)) t = inl (others, refl)
changes (Owner DrainTable) t = inr (inl refl)
changes (Owner ClearTable) t = inr (inr refl)
changes _ t = absurd (false≢true t)

pub ends : {V E : Type 0} (event : Event V E) → IsTrue (ends_table event)
    → (event ≡ Owner IntoIter) ⊎ (event ≡ Owner DropTable)
ends (Owner IntoIter) t = inl refl
ends (Owner DropTable) t = inr refl
ends _ t = absurd (false≢true t)

-- an enabled take that isn't granted is refused
ungranted_of : (enabled granted : Bool) → IsTrue enabled → (enabled && not (not granted)) ≡ false → IsTrue (enabled && not granted)
ungranted_of true true t f = absurd (false≢true (sym f))
ungranted_of true false t f = refl
ungranted_of false granted t f = absurd (false≢true t)

pub ungranted : {V E : Type 0} (core : Core V E) (refused : Bool) (growth : ℕ) → IsTrue (is_enabled core (TakeId refused growth))
    → is_granted_take core (TakeId refused growth) ≡ false
    → IsTrue (is_refused core (TakeId refused growth))
ungranted core refused growth t f = ungranted_of (is_enabled core (TakeId refused growth)) (is_granted core.manager refused) t f

pub made : {V E : Type 0} (core : Core V E) (n : ℕ) → is_refused core (OfLocal n (MakeBucket false)) ≡ false
made core n = and_right (is_enabled core (OfLocal n (MakeBucket false))) false refl

pub own : {V E : Type 0} (create : Result V E) (number : ℕ) → own_number (Private create number) ≡ Some number
own create number = refl

pub own_slots : {V E : Type 0} (id number : ℕ) (create : Result V E)
    → private_slots id (Private create number) ≡ 2 ^ bucket_of id
own_slots id number create = refl

pub none_taken : {V E : Type 0} (core : Core V E) (events : List (Event V E)) (event : Event V E) → NoneTaken core events
    → is_granted_take (run core events) event ≡ false
    → NoneTaken core (events ++ event ∷ [])
unfolding run
none_taken core [] event none last = (last, tt)
none_taken core (first ∷ events) event none last = (none.0, none_taken (happens core first) events event none.1 last)

-- the Local that comes is the newcomer
pub newcomer_comes : {V E : Type 0} (core : Core V E) (event : Event V E) (n : ℕ) (local : Local V E) → CoreFits core
    → core.locals n ≡ None
    → (happens core event).locals n ≡ Some local
    → newcomer core event ≡ Some local
newcomer_comes core event n local h none at = ap (happens core event).locals (sym (comes core event n local h none at).1) ∙ at

-- the number at a place is that of the bucket that stands there
number_of : {V : Type 0} (here : Option (Bucket V)) (number : ℕ)
    → (option_map (λ bucket. bucket.number) here ≡ Some number) ↔ IsSomeAnd here (λ bucket. bucket.number ≡ number)
number_of None number = (λ e. absurd (none-some number e), λ e. absurd e)
number_of (Some here) number = (λ e. cc, λ e. ap Some e)

pub numbers : {V : Type 0} (table : Table V) (bucket number : ℕ)
    → (number_at table bucket ≡ Some number) ↔ IsSomeAnd (table.pointers bucket) (λ here. here.number ≡ number)
unfolding number_at
numbers table bucket number = number_of (table.pointers bucket) number

-- the buckets among some are counted one by one
pub none_among : (these : ℕ → Bool) → buckets_among these 0 ≡ 0
unfolding buckets_among
none_among these = refl

pub one_among : (these : ℕ → Bool) (bucket : ℕ)
    → buckets_among these (suc bucket) ≡ buckets_among these bucket + cond (these bucket) 1 0
unfolding buckets_among
one_among these bucket = refl

-- no call begins or ends
abbrev Stay : {V E : Type 0} → Local V E → Local V E → Type 0
Stay before after =
    (gets_of after.doing ≡ gets_of before.doing) × (closure_of after.doing ≡ closure_of before.doing)
    × (after.calls ≡ before.calls)

stays_of : {V E : Type 0} (before after : Local V E) → CallsStay before after → Stay before after
stays_of before after x = (x.gets, x.closure, x.calls)

pub calls_stay : {V E : Type 0} (before after : Local V E)
    → GoesOn LoadPointer before after
    ⊎ (GoesOn LookAtFlag before after
    ⊎ (GoesOn (MakeBucket false) before after ⊎ (GoesOn FillBucket before after ⊎ GoesOn AnnounceBucket before after)))
    → Stay before after
calls_stay before after (inl x) = stays_of before after x.calls
calls_stay before after (inr (inl x)) = stays_of before after x.calls
calls_stay before after (inr (inr (inl x))) = stays_of before after x.calls
calls_stay before after (inr (inr (inr (inl x)))) = stays_of before after x.calls
calls_stay before after (inr (inr (inr (inr x)))) = stays_of before after x.calls

-- the publishing call ends
abbrev End : {V E : Type 0} → Local V E → Local V E → Type 0
End before after =
    (closure_of after.doing ≡ None) × (gets_of after.doing ≡ gets_of before.doing)
    × IsSomeAnd (closure_of before.doing) (λ create. after.calls ≡ before.calls ++ GetOr create false ∷ [])

stays_or_ends : {V E : Type 0} (before after : Local V E) → CallsStay before after ⊎ PublishingEnds false before after
    → Stay before after ⊎ End before after
stays_or_ends before after x =
    ⊎_elim (λ stays. inl (stays_of before after stays)) (λ ends. inr (ends.none, ends.gets, ends.calls)) x

pub installs : {V E : Type 0} (before after : Local V E) → GoesOn InstallBucket before after
    → Stay before after ⊎ End before after
installs before after x = stays_or_ends before after x.calls

pub writes : {V E : Type 0} (before after : Local V E) → GoesOn WriteValue before after
    → Stay before after ⊎ End before after
writes before after x = stays_or_ends before after x.calls

pub replies : {V E : Type 0} (before after : Local V E) → GoesOn Reply before after
    → ((gets_of before.doing ≡ suc (gets_of after.doing)) × (closure_of after.doing ≡ closure_of before.doing)
    × (after.calls ≡ before.calls ++ Get ∷ []))
    ⊎ End before after
replies before after x =
    ⊎_elim (λ ends. inl (ends.gets, ends.closure, ends.calls)) (λ ends. inr (ends.none, ends.gets, ends.calls)) x.calls
