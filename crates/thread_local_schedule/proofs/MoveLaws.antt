-- Which move each event is.
use Rattle.std.proofs.Common.{◌≡◌, ℕ, Bool, true, false, ◌&&◌, not, cond, Option, Some, None, Ok, Err, IsTrue, refl, sym}
use Rattle.std.specs.Prelude.{◌≢◌, option_map}
use Rattle.std.proofs.lemmas.Bool.{false≢true, cond_both}
use Rattle.thread_local_base.specs.Held.{is_granted}
use Rattle.thread_local_base.specs.IdMoves.{Take, Give, Publish}
use Rattle.thread_local_base.specs.Sheet.{OfHistory, Rewrite, Clear}
use Rattle.thread_local_schedule.specs.TableMoves.{TableMove, OfSheet, Drain}
use Rattle.thread_local_base.specs.Place.{bucket_of}
use Rattle.thread_local_schedule.specs.Table.{Table, bucket_stands}
use Rattle.thread_local_schedule.specs.Local.{Local, LocalStep, InstallBucket, SetFlag, Filled, Written}
use Rattle.thread_local_schedule.specs.Core.{Core}
use Rattle.thread_local_schedule.specs.Events.{Event, TakeId, OfLocal, GiveBack, Owner, RewriteTable, DrainTable, ClearTable}
use Rattle.thread_local_schedule.specs.Events.{is_enabled}
use Rattle.thread_local_schedule.specs.Schedule.{publishing, move, move_of, is_granted_take}

granted_moves : (enabled granted : Bool) → IsTrue (enabled && not (not granted)) → (T : Type 0)
    → let moves : Option (TableMove T) = cond enabled (cond granted (Some (OfSheet (OfHistory Take))) None) None in
    moves ≡ Some (OfSheet (OfHistory Take))
granted_moves true true t T = refl
granted_moves true false t T = absurd (false≢true t)
granted_moves false granted t T = absurd (false≢true t)

pub take_moves : {V E : Type 0} (core : Core V E) (event : Event V E) → IsTrue (is_granted_take core event)
    → move core event ≡ Some (OfSheet (OfHistory Take))
take_moves {V} core (TakeId refused growth) t = granted_moves (is_enabled core (TakeId refused growth)) (is_granted core.manager refused) t V
take_moves core _ t = absurd (false≢true t)

pub give_moves : {V E : Type 0} (core : Core V E) (n : ℕ) (local : Local V E)
    → IsTrue (is_enabled core (GiveBack n)) → core.locals n ≡ Some local
    → move core (GiveBack n) ≡ Some (OfSheet (OfHistory (Give local.id)))
give_moves core n local t at = rw (t, at) refl

pub publish_moves : {V E : Type 0} (core : Core V E) (n : ℕ) (local : Local V E) (v : V)
    → IsTrue (is_enabled core (OfLocal n SetFlag)) → core.locals n ≡ Some local → local.doing ≡ Written v true
    → move core (OfLocal n SetFlag) ≡ Some (OfSheet (OfHistory (Publish local.id v)))
publish_moves core n local v t at written = rw (t, at, written) refl

pub install_moves : {V E : Type 0} (core : Core V E) (n : ℕ) (local : Local V E) (v : V) (number : ℕ)
    → IsTrue (is_enabled core (OfLocal n InstallBucket)) → core.locals n ≡ Some local → local.doing ≡ Filled (Ok v) number true
    → bucket_stands core.table (bucket_of local.id) ≡ false
    → move core (OfLocal n InstallBucket) ≡ Some (OfSheet (OfHistory (Publish local.id v)))
install_moves core n local v number t at filled none = rw (t, at, none, filled) refl

pub empty_moves : {V E : Type 0} (core : Core V E) (n : ℕ) (local : Local V E) (e : E) (number : ℕ)
    → IsTrue (is_enabled core (OfLocal n InstallBucket)) → core.locals n ≡ Some local → local.doing ≡ Filled (Err e) number true
    → move core (OfLocal n InstallBucket) ≡ None
empty_moves {V} core n local e number t at filled =
    rw (t, at, filled)
    (cond_both {A = Option V} (bucket_stands core.table (bucket_of local.id)) None None
    (λ o. option_map (λ (value : V). OfSheet (OfHistory (Publish local.id value))) o ≡ None) (λ _. refl) (λ _. refl))

pub beside_moves : {V E : Type 0} (core : Core V E) (n : ℕ) (local : Local V E)
    → IsTrue (is_enabled core (OfLocal n InstallBucket)) → core.locals n ≡ Some local
    → IsTrue (bucket_stands core.table (bucket_of local.id))
    → move core (OfLocal n InstallBucket) ≡ None
beside_moves core n local t at stands = rw (t, at, stands) refl

pub rewrite_moves : {V E : Type 0} (core : Core V E) (others : ℕ → V → V)
    → IsTrue (is_enabled core (Owner (RewriteTable others)))
    → move core (Owner (RewriteTable others)) ≡ Some (OfSheet (Rewrite others))
rewrite_moves core others t = rw t refl

pub drain_moves : {V E : Type 0} (core : Core V E) → IsTrue (is_enabled core (Owner DrainTable))
    → move core (Owner DrainTable) ≡ Some Drain
drain_moves core t = rw t refl

pub clear_moves : {V E : Type 0} (core : Core V E) → IsTrue (is_enabled core (Owner ClearTable))
    → move core (Owner ClearTable) ≡ Some (OfSheet Clear)
clear_moves core t = rw t refl

-- no other event is a move
pub record IsNoMove {V E : Type 0} (core : Core V E) (event : Event V E) : Type 0 where
  pub take : is_granted_take core event ≡ false
  pub give : (n : ℕ) → event ≢ GiveBack n
  pub publish : (n : ℕ) → event ≢ OfLocal n SetFlag
  pub install : (n : ℕ) → event ≢ OfLocal n InstallBucket
  pub rewrite : (others : ℕ → V → V) → event ≢ Owner (RewriteTable others)
  pub drain : event ≢ Owner DrainTable
  pub clear : event ≢ Owner ClearTable

refused_moves : (T : Type 0) (enabled granted : Bool) → IsTrue enabled
    → (enabled && not (not granted)) ≡ false
    → let moves : Option (TableMove T) = cond granted (Some (OfSheet (OfHistory Take))) None in
    moves ≡ None
refused_moves T true true t f = absurd (false≢true (sym f))
refused_moves T true false t f = refl
refused_moves T false granted t f = absurd (false≢true t)

step_moves : {V E : Type 0} (table : Table V) (o : Option (Local V E)) (n : ℕ) (step : LocalStep V E)
    → ((m : ℕ) → OfLocal n step ≢ OfLocal m SetFlag) → ((m : ℕ) → OfLocal n step ≢ OfLocal m InstallBucket)
    → publishing table o step ≡ None
step_moves table None n step sets installs = refl
step_moves table (Some local) n SetFlag sets installs = absurd (sets n refl)
step_moves table (Some local) n InstallBucket sets installs = absurd (installs n refl)
step_moves table (Some local) n step sets installs = refl

none_moves : {V E : Type 0} (core : Core V E) (event : Event V E) → IsTrue (is_enabled core event)
    → IsNoMove core event
    → move_of core event ≡ None
none_moves {V} core (TakeId refused growth) t other =
    refused_moves V (is_enabled core (TakeId refused growth)) (is_granted core.manager refused) t other.take
none_moves core (OfLocal number step) t other = step_moves core.table (core.locals number) number step other.publish other.install
none_moves core (GiveBack number) t other = absurd (other.give number refl)
none_moves core (Owner (RewriteTable others)) t other = absurd (other.rewrite others refl)
none_moves core (Owner DrainTable) t other = absurd (other.drain refl)
none_moves core (Owner ClearTable) t other = absurd (other.clear refl)
none_moves core _ t other = refl

pub no_moves : {V E : Type 0} (core : Core V E) (event : Event V E)
    → (IsTrue (is_enabled core event) → IsNoMove core event)
    → move core event ≡ None
no_moves core event other =
    cond_both (is_enabled core event) (move_of core event) None (λ o. o ≡ None)
    (λ t. none_moves core event t (other t)) (λ _. refl)
