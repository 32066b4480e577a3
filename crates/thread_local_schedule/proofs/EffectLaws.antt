-- What each event changes of the sheet, the buckets, the slots and its `Local`.
use Rattle.std.proofs.Common.{◌≡◌, ℕ, Bool, true, false, cond, eqb, Option, Some, None, Result, Ok, Err, IsTrue, IfSome, IsSomeAnd, refl, ap, sym}
use Rattle.std.proofs.Common.{◌∙◌, subst, ⊎_elim}
use Rattle.std.specs.Prelude.{◌↔◌, ◌⊎◌, is_some, option_map, option_and_then, IsErr}
use Rattle.std.proofs.lemmas.Bool.{false≢true, cases_eq, eq-eqb, ne_eqb}
use Rattle.thread_local_base.specs.Place.{bucket_of}
use Rattle.thread_local_base.specs.Held.{with_least, without}
use Rattle.thread_local_base.specs.Walk.{with_value}
use Rattle.thread_local_base.specs.Learnt.{Learnt, Unknown, Missing, Standing, Vacant, Holding}
use Rattle.thread_local_base.specs.Learnt.{learnt_by_publish}
use Rattle.thread_local_base.specs.Answers.{GetOr, Answered}
use Rattle.thread_local_schedule.specs.TableMoves.{TableMove, moved_by_if}
use Rattle.thread_local_schedule.specs.Table.{Table, Slot, slot_at, value_of, published, bucket_stands, with_flag, with_fresh_bucket}
use Rattle.thread_local_schedule.specs.Local.{Local, LocalStep, local_step, MakeBucket, FillBucket, AnnounceBucket, InstallBucket}
use Rattle.thread_local_schedule.specs.Local.{WriteValue, SetFlag, closure_at_missing, make_bucket, empty_bucket, fill_bucket}
use Rattle.thread_local_schedule.specs.Local.{doing_announced, announce_bucket, Doing, Gets, Started, Private, Filled, Written}
use Rattle.thread_local_schedule.specs.Local.{learns, OwnBucket, filled_bucket, install_bucket, value_written, set_flag}
use Rattle.thread_local_schedule.specs.Local.{closure_at_vacant, write_value, after_call}
use Rattle.thread_local_schedule.specs.Fits.{number_at, IsLearnt, IsDoing, view_now}
use Rattle.thread_local_schedule.specs.Numbers.{own_number}
use Rattle.thread_local_schedule.specs.Core.{Core, shadow}
use Rattle.thread_local_schedule.specs.CoreFits.{CoreFits}
use Rattle.thread_local_schedule.specs.Events.{Event, OfLocal, GiveBack, Owner, RewriteTable, is_enabled, happens}
use Rattle.thread_local_schedule.specs.Schedule.{move, is_granted_take, IsReached}
use Rattle.thread_local_schedule.proofs.TableLaws.{announced-with_announced, bucket_stands-with_filled_bucket}
use Rattle.thread_local_schedule.proofs.TableLaws.{bucket_stands-with_fresh_bucket, number_at-with_table_slot, slot_at-with_slot_same}
use Rattle.thread_local_schedule.proofs.OptionLaws.{if_there, if_then}
use Rattle.thread_local_schedule.proofs.Clauses.{says}
use Rattle.thread_local_schedule.proofs.CallsLaws.{whatever_is_learnt, either_install}
use Rattle.thread_local_schedule.proofs.NumbersLaws.{number_at-with_bucket_same}
use Rattle.thread_local_schedule.proofs.Enabled.{step_goes}
use Rattle.thread_local_schedule.proofs.EventRules.{open_where}
use Rattle.thread_local_schedule.proofs.StepNeeds.{writes}
use Rattle.thread_local_schedule.proofs.MoveLaws as moves

-- the sheet after an event, by its move
by_move : {V E : Type 0} (core : Core V E) (event : Event V E) (o : Option (TableMove V)) → IsReached core
    → move core event ≡ o
    → shadow (happens core event) ≡ moved_by_if (shadow core) o
by_move core event o r e = (says core event r).moves ∙ ap (moved_by_if (shadow core)) e

pub takes : {V E : Type 0} (core : Core V E) (event : Event V E) → IsReached core
    → IsTrue (is_granted_take core event)
    → shadow (happens core event) ≡ record (shadow core) { held = with_least (shadow core).held }
takes core event r t = by_move core event _ r (moves.take_moves core event t)

pub gives_back : {V E : Type 0} (core : Core V E) (n : ℕ) (local : Local V E) → IsReached core
    → IsTrue (is_enabled core (GiveBack n)) → core.locals n ≡ Some local
    → shadow (happens core (GiveBack n)) ≡ record (shadow core) { held = without (shadow core).held local.id }
gives_back core n local r t at = by_move core (GiveBack n) _ r (moves.give_moves core n local t at)

pub publishes : {V E : Type 0} (core : Core V E) (n : ℕ) (local : Local V E) (v : V) → IsReached core
    → IsTrue (is_enabled core (OfLocal n SetFlag)) → core.locals n ≡ Some local → local.doing ≡ Written v true
    → shadow (happens core (OfLocal n SetFlag))
    ≡ record (shadow core) { values = with_value (shadow core).values local.id v }
publishes core n local v r t at written = by_move core (OfLocal n SetFlag) _ r (moves.publish_moves core n local v t at written)

pub rewrites : {V E : Type 0} (core : Core V E) (others : ℕ → V → V) → IsReached core
    → IsTrue (is_enabled core (Owner (RewriteTable others)))
    → shadow (happens core (Owner (RewriteTable others)))
    ≡ record (shadow core) { values = λ id. option_map (others id) ((shadow core).values id) }
rewrites core others r t = by_move core (Owner (RewriteTable others)) _ r (moves.rewrite_moves core others t)

pub sheet_stays : {V E : Type 0} (core : Core V E) (event : Event V E) → IsReached core
    → (IsTrue (is_enabled core event) → moves.IsNoMove core event)
    → shadow (happens core event) ≡ shadow core
sheet_stays core event r other = by_move core event None r (moves.no_moves core event other)

-- a slot shows what is written in it where its flag is set
shown : {V : Type 0} (written : Option V) (flag : Bool) (v : V)
    → (value_of (record { written = written; flag = flag }) ≡ Some v) ↔ (IsTrue flag × (written ≡ Some v))
shown written true v = (λ e. (refl, e), λ p. p.1)
shown written false v = (λ e. cc, λ p. absurd (false≢true p.0))

pub shows : {V E : Type 0} (core : Core V E) (id : ℕ) (v : V)
    → ((shadow core).values id ≡ Some v) ↔ (IsTrue (slot_at core.table id).flag × ((slot_at core.table id).written ≡ Some v))
unfolding published
shows core id v = shown (slot_at core.table id).written (slot_at core.table id).flag v

-- what holds of the table after a Local's step holds of the core's
of_some : {A : Type 0} (P : Type 0) (o : Option A) → IsSomeAnd o (λ _. P) → P
of_some P None p = absurd p
of_some P (Some x) p = p

table_after : {V E : Type 0} (core : Core V E) (n : ℕ) (it : LocalStep V E) (local : Local V E) (P : Table V → Type 0)
    → IsTrue (is_enabled core (OfLocal n it)) → core.locals n ≡ Some local
    → IfSome (local_step core.table local it) (λ after. P after.0)
    → P (happens core (OfLocal n it)).table
table_after core n it local P t at p =
    let after = happens core (OfLocal n it) in
    of_some (P after.table) (after.locals n) (step_goes core n it local (λ then. P then.0) t at p)

-- a call that makes a bucket owns it, with nothing in it
made_so : {V E : Type 0} (table : Table V) (local : Local V E) (doing : Doing V E) (learnt : Learnt V) (create : Result V E)
    → doing ≡ Started create
    → IfSome (option_map (make_bucket table local false) (closure_at_missing doing learnt))
    (λ after. after.1.doing ≡ Private create table.made)
made_so table local (Started it) Missing create e = let same : it ≡ create = cc in ap (λ x. Private x table.made) same
made_so table local _ _ create e = tt

pub makes : {V E : Type 0} (core : Core V E) (n : ℕ) (local : Local V E) (create : Result V E)
    → IsTrue (is_enabled core (OfLocal n (MakeBucket false))) → core.locals n ≡ Some local → local.doing ≡ Started create
    → IsSomeAnd ((happens core (OfLocal n (MakeBucket false))).locals n) (λ after. after.doing ≡ Private create core.table.made)
unfolding local_step
makes core n local create t at started =
    step_goes core n (MakeBucket false) local (λ after. after.1.doing ≡ Private create core.table.made) t at
    (made_so core.table local local.doing local.learnt create started)

-- a call that fills its bucket knows whether it is announced, and the table stays
filled_so : {V E : Type 0} (table : Table V) (local : Local V E) (doing : Doing V E) (create : Result V E) (number : ℕ)
    → doing ≡ Private create number
    → IfSome (option_map (fill_bucket table local) (empty_bucket doing))
    (λ after. after.1.doing ≡ Filled create number (table.announced (bucket_of local.id)))
filled_so table local doing create number e = rw e refl

pub fills : {V E : Type 0} (core : Core V E) (n : ℕ) (local : Local V E) (create : Result V E) (number : ℕ)
    → IsTrue (is_enabled core (OfLocal n FillBucket)) → core.locals n ≡ Some local → local.doing ≡ Private create number
    → IsSomeAnd ((happens core (OfLocal n FillBucket)).locals n)
    (λ after. after.doing ≡ Filled create number (core.table.announced (bucket_of local.id)))
unfolding local_step
fills core n local create number t at own =
    step_goes core n FillBucket local (λ after. after.1.doing ≡ Filled create number (core.table.announced (bucket_of local.id))) t at
    (filled_so core.table local local.doing create number own)

pub fill_stays : {V E : Type 0} (core : Core V E) (n : ℕ) (local : Local V E)
    → IsTrue (is_enabled core (OfLocal n FillBucket)) → core.locals n ≡ Some local
    → (happens core (OfLocal n FillBucket)).table ≡ core.table
unfolding local_step
fill_stays core n local t at =
    table_after core n FillBucket local (λ table. table ≡ core.table) t at
    (if_there (λ after. after.0 ≡ core.table) (fill_bucket core.table local) (empty_bucket local.doing) (λ own _. refl))

-- and announces it where it doesn't know that, as a call does that has written its value
announced_so : {V E : Type 0} (table : Table V) (local : Local V E) (doing after : Doing V E)
    → doing_announced doing ≡ Some after
    → IfSome (option_map (announce_bucket table local) (doing_announced doing)) (λ then. then.1.doing ≡ after)
announced_so table local doing after e = rw e refl

pub announced : {V E : Type 0} (core : Core V E) (n : ℕ) (local : Local V E) (doing : Doing V E)
    → IsTrue (is_enabled core (OfLocal n AnnounceBucket)) → core.locals n ≡ Some local
    → doing_announced local.doing ≡ Some doing
    → IsSomeAnd ((happens core (OfLocal n AnnounceBucket)).locals n) (λ after. after.doing ≡ doing)
unfolding local_step
announced core n local doing t at own =
    step_goes core n AnnounceBucket local (λ after. after.1.doing ≡ doing) t at (announced_so core.table local local.doing doing own)

pub announces : {V E : Type 0} (core : Core V E) (n : ℕ) (local : Local V E) (bucket : ℕ)
    → IsTrue (is_enabled core (OfLocal n AnnounceBucket)) → core.locals n ≡ Some local
    → (happens core (OfLocal n AnnounceBucket)).table.announced bucket
    ≡ cond (eqb (bucket_of local.id) bucket) true (core.table.announced bucket)
unfolding local_step
announces core n local bucket t at =
    let own = bucket_of local.id in
    table_after core n AnnounceBucket local
    (λ table. table.announced bucket ≡ cond (eqb own bucket) true (core.table.announced bucket))
    t at
    (if_there (λ after. after.0.announced bucket ≡ cond (eqb own bucket) true (core.table.announced bucket))
    (announce_bucket core.table local) (doing_announced local.doing)
    (λ made _. announced-with_announced core.table own bucket))

-- an install makes the bucket of its Local's id stand, the call's own where none stood
installed_so : {V E : Type 0} (table : Table V) (local : Local V E) (own : OwnBucket V E) (bucket : ℕ)
    → IfSome (install_bucket table local own)
    (λ after. bucket_stands after.0 bucket ≡ cond (eqb (bucket_of local.id) bucket) true (bucket_stands table bucket))
installed_so table local own bucket =
    let here = bucket_of local.id in
    either_install table local
    (λ after. bucket_stands after.0 bucket ≡ cond (eqb here bucket) true (bucket_stands table bucket)) own
    (λ stands.
    ⊎_elim
    (λ same. ap (bucket_stands table) (sym same) ∙ stands ∙ sym (rw (eq-eqb here bucket same) refl))
    (λ apart. rw (ne_eqb here bucket apart) refl)
    (cases_eq here bucket))
    (λ _ v _. bucket_stands-with_filled_bucket table local.id own.number v bucket)
    (λ _ e _. bucket_stands-with_fresh_bucket table here own.number bucket)

pub installs : {V E : Type 0} (core : Core V E) (n : ℕ) (local : Local V E) (bucket : ℕ)
    → IsTrue (is_enabled core (OfLocal n InstallBucket)) → core.locals n ≡ Some local
    → bucket_stands (happens core (OfLocal n InstallBucket)).table bucket
    ≡ cond (eqb (bucket_of local.id) bucket) true (bucket_stands core.table bucket)
unfolding local_step
installs core n local bucket t at =
    let P : Table _ → Type 0 = λ table.
    bucket_stands table bucket ≡ cond (eqb (bucket_of local.id) bucket) true (bucket_stands core.table bucket) in
    table_after core n InstallBucket local P t at
    (if_then (λ after. P after.0) (install_bucket core.table local) (filled_bucket local.doing)
    (λ own _. installed_so core.table local own bucket))

-- where none stood, the one that stands then is the call's own
own_number_of : {V E : Type 0} (doing : Doing V E) (own : OwnBucket V E) → filled_bucket doing ≡ Some own
    → own_number doing ≡ Some own.number
own_number_of (Filled create number true) own e = ap (option_map (λ it. it.number)) e
own_number_of (Filled create number false) own e = cc
own_number_of (Gets count) own e = cc
own_number_of (Started create) own e = cc
own_number_of (Private create number) own e = cc
own_number_of (Written v announced) own e = cc

pub installs_own : {V E : Type 0} (core : Core V E) (n : ℕ) (local : Local V E)
    → IsTrue (is_enabled core (OfLocal n InstallBucket)) → core.locals n ≡ Some local
    → bucket_stands core.table (bucket_of local.id) ≡ false
    → number_at (happens core (OfLocal n InstallBucket)).table (bucket_of local.id) ≡ own_number local.doing
unfolding local_step
installs_own core n local t at none =
    let here = bucket_of local.id in
    table_after core n InstallBucket local (λ table. number_at table here ≡ own_number local.doing) t at
    (if_then (λ after. number_at after.0 here ≡ own_number local.doing) (install_bucket core.table local)
    (filled_bucket local.doing) (λ own e.
    let same = number_at-with_bucket_same core.table here own.number ∙ sym (own_number_of local.doing own e) in
    either_install core.table local (λ after. number_at after.0 here ≡ own_number local.doing) own
    (λ stands. absurd (false≢true (sym none ∙ stands)))
    (λ _ v _. number_at-with_table_slot (with_fresh_bucket core.table here own.number) local.id here _ ∙ same)
    (λ _ x _. same)))

-- and its value is published, where none stood
pub installs_value : {V E : Type 0} (core : Core V E) (n : ℕ) (local : Local V E) (v : V) (number : ℕ) → IsReached core
    → IsTrue (is_enabled core (OfLocal n InstallBucket)) → core.locals n ≡ Some local → local.doing ≡ Filled (Ok v) number true
    → bucket_stands core.table (bucket_of local.id) ≡ false
    → shadow (happens core (OfLocal n InstallBucket))
    ≡ record (shadow core) { values = with_value (shadow core).values local.id v }
installs_value core n local v number r t at filled none =
    by_move core (OfLocal n InstallBucket) _ r (moves.install_moves core n local v number t at filled none)

-- nothing is published by a bucket that has no value
pub installs_nothing : {V E : Type 0} (core : Core V E) (n : ℕ) (local : Local V E) (e : E) (number : ℕ) → IsReached core
    → IsTrue (is_enabled core (OfLocal n InstallBucket)) → core.locals n ≡ Some local → local.doing ≡ Filled (Err e) number true
    → shadow (happens core (OfLocal n InstallBucket)) ≡ shadow core
installs_nothing core n local e number r t at filled =
    by_move core (OfLocal n InstallBucket) None r (moves.empty_moves core n local e number t at filled)

pub beside_stays : {V E : Type 0} (core : Core V E) (n : ℕ) (local : Local V E) → IsReached core
    → IsTrue (is_enabled core (OfLocal n InstallBucket)) → core.locals n ≡ Some local
    → IsTrue (bucket_stands core.table (bucket_of local.id))
    → shadow (happens core (OfLocal n InstallBucket)) ≡ shadow core
beside_stays core n local r t at stands = by_move core (OfLocal n InstallBucket) None r (moves.beside_moves core n local t at stands)

-- a value is written into the slot of the Local's id, and then its flag is set
writes_slot : {V E : Type 0} (table : Table V) (local : Local V E) (v : V) (o : Option (Result V E))
    → IsTrue (bucket_stands table (bucket_of local.id)) → ((create : Result V E) → o ≡ Some create → create ≡ Ok v)
    → IfSome (option_map (write_value table local) o)
    (λ after. slot_at after.0 local.id ≡ record (slot_at table local.id) { written = Some v })
writes_slot table local v None stands only = tt
writes_slot table local v (Some (Ok w)) stands only =
    let all : Ok w ≡ Ok v = only (Ok w) refl in
    let same : w ≡ v = cc in
    slot_at-with_slot_same table local.id _ stands
    ∙ ap (λ x. let slot : Slot _ = record (slot_at table local.id) { written = Some x } in slot) same
writes_slot table local v (Some (Err e)) stands only = let all : Err e ≡ Ok v = only (Err e) refl in absurd cc

started_only : {V E : Type 0} (doing : Doing V E) (learnt : Learnt V) (create : Result V E) → doing ≡ Started create
    → (other : Result V E) → closure_at_vacant doing learnt ≡ Some other
    → other ≡ create
started_only (Started it) Vacant create e other f = cc
started_only (Started it) Unknown create e other f = cc
started_only (Started it) Missing create e other f = cc
started_only (Started it) Standing create e other f = cc
started_only (Started it) (Holding v) create e other f = cc
started_only (Gets count) learnt create e other f = cc
started_only (Private it number) learnt create e other f = cc
started_only (Filled it number announced) learnt create e other f = cc
started_only (Written v announced) learnt create e other f = cc

-- a Local that may write has learnt that its bucket stands
may_write : {V E : Type 0} (core : Core V E) (n : ℕ) (local : Local V E) → CoreFits core
    → IsTrue (is_enabled core (OfLocal n WriteValue)) → core.locals n ≡ Some local
    → IsTrue (bucket_stands core.table (bucket_of local.id))
may_write core n local h t at =
    let learnt = ((writes core n local (open_where core (OfLocal n WriteValue) t) at).0 t).1 in
    let fits = (h.locals.each n local at).local_fits.view.learnt_so in
    (subst (IsLearnt core.table local.id (view_now local)) learnt fits).0

pub writes_value : {V E : Type 0} (core : Core V E) (n : ℕ) (local : Local V E) (v : V) → CoreFits core
    → IsTrue (is_enabled core (OfLocal n WriteValue)) → core.locals n ≡ Some local → local.doing ≡ Started (Ok v)
    → slot_at (happens core (OfLocal n WriteValue)).table local.id
    ≡ record (slot_at core.table local.id) { written = Some v }
unfolding local_step
writes_value core n local v h t at started =
    table_after core n WriteValue local
    (λ table. slot_at table local.id ≡ record (slot_at core.table local.id) { written = Some v }) t at
    (writes_slot core.table local v (closure_at_vacant local.doing local.learnt) (may_write core n local h t at)
    (started_only local.doing local.learnt (Ok v) started))

-- and then knows whether that is announced
wrote_so : {V E : Type 0} (table : Table V) (local : Local V E) (doing : Doing V E) (learnt : Learnt V) (v : V)
    → doing ≡ Started (Ok v)
    → IfSome (option_map (write_value table local) (closure_at_vacant doing learnt))
    (λ after. after.1.doing ≡ Written v (table.announced (bucket_of local.id)))
wrote_so table local doing Vacant v e = rw e refl
wrote_so table local doing _ v e = rw e tt

pub wrote : {V E : Type 0} (core : Core V E) (n : ℕ) (local : Local V E) (v : V)
    → IsTrue (is_enabled core (OfLocal n WriteValue)) → core.locals n ≡ Some local → local.doing ≡ Started (Ok v)
    → IsSomeAnd ((happens core (OfLocal n WriteValue)).locals n)
    (λ after. after.doing ≡ Written v (core.table.announced (bucket_of local.id)))
unfolding local_step
wrote core n local v t at started =
    step_goes core n WriteValue local (λ after. after.1.doing ≡ Written v (core.table.announced (bucket_of local.id))) t at
    (wrote_so core.table local local.doing local.learnt v started)

sets_slot : {V E : Type 0} (table : Table V) (local : Local V E) (o : Option V)
    → (IsTrue (is_some o) → IsTrue (bucket_stands table (bucket_of local.id)))
    → IfSome (option_and_then (set_flag table local) o)
    (λ after. slot_at {V = V} after.0 local.id ≡ record (slot_at table local.id) { flag = true })
sets_slot table local None stands = tt
sets_slot table local (Some v) stands =
    whatever_is_learnt (with_flag table local.id)
    (after_call local (GetOr (Ok v) false) (Answered v) local.learnt (Gets 0))
    (learnt_by_publish local.learnt v)
    (λ after. slot_at after.0 local.id ≡ record (slot_at table local.id) { flag = true })
    (λ learnt. slot_at-with_slot_same table local.id _ (stands refl))

written_stands : {V E : Type 0} (table : Table V) (id : ℕ) (doing : Doing V E) → IsDoing table id doing
    → IsTrue (is_some (value_written doing))
    → IsTrue (bucket_stands table (bucket_of id))
written_stands table id (Written v true) fits t = fits.0
written_stands table id (Written v false) fits t = absurd (false≢true t)
written_stands table id (Gets count) fits t = absurd (false≢true t)
written_stands table id (Started create) fits t = absurd (false≢true t)
written_stands table id (Private create number) fits t = absurd (false≢true t)
written_stands table id (Filled create number announced) fits t = absurd (false≢true t)

pub sets_flag : {V E : Type 0} (core : Core V E) (n : ℕ) (local : Local V E) → CoreFits core
    → IsTrue (is_enabled core (OfLocal n SetFlag)) → core.locals n ≡ Some local
    → slot_at (happens core (OfLocal n SetFlag)).table local.id ≡ record (slot_at core.table local.id) { flag = true }
unfolding local_step
sets_flag core n local h t at =
    table_after core n SetFlag local
    (λ table. slot_at table local.id ≡ record (slot_at core.table local.id) { flag = true }) t at
    (sets_slot core.table local (value_written local.doing)
    (written_stands core.table local.id local.doing (h.locals.each n local at).local_fits.view.doing_so))

-- what a Local has learnt by an install and by a publishing
pub installed : {V E : Type 0} (core : Core V E) (n : ℕ) (local : Local V E) (v : V) (number : ℕ)
    → IsTrue (is_enabled core (OfLocal n InstallBucket)) → core.locals n ≡ Some local → local.doing ≡ Filled (Ok v) number true
    → bucket_stands core.table (bucket_of local.id) ≡ false
    → IsSomeAnd ((happens core (OfLocal n InstallBucket)).locals n) (λ after. (after.learnt ≡ Holding v) × (after.doing ≡ Gets 0))
unfolding local_step
installed core n local v number t at filled none =
    step_goes core n InstallBucket local (λ after. (after.1.learnt ≡ Holding v) × (after.1.doing ≡ Gets 0)) t at
    (rw filled (either_install core.table local
    (λ after. (after.1.learnt ≡ Holding v) × (after.1.doing ≡ Gets 0)) (record { create = Ok v; number = number })
    (λ stands. absurd (false≢true (sym none ∙ stands)))
    (λ _ x same. let one : x ≡ v = cc in (ap Holding one, refl)) (λ _ e same. absurd cc)))

-- a call without a value, and one that found another bucket, go on with a vacant slot
pub installed_empty : {V E : Type 0} (core : Core V E) (n : ℕ) (local : Local V E) (create : Result V E) (number : ℕ)
    → IsTrue (is_enabled core (OfLocal n InstallBucket)) → core.locals n ≡ Some local → local.doing ≡ Filled create number true
    → (IsTrue (bucket_stands core.table (bucket_of local.id)) ⊎ IsErr create)
    → IsSomeAnd ((happens core (OfLocal n InstallBucket)).locals n) (λ after. (after.learnt ≡ Vacant) × (after.doing ≡ Started create))
unfolding local_step
installed_empty core n local create number t at filled else =
    step_goes core n InstallBucket local (λ after. (after.1.learnt ≡ Vacant) × (after.1.doing ≡ Started create)) t at
    (rw filled (either_install core.table local
    (λ after. (after.1.learnt ≡ Vacant) × (after.1.doing ≡ Started create)) (record { create = create; number = number })
    (λ _. (refl, refl))
    (λ none v same. absurd (⊎_elim (λ stands. false≢true (sym none ∙ stands)) (λ err. false≢true (subst IsErr same err)) else))
    (λ _ e same. (refl, ap Started (sym same)))))

by_publish : {V : Type 0} (before learnt : Learnt V) (v : V) → learnt_by_publish before v ≡ Some learnt → learnt ≡ Holding v
by_publish Vacant learnt v e = cc
by_publish Unknown learnt v e = cc
by_publish Missing learnt v e = cc
by_publish Standing learnt v e = cc
by_publish (Holding w) learnt v e = cc

published_learnt : {V E : Type 0} (table : Table V) (local : Local V E) (v : V) (o : Option (Learnt V))
    → ((learnt : Learnt V) → o ≡ Some learnt → learnt ≡ Holding v)
    → IfSome (learns table local o) (λ after. after.1.learnt ≡ Holding v)
published_learnt table local v None only = tt
published_learnt table local v (Some learnt) only = only learnt refl

publish_learns : {V E : Type 0} (table : Table V) (local : Local V E) (v : V) (o : Option V) → o ≡ Some v
    → IfSome (option_and_then (set_flag table local) o) (λ after. after.1.learnt ≡ Holding v)
publish_learns table local v None e = cc
publish_learns table local v (Some w) e =
    let same : w ≡ v = cc in
    subst (λ x. IfSome (set_flag table local x) (λ after. after.1.learnt ≡ Holding v)) (sym same)
    (published_learnt (with_flag table local.id)
    (after_call local (GetOr (Ok v) false) (Answered v) local.learnt (Gets 0)) v
    (learnt_by_publish local.learnt v) (λ learnt. by_publish local.learnt learnt v))

pub holds : {V E : Type 0} (core : Core V E) (n : ℕ) (local : Local V E) (v : V)
    → IsTrue (is_enabled core (OfLocal n SetFlag)) → core.locals n ≡ Some local → local.doing ≡ Written v true
    → IsSomeAnd ((happens core (OfLocal n SetFlag)).locals n) (λ after. after.learnt ≡ Holding v)
unfolding local_step
holds core n local v t at written =
    step_goes core n SetFlag local (λ after. after.1.learnt ≡ Holding v) t at
    (publish_learns core.table local v (value_written local.doing) (ap value_written written))
