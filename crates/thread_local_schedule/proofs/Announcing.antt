-- Only the step for it announces a bucket, its own, and no event takes that back. A bucket is
-- announced before a value is published in it.
use Rattle.std.proofs.Common.{◌≡◌, ℕ, ◌⊎◌, inl, inr, Bool, true, false, cond, Option, Some, None, Result, Ok, Err}
use Rattle.std.proofs.Common.{IsTrue, IfSome, IsSomeAnd, refl, ap, sym, ◌∙◌, ⊎_elim}
use Rattle.std.specs.Prelude.{unwrap_or}
use Rattle.std.proofs.lemmas.Bool.{false≢true, false_from_ne_true, cond_both, cases_eq, ne_eqb}
use Rattle.std.proofs.lemmas.Option.{none-some}
use Rattle.thread_local_base.specs.Place.{bucket_of}
use Rattle.thread_local_base.specs.Held.{is_granted}
use Rattle.thread_local_base.specs.Capacity.{reserves_bucket}
use Rattle.thread_local_base.specs.Learnt.{Learnt, learnt_by_load, learnt_by_look, learnt_by_publish}
use Rattle.thread_local_base.specs.Answers.{Answered, GetOr}
use Rattle.thread_local_schedule.specs.Table.{Table, published, bucket_stands, with_announced, with_flag}
use Rattle.thread_local_schedule.specs.Local.{Local, LocalStep, local_step, Gets, BeginGet, BeginGetOr, LoadPointer}
use Rattle.thread_local_schedule.specs.Local.{LookAtFlag, MakeBucket, FillBucket, AnnounceBucket, InstallBucket, WriteValue, SetFlag, Reply}
use Rattle.thread_local_schedule.specs.Local.{doing_with_get, doing_with_get_or, begin_call, may_look, learns, closure_at_missing}
use Rattle.thread_local_schedule.specs.Local.{make_bucket, empty_bucket, fill_bucket, doing_announced, announce_bucket, filled_bucket}
use Rattle.thread_local_schedule.specs.Local.{install_bucket, closure_at_vacant, write_value, value_written, set_flag, after_call}
use Rattle.thread_local_schedule.specs.Local.{ending_of, reply}
use Rattle.thread_local_schedule.specs.SharedWalk.{walk_step}
use Rattle.thread_local_schedule.specs.Core.{Core, is_alone}
use Rattle.thread_local_schedule.specs.CoreFits.{CoreFits}
use Rattle.thread_local_schedule.specs.Events.{Event, TakeId, OfLocal, GiveBack, Forget, BeginWalk, OfWalk, EndWalk}
use Rattle.thread_local_schedule.specs.Events.{Owner, OwnerCall, RewriteTable, Slots, DrainTable, ClearTable, IntoIter, DropTable}
use Rattle.thread_local_schedule.specs.Events.{take_id, with_step, is_idle, without_local, with_id_given, with_walk}
use Rattle.thread_local_schedule.specs.Events.{after_owner, step_of, step, happens}
use Rattle.thread_local_schedule.proofs.CallsLaws.{whatever_is_learnt, either_install}
use Rattle.thread_local_schedule.proofs.TableLaws.{announced-with_announced, announced-more, announced-with_fresh_bucket}
use Rattle.thread_local_schedule.proofs.TableLaws.{announced-with_filled_bucket, announced-with_table_slot, published-slot_at, slot_at-with_announced}
use Rattle.thread_local_schedule.proofs.OwnerLaws.{announced-rewritten}
use Rattle.thread_local_schedule.proofs.ClearedLaws.{announced-cleared, announced-drained}
use Rattle.thread_local_schedule.proofs.OptionLaws.{if_enabled, if_mapped, if_there, if_then, some_and, unwrapped}
use Rattle.thread_local_schedule.proofs.Kept.{happens-fits}
use Rattle.thread_local_schedule.proofs.PeakLaws.{capacity_stays}
use Rattle.thread_local_schedule.proofs.Installs.{event_installs}

-- a step leaves which buckets are announced, or announces its own
abbrev Announces : {V E : Type 0} → LocalStep V E → Table V → ℕ → Table V → Type 0
Announces step table id after =
    (after.announced ≡ table.announced) ⊎ ((step ≡ AnnounceBucket) × (after ≡ with_announced table (bucket_of id)))

learns-announces : {V E : Type 0} (step : LocalStep V E) (table : Table V) (local : Local V E) (calling : Bool) (o : Option (Learnt V))
    → IfSome (cond calling (learns table local o) None) (λ after. Announces step table local.id after.0)
learns-announces step table local false o = tt
learns-announces step table local true o =
    whatever_is_learnt table local o (λ after. Announces step table local.id after.0) (λ learnt. inl refl)

made-announces : {V E : Type 0} (table : Table V) (local : Local V E) (refused : Bool) (create : Result V E)
    → (make_bucket table local refused create).0.announced ≡ table.announced
made-announces table local true create = refl
made-announces table local false create = refl

written-announces : {V E : Type 0} (table : Table V) (local : Local V E) (create : Result V E)
    → (write_value table local create).0.announced ≡ table.announced
written-announces table local (Ok v) = announced-with_table_slot table local.id _
written-announces table local (Err e) = refl

step-announces : {V E : Type 0} (table : Table V) (local : Local V E) (step : LocalStep V E)
    → IfSome (local_step table local step) (λ after. Announces step table local.id after.0)
unfolding local_step
step-announces {V} {E} table local BeginGet =
    if_there (λ after. Announces BeginGet table local.id after.0) (begin_call table local) (doing_with_get local.doing) (λ _ _. inl refl)
step-announces {V} {E} table local (BeginGetOr create) =
    if_there (λ after. Announces (BeginGetOr create) table local.id after.0) (begin_call table local)
    (doing_with_get_or create local.doing) (λ _ _. inl refl)
step-announces {V} {E} table local LoadPointer =
    learns-announces LoadPointer table local (may_look local.doing) (learnt_by_load local.learnt (bucket_stands table (bucket_of local.id)))
step-announces {V} {E} table local LookAtFlag =
    learns-announces LookAtFlag table local (may_look local.doing) (learnt_by_look local.learnt (published table local.id))
step-announces {V} {E} table local (MakeBucket refused) =
    if_there (λ after. Announces (MakeBucket refused) table local.id after.0) (make_bucket table local refused)
    (closure_at_missing local.doing local.learnt) (λ create _. inl (made-announces table local refused create))
step-announces {V} {E} table local FillBucket =
    if_there (λ after. Announces FillBucket table local.id after.0) (fill_bucket table local) (empty_bucket local.doing) (λ own _. inl refl)
step-announces {V} {E} table local AnnounceBucket =
    if_there (λ after. Announces AnnounceBucket table local.id after.0) (announce_bucket table local)
    (doing_announced local.doing) (λ doing _. inr (refl, refl))
step-announces {V} {E} table local InstallBucket =
    if_then (λ after. Announces InstallBucket table local.id after.0) (install_bucket table local)
    (filled_bucket local.doing) (λ own _.
    either_install table local (λ after. Announces {E = E} InstallBucket table local.id after.0) own
    (λ _. inl refl) (λ _ v _. inl (announced-with_filled_bucket table local.id own.number v))
    (λ _ e _. inl (announced-with_fresh_bucket table (bucket_of local.id) own.number)))
step-announces {V} {E} table local WriteValue =
    if_there (λ after. Announces WriteValue table local.id after.0) (write_value table local)
    (closure_at_vacant local.doing local.learnt) (λ create _. inl (written-announces table local create))
step-announces {V} {E} table local SetFlag =
    if_then (λ after. Announces SetFlag table local.id after.0) (set_flag table local)
    (value_written local.doing) (λ v _.
    whatever_is_learnt (with_flag table local.id)
    (after_call local (GetOr (Ok v) false) (Answered v) local.learnt (Gets 0))
    (learnt_by_publish local.learnt v) (λ after. Announces SetFlag table local.id after.0)
    (λ learnt. inl (announced-with_table_slot table local.id _)))
step-announces {V} {E} table local Reply =
    if_there (λ after. Announces Reply table local.id after.0) (reply table local) (ending_of local.doing local.learnt) (λ _ _. inl refl)

-- an event leaves which buckets are announced, or is the step of a Local that announces its bucket
abbrev EventAnnounces : {V E : Type 0} → Core V E → Event V E → Core V E → Type 0
EventAnnounces {V} {E} core event after =
    (after.table.announced ≡ core.table.announced)
    ⊎ ((n : ℕ) × (event ≡ OfLocal n AnnounceBucket)
    × (local : Local V E) × (core.locals n ≡ Some local) × (after.table ≡ with_announced core.table (bucket_of local.id)))

owner-announces : {V E : Type 0} (core : Core V E) (call : OwnerCall V)
    → (after_owner core call).table.announced ≡ core.table.announced
owner-announces core (RewriteTable others) = announced-rewritten core.table others
owner-announces core Slots = refl
owner-announces core DrainTable = announced-drained core.table
owner-announces core ClearTable = announced-cleared core.table core.capacity
owner-announces core IntoIter = refl
owner-announces core DropTable = refl

step_of-announces : {V E : Type 0} (core : Core V E) (event : Event V E) → IfSome (step_of core event) (EventAnnounces core event)
step_of-announces core (TakeId refused growth) =
    cond_both {A = Core _ _} (is_granted core.manager refused) (take_id core growth) core
    (EventAnnounces core (TakeId refused growth)) (λ _. inl refl) (λ _. inl refl)
step_of-announces core (OfLocal number it) =
    if_then (EventAnnounces core (OfLocal number it)) _ (core.locals number) (λ local at.
    if_mapped (EventAnnounces core (OfLocal number it)) (with_step core number)
    (local_step core.table local it) (step-announces core.table local it)
    (λ after s. ⊎_elim (λ same. inl same) (λ own. inr (number, ap (OfLocal number) own.0, local, at, own.1)) s))
step_of-announces core (GiveBack number) =
    if_then (EventAnnounces core (GiveBack number)) _ (core.locals number) (λ local at.
    if_enabled (EventAnnounces core (GiveBack number)) (is_idle local.doing) (with_id_given core number local.id) (inl refl))
step_of-announces core (Forget number) =
    if_then (EventAnnounces core (Forget number)) _ (core.locals number) (λ local at.
    if_enabled (EventAnnounces core (Forget number)) (is_idle local.doing) (without_local core number) (inl refl))
step_of-announces core BeginWalk = inl refl
step_of-announces core (OfWalk number it) =
    if_then (EventAnnounces core (OfWalk number it)) _ (core.walks number) (λ walk at.
    if_there (EventAnnounces core (OfWalk number it)) (with_walk core number) (walk_step core.table walk it) (λ after _. inl refl))
step_of-announces core (EndWalk number) =
    if_there (EventAnnounces core (EndWalk number)) _ (core.walks number) (λ walk at. inl refl)
step_of-announces core (Owner call) =
    if_enabled (EventAnnounces core (Owner call)) (is_alone core) (after_owner core call) (inl (owner-announces core call))

event_announces : {V E : Type 0} (core : Core V E) (event : Event V E) → EventAnnounces core event (happens core event)
unfolding happens step
event_announces core event =
    cond_both {A = Option (Core _ _)} core.ended None (step_of core event) (λ o. EventAnnounces core event (unwrap_or o core))
    (λ _. inl refl)
    (λ _. unwrapped (EventAnnounces core event) (step_of core event) core (step_of-announces core event) (inl refl))

-- what is announced by it
own_announced : {V : Type 0} (table after : Table V) (bucket own : ℕ) → table.announced bucket ≡ false
    → IsTrue (after.announced bucket) → after ≡ with_announced table own
    → own ≡ bucket
own_announced table after bucket own none t e =
    ⊎_elim
    (λ same. same)
    (λ apart.
    absurd
    (false≢true (sym none
    ∙ sym (announced-with_announced table own bucket ∙ ap (λ b. cond b true (table.announced bucket)) (ne_eqb own bucket apart))
    ∙ sym (ap (λ new. new.announced bucket) e)
    ∙ t)))
    (cases_eq own bucket)

pub announced_by : {V E : Type 0} (core : Core V E) (event : Event V E) (bucket : ℕ)
    → core.table.announced bucket ≡ false
    → IsTrue ((happens core event).table.announced bucket)
    → (n : ℕ) × (event ≡ OfLocal n AnnounceBucket) × IsSomeAnd (core.locals n) (λ local. bucket_of local.id ≡ bucket)
announced_by core event bucket none t =
    ⊎_elim
    (λ same. absurd (false≢true (sym none ∙ sym (ap (λ f. f bucket) same) ∙ t)))
    (λ own.
    let local = own.2 in
    let here = own_announced core.table (happens core event).table bucket (bucket_of local.id) none t own.4 in
    (own.0, own.1, some_and (core.locals own.0) local (λ it. bucket_of it.id ≡ bucket) own.3 here))
    (event_announces core event)

-- a bucket that is announced stays so
pub stays_announced : {V E : Type 0} (core : Core V E) (event : Event V E) (bucket : ℕ)
    → IsTrue (core.table.announced bucket)
    → IsTrue ((happens core event).table.announced bucket)
stays_announced core event bucket t =
    ⊎_elim
    (λ same. ap (λ f. f bucket) same ∙ t)
    (λ own. let local = own.2 in ap (λ new. new.announced bucket) own.4 ∙ announced-more core.table (bucket_of local.id) bucket t)
    (event_announces core event)

-- a bucket that comes to stand was announced before
pub announced_before : {V E : Type 0} (core : Core V E) (event : Event V E) (bucket : ℕ) → CoreFits core
    → bucket_stands core.table bucket ≡ false
    → IsTrue (bucket_stands (happens core event).table bucket)
    → IsTrue (core.table.announced bucket)
announced_before core event bucket h none t =
    let later = happens-fits core event h in
    ⊎_elim
    (λ same.
    sym (ap (λ f. f bucket) same)
    ∙ later.table.standing_announced bucket t
    (ap (λ c. reserves_bucket c bucket) (capacity_stays core event h)
    ∙ false_from_ne_true (reserves_bucket core.capacity bucket) (λ r. false≢true (sym none ∙ h.table.reserved bucket r))))
    (λ own. let other = (event_installs core event bucket none t).1 in let it = own.1 in absurd cc)
    (event_announces core event)

-- and so was the bucket of a value that comes to be published
pub announced_first : {V E : Type 0} (core : Core V E) (event : Event V E) (id : ℕ) (v : V) → CoreFits core
    → published core.table id ≡ None
    → published (happens core event).table id ≡ Some v
    → IsTrue (core.table.announced (bucket_of id))
announced_first core event id v h none some =
    ⊎_elim
    (λ same. sym (ap (λ f. f (bucket_of id)) same) ∙ (happens-fits core event h).table.announced id v some)
    (λ own.
    let local = own.2 in
    let after = with_announced core.table (bucket_of local.id) in
    let stays = published-slot_at core.table after id (slot_at-with_announced core.table (bucket_of local.id) id) in
    absurd (none-some v (sym none ∙ sym stays ∙ sym (ap (λ new. published new id) own.4) ∙ some)))
    (event_announces core event)
