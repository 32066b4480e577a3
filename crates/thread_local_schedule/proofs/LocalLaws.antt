-- Every step of a `Local` keeps its invariant and those of the others, and changes no slot but its
-- own.
use Rattle.std.proofs.Common.{◌≡◌, ℕ, zero, suc, ◌⊎◌, Bool, true, false, cond, eqb, [], ◌∷◌, ◌++◌, Option, Some, None}
use Rattle.std.proofs.Common.{Result, Ok, Err, IsTrue, is_some, IfSome, refl, ap, sym, ◌∙◌, subst, ⊎_elim, inl, inr}
use Rattle.std.specs.Prelude.{option_map, option_and_then}
use Rattle.std.specs.Result.{result_ok}
use Rattle.std.proofs.lemmas.Bool.{cases_eq, cond_both, eq-eqb, ne_eqb, false_from_ne_true, false≢true}
use Rattle.thread_local_base.specs.Place.{bucket_of}
use Rattle.thread_local_base.specs.Answers.{View, Call, Get, GetOr, Answer, Found, Answered, Refused, Failed, Says, answers}
use Rattle.thread_local_base.proofs.AnswersLaws as says
use Rattle.thread_local_base.proofs.AnswersLaws.{answers-push, view_after_all-push}
use Rattle.thread_local_schedule.specs.Table.{Slot, Table, slot_at, published, bucket_stands, value_of, with_announced, with_fresh_bucket}
use Rattle.thread_local_schedule.specs.Table.{with_filled_bucket, with_table_slot, with_flag}
use Rattle.thread_local_base.specs.Learnt.{Learnt, Unknown, Missing, Standing, Vacant, Holding, learnt_by_load}
use Rattle.thread_local_base.specs.Learnt.{learnt_by_look, learnt_by_publish}
use Rattle.thread_local_schedule.specs.Local.{Doing, Gets, Started, Private, Filled, Written, Local, after_call, may_look}
use Rattle.thread_local_schedule.specs.Local.{learns, load_pointer, look_at_flag, make_bucket, fill_bucket, announce_bucket, install_bucket}
use Rattle.thread_local_schedule.specs.Local.{write_value, set_flag, reply, local_step, LocalStep, BeginGet, BeginGetOr}
use Rattle.thread_local_schedule.specs.Local.{LoadPointer, LookAtFlag, MakeBucket, FillBucket, AnnounceBucket, InstallBucket}
use Rattle.thread_local_schedule.specs.Local.{WriteValue, SetFlag}
use Rattle.thread_local_schedule.specs.Local.{Reply, doing_with_get, doing_with_get_or, begin_call, closure_at_missing}
use Rattle.thread_local_schedule.specs.Local.{closure_at_vacant, ending_of, empty_bucket, doing_announced, filled_bucket, value_written}
use Rattle.thread_local_schedule.specs.Fits.{IsWritten, AllWritten, view_now, IsLearnt, IsDoing, ViewFits, LocalFits}
use Rattle.thread_local_schedule.proofs.CallsLaws.{either_install}
use Rattle.thread_local_schedule.specs.Fits.{number_at, ChangesOnly, value_set, StepFits}
use Rattle.thread_local_schedule.proofs.TableLaws.{slot_at-none, published_unset, slot_at-with_fresh_bucket, bucket_stands-with_fresh_bucket}
use Rattle.thread_local_schedule.proofs.TableLaws.{bucket_stands-with_filled_bucket, published-slot_at, slot_at-with_slot_same}
use Rattle.thread_local_schedule.proofs.TableLaws.{slot_at-with_slot_other, bucket_stands-with_table_slot, slot_at-made}
use Rattle.thread_local_schedule.proofs.TableLaws.{bucket_stands-made, number_at-made, number_at-with_filled_bucket, number_at-with_table_slot}
use Rattle.thread_local_schedule.proofs.TableLaws.{slot_at-with_announced, bucket_stands-with_announced, number_at-with_announced}
use Rattle.thread_local_schedule.proofs.TableLaws.{announced-more, announced-own, announced-with_fresh_bucket, announced-with_filled_bucket}
use Rattle.thread_local_schedule.proofs.TableLaws.{announced-with_table_slot, number_at-with_fresh_bucket}

learnt_carried : {V : Type 0} (old new : Table V) (id : ℕ) (view : View V) (learnt : Learnt V)
    → slot_at new id ≡ slot_at old id → (IsTrue (bucket_stands old (bucket_of id)) → IsTrue (bucket_stands new (bucket_of id)))
    → IsLearnt old id view learnt → IsLearnt new id view learnt
learnt_carried old new id view Unknown same stays l = l
learnt_carried old new id view Missing same stays l = (ap (λ slot. slot.flag) same ∙ l.0, l.1)
learnt_carried old new id view Standing same stays l = stays l
learnt_carried old new id view Vacant same stays l = (stays l.0, ap (λ slot. slot.flag) same ∙ l.1)
learnt_carried old new id view (Holding v) same stays l = published-slot_at old new id same ∙ l

doing_carried : {V E : Type 0} (old new : Table V) (id : ℕ) (doing : Doing V E)
    → slot_at new id ≡ slot_at old id → (IsTrue (bucket_stands old (bucket_of id)) → IsTrue (bucket_stands new (bucket_of id)))
    → (IsTrue (old.announced (bucket_of id)) → IsTrue (new.announced (bucket_of id)))
    → IsDoing old id doing → IsDoing new id doing
doing_carried old new id (Gets count) same stays known d = d
doing_carried old new id (Started create) same stays known d = d
doing_carried old new id (Private create number) same stays known d = ap (λ slot. slot.flag) same ∙ d
doing_carried old new id (Filled create number announced) same stays known d =
    (ap (λ slot. slot.flag) same ∙ d.0, λ t. known (d.1 t))
doing_carried old new id (Written v announced) same stays known d = (stays d.0, same ∙ d.1, λ t. known (d.2 t))

-- what fits at a slot still fits where the slot is the same, and its bucket stands and is announced
-- if it did and was
pub view_carried : {V E : Type 0} (old new : Table V) (id : ℕ) (view : View V) (learnt : Learnt V) (doing : Doing V E)
    → slot_at new id ≡ slot_at old id → (IsTrue (bucket_stands old (bucket_of id)) → IsTrue (bucket_stands new (bucket_of id)))
    → (IsTrue (old.announced (bucket_of id)) → IsTrue (new.announced (bucket_of id)))
    → ViewFits old id view learnt doing → ViewFits new id view learnt doing
view_carried old new id view learnt doing same stays known h = record {
  value = h.value ∙ sym (published-slot_at old new id same);
  known = λ t. stays (h.known t);
  learnt_so = learnt_carried old new id view learnt same stays h.learnt_so;
  doing_so = doing_carried old new id doing same stays known h.doing_so;
}

-- a table changes nothing against itself
same_table : {V : Type 0} (table : Table V) (id : ℕ) → AllWritten table → ChangesOnly table table id
same_table table id written = record {
  others = λ other apart. refl;
  standing = λ bucket t. (t, refl);
  installed = λ bucket t. inl t;
  announced = λ bucket t. t;
  written = written;
}

-- a step that leaves the table and ends no call
stays : {V E : Type 0} (table : Table V) (local : Local V E) (learnt : Learnt V) (doing : Doing V E)
    → AllWritten table → LocalFits table local
    → IsLearnt table local.id (view_now local) learnt → IsDoing table local.id doing
    → StepFits table local None (table, record local { learnt = learnt; doing = doing })
stays table local learnt doing written h l d = record {
  fits = record { answered = h.answered; view = record { value = h.view.value; known = h.view.known; learnt_so = l; doing_so = d } };
  changes = same_table table local.id written;
  shown = λ id. refl;
  empty = tt;
  announced = tt;
  same = record { id = refl; start = refl };
}

-- a Local fits after a call that answers by its view, where the view after the call fits
call_fits : {V E : Type 0} (table old : Table V) (local : Local V E) (call : Call V E)
    (told : Answer V E) (left : View V) (learnt : Learnt V) (doing : Doing V E)
    → LocalFits old local → Says (view_now local) call told left → ViewFits table local.id left learnt doing
    → LocalFits table (after_call local call told learnt doing)
call_fits table old local call told left learnt doing h says fits = record {
  answered =
      ap (λ xs. xs ++ told ∷ []) h.answered ∙ ap (λ x. answers local.start local.calls ++ x ∷ []) (sym says.answered)
      ∙ sym (answers-push local.start local.calls call);
  view =
      subst (λ view. ViewFits table local.id view learnt doing)
      (sym (view_after_all-push local.start local.calls call ∙ says.leaves)) fits;
}

-- such a call that leaves the table
ends : {V E : Type 0} (table : Table V) (local : Local V E) (call : Call V E) (told : Answer V E)
    (left : View V) (learnt : Learnt V) (doing : Doing V E)
    → AllWritten table → LocalFits table local → Says (view_now local) call told left → ViewFits table local.id left learnt doing
    → StepFits table local None (table, after_call local call told learnt doing)
ends table local call told left learnt doing written h says fits = record {
  fits = call_fits table table local call told left learnt doing h says fits;
  changes = same_table table local.id written;
  shown = λ id. refl;
  empty = tt;
  announced = tt;
  same = record { id = refl; start = refl };
}

begin_get-fits : {V E : Type 0} (table : Table V) (local : Local V E) (doing : Doing V E) → AllWritten table → LocalFits table local
    → IfSome (option_map (begin_call table local) (doing_with_get doing)) (StepFits table local None)
begin_get-fits table local (Gets count) written h = stays table local local.learnt (Gets (suc count)) written h h.view.learnt_so tt
begin_get-fits table local _ written h = tt

begin_get_or-fits : {V E : Type 0} (table : Table V) (local : Local V E) (create : Result V E)
    (doing : Doing V E)
    → AllWritten table → LocalFits table local
    → IfSome (option_map (begin_call table local) (doing_with_get_or create doing)) (StepFits table local None)
begin_get_or-fits table local create (Gets zero) written h = stays table local local.learnt (Started create) written h h.view.learnt_so tt
begin_get_or-fits table local create _ written h = tt

-- what is learnt, if anything, holds
learns-fits : {V E : Type 0} (table : Table V) (local : Local V E) (learnt : Option (Learnt V))
    → AllWritten table → LocalFits table local
    → IfSome learnt (IsLearnt table local.id (view_now local)) → IfSome (learns table local learnt) (StepFits table local None)
learns-fits table local None written h l = tt
learns-fits table local (Some learnt) written h l = stays table local learnt local.doing written h l h.view.doing_so

-- what a load teaches holds
standing_so : {V : Type 0} (table : Table V) (id : ℕ) (view : View V)
    → (IsTrue view.known → IsTrue (bucket_stands table (bucket_of id))) → (b : Bool)
    → bucket_stands table (bucket_of id) ≡ b → IsLearnt table id view (cond b Standing Missing)
standing_so table id view known true s = s
standing_so table id view known false s =
    (ap (λ slot. slot.flag) (slot_at-none table id s), false_from_ne_true view.known (λ t. false≢true (sym s ∙ known t)))

learnt_by_load_so : {V : Type 0} (table : Table V) (id : ℕ) (view : View V) (learnt : Learnt V)
    → (IsTrue view.known → IsTrue (bucket_stands table (bucket_of id)))
    → IfSome (learnt_by_load learnt (bucket_stands table (bucket_of id))) (IsLearnt table id view)
learnt_by_load_so table id view Unknown known = standing_so table id view known (bucket_stands table (bucket_of id)) refl
learnt_by_load_so table id view Missing known = standing_so table id view known (bucket_stands table (bucket_of id)) refl
learnt_by_load_so table id view _ known = tt

load_pointer-fits : {V E : Type 0} (table : Table V) (local : Local V E) (b : Bool) → AllWritten table → LocalFits table local
    → IfSome (cond b (load_pointer table local) None) (StepFits table local None)
load_pointer-fits table local false written h = tt
load_pointer-fits table local true written h =
    learns-fits table local (learnt_by_load local.learnt (bucket_stands table (bucket_of local.id)))
    written h (learnt_by_load_so table local.id (view_now local) local.learnt h.view.known)

-- a slot that shows no value has its flag unset
unset : {V : Type 0} (flag : Bool) (shown : Option V) → (IsTrue flag → IsTrue (is_some shown))
    → cond flag shown None ≡ None
    → flag ≡ false
unset false shown written e = refl
unset true None written e = absurd (false≢true (written refl))
unset true (Some v) written e = cc

pub flag_unset : {V : Type 0} (table : Table V) (id : ℕ) → AllWritten table
    → published table id ≡ None
    → (slot_at table id).flag ≡ false
unfolding published
flag_unset table id written e = unset (slot_at table id).flag (slot_at table id).written (written id) e

-- what a look teaches holds
learnt_by_look_so : {V : Type 0} (table : Table V) (id : ℕ) (view : View V) (learnt : Learnt V) (shown : Option V) → AllWritten table
    → published table id ≡ shown → IsLearnt table id view learnt → IfSome (learnt_by_look learnt shown) (IsLearnt table id view)
learnt_by_look_so table id view Standing None written e l = (l, flag_unset table id written e)
learnt_by_look_so table id view Standing (Some v) written e l = e
learnt_by_look_so table id view _ shown written e l = tt

look_at_flag-fits : {V E : Type 0} (table : Table V) (local : Local V E) (b : Bool) → AllWritten table → LocalFits table local
    → IfSome (cond b (look_at_flag table local) None) (StepFits table local None)
look_at_flag-fits table local false written h = tt
look_at_flag-fits table local true written h =
    learns-fits table local (learnt_by_look local.learnt (published table local.id)) written h
    (learnt_by_look_so table local.id (view_now local) local.learnt (published table local.id) written refl h.view.learnt_so)

-- no slot changes, no pointer changes that isn't null, only the bucket of this id may be new, where it
-- was announced, and each that is announced stays so
record OffersOnly {V : Type 0} (old new : Table V) (id : ℕ) : Type 0 where
  same : (other : ℕ) → slot_at new other ≡ slot_at old other
  standing : (bucket : ℕ) → IsTrue (bucket_stands old bucket)
      → IsTrue (bucket_stands new bucket) × (number_at new bucket ≡ number_at old bucket)
  installed : (bucket : ℕ) → IsTrue (bucket_stands new bucket) → IsTrue (bucket_stands old bucket)
      ⊎ ((bucket_of id ≡ bucket) × IsTrue (old.announced bucket))
  announced : (bucket : ℕ) → IsTrue (old.announced bucket) → IsTrue (new.announced bucket)

-- a step that changes no slot and ends no call
offers : {V E : Type 0} (table after : Table V) (local : Local V E) (learnt : Learnt V)
    (doing : Doing V E)
    → AllWritten table → LocalFits table local
    → OffersOnly table after local.id → IsLearnt after local.id (view_now local) learnt → IsDoing after local.id doing
    → StepFits table local None (after, record local { learnt = learnt; doing = doing })
offers table after local learnt doing written h only l d = record {
  fits = record {
    answered = h.answered;
    view = record {
      value = h.view.value ∙ sym (published-slot_at table after local.id (only.same local.id));
      known = λ t. (only.standing (bucket_of local.id) (h.view.known t)).0;
      learnt_so = l;
      doing_so = d;
    };
  };
  changes = record {
    others = λ other apart. only.same other;
    standing = only.standing;
    installed = only.installed;
    announced = only.announced;
    written = λ id. subst IsWritten (sym (only.same id)) (written id);
  };
  shown = λ id. published-slot_at table after id (only.same id);
  empty = tt;
  announced = tt;
  same = record { id = refl; start = refl };
}

make_bucket-fits : {V E : Type 0} (table : Table V) (local : Local V E) (refused : Bool)
    (doing : Doing V E) (learnt : Learnt V)
    → AllWritten table → LocalFits table local
    → IsLearnt table local.id (view_now local) learnt → IsDoing table local.id doing
    → IfSome (option_map (make_bucket table local refused) (closure_at_missing doing learnt)) (StepFits table local None)
make_bucket-fits table local true (Started create) Missing written h l d =
    let none = h.view.value ∙ published_unset table local.id l.0 in
    ends table local (GetOr create true) Refused (view_now local) Missing (Gets 0) written h (says.refused (view_now local) create none l.1)
    (record { value = h.view.value; known = h.view.known; learnt_so = l; doing_so = tt })
make_bucket-fits table local false (Started create) Missing written h l d =
    let after = record table { made = suc table.made } in
    let same = slot_at-made table (suc table.made) in
    let standing = bucket_stands-made table (suc table.made) in
    offers table after local local.learnt (Private create table.made) written h
    (record {
      same = same;
      standing = λ bucket t. (standing bucket ∙ t, number_at-made table (suc table.made) bucket);
      installed = λ bucket t. inl (sym (standing bucket) ∙ t);
      announced = λ bucket t. t;
    })
    (learnt_carried table after local.id (view_now local) local.learnt (same local.id)
    (λ t. standing (bucket_of local.id) ∙ t) h.view.learnt_so)
    (ap (λ slot. slot.flag) (same local.id) ∙ l.0)
make_bucket-fits table local refused _ _ written h l d = tt

-- a call fills its bucket, which nobody else sees
fill_bucket-fits : {V E : Type 0} (table : Table V) (local : Local V E) (doing : Doing V E)
    → AllWritten table → LocalFits table local
    → IsDoing table local.id doing
    → IfSome (option_map (fill_bucket table local) (empty_bucket doing)) (StepFits table local None)
fill_bucket-fits table local (Private create number) written h d =
    stays table local local.learnt (Filled create number (table.announced (bucket_of local.id))) written h h.view.learnt_so (d, λ t. t)
fill_bucket-fits table local _ written h d = tt

-- a call announces its bucket, and no pointer and no slot changes
announces : {V E : Type 0} (table : Table V) (local : Local V E) (doing : Doing V E)
    → AllWritten table → LocalFits table local
    → IsDoing (with_announced table (bucket_of local.id)) local.id doing
    → StepFits table local None (announce_bucket table local doing)
announces table local doing written h d =
    let own = bucket_of local.id in
    let after = with_announced table own in
    let same = slot_at-with_announced table own in
    let standing = bucket_stands-with_announced table own in
    offers table after local local.learnt doing written h
    (record {
      same = same;
      standing = λ bucket t. (standing bucket ∙ t, number_at-with_announced table own bucket);
      installed = λ bucket t. inl (sym (standing bucket) ∙ t);
      announced = λ bucket t. announced-more table own bucket t;
    })
    (learnt_carried table after local.id (view_now local) local.learnt (same local.id)
    (λ t. standing own ∙ t) h.view.learnt_so) d

announce_bucket-fits : {V E : Type 0} (table : Table V) (local : Local V E) (doing : Doing V E)
    → AllWritten table → LocalFits table local
    → IsDoing table local.id doing
    → IfSome (option_map (announce_bucket table local) (doing_announced doing)) (StepFits table local None)
announce_bucket-fits table local (Filled create number false) written h d =
    let own = bucket_of local.id in
    announces table local (Filled create number true) written h
    (ap (λ slot. slot.flag) (slot_at-with_announced table own local.id) ∙ d.0, λ t. announced-own table own)
announce_bucket-fits table local (Written v false) written h d =
    let own = bucket_of local.id in
    announces table local (Written v true) written h
    (bucket_stands-with_announced table own own ∙ d.0, slot_at-with_announced table own local.id ∙ d.1, λ t. announced-own table own)
announce_bucket-fits table local _ written h d = tt

-- one slot changes, to one whose flag is set only over a written value
slot_changes : {V : Type 0} (table : Table V) (id : ℕ) (slot : Slot V)
    → IsTrue (bucket_stands table (bucket_of id)) → AllWritten table → IsWritten slot
    → ChangesOnly table (with_table_slot table id slot) id
slot_changes table id slot t written here = record {
  others = λ other apart. slot_at-with_slot_other table id other slot apart;
  standing = λ bucket s. (bucket_stands-with_table_slot table id bucket slot ∙ s, number_at-with_table_slot table id bucket slot);
  installed = λ bucket s. inl (sym (bucket_stands-with_table_slot table id bucket slot) ∙ s);
  announced = λ bucket s. ap (λ f. f bucket) (announced-with_table_slot table id slot) ∙ s;
  written = λ other.
      ⊎_elim
      (λ same.
      subst (λ j. IsWritten (slot_at (with_table_slot table id slot) j)) same
      (subst IsWritten (sym (slot_at-with_slot_same table id slot t)) here))
      (λ apart. subst IsWritten (sym (slot_at-with_slot_other table id other slot apart)) (written other))
      (cases_eq id other);
}

-- what the changed slot shows, and what the others show
shown_same : {V : Type 0} (table : Table V) (id : ℕ) (slot : Slot V)
    → IsTrue (bucket_stands table (bucket_of id))
    → published (with_table_slot table id slot) id ≡ value_of slot
unfolding published
shown_same table id slot t = ap value_of (slot_at-with_slot_same table id slot t)

shown_other : {V : Type 0} (table : Table V) (id other : ℕ) (slot : Slot V) → (id ≡ other → ⊥)
    → published (with_table_slot table id slot) other ≡ published table other
shown_other table id other slot apart =
    published-slot_at table (with_table_slot table id slot) other
    (slot_at-with_slot_other table id other slot apart)

-- a value is written into the empty slot of a bucket that stands
writes : {V E : Type 0} (table : Table V) (local : Local V E) (v : V)
    → AllWritten table → LocalFits table local
    → IsTrue (bucket_stands table (bucket_of local.id)) → (slot_at table local.id).flag ≡ false
    → StepFits table local None (write_value table local (Ok v))
writes table local v written h stands empty =
    let id = local.id in
    let slot = record (slot_at table id) { written = Some v } in
    let after = with_table_slot table id slot in
    let standing : IsTrue (bucket_stands after (bucket_of id)) = bucket_stands-with_table_slot table id (bucket_of id) slot ∙ stands in
    let here : slot_at after id ≡ record { written = Some v; flag = false } =
    slot_at-with_slot_same table id slot stands ∙ ap (λ b. record { written = Some v; flag = b }) empty in
    let none = published_unset table id empty in
    let none_after = published_unset after id (ap (λ s. s.flag) here) in
    record {
      fits = record {
        answered = h.answered;
        view = record {
          value = h.view.value ∙ none ∙ sym none_after;
          known = λ t. standing;
          learnt_so = (standing, ap (λ s. s.flag) here);
          doing_so = (standing, here, λ t. ap (λ f. f (bucket_of id)) (announced-with_table_slot table id slot) ∙ t);
        };
      };
      changes = slot_changes table id slot stands written (λ t. refl);
      shown = λ other.
          ⊎_elim
          (λ same. subst (λ j. published after j ≡ published table j) same (none_after ∙ sym none))
          (λ apart. shown_other table id other slot apart)
          (cases_eq id other);
      empty = tt;
      announced = tt;
      same = record { id = refl; start = refl };
    }

write_value-fits : {V E : Type 0} (table : Table V) (local : Local V E) (doing : Doing V E)
    (learnt : Learnt V)
    → AllWritten table → LocalFits table local
    → IsLearnt table local.id (view_now local) learnt
    → IfSome (option_map (write_value table local) (closure_at_vacant doing learnt))
    (StepFits table local None)
write_value-fits table local (Started (Ok v)) Vacant written h l = writes table local v written h l.0 l.1
write_value-fits table local (Started (Err e)) Vacant written h l =
    let none = published_unset table local.id l.1 in
    ends table local (GetOr (Err e) false) (Failed e) (record { value = None; known = true }) Vacant (Gets 0) written h
    (says.failed (view_now local) e (h.view.value ∙ none))
    (record { value = sym none; known = λ t. l.0; learnt_so = l; doing_so = tt })
write_value-fits table local _ _ written h l = tt

-- a filled bucket is installed where none stands, and only its value is published by that
installs : {V E : Type 0} (table : Table V) (local : Local V E) (v : V) (number : ℕ)
    → AllWritten table → LocalFits table local
    → bucket_stands table (bucket_of local.id) ≡ false → (slot_at table local.id).flag ≡ false
    → IsTrue (table.announced (bucket_of local.id))
    → StepFits table local (Some v) (
      with_filled_bucket table local.id number v,
      after_call local (GetOr (Ok v) false) (Answered v) (Holding v) (Gets 0),
    )
installs table local v number written h missing empty known =
    let id = local.id in
    let own = bucket_of id in
    let there = with_fresh_bucket table own number in
    let slot : Slot _ = record { written = Some v; flag = true } in
    let after = with_filled_bucket table id number v in
    let same : (other : ℕ) → slot_at there other ≡ slot_at table other =
    λ other. slot_at-with_fresh_bucket table own number other missing in
    let stood : IsTrue (bucket_stands there own) =
    bucket_stands-with_fresh_bucket table own number own ∙ ap (λ b. cond b true (bucket_stands table own)) (eq-eqb own own refl) in
    let standing : IsTrue (bucket_stands after own) = bucket_stands-with_table_slot there id own slot ∙ stood in
    let filled = slot_changes there id slot stood (λ other. subst IsWritten (sym (same other)) (written other)) (λ t. refl) in
    let none = published_unset table id empty in
    let some : published after id ≡ Some v = shown_same there id slot stood in
    record {
      fits = call_fits after table local (GetOr (Ok v) false) (Answered v) (record { value = Some v; known = true }) (Holding v) (Gets 0) h
          (says.created (view_now local) v (h.view.value ∙ none))
          (record { value = sym some; known = λ t. standing; learnt_so = some; doing_so = tt });
      changes = record {
        others = λ other apart. filled.others other apart ∙ same other;
        standing = λ bucket t. (
          (bucket_stands-with_filled_bucket table id number v bucket
              ∙ cond_both (eqb own bucket) true (bucket_stands table bucket) (λ b. b ≡ true)
              (λ _. refl) (λ _. t)),
          number_at-with_filled_bucket table id number v bucket
              (λ here. false≢true (sym missing ∙ ap (bucket_stands table) here ∙ t)),
        );
        installed = λ bucket t.
            ⊎_elim
            (λ here. inr (here, ap table.announced (sym here) ∙ known))
            (λ apart.
            inl (sym (bucket_stands-with_filled_bucket table id number v bucket
            ∙ ap (λ b. cond b true (bucket_stands table bucket)) (ne_eqb own bucket apart))
            ∙ t))
            (cases_eq own bucket);
        announced = λ bucket t. ap (λ f. f bucket) (announced-with_filled_bucket table id number v) ∙ t;
        written = filled.written;
      };
      shown = λ other.
          ⊎_elim
          (λ here. rw (eq-eqb id other here) (ap (published after) (sym here) ∙ some))
          (λ apart.
          rw (ne_eqb id other apart)
          (shown_other there id other slot apart ∙ published-slot_at table there other (same other)))
          (cases_eq id other);
      empty = none;
      announced = known;
      same = record { id = refl; start = refl };
    }

-- a bucket without a value is installed where none stands, and no slot changes
installs_empty : {V E : Type 0} (table : Table V) (local : Local V E) (number : ℕ) (doing : Doing V E)
    → AllWritten table → LocalFits table local
    → bucket_stands table (bucket_of local.id) ≡ false → (slot_at table local.id).flag ≡ false
    → IsTrue (table.announced (bucket_of local.id)) → ((after : Table V) → IsDoing after local.id doing)
    → StepFits table local None (
      with_fresh_bucket table (bucket_of local.id) number,
      record local { learnt = Vacant; doing = doing },
    )
installs_empty table local number doing written h missing empty known d =
    let own = bucket_of local.id in
    let after = with_fresh_bucket table own number in
    let same : (other : ℕ) → slot_at after other ≡ slot_at table other =
    λ other. slot_at-with_fresh_bucket table own number other missing in
    let standing = bucket_stands-with_fresh_bucket table own number in
    let stood : IsTrue (bucket_stands after own) =
    standing own ∙ ap (λ b. cond b true (bucket_stands table own)) (eq-eqb own own refl) in
    offers table after local Vacant doing written h
    (record {
      same = same;
      standing = λ bucket t. (
        (standing bucket ∙ cond_both (eqb own bucket) true (bucket_stands table bucket) (λ b. b ≡ true) (λ _. refl) (λ _. t)),
        number_at-with_fresh_bucket table own number bucket
            (λ here. false≢true (sym missing ∙ ap (bucket_stands table) here ∙ t)),
      );
      installed = λ bucket t.
          ⊎_elim
          (λ here. inr (here, ap table.announced (sym here) ∙ known))
          (λ apart.
          inl (sym (standing bucket ∙ ap (λ b. cond b true (bucket_stands table bucket)) (ne_eqb own bucket apart)) ∙ t))
          (cases_eq own bucket);
      announced = λ bucket t. ap (λ f. f bucket) (announced-with_fresh_bucket table own number) ∙ t;
    })
    (stood, ap (λ slot. slot.flag) (same local.id) ∙ empty)
    (d after)

install_bucket-fits : {V E : Type 0} (table : Table V) (local : Local V E) (doing : Doing V E)
    → AllWritten table → LocalFits table local
    → IsDoing table local.id doing
    → let set = cond (bucket_stands table (bucket_of local.id)) None (option_and_then (λ own. result_ok own.create) (filled_bucket doing)) in
    IfSome (option_and_then (install_bucket table local) (filled_bucket doing)) (StepFits table local set)
install_bucket-fits table local (Filled create number true) written h d =
    either_install table local (StepFits table local (cond (bucket_stands table (bucket_of local.id)) None (result_ok create)))
    (record { create = create; number = number })
    (λ there. rw there (stays table local Vacant (Started create) written h (there, d.0) tt))
    (λ none v is. rw (none, is) (installs table local v number written h none d.0 (d.1 refl)))
    (λ none e is. rw (none, is) (installs_empty table local number (Started (Err e)) written h none d.0 (d.1 refl) (λ _. tt)))
install_bucket-fits table local _ written h d = tt

-- what a publishing teaches holds
publish-fits : {V E : Type 0} (table : Table V) (local : Local V E) (v : V) (learnt : Learnt V)
    → AllWritten table → LocalFits table local → IsDoing {E = E} table local.id (Written v true)
    → IfSome (learns (with_flag table local.id)
    (after_call local (GetOr (Ok v) false) (Answered v) local.learnt (Gets 0))
    (learnt_by_publish learnt v))
    (StepFits table local (Some v))
publish-fits table local v Vacant written h d =
    let id = local.id in
    let slot = record (slot_at table id) { flag = true } in
    let after = with_table_slot table id slot in
    let standing : IsTrue (bucket_stands after (bucket_of id)) = bucket_stands-with_table_slot table id (bucket_of id) slot ∙ d.0 in
    let none = published_unset table id (ap (λ s. s.flag) d.1) in
    let some : published after id ≡ Some v = shown_same table id slot d.0 ∙ ap (λ s. s.written) d.1 in
    record {
      fits = call_fits after table local (GetOr (Ok v) false) (Answered v) (record { value = Some v; known = true }) (Holding v) (Gets 0) h
          (says.created (view_now local) v (h.view.value ∙ none))
          (record { value = sym some; known = λ t. standing; learnt_so = some; doing_so = tt });
      changes = slot_changes table id slot d.0 written (λ t. ap (λ s. is_some s.written) d.1);
      shown = λ other.
          ⊎_elim
          (λ same. rw (eq-eqb id other same) (ap (published after) (sym same) ∙ some))
          (λ apart. rw (ne_eqb id other apart) (shown_other table id other slot apart))
          (cases_eq id other);
      empty = none;
      announced = d.2 refl;
      same = record { id = refl; start = refl };
    }
publish-fits table local v _ written h d = tt

set_flag-fits : {V E : Type 0} (table : Table V) (local : Local V E) (doing : Doing V E) → AllWritten table → LocalFits table local
    → IsDoing table local.id doing
    → IfSome (option_and_then (set_flag table local) (value_written doing))
    (StepFits table local (value_written doing))
set_flag-fits table local (Written v true) written h d = publish-fits table local v local.learnt written h d
set_flag-fits table local _ written h d = tt

-- a get that ends with the value of the view
get_ends : {V E : Type 0} (table : Table V) (local : Local V E) (found : Option V) (count : ℕ)
    → AllWritten table → LocalFits table local → published table local.id ≡ found
    → StepFits table local None (table, after_call local Get (Found found) local.learnt (Gets count))
get_ends table local found count written h e =
    ends table local Get (Found found) (view_now local) local.learnt (Gets count) written h
    (record { answered = ap Found (h.view.value ∙ e); leaves = refl })
    (record { value = h.view.value; known = h.view.known; learnt_so = h.view.learnt_so; doing_so = tt })

reply-fits : {V E : Type 0} (table : Table V) (local : Local V E) (doing : Doing V E)
    (learnt : Learnt V)
    → AllWritten table → LocalFits table local
    → IsLearnt table local.id (view_now local) learnt
    → IfSome (option_map (reply table local) (ending_of doing learnt)) (StepFits table local None)
reply-fits table local (Gets (suc count)) Missing written h l =
    get_ends table local None count written h (published_unset table local.id l.0)
reply-fits table local (Gets (suc count)) Vacant written h l =
    get_ends table local None count written h (published_unset table local.id l.1)
reply-fits table local (Gets (suc count)) (Holding v) written h l = get_ends table local (Some v) count written h l
reply-fits table local (Started create) (Holding v) written h l =
    ends table local (GetOr create false) (Answered v) (view_now local) local.learnt (Gets 0)
    written h (says.held (view_now local) v create false (h.view.value ∙ l))
    (record { value = h.view.value; known = h.view.known; learnt_so = h.view.learnt_so; doing_so = tt })
reply-fits table local _ _ written h l = tt

-- every enabled step leaves the Local fitting, and changes no slot but its own
pub local_step-fits : {V E : Type 0} (table : Table V) (local : Local V E) (step : LocalStep V E)
    → AllWritten table → LocalFits table local
    → IfSome (local_step table local step) (StepFits table local (value_set table local step))
unfolding local_step
local_step-fits table local BeginGet written h = begin_get-fits table local local.doing written h
local_step-fits table local (BeginGetOr create) written h = begin_get_or-fits table local create local.doing written h
local_step-fits table local LoadPointer written h = load_pointer-fits table local (may_look local.doing) written h
local_step-fits table local LookAtFlag written h = look_at_flag-fits table local (may_look local.doing) written h
local_step-fits table local (MakeBucket refused) written h =
    make_bucket-fits table local refused local.doing local.learnt written h h.view.learnt_so
    h.view.doing_so
local_step-fits table local FillBucket written h = fill_bucket-fits table local local.doing written h h.view.doing_so
local_step-fits table local AnnounceBucket written h = announce_bucket-fits table local local.doing written h h.view.doing_so
local_step-fits table local InstallBucket written h = install_bucket-fits table local local.doing written h h.view.doing_so
local_step-fits table local WriteValue written h = write_value-fits table local local.doing local.learnt written h h.view.learnt_so
local_step-fits table local SetFlag written h = set_flag-fits table local local.doing written h h.view.doing_so
local_step-fits table local Reply written h = reply-fits table local local.doing local.learnt written h h.view.learnt_so

-- a Local still fits after a step of a Local with another id
pub other_fits : {V E : Type 0} (old new : Table V) (id : ℕ) (local : Local V E)
    → ChangesOnly old new id → (id ≡ local.id → ⊥) → LocalFits old local
    → LocalFits new local
other_fits old new id local only apart h = record {
  answered = h.answered;
  view =
      view_carried old new local.id (view_now local) local.learnt local.doing
      (only.others local.id apart) (λ t. (only.standing (bucket_of local.id) t).0)
      (only.announced (bucket_of local.id)) h.view;
}
