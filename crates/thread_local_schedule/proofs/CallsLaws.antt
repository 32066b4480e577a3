-- No step loses a call or makes one up.
use Rattle.std.proofs.Common.{◌≡◌, ℕ, zero, suc, Bool, true, false, [], ◌∷◌, ◌++◌, Option, Some, None, Result, Ok, Err}
use Rattle.std.proofs.Common.{IsTrue, IfSome, IsSomeAnd, refl, ap, sym, ◌∙◌, subst, inl, inr, cond}
use Rattle.thread_local_base.specs.Answers.{Get, GetOr, Answer, Answered}
use Rattle.thread_local_base.specs.Learnt.{Learnt, Missing, Vacant, Holding, learnt_by_load, learnt_by_look}
use Rattle.thread_local_base.specs.Learnt.{learnt_by_install, learnt_by_publish}
use Rattle.thread_local_schedule.specs.Table.{Table, published, bucket_stands, with_flag, with_fresh_bucket, with_filled_bucket}
use Rattle.thread_local_base.specs.Place.{bucket_of}
use Rattle.thread_local_schedule.specs.Local.{Doing, Gets, Started, Private, Filled, Written, Local, after_call, may_look}
use Rattle.thread_local_schedule.specs.Local.{learns, load_pointer, look_at_flag, make_bucket, fill_bucket, announce_bucket}
use Rattle.thread_local_schedule.specs.Local.{OwnBucket, offer_bucket, installed_bucket, install_bucket}
use Rattle.thread_local_schedule.specs.Local.{write_value, set_flag, reply, local_step, LocalStep, BeginGet, BeginGetOr}
use Rattle.thread_local_schedule.specs.Local.{LoadPointer, LookAtFlag, MakeBucket, FillBucket, AnnounceBucket, InstallBucket}
use Rattle.thread_local_schedule.specs.Local.{WriteValue, SetFlag}
use Rattle.thread_local_schedule.specs.Local.{Reply, doing_with_get, doing_with_get_or, begin_call, closure_at_missing}
use Rattle.thread_local_schedule.specs.Local.{closure_at_vacant, ending_of, empty_bucket, doing_announced, filled_bucket, value_written}
use Rattle.std.specs.Prelude.{option_map, option_and_then}
use Rattle.std.proofs.lemmas.Bool.{cond_both}
use Rattle.thread_local_schedule.specs.Calls.{gets_of, closure_of, CallsStay, PublishingEnds, CallsGo, GoesOn}

-- a Local whose step changes only what it has learnt and does keeps its id and first view
goes : {V E : Type 0} (step : LocalStep V E) (local : Local V E) (learnt : Learnt V)
    (doing : Doing V E)
    → CallsGo step local (record local { learnt = learnt; doing = doing })
    → GoesOn step local (record local { learnt = learnt; doing = doing })
goes step local learnt doing calls = record { id = refl; start = refl; calls = calls }

stay : {V E : Type 0} (local : Local V E) (learnt : Learnt V) (doing : Doing V E)
    → gets_of doing ≡ gets_of local.doing → closure_of doing ≡ closure_of local.doing
    → CallsStay local (record local { learnt = learnt; doing = doing })
stay local learnt doing gets closure = record { gets = gets; closure = closure; calls = refl }

-- a publishing call ends
publishing_ends : {V E : Type 0} (local : Local V E) (create : Result V E) (refused : Bool)
    (told : Answer V E) (learnt : Learnt V)
    → gets_of local.doing ≡ 0
    → closure_of local.doing ≡ Some create
    → PublishingEnds refused local (after_call local (GetOr create refused) told learnt (Gets 0))
publishing_ends local create refused told learnt gets closure = record {
  none = refl;
  gets = sym gets;
  calls =
      subst (λ o.
      IsSomeAnd o
      (λ c. local.calls ++ GetOr create refused ∷ [] ≡ local.calls ++ GetOr c refused ∷ []))
      (sym closure) refl;
}

get_ends : {V E : Type 0} (local : Local V E) (count : ℕ) (told : Answer V E) (learnt : Learnt V) → local.doing ≡ Gets (suc count)
    → GoesOn Reply local (after_call local Get told learnt (Gets count))
get_ends local count told learnt e = record {
  id = refl;
  start = refl;
  calls = inl (record { gets = ap gets_of e; closure = sym (ap closure_of e); calls = refl });
}

begin_get-goes : {V E : Type 0} (table : Table V) (local : Local V E) (doing : Doing V E)
    → local.doing ≡ doing
    → IfSome (option_map (begin_call table local) (doing_with_get doing))
    (λ after. GoesOn BeginGet local after.1)
begin_get-goes table local (Gets count) e =
    goes BeginGet local local.learnt (Gets (suc count))
    (record { gets = ap suc (sym (ap gets_of e)); closure = sym (ap closure_of e); calls = refl })
begin_get-goes table local _ e = tt

begin_get_or-goes : {V E : Type 0} (table : Table V) (local : Local V E) (create : Result V E) (doing : Doing V E) → local.doing ≡ doing
    → IfSome (option_map (begin_call table local) (doing_with_get_or create doing)) (λ after. GoesOn (BeginGetOr create) local after.1)
begin_get_or-goes table local create (Gets zero) e =
    goes (BeginGetOr create) local local.learnt (Started create)
    (record { none = ap closure_of e; gets = sym (ap gets_of e); closure = refl; calls = refl })
begin_get_or-goes table local create _ e = tt

-- what holds for whatever is learnt, holds where something is learnt
pub whatever_is_learnt : {V E : Type 0} (table : Table V) (local : Local V E) (o : Option (Learnt V)) (P : Table V × Local V E → Type 0)
    → ((learnt : Learnt V) → P (table, record local { learnt = learnt })) → IfSome (learns table local o) P
whatever_is_learnt table local None P p = tt
whatever_is_learnt table local (Some learnt) P p = p learnt

learns-goes : {V E : Type 0} (step : LocalStep V E) (table : Table V) (local : Local V E) (o : Option (Learnt V))
    → ((after : Local V E) → CallsStay local after → CallsGo step local after)
    → IfSome (learns table local o) (λ after. GoesOn step local after.1)
learns-goes step table local o go =
    whatever_is_learnt table local o (λ after. GoesOn step local after.1)
    (λ learnt. record {
      id = refl;
      start = refl;
      calls =
          go (record local { learnt = learnt }) (record { gets = refl; closure = refl; calls = refl });
    })

load_pointer-goes : {V E : Type 0} (table : Table V) (local : Local V E) (b : Bool)
    → IfSome (cond b (load_pointer table local) None) (λ after. GoesOn LoadPointer local after.1)
load_pointer-goes table local false = tt
load_pointer-goes table local true =
    learns-goes LoadPointer table local
    (learnt_by_load local.learnt (bucket_stands table (bucket_of local.id))) (λ after c. c)

look_at_flag-goes : {V E : Type 0} (table : Table V) (local : Local V E) (b : Bool)
    → IfSome (cond b (look_at_flag table local) None) (λ after. GoesOn LookAtFlag local after.1)
look_at_flag-goes table local false = tt
look_at_flag-goes table local true =
    learns-goes LookAtFlag table local (learnt_by_look local.learnt (published table local.id))
    (λ after c. c)

make_bucket-goes : {V E : Type 0} (table : Table V) (local : Local V E) (refused : Bool)
    (doing : Doing V E) (learnt : Learnt V)
    → local.doing ≡ doing
    → IfSome (option_map (make_bucket table local refused) (closure_at_missing doing learnt))
    (λ after. GoesOn (MakeBucket refused) local after.1)
make_bucket-goes table local true (Started create) Missing e =
    record {
      id = refl;
      start = refl;
      calls = record {
        ends = publishing_ends local create true _ Missing (ap gets_of e) (ap closure_of e);
        answered = refl;
      };
    }
make_bucket-goes table local false (Started create) Missing e =
    goes (MakeBucket false) local local.learnt (Private create table.made)
    (stay local local.learnt (Private create table.made) (sym (ap gets_of e)) (sym (ap closure_of e)))
make_bucket-goes table local refused _ _ e = tt

fill_bucket-goes : {V E : Type 0} (table : Table V) (local : Local V E) (doing : Doing V E) → local.doing ≡ doing
    → IfSome (option_map (fill_bucket table local) (empty_bucket doing)) (λ after. GoesOn FillBucket local after.1)
fill_bucket-goes table local (Private create number) e =
    let filled = Filled create number (table.announced (bucket_of local.id)) in
    goes FillBucket local local.learnt filled (stay local local.learnt filled (sym (ap gets_of e)) (sym (ap closure_of e)))
fill_bucket-goes table local _ e = tt

announce_bucket-goes : {V E : Type 0} (table : Table V) (local : Local V E) (doing : Doing V E) → local.doing ≡ doing
    → IfSome (option_map (announce_bucket table local) (doing_announced doing)) (λ after. GoesOn AnnounceBucket local after.1)
announce_bucket-goes table local (Filled create number false) e =
    goes AnnounceBucket local local.learnt (Filled create number true)
    (stay local local.learnt (Filled create number true) (sym (ap gets_of e)) (sym (ap closure_of e)))
announce_bucket-goes table local (Written v false) e =
    goes AnnounceBucket local local.learnt (Written v true)
    (stay local local.learnt (Written v true) (sym (ap gets_of e)) (sym (ap closure_of e)))
announce_bucket-goes table local _ e = tt

-- What holds of an install where a bucket stands, where none does and the call's own has a value, and
-- where it has none, holds of it.
module _ {V E : Type 0} (table : Table V) (local : Local V E) (P : Table V × Local V E → Type 0) where
  abbrev here : ℕ
  here = bucket_of local.id

  -- what an install leaves where a bucket stands, and where it installs a value or none
  abbrev Beside : Result V E → Type 0
  Beside create = IsTrue (bucket_stands table here) → P (table, record local { learnt = Vacant; doing = Started create })

  abbrev Publishes : ℕ → Result V E → Type 0
  Publishes number create =
      bucket_stands table here ≡ false → (v : V) → create ≡ Ok v
      → P (with_filled_bucket table local.id number v, after_call local (GetOr (Ok v) false) (Answered v) (Holding v) (Gets 0))

  abbrev Stands : ℕ → Result V E → Type 0
  Stands number create =
      bucket_stands table here ≡ false → (e : E) → create ≡ Err e
      → P (with_fresh_bucket table here number, record local { learnt = Vacant; doing = Started (Err e) })

  installed_of : (number : ℕ) (create : Result V E) → bucket_stands table here ≡ false
      → Publishes number create → Stands number create
      → IfSome (installed_bucket table local number create Vacant) P
  installed_of number (Ok v) none publishes stands = publishes none v refl
  installed_of number (Err e) none publishes stands = stands none e refl

  install_of : (own : OwnBucket V E) (learnt : Learnt V) → Beside own.create → Publishes own.number own.create → Stands own.number own.create
      → IfSome (option_and_then (offer_bucket table local own) (learnt_by_install learnt)) P
  install_of own Missing beside publishes stands =
      cond_both {A = Option (Table _ × Local _ _)} (bucket_stands table here) _ _ (λ o. IfSome o P) beside
      (λ none. installed_of own.number own.create none publishes stands)
  install_of own _ beside publishes stands = tt

  pub either_install : (own : OwnBucket V E) → Beside own.create → Publishes own.number own.create → Stands own.number own.create
      → IfSome (install_bucket table local own) P
  either_install own beside publishes stands = install_of own local.learnt beside publishes stands

install_bucket-goes : {V E : Type 0} (table : Table V) (local : Local V E) (doing : Doing V E) → local.doing ≡ doing
    → IfSome (option_and_then (install_bucket table local) (filled_bucket doing)) (λ after. GoesOn InstallBucket local after.1)
install_bucket-goes table local (Filled create number true) e =
    either_install table local (λ after. GoesOn InstallBucket local after.1) (record { create = create; number = number })
    (λ _.
    goes InstallBucket local Vacant (Started create)
    (inl (stay local Vacant (Started create) (sym (ap gets_of e)) (sym (ap closure_of e)))))
    (λ _ v is. record {
      id = refl;
      start = refl;
      calls = inr (publishing_ends local (Ok v) false _ (Holding v) (ap gets_of e) (ap closure_of e ∙ ap Some is));
    })
    (λ _ x is.
    goes InstallBucket local Vacant (Started (Err x))
    (inl (stay local Vacant (Started (Err x)) (sym (ap gets_of e)) (sym (ap closure_of e ∙ ap Some is)))))
install_bucket-goes table local _ e = tt

write_value-goes : {V E : Type 0} (table : Table V) (local : Local V E) (doing : Doing V E) (learnt : Learnt V) → local.doing ≡ doing
    → IfSome (option_map (write_value table local) (closure_at_vacant doing learnt)) (λ after. GoesOn WriteValue local after.1)
write_value-goes table local (Started (Ok v)) Vacant e =
    let wrote = Written v (table.announced (bucket_of local.id)) in
    goes WriteValue local Vacant wrote (inl (stay local Vacant wrote (sym (ap gets_of e)) (sym (ap closure_of e))))
write_value-goes table local (Started (Err x)) Vacant e =
    record { id = refl; start = refl; calls = inr (publishing_ends local (Err x) false _ Vacant (ap gets_of e) (ap closure_of e)) }
write_value-goes table local _ _ e = tt

set_flag-goes : {V E : Type 0} (table : Table V) (local : Local V E) (doing : Doing V E) → local.doing ≡ doing
    → IfSome (option_and_then (set_flag table local) (value_written doing)) (λ after. GoesOn SetFlag local after.1)
set_flag-goes table local (Written v true) e =
    whatever_is_learnt (with_flag table local.id)
    (after_call local (GetOr (Ok v) false) (Answered v) local.learnt (Gets 0))
    (learnt_by_publish local.learnt v)
    (λ after. GoesOn SetFlag local after.1) (λ learnt. record {
      id = refl;
      start = refl;
      calls = publishing_ends local (Ok v) false _ learnt (ap gets_of e) (ap closure_of e);
    })
set_flag-goes table local _ e = tt

reply-goes : {V E : Type 0} (table : Table V) (local : Local V E) (doing : Doing V E) (learnt : Learnt V) → local.doing ≡ doing
    → IfSome (option_map (reply table local) (ending_of doing learnt)) (λ after. GoesOn Reply local after.1)
reply-goes table local (Gets (suc count)) Missing e = get_ends local count _ local.learnt e
reply-goes table local (Gets (suc count)) Vacant e = get_ends local count _ local.learnt e
reply-goes table local (Gets (suc count)) (Holding v) e = get_ends local count _ local.learnt e
reply-goes table local (Started create) (Holding v) e =
    record { id = refl; start = refl; calls = inr (publishing_ends local create false _ local.learnt (ap gets_of e) (ap closure_of e)) }
reply-goes table local _ _ e = tt

-- every step changes the calls of its Local as it says
pub local_step-goes : {V E : Type 0} (table : Table V) (local : Local V E) (step : LocalStep V E)
    → IfSome (local_step table local step) (λ after. GoesOn step local after.1)
unfolding local_step
local_step-goes table local BeginGet = begin_get-goes table local local.doing refl
local_step-goes table local (BeginGetOr create) = begin_get_or-goes table local create local.doing refl
local_step-goes table local LoadPointer = load_pointer-goes table local (may_look local.doing)
local_step-goes table local LookAtFlag = look_at_flag-goes table local (may_look local.doing)
local_step-goes table local (MakeBucket refused) = make_bucket-goes table local refused local.doing local.learnt refl
local_step-goes table local FillBucket = fill_bucket-goes table local local.doing refl
local_step-goes table local AnnounceBucket = announce_bucket-goes table local local.doing refl
local_step-goes table local InstallBucket = install_bucket-goes table local local.doing refl
local_step-goes table local WriteValue = write_value-goes table local local.doing local.learnt refl
local_step-goes table local SetFlag = set_flag-goes table local local.doing refl
local_step-goes table local Reply = reply-goes table local local.doing local.learnt refl
