-- A `Local` of the model and the atomic steps of its calls: `get`, and the publishing calls of the
-- `get_or` family.
use Rattle.std.specs.Prelude.{ℕ, zero, suc, Bool, true, false, List, [], ◌∷◌, ◌++◌, Option, Some, None, option_map}
use Rattle.std.specs.Prelude.{option_and_then, Result, Ok, Err, if◌then◌else◌}
use Rattle.thread_local_base.specs.Place.{bucket_of}
use Rattle.thread_local_base.specs.Answers.{View, Call, Get, GetOr, Answer, Found, Answered, Refused, Failed}
use Rattle.thread_local_base.specs.Learnt.{Learnt, Unknown, Missing, Vacant, Holding, learnt_by_load, learnt_by_look}
use Rattle.thread_local_base.specs.Learnt.{learnt_by_install, learnt_by_publish}
use Rattle.thread_local_schedule.specs.Table.{Table, published, bucket_stands, with_announced, with_fresh_bucket}
use Rattle.thread_local_schedule.specs.Table.{with_filled_bucket, with_written, with_flag}

-- What a Local does: any number of gets are under way, or one publishing call. That one has begun,
-- with what its closure would answer; or it has made an empty bucket of its own, with this number;
-- or it has called its closure, and put the value into that bucket if there is one; or it has written
-- its value into the slot of a bucket that stands. In the last two it knows its bucket to be announced
-- or not.
pub data Doing (V E : Type 0) : Type 0 where
  Gets : (count : ℕ) → Doing V E
  Started : (create : Result V E) → Doing V E
  Private : (create : Result V E) → (number : ℕ) → Doing V E
  Filled : (create : Result V E) → (number : ℕ) → (announced : Bool) → Doing V E
  Written : (value : V) → (announced : Bool) → Doing V E

-- a Local: its id, what it has learnt and does, its view at the start, and its ended calls with
-- their answers, in order
pub record Local (V E : Type 0) : Type 0 where
  pub id : ℕ
  pub learnt : Learnt V
  pub doing : Doing V E
  pub start : View V
  pub calls : List (Call V E)
  pub answered : List (Answer V E)

-- a new Local
abbrev pub fresh_local : {V E : Type 0} → ℕ → View V → Local V E
fresh_local id start = record { id = id; learnt = Unknown; doing = Gets 0; start = start; calls = []; answered = [] }

-- a step of a Local, in a call or before one, with what is chosen: what the closure would answer,
-- whether memory is refused
pub data LocalStep (V E : Type 0) : Type 0 where
  BeginGet : LocalStep V E
  BeginGetOr : (create : Result V E) → LocalStep V E
  LoadPointer : LocalStep V E
  LookAtFlag : LocalStep V E
  MakeBucket : (refused : Bool) → LocalStep V E
  FillBucket : LocalStep V E
  AnnounceBucket : LocalStep V E
  InstallBucket : LocalStep V E
  WriteValue : LocalStep V E
  SetFlag : LocalStep V E
  Reply : LocalStep V E

-- the Local after a call has ended
abbrev pub after_call : {V E : Type 0} → Local V E → Call V E → Answer V E → Learnt V → Doing V E → Local V E
after_call local call answer learnt doing =
    record local { learnt = learnt; doing = doing; calls = local.calls ++ call ∷ []; answered = local.answered ++ answer ∷ [] }

-- Whether a Local may load its pointer and look at its flag: in a call, and also where none is
-- under way, as the running `local` does once for each new Local. Only a publishing call that has a
-- bucket of its own, or has written its value, does neither.
abbrev pub may_look : {V E : Type 0} → Doing V E → Bool
may_look (Gets count) = true
may_look (Started create) = true
may_look doing = false

-- Each step below gives the table and the Local after it. What a step needs of the Local is found
-- by the definition before it, which is None where the step isn't enabled.

-- what a Local does after one more get has begun
abbrev pub doing_with_get : {V E : Type 0} → Doing V E → Option (Doing V E)
doing_with_get (Gets count) = Some (Gets (suc count))
doing_with_get doing = None

-- what it does after a publishing call has begun, if no call was under way
abbrev pub doing_with_get_or : {V E : Type 0} → Result V E → Doing V E → Option (Doing V E)
doing_with_get_or create (Gets zero) = Some (Started create)
doing_with_get_or create doing = None

-- a call begins: the table stays, and the Local does this now
abbrev pub begin_call : {V E : Type 0} → Table V → Local V E → Doing V E → Table V × Local V E
begin_call table local doing = (table, record local { doing = doing })

-- the table stays, and the Local has learnt this now
abbrev pub learns : {V E : Type 0} → Table V → Local V E → Option (Learnt V) → Option (Table V × Local V E)
learns table local None = None
learns table local (Some learnt) = Some (table, record local { learnt = learnt })

-- a Local loads its pointer
abbrev pub load_pointer : {V E : Type 0} → Table V → Local V E → Option (Table V × Local V E)
load_pointer table local = learns table local (learnt_by_load local.learnt (bucket_stands table (bucket_of local.id)))

-- a Local looks at its flag, and at the value where the flag is set
abbrev pub look_at_flag : {V E : Type 0} → Table V → Local V E → Option (Table V × Local V E)
look_at_flag table local = learns table local (learnt_by_look local.learnt (published table local.id))

-- the closure of a publishing call that found its pointer null
abbrev pub closure_at_missing : {V E : Type 0} → Doing V E → Learnt V → Option (Result V E)
closure_at_missing (Started create) Missing = Some create
closure_at_missing doing learnt = None

-- such a call makes a bucket, or ends where memory is refused
abbrev pub make_bucket : {V E : Type 0} → Table V → Local V E → Bool → Result V E → Table V × Local V E
make_bucket table local true create = (table, after_call local (GetOr create true) Refused Missing (Gets 0))
make_bucket table local false create =
    (record table { made = suc table.made }, record local { doing = Private create table.made })

-- a bucket that a publishing call has made for itself, with what the closure answers
pub record OwnBucket (V E : Type 0) : Type 0 where
  pub create : Result V E
  pub number : ℕ

-- the bucket that a call has made and put nothing into, if any
abbrev pub empty_bucket : {V E : Type 0} → Doing V E → Option (OwnBucket V E)
empty_bucket (Private create number) = Some (record { create = create; number = number })
empty_bucket doing = None

-- Such a call puts the closure's value into its bucket, with the flag, or nothing where the closure
-- answers with an error. It loads whether the bucket is announced.
abbrev pub fill_bucket : {V E : Type 0} → Table V → Local V E → OwnBucket V E → Table V × Local V E
fill_bucket table local own =
    (table, record local { doing = Filled own.create own.number (table.announced (bucket_of local.id)) })

-- what a call does after it has announced its bucket, if it has called its closure and doesn't know the
-- bucket to be announced
abbrev pub doing_announced : {V E : Type 0} → Doing V E → Option (Doing V E)
doing_announced (Filled create number false) = Some (Filled create number true)
doing_announced (Written v false) = Some (Written v true)
doing_announced doing = None

-- such a call announces it. Where another call has done so in the meantime, nothing changes but that
-- this one knows it.
abbrev pub announce_bucket : {V E : Type 0} → Table V → Local V E → Doing V E → Table V × Local V E
announce_bucket table local doing = (with_announced table (bucket_of local.id), record local { doing = doing })

-- the bucket of a call that has called its closure and knows the bucket to be announced
abbrev pub filled_bucket : {V E : Type 0} → Doing V E → Option (OwnBucket V E)
filled_bucket (Filled create number true) = Some (record { create = create; number = number })
filled_bucket doing = None

-- what a call's own bucket leaves that is installed, where this is learnt by it: with a value in it the
-- value is published and the call ends, and else the slot is empty
abbrev pub installed_bucket : {V E : Type 0} → Table V → Local V E → ℕ → Result V E → Learnt V → Option (Table V × Local V E)
installed_bucket table local number (Ok v) learnt =
    learns (with_filled_bucket table local.id number v) (after_call local (GetOr (Ok v) false) (Answered v) learnt (Gets 0))
    (learnt_by_publish learnt v)
installed_bucket table local number (Err e) learnt =
    Some (with_fresh_bucket table (bucket_of local.id) number, record local { learnt = learnt; doing = Started (Err e) })

-- What an offer leaves. Where a bucket stood before, the call's own is gone, and it goes on with that
-- one. Else its own is installed.
abbrev pub offer_bucket : {V E : Type 0} → Table V → Local V E → OwnBucket V E → Learnt V → Option (Table V × Local V E)
offer_bucket table local own learnt =
    if bucket_stands table (bucket_of local.id)
    then Some (table, record local { learnt = learnt; doing = Started own.create })
    else installed_bucket table local own.number own.create learnt

-- such a call offers its bucket to the pointer that it found null
abbrev pub install_bucket : {V E : Type 0} → Table V → Local V E → OwnBucket V E → Option (Table V × Local V E)
install_bucket table local own = option_and_then (offer_bucket table local own) (learnt_by_install local.learnt)

-- the closure of a publishing call that found its slot empty
abbrev pub closure_at_vacant : {V E : Type 0} → Doing V E → Learnt V → Option (Result V E)
closure_at_vacant (Started create) Vacant = Some create
closure_at_vacant doing learnt = None

-- such a call writes what its closure answers, and loads whether its bucket is announced; or it ends
-- with the closure's error
abbrev pub write_value : {V E : Type 0} → Table V → Local V E → Result V E → Table V × Local V E
write_value table local (Ok v) =
    (with_written table local.id v, record local { learnt = Vacant; doing = Written v (table.announced (bucket_of local.id)) })
write_value table local (Err e) = (table, after_call local (GetOr (Err e) false) (Failed e) Vacant (Gets 0))

-- the value of a call that has written it and knows its bucket to be announced
abbrev pub value_written : {V E : Type 0} → Doing V E → Option V
value_written (Written v true) = Some v
value_written doing = None

-- such a call sets its flag, which publishes the value, and ends
abbrev pub set_flag : {V E : Type 0} → Table V → Local V E → V → Option (Table V × Local V E)
set_flag table local v =
    learns (with_flag table local.id)
    (after_call local (GetOr (Ok v) false) (Answered v) local.learnt (Gets 0))
    (learnt_by_publish local.learnt v)

-- the end of a call: the call, its answer, and what the Local does then
pub record Ending (V E : Type 0) : Type 0 where
  pub call : Call V E
  pub answer : Answer V E
  pub doing : Doing V E

-- how a get ends that has learnt enough, or a publishing call that found a value
abbrev pub ending_of : {V E : Type 0} → Doing V E → Learnt V → Option (Ending V E)
ending_of (Gets (suc count)) Missing = Some (record { call = Get; answer = Found None; doing = Gets count })
ending_of (Gets (suc count)) Vacant = Some (record { call = Get; answer = Found None; doing = Gets count })
ending_of (Gets (suc count)) (Holding v) = Some (record { call = Get; answer = Found (Some v); doing = Gets count })
ending_of (Started create) (Holding v) = Some (record { call = GetOr create false; answer = Answered v; doing = Gets 0 })
ending_of doing learnt = None

-- a call ends: the table stays, and the Local records the call and its answer
abbrev pub reply : {V E : Type 0} → Table V → Local V E → Ending V E → Table V × Local V E
reply table local ending = (table, after_call local ending.call ending.answer local.learnt ending.doing)

-- the table and the Local after a step, or None where the step isn't enabled
unfoldable pub local_step : {V E : Type 0} → Table V → Local V E → LocalStep V E → Option (Table V × Local V E)
local_step table local BeginGet = option_map (begin_call table local) (doing_with_get local.doing)
local_step table local (BeginGetOr create) = option_map (begin_call table local) (doing_with_get_or create local.doing)
local_step table local LoadPointer = if may_look local.doing then load_pointer table local else None
local_step table local LookAtFlag = if may_look local.doing then look_at_flag table local else None
local_step table local (MakeBucket refused) =
    option_map (make_bucket table local refused) (closure_at_missing local.doing local.learnt)
local_step table local FillBucket = option_map (fill_bucket table local) (empty_bucket local.doing)
local_step table local AnnounceBucket = option_map (announce_bucket table local) (doing_announced local.doing)
local_step table local InstallBucket = option_and_then (install_bucket table local) (filled_bucket local.doing)
local_step table local WriteValue = option_map (write_value table local) (closure_at_vacant local.doing local.learnt)
local_step table local SetFlag = option_and_then (set_flag table local) (value_written local.doing)
local_step table local Reply = option_map (reply table local) (ending_of local.doing local.learnt)

-- the table and the Local after these steps, or None where one isn't enabled
unfoldable pub local_steps : {V E : Type 0} → Table V → Local V E → List (LocalStep V E) → Option (Table V × Local V E)
local_steps table local [] = Some (table, local)
local_steps table local (step ∷ steps) = option_and_then (λ after. local_steps after.0 after.1 steps) (local_step table local step)

-- five calls, one after another: one is refused memory, one ends with the closure's error, one
-- publishes, then a get, and one more publishing call
abbrev pub five_calls : {V E : Type 0} → V → V → E → List (LocalStep V E)
five_calls v w e =
    BeginGetOr (Ok v) ∷ LoadPointer ∷ MakeBucket true ∷ []
    ++ BeginGetOr (Err e) ∷ MakeBucket false ∷ FillBucket ∷ InstallBucket ∷ WriteValue ∷ []
    ++ BeginGetOr (Ok v) ∷ WriteValue ∷ SetFlag ∷ BeginGet ∷ Reply ∷ BeginGetOr (Ok w) ∷ Reply ∷ []
