-- What each call of a `Local` answers at a view, and that no call is refused once the bucket is
-- known to stand.
use Rattle.std.proofs.Common.{◌≡◌, not, ◌&&◌, Option, Bool, true, false, List, [], ◌∷◌, ◌++◌, Some, None, Result, Ok}
use Rattle.std.proofs.Common.{Err, IsTrue, zero, suc, arith, refl, ap}
use Rattle.std.specs.Prelude.{Contains}
use Rattle.thread_local_base.specs.Answers.{View, Call, Get, GetOr, Answered, Refused, Failed, view_after_or}
use Rattle.thread_local_base.specs.Answers.{answer_or, answer, view_after, answers, view_after_all, Says}

-- where the view has a value, that is the answer, and the view stays
pub held : {V E : Type 0} (view : View V) (v : V) (create : Result V E) (refused : Bool)
    → view.value ≡ Some v
    → Says view (GetOr create refused) (Answered v) view
held view v create refused h = record { answered = rw h refl; leaves = rw h refl }

-- where it has none, the bucket isn't known to stand and memory is refused, the call is refused,
-- and the view stays
pub refused : {V E : Type 0} (view : View V) (create : Result V E) → view.value ≡ None
    → view.known ≡ false
    → Says view (GetOr create true) Refused view
refused view create h k = record { answered = rw (h, k) refl; leaves = rw (h, k) refl }

-- where it has none and memory isn't refused, the closure's value is the answer, and is seen from
-- then on
pub created : {V E : Type 0} (view : View V) (v : V) → view.value ≡ None
    → Says {E = E} view (GetOr (Ok v) false) (Answered v) (record { value = Some v; known = true })
created view v h = record { answered = rw h refl; leaves = rw h refl }

-- where it has none and memory isn't refused, the closure's error is the answer, and the bucket is known
-- to stand from then on
pub failed : {V E : Type 0} (view : View V) (e : E) → view.value ≡ None
    → Says view (GetOr (Err e) false) (Failed e) (record { value = None; known = true })
failed view e h = record { answered = rw h refl; leaves = rw h refl }

-- a further call is answered at the view after the calls before it
pub answers-push : {V E : Type 0} (view : View V) (calls : List (Call V E)) (call : Call V E)
    → answers view (calls ++ call ∷ []) ≡ answers view calls ++ answer (view_after_all view calls) call ∷ []
answers-push view [] call = refl
answers-push view (first ∷ calls) call = ap (λ rest. answer view first ∷ rest) (answers-push (view_after view first) calls call)

pub view_after_all-push : {V E : Type 0} (view : View V) (calls : List (Call V E)) (call : Call V E)
    → view_after_all view (calls ++ call ∷ []) ≡ view_after (view_after_all view calls) call
view_after_all-push view [] call = refl
view_after_all-push view (first ∷ calls) call = view_after_all-push (view_after view first) calls call

-- a bucket that is known to stand stays known
known_or : {V E : Type 0} (view : View V) (o : Option V) (refused : Bool) (create : Result V E)
    → IsTrue view.known
    → IsTrue (view_after_or view o refused create).known
known_or view (Some v) refused create k = k
known_or view None true create k = k
known_or view None false (Ok v) k = refl
known_or view None false (Err e) k = refl

pub known_stays : {V E : Type 0} (view : View V) (call : Call V E) → IsTrue view.known → IsTrue (view_after view call).known
known_stays view Get k = k
known_stays view (GetOr create memory) k = known_or view view.value (memory && not view.known) create k

pub known_after_all : {V E : Type 0} (view : View V) (calls : List (Call V E)) → IsTrue view.known
    → IsTrue (view_after_all view calls).known
known_after_all view [] k = k
known_after_all view (call ∷ calls) k = known_after_all (view_after view call) calls (known_stays view call k)

-- where it is known to stand, no call is refused
never_or : {V E : Type 0} (o : Option V) (memory : Bool) (create : Result V E) → answer_or o (memory && false) create ≡ Refused → ⊥
never_or (Some v) memory create e = cc
never_or None true (Ok v) e = cc
never_or None true (Err x) e = cc
never_or None false (Ok v) e = cc
never_or None false (Err x) e = cc

never_refused : {V E : Type 0} (view : View V) (call : Call V E) → IsTrue view.known → answer view call ≡ Refused → ⊥
never_refused view Get k e = cc
never_refused view (GetOr create memory) k e = never_or view.value memory create (rw k at e)

pub none_refused : {V E : Type 0} (view : View V) (calls : List (Call V E)) → IsTrue view.known
    → Contains (answers view calls) Refused
    → ⊥
none_refused view [] k (n, l, e) = omega arith
none_refused view (call ∷ calls) k (zero, l, e) = never_refused view call k e
none_refused view (call ∷ calls) k (suc n, l, e) = none_refused (view_after view call) calls (known_stays view call k) (n, omega arith, e)
