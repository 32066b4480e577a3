-- Small laws of options behind a test.
use Rattle.std.proofs.Common.{◌≡◌, Bool, true, false, cond, Option, Some, None, IsTrue, refl, ap, is_some, IfSome}
use Rattle.std.proofs.Common.{IsSomeAnd, sym, subst}
use Rattle.std.specs.Prelude.{option_map, option_and_then, unwrap_or}
use Rattle.std.proofs.lemmas.Bool.{false≢true}
use Rattle.thread_local_base.specs.Learnt.{Learnt, Missing}
use Rattle.thread_local_schedule.specs.Local.{Local, Doing, Started, closure_at_missing, make_bucket}
use Rattle.thread_local_schedule.specs.Table.{Table}

-- an option mapped to other values, or behind a test, is not this value
pub not_mapped : {A B : Type 0} (o : Option A) (f : A → B) (b : B) → ((a : A) → f a ≡ b → ⊥)
    → option_map f o ≡ Some b
    → ⊥
not_mapped None f b other e = cc
not_mapped (Some a) f b other e = let same : f a ≡ b = cc in other a same

pub not_if : {A : Type 0} (b : Bool) (o : Option A) (a : A) → (o ≡ Some a → ⊥) → cond b o None ≡ Some a → ⊥
not_if true o a h e = h e
not_if false o a h e = cc

-- where an option is None, the default stands
pub stays : {A : Type 0} (o : Option A) (a : A) → is_some o ≡ false → unwrap_or o a ≡ a
stays None a none = refl
stays (Some x) a none = cc

-- if an option behind a test is a value, the test fails and the option is a value
pub some_step : {A : Type 0} (b : Bool) (o : Option A) → IsTrue (is_some (cond b None o)) → (b ≡ false) × IsTrue (is_some o)
some_step true o t = absurd (false≢true t)
some_step false o t = (refl, t)

pub some_and : {A : Type 0} (o : Option A) (x : A) (P : A → Type 0) → o ≡ Some x → P x → IsSomeAnd o P
some_and o x P e p = subst (λ q. IsSomeAnd q P) (sym e) p

-- a Local that didn't find its pointer null makes no bucket
pub makes_none : {V E : Type 0} (table : Table V) (local : Local V E) (refused : Bool)
    (doing : Doing V E) (learnt : Learnt V)
    → (learnt ≡ Missing → ⊥)
    → option_map (make_bucket table local refused) (closure_at_missing doing learnt) ≡ None
makes_none table local refused (Started create) Missing h = absurd (h refl)
makes_none table local refused _ _ h = refl

pub none_enabled : {A : Type 0} (b : Bool) (o : Option A) → o ≡ None → is_some (cond b None o) ≡ false
none_enabled true o e = refl
none_enabled false o e = ap is_some e

-- a predicate holds of an option behind a test if it holds of the value
pub if_enabled : {A : Type 0} (P : A → Type 0) (b : Bool) (x : A) → P x → IfSome (cond b (Some x) None) P
if_enabled P true x p = p
if_enabled P false x p = tt

pub if_mapped : {A B : Type 0} {P : A → Type 0} (Q : B → Type 0) (f : A → B) (o : Option A)
    → IfSome o P → ((x : A) → P x → Q (f x))
    → IfSome (option_map f o) Q
if_mapped Q f None p h = tt
if_mapped Q f (Some x) p h = h x p

-- a predicate holds of a mapped option if it holds of what a present value is mapped to
pub if_there : {A B : Type 0} (Q : B → Type 0) (f : A → B) (o : Option A)
    → ((x : A) → o ≡ Some x → Q (f x))
    → IfSome (option_map f o) Q
if_there Q f None h = tt
if_there Q f (Some x) h = h x refl

pub if_then : {A B : Type 0} (Q : B → Type 0) (f : A → Option B) (o : Option A)
    → ((x : A) → o ≡ Some x → IfSome (f x) Q)
    → IfSome (option_and_then f o) Q
if_then Q f None h = tt
if_then Q f (Some x) h = h x refl

-- if a value behind a test is present, the test holds and it is that value
pub tested : {A : Type 0} (b : Bool) (x other : A) → IsTrue (is_some (cond b (Some x) None))
    → IsTrue b × (unwrap_or (cond b (Some x) None) other ≡ x)
tested true x other t = (refl, refl)
tested false x other t = absurd (false≢true t)

pub unwrapped : {A : Type 0} (P : A → Type 0) (o : Option A) (a : A) → IfSome o P → P a → P (unwrap_or o a)
unwrapped P None a s h = h
unwrapped P (Some x) a s h = s

pub if_both : {A : Type 0} (P Q : A → Type 0) (o : Option A) → IfSome o P → IfSome o Q → IfSome o (λ x. P x × Q x)
if_both P Q None p q = tt
if_both P Q (Some x) p q = (p, q)
