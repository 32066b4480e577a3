-- What the invariant of a core gives: bounds by the peak, reserved buckets that are found, and
-- complete walks.
use Rattle.std.proofs.Common.{◌≡◌, ℕ, zero, suc, ◌+◌, ◌-◌, ◌*◌, ◌^◌, ◌<◌, ◌≤◌, Bool, List, ◌++◌, append-nil, length, Option, Some}
use Rattle.std.proofs.Common.{None, IsTrue, IfSome, refl, ap, sym, ◌∙◌, subst, arith, ⊎_elim}
use Rattle.std.specs.Prelude.{option_map, Contains}
use Rattle.std.proofs.lemmas.Bool.{cases_Bool, cond_both, false≢true}
use Rattle.thread_local_base.specs.Held.{is_held}
use Rattle.thread_local_base.specs.Capacity.{is_reserved}
use Rattle.thread_local_base.specs.Walk.{walk, walk_below}
use Rattle.thread_local_base.specs.Buckets.{slots}
use Rattle.thread_local_base.specs.IdMoves.{Publish}
use Rattle.thread_local_base.specs.Sheet.{Sheet, OfHistory}
use Rattle.thread_local_schedule.specs.TableMoves.{OfSheet, moved_by_if, IsMoveAllowed}
use Rattle.thread_local_base.proofs.SlotsLaws.{slots_bounded}
use Rattle.thread_local_base.proofs.WalkLaws.{walk_below-add, walk_below-none, length-walk_below}
use Rattle.thread_local_base.proofs.AnswersLaws.{known_after_all}
use Rattle.thread_local_schedule.specs.Table.{Table, published, bucket_stands, made_table}
use Rattle.thread_local_base.specs.Learnt.{Missing}
use Rattle.thread_local_schedule.specs.Local.{Local, Doing, Private, Filled}
use Rattle.thread_local_base.specs.Cursor.{is_complete}
use Rattle.thread_local_schedule.specs.SharedWalk.{SharedWalk, buckets_among}
use Rattle.thread_local_schedule.proofs.WalkStepLaws.{complete_cursor, complete_loads}
use Rattle.thread_local_schedule.specs.Fits.{IsLearnt, view_now, with_value_if}
use Rattle.thread_local_schedule.specs.Core.{Core, shadow, installed_slots, peak, private_slots}
use Rattle.thread_local_schedule.specs.CoreFits.{CoreFits}
use Rattle.thread_local_schedule.proofs.TableLaws.{same_function, slot_at-made_table, published_unset}
use Rattle.thread_local_schedule.proofs.InvariantParts.{own_small}

-- an option is None where no value is possible
pub none_if : {A : Type 0} (o : Option A) → ((x : A) → o ≡ Some x → ⊥) → o ≡ None
none_if None h = refl
none_if (Some x) h = absurd (h x refl)

-- a map with values only below n has none from n on
pub absent : {V : Type 0} (values : ℕ → Option V) (n id : ℕ)
    → ((v : V) → values id ≡ Some v → id < n) → n ≤ id
    → values id ≡ None
absent values n id below l = none_if (values id) (λ v e. omega (arith, below v e))

-- the capacity and the peak bound the installed slots
pub installed_bound : {V E : Type 0} (core : Core V E) (m : ℕ) → CoreFits core → core.capacity ≤ m
    → peak core ≤ m
    → installed_slots core ≤ 2 * m - 1
unfolding slots
installed_bound core m h c p = slots_bounded (bucket_stands core.table) m 63 (λ b t. omega (arith, h.table.small b t))

-- a call's own bucket has no more slots than the peak
pub private_bound : {V E : Type 0} (held : List Bool) (id : ℕ) (doing : Doing V E)
    → IsTrue (is_held held id)
    → private_slots id doing ≤ length held
private_bound held id (Private create number) t = own_small held id t
private_bound held id (Filled create number announced) t = own_small held id t
private_bound held id _ t = omega arith

-- no more values are published than the peak
pub published_bound : {V E : Type 0} (core : Core V E) → CoreFits core → length (walk (shadow core).values) ≤ peak core
unfolding walk
published_bound core h =
    let n = peak core in
    let rest = 2 ^ 63 - 1 - n in
    let whole : n + rest ≡ 2 ^ 63 - 1 = omega (arith, h.manager.peak_ids) in
    let values = published core.table in
    let none = walk_below-none (λ i. values (n + i)) rest (λ i l. absent values n (n + i) (h.table.below (n + i)) (omega arith)) in
    let same =
    ap (walk_below values) (sym whole)
    ∙ walk_below-add values n rest
    ∙ ap (λ vs. walk_below values n ++ vs) none
    ∙ append-nil (walk_below values n) in
    subst (λ vs. length vs ≤ n) (sym same) (length-walk_below values n)

-- a Local with a reserved id never finds its pointer null, and so never asks for memory
pub never_missing : {V E : Type 0} (core : Core V E) (n : ℕ) (local : Local V E) → CoreFits core
    → core.locals n ≡ Some local → IsTrue (is_reserved core.capacity local.id)
    → local.learnt ≡ Missing
    → ⊥
never_missing core n local h at reserved e =
    let live = h.locals.each n local at in
    let missing = subst (IsLearnt core.table local.id (view_now local)) e live.local_fits.view.learnt_so in
    false≢true (sym missing.1 ∙ known_after_all local.start local.calls (live.known reserved))

-- a complete walk has given all that it saw at first
pub complete : {V E : Type 0} (core : Core V E) (n : ℕ) (walk : SharedWalk V) → CoreFits core
    → core.walks n ≡ Some walk → IsTrue (is_complete walk.cursor)
    → (id : ℕ) (v : V) → walk.first id ≡ Some v → Contains {X = ℕ × V} walk.given (id, v)
complete core n walk h at done id v e =
    let fits = h.walks.each n walk at in
    let low = h.table.below id v (fits.fits.first_stays id v e) in
    fits.fits.passed id v e (omega (arith, h.manager.peak_ids, complete_cursor core.table walk fits done))

-- a walk has loaded at most 63 pointers, and a complete one as many as buckets were announced
among_few : (these : ℕ → Bool) (n : ℕ) → buckets_among these n ≤ n
unfolding buckets_among
among_few these zero = omega arith
among_few these (suc n) =
    let few = among_few these n in
    cond_both (these n) 1 0 (λ one. buckets_among these n + one ≤ suc n) (λ _. omega arith) (λ _. omega arith)

pub loads : {V E : Type 0} (core : Core V E) (n : ℕ) (walk : SharedWalk V) → CoreFits core
    → core.walks n ≡ Some walk
    → walk.loads ≤ 63
loads core n walk h at =
    let fits = h.walks.each n walk at in
    let few = among_few walk.announced walk.cursor.bucket in
    ⊎_elim
    (λ t. let l = rw t at fits.loads in omega (arith, fits.cursor.looks_in_table t))
    (λ f. let l = rw f at fits.loads in omega (arith, fits.cursor.in_table))
    (cases_Bool walk.cursor.looks)

pub all_loaded : {V E : Type 0} (core : Core V E) (n : ℕ) (walk : SharedWalk V) → CoreFits core
    → core.walks n ≡ Some walk → IsTrue (is_complete walk.cursor)
    → walk.loads ≡ buckets_among walk.announced 63
all_loaded core n walk h at done = complete_loads core.table walk (h.walks.each n walk at) done

-- the published values change as a step says
pub published_moves : {V E : Type 0} (core : Core V E) (table : Table V) (id : ℕ) (set : Option V)
    → ((j : ℕ) → published table j ≡ with_value_if (published core.table) id set j)
    → record (shadow core) { values = published table } ≡ moved_by_if (shadow core) (option_map (λ v. OfSheet (OfHistory (Publish id v))) set)
published_moves core table id None shown =
    ap (λ values. record (shadow core) { values = values })
    (same_function (published table) (published core.table) shown)
published_moves core table id (Some v) shown =
    ap (λ values. record (shadow core) { values = values })
    (same_function (published table) (with_value_if (published core.table) id (Some v)) shown)

pub publishing_allowed : {V : Type 0} (sheet : Sheet V) (id : ℕ) (set : Option V)
    → IsTrue (is_held sheet.held id) → IfSome set (λ _. sheet.values id ≡ None)
    → IfSome (option_map (λ v. OfSheet (OfHistory (Publish id v))) set) (IsMoveAllowed sheet)
publishing_allowed sheet id None t empty = tt
publishing_allowed sheet id (Some v) t empty = (empty, t)

-- nothing is published in a new table
pub none_made : (T : Type 0) (capacity : ℕ) → published {V = T} (made_table capacity) ≡ (λ _. None)
none_made T capacity =
    same_function (published {V = T} (made_table capacity)) (λ _. None) (λ id.
    published_unset (made_table capacity) id
    (ap (λ slot. slot.flag) (slot_at-made_table {V = T} capacity id)))
