-- The parts of a core's invariant, each kept by the changes that events make.
use Rattle.std.proofs.Common.{◌≡◌, ℕ, zero, suc, ◌^◌, ◌<◌, ◌≤◌, ◌⊎◌, Bool, true, cond, eqb, List, [], length, Option}
use Rattle.std.proofs.Common.{Some, None, is_some, is_none, IsTrue, IfSome, refl, ap, sym, ◌∙◌, subst, arith, ⊎_elim}
use Rattle.std.proofs.Common.{inl, inr, pow_mono}
use Rattle.std.proofs.lemmas.Bool.{cases_eq, cases_lt, cond_both, eq-eqb, ne_eqb, lt-ltb, ltb-true, false≢true, or_cases, or_left, and_parts}
use Rattle.std.specs.Prelude.{option_map}
use Rattle.std.proofs.lemmas.Option.{none-some}
use Rattle.std.proofs.Math.Nat.{two-pow-succ}
use Rattle.thread_local_base.specs.Place.{bucket_of}
use Rattle.thread_local_base.specs.Capacity.{binary_digits, reserves_bucket, is_reserved}
use Rattle.thread_local_base.specs.Held.{Manager, is_held, least, with_least, given_to}
use Rattle.thread_local_base.specs.Answers.{first_view}
use Rattle.thread_local_schedule.specs.Table.{Table, empty_slot, slot_at, made_table, published, bucket_stands}
use Rattle.thread_local_schedule.specs.Local.{Local, fresh_local}
use Rattle.thread_local_schedule.specs.SharedWalk.{SharedWalk}
use Rattle.thread_local_schedule.specs.OwnerWalk.{rewritten}
use Rattle.thread_local_schedule.specs.Cleared.{cleared, drained}
use Rattle.thread_local_schedule.specs.Fits.{StepFits, with_value_if}
use Rattle.thread_local_schedule.specs.WalkFits.{WalkFits}
use Rattle.thread_local_schedule.proofs.TableLaws.{published_stands, slot_at-made_table, bucket_stands-made_table, published_unset}
use Rattle.thread_local_schedule.proofs.TableLaws.{announced-made_table}
use Rattle.thread_local_schedule.proofs.LocalLaws.{other_fits}
use Rattle.thread_local_schedule.proofs.WalkStepLaws.{walk_carried}
use Rattle.thread_local_schedule.proofs.OwnerLaws.{published-rewritten, AllWritten-rewritten, bucket_stands-rewritten, announced-rewritten}
use Rattle.thread_local_schedule.proofs.ClearedLaws.{slot_at-cleared, bucket_stands-cleared, announced-cleared, slot_at-drained}
use Rattle.thread_local_schedule.proofs.ClearedLaws.{bucket_stands-drained, announced-drained}
use Rattle.thread_local_schedule.specs.Core.{Core, made_core, shadow, put, none_below, is_alone, peak}
use Rattle.thread_local_schedule.proofs.HeldCounts.{held_below}
use Rattle.thread_local_schedule.proofs.PutLaws.{put_cases, put_same, put_other, still}
use Rattle.thread_local_schedule.proofs.Numbers.{stepped-NumbersFit, made-NumbersFit, rewritten-NumbersFit, cleared-NumbersFit, drained-NumbersFit}
use Rattle.thread_local_schedule.specs.Calls.{HasLearnt}
use Rattle.thread_local_schedule.specs.Numbers.{NumbersGo}
use Rattle.thread_local_schedule.specs.CoreFits.{ManagerFits, TableFits, LiveFits, LocalsFit, WalksFit, CoreFits}
use Rattle.thread_local_base.proofs.PlaceLaws as place
use Rattle.thread_local_base.proofs.CapacityLaws as reserve
use Rattle.thread_local_base.proofs.HeldLaws as ids

-- the Locals after one was replaced by another with its id
pub locals_put : {V E : Type 0} (table : Table V) (held : List Bool) (capacity : ℕ)
    (locals : ℕ → Option (Local V E)) (taken number : ℕ) (local : Local V E)
    → number < taken → LiveFits table held capacity local
    → ((n : ℕ) (other : Local V E) → (number ≡ n → ⊥) → locals n ≡ Some other
    → LiveFits table held capacity other × (local.id ≡ other.id → ⊥))
    → ((m n : ℕ) (a b : Local V E) → locals m ≡ Some a → locals n ≡ Some b → a.id ≡ b.id → m ≡ n)
    → ((n : ℕ) → taken ≤ n → locals n ≡ None)
    → LocalsFit table held capacity (put locals number (Some local)) taken
locals_put table held capacity locals taken number local l here others unshared none = record {
  each = λ n x e.
      ⊎_elim
      (λ at. let same : local ≡ x = cc in subst (LiveFits table held capacity) same here)
      (λ at. (others n x at.0 at.1).0)
      (put_cases locals number (Some local) n x e);
  unshared = λ m n a b e f same.
      ⊎_elim
      (λ at.
      ⊎_elim
      (λ too. sym at.0 ∙ too.0)
      (λ apart. let here : local ≡ a = cc in absurd ((others n b apart.0 apart.1).1 (ap (λ x. x.id) here ∙ same)))
      (put_cases locals number (Some local) n b f))
      (λ apart.
      ⊎_elim
      (λ at. let here : local ≡ b = cc in absurd ((others m a apart.0 apart.1).1 (ap (λ x. x.id) here ∙ sym same)))
      (λ too. unshared m n a b apart.1 too.1 same)
      (put_cases locals number (Some local) n b f))
      (put_cases locals number (Some local) m a e);
  none_from = λ n above. put_other locals number (Some local) n (λ e. absurd (omega arith)) ∙ none n above;
}

-- the Locals after one was removed
pub locals_removed : {V E : Type 0} (table : Table V) (held : List Bool) (capacity : ℕ)
    (locals : ℕ → Option (Local V E)) (taken number : ℕ)
    → ((n : ℕ) (other : Local V E) → (number ≡ n → ⊥) → locals n ≡ Some other → LiveFits table held capacity other)
    → ((m n : ℕ) (a b : Local V E) → locals m ≡ Some a → locals n ≡ Some b → a.id ≡ b.id → m ≡ n)
    → ((n : ℕ) → taken ≤ n → locals n ≡ None)
    → LocalsFit table held capacity (put locals number None) taken
locals_removed table held capacity locals taken number others unshared none = record {
  each = λ n x e. let at = still locals number n x e in others n x at.0 at.1;
  unshared = λ m n a b e f. unshared m n a b (still locals number m a e).1 (still locals number n b f).1;
  none_from = λ n above.
      ⊎_elim
      (λ at. ap (put locals number None) (sym at) ∙ put_same locals number None)
      (λ apart. put_other locals number None n apart ∙ none n above)
      (cases_eq number n);
}

pub given-ManagerFits : (manager : Manager) (capacity id : ℕ) → ManagerFits manager capacity
    → ManagerFits (given_to manager id) capacity
given-ManagerFits manager capacity id h =
    let same = ids.length-without manager.held id in
    record {
      peak_room = omega (arith, h.peak_room);
      capacity_room = h.capacity_room;
      peak_ids = omega (arith, h.peak_ids);
      capacity_ids = h.capacity_ids;
    }

-- the table's part still fits where the peak grows
pub peak-TableFits : {V : Type 0} (table : Table V) (capacity peak higher : ℕ) → peak ≤ higher
    → TableFits table capacity peak
    → TableFits table capacity higher
peak-TableFits table capacity peak higher up h = record {
  written = h.written;
  small = λ b t. omega (arith, h.small b t);
  reserved = h.reserved;
  below = λ id v e. omega (arith, h.below id v e);
  first_announced = h.first_announced;
  announced = h.announced;
  standing_announced = h.standing_announced;
}

pub some_value : {A : Type 0} (o : Option A) → IsTrue (is_some o) → (x : A) × (o ≡ Some x)
some_value None t = absurd (false≢true t)
some_value (Some x) t = (x, refl)

-- a held id is still held after the least free one is taken
pub held_stays : (held : List Bool) (id : ℕ) → IsTrue (is_held held id) → IsTrue (is_held (with_least held) id)
held_stays held id t =
    ids.is_held-with_least held id
    ∙ cond_both (eqb (least held) id) true (is_held held id) IsTrue (λ _. refl) (λ _. t)

pub least_held : (held : List Bool) → IsTrue (is_held (with_least held) (least held))
least_held held =
    ids.is_held-with_least held (least held)
    ∙ ap (λ b. cond b true (is_held held (least held))) (eq-eqb (least held) (least held) refl)

-- a new Local fits
pub fresh-LiveFits : {V E : Type 0} (core : Core V E) (held : List Bool) (id : ℕ)
    → TableFits core.table core.capacity (length core.manager.held) → IsTrue (is_held held id)
    → LiveFits core.table held core.capacity (fresh_local {E = E} id (first_view (shadow core) id))
fresh-LiveFits core held id h t = record {
  local_fits = record {
    answered = refl;
    view = record {
      value = refl;
      known = λ known.
          ⊎_elim
          (λ reserved. h.reserved (bucket_of id) ((reserve.reserved_buckets core.capacity id).0 reserved))
          (λ some. let here = some_value (published core.table id) some in published_stands core.table id here.0 here.1)
          (or_cases (is_reserved core.capacity id) (is_some (published core.table id)) known);
      learnt_so = tt;
      doing_so = tt;
    };
  };
  learnt = tt;
  id_held = t;
  known = λ reserved. or_left (is_reserved core.capacity id) (is_some (published core.table id)) reserved;
}

-- a map with one more value has at an id what it had before, or that value
pub added : {V : Type 0} (values : ℕ → Option V) (own : ℕ) (set : Option V) (id : ℕ) (v : V)
    → with_value_if values own set id ≡ Some v
    → (values id ≡ Some v) ⊎ ((own ≡ id) × (set ≡ Some v))
added values own None id v e = inl e
added values own (Some w) id v e =
    ⊎_elim
    (λ same. inr (same, sym (ap (λ b. cond b (Some w) (values id)) (eq-eqb own id same)) ∙ e))
    (λ apart. inl (sym (ap (λ b. cond b (Some w) (values id)) (ne_eqb own id apart)) ∙ e))
    (cases_eq own id)

-- a map with one more value keeps what it had, if the value is at an id that had none
pub kept_value : {V : Type 0} (values : ℕ → Option V) (own : ℕ) (set : Option V) (id : ℕ) (v : V)
    → IfSome set (λ _. values own ≡ None) → values id ≡ Some v
    → with_value_if values own set id ≡ Some v
kept_value values own None id v none e = e
kept_value values own (Some w) id v none e =
    ⊎_elim
    (λ same. let at = ap values same in absurd cc)
    (λ apart. ap (λ b. cond b (Some w) (values id)) (ne_eqb own id apart) ∙ e)
    (cases_eq own id)

-- the bucket of a held id has no more slots than the peak
pub own_small : (held : List Bool) (id : ℕ) → IsTrue (is_held held id) → 2 ^ bucket_of id ≤ length held
own_small held id t =
    let e = place.equation id in
    let l = held_below held id t in
    omega arith

pub step-TableFits : {V E : Type 0} (core : Core V E) (local : Local V E) (set : Option V)
    (after : Table V × Local V E)
    → IsTrue (is_held core.manager.held local.id)
    → StepFits core.table local set after
    → TableFits core.table core.capacity (length core.manager.held)
    → TableFits after.0 core.capacity (length core.manager.held)
step-TableFits core local set after t s h = record {
  written = s.changes.written;
  small = λ b stood.
      ⊎_elim
      (λ before. h.small b before)
      (λ own.
      let l = own_small core.manager.held local.id t in
      let same : 2 ^ bucket_of local.id ≡ 2 ^ b = ap (λ k. 2 ^ k) own.0 in
      omega arith)
      (s.changes.installed b stood);
  reserved = λ b l. (s.changes.standing b (h.reserved b l)).0;
  below = λ id v e.
      ⊎_elim
      (λ before. h.below id v before)
      (λ own. subst (λ k. k < length core.manager.held) own.0 (held_below core.manager.held local.id t))
      (added (published core.table) local.id set id v (sym (s.shown id) ∙ e));
  first_announced = λ b l. s.changes.announced b (h.first_announced b l);
  announced = λ id v e.
      s.changes.announced (bucket_of id)
      (⊎_elim
      (λ before. h.announced id v before)
      (λ own.
      let here = subst (λ o. IfSome o (λ _. IsTrue (core.table.announced (bucket_of local.id)))) own.1 s.announced in
      subst (λ k. IsTrue (core.table.announced (bucket_of k))) own.0 here)
      (added (published core.table) local.id set id v (sym (s.shown id) ∙ e)));
  standing_announced = λ b stood unreserved.
      s.changes.announced b
      (⊎_elim (λ before. h.standing_announced b before unreserved) (λ own. own.1) (s.changes.installed b stood));
}

pub stepped-fits : {V E : Type 0} (core : Core V E) (number : ℕ) (local : Local V E)
    (set : Option V) (after : Table V × Local V E)
    → core.locals number ≡ Some local
    → StepFits core.table local set after → NumbersGo core.table local after
    → HasLearnt after.1.doing after.1.learnt → CoreFits core
    → CoreFits (record core { table = after.0; locals = put core.locals number (Some after.1) })
stepped-fits core number local set after at s go learnt h =
    let live = h.locals.each number local at in
    let held = core.manager.held in
    record {
      manager = h.manager;
      table = step-TableFits core local set after live.id_held s h.table;
      locals = locals_put after.0 held core.capacity core.locals core.taken number after.1
          (⊎_elim (λ l. l) (λ above. let none = h.locals.none_from number above in absurd cc) (cases_lt number core.taken))
          (record {
            local_fits = s.fits;
            learnt = learnt;
            id_held = subst (λ id. IsTrue (is_held held id)) (sym s.same.id) live.id_held;
            known = λ reserved.
                ap (λ view. view.known) s.same.start
                ∙ live.known (subst (λ id. IsTrue (is_reserved core.capacity id)) s.same.id reserved);
          })
          (λ n other apart e.
          let there = h.locals.each n other e in
          let differ : local.id ≡ other.id → ⊥ = λ same. apart (h.locals.unshared number n local other at e same) in (
            record {
              local_fits =
                  other_fits core.table after.0 local.id other s.changes differ there.local_fits;
              learnt = there.learnt;
              id_held = there.id_held;
              known = there.known;
            },
            (λ same. differ (sym s.same.id ∙ same)),
          ))
          h.locals.unshared
          h.locals.none_from;
      walks = record {
        each = λ n walk e.
            walk_carried core.table after.0 walk
            (λ id v p. s.shown id ∙ kept_value (published core.table) local.id set id v s.empty p)
            (h.walks.each n walk e);
        none_from = h.walks.none_from;
      };
      numbers = stepped-NumbersFit core.table core.locals number local after at go h.numbers;
    }

-- the walks after one was replaced, or one more began
pub walks_put : {V : Type 0} (table : Table V) (walks : ℕ → Option (SharedWalk V))
    (walked more number : ℕ) (it : Option (SharedWalk V))
    → walked ≤ more → number < more
    → IfSome it (WalkFits table) → WalksFit table walks walked → WalksFit table (put walks number it) more
walks_put table walks walked more number it up l here h = record {
  each = λ n x e. ⊎_elim (λ at. some_fits it x at.1 here) (λ at. h.each n x at.1) (put_cases walks number it n x e);
  none_from = λ n above. put_other walks number it n (λ e. absurd (omega arith)) ∙ h.none_from n (omega arith);
}
  where
    some_fits : (o : Option (SharedWalk _)) (x : SharedWalk _) → o ≡ Some x → IfSome o (WalkFits table) → WalkFits table x
    some_fits None x e w = cc
    some_fits (Some y) x e w = let same : y ≡ x = cc in subst (WalkFits table) same w

-- a walk under way has a number already given out
pub came_before : {V : Type 0} (table : Table V) (walks : ℕ → Option (SharedWalk V))
    (walked number : ℕ) (walk : SharedWalk V)
    → WalksFit table walks walked → walks number ≡ Some walk
    → number < walked
came_before table walks walked number walk h at =
    ⊎_elim (λ l. l) (λ above. let none = h.none_from number above in absurd cc)
    (cases_lt number walked)

pub is_none_none : {A : Type 0} (o : Option A) → IsTrue (is_none o) → o ≡ None
is_none_none None t = refl
is_none_none (Some x) t = cc

-- a family with no member below n has none at any j below n
pub none_at : {A : Type 0} (all : ℕ → Option A) (n j : ℕ) → IsTrue (none_below all n) → j < n → all j ≡ None
none_at all zero j t l = absurd (omega arith)
none_at all (suc n) j t l =
    let both = and_parts (none_below all n) (is_none (all n)) t in
    ⊎_elim
    (λ same. ap all same ∙ is_none_none (all n) both.1)
    (λ other. none_at all n j both.0 (⊎_elim (λ below. below) (λ above. absurd (omega arith)) (cases_lt j n)))
    (cases_eq j n)

pub no_locals : {V E : Type 0} (core : Core V E) → CoreFits core → IsTrue (is_alone core) → (n : ℕ) → core.locals n ≡ None
no_locals core h alone n =
    let both = and_parts (none_below core.locals core.taken) (none_below core.walks core.walked) alone in
    ⊎_elim (λ l. none_at core.locals core.taken n both.0 l) (λ above. h.locals.none_from n above) (cases_lt n core.taken)

pub no_walks : {V E : Type 0} (core : Core V E) → CoreFits core → IsTrue (is_alone core) → (n : ℕ) → core.walks n ≡ None
no_walks core h alone n =
    let both = and_parts (none_below core.locals core.taken) (none_below core.walks core.walked) alone in
    ⊎_elim (λ l. none_at core.walks core.walked n both.1 l) (λ above. h.walks.none_from n above) (cases_lt n core.walked)

-- so there is no Local, and the Locals fit whatever the table and the held ids are
no_locals-fit : {V E : Type 0} (core : Core V E) (table : Table V) (held : List Bool)
    → IsTrue (is_alone core) → CoreFits core
    → LocalsFit table held core.capacity core.locals core.taken
no_locals-fit core table held alone h = record {
  each = λ n local at. let none = no_locals core h alone n in absurd cc;
  unshared = h.locals.unshared;
  none_from = h.locals.none_from;
}

no_walks-fit : {V E : Type 0} (core : Core V E) (table : Table V) → IsTrue (is_alone core)
    → CoreFits core
    → WalksFit table core.walks core.walked
no_walks-fit core table alone h = record {
  each = λ n walk at. let none = no_walks core h alone n in absurd cc;
  none_from = h.walks.none_from;
}

pub mapped : {A : Type 0} (other : A → A) (o : Option A) (v : A) → option_map other o ≡ Some v → (w : A) × (o ≡ Some w)
mapped other None v e = cc
mapped other (Some w) v e = (w, refl)

-- the table's part after an owner replaced values
pub rewritten-TableFits : {V : Type 0} (table : Table V) (others : ℕ → V → V) (capacity peak : ℕ)
    → TableFits table capacity peak
    → TableFits (rewritten table others) capacity peak
rewritten-TableFits table others capacity peak h = record {
  written = AllWritten-rewritten table others h.written;
  small = λ b t. h.small b (sym (bucket_stands-rewritten table others b) ∙ t);
  reserved = λ b l. bucket_stands-rewritten table others b ∙ h.reserved b l;
  below = λ id v e.
      let was =
      mapped (others id) (published table id) v (sym (published-rewritten table others id) ∙ e) in
      h.below id was.0 was.1;
  first_announced = λ b l. ap (λ f. f b) (announced-rewritten table others) ∙ h.first_announced b l;
  announced = λ id v e.
      let was =
      mapped (others id) (published table id) v (sym (published-rewritten table others id) ∙ e) in
      ap (λ f. f (bucket_of id)) (announced-rewritten table others) ∙ h.announced id was.0 was.1;
  standing_announced = λ b t unreserved.
      ap (λ f. f b) (announced-rewritten table others)
      ∙ h.standing_announced b (sym (bucket_stands-rewritten table others b) ∙ t) unreserved;
}

-- a bucket for a binary digit of a capacity has no more slots than the capacity
pub made_small : (capacity bucket : ℕ) → bucket < binary_digits capacity → 2 ^ bucket ≤ capacity
made_small capacity bucket l =
    ⊎_elim
    (λ some.
    let up : 2 ^ suc bucket ≤ 2 ^ binary_digits capacity = pow_mono l in
    let few = reserve.digits_below capacity some in
    let twice = two-pow-succ bucket in
    omega arith)
    (λ none.
    let zero_digits : binary_digits capacity ≡ binary_digits 0 =
    (let e : capacity ≡ 0 = omega arith in ap binary_digits e) in
    absurd (omega (arith, reserve.no_digits)))
    (cases_lt 0 capacity)

-- an empty slot shows no value
shows_nothing : {V : Type 0} (table : Table V) (id : ℕ) (v : V) → slot_at table id ≡ empty_slot → published table id ≡ Some v → ⊥
shows_nothing table id v empty e = none-some v (sym (published_unset table id (ap (λ slot. slot.flag) empty)) ∙ e)

-- the table's part where all slots are empty and exactly the reserved buckets stand
empty-TableFits : {V : Type 0} (table : Table V) (capacity : ℕ)
    → ((id : ℕ) → slot_at table id ≡ empty_slot)
    → ((bucket : ℕ) → bucket_stands table bucket ≡ reserves_bucket capacity bucket)
    → ((bucket : ℕ) → bucket < 7 → IsTrue (table.announced bucket))
    → TableFits table capacity 0
empty-TableFits table capacity empty standing first = record {
  written = λ id t. absurd (false≢true (sym (ap (λ slot. slot.flag) (empty id)) ∙ t));
  small = λ b t. omega (arith, made_small capacity b (ltb-true b (binary_digits capacity) (sym (standing b) ∙ t)));
  reserved = λ b t. standing b ∙ t;
  below = λ id v e. absurd (shows_nothing table id v (empty id) e);
  first_announced = first;
  announced = λ id v e. absurd (shows_nothing table id v (empty id) e);
  standing_announced = λ b t unreserved. absurd (false≢true (sym unreserved ∙ sym (standing b) ∙ t));
}

-- a new core fits
pub made_core-fits : {V E : Type 0} (capacity extra : ℕ) → capacity < 2 ^ 63 → CoreFits {V = V} {E = E} (made_core capacity extra)
made_core-fits {V} {E} capacity extra l = record {
  manager = record { peak_room = omega arith; capacity_room = omega arith; peak_ids = omega arith; capacity_ids = l };
  table =
      empty-TableFits (made_table capacity) capacity (slot_at-made_table capacity) (bucket_stands-made_table V capacity)
      (λ b l. announced-made_table V capacity b ∙ lt-ltb b 7 l);
  locals = record { each = λ n local e. cc; unshared = λ m n a b e f same. cc; none_from = λ n above. refl };
  walks = record { each = λ n walk e. cc; none_from = λ n above. refl };
  numbers = made-NumbersFit capacity;
}

-- a core fits after its owner replaced values
pub rewritten-fits : {V E : Type 0} (core : Core V E) (others : ℕ → V → V) → IsTrue (is_alone core)
    → CoreFits core
    → CoreFits (record core { table = rewritten core.table others })
rewritten-fits core others alone h = record {
  manager = h.manager;
  table = rewritten-TableFits core.table others core.capacity (length core.manager.held) h.table;
  locals = no_locals-fit core (rewritten core.table others) core.manager.held alone h;
  walks = no_walks-fit core (rewritten core.table others) alone h;
  numbers = rewritten-NumbersFit core.table others core.locals h.numbers;
}

-- the table's part after a drain: the same buckets stand, and every slot is empty
drained-TableFits : {V : Type 0} (table : Table V) (capacity peak : ℕ) → TableFits table capacity peak
    → TableFits (drained table) capacity peak
drained-TableFits table capacity peak h = record {
  written = λ id t. absurd (false≢true (sym (ap (λ slot. slot.flag) (slot_at-drained table id)) ∙ t));
  small = λ b t. h.small b (sym (bucket_stands-drained table b) ∙ t);
  reserved = λ b l. bucket_stands-drained table b ∙ h.reserved b l;
  below = λ id v e. absurd (shows_nothing (drained table) id v (slot_at-drained table id) e);
  first_announced = λ b l. ap (λ f. f b) (announced-drained table) ∙ h.first_announced b l;
  announced = λ id v e. absurd (shows_nothing (drained table) id v (slot_at-drained table id) e);
  standing_announced = λ b t unreserved.
      ap (λ f. f b) (announced-drained table)
      ∙ h.standing_announced b (sym (bucket_stands-drained table b) ∙ t) unreserved;
}

-- a core fits after a drain
pub drained-fits : {V E : Type 0} (core : Core V E) → IsTrue (is_alone core) → CoreFits core
    → CoreFits (record core { table = drained core.table })
drained-fits core alone h = record {
  manager = h.manager;
  table = drained-TableFits core.table core.capacity (length core.manager.held) h.table;
  locals = no_locals-fit core (drained core.table) core.manager.held alone h;
  walks = no_walks-fit core (drained core.table) alone h;
  numbers = drained-NumbersFit core.table core.locals h.numbers;
}

-- a core fits after a clear
pub cleared-fits : {V E : Type 0} (core : Core V E) → IsTrue (is_alone core) → CoreFits core
    → CoreFits (record core
    { manager = record core.manager { held = [] }; table = cleared core.table core.capacity })
cleared-fits core alone h = record {
  manager = record {
    peak_room = omega arith;
    capacity_room = h.manager.capacity_room;
    peak_ids = omega arith;
    capacity_ids = h.manager.capacity_ids;
  };
  table =
      empty-TableFits (cleared core.table core.capacity) core.capacity
      (slot_at-cleared core.table core.capacity)
      (λ b. bucket_stands-cleared core.table core.capacity b (h.table.reserved b))
      (λ b l. ap (λ f. f b) (announced-cleared core.table core.capacity) ∙ h.table.first_announced b l);
  locals = no_locals-fit core (cleared core.table core.capacity) [] alone h;
  walks = no_walks-fit core (cleared core.table core.capacity) alone h;
  numbers = cleared-NumbersFit core.table core.capacity core.locals h.numbers;
}
