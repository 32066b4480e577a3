use Rattle.std.proofs.Common.{◌≡◌, ◌∙◌, ◌<◌, ◌≤◌, ◌^◌, ◌-◌, ℕ, Bool, true, false, List, All, Option, None, Some, IfSome}
use Rattle.std.proofs.Common.{⊎_elim, is_some, option_map, refl, ap, sym, subst, arith}
use Rattle.std.specs.Prelude.{MatchBool, IsTrue}
use Rattle.thread_local_base.specs.Bits.{IsLowestSet}
use Rattle.std.proofs.lemmas.Bool.{ne_eqb}
use Rattle.thread_local_base.specs.Cursor.{Cursor, is_complete}
use Rattle.thread_local_buckets.specs.declared.cursor.RawIter.{RawIter}
use Rattle.thread_local_ids.specs.TokenLists.{AllOf}
use Rattle.thread_local_ids.specs.TokenViews.{TokenView}
use Rattle.thread_local_shared_buckets.specs.TableView.{TableView}
use Rattle.thread_local_shared_buckets.specs.declared.iter.Iter.TheInside.{Inside}
use Rattle.thread_local_shared_buckets.specs.declared.seen.Seen.{Seen}
use Rattle.thread_local_shared_buckets.specs.declared.steps.Own.{Own}
use Rattle.thread_local_shared_buckets.specs.declared.steps.Walk.{Walk}
use Rattle.thread_local_shared_buckets.specs.AtHand.{IsWalk, HasSkipped, HasSeen, slot_of}
use Rattle.thread_local_shared_buckets.specs.Positions.{resting, owed, is_at, IsAhead, IsSharedWalk}
use Rattle.thread_local_shared_buckets.specs.Walks.{WalkView, IsNext}
use Rattle.thread_local_shared_buckets.proofs.Findings.{Item, IsGivenBy, IsToldAt, Stops, YieldsFrom}
use Rattle.thread_local_shared_buckets.proofs.AtHandLaws.{comes_nowhere}
use Rattle.thread_local_shared_buckets.proofs.MoveLaws.{resting-first}
use Rattle.thread_local_shared_buckets.proofs.OwnLaws.{at_if, not_at}
use Rattle.thread_local_shared_buckets.proofs.PassLaws.{near, after_pass, Passed, passed_own, passed_seen}
use Rattle.thread_local_shared_buckets.proofs.ToldLaws.{moved, meets_some, meets_none, stops}
use Rattle.thread_local_shared_buckets.proofs.WalkLaws.{gives_later, fits}
use Rattle.thread_local_shared_buckets.proofs.iter.Iter.step.Goals as goal
use Rattle.thread_local_shared_buckets.proofs.iter.Iter.step.Goals.{Joined-else-self-eq0, Joined-self-2, Joined-here}
use Rattle.thread_local_shared_buckets.proofs.iter.Iter.step.Goals.{else-self-eq0-via-then-self-eq0+else-not-reach}
use Rattle.thread_local_shared_buckets.proofs.iter.Iter.step.Goals.{else-self-eq0-via-else-self-eq0}
use Rattle.thread_local_shared_buckets.proofs.iter.Iter.step.Goals.{in-Some-own+then-own-self, in-Some-own+else-own-self, in-None}
use Rattle.thread_local_shared_buckets.proofs.iter.Iter.step.Goals.{then-here+in-Some-take, else-here+in-Some-seen, in-Some, in_default}

module _ {V : Type 0} where
  -- what contracts see of a walk, which was shown that threads may share the values, or wasn't
  abbrev seen : Walk V → Bool → WalkView V
  seen walk shown = record {
    sharing = walk.buckets.now.sharing;
    cursor = resting walk.raw;
    own = option_map owed walk.own;
    shown = shown;
    told = walk.told;
  }

  -- what holds of two tokens of one slot
  abbrev Agrees : Item V → List (TokenView V) → Type 0
  Agrees x tokens = AllOf x.0.sharing (λ p. p.id ≡ x.0.id → p.value ≡ x.0.value) tokens

  -- the walk came to a flag, and gave its value
  given : (w met to : Walk V) (x : Item V) (shown left : Bool) → left ≡ shown → IsWalk w → HasSkipped w met
      → to.buckets.now ≡ met.buckets.now → YieldsFrom met.raw met.own x.1.now to.raw to.own
      → IsToldAt met.buckets.now.sharing to.raw x → to.told ≡ met.told
      → AllOf met.buckets.now.sharing (λ p. Stops met.raw to.raw p.id) met.told → Agrees x to.told
      → IsNext (seen w shown) (Some x.1) (seen to left)
  given w met to x shown left same walk comes buckets gives told kept stops agrees =
      let named : met.buckets.now.sharing ≡ w.buckets.now.sharing = ap (λ (t : TableView). t.sharing) comes.buckets in
      record {
        gives =
            gives_later (resting w.raw) (resting met.raw) (resting to.raw) (option_map owed w.own) (option_map owed to.own) x.1.now
            comes.leads (fits w.raw w.own walk.walk)
            (subst (λ (own : Option (Own V)). YieldsFrom met.raw own x.1.now to.raw to.own) comes.own gives);
        shown = same;
        sharing = ap (λ (t : TableView). t.sharing) buckets ∙ named;
        told = kept ∙ comes.told;
        meets =
            meets_some w.buckets.now.sharing w.told w.raw met.raw to.raw x comes.skips
            (moved met.buckets.now.sharing w.buckets.now.sharing met.told w.told (λ p. Stops met.raw to.raw p.id) named comes.told stops)
            (subst (λ (o : Option ℕ). IsToldAt o to.raw x) named told) (subst (Agrees x) (kept ∙ comes.told) agrees);
      }

  -- past the last bucket no own value is ahead, and the walk is complete
  none_ahead : (raw : RawIter) (own : Option (Own V)) → IfSome own (IsAhead raw) → 63 ≤ raw.bucket → own ≡ None
  none_ahead raw None ahead far = refl
  none_ahead raw (Some own) ahead far = let up = ahead.bucket in let low = own.thread.in_table in absurd (omega arith)

  complete : (raw : RawIter) (own : Option (Own V)) → IsSharedWalk raw own → 63 ≤ raw.bucket → IsTrue (is_complete (resting raw))
  complete raw own walk far =
      let last : raw.bucket ≡ 63 = (let most = walk.in_table in omega arith) in
      subst (λ (at : Cursor). IsTrue (is_complete at)) (sym (resting-first raw (walk.complete last)))
      (subst (λ (b : ℕ). IsTrue (is_complete (record { bucket = b; index = raw.index; looks = false }))) (sym last) refl)

  -- the walk looked on and found no flag
  ended : (w to : Walk V) (shown : Bool) → HasSkipped w to → IsWalk to → 63 ≤ to.raw.bucket → All (λ p. p.id < 2 ^ 63 - 1) to.told
      → IsNext (seen w shown) None (seen to shown)
  ended w to shown comes walk far small =
      let none : to.own ≡ None = none_ahead to.raw to.own walk.walk.own_ahead far in
      record {
        gives = record {
          leads = comes.leads;
          complete = complete to.raw to.own walk.walk far;
          none_owed = ap (option_map owed) (sym comes.own ∙ none);
          none_left = ap (option_map owed) none;
        };
        shown = refl;
        sharing = ap (λ (t : TableView). t.sharing) comes.buckets;
        told = comes.told;
        meets =
            meets_none w.buckets.now.sharing w.told w.raw to.raw comes.skips far
            (subst (λ (ts : List (TokenView V)). All (λ p. p.id < 2 ^ 63 - 1) ts) comes.told small);
      }

  -- the walk looked on, or a flag was at hand: one is now
  record HasCome (from met : Inside V) : Type 0 where
    pub walk : IsWalk met.walk
    pub some : 0 < met.walk.rest
    pub comes : HasSkipped from.walk met.walk
    pub shown : met.shown ≡ from.shown

  -- the walk gave the value of that flag
  record HasGiven (met to : Inside V) (x : Item V) : Type 0 where
    pub passed : Passed met.walk x to.walk
    pub buckets : to.walk.buckets.now ≡ met.walk.buckets.now
    pub told : to.walk.told ≡ met.walk.told
    pub shown : to.shown ≡ met.shown
    pub stops : AllOf met.walk.buckets.now.sharing (λ p. Stops met.walk.raw to.walk.raw p.id) met.walk.told

  -- where that is the own value, or the walk has seen it
  gave : (met : Inside V) (low rest : ℕ) (left : Option (Own V)) (x : Item V) → IsWalk met.walk → IsLowestSet met.walk.rest low
      → Passed met.walk x (after_pass met.walk low rest left)
      → HasGiven met (record { walk = after_pass met.walk low rest left; shown = met.shown }) x
  gave met low rest left x walk lowest passed = record {
    passed = passed;
    buckets = refl;
    told = refl;
    shown = refl;
    stops = stops met.walk low walk lowest;
  }

pub reach-requires-clause-shareable : goal.reach-requires-clause-shareable
reach-requires-clause-shareable g c =
    elim c.match-self.branch [
      | in-Some x ↦ x.tell.ensures.shareable
      | in_default x ↦
          ⊎_elim
          (λ shown.
          let never : true ≡ false = sym shown ∙ sym (ap (λ (view : WalkView _). view.shown) c.self.view_is) ∙ ap is_some x.in_default.is in
          absurd cc)
          (λ said. said) c.requires.can_go
    ]

pub reach-requires-clause-walk : goal.reach-requires-clause-walk
reach-requires-clause-walk g c = c.self.invariant

pub reach-requires-clause-passed : goal.reach-requires-clause-passed
reach-requires-clause-passed g c = c.if-self-eq0.true

pub invariant_of-self : goal.invariant_of-self
invariant_of-self g c = c.reach.ensures.walk

pub returns-then-not-reach : goal.returns-then-not-reach
returns-then-not-reach g c =
    let from = c.self.inside in
    let reached = c.reach.ensures in
    let shown = is_some from.shown in
    let far =
    subst (λ (b : Bool). MatchBool b (0 < c.reach.new.self.rest) (63 ≤ c.reach.new.self.raw.bucket)) c.if-not-reach.true reached.by in
    record {
      goes =
          subst (λ (view : WalkView _). IsNext view None (seen c.reach.new.self shown)) c.self.view_is
          (ended from.walk c.reach.new.self shown reached.comes reached.walk far (subst (λ (ts : List (TokenView _)). All (λ p. p.id < 2 ^ 63 - 1) ts) c.told.view_is c.told.invariant));
      told = tt;
    }

come_to : (g : _) (c : Joined-else-self-eq0 g) → HasCome c.self.inside c.else-self-eq0.self-inside
come_to g c =
    let from = c.self.inside in
    elim c.else-self-eq0.branch [
      | else-self-eq0-via-then-self-eq0+else-not-reach x ↦
          let reached = x.reach.ensures in
          subst (HasCome from) (sym x.self-inside-is) (record {
            walk = reached.walk;
            some = subst (λ (b : Bool). MatchBool b (0 < x.reach.new.self.rest) (63 ≤ x.reach.new.self.raw.bucket)) x.if-not-reach.false reached.by;
            comes = reached.comes;
            shown = refl;
          })
      | else-self-eq0-via-else-self-eq0 x ↦
          subst (HasCome from) (sym x.self-inside-is) (record {
            walk = c.self.invariant;
            some = omega (arith, x.if-self-eq0.false);
            comes = comes_nowhere from.walk;
            shown = refl;
          })
    ]

pub take_first-bit-requires : goal.take_first-bit-requires
take_first-bit-requires g c = (come_to g (goal.at.take_first-bit-requires g c).Joined-else-self-eq0).some

pub overflow_sub-index : goal.overflow_sub-index
overflow_sub-index g c =
    let come = come_to g (goal.at.overflow_sub-index g c).Joined-else-self-eq0 in
    let at = near c.else-self-eq0.self-inside.walk c.take_first-bit.result come.walk c.take_first-bit.ensures.first in omega (arith, at.some)

pub overflow_mul-index : goal.overflow_mul-index
overflow_mul-index g c =
    let come = come_to g (goal.at.overflow_mul-index g c).Joined-else-self-eq0 in
    let at = near c.else-self-eq0.self-inside.walk c.take_first-bit.result come.walk c.take_first-bit.ensures.first in omega (arith, at.slot)

pub overflow_add-index : goal.overflow_add-index
overflow_add-index g c =
    let come = come_to g (goal.at.overflow_add-index g c).Joined-else-self-eq0 in
    let at = near c.else-self-eq0.self-inside.walk c.take_first-bit.result come.walk c.take_first-bit.ensures.first in omega (arith, at.slot)

pub overflow_add-self : goal.overflow_add-self
overflow_add-self g c =
    let come = come_to g (goal.at.overflow_add-self g c).Joined-else-self-eq0 in
    let at = near c.else-self-eq0.self-inside.walk c.take_first-bit.result come.walk c.take_first-bit.ensures.first in omega (arith, at.slot)

pub overflow_add-self-2 : goal.overflow_add-self-2
overflow_add-self-2 g c =
    let come = come_to g (goal.at.overflow_add-self-2 g c).Joined-else-self-eq0 in
    let at = near c.else-self-eq0.self-inside.walk c.take_first-bit.result come.walk c.take_first-bit.ensures.first in omega (arith, at.few)

-- whether the own value lies at the lowest flag
tested : (g : _) (c : Joined-self-2 g)
    → let w = c.else-self-eq0.self-inside.walk in c.match-self-2.here ≡ is_at w.own w.raw.bucket (slot_of w c.take_first-bit.result)
tested g c =
    let w = c.else-self-eq0.self-inside.walk in
    let index = slot_of w c.take_first-bit.result in
    elim c.match-self-2.branch [
      | in-Some-own+then-own-self x ↦ x.here-is ∙ sym (at_if w.own x.in-Some-own.own w.raw.bucket index x.in-Some-own.is x.if-own-self.true)
      | in-Some-own+else-own-self x ↦
          x.here-is ∙ ne_eqb x.in-Some-own.own.thread.bucket w.raw.bucket x.if-own-self.false
          ∙ sym (not_at w.own x.in-Some-own.own w.raw.bucket index x.in-Some-own.is x.if-own-self.false)
      | in-None x ↦ x.here-is ∙ sym (ap (λ (own : Option (Own _)). is_at own w.raw.bucket index) x.in-None.is)
    ]

pub unreachable-requires : goal.unreachable-requires
unreachable-requires g c =
    let w = c.else-self-eq0.self-inside.walk in
    let none : w.own ≡ None = sym c.take.ensures.value ∙ c.in-None-take.is in
    let never : false ≡ true =
    sym (ap (λ (own : Option (Own _)). is_at own w.raw.bucket (slot_of w c.take_first-bit.result)) none)
    ∙ sym (tested g (goal.at.unreachable-requires g c).Joined-self-2) ∙ c.if-here.true in
    absurd cc

-- what is known of a look that was the last at this bucket
abbrev SawSet : {V : Type 0} → Walk V → ℕ → Option (Seen V) → Type 0
SawSet w bit seen = HasSeen w.buckets.now.sharing w.raw.bucket w.chunks bit seen

-- where it doesn't, the walk saw that flag set
seen_there : (g : _) (c : Joined-self-2 g) → HasCome c.self.inside c.else-self-eq0.self-inside → c.match-self-2.here ≡ false
    → let w = c.else-self-eq0.self-inside.walk in SawSet w c.take_first-bit.result w.seen
seen_there g c come apart =
    let lowest = c.take_first-bit.ensures.first in
    (come.walk.at_hand c.take_first-bit.result lowest.within lowest.set).by (sym (tested g c) ∙ apart)

pub give-requires-clause-within : goal.give-requires-clause-within
give-requires-clause-within g c = c.take_first-bit.ensures.first.within

pub give-requires-clause-set : goal.give-requires-clause-set
give-requires-clause-set g c =
    let at = goal.at.give-requires-clause-set g c in
    let saw = subst (SawSet c.else-self-eq0.self-inside.walk c.take_first-bit.result) c.in-Some-seen.is
    (seen_there g at.Joined-self-2 (come_to g at.Joined-else-self-eq0) c.if-here.false) in
    saw.3

pub give-requires-clause-id : goal.give-requires-clause-id
give-requires-clause-id g c =
    let at = goal.at.give-requires-clause-id g c in
    let w = c.else-self-eq0.self-inside.walk in
    let bit = c.take_first-bit.result in
    let come = come_to g at.Joined-else-self-eq0 in
    let saw = subst (SawSet w bit) c.in-Some-seen.is (seen_there g at.Joined-self-2 come c.if-here.false) in
    let slot = near w bit come.walk c.take_first-bit.ensures.first in
    let power : 2 ^ c.in-Some-seen.seen.of.bucket ≡ 2 ^ w.raw.bucket = ap (λ k. 2 ^ k) saw.1 in
    omega (arith, power, saw.2, slot.some, slot.size, slot.first)

pub overflow_add-self-inside : goal.overflow_add-self-inside
overflow_add-self-inside g c =
    let come = come_to g (goal.at.overflow_add-self-inside g c).Joined-else-self-eq0 in
    let at = near c.else-self-eq0.self-inside.walk c.take_first-bit.result come.walk c.take_first-bit.ensures.first in omega (arith, at.id)

pub give-requires-clause-in_range : goal.give-requires-clause-in_range
give-requires-clause-in_range g c =
    let come = come_to g (goal.at.give-requires-clause-in_range g c).Joined-else-self-eq0 in
    let at = near c.else-self-eq0.self-inside.walk c.take_first-bit.result come.walk c.take_first-bit.ensures.first in omega (arith, at.id, at.first)

pub unreachable-requires-in-None-seen : goal.unreachable-requires-in-None-seen
unreachable-requires-in-None-seen g c =
    let at = goal.at.unreachable-requires-in-None-seen g c in
    subst (SawSet c.else-self-eq0.self-inside.walk c.take_first-bit.result) c.in-None-seen.is
    (seen_there g at.Joined-self-2 (come_to g at.Joined-else-self-eq0) c.if-here.false)

-- the walk gave its own value, or the value that it saw
given_here : (g : _) (c : Joined-here g) → HasCome c.self.inside c.else-self-eq0.self-inside
    → (let w = c.else-self-eq0.self-inside.walk in c.match-self-2.here ≡ is_at w.own w.raw.bucket (slot_of w c.take_first-bit.result))
    → HasGiven c.else-self-eq0.self-inside c.if-here.self-inside c.if-here.found
given_here g c come test =
    let met = c.else-self-eq0.self-inside in
    let w = met.walk in
    let low = c.take_first-bit.result in
    let lowest = c.take_first-bit.ensures.first in
    let rest = c.take_first-bit.new.word in
    let cleared = c.take_first-bit.ensures.rest in
    elim c.if-here.branch [
      | then-here+in-Some-take x ↦
          let own = x.in-Some-take.own in
          let is = sym x.take.ensures.value ∙ x.in-Some-take.is in
          let at =
          subst (λ (o : Option (Own _)). is_at o w.raw.bucket (slot_of w low) ≡ true) is (sym test ∙ x.if-here.true) in
          let left = x.take.new.self in
          subst (λ (to : Inside _). HasGiven met to c.if-here.found) (sym x.self-inside-is)
          (subst
          (λ (found : Item _). HasGiven met (record { walk = after_pass w low rest left; shown = met.shown }) found) (sym x.found-is)
          (gave met low rest left (own.token, own.value) come.walk lowest
          (subst
          (λ (o : Option (Own _)). Passed w (own.token, own.value) (after_pass w low rest o)) (sym x.take.ensures.after)
          (passed_own w low rest own (own.token, own.value) is come.walk lowest cleared at refl refl))))
      | else-here+in-Some-seen x ↦
          let told = x.give.ensures.told in
          subst (λ (to : Inside _). HasGiven met to c.if-here.found) (sym x.self-inside-is)
          (subst
          (λ (found : Item _). HasGiven met (record { walk = after_pass w low rest w.own; shown = met.shown }) found) (sym x.found-is)
          (gave met low rest w.own x.give.result come.walk lowest
          (passed_seen w low rest x.give.result come.walk lowest cleared (sym test ∙ x.if-here.false)
          (subst (λ (seen : Option (Seen _)). IfSome seen (IsGivenBy low x.give.result)) (sym x.in-Some-seen.is)
          (record { sharing = told.0; id = told.1; value = told.2 })))))
    ]

pub invariant_of-self-2 : goal.invariant_of-self-2
invariant_of-self-2 g c =
    let at = goal.at.invariant_of-self-2 g c in
    (given_here g at.Joined-here (come_to g at.Joined-else-self-eq0) (tested g at.Joined-self-2)).passed.walk

pub returns : goal.returns
returns g c =
    let at = goal.at.returns g c in
    let come = come_to g at.Joined-else-self-eq0 in
    let gives = given_here g at.Joined-here come (tested g at.Joined-self-2) in
    let from = c.self.inside in
    let met = c.else-self-eq0.self-inside in
    let to = c.if-here.self-inside in
    let found = c.if-here.found in
    let told = gives.passed.told in
    record {
      goes =
          subst (λ (view : WalkView _). IsNext view (Some found.1) (seen to.walk (is_some to.shown))) c.self.view_is
          (given from.walk met.walk to.walk found (is_some from.shown) (is_some to.shown) (ap is_some (gives.shown ∙ come.shown))
          c.self.invariant come.comes gives.buckets gives.passed.gives gives.passed.told gives.told gives.stops
          c.agrees.ensures);
      told = record {
        sharing = told.sharing ∙ ap (λ (t : TableView). t.sharing) come.comes.buckets ∙ ap (λ (view : WalkView _). view.sharing) c.self.view_is;
        id = told.id;
        value = told.value;
      };
    }
