-- A walk begins and moves on.
use Rattle.std.proofs.Common.{◌≡◌, ℕ, ◌+◌, ◌^◌, ◌<◌, ◌≤◌, Bool, true, false, cond, eqb, List}
use Rattle.std.proofs.Common.{Option, None, Some, IfSome, refl, ap, sym, ◌∙◌, subst, arith, add-one, pow_mono, ⊎_elim}
use Rattle.std.proofs.Math.Nat.{two-pow-succ}
use Rattle.std.proofs.lemmas.Bool.{eqb-true, ne_eqb, cases_eq, cases_lt}
use Rattle.thread_local_base.specs.Bits.{is_set, IsLowestSet, IsWordBut}
use Rattle.thread_local_base.proofs.Word.{is_set-zero, same_bit}
use Rattle.thread_local_shared_buckets.specs.declared.row.Row.{Row}
use Rattle.thread_local_buckets.specs.declared.cursor.RawIter.{RawIter}
use Rattle.thread_local_shared_buckets.specs.declared.steps.Own.{Own}
use Rattle.thread_local_shared_buckets.specs.declared.steps.Walk.{Walk}
use Rattle.thread_local_shared_buckets.specs.Positions.{resting, next_id, at_bucket, lies_in, OwnIsTold}
use Rattle.thread_local_shared_buckets.specs.Positions.{IsAhead, IsSharedWalk, IsBehind, Skips}
use Rattle.thread_local_shared_buckets.specs.AtHand.{IsRowOf, OwnIsAtHand, AreLeft, IsWalk, LooksIn, HasSkipped}
use Rattle.thread_local_shared_buckets.specs.WalkSteps.{SilentSteps}
use Rattle.thread_local_shared_buckets.specs.TableView.{TableView}
use Rattle.thread_local_ids.specs.TokenLists.{AllOf, NoneIn}
use Rattle.thread_local_ids.specs.TokenViews.{TokenView}
use Rattle.thread_local_shared_buckets.proofs.ToldLaws.{unmarked, skips, moved, skips_nowhere, skips_then}
use Rattle.thread_local_shared_buckets.proofs.MoveLaws.{leads_further}
use Rattle.thread_local_shared_buckets.proofs.StepLaws.{leads_nowhere, leads_then}
use Rattle.thread_local_shared_buckets.proofs.WalkLaws.{own_after_buckets}
use Rattle.thread_local_shared_buckets.proofs.OwnFlagLaws.{by_test}
use Rattle.thread_local_base.proofs.Word.{never_set, added_set, keeps_bit, still_set, as_before}

-- 1. The word of the buckets that are left.

-- what comes of taking a bucket out of those that are left, or none where the number is 63
pub record TakesFirst (left bucket rest : ℕ) : Type 0 where
  pub in_table : bucket ≤ 63
  pub first : (b : ℕ) → b < bucket → is_set left b ≡ false
  pub some : bucket < 63 → is_set left bucket ≡ true
  pub others : IsWordBut rest left bucket false

first_of_none : (left : ℕ) → left ≡ 0 → TakesFirst left 63 left
first_of_none left none =
    let unset : (b : ℕ) → is_set left b ≡ false = λ b. ap (λ (n : ℕ). is_set n b) none ∙ is_set-zero b in
    record { in_table = omega arith; first = λ b below. unset b; some = λ low. absurd (omega arith); others = same_bit left 63 false (unset 63) }

first_of_some : (left bucket rest : ℕ) → IsLowestSet left bucket → IsWordBut rest left bucket false → TakesFirst left bucket rest
first_of_some left bucket rest lowest but =
    record { in_table = (let low = lowest.within in omega arith); first = lowest.lower; some = λ _. lowest.set; others = but }

-- those that are left then lie behind it
left_behind : (left bucket rest b : ℕ) → TakesFirst left bucket rest → b < 64 → is_set rest b ≡ true → bucket < b
left_behind left bucket rest b takes small set =
    let both = still_set rest left bucket b takes.others small set in
    let apart = both.0 in
    ⊎_elim
    (λ (below : b < bucket). let never : true ≡ false = sym both.1 ∙ takes.first b below in cc)
    (λ (above : bucket ≤ b). omega arith)
    (cases_lt b bucket)

-- one behind it that isn't left then wasn't left before
unset_before : (left bucket rest b : ℕ) → IsWordBut rest left bucket false → b < 64 → bucket < b → is_set rest b ≡ false → is_set left b ≡ false
unset_before left bucket rest b but small above unset = sym (as_before rest left bucket b but small (λ e. absurd (omega arith))) ∙ unset

module _ {V : Type 0} where
  -- 2. What a walk keeps while it looks in its bucket and moves on, one after the other.

  pub comes_nowhere : (w : Walk V) → HasSkipped w w
  comes_nowhere w = record {
    buckets = refl;
    own = refl;
    leads = leads_nowhere (resting w.raw);
    told = refl;
    skips = skips_nowhere w.buckets.now.sharing w.told w.raw;
  }

  pub comes_by_look : (w to : Walk V) → LooksIn w to → HasSkipped w to
  comes_by_look w to look = record {
    buckets = look.buckets;
    own = look.own;
    leads = subst (λ (r : RawIter). SilentSteps (resting w.raw) (resting r)) (sym look.raw) (leads_nowhere (resting w.raw));
    told = look.told;
    skips =
        subst (λ (r : RawIter). AllOf w.buckets.now.sharing (λ p. Skips w.raw r p.id) w.told) (sym look.raw)
        (skips_nowhere w.buckets.now.sharing w.told w.raw);
  }

  pub comes_then : (w met to : Walk V) → HasSkipped w met → HasSkipped met to → HasSkipped w to
  comes_then w met to first after = record {
    buckets = after.buckets ∙ first.buckets;
    own = after.own ∙ first.own;
    leads = leads_then (resting w.raw) (resting met.raw) (resting to.raw) first.leads after.leads;
    told = after.told ∙ first.told;
    skips =
        skips_then w.buckets.now.sharing w.told w.raw met.raw to.raw first.skips
        (moved met.buckets.now.sharing w.buckets.now.sharing met.told w.told (λ p. Skips met.raw to.raw p.id)
        (ap (λ (t : TableView). t.sharing) first.buckets) first.told after.skips);
  }

  -- 3. A walk moves on, and begins.

  none_kept : (w : Walk V) (own : Option (Own V)) → w.chunks ≡ 0 → IfSome own (OwnIsAtHand w)
  none_kept w None none = tt
  none_kept w (Some own) none = λ same seen. absurd (omega arith)

  left_later : (sharing : Option ℕ) (told : List (TokenView V)) (own : Option (Own V)) (from left bucket rest : ℕ)
      → AreLeft sharing told own from left → from < bucket → TakesFirst left bucket rest
      → AreLeft sharing told own bucket rest
  left_later sharing told own from left bucket rest are further takes = record {
    behind = λ b small set. left_behind left bucket rest b takes small set;
    none_past =
        by_test (is_set rest 63)
        (λ t.
        let was = (still_set rest left bucket 63 takes.others (omega arith) t).1 in
        let never : true ≡ false = sym was ∙ are.none_past in cc)
        (λ f. f);
    none_told = λ b above low unset. are.none_told b (omega arith) low (unset_before left bucket rest b takes.others (omega arith) above unset);
    none_owed = λ b above low unset. are.none_owed b (omega arith) low (unset_before left bucket rest b takes.others (omega arith) above unset);
  }

  -- the first bucket that is left lies behind the walk's
  first_further : (sharing : Option ℕ) (told : List (TokenView V)) (own : Option (Own V)) (from left bucket rest : ℕ)
      → AreLeft sharing told own from left → from < 63 → TakesFirst left bucket rest
      → from < bucket
  first_further sharing told own from left bucket rest are low takes =
      ⊎_elim (λ (inside : bucket < 63). are.behind bucket (omega arith) (takes.some inside)) (λ (past : 63 ≤ bucket). omega arith)
      (cases_lt bucket 63)

  -- it has moved on to a later bucket
  pub record MovesOn (w to : Walk V) : Type 0 where
    pub walk : IsWalk to
    pub passed : to.rest ≡ 0
    pub further : w.raw.bucket < to.raw.bucket
    pub comes : HasSkipped w to

  -- the walk moves on
  abbrev pub further_on : Walk V → ℕ → ℕ → ℕ → Walk V
  further_on w bucket size rest = record w { raw = at_bucket w.raw bucket size; left = rest; row = None; chunks = 0 }

  elsewhere_to : (w : Walk V) (bucket rest : ℕ) → AreLeft w.buckets.now.sharing w.told w.own w.raw.bucket w.left → TakesFirst w.left bucket rest
      → lies_in w.own w.raw.bucket ≡ false
      → (b : ℕ) → w.raw.bucket ≤ b → b < bucket → lies_in w.own b ≡ false
  elsewhere_to w bucket rest are takes here b up below =
      let in_table = takes.in_table in
      ⊎_elim
      (λ (same : w.raw.bucket ≡ b). subst (λ (n : ℕ). lies_in w.own n ≡ false) same here)
      (λ apart. are.none_owed b (omega arith) (omega arith) (takes.first b below))
      (cases_eq w.raw.bucket b)

  moves_on : (w : Walk V) (bucket size rest : ℕ) → IsWalk w → w.rest ≡ 0 → w.raw.bucket < 63
      → lies_in w.own w.raw.bucket ≡ false
      → size ≡ 2 ^ bucket → TakesFirst w.left bucket rest
      → AllOf w.buckets.now.sharing (λ p. IsBehind w.raw p.id) w.told
      → MovesOn w (further_on w bucket size rest)
  moves_on w bucket size rest walk none low elsewhere is takes behind =
      let in_table = takes.in_table in
      let further = first_further w.buckets.now.sharing w.told w.own w.raw.bucket w.left bucket rest walk.left low takes in
      let few : w.raw.yielded ≤ next_id w.raw = walk.walk.yielded in
      let within : w.raw.index ≤ 2 ^ w.raw.bucket = walk.walk.within in
      let up : 2 ^ (w.raw.bucket + 1) ≤ 2 ^ bucket = pow_mono (omega arith) in
      let twice : 2 ^ (w.raw.bucket + 1) ≡ 2 ^ w.raw.bucket + 2 ^ w.raw.bucket = rw add-one (two-pow-succ w.raw.bucket) in
      record {
        walk = record {
          walk = record {
            in_table = in_table;
            within = omega arith;
            complete = λ _. refl;
            size = is;
            own_ahead =
                own_after_buckets w.raw w.own bucket size walk.walk.own_ahead (elsewhere_to w bucket rest walk.left takes elsewhere);
            yielded = omega arith;
          };
          told = walk.told;
          seen_to = omega arith;
          row = tt;
          at_hand = λ bit small set. never_set w.rest bit none set;
          kept = none_kept (further_on w bucket size rest) w.own refl;
          marked = unmarked (further_on w bucket size rest) refl;
          left = left_later w.buckets.now.sharing w.told w.own w.raw.bucket w.left bucket rest walk.left further takes;
        };
        passed = none;
        further = further;
        comes = record {
          buckets = refl;
          own = refl;
          leads = leads_further w.raw bucket low within further in_table;
          told = refl;
          skips =
              skips w (at_bucket w.raw bucket size) further refl behind
              (λ b above below. walk.left.none_told b above (omega arith) (takes.first b below));
        };
      }

  -- the walk once it has taken a bucket with its size out of those that are left, or none
  pub record Takes (w met : Walk V) (to : ℕ × ℕ) : Type 0 where
    pub rest : ℕ
    pub is : met ≡ record w { left = rest }
    pub takes : TakesFirst w.left to.0 rest
    pub size : to.1 ≡ 2 ^ to.0

  pub takes_none : (w met : Walk V) (to : ℕ × ℕ) (size : ℕ) → w.left ≡ 0 → met ≡ w → size ≡ 2 ^ 63 → to ≡ (63, size)
      → Takes w met to
  takes_none w met to size none is whole past =
      subst (Takes w met) (sym past) record { rest = w.left; is = is; takes = first_of_none w.left none; size = whole }

  pub takes_one : (w met : Walk V) (to first : ℕ × ℕ) (rest : ℕ) → IsLowestSet w.left first.0 → IsWordBut rest w.left first.0 false
      → first.1 ≡ 2 ^ first.0 → met ≡ record w { left = rest } → to ≡ first
      → Takes w met to
  takes_one w met to first rest lowest but whole is one =
      subst (Takes w met) (sym one)
      record { rest = rest; is = is; takes = first_of_some w.left first.0 rest lowest but; size = whole }

  pub moves_to : (w met : Walk V) (to : ℕ × ℕ) → Takes w met to → IsWalk w → w.rest ≡ 0 → w.raw.bucket < 63
      → lies_in w.own w.raw.bucket ≡ false → AllOf w.buckets.now.sharing (λ p. IsBehind w.raw p.id) w.told
      → MovesOn w (record met { raw = at_bucket met.raw to.0 to.1; row = None; chunks = 0 })
  moves_to w met to takes walk none low elsewhere behind =
      subst (λ (m : Walk V). MovesOn w (record m { raw = at_bucket m.raw to.0 to.1; row = None; chunks = 0 })) (sym takes.is)
      (moves_on w to.0 to.1 takes.rest walk none low elsewhere takes.size takes.takes behind)

  begins_shared : (raw : RawIter) (own : Option (Own V)) → raw ≡ record { yielded = 0; bucket = 0; bucket_size = 1; index = 0 }
      → IsSharedWalk raw own
  begins_shared raw own is =
      subst (λ (r : RawIter). IsSharedWalk r own) (sym is) record {
        in_table = omega arith;
        within = omega arith;
        complete = λ _. refl;
        size = refl;
        own_ahead = first_ahead own;
        yielded = omega arith;
      }
    where
      first_ahead : (own : Option (Own V)) → IfSome own (IsAhead record { yielded = 0; bucket = 0; bucket_size = 1; index = 0 })
      first_ahead None = tt
      first_ahead (Some own) = record { bucket = omega arith; index = λ _. omega arith }

  pub begins : (w : Walk V) → w.rest ≡ 0 → w.chunks ≡ 0 → w.row ≡ None
      → w.raw ≡ record { yielded = 0; bucket = 0; bucket_size = 1; index = 0 }
      → IfSome w.own (OwnIsTold w.buckets.now.sharing)
      → AreLeft w.buckets.now.sharing w.told w.own 0 w.left
      → IsWalk w
  begins w none unseen no_row is told left = record {
    walk = begins_shared w.raw w.own is;
    told = told;
    seen_to = (let first : w.raw.index ≡ 0 = ap (λ (r : RawIter). r.index) is in omega arith);
    row =
        subst (λ (r : Option (Row V)). IfSome r (IsRowOf w.buckets.now.sharing w.raw.bucket))
        (sym no_row) tt;
    at_hand = λ bit small set. never_set w.rest bit none set;
    kept = none_kept w w.own unseen;
    marked = unmarked w unseen;
    left =
        subst (λ (r : RawIter). AreLeft w.buckets.now.sharing w.told w.own r.bucket w.left)
        (sym is) left;
  }

  -- the word of a walk that begins has each announced bucket, and that of the own value
  pub record HasAll (own : Option (Own V)) (announced word : ℕ) : Type 0 where
    pub first : is_set word 0 ≡ true
    pub none_past : is_set word 63 ≡ false
    pub has_announced : (bucket : ℕ) → bucket < 63 → is_set word bucket ≡ false → is_set announced bucket ≡ false
    pub has_own : (bucket : ℕ) → bucket < 63 → is_set word bucket ≡ false → lies_in own bucket ≡ false

  pub has_own : (own : Own V) (announced word : ℕ) → is_set announced 0 ≡ true → is_set announced 63 ≡ false
      → IsWordBut word announced own.thread.bucket true
      → HasAll (Some own) announced word
  has_own own announced word first none_past but =
      let at : ℕ = own.thread.bucket in
      let low : at < 63 = own.thread.in_table in
      record {
        first = keeps_bit word announced at 0 but (omega arith) first;
        none_past =
            but 63 (omega arith) ∙ ap (λ (u : Bool). cond u true (is_set announced 63)) (ne_eqb at 63 (λ e. absurd (omega arith)))
            ∙ none_past;
        has_announced = λ bucket small unset.
            by_test (is_set announced bucket)
            (λ set. let never : true ≡ false = sym (keeps_bit word announced at bucket but (omega arith) set) ∙ unset in cc)
            (λ off. off);
        has_own = λ bucket small unset.
            by_test (eqb at bucket)
            (λ t.
            let here : is_set word at ≡ true = added_set word announced at but (omega arith) in
            let never : true ≡ false = sym here ∙ ap (λ (b : ℕ). is_set word b) (eqb-true at bucket t) ∙ unset in cc)
            (λ f. f);
      }

  pub has_announced : (announced : ℕ) → is_set announced 0 ≡ true → is_set announced 63 ≡ false → HasAll None announced announced
  has_announced announced first none_past =
      record { first = first; none_past = none_past; has_announced = λ bucket small unset. unset; has_own = λ bucket small unset. refl }

  -- the buckets that a walk begins with, by the word of those that are announced
  pub begins_left : (sharing : Option ℕ) (told : List (TokenView V)) (own : Option (Own V)) (announced word left first : ℕ)
      → HasAll own announced word → IsLowestSet word first → IsWordBut left word first false
      → ((bucket : ℕ) → bucket < 63 → is_set announced bucket ≡ false → NoneIn sharing bucket told)
      → AreLeft sharing told own 0 left
  begins_left sharing told own announced word left first all lowest without none =
      let is_zero : first ≡ 0 =
      ⊎_elim (λ e. e) (λ apart. let never : true ≡ false = sym all.first ∙ lowest.lower 0 (omega arith) in cc) (cases_eq first 0) in
      let but : IsWordBut left word 0 false = subst (λ (bit : ℕ). IsWordBut left word bit false) is_zero without in
      record {
        behind = λ bucket small set.
            ⊎_elim
            (λ (first : bucket ≡ 0).
            let cleared : is_set left 0 ≡ false = but 0 (omega arith) in
            let never : true ≡ false = sym set ∙ ap (λ (b : ℕ). is_set left b) first ∙ cleared in cc)
            (λ apart. omega arith)
            (cases_eq bucket 0);
        none_past = as_before left word 0 63 but (omega arith) (λ e. absurd (omega arith)) ∙ all.none_past;
        none_told = λ bucket some low unset. none bucket low (all.has_announced bucket low (unset_before word 0 left bucket but (omega arith) some unset));
        none_owed = λ bucket some low unset. all.has_own bucket low (unset_before word 0 left bucket but (omega arith) some unset);
      }
