-- A walk that was called until it gave nothing gave the value of each token of its list.
use Rattle.std.proofs.Common.{◌≡◌, ◌≢◌, ℕ, suc, ◌+◌, ◌<◌, ◌≤◌, Bool, cond, ltb, List, [], ◌∷◌, ◌++◌, map, Option, None, Some, IsSome, All}
use Rattle.std.proofs.Common.{refl, sym, ap, ◌∙◌, subst, arith, ⊎_elim}
use Rattle.std.specs.Prelude.{Contains, slice_index_or, sum_by}
use Rattle.std.specs.Iterator.{Yields}
use Rattle.std.specs.List.{AllPairs}
use Rattle.std.proofs.lemmas.Bool.{cases_lt}
use Rattle.std.proofs.lemmas.Bool.Decides.{nat_tests}
use Rattle.std.proofs.lemmas.List.Elements.{Contains-append_left, Contains-append_right, Contains-push, All-push, All-tail}
use Rattle.std.proofs.lemmas.List.Quantifiers.{all_pairs_push}
use Rattle.std.proofs.lemmas.List.Sums.{sum_by-cons}
use denote.Ref.{Bor}
use Rattle.thread_local_base.specs.Cursor.{cursor_id}
use Rattle.thread_local_ids.specs.TokenViews.{TokenView}
use Rattle.thread_local_ids.specs.TokenLists.{AllOf}
use Rattle.thread_local_shared_buckets.specs.Walks.{WalkView, Owed, GivesTold, IsNext, HasGiven, fresh_with}
use Rattle.thread_local_shared_buckets.proofs.ToldLaws.{moved}

suc_same : (i j n : ℕ) → n ≡ suc i → n ≡ suc j → i ≡ j
suc_same i j n at here = omega arith

module _ {V : Type 0} where
  -- what a call does about the tokens of a list that is the walk's
  meets : (sharing : Option ℕ) (told : List (TokenView V)) (s t : WalkView V) (x : Option (Bor V)) → s.sharing ≡ sharing → s.told ≡ told
      → IsNext s x t → AllOf sharing (GivesTold s.cursor x t.cursor) told
  meets sharing told s t x same is step = moved s.sharing sharing s.told told (GivesTold s.cursor x t.cursor) same is step.meets

  -- 1. The values of a walk without ids.

  abbrev values : List (Bor V) → List V
  values items = map (λ item. item.now) items

  comes_first : (x y : V) (xs : List V) → y ≡ x → Contains (x ∷ xs) y
  comes_first x y xs same = subst (λ (z : V). Contains (x ∷ xs) z) (sym same) (0, omega arith, refl)

  -- a token that was ahead is among what came until the end
  ahead_given : (sharing : Option ℕ) (told : List (TokenView V)) (items : List (Bor V)) (s t u : WalkView V) → s.sharing ≡ sharing
      → s.told ≡ told → Yields IsNext s items t → IsNext t None u
      → AllOf sharing (λ p. cursor_id s.cursor ≤ p.id → Contains (values items) p.value) told
  ahead_given sharing told [] s t u same is here over = λ named k d near own ahead.
      let last = subst (λ (w : WalkView V). IsNext w None u) (sym here) over in
      let behind = meets sharing told s u None same is last named k d near own in
      absurd (omega arith)
  ahead_given sharing told (x ∷ items) s t u same is run over = λ named k d near own ahead.
      let p : TokenView V = slice_index_or told k d in
      let j : WalkView V = run.0 in
      let step : IsNext s (Some x) j = run.1 in
      let met = meets sharing told s j (Some x) same is step named k d near own ahead in
      ⊎_elim
      (λ (here : p.id < cursor_id j.cursor). comes_first x.now p.value (values items) (met here).1)
      (λ (later : cursor_id j.cursor ≤ p.id).
      Contains-append_right (x.now ∷ []) (values items) p.value
      (ahead_given sharing told items j t u (step.sharing ∙ same) (step.told ∙ is) run.2 over named k d near own later))
      (cases_lt p.id (cursor_id j.cursor))

  pub values_given : (sharing : Option ℕ) (own : Option (Owed V)) (shown : Bool) (told : List (TokenView V)) (s t u : WalkView V)
      (items : List (Bor V)) (given : List V) → s ≡ fresh_with sharing own shown told → Yields IsNext s items t → IsNext t None u
      → given ≡ values items
      → AllOf sharing (λ p. Contains given p.value) told
  values_given sharing own shown told s t u items given is run over same = λ named k d near own.
      let first : cursor_id s.cursor ≡ 0 = ap (λ (w : WalkView V). cursor_id w.cursor) is in
      subst (λ (xs : List V). Contains xs (slice_index_or told k d).value) (sym same)
      (ahead_given sharing told items s t u (ap (λ (w : WalkView V). w.sharing) is) (ap (λ (w : WalkView V). w.told) is) run over
      named k d near own (omega arith))

  -- 2. The ids and values of a walk with ids or tokens.

  pub begins : (sharing : Option ℕ) (own : Option (Owed V)) (shown : Bool) (told : List (TokenView V)) (walk : WalkView V)
      (given : List (ℕ × V)) → walk ≡ fresh_with sharing own shown told → given ≡ []
      → HasGiven sharing told walk given
  begins sharing own shown told walk given is none =
      subst (λ (xs : List (ℕ × V)). HasGiven sharing told walk xs) (sym none)
      (subst (λ (w : WalkView V). HasGiven sharing told w []) (sym is)
      (record {
        sharing_of = refl;
        told_of = refl;
        passed = λ k d near. absurd (omega arith);
        ascending = λ i j d low near. absurd (omega arith);
        met = λ named k d near own low. absurd (omega arith);
      }))

  -- what was given so far, with one more entry
  one_more : (items : List (ℕ × V)) (id : ℕ) (value : V) (from to : ℕ) (p : TokenView V) → (p.id < from → Contains items (p.id, p.value))
      → (from ≤ p.id → p.id < to → (to ≡ suc p.id) × (p.value ≡ value)) → to ≡ suc id → p.id < to
      → Contains (items ++ (id, value) ∷ []) (p.id, p.value)
  one_more items id value from to p had meets at below =
      ⊎_elim
      (λ (before : p.id < from). Contains-append_left items ((id, value) ∷ []) (p.id, p.value) (had before))
      (λ (here : from ≤ p.id).
      let both = meets here below in
      let last : to ≡ suc p.id = both.0 in
      let same_id : id ≡ p.id = omega arith in
      let same : ◌≡◌ {A = ℕ × V} (id, value) (p.id, p.value) = λ j. (same_id j, sym both.1 j) in
      subst (λ (x : ℕ × V). Contains (items ++ (id, value) ∷ []) x) same (Contains-push items (id, value)))
      (cases_lt p.id from)

  pub goes : (sharing : Option ℕ) (told : List (TokenView V)) (walk left : WalkView V) (id : ℕ) (value : Bor V) (given more : List (ℕ × V))
      → IsNext walk (Some value) left → HasGiven sharing told walk given → cursor_id left.cursor ≡ suc id
      → more ≡ given ++ (id, value.now) ∷ []
      → HasGiven sharing told left more
  goes sharing told walk left id value given more step kept at is =
      let up : cursor_id walk.cursor ≤ id = omega (arith, step.gives.ahead, step.gives.passed, at) in
      let all = meets sharing told walk left (Some value) kept.sharing_of kept.told_of step in
      subst (λ (xs : List (ℕ × V)). HasGiven sharing told left xs) (sym is)
      (record {
        sharing_of = step.sharing ∙ kept.sharing_of;
        told_of = step.told ∙ kept.told_of;
        passed =
            All-push (λ x. x.0 < cursor_id left.cursor) given (id, value.now)
            (λ k d near. let low = kept.passed k d near in omega (arith, low, up, at)) (omega (arith, at));
        ascending =
            all_pairs_push (λ one other. one.0 < other.0) given (id, value.now) kept.ascending
            (λ k d near. let low = kept.passed k d near in omega (arith, low, up));
        met = λ named k d near own below.
            one_more given id value.now (cursor_id walk.cursor) (cursor_id left.cursor) (slice_index_or told k d)
            (kept.met named k d near own) (all named k d near own) at below;
      })

  pub ends : (sharing : Option ℕ) (told : List (TokenView V)) (walk left : WalkView V) (given : List (ℕ × V))
      → IsNext walk None left → HasGiven sharing told walk given
      → AllOf sharing (λ p. Contains given (p.id, p.value)) told
  ends sharing told walk left given step kept =
      λ named k d near own.
      kept.met named k d near own (meets sharing told walk left None kept.sharing_of kept.told_of step named k d near own)

-- 3. What is read of each value as a number, added up.
module _ {V : Type 0} (of : V → ℕ) where
  -- the sum over the tokens whose ids lie at or above one
  abbrev from_on : ℕ → List (TokenView V) → ℕ
  from_on c [] = 0
  from_on c (p ∷ tokens) = cond (ltb p.id c) 0 (of p.value) + from_on c tokens

  below : (c : ℕ) (p : TokenView V) → p.id < c → cond (ltb p.id c) 0 (of p.value) ≡ 0
  below c p low = grind (arith, nat_tests)

  above : (c : ℕ) (p : TokenView V) → c ≤ p.id → cond (ltb p.id c) 0 (of p.value) ≡ of p.value
  above c p high = grind (arith, nat_tests)

  all_below : (c : ℕ) (tokens : List (TokenView V)) → All (λ p. p.id < c) tokens → from_on c tokens ≡ 0
  all_below c [] all = refl
  all_below c (p ∷ tokens) all =
      let one = below c p (all 0 p (omega arith)) in
      let rest = all_below c tokens (All-tail (λ p. p.id < c) p tokens all) in
      omega arith

  from_first_on : (tokens : List (TokenView V)) → from_on 0 tokens ≡ sum_by (λ p. of p.value) tokens
  from_first_on [] = refl
  from_first_on (p ∷ tokens) =
      let one = above 0 p (omega arith) in
      let rest = from_first_on tokens in
      omega (arith, sum_by-cons (λ (p : TokenView V). of p.value) p tokens)

  -- between two ids lies none of these tokens' ids
  none_between : (c d : ℕ) (tokens : List (TokenView V)) → c ≤ d → All (λ p. c ≤ p.id → d ≤ p.id) tokens → from_on c tokens ≡ from_on d tokens
  none_between c d [] up all = refl
  none_between c d (p ∷ tokens) up all =
      let rest = none_between c d tokens up (All-tail (λ p. c ≤ p.id → d ≤ p.id) p tokens all) in
      ⊎_elim
      (λ (low : p.id < c). let one = below c p low in let other = below d p (omega arith) in omega arith)
      (λ (high : c ≤ p.id).
      let one = above c p high in
      let other = above d p (all 0 p (omega arith) high) in
      omega arith)
      (cases_lt p.id c)

  -- between two ids lies one of these tokens' ids at most, with this value
  one_between : (c d : ℕ) (v : ℕ) (tokens : List (TokenView V)) → c ≤ d → AllPairs (λ one other. one.id ≢ other.id) tokens
      → All (λ p. c ≤ p.id → p.id < d → (d ≡ suc p.id) × (of p.value ≡ v)) tokens
      → from_on c tokens ≤ v + from_on d tokens
  one_between c d v [] up apart all = omega arith
  one_between c d v (p ∷ tokens) up apart all =
      let Ends : TokenView V → Type 0 = λ q. c ≤ q.id → q.id < d → (d ≡ suc q.id) × (of q.value ≡ v) in
      let others = All-tail Ends p tokens all in
      let rest = one_between c d v tokens up (λ i j e low near. apart (suc i) (suc j) e (omega arith) (omega arith)) others in
      ⊎_elim
      (λ (low : p.id < c). let one = below c p low in omega arith)
      (λ (high : c ≤ p.id).
      let one = above c p high in
      ⊎_elim
      (λ (here : p.id < d).
      let is = all 0 p (omega arith) high here in
      let same = none_between c d tokens up (λ k e near ahead.
      ⊎_elim
      (λ (again : (slice_index_or tokens k e).id < d).
      absurd (apart 0 (suc k) e (omega arith) (omega arith) (suc_same p.id (slice_index_or tokens k e).id d is.0 (others k e near ahead again).0)))
      (λ (far : d ≤ (slice_index_or tokens k e).id). far)
      (cases_lt (slice_index_or tokens k e).id d)) in
      omega (arith, is.1))
      (λ (far : d ≤ p.id). let other = above d p far in omega arith)
      (cases_lt p.id d))
      (cases_lt p.id c)

  -- the sum of what came until the end is at least that over the tokens ahead
  pub sums : (sharing : Option ℕ) (told : List (TokenView V)) (items : List (Bor V)) (s t u : WalkView V) → s.sharing ≡ sharing → s.told ≡ told
      → IsSome sharing → All (λ p. p.sharing ≡ sharing) told → AllPairs (λ one other. one.id ≢ other.id) told
      → Yields IsNext s items t → IsNext t None u
      → from_on (cursor_id s.cursor) told ≤ sum_by (λ x. of x.now) items
  sums sharing told [] s t u same is named own apart here over =
      let last : IsNext s None u = subst (λ (w : WalkView V). IsNext w None u) (sym here) over in
      let behind = meets sharing told s u None same is last in
      let none = all_below (cursor_id s.cursor) told (λ k d near. behind named k d near (own k d near)) in
      omega (arith, none)
  sums sharing told (x ∷ items) s t u same is named own apart run over =
      let j : WalkView V = run.0 in
      let step : IsNext s (Some x) j = run.1 in
      let all = meets sharing told s j (Some x) same is step in
      let up : cursor_id s.cursor ≤ cursor_id j.cursor = omega (arith, step.gives.ahead, step.gives.passed) in
      let here = one_between (cursor_id s.cursor) (cursor_id j.cursor) (of x.now) told up apart (λ k d near high low.
      let met = all named k d near (own k d near) high low in (met.0, ap of met.1)) in
      let rest = sums sharing told items j t u (step.sharing ∙ same) (step.told ∙ is) named own apart run.2 over in
      omega (arith, here, rest, sum_by-cons (λ (y : Bor V). of y.now) x items)

  pub sum_given : (sharing : Option ℕ) (own : Option (Owed V)) (shown : Bool) (told : List (TokenView V)) (s t u : WalkView V)
      (items : List (Bor V)) → s ≡ fresh_with sharing own shown told → IsSome sharing → All (λ p. p.sharing ≡ sharing) told
      → AllPairs (λ one other. one.id ≢ other.id) told → Yields IsNext s items t → IsNext t None u
      → sum_by (λ p. of p.value) told ≤ sum_by (λ item. of item.now) items
  sum_given sharing own shown told s t u items is named alike apart run over =
      let all =
      sums sharing told items s t u (ap (λ (w : WalkView V). w.sharing) is) (ap (λ (w : WalkView V). w.told) is) named alike apart run over in
      let first : from_on (cursor_id s.cursor) told ≡ from_on 0 told = ap (λ (w : WalkView V). from_on (cursor_id w.cursor) told) is in
      omega (arith, all, first, from_first_on told)
