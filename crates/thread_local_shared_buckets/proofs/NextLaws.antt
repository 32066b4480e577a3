-- What `next` of a shared walk does, with ids, tokens or neither, by what the step under it does.
use Rattle.std.proofs.Common.{◌≡◌, ℕ, suc, ◌+◌, ◌-◌, ◌^◌, ◌<◌, ◌≤◌, Option, None, Some, option_map, sym, ◌∙◌, subst, arith}
use Rattle.std.proofs.Common.{inl, inr, refl, ⊎_elim}
use Rattle.std.specs.Iterator.{MakesProgress}
use denote.Ref.{Bor}
use denote.RattleType.{RattleType}
use Rattle.thread_local_base.specs.Cursor.{cursor_id}
use Rattle.thread_local_shared_buckets.specs.Walks.{WalkView, IsNext, IsNextWithId, CanGo, ids_left}

module _ {V : Type 0} where
  -- a call that gives an item leaves a walk that may go on, with fewer ids ahead
  pub progress_some : {A : Type 0} (R : RattleType) (inner walk left : WalkView V) (x : Bor V) (y : A) (found : Option (Bor V))
      (item : Option A) → inner ≡ walk → found ≡ Some x → item ≡ Some y → IsNext inner found left → CanGo R walk
      → MakesProgress (CanGo {V = V} R) ids_left walk item left
  progress_some {A} R inner walk left x y found item same is gives goes can =
      let there : IsNext walk found left = subst (λ (w : WalkView V). IsNext w found left) same goes in
      let step : IsNext walk (Some x) left = subst (λ (f : Option (Bor V)). IsNext walk f left) is there in
      let one = step.gives in
      let ahead : cursor_id walk.cursor ≤ cursor_id one.met = one.ahead in
      let in_range : cursor_id one.met < 2 ^ 63 - 1 = one.in_range in
      let passed : cursor_id left.cursor ≡ suc (cursor_id one.met) = one.passed in
      let on : CanGo R left = ⊎_elim (λ shown. inl (step.shown ∙ shown)) (λ shareable. inr shareable) can in
      subst (λ (i : Option A). MakesProgress (CanGo {V = V} R) ids_left walk i left) (sym gives) record {
        on = λ _. (on, tt, omega (arith, ahead, in_range, passed));
        keeps = on;
        rests = λ _. tt;
      }

  pub progress_none : {A : Type 0} (R : RattleType) (walk left : WalkView V) (item : Option A) → item ≡ None
      → MakesProgress (CanGo {V = V} R) ids_left walk item left
  progress_none {A} R walk left item gives =
      subst (λ (i : Option A). MakesProgress (CanGo {V = V} R) ids_left walk i left) (sym gives) record {
        on = λ _. tt;
        keeps = tt;
        rests = λ _. tt;
      }

  pub progress : {A : Type 0} (R : RattleType) (inner walk left : WalkView V) (item : Option (A × Bor V))
      → inner ≡ walk → IsNext inner (option_map (λ entry. entry.1) item) left → CanGo R walk
      → MakesProgress (CanGo {V = V} R) ids_left walk item left
  progress R inner walk left None same goes can = progress_none R walk left None refl
  progress R inner walk left (Some entry) same goes can =
      progress_some R inner walk left entry.1 entry (Some entry.1) (Some entry) same refl refl goes can

  -- a value with its id
  pub with_id : (inner walk left : WalkView V) (x : Bor V) (id : ℕ) (found : Option (Bor V)) (item : Option (ℕ × Bor V))
      → inner ≡ walk → found ≡ Some x → item ≡ Some (id, x) → IsNext inner found left → cursor_id left.cursor ≡ id + 1
      → IsNextWithId walk item left
  with_id inner walk left x id found item same is gives goes at =
      let there : IsNext walk found left = subst (λ (w : WalkView V). IsNext w found left) same goes in
      subst (λ (i : Option (ℕ × Bor V)). IsNextWithId walk i left) (sym gives) record {
        goes = subst (λ (f : Option (Bor V)). IsNext walk f left) is there;
        id = omega (arith, at);
      }

  pub without_id : (inner walk left : WalkView V) (found : Option (Bor V)) (item : Option (ℕ × Bor V))
      → inner ≡ walk → found ≡ None → item ≡ None → IsNext inner found left
      → IsNextWithId walk item left
  without_id inner walk left found item same is gives goes =
      let there : IsNext walk found left = subst (λ (w : WalkView V). IsNext w found left) same goes in
      subst (λ (i : Option (ℕ × Bor V)). IsNextWithId walk i left) (sym gives) record {
        goes = subst (λ (f : Option (Bor V)). IsNext walk f left) is there;
        id = tt;
      }
