-- The moves of the code keep the invariant of a walk, and do what the contract of `next` says.
use Rattle.std.proofs.Common.{◌≡◌, ℕ, suc, ◌^◌, ◌<◌, ◌≤◌, true, false, inl, inr, ⊎_elim, Option}
use Rattle.std.proofs.Common.{None, Some, IfSome, option_map, refl, ap, sym, ◌∙◌, subst, arith, pow_mono}
use Rattle.std.proofs.Math.Nat.{two-pow-succ}
use Rattle.std.proofs.lemmas.Bool.{eqb-true, eqb-false, cases_eq, cases_lt}
use Rattle.thread_local_base.specs.Place.{id_at}
use Rattle.thread_local_base.specs.Cursor.{Cursor, cursor_id, after_look, CursorFits}
use Rattle.thread_local_base.proofs.CursorLaws.{after_look-fits, bounded}
use Rattle.thread_local_buckets.specs.declared.cursor.RawIter.{RawIter}
use Rattle.thread_local_shared_buckets.specs.declared.steps.Own.{Own}
use Rattle.thread_local_shared_buckets.specs.WalkSteps.{SilentSteps}
use Rattle.thread_local_shared_buckets.specs.Walks.{Owed, YieldsOwn, Yields}
use Rattle.thread_local_ids.specs.TokenViews.{TokenView}
use Rattle.thread_local_shared_buckets.specs.Positions.{resting, past, next_id, at_bucket, owed, lies_in, OwnIsTold}
use Rattle.thread_local_shared_buckets.specs.Positions.{IsAhead, IsSharedWalk}
use Rattle.thread_local_shared_buckets.proofs.Findings.{Item, IsToldAt}
use Rattle.thread_local_shared_buckets.proofs.StepLaws.{looking_at, leads_then, leads_on}
use Rattle.thread_local_shared_buckets.proofs.MoveLaws.{resting-id, resting-fits, rests_behind, leads_in}

-- a place in a later bucket has a greater id
pub later_bucket : (a b i j : ℕ) → a < b → i < 2 ^ a → id_at a i < id_at b j
later_bucket a b i j later inside =
    let up : 2 ^ suc a ≤ 2 ^ b = pow_mono later in
    let twice = two-pow-succ a in
    omega arith

module _ {V : Type 0} where
  -- 1. Moving on to a later bucket.

  -- the own value stays ahead: it lies in none of the buckets that are passed
  pub own_after_buckets : (raw : RawIter) (own : Option (Own V)) (bucket size : ℕ) → IfSome own (IsAhead raw)
      → ((b : ℕ) → raw.bucket ≤ b → b < bucket → lies_in own b ≡ false)
      → IfSome own (IsAhead (at_bucket raw bucket size))
  own_after_buckets raw None bucket size ahead elsewhere = tt
  own_after_buckets raw (Some own) bucket size ahead elsewhere =
      let up = ahead.bucket in
      ⊎_elim
      (λ (passed : own.thread.bucket < bucket).
      absurd (eqb-false own.thread.bucket own.thread.bucket (elsewhere own.thread.bucket up passed) refl))
      (λ (further : bucket ≤ own.thread.bucket). record { bucket = further; index = λ _. omega arith })
      (cases_lt own.thread.bucket bucket)

  -- a walk is at a cursor that fits
  pub fits : (raw : RawIter) (own : Option (Own V)) → IsSharedWalk raw own → CursorFits (resting raw)
  fits raw own walk = resting-fits raw walk.in_table walk.within walk.complete

  -- 2. Giving a value at a slot of the bucket.

  -- the walk past the slot, and what the call did
  pub record Given (raw : RawIter) (own : Option (Own V)) (index : ℕ) (v : V) (left : Option (Own V)) : Type 0 where
    pub walk : IsSharedWalk (past raw index) left
    pub gives : Yields (resting raw) (option_map owed own) v (resting (past raw index)) (option_map owed left)

  given_at : (raw : RawIter) (own : Option (Own V)) (index : ℕ) (v : V) (left : Option (Own V))
      → IsSharedWalk raw own → raw.bucket < 63 → raw.index ≤ index → index < 2 ^ raw.bucket
      → IfSome left (IsAhead (past raw index))
      → YieldsOwn (option_map owed own) (id_at raw.bucket index) v (option_map owed left)
      → Given raw own index v left
  given_at raw own index v left walk low ahead inside own_ahead own_given =
      let met : Cursor = looking_at raw.bucket index in
      let leads : SilentSteps (resting raw) met = leads_in raw index low ahead inside in
      let on = leads_on (resting raw) met leads (fits raw own walk) in
      let found : after_look met true ≡ resting (past raw index) = rests_behind raw index in
      let to_fits : CursorFits (resting (past raw index)) = subst CursorFits found (after_look-fits met true on.fits refl) in
      let all = bounded (resting (past raw index)) to_fits in
      let few = walk.yielded in
      let at : cursor_id (resting (past raw index)) ≡ next_id (past raw index) = resting-id (past raw index) in
      record {
        walk = record {
          in_table = omega arith;
          within = omega arith;
          complete = λ last. absurd (omega arith);
          size = walk.size;
          own_ahead = own_ahead;
          yielded = omega arith;
        };
        gives = record {
          met = met;
          leads = leads;
          looks = refl;
          found = sym found;
          ahead = on.no_lower;
          in_range = omega arith;
          passed = omega arith;
          own_given = own_given;
        };
      }

  -- the slot lies before the own value, if that lies in the bucket
  abbrev pub IsBefore : RawIter → ℕ → Own V → Type 0
  IsBefore raw index own = own.thread.bucket ≡ raw.bucket → index < own.thread.index

  not_own : (raw : RawIter) (own : Option (Own V)) (index : ℕ) (v : V) → IfSome own (IsAhead raw)
      → IfSome own (IsBefore raw index) → index < 2 ^ raw.bucket
      → IfSome own (IsAhead (past raw index)) × YieldsOwn (option_map owed own) (id_at raw.bucket index) v (option_map owed own)
  not_own raw None index v ahead near inside = (tt, refl)
  not_own raw (Some own) index v ahead near inside =
      let both : IsAhead (past raw index) own × (id_at raw.bucket index < id_at own.thread.bucket own.thread.index) =
      ⊎_elim
      (λ (same : own.thread.bucket ≡ raw.bucket).
      let power : 2 ^ own.thread.bucket ≡ 2 ^ raw.bucket = ap (λ k. 2 ^ k) same in
      let below = near same in
      (record { bucket = ahead.bucket; index = λ _. omega arith }, omega arith))
      (λ apart.
      let low = ahead.bucket in (
        record { bucket = ahead.bucket; index = λ same. absurd (apart same) },
        later_bucket raw.bucket own.thread.bucket index own.thread.index (omega arith) inside,
      ))
      (cases_eq own.thread.bucket raw.bucket) in
      (both.0, inr (both.1, refl))

  -- a look found a value at this slot
  pub given_found : (raw : RawIter) (own : Option (Own V)) (index : ℕ) (v : V)
      → IsSharedWalk raw own → raw.bucket < 63 → raw.index ≤ index
      → IfSome own (IsBefore raw index) → index < 2 ^ raw.bucket
      → Given raw own index v own
  given_found raw own index v walk low ahead near inside =
      let before = not_own raw own index v walk.own_ahead near inside in
      given_at raw own index v own walk low ahead inside before.0 before.1

  -- the own value, which lies in the bucket, is given
  pub given_own : (raw : RawIter) (own : Own V) → IsSharedWalk raw (Some own) → raw.bucket < 63
      → lies_in (Some own) raw.bucket ≡ true
      → Given raw (Some own) own.thread.index own.value.now None
  given_own raw own walk low here =
      let same = eqb-true own.thread.bucket raw.bucket here in
      let power : 2 ^ own.thread.bucket ≡ 2 ^ raw.bucket = ap (λ k. 2 ^ k) same in
      let inside = own.thread.in_bucket in
      let id : id_at own.thread.bucket own.thread.index ≡ id_at raw.bucket own.thread.index = omega arith in
      given_at raw (Some own) own.thread.index own.value.now None walk low (walk.own_ahead.index same) (omega arith) tt
      (inl (ap (λ (n : ℕ). let o : Owed V = record { id = n; value = own.value.now } in o) id, refl))

  -- 3. A whole call.

  pub gives_later : (from met to : Cursor) (own left : Option (Owed V)) (v : V) → SilentSteps from met
      → CursorFits from → Yields met own v to left
      → Yields from own v to left
  gives_later from met to own left v leads fits gives =
      let up = (leads_on from met leads fits).no_lower in
      let ahead = gives.ahead in
      record {
        met = gives.met;
        leads = leads_then from met gives.met leads gives.leads;
        looks = gives.looks;
        found = gives.found;
        ahead = omega arith;
        in_range = gives.in_range;
        passed = gives.passed;
        own_given = gives.own_given;
      }

  -- 4. What the code gives.

  -- a walk gave no more values than there are ids
  pub few : (raw : RawIter) (own : Option (Own V)) → IsSharedWalk raw own → raw.yielded < 2 ^ 63
  few raw own walk =
      let all = bounded (resting raw) (fits raw own walk) in
      let at = resting-id raw in
      let low = walk.yielded in
      omega arith

  -- a call gave a value of the sharing of this name
  pub record Gave (name : Option ℕ) (raw : RawIter) (own : Option (Own V)) (x : Item V) (to : RawIter) (left : Option (Own V)) : Type 0 where
    pub walk : IsSharedWalk to left
    pub gives : Yields (resting raw) (option_map owed own) x.1.now (resting to) (option_map owed left)
    pub told : IsToldAt name to x

  -- the own value's token says of the id that was passed with it
  own_told_at : (name : Option ℕ) (raw to : RawIter) (own : Own V) (x : Item V)
      → OwnIsTold name own → lies_in (Some own) raw.bucket ≡ true
      → x.0 ≡ own.token → x.1.now ≡ own.value.now → to ≡ past raw own.thread.index
      → IsToldAt name to x
  own_told_at name raw to own x told here token value there =
      let same = eqb-true own.thread.bucket raw.bucket here in
      let power : 2 ^ own.thread.bucket ≡ 2 ^ raw.bucket = ap (λ k. 2 ^ k) same in
      let id : own.token.id ≡ id_at own.thread.bucket own.thread.index = told.id in
      let of : x.0.id ≡ own.token.id = ap (λ (w : TokenView V). w.id) token in
      let there_id = resting-id (past raw own.thread.index) in
      let at : cursor_id (resting (past raw own.thread.index)) ≡ suc x.0.id = omega arith in
      record {
        sharing = ap (λ (w : TokenView V). w.sharing) token ∙ told.sharing;
        id = ap (λ (r : RawIter). cursor_id (resting r)) there ∙ at;
        value = ap (λ (w : TokenView V). w.value) token ∙ told.value ∙ sym value;
      }

  pub gave_own : (name : Option ℕ) (raw : RawIter) (own : Own V) (x : Item V) → IsSharedWalk raw (Some own)
      → raw.bucket < 63 → OwnIsTold name own → lies_in (Some own) raw.bucket ≡ true
      → x.0 ≡ own.token → x.1.now ≡ own.value.now
      → Gave name raw (Some own) x (past raw own.thread.index) None
  gave_own name raw own x walk low told here token value =
      let given = given_own raw own walk low here in
      record {
        walk = given.walk;
        gives =
            subst (λ (v : V).
            Yields (resting raw) (option_map owed (Some own)) v
            (resting (past raw own.thread.index)) None)
            (sym value) given.gives;
        told = own_told_at name raw (past raw own.thread.index) own x told here token value refl;
      }
