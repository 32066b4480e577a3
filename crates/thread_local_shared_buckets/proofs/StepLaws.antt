-- The laws of steps that give nothing: they compose, keep the cursor fitting, and never go back.
use Rattle.std.proofs.Common.{◌≡◌, ℕ, zero, suc, ◌+◌, ◌-◌, ◌^◌, ◌<◌, ◌≤◌, Bool, true, false, cond, eqb, List, [], ◌∷◌}
use Rattle.std.proofs.Common.{◌++◌, IsTrue, refl, sym, subst, arith}
use Rattle.std.specs.Prelude.{MatchBool}
use Rattle.std.proofs.lemmas.Bool.{cond_both, eqb-true, eqb-false, lt-ltb}
use Rattle.thread_local_base.specs.Cursor.{Cursor, cursor_id, may_load, at_next_bucket, at_place, after_load, after_look, CursorFits}
use Rattle.thread_local_base.proofs.CursorLaws.{after_load-fits, after_look-fits, never_lower, after_look-id}
use Rattle.thread_local_shared_buckets.specs.WalkSteps.{after_step, GivesNothing, Passes, SilentSteps}

-- a cursor of a walk that loads the bucket's pointer next
abbrev pub loading_at : ℕ → ℕ → Cursor
loading_at bucket index = record { bucket = bucket; index = index; looks = false }

-- a cursor of a walk that looks at the slot next
abbrev pub looking_at : ℕ → ℕ → Cursor
looking_at bucket index = record { bucket = bucket; index = index; looks = true }

-- 1. Steps one after another.

passes_then : (from met to : Cursor) (xs ys : List Bool) → Passes from xs met → Passes met ys to → Passes from (xs ++ ys) to
passes_then from met to [] ys same after = subst (λ (c : Cursor). Passes c ys to) (sym same) after
passes_then from met to (x ∷ xs) ys first after = (first.0, passes_then (after_step from x) met to xs ys first.1 after)

pub leads_nowhere : (cursor : Cursor) → SilentSteps cursor cursor
leads_nowhere cursor = record { found = []; passes = refl }

pub leads_then : (from met to : Cursor) → SilentSteps from met → SilentSteps met to → SilentSteps from to
leads_then from met to first after = record {
  found = first.found ++ after.found;
  passes = passes_then from met to first.found after.found first.passes after.passes;
}

pub leads_step : (from : Cursor) (found : Bool) → GivesNothing from found → SilentSteps from (after_step from found)
leads_step from found nothing = record { found = found ∷ []; passes = (nothing, refl) }

-- 2. They keep the cursor fitting, and never go back.

-- where a cursor is after steps: it fits, and has passed no fewer ids
pub record Further (from to : Cursor) : Type 0 where
  pub fits : CursorFits to
  pub no_lower : cursor_id from ≤ cursor_id to

step_goes : (from : Cursor) (found looks : Bool) → from.looks ≡ looks
    → MatchBool looks (found ≡ false) (IsTrue (may_load from)) → CursorFits from
    → Further from (cond looks (after_look from found) (after_load from found))
step_goes from found true is none fits = record {
  fits = after_look-fits from found fits is;
  no_lower = (let up = after_look-id from found in omega arith);
}
step_goes from found false is loads fits = record { fits = after_load-fits from found fits loads; no_lower = never_lower from found fits }

passes_on : (from to : Cursor) (xs : List Bool) → Passes from xs to → CursorFits from → Further from to
passes_on from to [] same fits = subst (λ (c : Cursor). Further from c) same (record { fits = fits; no_lower = omega arith })
passes_on from to (x ∷ xs) p fits =
    let one : Further from (after_step from x) = step_goes from x from.looks refl p.0 fits in
    let all : Further (after_step from x) to = passes_on (after_step from x) to xs p.1 one.fits in
    record { fits = all.fits; no_lower = (let a = one.no_lower in let b = all.no_lower in omega arith) }

pub leads_on : (from to : Cursor) → SilentSteps from to → CursorFits from → Further from to
leads_on from to leads fits = passes_on from to leads.found leads.passes fits

-- 3. The steps in one bucket.

pub at_place-inside : (bucket index : ℕ) → index < 2 ^ bucket → at_place (loading_at bucket index) ≡ looking_at bucket index
at_place-inside bucket index inside =
    cond_both {A = Cursor} (eqb index (2 ^ bucket)) (at_next_bucket (loading_at bucket index))
    (looking_at bucket index) (λ c. c ≡ looking_at bucket index)
    (λ t. let last = eqb-true index (2 ^ bucket) t in absurd (omega arith))
    (λ f. refl)

at_place-end : (bucket index : ℕ) → index ≡ 2 ^ bucket → at_place (loading_at bucket index) ≡ loading_at (suc bucket) 0
at_place-end bucket index end =
    cond_both {A = Cursor} (eqb index (2 ^ bucket)) (loading_at (suc bucket) 0) (looking_at bucket index)
    (λ c. c ≡ loading_at (suc bucket) 0)
    (λ t. refl)
    (λ f. let apart = eqb-false index (2 ^ bucket) f in absurd (apart end))

may_load-in_table : (bucket index : ℕ) → bucket < 63 → IsTrue (may_load (loading_at bucket index))
may_load-in_table bucket index low = lt-ltb bucket 63 low

-- a load that finds no bucket passes it over
pub passes_bucket : (bucket index : ℕ) → bucket < 63 → SilentSteps (loading_at bucket index) (loading_at (bucket + 1) 0)
passes_bucket bucket index low =
    let next : suc bucket ≡ bucket + 1 = omega arith in
    subst (λ (b : ℕ). SilentSteps (loading_at bucket index) (loading_at b 0)) next
    (leads_step (loading_at bucket index) false (may_load-in_table bucket index low))

pub looks_past : (bucket from to n : ℕ) → from + n ≡ to → to < 2 ^ bucket → SilentSteps (looking_at bucket from) (looking_at bucket to)
looks_past bucket from to zero is inside =
    let same : from ≡ to = omega arith in
    subst (λ (k : ℕ). SilentSteps (looking_at bucket from) (looking_at bucket k)) same
    (leads_nowhere (looking_at bucket from))
looks_past bucket from to (suc n) is inside =
    let further : suc from < 2 ^ bucket = omega arith in
    let one : SilentSteps (looking_at bucket from) (at_place (loading_at bucket (suc from))) = leads_step (looking_at bucket from) false refl in
    leads_then (looking_at bucket from) (looking_at bucket (suc from)) (looking_at bucket to)
    (subst (λ (c : Cursor). SilentSteps (looking_at bucket from) c) (at_place-inside bucket (suc from) further) one)
    (looks_past bucket (suc from) to n (omega arith) inside)

-- looks that find nothing lead to the next bucket
pub looks_to_end : (bucket from : ℕ) → from < 2 ^ bucket → SilentSteps (looking_at bucket from) (loading_at (bucket + 1) 0)
looks_to_end bucket from inside =
    let last : ℕ = 2 ^ bucket - 1 in
    let end : suc last ≡ 2 ^ bucket = omega arith in
    let next : suc bucket ≡ bucket + 1 = omega arith in
    let n : ℕ = last - from in
    let one : SilentSteps (looking_at bucket last) (at_place (loading_at bucket (suc last))) = leads_step (looking_at bucket last) false refl in
    leads_then (looking_at bucket from) (looking_at bucket last) (loading_at (bucket + 1) 0)
    (looks_past bucket from last n (omega arith) (omega arith))
    (subst (λ (b : ℕ). SilentSteps (looking_at bucket last) (loading_at b 0)) next
    (subst (λ (c : Cursor). SilentSteps (looking_at bucket last) c) (at_place-end bucket (suc last) end) one))

-- a load that finds the bucket, and looks that find nothing, lead to a slot of it
pub leads_to_slot : (bucket from to : ℕ) → bucket < 63 → from ≤ to → to < 2 ^ bucket
    → SilentSteps (loading_at bucket from) (looking_at bucket to)
leads_to_slot bucket from to low ahead inside =
    let near : from < 2 ^ bucket = omega arith in
    let found : SilentSteps (loading_at bucket from) (at_place (loading_at bucket from)) =
    leads_step (loading_at bucket from) true (may_load-in_table bucket from low) in
    let in_bucket : SilentSteps (loading_at bucket from) (looking_at bucket from) =
    subst (λ (c : Cursor). SilentSteps (loading_at bucket from) c)
    (at_place-inside bucket from near) found in
    let n : ℕ = to - from in
    leads_then (loading_at bucket from) (looking_at bucket from) (looking_at bucket to) in_bucket
    (looks_past bucket from to n (omega arith) inside)
