-- Where a walk rests, as the model's cursor, and how it gets from there to a slot or a bucket.
use Rattle.std.proofs.Common.{◌≡◌, ℕ, zero, suc, ◌-◌, ◌+◌, ◌^◌, ◌<◌, ◌≤◌, Bool, true, false, cond, eqb, refl, ap, sym, ◌∙◌, subst, arith}
use Rattle.std.proofs.lemmas.Bool.{cond_both, eqb-true, eqb-false, ne_eqb, eq-eqb}
use Rattle.thread_local_base.specs.Cursor.{Cursor, cursor_id, at_place, after_look, CursorFits}
use Rattle.thread_local_base.proofs.CursorLaws.{after_look-fits, at_place-id}
use Rattle.thread_local_buckets.specs.declared.cursor.RawIter.{RawIter}
use Rattle.thread_local_shared_buckets.specs.Positions.{resting, loading, past, next_id}
use Rattle.thread_local_shared_buckets.specs.WalkSteps.{SilentSteps}
use Rattle.thread_local_shared_buckets.proofs.StepLaws.{loading_at, looking_at, at_place-inside, passes_bucket, leads_nowhere}
use Rattle.thread_local_shared_buckets.proofs.StepLaws.{leads_then, leads_to_slot, looks_past, looks_to_end}

-- 1. The cursor of a walk at rest.

-- it is one before a load, or behind a slot
rests : (raw : RawIter) (P : Cursor → Type 0) → (raw.index ≡ 0 → P (loading raw)) → (0 < raw.index → P (at_place (loading raw)))
    → P (resting raw)
rests raw P first behind =
    cond_both {A = Cursor} (eqb raw.index 0) (loading raw) (at_place (loading raw)) P
    (λ t. first (eqb-true raw.index 0 t))
    (λ f. let apart = eqb-false raw.index 0 f in behind (omega arith))

pub resting-id : (raw : RawIter) → cursor_id (resting raw) ≡ next_id raw
resting-id raw = rests raw (λ c. cursor_id c ≡ next_id raw) (λ _. refl) (λ _. at_place-id (loading raw))

pub resting-first : (raw : RawIter) → raw.index ≡ 0 → resting raw ≡ loading raw
resting-first raw first = ap (λ (u : Bool). cond u (loading raw) (at_place (loading raw))) (eq-eqb raw.index 0 first)

looking-fits : (bucket index : ℕ) → bucket < 63 → index < 2 ^ bucket → CursorFits (looking_at bucket index)
looking-fits bucket index low inside = record {
  in_table = omega arith;
  within = omega arith;
  looks_in_table = λ t. low;
  looks_inside = λ t. inside;
  at_first = λ e. cc;
}

place-fits : (bucket n : ℕ) → bucket < 63 → suc n ≤ 2 ^ bucket → CursorFits (at_place (loading_at bucket (suc n)))
place-fits bucket n low inside = after_look-fits (looking_at bucket n) true (looking-fits bucket n low inside) refl

behind-fits : (bucket index : ℕ) → bucket < 63 → 0 < index → index ≤ 2 ^ bucket → CursorFits (at_place (loading_at bucket index))
behind-fits bucket index low some inside =
    let before : suc (index - 1) ≡ index = omega arith in
    subst (λ (i : ℕ). CursorFits (at_place (loading_at bucket i))) before (place-fits bucket (index - 1) low (omega arith))

pub resting-fits : (raw : RawIter) → raw.bucket ≤ 63 → raw.index ≤ 2 ^ raw.bucket → (raw.bucket ≡ 63 → raw.index ≡ 0) → CursorFits (resting raw)
resting-fits raw low within complete =
    rests raw CursorFits
    (λ first. record {
      in_table = low;
      within = within;
      looks_in_table = λ t. cc;
      looks_inside = λ t. cc;
      at_first = λ _. first;
    })
    (λ some. behind-fits raw.bucket raw.index (below raw.bucket raw.index low some complete) some within)
  where
    below : (bucket index : ℕ) → bucket ≤ 63 → 0 < index → (bucket ≡ 63 → index ≡ 0) → bucket < 63
    below bucket index low some complete =
        cond_both {A = Bool} (eqb bucket 63) true false (λ _. bucket < 63)
        (λ t. let none = complete (eqb-true bucket 63 t) in absurd (omega arith))
        (λ f. let apart = eqb-false bucket 63 f in omega arith)

-- behind a slot whose value it gave, the walk is where the look there led
pub rests_behind : (raw : RawIter) (index : ℕ) → after_look (looking_at raw.bucket index) true ≡ resting (past raw index)
rests_behind raw index =
    let next : suc index ≡ index + 1 = omega arith in
    let apart : eqb (index + 1) 0 ≡ false = ne_eqb (index + 1) 0 (λ e. absurd (omega arith)) in
    ap (λ (i : ℕ). at_place (loading_at raw.bucket i)) next
    ∙ sym (ap (λ (u : Bool). cond u (loading (past raw index)) (at_place (loading (past raw index)))) apart)

-- 2. Steps that give nothing lead from there to a slot or a bucket.

pub leads_in : (raw : RawIter) (index : ℕ) → raw.bucket < 63 → raw.index ≤ index → index < 2 ^ raw.bucket
    → SilentSteps (resting raw) (looking_at raw.bucket index)
leads_in raw index low ahead inside =
    let n : ℕ = index - raw.index in
    rests raw (λ c. SilentSteps c (looking_at raw.bucket index))
    (λ _. leads_to_slot raw.bucket raw.index index low ahead inside)
    (λ _.
    subst (λ (c : Cursor). SilentSteps c (looking_at raw.bucket index)) (sym (at_place-inside raw.bucket raw.index (omega arith)))
    (looks_past raw.bucket raw.index index n (omega arith) inside))

-- to the bucket behind its own
leads_out : (raw : RawIter) → raw.bucket < 63 → raw.index ≤ 2 ^ raw.bucket → SilentSteps (resting raw) (loading_at (raw.bucket + 1) 0)
leads_out raw low within =
    let next : suc raw.bucket ≡ raw.bucket + 1 = omega arith in
    rests raw (λ c. SilentSteps c (loading_at (raw.bucket + 1) 0))
    (λ _. passes_bucket raw.bucket raw.index low)
    (λ _.
    cond_both {A = Cursor} (eqb raw.index (2 ^ raw.bucket)) (loading_at (suc raw.bucket) 0) (looking_at raw.bucket raw.index)
    (λ c. SilentSteps c (loading_at (raw.bucket + 1) 0))
    (λ t.
    subst (λ (b : ℕ). SilentSteps (loading_at (suc raw.bucket) 0) (loading_at b 0)) next (leads_nowhere (loading_at (suc raw.bucket) 0)))
    (λ f. let apart = eqb-false raw.index (2 ^ raw.bucket) f in looks_to_end raw.bucket raw.index (omega arith)))

-- a walk at the first slot of a bucket passes buckets up to another one
passes_buckets : (bucket n : ℕ) → bucket + n ≤ 63 → SilentSteps (loading_at bucket 0) (loading_at (bucket + n) 0)
passes_buckets bucket zero near =
    let same : bucket ≡ bucket + 0 = omega arith in
    subst (λ (b : ℕ). SilentSteps (loading_at bucket 0) (loading_at b 0)) same (leads_nowhere (loading_at bucket 0))
passes_buckets bucket (suc n) near =
    let next : bucket + n + 1 ≡ bucket + suc n = omega arith in
    leads_then (loading_at bucket 0) (loading_at (bucket + n) 0) (loading_at (bucket + suc n) 0)
    (passes_buckets bucket n (omega arith))
    (subst (λ (b : ℕ). SilentSteps (loading_at (bucket + n) 0) (loading_at b 0)) next (passes_bucket (bucket + n) 0 (omega arith)))

-- to any later bucket
pub leads_further : (raw : RawIter) (bucket : ℕ) → raw.bucket < 63 → raw.index ≤ 2 ^ raw.bucket → raw.bucket < bucket → bucket ≤ 63
    → SilentSteps (resting raw) (loading_at bucket 0)
leads_further raw bucket low within further near =
    let first : ℕ = raw.bucket + 1 in
    let n : ℕ = bucket - first in
    let there : first + n ≡ bucket = omega arith in
    leads_then (resting raw) (loading_at first 0) (loading_at bucket 0) (leads_out raw low within)
    (subst (λ (b : ℕ). SilentSteps (loading_at first 0) (loading_at b 0)) there (passes_buckets first n (omega arith)))
