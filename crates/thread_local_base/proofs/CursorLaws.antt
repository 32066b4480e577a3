-- The steps of a walk's cursor keep it well-formed and never lower its id.
use Rattle.std.proofs.Common.{◌≡◌, ℕ, suc, ◌-◌, ◌^◌, ◌<◌, ◌≤◌, Bool, true, false, cond, eqb, IsTrue, refl, ap, sym, ◌∙◌}
use Rattle.std.proofs.Common.{arith, pow_pos, pow_mono}
use Rattle.std.specs.Prelude.{nat_lt}
use Rattle.std.proofs.lemmas.Bool.{cond_both, eqb-true, eqb-false, ltb-true, ltb-false, false≢true}
use Rattle.std.proofs.Math.Nat.{two-pow-succ}
use Rattle.thread_local_base.specs.Place.{bucket_of, index_of, id_at}
use Rattle.thread_local_base.specs.Cursor.{Cursor, fresh_cursor, cursor_id, is_complete, may_load, at_next_bucket}
use Rattle.thread_local_base.specs.Cursor.{at_place, after_load, after_look, CursorFits}
use Rattle.thread_local_base.proofs.PlaceLaws.{place-id_at}

pub fresh_cursor-fits : CursorFits fresh_cursor
fresh_cursor-fits = record {
  in_table = omega arith;
  within = omega arith;
  looks_in_table = λ t. cc;
  looks_inside = λ t. cc;
  at_first = λ e. refl;
}

at_next_bucket-fits : (cursor : Cursor) → cursor.bucket < 63 → CursorFits (at_next_bucket cursor)
at_next_bucket-fits cursor low = record {
  in_table = low;
  within = omega arith;
  looks_in_table = λ t. cc;
  looks_inside = λ t. cc;
  at_first = λ e. refl;
}

at_place-fits : (cursor : Cursor) → cursor.bucket < 63 → cursor.index ≤ 2 ^ cursor.bucket → CursorFits (at_place cursor)
at_place-fits cursor low within =
    cond_both {A = Cursor} (eqb cursor.index (2 ^ cursor.bucket)) (at_next_bucket cursor) (record cursor { looks = true }) CursorFits
    (λ t. at_next_bucket-fits cursor low)
    (λ f.
    let apart = eqb-false cursor.index (2 ^ cursor.bucket) f in
    record {
      in_table = omega arith;
      within = within;
      looks_in_table = λ t. low;
      looks_inside = λ t. omega arith;
      at_first = λ e. cc;
    })

-- a walk that loads next is at one of the 63 buckets
pub loads_below : (cursor : Cursor) → IsTrue (may_load cursor) → cursor.bucket < 63
loads_below cursor = below cursor.looks
  where
    below : (looks : Bool) → IsTrue (cond looks false (nat_lt cursor.bucket 63)) → cursor.bucket < 63
    below true t = absurd (false≢true t)
    below false t = ltb-true cursor.bucket 63 t

pub after_load-fits : (cursor : Cursor) (stands : Bool) → CursorFits cursor
    → IsTrue (may_load cursor)
    → CursorFits (after_load cursor stands)
after_load-fits cursor true h t = at_place-fits cursor (loads_below cursor t) h.within
after_load-fits cursor false h t = at_next_bucket-fits cursor (loads_below cursor t)

pub after_look-fits : (cursor : Cursor) (published : Bool) → CursorFits cursor → IsTrue cursor.looks
    → CursorFits (after_look cursor published)
after_look-fits cursor published h t = at_place-fits (record cursor { index = suc cursor.index }) (h.looks_in_table t) (h.looks_inside t)

-- the end of a bucket is the beginning of the next
next_bucket-id : (bucket : ℕ) → id_at (suc bucket) 0 ≡ id_at bucket (2 ^ bucket)
next_bucket-id bucket = let twice = two-pow-succ bucket in let some = pow_pos bucket in omega arith

pub at_place-id : (cursor : Cursor) → cursor_id (at_place cursor) ≡ cursor_id cursor
at_place-id cursor =
    cond_both {A = Cursor} (eqb cursor.index (2 ^ cursor.bucket)) (at_next_bucket cursor)
    (record cursor { looks = true }) (λ after. cursor_id after ≡ cursor_id cursor)
    (λ t. next_bucket-id cursor.bucket ∙ ap (id_at cursor.bucket) (sym (eqb-true cursor.index (2 ^ cursor.bucket) t)))
    (λ f. refl)

pub never_lower : (cursor : Cursor) (stands : Bool) → CursorFits cursor → cursor_id cursor ≤ cursor_id (after_load cursor stands)
never_lower cursor true h = let same = at_place-id cursor in omega arith
never_lower cursor false h =
    let next = next_bucket-id cursor.bucket in
    let some = pow_pos cursor.bucket in
    let within = h.within in
    omega arith

pub after_look-id : (cursor : Cursor) (published : Bool) → cursor_id (after_look cursor published) ≡ suc (cursor_id cursor)
after_look-id cursor published = let same = at_place-id (record cursor { index = suc cursor.index }) in omega arith

pub place : (cursor : Cursor) → CursorFits cursor → IsTrue cursor.looks
    → (bucket_of (cursor_id cursor) ≡ cursor.bucket) × (index_of (cursor_id cursor) ≡ cursor.index)
place cursor h t = place-id_at cursor.bucket cursor.index (h.looks_inside t)

is_past : (within : Bool) → IsTrue (cond within false true) → within ≡ false
is_past true t = absurd (false≢true t)
is_past false t = refl

-- past the last bucket a walk doesn't look
looks_not : (cursor : Cursor) → CursorFits cursor → 63 ≤ cursor.bucket → cursor.looks ≡ false
looks_not cursor h past = unlooked cursor.looks h.looks_in_table
  where
    unlooked : (looks : Bool) → (IsTrue looks → cursor.bucket < 63) → looks ≡ false
    unlooked true low = let low' = low refl in absurd (omega arith)
    unlooked false low = refl

-- a well-formed cursor past the last bucket is at the first id past the last
last_id : (cursor : Cursor) → CursorFits cursor → nat_lt cursor.bucket 63 ≡ false → cursor_id cursor ≡ 2 ^ 63 - 1
last_id cursor h f =
    let past : 63 ≤ cursor.bucket = ltb-false cursor.bucket 63 f in
    let low = h.in_table in
    let last : cursor.bucket ≡ 63 = omega arith in
    let power : 2 ^ cursor.bucket ≡ 2 ^ 63 = ap (λ k. 2 ^ k) last in
    let first : cursor.index ≡ 0 = h.at_first (looks_not cursor h past) in
    omega arith

-- a complete walk is at the id after the last
pub complete_id : (cursor : Cursor) → CursorFits cursor → IsTrue (is_complete cursor) → cursor_id cursor ≡ 2 ^ 63 - 1
complete_id cursor h t = last_id cursor h (is_past (nat_lt cursor.bucket 63) t)

pub bounded : (cursor : Cursor) → CursorFits cursor → cursor_id cursor ≤ 2 ^ 63 - 1
bounded cursor h =
    cond_both {A = Bool} (nat_lt cursor.bucket 63) false true (λ _. cursor_id cursor ≤ 2 ^ 63 - 1)
    (λ t.
    let low = ltb-true cursor.bucket 63 t in
    let up : 2 ^ suc cursor.bucket ≤ 2 ^ 63 = pow_mono low in
    let twice = two-pow-succ cursor.bucket in
    let some = pow_pos cursor.bucket in
    let within = h.within in
    omega arith)
    (λ f. let last = last_id cursor h f in omega arith)
