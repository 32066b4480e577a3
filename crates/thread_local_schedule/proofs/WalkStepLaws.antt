-- Every step of a shared walk keeps its invariant.
use Rattle.std.proofs.Common.{◌≡◌, ℕ, suc, ◌+◌, ◌-◌, ◌^◌, ◌<◌, ◌≤◌, Bool, true, false, not, ◌&&◌, cond, eqb, List, [], ◌∷◌, ◌++◌}
use Rattle.std.proofs.Common.{map, Option, Some, None, is_some, IsTrue, IfSome, refl, ap, sym, ◌∙◌, subst}
use Rattle.std.proofs.Common.{arith, ⊎_elim, pow_pos}
use Rattle.std.specs.Prelude.{nat_lt}
use Rattle.std.proofs.lemmas.Bool.{cond_both, cases_lt, and_parts, not-true, ltb-false, false_from_ne_true, false≢true}
use Rattle.std.proofs.lemmas.List.{map-append}
use Rattle.std.proofs.lemmas.List.Elements.{Contains-append_left, Contains-append_right, Contains-append_cases}
use Rattle.std.proofs.Math.Nat.{two-pow-succ}
use Rattle.thread_local_base.specs.Place.{bucket_of, id_at}
use Rattle.thread_local_base.specs.Walk.{IsAscendingBelow}
use Rattle.thread_local_base.specs.Cursor.{Cursor, cursor_id, is_complete, may_load, at_next_bucket, at_place, after_load, after_look}
use Rattle.thread_local_base.proofs.PlaceLaws as place
use Rattle.thread_local_base.proofs.CursorLaws as cursors
use Rattle.thread_local_base.proofs.WalkLaws.{ascends-push, Contains-one}
use Rattle.thread_local_schedule.proofs.TableLaws.{published_stands}
use Rattle.thread_local_schedule.specs.Table.{Table, slot_of, slot_at, value_of, published, bucket_stands}
use Rattle.thread_local_schedule.specs.SharedWalk.{SharedWalk, begun_walk, walk_pass, walk_load, shown_at, with_pair, walk_look}
use Rattle.thread_local_schedule.specs.SharedWalk.{WalkStep, Pass, Load, Look, at_announced, walk_step, buckets_among}
use Rattle.thread_local_schedule.specs.Fits.{AllAnnounced}
use Rattle.thread_local_schedule.specs.WalkFits.{RecordFits, WalkFits, Passes, Loads, Looks, Adds}

-- a bound on ascending ids may grow
ascends_within : (ids : List ℕ) (m n : ℕ) → m ≤ n → IsAscendingBelow ids m → IsAscendingBelow ids n
ascends_within ids m n h a = record { increasing = a.increasing; below = λ k l. omega (arith, a.below k l) }

-- a record still fits where published values stay
record_carried : {V : Type 0} (old new : Table V) (first : ℕ → Option V) (given : List (ℕ × V)) (read : List ℕ) (n : ℕ)
    → ((id : ℕ) (v : V) → published old id ≡ Some v → published new id ≡ Some v)
    → RecordFits old first given read n → RecordFits new first given read n
record_carried old new first given read n grows h = record {
  first_stays = λ id v e. grows id v (h.first_stays id v e);
  given_stays = λ id v e. grows id v (h.given_stays id v e);
  given_ascend = h.given_ascend;
  read_ascend = h.read_ascend;
  passed = h.passed;
}

pub walk_carried : {V : Type 0} (old new : Table V) (walk : SharedWalk V)
    → ((id : ℕ) (v : V) → published old id ≡ Some v → published new id ≡ Some v)
    → WalkFits old walk → WalkFits new walk
walk_carried old new walk grows h = record {
  fits = record_carried old new walk.first walk.given walk.read (cursor_id walk.cursor) grows h.fits;
  cursor = h.cursor;
  seen_announced = h.seen_announced;
  looks_announced = h.looks_announced;
  loads = h.loads;
}

-- a cursor may pass ids at which nothing was seen at first
passes : {V : Type 0} (table : Table V) (first : ℕ → Option V) (given : List (ℕ × V)) (read : List ℕ) (m n : ℕ) → m ≤ n
    → ((id : ℕ) (v : V) → m ≤ id → id < n → first id ≡ Some v → ⊥)
    → RecordFits table first given read m → RecordFits table first given read n
passes table first given read m n h none r = record {
  first_stays = r.first_stays;
  given_stays = r.given_stays;
  given_ascend = ascends_within (map (λ pair. pair.0) given) m n h r.given_ascend;
  read_ascend = ascends_within read m n h r.read_ascend;
  passed = λ id v e l.
      ⊎_elim
      (λ below. r.passed id v e below)
      (λ above. absurd (none id v above l e))
      (cases_lt id m);
}

-- a slot is read: one that shows nothing, and one that shows a value, which is given
reads : {V : Type 0} (table : Table V) (first : ℕ → Option V) (given : List (ℕ × V)) (read : List ℕ)
    (n : ℕ)
    → published table n ≡ None
    → RecordFits table first given read n → RecordFits table first given (read ++ n ∷ []) (suc n)
reads table first given read n none r =
    let on = passes table first given read n (suc n) (omega arith)
    (λ id v low high e.
    let same : id ≡ n = omega arith in
    let stays = r.first_stays id v e in
    absurd (let f = ap (published table) same in cc)) r in
    record {
      first_stays = r.first_stays;
      given_stays = r.given_stays;
      given_ascend = on.given_ascend;
      read_ascend = ascends-push read n r.read_ascend;
      passed = on.passed;
    }

gives : {V : Type 0} (table : Table V) (first : ℕ → Option V) (given : List (ℕ × V)) (read : List ℕ)
    (n : ℕ) (v : V)
    → published table n ≡ Some v
    → RecordFits table first given read n → RecordFits table first (given ++ (n, v) ∷ []) (read ++ n ∷ []) (suc n)
gives table first given read n v some r = record {
  first_stays = r.first_stays;
  given_stays = λ id w e.
      ⊎_elim
      (λ before. r.given_stays id w before)
      (λ last.
      let same = Contains-one (n, v) (id, w) last in
      ap (λ pair. published table pair.0) (sym same) ∙ some ∙ ap (λ pair. Some pair.1) same)
      (Contains-append_cases given ((n, v) ∷ []) (id, w) e);
  given_ascend =
      rw (map-append (λ (pair : ℕ × _). pair.0) given ((n, v) ∷ []))
      (ascends-push (map (λ pair. pair.0) given) n r.given_ascend);
  read_ascend = ascends-push read n r.read_ascend;
  passed = λ id w e l.
      ⊎_elim
      (λ below. Contains-append_left given ((n, v) ∷ []) (id, w) (r.passed id w e below))
      (λ above.
      let same : n ≡ id = omega arith in
      let value : Some v ≡ Some w = sym some ∙ ap (published table) same ∙ r.first_stays id w e in
      Contains-append_right given ((n, v) ∷ []) (id, w) (0, omega arith, let here : v ≡ w = cc in cc))
      (cases_lt id n);
}

-- A walk has loaded the pointers of the announced buckets that it passed, and of the one in which it
-- looks. At a place of a bucket whose pointer it has loaded, that count fits.
abbrev loaded : (ℕ → Bool) → Cursor → ℕ
loaded announced cursor = buckets_among announced cursor.bucket + cond cursor.looks 1 0

one_more : (announced : ℕ → Bool) (bucket : ℕ) → IsTrue (announced bucket)
    → buckets_among announced (suc bucket) ≡ suc (buckets_among announced bucket)
unfolding buckets_among
one_more announced bucket t = rw t (omega arith)

none_more : (announced : ℕ → Bool) (bucket : ℕ) → announced bucket ≡ false
    → buckets_among announced (suc bucket) ≡ buckets_among announced bucket
unfolding buckets_among
none_more announced bucket f = rw f (omega arith)

placed : (announced : ℕ → Bool) (cursor : Cursor) → IsTrue (announced cursor.bucket)
    → loaded announced (at_place cursor) ≡ suc (buckets_among announced cursor.bucket)
placed announced cursor t =
    cond_both {A = Cursor} (eqb cursor.index (2 ^ cursor.bucket)) (at_next_bucket cursor)
    (record cursor { looks = true })
    (λ after. loaded announced after ≡ suc (buckets_among announced cursor.bucket))
    (λ _. omega (arith, one_more announced cursor.bucket t))
    (λ _. omega arith)

load_counts : (announced : ℕ → Bool) (cursor : Cursor) (bucket_stands : Bool) → IsTrue (announced cursor.bucket)
    → loaded announced (after_load cursor bucket_stands) ≡ suc (buckets_among announced cursor.bucket)
load_counts announced cursor true t = placed announced cursor t
load_counts announced cursor false t = omega (arith, one_more announced cursor.bucket t)

-- where it looks next, it is in the bucket that it has just loaded
placed_announced : (announced : ℕ → Bool) (cursor : Cursor) → IsTrue (announced cursor.bucket)
    → IsTrue (at_place cursor).looks → IsTrue (announced (at_place cursor).bucket)
placed_announced announced cursor t =
    cond_both {A = Cursor} (eqb cursor.index (2 ^ cursor.bucket)) (at_next_bucket cursor)
    (record cursor { looks = true })
    (λ after. IsTrue after.looks → IsTrue (announced after.bucket))
    (λ _ f. absurd (false≢true f))
    (λ _ _. t)

load_announced : (announced : ℕ → Bool) (cursor : Cursor) (bucket_stands : Bool) → IsTrue (announced cursor.bucket)
    → IsTrue (after_load cursor bucket_stands).looks → IsTrue (announced (after_load cursor bucket_stands).bucket)
load_announced announced cursor true t = placed_announced announced cursor t
load_announced announced cursor false t = λ f. absurd (false≢true f)

-- what was seen at first in a bucket lies at its ids
none_within : {V : Type 0} (first : ℕ → Option V) (bucket index id : ℕ) (v : V) → (bucket_of id ≡ bucket → first id ≡ Some v → ⊥)
    → index ≤ 2 ^ bucket → id_at bucket index ≤ id → id < id_at (suc bucket) 0 → first id ≡ Some v → ⊥
none_within first bucket index id v none i low high e =
    let some = pow_pos bucket in
    let twice = two-pow-succ bucket in
    let at : bucket ≡ bucket_of id = (place.only_place id bucket (id + 1 - 2 ^ bucket) (omega arith) (omega arith)).0 in
    none (sym at) e

-- a walk goes on to the next bucket where nothing was seen at first in this one
next_passes : {V : Type 0} (table : Table V) (first : ℕ → Option V) (given : List (ℕ × V))
    (read : List ℕ) (cursor : Cursor)
    → ((id : ℕ) (v : V) → bucket_of id ≡ cursor.bucket → first id ≡ Some v → ⊥)
    → cursor.index ≤ 2 ^ cursor.bucket → RecordFits table first given read (cursor_id cursor)
    → RecordFits table first given read (cursor_id (after_load cursor false))
next_passes table first given read cursor none i r =
    let some = pow_pos cursor.bucket in
    let twice = two-pow-succ cursor.bucket in
    passes table first given read (cursor_id cursor) (id_at (suc cursor.bucket) 0) (omega arith)
    (λ id v. none_within first cursor.bucket cursor.index id v (none id v) i) r

-- no value is published in a bucket that doesn't stand
none_missing : {V : Type 0} (table : Table V) (bucket id : ℕ) (v : V) → bucket_stands table bucket ≡ false
    → bucket_of id ≡ bucket → published table id ≡ Some v → ⊥
none_missing table bucket id v none at e =
    false≢true (sym none ∙ ap (bucket_stands table) (sym at) ∙ published_stands table id v e)

-- a load passes no id at which a value was seen at first
load_passes : {V : Type 0} (table : Table V) (first : ℕ → Option V) (given : List (ℕ × V))
    (read : List ℕ) (cursor : Cursor) (stands : Bool)
    → bucket_stands table cursor.bucket ≡ stands
    → cursor.index ≤ 2 ^ cursor.bucket → RecordFits table first given read (cursor_id cursor)
    → RecordFits table first given read (cursor_id (after_load cursor stands))
load_passes table first given read cursor true e i r = subst (RecordFits table first given read) (sym (cursors.at_place-id cursor)) r
load_passes table first given read cursor false e i r =
    next_passes table first given read cursor (λ id v at seen. none_missing table cursor.bucket id v e at (r.first_stays id v seen)) i r

-- a walk that loads or passes next doesn't look next
not_looking : (cursor : Cursor) → IsTrue (may_load cursor) → cursor.looks ≡ false
not_looking cursor = by_looks cursor.looks
  where
    by_looks : (looks : Bool) → IsTrue (cond looks false (nat_lt cursor.bucket 63)) → looks ≡ false
    by_looks true t = absurd (false≢true t)
    by_looks false t = refl

walk_pass-fits : {V : Type 0} (table : Table V) (walk : SharedWalk V)
    → IsTrue (may_load walk.cursor) → at_announced walk ≡ false → WalkFits table walk
    → WalkFits table (walk_pass walk)
walk_pass-fits table walk t none h =
    let l : walk.loads ≡ buckets_among walk.announced walk.cursor.bucket + 0 = rw (not_looking walk.cursor t) at h.loads in
    record {
      fits =
          next_passes table walk.first walk.given walk.read walk.cursor
          (λ id v at seen. false≢true (sym none ∙ ap walk.announced (sym at) ∙ h.seen_announced id v seen))
          h.cursor.within h.fits;
      cursor = cursors.after_load-fits walk.cursor false h.cursor t;
      seen_announced = h.seen_announced;
      looks_announced = λ f. absurd (false≢true f);
      loads = omega (arith, none_more walk.announced walk.cursor.bucket none);
    }

walk_load-fits : {V : Type 0} (table : Table V) (walk : SharedWalk V)
    → IsTrue (may_load walk.cursor) → IsTrue (at_announced walk) → WalkFits table walk
    → WalkFits table (walk_load table walk)
walk_load-fits table walk t some h =
    let l : walk.loads ≡ buckets_among walk.announced walk.cursor.bucket + 0 = rw (not_looking walk.cursor t) at h.loads in
    let stands = bucket_stands table walk.cursor.bucket in
    record {
      fits = load_passes table walk.first walk.given walk.read walk.cursor stands refl h.cursor.within h.fits;
      cursor = cursors.after_load-fits walk.cursor stands h.cursor t;
      seen_announced = h.seen_announced;
      looks_announced = load_announced walk.announced walk.cursor stands some;
      loads = omega (arith, load_counts walk.announced walk.cursor stands some);
    }

-- the slot at a place shows what is published at its id
pub shown_at_place : {V : Type 0} (table : Table V) (bucket index : ℕ) → index < 2 ^ bucket
    → published table (id_at bucket index) ≡ value_of (slot_of (table.pointers bucket) index)
unfolding published slot_at
shown_at_place table bucket index h = let at = place.place-id_at bucket index h in rw (at.0, at.1) refl

-- a look reads a slot and gives what it shows
look_reads : {V : Type 0} (table : Table V) (first : ℕ → Option V) (given : List (ℕ × V))
    (read : List ℕ) (id : ℕ) (shown : Option V)
    → published table id ≡ shown
    → RecordFits table first given read id → RecordFits table first (with_pair given id shown) (read ++ id ∷ []) (suc id)
look_reads table first given read id None e r = reads table first given read id e r
look_reads table first given read id (Some v) e r = gives table first given read id v e r

walk_look-fits : {V : Type 0} (table : Table V) (walk : SharedWalk V) → IsTrue walk.cursor.looks
    → WalkFits table walk
    → WalkFits table (walk_look table walk)
walk_look-fits table walk t h =
    let shown = shown_at table walk.cursor in
    let onward = record walk.cursor { index = suc walk.cursor.index } in
    let here = h.looks_announced t in
    let l : walk.loads ≡ buckets_among walk.announced walk.cursor.bucket + 1 = rw t at h.loads in
    record {
      fits =
          subst (RecordFits table walk.first (with_pair walk.given (cursor_id walk.cursor) shown)
          (walk.read ++ cursor_id walk.cursor ∷ []))
          (sym (cursors.after_look-id walk.cursor (is_some shown)))
          (look_reads table walk.first walk.given walk.read (cursor_id walk.cursor) shown
          (shown_at_place table walk.cursor.bucket walk.cursor.index (h.cursor.looks_inside t))
          h.fits);
      cursor = cursors.after_look-fits walk.cursor (is_some shown) h.cursor t;
      seen_announced = h.seen_announced;
      looks_announced = placed_announced walk.announced onward here;
      loads = omega (arith, placed walk.announced onward here);
    }

-- every enabled step of a walk leaves it fitting
pub walk_step-fits : {V : Type 0} (table : Table V) (walk : SharedWalk V) (step : WalkStep)
    → WalkFits table walk
    → IfSome (walk_step table walk step) (WalkFits table)
unfolding walk_step
walk_step-fits table walk Pass h =
    cond_both {A = Option (SharedWalk _)} (may_load walk.cursor && not (at_announced walk)) (Some (walk_pass walk)) None
    (λ o. IfSome o (WalkFits table))
    (λ t.
    let both = and_parts (may_load walk.cursor) (not (at_announced walk)) t in
    walk_pass-fits table walk both.0 (not-true (at_announced walk) both.1) h)
    (λ _. tt)
walk_step-fits table walk Load h =
    cond_both {A = Option (SharedWalk _)} (may_load walk.cursor && at_announced walk) (Some (walk_load table walk)) None
    (λ o. IfSome o (WalkFits table))
    (λ t. let both = and_parts (may_load walk.cursor) (at_announced walk) t in walk_load-fits table walk both.0 both.1 h)
    (λ _. tt)
walk_step-fits table walk Look h =
    cond_both {A = Option (SharedWalk _)} walk.cursor.looks (Some (walk_look table walk)) None (λ o. IfSome o (WalkFits table))
    (λ t. walk_look-fits table walk t h)
    (λ _. tt)

-- a walk that begins, where each bucket that stands is announced
pub begun_walk-fits : {V : Type 0} (table : Table V) → AllAnnounced table → WalkFits table (begun_walk table)
unfolding buckets_among
begun_walk-fits table announced = record {
  fits = record {
    first_stays = λ id v e. e;
    given_stays = λ id v e. absurd (omega (arith, e.1));
    given_ascend = record { increasing = λ k l. absurd (omega arith); below = λ k l. absurd (omega arith) };
    read_ascend = record { increasing = λ k l. absurd (omega arith); below = λ k l. absurd (omega arith) };
    passed = λ id v e l. absurd (omega arith);
  };
  cursor = cursors.fresh_cursor-fits;
  seen_announced = announced;
  looks_announced = λ f. absurd (false≢true f);
  loads = refl;
}

-- what each step adds to the record
pub walk_step-adds : {V : Type 0} (table : Table V) (walk : SharedWalk V) (step : WalkStep)
    → WalkFits table walk
    → IfSome (walk_step table walk step) (Adds table step walk)
unfolding walk_step
walk_step-adds table walk Pass h =
    cond_both {A = Option (SharedWalk _)} (may_load walk.cursor && not (at_announced walk)) (Some (walk_pass walk)) None
    (λ o. IfSome o (Passes walk))
    (λ _. record { keeps = record { announced = refl; first = refl }; given = refl; read = refl; loads = refl; cursor = refl })
    (λ _. tt)
walk_step-adds table walk Load h =
    cond_both {A = Option (SharedWalk _)} (may_load walk.cursor && at_announced walk) (Some (walk_load table walk)) None
    (λ o. IfSome o (Loads table walk))
    (λ _. record { keeps = record { announced = refl; first = refl }; given = refl; read = refl; loads = refl; cursor = refl })
    (λ _. tt)
walk_step-adds table walk Look h =
    cond_both {A = Option (SharedWalk _)} walk.cursor.looks (Some (walk_look table walk)) None (λ o. IfSome o (Looks table walk))
    (λ t. record {
      keeps = record { announced = refl; first = refl };
      given =
          ap (with_pair walk.given (cursor_id walk.cursor))
          (sym
          (shown_at_place table walk.cursor.bucket walk.cursor.index (h.cursor.looks_inside t)));
      read = refl;
      loads = refl;
      cursor =
          ap (λ shown. after_look walk.cursor (is_some shown))
          (sym
          (shown_at_place table walk.cursor.bucket walk.cursor.index (h.cursor.looks_inside t)));
    })
    (λ _. tt)

-- a complete walk has passed every id
pub complete_cursor : {V : Type 0} (table : Table V) (walk : SharedWalk V) → WalkFits table walk
    → IsTrue (is_complete walk.cursor)
    → cursor_id walk.cursor ≡ 2 ^ 63 - 1
complete_cursor table walk h t = cursors.complete_id walk.cursor h.cursor t

-- and loaded the pointer of each bucket that was announced
is_past : (within : Bool) → IsTrue (cond within false true) → within ≡ false
is_past true t = absurd (false≢true t)
is_past false t = refl

pub complete_loads : {V : Type 0} (table : Table V) (walk : SharedWalk V) → WalkFits table walk
    → IsTrue (is_complete walk.cursor)
    → walk.loads ≡ buckets_among walk.announced 63
complete_loads table walk h t =
    let past : 63 ≤ walk.cursor.bucket = ltb-false walk.cursor.bucket 63 (is_past (nat_lt walk.cursor.bucket 63) t) in
    let low = h.cursor.in_table in
    let last : walk.cursor.bucket ≡ 63 = omega arith in
    let still = false_from_ne_true walk.cursor.looks (λ looks. let inside = h.cursor.looks_in_table looks in omega arith) in
    let l : walk.loads ≡ buckets_among walk.announced walk.cursor.bucket + 0 = rw still at h.loads in
    omega (arith, ap (buckets_among walk.announced) last)
