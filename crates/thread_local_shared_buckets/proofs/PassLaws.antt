-- A walk gives the value of the lowest flag at hand.
use Rattle.std.proofs.Common.{◌≡◌, ◌≢◌, ℕ, ◌+◌, ◌-◌, ◌*◌, ◌^◌, ◌<◌, ◌≤◌, true, false}
use Rattle.std.proofs.Common.{Option, None, Some, IfSome, option_map, refl, ap, sym, ◌∙◌, subst, arith, ⊎_elim, pow_mono}
use Rattle.std.proofs.lemmas.Bool.{eq-eqb, cases_lt}
use Rattle.thread_local_base.specs.Bits.{is_set, IsLowestSet, IsWordBut}
use Rattle.thread_local_base.specs.Place.{id_at}
use Rattle.thread_local_shared_buckets.specs.declared.seen.Seen.{Seen}
use Rattle.thread_local_buckets.specs.declared.cursor.RawIter.{RawIter}
use Rattle.thread_local_shared_buckets.specs.declared.steps.Own.{Own}
use Rattle.thread_local_shared_buckets.specs.declared.steps.Walk.{Walk}
use Rattle.thread_local_shared_buckets.specs.Walks.{Yields}
use Rattle.thread_local_shared_buckets.specs.Positions.{resting, past, owed, is_at, OwnIsTold}
use Rattle.thread_local_shared_buckets.specs.Positions.{IsSharedWalk}
use Rattle.thread_local_shared_buckets.specs.AtHand.{slot_of, HasSeen, IsAtHand}
use Rattle.thread_local_shared_buckets.specs.AtHand.{OwnIsAtHand, IsWalk}
use Rattle.thread_local_shared_buckets.proofs.Findings.{Item, IsToldAt, IsGivenBy}
use Rattle.thread_local_shared_buckets.proofs.MoveLaws.{resting-id}
use Rattle.thread_local_shared_buckets.proofs.WalkLaws.{few, IsBefore, given_found, Gave, gave_own}
use Rattle.thread_local_shared_buckets.proofs.ToldLaws.{marked_later}
use Rattle.thread_local_shared_buckets.proofs.OwnFlagLaws.{both_if, both_so, by_test}
use Rattle.thread_local_base.proofs.Word.{later, stays_set}

module _ {V : Type 0} where
  told_seen : (sharing : Option ℕ) (raw : RawIter) (chunks bit : ℕ) (x : Item V) (seen : Option (Seen V))
      → HasSeen sharing raw.bucket chunks bit seen → IfSome seen (IsGivenBy bit x)
      → IsToldAt sharing (past raw ((chunks - 1) * 64 + bit)) x
  told_seen sharing raw chunks bit x None h given = absurd h
  told_seen sharing raw chunks bit x (Some seen) h given =
      let power : 2 ^ seen.of.bucket ≡ 2 ^ raw.bucket = ap (λ k. 2 ^ k) h.1 in
      let chunk : chunks ≡ seen.chunk + 1 = h.2 in
      let id : x.0.id ≡ id_at seen.of.bucket (seen.chunk * 64 + bit) = given.id in
      let at = resting-id (past raw ((chunks - 1) * 64 + bit)) in
      record { sharing = given.sharing ∙ h.0; id = omega arith; value = given.value }

  -- the walk once it gave the value of this bit
  abbrev pub after_pass : Walk V → ℕ → ℕ → Option (Own V) → Walk V
  after_pass w bit rest own = record w { raw = past w.raw (slot_of w bit); own = own; rest = rest }

  at_hand_later : (w : Walk V) (low rest : ℕ) (own : Option (Own V)) → IsWalk w → IsLowestSet w.rest low
      → IsWordBut rest w.rest low false
      → ((bit : ℕ) → low < bit → is_at own w.raw.bucket (slot_of w bit) ≡ false
      → is_at w.own w.raw.bucket (slot_of w bit) ≡ false)
      → (bit : ℕ) → bit < 64 → is_set rest bit ≡ true → IsAtHand (after_pass w low rest own) bit
  at_hand_later w low rest own walk lowest but same bit small set =
      let on = later rest w.rest low bit lowest but small set in
      let there = walk.at_hand bit small on.set in
      let higher : low < bit = on.higher in
      record {
        in_table = there.in_table;
        some = there.some;
        ahead = omega arith;
        inside = there.inside;
        by = λ apart. there.by (same bit on.higher apart);
      }

  pub record Passed (w : Walk V) (x : Item V) (to : Walk V) : Type 0 where
    pub walk : IsWalk to
    pub gives : Yields (resting w.raw) (option_map owed w.own) x.1.now (resting to.raw) (option_map owed to.own)
    pub told : IsToldAt w.buckets.now.sharing to.raw x

  pub passed_own : (w : Walk V) (low rest : ℕ) (own : Own V) (x : Item V) → w.own ≡ Some own → IsWalk w
      → IsLowestSet w.rest low → IsWordBut rest w.rest low false
      → is_at (Some own) w.raw.bucket (slot_of w low) ≡ true
      → x.0 ≡ own.token → x.1.now ≡ own.value.now
      → Passed w x (after_pass w low rest None)
  passed_own w low rest own x is walk lowest but at token value =
      let there = walk.at_hand low lowest.within lowest.set in
      let same = both_if own.thread.bucket w.raw.bucket own.thread.index (slot_of w low) at in
      let shared : IsSharedWalk w.raw (Some own) = subst (IsSharedWalk w.raw) is walk.walk in
      let told : OwnIsTold w.buckets.now.sharing own =
      subst (λ (o : Option (Own V)). IfSome o (OwnIsTold w.buckets.now.sharing)) is walk.told in
      let gave = gave_own w.buckets.now.sharing w.raw own x shared there.in_table told
      (eq-eqb own.thread.bucket w.raw.bucket same.0) token value in
      let to : RawIter = past w.raw (slot_of w low) in
      let all : Gave w.buckets.now.sharing w.raw (Some own) x to None =
      subst (λ (i : ℕ). Gave w.buckets.now.sharing w.raw (Some own) x (past w.raw i) None)
      same.1 gave in
      record {
        walk = record {
          walk = all.walk;
          told = tt;
          seen_to =
              (let few : low < 64 = lowest.within in let some : 0 < w.chunks = there.some in
              omega arith);
          row = walk.row;
          at_hand =
              at_hand_later w low rest None walk lowest but (λ bit higher _.
              by_test (is_at w.own w.raw.bucket (slot_of w bit))
              (λ here.
              let again = both_if own.thread.bucket w.raw.bucket own.thread.index (slot_of w bit)
              (subst (λ (o : Option (Own V)). is_at o w.raw.bucket (slot_of w bit) ≡ true) is here) in
              let one : own.thread.index ≡ slot_of w low = same.1 in
              let two : own.thread.index ≡ slot_of w bit = again.1 in
              absurd (omega arith))
              (λ apart. apart));
          kept = tt;
          marked = marked_later w low rest None walk lowest but;
          left = (let left = walk.left in record {
            behind = left.behind;
            none_past = left.none_past;
            none_told = left.none_told;
            none_owed = λ bucket above below unset. refl;
          });
        };
        gives =
            subst (λ (o : Option (Own V)).
            Yields (resting w.raw) (option_map owed o) x.1.now (resting to) None)
            (sym is) all.gives;
        told = all.told;
      }

  -- the own value lies behind the lowest flag at hand, if its flag is another one
  before_own : (w : Walk V) (low : ℕ) (own : Option (Own V)) → 0 < w.chunks → IfSome own (OwnIsAtHand w)
      → IsLowestSet w.rest low → is_at own w.raw.bucket (slot_of w low) ≡ false
      → IfSome own (IsBefore w.raw (slot_of w low))
  before_own w low None some kept lowest apart = tt
  before_own w low (Some own) some kept lowest apart = λ same.
      let few : low < 64 = lowest.within in
      let base : ℕ = (w.chunks - 1) * 64 in
      ⊎_elim
      (λ (seen : own.thread.index < w.chunks * 64).
      let here = kept same seen in
      let from : base ≤ own.thread.index = here.0 in
      let bit : ℕ = own.thread.index - base in
      let least : low ≤ bit =
      ⊎_elim (λ (below : bit < low). let never : true ≡ false = sym here.1 ∙ lowest.lower bit below in cc)
      (λ (above : low ≤ bit). above) (cases_lt bit low) in
      ⊎_elim (λ (before : slot_of w low < own.thread.index). before)
      (λ (past : own.thread.index ≤ slot_of w low).
      let equal : own.thread.index ≡ slot_of w low = omega arith in
      let never : true ≡ false =
      sym (both_so own.thread.bucket w.raw.bucket own.thread.index (slot_of w low) same equal) ∙ apart in
      cc)
      (cases_lt (slot_of w low) own.thread.index))
      (λ (behind : w.chunks * 64 ≤ own.thread.index). omega arith)
      (cases_lt own.thread.index (w.chunks * 64))

  kept_later : (w : Walk V) (low rest : ℕ) (own : Option (Own V)) → 0 < w.chunks → IfSome own (OwnIsAtHand w)
      → IsLowestSet w.rest low → IsWordBut rest w.rest low false
      → is_at own w.raw.bucket (slot_of w low) ≡ false
      → IfSome own (OwnIsAtHand (after_pass w low rest own))
  kept_later w low rest None some kept lowest but apart = tt
  kept_later w low rest (Some own) some kept lowest but apart = λ same seen.
      let here = kept same seen in
      let base : ℕ = (w.chunks - 1) * 64 in
      let from : base ≤ own.thread.index = here.0 in
      let bit : ℕ = own.thread.index - base in
      let small : bit < 64 = omega arith in
      let other : low ≢ bit = λ e.
      (let equal : own.thread.index ≡ slot_of w low = omega arith in
      let never : true ≡ false =
      sym (both_so own.thread.bucket w.raw.bucket own.thread.index (slot_of w low) same equal) ∙ apart in
      cc) in
      (here.0, stays_set rest w.rest low bit but small other here.1)

  pub passed_seen : (w : Walk V) (low rest : ℕ) (x : Item V) → IsWalk w → IsLowestSet w.rest low
      → IsWordBut rest w.rest low false → is_at w.own w.raw.bucket (slot_of w low) ≡ false
      → IfSome w.seen (IsGivenBy low x)
      → Passed w x (after_pass w low rest w.own)
  passed_seen w low rest x walk lowest but apart given =
      let there = walk.at_hand low lowest.within lowest.set in
      let all =
      given_found w.raw w.own (slot_of w low) x.1.now walk.walk there.in_table there.ahead
      (before_own w low w.own there.some walk.kept lowest apart) there.inside in
      record {
        walk = record {
          walk = all.walk;
          told = walk.told;
          seen_to =
              (let few : low < 64 = lowest.within in let some : 0 < w.chunks = there.some in
              omega arith);
          row = walk.row;
          at_hand = at_hand_later w low rest w.own walk lowest but (λ bit higher elsewhere. elsewhere);
          kept = kept_later w low rest w.own there.some walk.kept lowest but apart;
          marked = marked_later w low rest w.own walk lowest but;
          left = walk.left;
        };
        gives = all.gives;
        told =
            told_seen w.buckets.now.sharing w.raw w.chunks low x w.seen
            (there.by apart) given;
      }

  -- the slot of a flag at hand is one of the table
  pub record IsNear (w : Walk V) (bit : ℕ) : Type 0 where
    pub some : 0 < w.chunks
    pub slot : slot_of w bit < 2 ^ 63
    pub small : bit < 64
    pub few : w.raw.yielded < 2 ^ 63
    pub size : w.raw.bucket_size ≡ 2 ^ w.raw.bucket
    pub first : 0 < w.raw.bucket_size
    pub id : w.raw.bucket_size + slot_of w bit < 2 ^ 63

  pub near : (w : Walk V) (low : ℕ) → IsWalk w → IsLowestSet w.rest low → IsNear w low
  near w low walk lowest =
      let there = walk.at_hand low lowest.within lowest.set in
      let last : w.raw.bucket ≤ 62 = (let last = there.in_table in omega arith) in
      let most : 2 ^ w.raw.bucket ≤ 2 ^ 62 = pow_mono last in
      let inside : slot_of w low < 2 ^ w.raw.bucket = there.inside in
      let size : w.raw.bucket_size ≡ 2 ^ w.raw.bucket = walk.walk.size in
      record {
        some = there.some;
        slot = omega arith;
        small = lowest.within;
        few = few w.raw w.own walk.walk;
        size = size;
        first = omega arith;
        id = omega arith;
      }
