-- The slots of a table's buckets, counted as they are met: first the reserved ones, then those of the
-- announced buckets behind them. Those of some ids are met, whose buckets stand.
use Rattle.std.proofs.Common.{◌≡◌, ◌≤◌, ◌<◌, ◌+◌, ◌-◌, ◌*◌, ◌^◌, ℕ, Bool, true, false, refl, sym, subst, bit_and}
use Rattle.std.proofs.Common.{◌≢◌, ◌∙◌, add-one, ap, arith, pow_mono, pow_pos, ⊎_elim}
use Rattle.std.specs.Prelude.{max, nat_lt, ⊤}
use Rattle.std.specs.Int.{w64, bit_not}
use Rattle.std.proofs.Math.Nat.{two-pow-succ, le-max_right}
use Rattle.std.proofs.lemmas.Bool.{ltb-true, cases_lt, ne_eqb, false≢true}
use Rattle.thread_local_base.specs.Bits.{is_set, IsLowestSet, IsWordBut}
use Rattle.thread_local_base.specs.Owned.{AreOfFirstBuckets}
use Rattle.thread_local_base.specs.Place.{id_at, bucket_of}
use Rattle.thread_local_base.proofs.Word.{is_set-zero}
use Rattle.thread_local_buckets.specs.Announced.{AreAhead}
use Rattle.thread_local_buckets.proofs.Passing.{Takes, takes, AreAhead-behind, others_kept}
use Rattle.thread_local_shared_buckets.specs.Shared.{ids_shown}
use Rattle.thread_local_shared_buckets.proofs.RoomForTokens.{HasRoom, first_slots, same_slots, more_slots}

-- nothing is known of the buckets that aren't in a word
abbrev Unknown : ℕ → Type 0
Unknown bucket = ⊤

-- so many slots are counted of the buckets before the first that is left, with those of these ids
-- there. The buckets of the others of these ids are left
pub record Counted (In : ℕ → Type 0) (reserved left slots : ℕ) : Type 0 where
  pub from : ℕ
  pub in_table : from ≤ 63
  pub ahead : AreAhead Unknown left from
  pub most : slots ≤ 2 ^ from - 1
  pub all : reserved ≤ slots
  pub others : (id : ℕ) → In id → from ≤ bucket_of id → is_set left (bucket_of id) ≡ true
  pub room : HasRoom In from slots

-- the reserved slots are counted, and the announced buckets behind theirs are left
pub begins : (In : ℕ → Type 0) (reserved word : ℕ) → AreOfFirstBuckets reserved → is_set word 63 ≡ false
    → ((id : ℕ) → In id → (bucket_of id < 63) × (is_set word (bucket_of id) ≡ true))
    → Counted In reserved (bit_and word (bit_not w64 reserved)) reserved
begins In reserved word first none_past announced =
    let all : reserved ≡ 2 ^ first.buckets - 1 = first.all in
    record {
      from = first.buckets;
      in_table = first.in_table;
      ahead = subst (λ (n : ℕ). AreAhead Unknown (bit_and word (bit_not w64 n)) first.buckets) (sym all)
          (AreAhead-behind Unknown word first.buckets first.in_table record { others = λ _ _ _. tt; none_past = none_past });
      most = omega (arith, all);
      all = omega arith;
      others = λ id told behind.
          let so = announced id told in
          let low : bucket_of id < 63 = so.0 in
          subst (λ (n : ℕ). is_set (bit_and word (bit_not w64 n)) (bucket_of id) ≡ true) (sym all)
          (others_kept word first.buckets first.in_table (bucket_of id) behind (omega (arith, low)) ∙ so.1);
      room = subst (λ (n : ℕ). HasRoom In first.buckets n) (sym all) (first_slots In first.buckets);
    }

-- all buckets have fewer slots than 2^63
pub counted_below : {In : ℕ → Type 0} {reserved left slots : ℕ} → Counted In reserved left slots → slots < 2 ^ 63
counted_below so =
    let up : 2 ^ so.from ≤ 2 ^ 63 = pow_mono so.in_table in
    let some = pow_pos so.from in
    let most = so.most in
    omega (arith, up, some, most)

-- where no bucket is left, those of all these ids are counted
pub all_counted : {In : ℕ → Type 0} {reserved left slots : ℕ} (so : Counted In reserved left slots) → left ≡ 0
    → (id : ℕ) → In id → bucket_of id < so.from
all_counted so none id told =
    ⊎_elim (λ (before : bucket_of id < so.from). before)
    (λ (behind : so.from ≤ bucket_of id).
    absurd (false≢true (sym (ap (λ w. is_set w (bucket_of id)) none ∙ is_set-zero (bucket_of id)) ∙ so.others id told behind)))
    (cases_lt (bucket_of id) so.from)

module _ (In : ℕ → Type 0) (in_table : (id : ℕ) → In id → bucket_of id < 63) (reserved left rest slots bucket : ℕ)
    (so : Counted In reserved left slots) (low : IsLowestSet left bucket) (but : IsWordBut rest left bucket false) where
  taken : Takes Unknown rest so.from bucket
  taken = takes Unknown left rest so.from bucket so.ahead low but

  -- all that is counted lies before the bucket
  few : slots ≤ 2 ^ bucket - 1
  few = let up : 2 ^ so.from ≤ 2 ^ bucket = pow_mono taken.after in let most = so.most in omega (arith, up, most)

  -- no id lies in a bucket between
  none_between : (id : ℕ) → In id → so.from ≤ bucket_of id → bucket_of id < bucket → ⊥
  none_between id told behind before = false≢true (sym (low.lower (bucket_of id) before) ∙ so.others id told behind)

  -- those of the ids behind the bucket stay
  others_left : (id : ℕ) → In id → bucket + 1 ≤ bucket_of id → is_set rest (bucket_of id) ≡ true
  others_left id told behind =
      let near = in_table id told in
      let from : so.from ≤ bucket = taken.after in
      let apart : bucket ≢ bucket_of id = omega (arith, behind) in
      but (bucket_of id) (omega (arith, near)) ∙ rw (ne_eqb bucket (bucket_of id) apart) (so.others id told (omega (arith, from, behind)))

  -- the bucket stands
  pub more : (size : ℕ) → size ≡ 2 ^ bucket → Counted In reserved rest (slots + size)
  more size is =
      let twice : 2 ^ (bucket + 1) ≡ 2 ^ bucket + 2 ^ bucket = rw add-one (two-pow-succ bucket) in
      let some = pow_pos bucket in
      let low : bucket < 63 = taken.in_table in
      let all = so.all in
      record {
        from = bucket + 1;
        in_table = omega (arith, low);
        ahead = taken.ahead;
        most = omega (arith, twice, some, few, is);
        all = omega (arith, all);
        others = others_left;
        room = subst (λ (n : ℕ). HasRoom In (bucket + 1) (slots + n)) (sym is)
            (more_slots In so.from bucket slots so.room none_between);
      }

  -- the bucket is missing, so none of the ids lies there
  pub missed : ((id : ℕ) → In id → bucket_of id ≢ bucket) → Counted In reserved rest slots
  missed absent =
      let most = few in
      let twice : 2 ^ (bucket + 1) ≡ 2 ^ bucket + 2 ^ bucket = rw add-one (two-pow-succ bucket) in
      let low : bucket < 63 = taken.in_table in
      record {
        from = bucket + 1;
        in_table = omega (arith, low);
        ahead = taken.ahead;
        most = omega (arith, twice, most);
        all = so.all;
        others = others_left;
        room = same_slots In so.from bucket slots so.room none_between absent;
      }

  -- what it shows where it stands allows for all slots up to it
  allowed_by : (t : Bool) (size ids : ℕ) → nat_lt (id_at bucket 0) reserved ≡ t → size ≡ 2 ^ bucket → ids_shown true t bucket ≤ ids
      → slots + size ≤ max reserved (2 * ids - 1)
  allowed_by true size ids is_low is shown =
      let below : id_at bucket 0 < reserved = ltb-true (id_at bucket 0) reserved is_low in
      let all = so.all in
      absurd (omega (arith, below, all, few))
  allowed_by false size ids past is shown =
      let some = pow_pos bucket in
      let most : 2 * ids - 1 ≤ max reserved (2 * ids - 1) = le-max_right reserved (2 * ids - 1) in
      omega (arith, some, most, few, is, shown)

  pub allowed : (size ids : ℕ) → size ≡ 2 ^ bucket → ids_shown true (nat_lt (id_at bucket 0) reserved) bucket ≤ ids
      → slots + size ≤ max reserved (2 * ids - 1)
  allowed size ids = allowed_by (nat_lt (id_at bucket 0) reserved) size ids refl
