-- The list of a table's 63 buckets, and which of an owner's pointers fit it, as a whole and one by
-- one.
use Rattle.std.proofs.Common.{◌≡◌, ℕ, zero, suc, ◌+◌, ◌^◌, ◌<◌, ◌≤◌, Bool, true, false, List, [], ◌∷◌, length, refl}
use Rattle.std.proofs.Common.{sym, ap, ◌∙◌, subst, arith, pow_pos, Option, map, get_or}
use Rattle.std.specs.Prelude.{slice_index_or, nat_lt, IsTrue, ◌⊎◌}
use Rattle.std.proofs.lemmas.Bool.{lt-ltb, ltb-true, ltb-false}
use Rattle.std.proofs.lemmas.List.{length-map, get_or_past, get_or_default}
use Rattle.std.proofs.lemmas.List.FromFn.{length-map-range_with_len, get_or-map-range_with_len}
use Rattle.std.specs.List.{range_with_len}
use mathlib.Core.Logic.{inl, inr}
use Rattle.thread_local_base.specs.Place.{id_at}
use Rattle.thread_local_base.specs.Owned.{Owned, AreOfFirstBuckets, IsOwned}
use Rattle.thread_local_shared_buckets.specs.Announcing.{Announcing}
use Rattle.thread_local_shared_buckets.specs.Shared.{BucketView}
use Rattle.thread_local_shared_buckets.specs.Fit.{Fit}
use Rattle.thread_local_shared_buckets.specs.TableView.{TableView, bucket_view, bucket_at, table_view_of, AreBuckets}

-- the views of a table's buckets
unfoldable pub table_buckets : TableView → Announcing → List BucketView
table_buckets s w = map (bucket_view s w) (range_with_len 0 63)

pub table_long : (s : TableView) (w : Announcing) → length (table_buckets s w) ≡ 63
unfolding table_buckets
table_long s w = length-map-range_with_len (bucket_view s w) 0 63

table_bucket : (s : TableView) (w : Announcing) (i : ℕ) → i < 63 → bucket_at (table_buckets s w) i ≡ bucket_view s w i
unfolding table_buckets
table_bucket s w i near = get_or-map-range_with_len (bucket_view s w) 0 63 i i _ near (omega arith)

pub table_named : (s : TableView) (w : Announcing) → AreBuckets (table_buckets s w) w s.reserved
table_named s w b near =
    table_bucket s w b near
    ∙ sym
    (ap (λ (d : BucketView). record {
      table = d.table;
      sharing = d.sharing;
      bucket = b;
      reserved = nat_lt (id_at b 0) s.reserved;
      grown_by_ids = d.grown_by_ids;
      word = w;
    })
    (table_bucket s w 0 (omega arith)))

pub table_seen : (s : TableView) (w : Announcing) → table_view_of (table_buckets s w) s.reserved ≡ s
table_seen s w =
    ap (λ (d : BucketView). record {
      table = d.table;
      sharing = d.sharing;
      reserved = s.reserved;
      grown_by_ids = d.grown_by_ids;
    })
    (table_bucket s w 0 (omega arith))

-- the bucket at a number in a table's list
pub listed_bucket : (ds : List BucketView) (w : Announcing) (reserved b : ℕ) (d : BucketView) (s : TableView) → length ds ≡ 63
    → b < 63 → AreBuckets ds w reserved → table_view_of ds reserved ≡ s → get_or ds b d ≡ bucket_view s w b
listed_bucket ds w reserved b d s long near named is =
    get_or_default ds b d _ (subst (λ (n : ℕ). b < n) (sym long) near) ∙ named b near ∙ ap (λ (v : TableView). bucket_view v w b) is

-- these are a table's buckets from this number on
abbrev pub AreOf : TableView → Announcing → ℕ → List BucketView → Type 0
AreOf s w b [] = Unit {0}
AreOf s w b (d ∷ ds) = (d ≡ bucket_view s w b) × AreOf s w (suc b) ds

are_of_from : (s : TableView) (w : Announcing) (b : ℕ) (ds : List BucketView)
    → ((i : ℕ) → i < length ds → bucket_at ds i ≡ bucket_view s w (i + b))
    → AreOf s w b ds
are_of_from s w b [] all = tt
are_of_from s w b (d ∷ ds) all = let here : 0 + b ≡ b = omega arith in (
  all 0 (omega arith) ∙ ap (bucket_view s w) here,
  are_of_from s w (suc b) ds (λ i near.
      let next : suc i + b ≡ i + suc b = omega arith in
      all (suc i) (omega arith) ∙ ap (bucket_view s w) next),
)

pub table_are_of : (s : TableView) (w : Announcing) → AreOf s w 0 (table_buckets s w)
table_are_of s w =
    let long : length (table_buckets s w) ≡ 63 = table_long s w in
    are_of_from s w 0 (table_buckets s w) (λ i near.
    let same : i ≡ i + 0 = omega arith in
    table_bucket s w i (omega arith) ∙ ap (bucket_view s w) same)

pub named_are_of : (ds : List BucketView) (w : Announcing) (reserved : ℕ) → length ds ≡ 63 → AreBuckets ds w reserved
    → AreOf (table_view_of ds reserved) w 0 ds
named_are_of ds w reserved long named =
    let s : TableView = table_view_of ds reserved in
    are_of_from s w 0 ds (λ i near.
    let within : i < 63 = omega arith in
    let same : i ≡ i + 0 = omega arith in
    named i within ∙ ap (bucket_view s w) same)

module _ {V W : Type 0} (slots : W → List (Option V)) where
  abbrev pub AllFit : List BucketView → List W → Type 0
  AllFit [] [] = Unit {0}
  AllFit [] (w ∷ ws) = ⊥
  AllFit (d ∷ ds) [] = ⊥
  AllFit (d ∷ ds) (w ∷ ws) = Fit d (slots w) × AllFit ds ws

  abbrev pub slots_at : List W → ℕ → List (Option V)
  slots_at ws i = slice_index_or (map slots ws) i []

  pub fits_long : (ds : List BucketView) (ws : List W) → AllFit ds ws → length ws ≡ length ds
  fits_long [] [] f = refl
  fits_long [] (w ∷ ws) f = absurd f
  fits_long (d ∷ ds) [] f = absurd f
  fits_long (d ∷ ds) (w ∷ ws) f = ap suc (fits_long ds ws f.1)

  pub fits_at : (ds : List BucketView) (ws : List W) → AllFit ds ws → (i : ℕ) → i < length ds → Fit (bucket_at ds i) (slots_at ws i)
  fits_at [] [] f i near = absurd (omega arith)
  fits_at [] (w ∷ ws) f i near = absurd f
  fits_at (d ∷ ds) [] f i near = absurd f
  fits_at (d ∷ ds) (w ∷ ws) f zero near = f.0
  fits_at (d ∷ ds) (w ∷ ws) f (suc i) near = fits_at ds ws f.1 i (omega arith)

  pub fits_from : (ds : List BucketView) (ws : List W) → length ws ≡ length ds
      → ((i : ℕ) → i < length ds → Fit (bucket_at ds i) (slots_at ws i))
      → AllFit ds ws
  fits_from [] [] long all = tt
  fits_from [] (w ∷ ws) long all = absurd (omega arith)
  fits_from (d ∷ ds) [] long all = absurd (omega arith)
  fits_from (d ∷ ds) (w ∷ ws) long all = (all zero (omega arith), fits_from ds ws (omega arith) (λ i near. all (suc i) (omega arith)))

  -- ---- all 63 pointers
  abbrev pub owned_of : List W → ℕ → Owned V
  owned_of ws reserved = record { contents = record { rows = map slots ws }; reserved = reserved }

  whole_if : (d : BucketView) (cs : List (Option V)) (b : ℕ) → d.bucket ≡ b → Fit d cs
      → (length cs ≡ 0) ⊎ (length cs ≡ 2 ^ b)
  whole_if d cs b same (inl f) = inl f.0
  whole_if d cs b same (inr f) = inr (f ∙ ap (λ (k : ℕ). 2 ^ k) same)

  standing_if : (d : BucketView) (cs : List (Option V)) → d.reserved ≡ true → Fit d cs → IsTrue (nat_lt 0 (length cs))
  standing_if d cs kept (inl f) = let no : true ≡ false = sym kept ∙ f.1 in cc
  standing_if d cs kept (inr f) = let some_slots : 0 < 2 ^ d.bucket = pow_pos d.bucket in lt-ltb 0 (length cs) (omega arith)

  module _ (ds : List BucketView) (w : Announcing) (ws : List W) (reserved : ℕ) (long : length ds ≡ 63)
      (named : AreBuckets ds w reserved) (first : AreOfFirstBuckets reserved) (f : AllFit ds ws) where
    whole_at : (b : ℕ) (t : Bool) → nat_lt b 63 ≡ t → (length (slots_at ws b) ≡ 0) ⊎ (length (slots_at ws b) ≡ 2 ^ b)
    whole_at b true e =
        let near : b < 63 = ltb-true b 63 e in
        whole_if (bucket_at ds b) (slots_at ws b) b
        (ap (λ (d : BucketView). d.bucket) (named b near)) (fits_at ds ws f b (omega arith))
    whole_at b false e =
        let past : 63 ≤ b = ltb-false b 63 e in
        let all : length (map slots ws) ≡ 63 = length-map ws slots ∙ fits_long ds ws f ∙ long in
        inl (ap length (get_or_past (map slots ws) b [] (omega arith)))

    pub are_owned : IsOwned (owned_of ws reserved)
    are_owned = record {
      table = record { buckets = length-map ws slots ∙ fits_long ds ws f ∙ long; whole = λ b. whole_at b (nat_lt b 63) refl };
      first = first;
      standing = λ b near low.
          standing_if (bucket_at ds b) (slots_at ws b)
          (ap (λ (d : BucketView). d.reserved) (named b near) ∙ lt-ltb (id_at b 0) reserved low)
          (fits_at ds ws f b (omega arith));
    }

  module _ (s : TableView) (w : Announcing) (ws : List W) (owned : IsOwned (owned_of ws s.reserved)) where
    fit_if : (i : ℕ) → i < 63 → (t : Bool) → nat_lt (id_at i 0) s.reserved ≡ t
        → (length (slots_at ws i) ≡ 0) ⊎ (length (slots_at ws i) ≡ 2 ^ i)
        → Fit (bucket_view s w i) (slots_at ws i)
    fit_if i near t e (inr all) = inr all
    fit_if i near false e (inl none) = inl (none, e)
    fit_if i near true e (inl none) =
        let some_slots : 0 < length (slots_at ws i) =
        ltb-true 0 (length (slots_at ws i))
        (owned.standing i near (ltb-true (id_at i 0) s.reserved e)) in
        absurd (omega arith)

    pub fit_all : AllFit (table_buckets s w) ws
    fit_all =
        let long : length (table_buckets s w) ≡ 63 = table_long s w in
        fits_from (table_buckets s w) ws (sym (length-map ws slots) ∙ owned.table.buckets ∙ sym long)
        (λ i near.
        let within : i < 63 = omega arith in
        subst (λ (d : BucketView). Fit d (slots_at ws i)) (sym (table_bucket s w i within))
        (fit_if i within (nat_lt (id_at i 0) s.reserved) refl (owned.table.whole i)))
