-- What the buckets of a table at rest show, by the rows of their slots: of the ids that were held at
-- once, and that buckets are announced. Assumes `Logic`.
use Rattle.std.proofs.Common.{◌≡◌, ◌∙◌, ℕ, zero, suc, ◌+◌, ◌^◌, ◌<◌, ◌≤◌, ◌==◌, Bool, true, false, List, [], ◌∷◌, length, refl}
use Rattle.std.proofs.Common.{sym, ap, subst, arith, Option, None, Some, if◌then◌else◌, eqb, pow_pos}
use Rattle.std.specs.Prelude.{slice_index_or, nat_lt}
use Rattle.std.proofs.lemmas.Bool.{eqb-true, eqb-false, eq-eqb, lt-ltb, ltb-true, false≢true}
use seplogic.Ra.Ura.{Ura}
use base.Fml.{Fml, ftrue, fsep}
use base.Logic.{ent, emp, guard}
use types.Logic.{Logic, sem}
use types.Kit.{‵, ◌⊛◌, given, learn, check, ◌$◌, ◌∵◌, !, qed, move, keep, use0, use1, use2, use3, split3, fsplit, fsplit3}
use types.Kit.{fjoin, fjoin3, fpick, fpack, rewrite, drop, done}
use denote.RattleType.{RattleType}
use denote.Steps.{nothing}
use Rattle.thread_local_base.specs.Bits.{is_set}
use Rattle.thread_local_base.specs.Buckets.{row, stands, IsTable}
use Rattle.thread_local_base.specs.Owned.{Owned}
use Rattle.thread_local_base.specs.Place.{id_at}
use Rattle.thread_local_ids.specs.Rights.{reached_owns}
use Rattle.thread_local_ids.specs.Told.{all_told_or_untold, whole_row, rows_telling}
use Rattle.thread_local_ids.specs.Sharings.{later_of}
use Rattle.thread_local_ids.proofs.ReachedElements.{reached_none, reached_less}
use Rattle.thread_local_shared_buckets.specs.Announcing.{Announcing, announced, announced_unless, announced_or, lies_with_word}
use Rattle.thread_local_shared_buckets.proofs.AnnouncingLaws.{shows, begun_announced}
use Rattle.thread_local_shared_buckets.specs.Shared.{BucketView, ids_shown, shown_by, grown}
use Rattle.thread_local_shared_buckets.specs.TableView.{TableView, bucket_view}
use Rattle.thread_local_shared_buckets.specs.Grown.{is_among, stand_among_below, stand_among, only_reserved}
use Rattle.thread_local_shared_buckets.specs.AfterLoan.{adds_no_bucket, view_with}
use Rattle.thread_local_base.proofs.Signs.{signs}

-- ---- which buckets stand
both_so : (t r : Bool) → (if t then r else false) ≡ true → (t ≡ true) × (r ≡ true)
both_so true r e = (refl, e)
both_so false r e = let never : false ≡ true = e in cc

so_both : (t r : Bool) → t ≡ true → r ≡ true → (if t then r else false) ≡ true
so_both true r is so = so
so_both false r is so = cc

not_first : (t r : Bool) → t ≡ false → (if t then true else r) ≡ true → r ≡ true
not_first true r is e = cc
not_first false r is e = e

among_so : (there among : Bool) → is_among there among ≡ true → there ≡ true → among ≡ true
among_so true among e is = e
among_so false among e is = cc

so_among : (there among : Bool) → (there ≡ true → among ≡ true) → is_among there among ≡ true
so_among true among so = so refl
so_among false among so = refl

module _ (among there : ℕ → Bool) where
  here : (n b : ℕ) → b < suc n → there b ≡ true → is_among (there n) (among n) ≡ true → (b < n → among b ≡ true)
      → (t : Bool) → eqb b n ≡ t → among b ≡ true
  here n b near is last before true same =
      let at : b ≡ n = eqb-true b n same in
      among_so (there b) (among b) (subst (λ (m : ℕ). is_among (there m) (among m) ≡ true) (sym at) last) is
  here n b near is last before false e =
      let apart : b ≡ n → ⊥ = eqb-false b n e in before (omega (arith, near, apart))

  among_below : (n : ℕ) → stand_among_below among there n ≡ true → (b : ℕ) → b < n → there b ≡ true → among b ≡ true
  unfolding stand_among_below
  among_below zero e b near is = absurd (omega arith)
  among_below (suc n) e b near is =
      let parts = both_so (is_among (there n) (among n)) (stand_among_below among there n) e in
      here n b near is parts.0 (λ below. among_below n parts.1 b below is) (eqb b n) refl

  below_among : (n : ℕ) → ((b : ℕ) → b < n → there b ≡ true → among b ≡ true) → stand_among_below among there n ≡ true
  unfolding stand_among_below
  below_among zero so = refl
  below_among (suc n) so =
      so_both (is_among (there n) (among n)) (stand_among_below among there n)
      (so_among (there n) (among n) (so n (omega arith)))
      (below_among n (λ b near. so b (omega arith)))

  pub stands_among : stand_among among there ≡ true → (b : ℕ) → b < 63 → there b ≡ true → among b ≡ true
  unfolding stand_among
  stands_among e = among_below 63 e

  pub all_among : ((b : ℕ) → b < 63 → there b ≡ true → among b ≡ true) → stand_among among there ≡ true
  unfolding stand_among
  all_among so = below_among 63 so

pub only_reserved_if : {V : Type 0} (owned : Owned V)
    → ((b : ℕ) → stands owned.contents b ≡ true → nat_lt (id_at b 0) owned.reserved ≡ true)
    → only_reserved owned ≡ true
only_reserved_if owned so =
    all_among (λ bucket. nat_lt (id_at bucket 0) owned.reserved) (stands owned.contents) (λ b near there. so b there)

-- where the reserved buckets alone stand
pub only_reserved_stand : {V : Type 0} (owned : Owned V) (reserved : ℕ) → owned.reserved ≡ reserved
    → ((b : ℕ) → stands owned.contents b ≡ nat_lt (id_at b 0) reserved) → only_reserved owned ≡ true
only_reserved_stand owned reserved same kept =
    only_reserved_if owned (λ b there. ap (λ n. nat_lt (id_at b 0) n) same ∙ sym (kept b) ∙ there)

-- ---- what a row shows
-- no word of announced buckets, for what doesn't depend on it
abbrev no_word : Announcing
no_word = record { name = 0; begun = 0; made = 0 }

abbrev unworded : TableView → ℕ → BucketView
unworded s b = bucket_view s no_word b

-- how many ids were held at once, by a bucket's row: none where it doesn't stand
abbrev pub shown_in : {V : Type 0} → BucketView → List (Option V) → ℕ
shown_in d [] = 0
shown_in d (c ∷ cs) = shown_by d

shown_below : (grown reserved : Bool) (bucket n : ℕ) → 2 ^ bucket ≤ n → ids_shown grown reserved bucket ≤ n
shown_below false reserved bucket n fits = omega arith
shown_below true true bucket n fits = omega arith
shown_below true false bucket n fits = fits

-- where all ids up to one of the bucket were held at once, these are as many as the bucket shows
pub shown_reached : (d : BucketView) (id i ids : ℕ) → id ≡ i + id_at d.bucket 0 → id < ids → shown_by d ≤ ids
shown_reached d id i ids at held =
    let some_slots : 0 < 2 ^ d.bucket = pow_pos d.bucket in
    shown_below d.grown_by_ids d.reserved d.bucket ids (omega (arith, some_slots, at, held))

-- at each index, by the number of the bucket there
abbrev ByNumber : ℕ → ℕ → (ℕ → ℕ → Type 0) → Type 0
ByNumber n b P = (i j : ℕ) → j ≡ i + b → i < n → P i j

-- no slot of the row has a value
abbrev pub IsBare : {V : Type 0} → List (Option V) → Type 0
IsBare cs = (i : ℕ) → slice_index_or cs i None ≡ None

-- where a bucket stands whose bit isn't set in the first word, an owner made it, by the second, and it has no value
abbrev pub IsSetFor : {V : Type 0} → ℕ → ℕ → ℕ → List (Option V) → Type 0
IsSetFor n made bucket cs = 0 < length cs → is_set n bucket ≡ false → (is_set made bucket ≡ true) × IsBare cs

-- the same of the buckets from this one on
abbrev pub AllSet : {V : Type 0} → ℕ → ℕ → ℕ → List (List (Option V)) → Type 0
AllSet n made b rows = ByNumber (length rows) b (λ i j. IsSetFor n made j (slice_index_or rows i []))

set_from : {V : Type 0} (n made b : ℕ) (cs : List (Option V)) (rows : List (List (Option V)))
    → IsSetFor n made b cs → AllSet n made (suc b) rows → AllSet n made b (cs ∷ rows)
set_from n made b cs rows first others zero j at near =
    let is : b ≡ j = omega (arith, at) in subst (λ k. IsSetFor n made k cs) is first
set_from n made b cs rows first others (suc i) j at near = others i j (omega (arith, at)) (omega (arith, near))

module _ (R : RattleType) where
  abbrev Slots : Type 0
  Slots = List (Option R.Denot)

  -- what a bucket's row shows of the ids that were held
  abbrev pub row_grown : BucketView → Slots → Fml
  row_grown d cs = reached_owns d.table (shown_in d cs)

  -- the same of the rows from this bucket on
  abbrev pub rows_grown : TableView → ℕ → List Slots → Fml
  rows_grown s b [] = ftrue
  rows_grown s b (cs ∷ rows) = fsep (row_grown (unworded s b) cs) (rows_grown s (suc b) rows)

  -- a bucket that stands is announced, by its row, or an owner made it and it has no value
  abbrev pub row_announced : Announcing → ℕ → Slots → Fml
  row_announced m b [] = ftrue
  row_announced m b (c ∷ cs) = announced_or m b (IsBare (c ∷ cs))

  -- the same of the rows from this bucket on
  abbrev pub rows_announced : Announcing → ℕ → List Slots → Fml
  rows_announced m b [] = ftrue
  rows_announced m b (cs ∷ rows) = fsep (row_announced m b cs) (rows_announced m (suc b) rows)

  -- what is told of a bucket's slots, and what its row shows
  abbrev pub row_known : BucketView → Slots → Fml
  row_known d cs =
      fsep (all_told_or_untold R d.sharing (id_at d.bucket 0) (whole_row d.bucket cs))
      (fsep (row_grown d cs) (row_announced d.word d.bucket cs))

  -- the same of the rows from this bucket on
  abbrev pub rows_known : TableView → Announcing → ℕ → List Slots → Fml
  rows_known s m b [] = ftrue
  rows_known s m b (cs ∷ rows) = fsep (row_known (bucket_view s m b) cs) (rows_known s m (suc b) rows)

module _ {M : Type 1} {𝓤 : Ura M} (𝓛 : Logic 𝓤) (R : RattleType) where
  open signs 𝓛 use {⟦◌⟧, ◌⊢◌, ◌∗◌}

  infix 26 ◌⊢◌
  infixr 35 ◌∗◌
  -- a block that stands shows what its bucket's row does
  pub whole_grown : (d : BucketView) (cs : Slots R) → 0 < length cs
      → ⟦ grown d ⟧ ∗ ⟦ announced_or d.word d.bucket (IsBare cs) ⟧ ⊢ ⟦ fsep (row_grown R d cs) (row_announced R d.word d.bucket cs) ⟧
  whole_grown d [] some = absurd (omega arith)
  whole_grown d (c ∷ cs) some =
      qed 𝓛 (‵ (grown d) ∷ ‵ (announced_or d.word d.bucket (IsBare (c ∷ cs))) ∷ []) ∵ fjoin ! $ done !

  pub known_apart : (s : TableView) (m : Announcing) (b : ℕ) (rows : List (Slots R))
      → ⟦ rows_known R s m b rows ⟧
      ⊢ ⟦ rows_telling R s.sharing b rows ⟧ ∗ ⟦ rows_grown R s b rows ⟧ ∗ ⟦ rows_announced R m b rows ⟧
  known_apart s m b [] = qed 𝓛 (‵ ftrue ∷ []) ∵ nothing ! $ nothing ! $ done !
  known_apart s m b (cs ∷ rows) =
      qed 𝓛 (‵ (rows_known R s m b (cs ∷ rows)) ∷ []) ∵ fsplit ! $ fsplit3 ! $ move ! (3 ∷ []) $
      use1 𝓛 (‵ (rows_telling R s.sharing (suc b) rows) ⊛ ‵ (rows_grown R s (suc b) rows) ⊛ ‵ (rows_announced R m (suc b) rows))
      (known_apart s m (suc b) rows) $
      split3 ! $
      -- [what is told of the others; what they show; they are announced; the same three of the first]
      move ! (3 ∷ 0 ∷ []) $ fjoin ! $ move ! (3 ∷ 1 ∷ []) $ fjoin ! $ move ! (3 ∷ 2 ∷ []) $ fjoin ! $
      move ! (2 ∷ 1 ∷ 0 ∷ []) $ done !

  pub known_together : (s : TableView) (m : Announcing) (b : ℕ) (rows : List (Slots R))
      → ⟦ rows_telling R s.sharing b rows ⟧ ∗ ⟦ rows_grown R s b rows ⟧ ∗ ⟦ rows_announced R m b rows ⟧
      ⊢ ⟦ rows_known R s m b rows ⟧
  known_together s m b [] = qed 𝓛 (‵ ftrue ∷ ‵ ftrue ∷ ‵ ftrue ∷ []) ∵ drop ! $ drop ! $ done !
  known_together s m b (cs ∷ rows) =
      qed 𝓛 (‵ (rows_telling R s.sharing b (cs ∷ rows)) ∷ ‵ (rows_grown R s b (cs ∷ rows)) ∷ ‵ (rows_announced R m b (cs ∷ rows)) ∷ []) ∵
      fsplit ! $ move ! (2 ∷ []) $ fsplit ! $ move ! (4 ∷ []) $ fsplit ! $
      -- [the first is announced; the others; what the first shows; the others; what is told of the first; of the others]
      move ! (4 ∷ 2 ∷ 0 ∷ []) $ fjoin3 ! $ move ! (3 ∷ 2 ∷ 1 ∷ []) $
      use3 𝓛 (‵ (rows_known R s m (suc b) rows)) (known_together s m (suc b) rows) $ move ! (1 ∷ 0 ∷ []) $ fjoin ! $ done !

  -- a bucket is announced where its bit was set when the sharing began
  by_begun : (m : Announcing) (b : ℕ) (P : Type 0) (t : Bool) → is_set m.begun b ≡ t
      → (is_set m.begun b ≡ false → (is_set m.made b ≡ true) × P)
      → emp 𝓤 ⊢ ⟦ announced_or m b P ⟧
  by_begun m b P true is clear =
      qed 𝓛 [] ∵ nothing ! $ use1 𝓛 (‵ (announced m b)) (begun_announced 𝓛 m b is) $ fpack ! Bool (announced_unless m b P) true $ done !
  by_begun m b P false is clear =
      qed 𝓛 [] ∵ nothing ! $ fpack ! ((is_set m.made b ≡ true) × P) (λ _. ftrue) (clear is) $
      fpack ! Bool (announced_unless m b P) false $ done !

  row_set : (m : Announcing) (b : ℕ) (cs : Slots R) → IsSetFor m.begun m.made b cs → emp 𝓤 ⊢ ⟦ row_announced R m b cs ⟧
  row_set m b [] set = qed 𝓛 [] ∵ nothing ! $ done !
  row_set m b (c ∷ cs) set = by_begun m b (IsBare (c ∷ cs)) (is_set m.begun b) refl (set (omega arith))

  pub rows_set : (m : Announcing) (b : ℕ) (rows : List (Slots R)) → AllSet m.begun m.made b rows
      → emp 𝓤 ⊢ ⟦ rows_announced R m b rows ⟧
  rows_set m b [] set = qed 𝓛 [] ∵ nothing ! $ done !
  rows_set m b (cs ∷ rows) set =
      qed 𝓛 [] ∵
      use0 𝓛 (‵ (rows_announced R m (suc b) rows))
      (rows_set m (suc b) rows (λ i j e near. set (suc i) j (omega (arith, e)) (omega (arith, near)))) $
      use0 𝓛 (‵ (row_announced R m b cs)) (row_set m b cs (set 0 b (omega arith) (omega arith))) $ fjoin ! $ done !

  -- the bits of the buckets that are announced are set
  row_shows : (m : Announcing) (n b : ℕ) (cs : Slots R) → b < 63
      → ⟦ lies_with_word m n ⟧ ∗ ⟦ row_announced R m b cs ⟧
      ⊢ guard 𝓤 (IsSetFor n m.made b cs) ⟦ lies_with_word m n ⟧
  row_shows m n b [] low =
      qed 𝓛 (‵ (lies_with_word m n) ∷ ‵ ftrue ∷ []) ∵ check ! (λ some. absurd (omega arith)) $ keep ! (0 ∷ []) $ done !
  row_shows m n b (c ∷ cs) low = by_case
    where
      by : (t : Bool) → ⟦ lies_with_word m n ⟧ ∗ ⟦ announced_unless m b (IsBare (c ∷ cs)) t ⟧
          ⊢ guard 𝓤 (IsSetFor n m.made b (c ∷ cs)) ⟦ lies_with_word m n ⟧
      by true =
          qed 𝓛 (‵ (lies_with_word m n) ∷ ‵ (announced m b) ∷ []) ∵
          use2 𝓛 (given (is_set n b ≡ true) (‵ (lies_with_word m n))) (shows 𝓛 m n b low) $ learn ! (λ is.
          check ! (λ some out. absurd (false≢true (sym out ∙ is))) $ done !)
      by false =
          qed 𝓛 (‵ (lies_with_word m n) ∷ ‵ (announced_unless m b (IsBare (c ∷ cs)) false) ∷ []) ∵ move ! (1 ∷ []) $ fpick ! (λ so.
          drop ! $ check ! (λ some out. so) $ done !)

      by_case : ⟦ lies_with_word m n ⟧ ∗ ⟦ row_announced R m b (c ∷ cs) ⟧ ⊢ guard 𝓤 (IsSetFor n m.made b (c ∷ cs)) ⟦ lies_with_word m n ⟧
      by_case =
          qed 𝓛 (‵ (lies_with_word m n) ∷ ‵ (row_announced R m b (c ∷ cs)) ∷ []) ∵ move ! (1 ∷ []) $ fpick ! (λ t.
          move ! (1 ∷ 0 ∷ []) $ use2 𝓛 (given (IsSetFor n m.made b (c ∷ cs)) (‵ (lies_with_word m n))) (by t) $ learn ! (λ set.
          check ! set $ done !))

  pub rows_show : (m : Announcing) (n b : ℕ) (rows : List (Slots R)) → length rows + b ≤ 63
      → ⟦ lies_with_word m n ⟧ ∗ ⟦ rows_announced R m b rows ⟧
      ⊢ guard 𝓤 (AllSet n m.made b rows) ⟦ lies_with_word m n ⟧
  rows_show m n b [] few =
      qed 𝓛 (‵ (lies_with_word m n) ∷ ‵ ftrue ∷ []) ∵ check ! (λ i j e near. absurd (omega (arith, near))) $ keep ! (0 ∷ []) $ done !
  rows_show m n b (cs ∷ rows) few =
      qed 𝓛 (‵ (lies_with_word m n) ∷ ‵ (rows_announced R m b (cs ∷ rows)) ∷ []) ∵ move ! (1 ∷ []) $ fsplit ! $
      -- [the first is announced; the others; what lies with the word]
      move ! (2 ∷ 0 ∷ []) $
      use2 𝓛 (given (IsSetFor n m.made b cs) (‵ (lies_with_word m n))) (row_shows m n b cs (omega (arith, few))) $ learn ! (λ first.
      use2 𝓛 (given (AllSet n m.made (suc b) rows) (‵ (lies_with_word m n))) (rows_show m n (suc b) rows (omega (arith, few))) $
      learn ! (λ others. check ! (set_from n m.made b cs rows first others) $ done !))

  -- rows show nothing where no bucket stands that would
  pub none_grown : (s : TableView) (b : ℕ) (rows : List (Slots R))
      → ByNumber (length rows) b (λ i j. shown_in (unworded s j) (slice_index_or rows i []) ≡ 0)
      → emp 𝓤 ⊢ ⟦ rows_grown R s b rows ⟧
  none_grown s b [] all = qed 𝓛 [] ∵ nothing ! $ done !
  none_grown s b (cs ∷ rows) all =
      let none : shown_in (unworded s b) cs ≡ 0 = all 0 b (omega arith) (omega arith) in
      qed 𝓛 [] ∵
      use0 𝓛 (‵ (rows_grown R s (suc b) rows)) (none_grown s (suc b) rows (λ i j e near. all (suc i) j (omega arith) (omega arith))) $
      use0 𝓛 (‵ (reached_owns s.table 0)) (reached_none 𝓛 s.table) $
      rewrite ! 0 (λ (n : ℕ). ‵ (reached_owns s.table n)) (sym none) refl $ fjoin ! $ done !

  -- rows show as much as others of the same table, where each shows no more
  pub less_grown : (s s' : TableView) (b : ℕ) (before after : List (Slots R)) → s'.table ≡ s.table → length before ≡ length after
      → ByNumber (length after) b (λ i j.
      shown_in (unworded s' j) (slice_index_or after i []) ≤ shown_in (unworded s j) (slice_index_or before i []))
      → ⟦ rows_grown R s b before ⟧ ⊢ ⟦ rows_grown R s' b after ⟧
  less_grown s s' b [] [] same long all = qed 𝓛 (‵ ftrue ∷ []) ∵ done !
  less_grown s s' b [] (r' ∷ after) same long all = absurd (omega arith)
  less_grown s s' b (r ∷ before) [] same long all = absurd (omega arith)
  less_grown s s' b (r ∷ before) (r' ∷ after) same long all =
      let n : ℕ = shown_in (unworded s b) r in
      let m : ℕ = shown_in (unworded s' b) r' in
      let less : m ≤ n = all 0 b (omega arith) (omega arith) in
      qed 𝓛 (‵ (rows_grown R s b (r ∷ before)) ∷ []) ∵ fsplit ! $
      use1 𝓛 (‵ (reached_owns s.table m)) (reached_less 𝓛 s.table n m less) $
      rewrite ! 0 (λ (t : ℕ). ‵ (reached_owns t m)) (sym same) refl $ move ! (1 ∷ []) $
      use1 𝓛 (‵ (rows_grown R s' (suc b) after))
      (less_grown s s' (suc b) before after same (omega arith) (λ i j e near. all (suc i) j (omega arith) (omega arith))) $
      move ! (1 ∷ 0 ∷ []) $ fjoin ! $ done !

-- ---- the three ways in which a table's rows come to rest
module _ {V : Type 0} where
  none_shown : (grown reserved : Bool) (t n b : ℕ) (sharing : Option ℕ) (cs : List (Option V))
      → (nat_lt 0 (length cs) ≡ true → grown ≡ true → reserved ≡ true)
      → shown_in record { table = t; sharing = sharing; bucket = b; reserved = reserved; grown_by_ids = grown; word = no_word } cs ≡ 0
  none_shown grown reserved t n b sharing [] so = refl
  none_shown false reserved t n b sharing (c ∷ cs) so = refl
  none_shown true true t n b sharing (c ∷ cs) so = refl
  none_shown true false t n b sharing (c ∷ cs) so =
      let never : false ≡ true = so (lt-ltb 0 (length (c ∷ cs)) (omega arith)) refl in cc

  -- where the view says that a table grew by ids alone only if no bucket stands but reserved ones
  pub nothing_shown : (s : TableView) (owned : Owned V) → owned.reserved ≡ s.reserved → IsTable owned.contents
      → (s.grown_by_ids ≡ true → only_reserved owned ≡ true)
      → ByNumber (length owned.contents.rows) 0 (λ i j. shown_in (unworded s j) (slice_index_or owned.contents.rows i []) ≡ 0)
  nothing_shown s owned same table only i j at near =
      let low : i < 63 = omega (arith, near, table.buckets) in
      let is : j ≡ i = omega (arith, at) in
      subst (λ (k : ℕ). shown_in (unworded s k) (row owned.contents i) ≡ 0) (sym is)
      (none_shown s.grown_by_ids (nat_lt (id_at i 0) s.reserved) s.table s.reserved i s.sharing (row owned.contents i)
      (λ there grown. subst (λ (n : ℕ). nat_lt (id_at i 0) n ≡ true) same
      (stands_among (λ bucket. nat_lt (id_at bucket 0) owned.reserved) (stands owned.contents) (only grown) i low there)))

  shown_less : (grown' grown reserved' reserved : Bool) (t' t b : ℕ) (sharing' sharing : Option ℕ) (after before : List (Option V))
      → (grown' ≡ true → (grown ≡ true) × (reserved' ≡ reserved) × (nat_lt 0 (length after) ≡ true → nat_lt 0 (length before) ≡ true))
      → shown_in record { table = t'; sharing = sharing'; bucket = b; reserved = reserved'; grown_by_ids = grown'; word = no_word } after
      ≤ shown_in record { table = t; sharing = sharing; bucket = b; reserved = reserved; grown_by_ids = grown; word = no_word } before
  shown_less grown' grown reserved' reserved t' t b sharing' sharing [] before so = omega arith
  shown_less false grown reserved' reserved t' t b sharing' sharing (c ∷ after) before so = omega arith
  shown_less true grown reserved' reserved t' t b sharing' sharing (c ∷ after) [] so =
      let never : nat_lt 0 (length {A = Option V} []) ≡ true = (so refl).2 (lt-ltb 0 (length (c ∷ after)) (omega arith)) in
      let some : 0 < length {A = Option V} [] = ltb-true 0 (length {A = Option V} []) never in absurd (omega arith)
  shown_less true grown reserved' reserved t' t b sharing' sharing (c ∷ after) (c' ∷ before) so =
      let same : ids_shown grown reserved b ≡ ids_shown true reserved' b =
      λ k. ids_shown ((so refl).0 k) (sym (so refl).1 k) b in
      omega (arith, same)

  -- a bucket that an owner leaves shows no more than before, whether no other than reserved ones is left
  -- or not
  left_shown : (s : TableView) (lent left : Owned V) → lent.reserved ≡ s.reserved → (i : ℕ) → i < 63
      → (only : Bool) → only_reserved left ≡ only
      → shown_in (unworded (view_with s lent left) i) (row left.contents i) ≤ shown_in (unworded s i) (row lent.contents i)
  left_shown s lent left same i low true only =
      let s' : TableView = view_with s lent left in
      let none : shown_in (unworded s' i) (row left.contents i) ≡ 0 =
      none_shown s'.grown_by_ids (nat_lt (id_at i 0) left.reserved) s.table left.reserved i s'.sharing (row left.contents i)
      (λ there grown. stands_among (λ bucket. nat_lt (id_at bucket 0) left.reserved) (stands left.contents) only i low there) in
      omega (arith, none)
  left_shown s lent left same i low false only =
      let s' : TableView = view_with s lent left in
      shown_less s'.grown_by_ids s.grown_by_ids (nat_lt (id_at i 0) left.reserved) (nat_lt (id_at i 0) s.reserved) s.table s.table i
      s'.sharing s.sharing (row left.contents i) (row lent.contents i) (λ grown.
      let all = both_so s.grown_by_ids (adds_no_bucket lent left) (not_first (only_reserved left) _ only grown) in
      let keeps = both_so (left.reserved == lent.reserved) (stand_among (stands lent.contents) (stands left.contents)) all.1 in
      let as_many : left.reserved ≡ s.reserved = eqb-true left.reserved lent.reserved keeps.0 ∙ same in (
        all.0,
        ap (λ (n : ℕ). nat_lt (id_at i 0) n) as_many,
        stands_among (stands lent.contents) (stands left.contents) keeps.1 i low,
      ))

  -- an owner that had the buckets on loan leaves no bucket that shows more
  pub lent_shown : (s : TableView) (lent left : Owned V) → lent.reserved ≡ s.reserved → IsTable left.contents
      → ByNumber (length left.contents.rows) 0 (λ i j.
      shown_in (unworded (view_with s lent left) j) (slice_index_or left.contents.rows i [])
      ≤ shown_in (unworded s j) (slice_index_or lent.contents.rows i []))
  lent_shown s lent left same table i j at near =
      let low : i < 63 = omega (arith, near, table.buckets) in
      let is : j ≡ i = omega (arith, at) in
      let s' : TableView = view_with s lent left in
      let F : ℕ → Type 0 = λ k. shown_in (unworded s' k) (row left.contents i) ≤ shown_in (unworded s k) (row lent.contents i) in
      subst F (sym is) (left_shown s lent left same i low (only_reserved left) refl)

-- a view of the same buckets in another sharing, of the table of this name
abbrev pub view_again : TableView → ℕ → ℕ → TableView
view_again s table sharing = record {
  table = table;
  sharing = Some (later_of sharing);
  reserved = s.reserved;
  grown_by_ids = if s.table == table then s.grown_by_ids else false;
}

pub grown_again : (s : TableView) (table : ℕ) → s.table ≡ table → (if s.table == table then s.grown_by_ids else false) ≡ s.grown_by_ids
grown_again s table same = ap (λ (t : Bool). if t then s.grown_by_ids else false) (eq-eqb s.table table same)

module _ {M : Type 1} {𝓤 : Ura M} (𝓛 : Logic 𝓤) (R : RattleType) (s s' : TableView) (many : s'.reserved ≡ s.reserved) where
  -- rows show the same in another sharing of the same table, and nothing where the table is another
  pub grown_in : (t : Bool) → (s.table == s'.table) ≡ t → s'.grown_by_ids ≡ (if t then s.grown_by_ids else false)
      → (rows : List (Slots R)) → ent 𝓤 (sem 𝓛 (rows_grown R s 0 rows)) (sem 𝓛 (rows_grown R s' 0 rows))
  grown_in true e is rows =
      less_grown 𝓛 R s s' 0 rows rows (sym (eqb-true s.table s'.table e)) refl (λ i j at near.
      shown_less s'.grown_by_ids s.grown_by_ids (nat_lt (id_at j 0) s'.reserved) (nat_lt (id_at j 0) s.reserved) s'.table s.table j
      s'.sharing s.sharing (slice_index_or rows i []) (slice_index_or rows i []) (λ grown.
      (sym is ∙ grown, ap (λ (n : ℕ). nat_lt (id_at j 0) n) many, λ there. there)))
  grown_in false e is rows =
      qed 𝓛 (‵ (rows_grown R s 0 rows) ∷ []) ∵ drop ! $
      use0 𝓛 (‵ (rows_grown R s' 0 rows))
      (none_grown 𝓛 R s' 0 rows (λ i j at near.
      none_shown s'.grown_by_ids (nat_lt (id_at j 0) s'.reserved) s'.table s'.reserved j s'.sharing (slice_index_or rows i [])
      (λ there grown. let never : false ≡ true = sym is ∙ grown in cc))) $
      done !
