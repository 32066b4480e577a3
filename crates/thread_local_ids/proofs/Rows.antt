-- What is told of the slots of all buckets, row by row. Assumes `Logic`.
use Rattle.std.proofs.Common.{◌≡◌, ℕ, zero, suc, ◌+◌, ◌-◌, ◌^◌, ◌<◌, List, [], ◌∷◌, length, refl, sym, ap, ◌∙◌, subst}
use Rattle.std.proofs.Common.{arith, pow_pos, Option, None, Some, get_or}
use Rattle.std.specs.Prelude.{◌⊎◌, slice_index_or}
use Rattle.std.proofs.Math.Nat.{two-pow-succ}
use Rattle.std.proofs.lemmas.List.{length-replicate, get_or-replicate, get_or_past}
use Rattle.thread_local_base.proofs.PlaceLaws.{id_at-place, bucket_of-below, inside}
use mathlib.Core.Logic.{inl, inr}
use seplogic.Ra.Ura.{Ura}
use base.Logic.{SProp, emp, upd, upd_i}
use base.Fml.{GName, Fml, ftrue}
use base.Shift.{Keyless}
use types.Logic.{Logic}
use types.Kit.{‵, raw, ◌⊛◌, settle, suffices, frame, drop, move, keep, rewrite, split, fsplit, fjoin, use0, use1, qed}
use types.Kit.{done, ◌$◌, ◌∵◌, ! }
use denote.RattleType.{RattleType}
use denote.Steps.{nothing}
use Rattle.thread_local_base.specs.Place.{id_at, bucket_of, index_of}
use Rattle.thread_local_base.specs.Buckets.{Contents, IsTable, row, values}
use Rattle.thread_local_ids.specs.Rights.{slots_own}
use Rattle.thread_local_ids.specs.Told.{tells, all_tell, all_told_or_untold, whole_row, rows_telling, rows_tell}
use Rattle.thread_local_ids.specs.Sharings.{first_of, later_of}
use Rattle.thread_local_ids.specs.Blank.{AreBlank}
use Rattle.thread_local_ids.proofs.BlankLaws.{blank_whole}
use Rattle.thread_local_ids.proofs.ToldElements.{all_end, all_dup, none_telling, source, all_drawn, first_drawn, told_at, tells_keyless}
use Rattle.thread_local_base.proofs.Signs.{signs}

-- the row of a bucket is empty or whole
abbrev pub IsWhole : {V : Type 0} → ℕ → List (Option V) → Type 0
IsWhole bucket row = (length row ≡ 0) ⊎ (length row ≡ 2 ^ bucket)

pub whole_length : {V : Type 0} (bucket : ℕ) (row : List (Option V)) → IsWhole bucket row
    → length (whole_row bucket row) ≡ 2 ^ bucket
whole_length {V} bucket [] w = let none : Option V = None in length-replicate (2 ^ bucket) none
whole_length bucket (v ∷ slots) (inl e) = absurd (omega arith)
whole_length bucket (v ∷ slots) (inr e) = e

-- a slot of a whole row holds what the row says
pub whole_at : {V : Type 0} (bucket i : ℕ) (row : List (Option V)) → i < 2 ^ bucket
    → get_or (whole_row bucket row) i None ≡ slice_index_or row i None
whole_at {V} bucket i [] near =
    let none : Option V = None in
    get_or-replicate (2 ^ bucket) i none none near ∙ sym (get_or_past [] i none (omega arith))
whole_at bucket i (v ∷ slots) near = refl

-- the first id of the next bucket
next_first : (bucket : ℕ) → id_at (suc bucket) 0 ≡ 2 ^ bucket + id_at bucket 0
next_first bucket = let some_slots : 0 < 2 ^ bucket = pow_pos bucket in omega (arith, two-pow-succ bucket)

next_after : {V : Type 0} (bucket : ℕ) (row : List (Option V)) → IsWhole bucket row
    → id_at (suc bucket) 0 ≡ length (whole_row bucket row) + id_at bucket 0
next_after bucket row whole = next_first bucket ∙ sym (ap (λ (n : ℕ). n + id_at bucket 0) (whole_length bucket row whole))

-- these are rows of the buckets from this number on
abbrev pub AreWhole : {V : Type 0} → ℕ → List (List (Option V)) → Type 0
AreWhole bucket [] = Unit {0}
AreWhole bucket (row ∷ rows) = IsWhole bucket row × AreWhole (suc bucket) rows

whole_from : {V : Type 0} (bucket : ℕ) (rows : List (List (Option V)))
    → ((i : ℕ) → i < length rows → IsWhole (i + bucket) (slice_index_or rows i []))
    → AreWhole bucket rows
whole_from bucket [] all = tt
whole_from bucket (row ∷ rows) all = let here : 0 + bucket ≡ bucket = omega arith in (
  subst (λ (b : ℕ). IsWhole b row) here (all 0 (omega arith)),
  whole_from (suc bucket) rows (λ i near.
      let next : suc i + bucket ≡ i + suc bucket = omega arith in
      subst (λ (b : ℕ). IsWhole b (slice_index_or rows i [])) next (all (suc i) (omega arith))),
)

pub table_whole : {V : Type 0} (contents : Contents V) → IsTable contents → AreWhole 0 contents.rows
table_whole contents is =
    whole_from 0 contents.rows (λ i near.
    let same : i ≡ i + 0 = omega arith in
    subst (λ (b : ℕ). IsWhole b (slice_index_or contents.rows i [])) same (is.whole i))

module _ {M : Type 1} {𝓤 : Ura M} (𝓛 : Logic 𝓤) (R : RattleType) where
  open signs 𝓛 use {⟦◌⟧, ◌⊢◌, ◌∗◌}

  infix 26 ◌⊢◌
  infixr 35 ◌∗◌
  abbrev Rows : Type 0
  Rows = List (List (Option R.Denot))

  -- where there is no sharing, nothing has to be told
  pub none_rows : (bucket : ℕ) (rows : Rows) → emp 𝓤 ⊢ ⟦ rows_telling R None bucket rows ⟧
  none_rows bucket [] = qed 𝓛 [] ∵ nothing ! $ done !
  none_rows bucket (row ∷ rows) = qed 𝓛 [] ∵ use0 𝓛 (‵ (rows_telling R None (suc bucket) rows)) (none_rows (suc bucket) rows) $
      use0 𝓛 (‵ (all_told_or_untold R None (id_at bucket 0) (whole_row bucket row)))
      (none_telling 𝓛 R (id_at bucket 0) (whole_row bucket row)) $
      fjoin ! $ done !

  -- the slots of the buckets of a sharing of later get what lies with them
  pub rows_drawn : (γ : GName) (bucket : ℕ) (rows : Rows) → AreWhole bucket rows
      → ⟦ source 𝓛 γ (id_at bucket 0) ⟧ ⊢ upd 𝓤 ⟦ rows_telling R (Some (later_of γ)) bucket rows ⟧
  rows_drawn γ bucket [] are =
      qed 𝓛 (‵ (source 𝓛 γ (id_at bucket 0)) ∷ []) ∵ suffices ! _ (upd_i 𝓤 ⟦ ftrue ⟧) $ drop ! $
      nothing ! $ done !
  rows_drawn γ bucket (row ∷ rows) are =
      let here : Option ℕ = Some (later_of γ) in
      let Z : SProp 𝓤 = ⟦ rows_telling R here bucket (row ∷ rows) ⟧ in
      let id : ℕ = id_at bucket 0 in
      let slots : List (Option R.Denot) = whole_row bucket row in
      let next : ℕ = id_at (suc bucket) 0 in
      qed 𝓛 (‵ (source 𝓛 γ id) ∷ []) ∵
      use1 𝓛 (raw (upd 𝓤 (⟦ all_told_or_untold R here id slots ⟧ ∗ ⟦ source 𝓛 γ next ⟧)))
      (all_drawn 𝓛 R γ id next slots (next_after bucket row are.0)) $
      settle 𝓛 Z (‵ (all_told_or_untold R here id slots) ⊛ ‵ (source 𝓛 γ next)) $ split ! $
      move ! (1 ∷ []) $
      use1 𝓛 (raw (upd 𝓤 ⟦ rows_telling R here (suc bucket) rows ⟧))
      (rows_drawn γ (suc bucket) rows are.1) $
      settle 𝓛 Z (‵ (rows_telling R here (suc bucket) rows)) $
      suffices ! _ (upd_i 𝓤 Z) $ move ! (1 ∷ 0 ∷ []) $ fjoin ! $ done !

  -- in a table's first sharing they get it where no slot has a value
  pub rows_first : (table bucket : ℕ) (rows : Rows) → AreWhole bucket rows → AreBlank rows
      → ⟦ slots_own table (id_at bucket 0) ⟧ ⊢ ⟦ rows_telling R (Some (first_of table)) bucket rows ⟧
  rows_first table bucket [] are blank =
      qed 𝓛 (‵ (slots_own table (id_at bucket 0)) ∷ []) ∵ drop ! $ nothing ! $ done !
  rows_first table bucket (row ∷ rows) are blank =
      let here : Option ℕ = Some (first_of table) in
      let id : ℕ = id_at bucket 0 in
      let slots : List (Option R.Denot) = whole_row bucket row in
      let next : ℕ = id_at (suc bucket) 0 in
      qed 𝓛 (‵ (slots_own table id) ∷ []) ∵
      use1 𝓛 (‵ (all_told_or_untold R here id slots) ⊛ ‵ (slots_own table next))
      (first_drawn 𝓛 R table id next slots (blank_whole R.Denot bucket row blank.0) (next_after bucket row are.0)) $
      split ! $ move ! (1 ∷ []) $
      use1 𝓛 (‵ (rows_telling R here (suc bucket) rows)) (rows_first table (suc bucket) rows are.1 blank.1) $
      move ! (1 ∷ 0 ∷ []) $ fjoin ! $ done !

  -- at the end of a sharing it is told of every id what its slot was published with
  pub rows_end : (sharing : Option ℕ) (bucket : ℕ) (rows : Rows)
      → ⟦ rows_telling R sharing bucket rows ⟧ ⊢ upd 𝓤 ⟦ rows_tell R sharing bucket rows ⟧
  rows_end sharing bucket [] = upd_i 𝓤 ⟦ ftrue ⟧
  rows_end sharing bucket (row ∷ rows) =
      let Z : SProp 𝓤 = ⟦ rows_tell R sharing bucket (row ∷ rows) ⟧ in
      let id : ℕ = id_at bucket 0 in
      let slots : List (Option R.Denot) = whole_row bucket row in
      qed 𝓛 (‵ (rows_telling R sharing bucket (row ∷ rows)) ∷ []) ∵ fsplit ! $
      use1 𝓛 (raw (upd 𝓤 ⟦ all_tell R sharing id slots ⟧)) (all_end 𝓛 R sharing id slots) $
      settle 𝓛 Z (‵ (all_tell R sharing id slots)) $ move ! (1 ∷ []) $
      use1 𝓛 (raw (upd 𝓤 ⟦ rows_tell R sharing (suc bucket) rows ⟧))
      (rows_end sharing (suc bucket) rows) $
      settle 𝓛 Z (‵ (rows_tell R sharing (suc bucket) rows)) $
      suffices ! _ (upd_i 𝓤 Z) $ move ! (1 ∷ 0 ∷ []) $ fjoin ! $ done !

  pub rows_dup : (sharing : Option ℕ) (bucket : ℕ) (rows : Rows)
      → ⟦ rows_tell R sharing bucket rows ⟧
      ⊢ ⟦ rows_tell R sharing bucket rows ⟧ ∗ ⟦ rows_tell R sharing bucket rows ⟧
  rows_dup sharing bucket [] = qed 𝓛 (‵ ftrue ∷ []) ∵ nothing ! $ done !
  rows_dup sharing bucket (row ∷ rows) =
      let One : Fml = all_tell R sharing (id_at bucket 0) (whole_row bucket row) in
      let Rest : Fml = rows_tell R sharing (suc bucket) rows in
      qed 𝓛 (‵ (rows_tell R sharing bucket (row ∷ rows)) ∷ []) ∵ fsplit ! $
      use1 𝓛 (‵ One ⊛ ‵ One) (all_dup 𝓛 R sharing (id_at bucket 0) (whole_row bucket row)) $
      split ! $ move ! (2 ∷ []) $ use1 𝓛 (‵ Rest ⊛ ‵ Rest) (rows_dup sharing (suc bucket) rows) $
      split ! $
      move ! (2 ∷ 0 ∷ []) $ fjoin ! $ frame ! $ move ! (1 ∷ 0 ∷ []) $ fjoin ! $ done !

  -- what is told of the id of a slot is what the rows say of it
  pub row_at : (sharing : Option ℕ) (bucket n i : ℕ) (rows : Rows) → AreWhole bucket rows
      → n < length rows → i < 2 ^ (n + bucket)
      → ⟦ rows_tell R sharing bucket rows ⟧
      ⊢ ⟦ tells R sharing (id_at (n + bucket) i)
      (slice_index_or (slice_index_or rows n []) i None) ⟧
  row_at sharing bucket n i [] are near inside = absurd (omega arith)
  row_at sharing bucket zero i (row ∷ rows) are near inside =
      let here : 0 + bucket ≡ bucket = omega arith in
      let in_row : i < 2 ^ bucket = subst (λ (b : ℕ). i < 2 ^ b) here inside in
      let at : i + id_at bucket 0 ≡ id_at (0 + bucket) i =
      subst (λ (b : ℕ). i + id_at bucket 0 ≡ id_at b i) (sym here) (omega arith) in
      qed 𝓛 (‵ (rows_tell R sharing bucket (row ∷ rows)) ∷ []) ∵ fsplit ! $ keep ! (0 ∷ []) $
      use1 𝓛 (‵ (tells R sharing (i + id_at bucket 0) (get_or (whole_row bucket row) i None)))
      (told_at 𝓛 R sharing (id_at bucket 0) i (whole_row bucket row)
      (subst (λ (m : ℕ). i < m) (sym (whole_length bucket row are.0)) in_row)) $
      rewrite ! 0 (λ (k : ℕ). ‵ (tells R sharing k (get_or (whole_row bucket row) i None)))
      at refl $
      rewrite ! 0 (λ (v : Option R.Denot). ‵ (tells R sharing (id_at (0 + bucket) i) v))
      (whole_at bucket i row in_row) refl $
      done !
  row_at sharing bucket (suc n) i (row ∷ rows) are near inside = let next : n + suc bucket ≡ suc n + bucket = omega arith in
      qed 𝓛 (‵ (rows_tell R sharing bucket (row ∷ rows)) ∷ []) ∵ fsplit ! $ keep ! (1 ∷ []) $
      use1 𝓛
      (‵ (tells R sharing (id_at (n + suc bucket) i)
      (slice_index_or (slice_index_or rows n []) i None)))
      (row_at sharing (suc bucket) n i rows are.1 (omega arith)
      (subst (λ (b : ℕ). i < 2 ^ b) (sym next) inside)) $
      rewrite ! 0 (λ (b : ℕ). ‵ (tells R sharing (id_at b i) (slice_index_or (slice_index_or rows n []) i None))) next refl $ done !

  -- the same of an id of a table
  pub contents_tell : (sharing : Option ℕ) (contents : Contents R.Denot) → IsTable contents
      → (id : ℕ) → id < 2 ^ 63 - 1
      → ⟦ rows_tell R sharing 0 contents.rows ⟧ ⊢ ⟦ tells R sharing id (values contents id) ⟧
  contents_tell sharing contents is id near =
      let b : ℕ = bucket_of id in
      let i : ℕ = index_of id in
      let same : b + 0 ≡ b = omega arith in
      let at : id_at (b + 0) i ≡ id = ap (λ (n : ℕ). id_at n i) same ∙ id_at-place id in
      let low : b < length contents.rows = subst (λ (n : ℕ). b < n) (sym is.buckets) (bucket_of-below id near) in
      qed 𝓛 (‵ (rows_tell R sharing 0 contents.rows) ∷ []) ∵
      use1 𝓛 (‵ (tells R sharing (id_at (b + 0) i) (values contents id)))
      (row_at sharing 0 b i contents.rows (table_whole contents is) low
      (subst (λ (n : ℕ). i < 2 ^ n) (sym same) (inside id))) $
      rewrite ! 0 (λ (k : ℕ). ‵ (tells R sharing k (values contents id))) at refl $ done !

module _ (R : RattleType) (sharing : Option ℕ) where
  all_tell_keyless : (id : ℕ) (slots : List (Option R.Denot)) → Keyless (all_tell R sharing id slots)
  all_tell_keyless id [] = tt
  all_tell_keyless id (v ∷ slots) = (tells_keyless R sharing id v, all_tell_keyless (suc id) slots)

  pub rows_keyless : (bucket : ℕ) (rows : List (List (Option R.Denot))) → Keyless (rows_tell R sharing bucket rows)
  rows_keyless bucket [] = tt
  rows_keyless bucket (row ∷ rows) = (all_tell_keyless (id_at bucket 0) (whole_row bucket row), rows_keyless (suc bucket) rows)
