-- The note of an id and what is told of its slot agree, in the first sharing of a table. Assumes `Logic`.
use Rattle.std.proofs.Common.{◌≡◌, ℕ, ◌/◌, ◌%◌, ◌==◌, Bool, true, false, [], ◌∷◌, if◌then◌else◌}
use Rattle.std.proofs.Common.{refl, sym, ap, arith, Option, None, Some}
use Rattle.std.proofs.lemmas.Bool.{eqb-true, eqb-false}
use Rattle.std.specs.Coded.{coded_option}
use seplogic.Ra.Ura.{Ura}
use base.Logic.{SProp, guard, emp, upd, upd_i}
use base.Fml.{Fml}
use base.Stored.{Gv}
use types.Logic.{Logic}
use types.Kit.{‵, raw, ◌⊛◌, given, settle, suffices, ◌$◌, ◌∵◌, !, qed, by, check, learn, move, keep, split, fsplit, fjoin}
use types.Kit.{rewrite, use0, use1, use2, done}
use denote.RattleType.{RattleType}
use denote.Steps.{nothing}
use Rattle.thread_local_ids.specs.Rights.{slot_key, note_key, noted_at, note_owns}
use Rattle.thread_local_base.specs.IdMoves.{left_coded}
use Rattle.thread_local_ids.specs.Sharings.{Sharing, first_of, sharing_by, is_first, belongs, Belongs}
use Rattle.thread_local_ids.specs.Told.{untold_of, told_of, noted_of, untold_in, noted_in, tells, told_or_untold}
use Rattle.thread_local_ids.specs.Sharings.{left_of, left_after}
use Rattle.thread_local_ids.proofs.NotedElements.{notes_at, never_at, at_alike}
use Rattle.thread_local_ids.proofs.ToldElements.{first_is, tells_some, tells_dup}
use Rattle.thread_local_base.proofs.Signs.{signs}

module _ {M : Type 1} {𝓤 : Ura M} (𝓛 : Logic 𝓤) where
  open signs 𝓛 use {⟦◌⟧, ◌⊢◌, ◌∗◌}

  infix 26 ◌⊢◌
  infixr 35 ◌∗◌
  -- ---- in the first sharing of a table
  -- of a slot of which it is untold nothing is noted and told
  pub untold_note : (table id : ℕ) (g : Gv) (Z : SProp 𝓤)
      → ⟦ untold_in (Some (first_of table)) id ⟧ ∗ ⟦ note_owns table id (Some g) ⟧ ⊢ Z
  untold_note table id g Z =
      qed 𝓛 (‵ (untold_in (Some (first_of table)) id) ∷ ‵ (note_owns table id (Some g)) ∷ []) ∵
      rewrite ! 0 (λ (s : Sharing). ‵ (untold_of s id)) (first_is table) refl $ move ! (1 ∷ []) $ fsplit ! $
      -- [what is noted; what is told; what is untold]
      keep ! (2 ∷ 1 ∷ []) $ by ! (never_at 𝓛 (slot_key id) table id (left_coded.code (Some g)) Z)

  module _ (R : RattleType) (table : ℕ) where
    abbrev V : Type 0
    V = Option R.Denot

    abbrev Here : Option ℕ
    Here = Some (first_of table)

    abbrev Agree : ℕ → V → Option Gv → SProp 𝓤
    Agree id v left = guard 𝓤 (left ≡ left_of R v) (⟦ told_or_untold R Here id v ⟧ ∗ ⟦ note_owns table id left ⟧)

    -- the note of an id says what is told of it
    pub note_agrees : (id : ℕ) (v : Option R.Denot) (left : Option Gv)
        → ⟦ told_or_untold R (Some (first_of table)) id v ⟧ ∗ ⟦ note_owns table id left ⟧
        ⊢ guard 𝓤 (left ≡ left_of R v) (⟦ told_or_untold R (Some (first_of table)) id v ⟧ ∗ ⟦ note_owns table id left ⟧)
    note_agrees id None None =
        qed 𝓛 (‵ (untold_in Here id) ∷ ‵ (note_owns table id None) ∷ []) ∵ check ! refl $ done !
    note_agrees id None (Some g) = untold_note table id g (Agree id None (Some g))
    note_agrees id (Some x) None =
        let g : Gv = R.coded.code x in
        qed 𝓛 (‵ (tells R Here id (Some x)) ∷ ‵ (note_owns table id None) ∷ []) ∵ fsplit ! $ move ! (1 ∷ []) $
        rewrite ! 0 (λ (s : Sharing). ‵ (noted_of s id g)) (first_is table) refl $
        -- [what is noted; what is told; the note]
        keep ! (2 ∷ 0 ∷ []) $ by ! (never_at 𝓛 (note_key id) table id g (Agree id (Some x) None))
    note_agrees id (Some x) (Some h) =
        let g : Gv = R.coded.code x in
        let N : Gv → Fml = noted_at (note_key id) table id in
        qed 𝓛 (‵ (tells R Here id (Some x)) ∷ ‵ (note_owns table id (Some h)) ∷ []) ∵ fsplit ! $ move ! (2 ∷ []) $ fsplit ! $
        -- [what the note says, and that it is told; what is told of the slot, and that it is noted]
        move ! (3 ∷ []) $ rewrite ! 0 (λ (s : Sharing). ‵ (noted_of s id g)) (first_is table) refl $ move ! (1 ∷ 0 ∷ []) $
        use2 𝓛 (given (h ≡ g) (‵ (N h) ⊛ ‵ (N g))) (at_alike 𝓛 (note_key id) table id h g) $
        learn ! (λ same. check ! (ap Some same) $ split ! $
        move ! (1 ∷ []) $ rewrite ! 0 (λ (s : Sharing). ‵ (noted_of s id g)) (sym (first_is table)) refl $
        -- [what is noted of the slot; what the note says; what it tells; what is told of the slot]
        move ! (3 ∷ 0 ∷ []) $ fjoin ! $ move ! (1 ∷ 2 ∷ []) $ fjoin ! $ move ! (1 ∷ 0 ∷ []) $ done !)

    -- and so of a slot that is published
    pub tells_note : (id : ℕ) (x : R.Denot) (left : Option Gv)
        → ⟦ tells R (Some (first_of table)) id (Some x) ⟧ ∗ ⟦ note_owns table id left ⟧
        ⊢ guard 𝓤 (left ≡ left_of R (Some x)) (⟦ tells R (Some (first_of table)) id (Some x) ⟧ ∗ ⟦ note_owns table id left ⟧)
    tells_note id x left = note_agrees id (Some x) left

  -- ---- what is published is noted and told
  -- in a sharing that isn't the table's first nothing is noted
  nothing_by : (odd : Bool) (n table id : ℕ) (g : Gv) → (n % 2 == 1) ≡ odd → belongs (sharing_by odd (n / 2)) table
      → is_first (Some n) table ≡ false → emp 𝓤 ⊢ ⟦ noted_of (sharing_by odd (n / 2)) id g ⟧
  nothing_by true n table id g odd same later =
      let rest : n % 2 ≡ 1 = eqb-true (n % 2) 1 odd in
      let half : n / 2 ≡ table = same in
      let first : n ≡ first_of table = omega (arith, rest, half) in
      absurd (eqb-false n (first_of table) later first)
  nothing_by false n table id g odd same later = qed 𝓛 [] ∵ nothing ! $ done !

  nothing_noted : (sharing : Option ℕ) (table id : ℕ) (g : Gv) → Belongs sharing table → is_first sharing table ≡ false
      → emp 𝓤 ⊢ ⟦ noted_in sharing id g ⟧
  nothing_noted None table id g same later = qed 𝓛 [] ∵ nothing ! $ done !
  nothing_noted (Some n) table id g same later = nothing_by (n % 2 == 1) n table id g refl same later

  abbrev Publishes : (R : RattleType) → Bool → Option ℕ → ℕ → ℕ → Option Gv → R.Denot → SProp 𝓤
  Publishes R first sharing table id left x =
      ⟦ tells R sharing id (Some x) ⟧ ∗ ⟦ note_owns table id (if first then Some (R.coded.code x) else left) ⟧

  publishes_by : (R : RattleType) (first : Bool) (sharing : Option ℕ) (table id : ℕ) (left : Option Gv) (x : R.Denot)
      → is_first sharing table ≡ first → Belongs sharing table
      → ⟦ untold_in sharing id ⟧ ∗ ⟦ note_owns table id left ⟧ ⊢ upd 𝓤 (Publishes R first sharing table id left x)
  publishes_by R false sharing table id left x later same =
      let g : Gv = R.coded.code x in
      let Z : SProp 𝓤 = Publishes R false sharing table id left x in
      qed 𝓛 (‵ (untold_in sharing id) ∷ ‵ (note_owns table id left) ∷ []) ∵
      use0 𝓛 (‵ (noted_in sharing id g)) (nothing_noted sharing table id g same later) $ move ! (1 ∷ 0 ∷ []) $
      use2 𝓛 (raw (upd 𝓤 ⟦ tells R sharing id (Some x) ⟧)) (tells_some 𝓛 R sharing id x) $
      settle 𝓛 Z (‵ (tells R sharing id (Some x))) $ suffices ! _ (upd_i 𝓤 Z) $ done !
  publishes_by R true None table id left x first same = cc
  publishes_by R true (Some n) table id left x first same =
      let g : Gv = R.coded.code x in
      let told : Gv = (coded_option R.coded).code (Some x) in
      let here : Option ℕ = Some (first_of table) in
      let is : n ≡ first_of table = eqb-true n (first_of table) first in
      let N : Fml = noted_at (note_key id) table id g in
      let T : Option ℕ → Fml = λ s. tells R s id (Some x) in
      let Z : SProp 𝓤 = Publishes R true (Some n) table id left x in
      qed 𝓛 (‵ (untold_in (Some n) id) ∷ ‵ (note_owns table id left) ∷ []) ∵
      rewrite ! 0 (λ (k : ℕ). ‵ (untold_in (Some k) id)) is refl $
      use2 𝓛 (given (◌≡◌ {A = Option Gv} left None) (‵ (untold_in here id) ⊛ ‵ (note_owns table id left))) (note_agrees R table id None left) $
      learn ! (λ none. split ! $ move ! (1 ∷ []) $ rewrite ! 0 (λ (l : Option Gv). ‵ (note_owns table id l)) none refl $
      use1 𝓛 (raw (upd 𝓤 ⟦ N ⟧)) (notes_at 𝓛 (note_key id) table id g) $ settle 𝓛 Z (‵ N) $
      rewrite ! 0 (λ (s : Sharing). ‵ (noted_of s id g)) (sym (first_is table)) refl $ move ! (1 ∷ 0 ∷ []) $
      use2 𝓛 (raw (upd 𝓤 ⟦ T here ⟧)) (tells_some 𝓛 R here id x) $ settle 𝓛 Z (‵ (T here)) $
      use1 𝓛 (‵ (T here) ⊛ ‵ (T here)) (tells_dup 𝓛 R here id (Some x)) $ split ! $
      rewrite ! 0 (λ (k : ℕ). ‵ (T (Some k))) (sym is) refl $ move ! (1 ∷ []) $ fsplit ! $
      rewrite ! 0 (λ (s : Sharing). ‵ (told_of s id told)) (first_is table) refl $ move ! (1 ∷ []) $
      rewrite ! 0 (λ (s : Sharing). ‵ (noted_of s id g)) (first_is table) refl $ fjoin ! $
      move ! (1 ∷ 0 ∷ []) $ suffices ! _ (upd_i 𝓤 Z) $ done !)

  -- Whoever has the note of an id publishes a value in its slot: it is noted and told, where the sharing is the
  -- table's first.
  pub publishes_noted : (R : RattleType) (sharing : Option ℕ) (table id : ℕ) (left : Option Gv) (x : R.Denot) → Belongs sharing table
      → ⟦ untold_in sharing id ⟧ ∗ ⟦ note_owns table id left ⟧
      ⊢ upd 𝓤 (⟦ tells R sharing id (Some x) ⟧ ∗ ⟦ note_owns table id (left_after R sharing table left (Some x)) ⟧)
  publishes_noted R sharing table id left x same = publishes_by R (is_first sharing table) sharing table id left x refl same
