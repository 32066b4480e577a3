-- The notes of ids: what whoever holds an id has of what its slot was published with, and what the
-- history keeps of it. Assumes `Logic`.
use Rattle.std.proofs.Common.{◌≡◌, ℕ, ◌-◌, ◌^◌, ◌<◌, ◌==◌, Bool, true, false, List, [], ◌∷◌, ◌++◌, if◌then◌else◌}
use Rattle.std.proofs.Common.{refl, ap, ◌∙◌, arith, Option, None, Some, is_some}
use Rattle.std.proofs.lemmas.Bool.{eqb-true, eq-eqb}
use Rattle.std.proofs.lemmas.Option.{same_Some}
use seplogic.Ra.Ura.{Ura}
use base.Logic.{SProp, guard}
use base.Fml.{GName, ftrue}
use base.Stored.{Gv}
use base.Shift.{Keyless}
use types.Logic.{Logic}
use types.Kit.{‵, ◌⊛◌, given, ◌$◌, ◌∵◌, !, qed, by, check, learn, move, keep, drop, split, fsplit, fjoin, rewrite, use1, use2, done}
use denote.Steps.{nothing}
use Rattle.thread_local_base.specs.IdMoves.{IdMove, Take, Give, Publish, noted, published_in, or_else, left_coded}
use Rattle.thread_local_base.proofs.IdMoveLaws.{published_apart}
use Rattle.thread_local_ids.specs.Rights.{is_out, less, right_owns, rights_own, note_key, slot_key, noted_at, noted_owns, note_owns, all_noted}
use Rattle.thread_local_ids.specs.Told.{noted_of}
use Rattle.thread_local_ids.specs.Sharings.{Sharing, First, Later}
use Rattle.thread_local_ids.proofs.NotedElements.{at_twice, never_at, at_alike, at_keyless}
use Rattle.thread_local_ids.proofs.RightElements.{rights_cut, rights_join, right_keyless}
use Rattle.thread_local_base.proofs.Signs.{signs}

-- the moves once an id's slot was published with a value, unless that was noted before
abbrev pub publishing_by : List IdMove → ℕ → Gv → Option Gv → List IdMove
publishing_by moves id g None = noted moves (Publish id g)
publishing_by moves id g (Some h) = moves

abbrev pub publishing : List IdMove → ℕ → Option Gv → List IdMove
publishing moves id None = moves
publishing moves id (Some g) = publishing_by moves id g (published_in moves id)

published_now : (moves : List IdMove) (id : ℕ) (g : Gv) → published_in moves id ≡ None
    → published_in (noted moves (Publish id g)) id ≡ Some g
published_now moves id g no_value =
    published_apart moves (Publish id g ∷ []) id
    ∙ ap (λ (v : Option Gv). or_else v (published_in (Publish id g ∷ []) id)) no_value
    ∙ rw (eq-eqb id id refl) refl

-- which rights are out once a note was handed out or came back
abbrev pub noted_out : Option Gv → ℕ → List ℕ → List ℕ
noted_out None id out = note_key id ∷ out
noted_out (Some g) id out = out

abbrev pub noted_back : Option Gv → ℕ → List ℕ → List ℕ
noted_back None id out = less out (note_key id)
noted_back (Some g) id out = out

module _ {M : Type 1} {𝓤 : Ura M} (𝓛 : Logic 𝓤) (γ : GName) where
  open signs 𝓛 use {⟦◌⟧, ◌⊢◌, ◌∗◌}

  infix 26 ◌⊢◌
  infixr 35 ◌∗◌
  -- ---- one note
  pub noted_twice : (id : ℕ) (g : Gv) → ⟦ noted_owns γ id g ⟧ ⊢ ⟦ noted_owns γ id g ⟧ ∗ ⟦ noted_owns γ id g ⟧
  noted_twice id g =
      let N = noted_at (note_key id) γ id g in
      let told : Gv = left_coded.code (Some g) in
      let S = noted_at (slot_key id) γ id told in
      qed 𝓛 (‵ (noted_owns γ id g) ∷ []) ∵ fsplit ! $
      use1 𝓛 (‵ N ⊛ ‵ N) (at_twice 𝓛 (note_key id) γ id g) $ split ! $ move ! (2 ∷ []) $
      use1 𝓛 (‵ S ⊛ ‵ S) (at_twice 𝓛 (slot_key id) γ id told) $ split ! $
      move ! (2 ∷ 0 ∷ []) $ fjoin ! $ move ! (2 ∷ 1 ∷ []) $ fjoin ! $ done !

  -- what is still to be noted wasn't noted
  pub never_noted : (id : ℕ) (g : Gv) (Z : SProp 𝓤) → ⟦ right_owns γ (note_key id) ⟧ ∗ ⟦ noted_owns γ id g ⟧ ⊢ Z
  never_noted id g Z =
      qed 𝓛 (‵ (right_owns γ (note_key id)) ∷ ‵ (noted_owns γ id g) ∷ []) ∵ move ! (1 ∷ []) $ fsplit ! $ keep ! (2 ∷ 0 ∷ []) $
      by ! (never_at 𝓛 (note_key id) γ id g Z)

  pub noted_alike : (id : ℕ) (g h : Gv)
      → ⟦ noted_owns γ id g ⟧ ∗ ⟦ noted_owns γ id h ⟧ ⊢ guard 𝓤 (g ≡ h) (⟦ noted_owns γ id g ⟧ ∗ ⟦ noted_owns γ id h ⟧)
  noted_alike id g h =
      let N = λ (v : Gv). noted_at (note_key id) γ id v in
      qed 𝓛 (‵ (noted_owns γ id g) ∷ ‵ (noted_owns γ id h) ∷ []) ∵ fsplit ! $ move ! (2 ∷ []) $ fsplit ! $ move ! (2 ∷ 0 ∷ []) $
      use2 𝓛 (given (g ≡ h) (‵ (N g) ⊛ ‵ (N h))) (at_alike 𝓛 (note_key id) γ id g h) $
      learn ! (λ same. split ! $ move ! (0 ∷ 3 ∷ []) $ fjoin ! $ move ! (1 ∷ 2 ∷ []) $ fjoin ! $ move ! (1 ∷ 0 ∷ []) $ check ! same $ done !)

  -- ---- all notes of a history
  pub all_twice : (moves : List IdMove) → ⟦ all_noted γ moves ⟧ ⊢ ⟦ all_noted γ moves ⟧ ∗ ⟦ all_noted γ moves ⟧
  all_twice [] = qed 𝓛 (‵ ftrue ∷ []) ∵ nothing ! $ done !
  all_twice (Take ∷ moves) = all_twice moves
  all_twice (Give id ∷ moves) = all_twice moves
  all_twice (Publish id g ∷ moves) =
      qed 𝓛 (‵ (all_noted γ (Publish id g ∷ moves)) ∷ []) ∵ fsplit ! $
      use1 𝓛 (‵ (noted_owns γ id g) ⊛ ‵ (noted_owns γ id g)) (noted_twice id g) $ split ! $ move ! (2 ∷ []) $
      use1 𝓛 (‵ (all_noted γ moves) ⊛ ‵ (all_noted γ moves)) (all_twice moves) $ split ! $
      move ! (2 ∷ 0 ∷ []) $ fjoin ! $ move ! (2 ∷ 1 ∷ []) $ fjoin ! $ done !

  pub all_has : (moves : List IdMove) (id : ℕ) (g : Gv) → published_in moves id ≡ Some g → ⟦ all_noted γ moves ⟧ ⊢ ⟦ noted_owns γ id g ⟧
  all_has [] id g e = cc
  all_has (Take ∷ moves) id g e = all_has moves id g e
  all_has (Give other ∷ moves) id g e = all_has moves id g e
  all_has (Publish other h ∷ moves) id g e = at (other == id) refl e (λ rest. all_has moves id g rest)
    where
      at : (t : Bool) → (other == id) ≡ t → (if t then Some h else published_in moves id) ≡ Some g
          → (published_in moves id ≡ Some g → ⟦ all_noted γ moves ⟧ ⊢ ⟦ noted_owns γ id g ⟧)
          → ⟦ all_noted γ (Publish other h ∷ moves) ⟧ ⊢ ⟦ noted_owns γ id g ⟧
      at true is e behind =
          qed 𝓛 (‵ (all_noted γ (Publish other h ∷ moves)) ∷ []) ∵ fsplit ! $ keep ! (0 ∷ []) $
          rewrite ! 0 (λ (k : ℕ). ‵ (noted_owns γ k h)) (eqb-true other id is) refl $
          rewrite ! 0 (λ (v : Gv). ‵ (noted_owns γ id v)) (same_Some h g e) refl $ done !
      at false is e behind =
          qed 𝓛 (‵ (all_noted γ (Publish other h ∷ moves)) ∷ []) ∵ fsplit ! $ keep ! (1 ∷ []) $
          use1 𝓛 (‵ (noted_owns γ id g)) (behind e) $ done !

  pub all_more : (before later : List IdMove) → ⟦ all_noted γ before ⟧ ∗ ⟦ all_noted γ later ⟧ ⊢ ⟦ all_noted γ (before ++ later) ⟧
  all_more [] later = qed 𝓛 (‵ ftrue ∷ ‵ (all_noted γ later) ∷ []) ∵ keep ! (1 ∷ []) $ done !
  all_more (Take ∷ before) later = all_more before later
  all_more (Give id ∷ before) later = all_more before later
  all_more (Publish id g ∷ before) later =
      qed 𝓛 (‵ (all_noted γ (Publish id g ∷ before)) ∷ ‵ (all_noted γ later) ∷ []) ∵ fsplit ! $ move ! (1 ∷ 2 ∷ []) $
      use2 𝓛 (‵ (all_noted γ (before ++ later))) (all_more before later) $ move ! (1 ∷ 0 ∷ []) $ fjoin ! $ done !

  -- ---- the steps
  -- a take hands out the note of what the history says was published
  pub note_taken : (moves : List IdMove) (out : List ℕ) (id : ℕ) (v : Option Gv) → id < 2 ^ 63 - 1 → published_in moves id ≡ v
      → is_out out (note_key id) ≡ is_some v
      → ⟦ rights_own γ out ⟧ ∗ ⟦ all_noted γ moves ⟧
      ⊢ ⟦ note_owns γ id v ⟧ ∗ ⟦ rights_own γ (noted_out v id out) ⟧ ∗ ⟦ all_noted γ moves ⟧
  note_taken moves out id None low e free =
      qed 𝓛 (‵ (rights_own γ out) ∷ ‵ (all_noted γ moves) ∷ []) ∵
      use1 𝓛 (‵ (right_owns γ (note_key id)) ⊛ ‵ (rights_own γ (note_key id ∷ out))) (rights_cut 𝓛 γ out (note_key id) (omega (arith, low)) free) $
      split ! $ done !
  note_taken moves out id (Some g) low e free =
      qed 𝓛 (‵ (rights_own γ out) ∷ ‵ (all_noted γ moves) ∷ []) ∵ move ! (1 ∷ []) $
      use1 𝓛 (‵ (all_noted γ moves) ⊛ ‵ (all_noted γ moves)) (all_twice moves) $ split ! $
      use1 𝓛 (‵ (noted_owns γ id g)) (all_has moves id g e) $ move ! (0 ∷ 2 ∷ 1 ∷ []) $ done !

  -- A return brings the note back. What it says is noted, unless it was before. From then on the history
  -- says of the id what its slot was left with.
  abbrev Left : List IdMove → ℕ → Option Gv → List ℕ → SProp 𝓤
  Left moves id v out =
      guard 𝓤 ((published_in (publishing moves id v) id ≡ v) × (is_some v ≡ false → is_out out (note_key id) ≡ true))
      (⟦ rights_own γ (noted_back v id out) ⟧ ∗ ⟦ all_noted γ (publishing moves id v) ⟧)

  gives_none : (moves : List IdMove) (out : List ℕ) (id : ℕ) (p : Option Gv) → id < 2 ^ 63 - 1 → published_in moves id ≡ p
      → ⟦ rights_own γ out ⟧ ∗ ⟦ all_noted γ moves ⟧ ∗ ⟦ right_owns γ (note_key id) ⟧ ⊢ Left moves id None out
  gives_none moves out id None low e =
      qed 𝓛 (‵ (rights_own γ out) ∷ ‵ (all_noted γ moves) ∷ ‵ (right_owns γ (note_key id)) ∷ []) ∵ move ! (2 ∷ 0 ∷ []) $
      use2 𝓛 (given (is_out out (note_key id) ≡ true) (‵ (rights_own γ (less out (note_key id)))))
      (rights_join 𝓛 γ out (note_key id) (omega (arith, low))) $
      learn ! (λ gone. check ! (e, λ _. gone) $ done !)
  gives_none moves out id (Some g) low e =
      qed 𝓛 (‵ (rights_own γ out) ∷ ‵ (all_noted γ moves) ∷ ‵ (right_owns γ (note_key id)) ∷ []) ∵ keep ! (1 ∷ 2 ∷ []) $
      use1 𝓛 (‵ (noted_owns γ id g)) (all_has moves id g e) $ move ! (1 ∷ 0 ∷ []) $ by ! (never_noted id g _)

  gives_some : (moves : List IdMove) (out : List ℕ) (id : ℕ) (g : Gv) (p : Option Gv) → published_in moves id ≡ p
      → ⟦ rights_own γ out ⟧ ∗ ⟦ all_noted γ moves ⟧ ∗ ⟦ noted_owns γ id g ⟧
      ⊢ guard 𝓤 ((published_in (publishing_by moves id g p) id ≡ Some g) × (true ≡ false → is_out out (note_key id) ≡ true))
      (⟦ rights_own γ out ⟧ ∗ ⟦ all_noted γ (publishing_by moves id g p) ⟧)
  gives_some moves out id g None e =
      qed 𝓛 (‵ (rights_own γ out) ∷ ‵ (all_noted γ moves) ∷ ‵ (noted_owns γ id g) ∷ []) ∵
      move ! (2 ∷ []) $ nothing ! $ move ! (1 ∷ 0 ∷ []) $ fjoin ! $
      use1 𝓛 (‵ (all_noted γ (Publish id g ∷ []))) (id_of (Publish id g ∷ [])) $
      -- [the new note; the rights; the notes]
      move ! (2 ∷ 0 ∷ []) $ use2 𝓛 (‵ (all_noted γ (noted moves (Publish id g)))) (all_more moves (Publish id g ∷ [])) $
      check ! (published_now moves id g e, λ (never : true ≡ false). cc) $ move ! (1 ∷ 0 ∷ []) $ done !
    where
      id_of : (ms : List IdMove) → ⟦ all_noted γ ms ⟧ ⊢ ⟦ all_noted γ ms ⟧
      id_of ms = qed 𝓛 (‵ (all_noted γ ms) ∷ []) ∵ done !
  gives_some moves out id g (Some h) e =
      qed 𝓛 (‵ (rights_own γ out) ∷ ‵ (all_noted γ moves) ∷ ‵ (noted_owns γ id g) ∷ []) ∵ move ! (1 ∷ []) $
      use1 𝓛 (‵ (all_noted γ moves) ⊛ ‵ (all_noted γ moves)) (all_twice moves) $ split ! $
      use1 𝓛 (‵ (noted_owns γ id h)) (all_has moves id h e) $ move ! (0 ∷ 3 ∷ []) $
      use2 𝓛 (given (h ≡ g) (‵ (noted_owns γ id h) ⊛ ‵ (noted_owns γ id g))) (noted_alike id h g) $
      learn ! (λ same. split ! $ drop ! $ drop ! $ check ! (e ∙ ap Some same, λ (never : true ≡ false). cc) $
      move ! (1 ∷ 0 ∷ []) $ done !)

  pub note_given : (moves : List IdMove) (out : List ℕ) (id : ℕ) (v : Option Gv) → id < 2 ^ 63 - 1
      → ⟦ rights_own γ out ⟧ ∗ ⟦ all_noted γ moves ⟧ ∗ ⟦ note_owns γ id v ⟧ ⊢ Left moves id v out
  note_given moves out id None low = gives_none moves out id (published_in moves id) low refl
  note_given moves out id (Some g) low = gives_some moves out id g (published_in moves id) refl

pub noted_keyless : (γ id : ℕ) (g : Gv) → Keyless (noted_owns γ id g)
noted_keyless γ id g = (at_keyless (note_key id) γ id g, at_keyless (slot_key id) γ id (left_coded.code (Some g)))

pub note_keyless : (γ id : ℕ) (left : Option Gv) → Keyless (note_owns γ id left)
note_keyless γ id None = right_keyless γ (note_key id)
note_keyless γ id (Some g) = noted_keyless γ id g

pub all_noted_keyless : (γ : ℕ) (moves : List IdMove) → Keyless (all_noted γ moves)
all_noted_keyless γ [] = tt
all_noted_keyless γ (Take ∷ moves) = all_noted_keyless γ moves
all_noted_keyless γ (Give id ∷ moves) = all_noted_keyless γ moves
all_noted_keyless γ (Publish id g ∷ moves) = (noted_keyless γ id g, all_noted_keyless γ moves)

pub noted_of_keyless : (sharing : Sharing) (id : ℕ) (g : Gv) → Keyless (noted_of sharing id g)
noted_of_keyless (First table) id g = at_keyless (note_key id) table id g
noted_of_keyless (Later γ) id g = tt
