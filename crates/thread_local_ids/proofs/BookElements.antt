-- What an owner's book tells of a table is what the history of its ids says. Assumes `Logic`.
use Rattle.std.proofs.Common.{◌≡◌, ℕ, ◌-◌, ◌^◌, ◌<◌, ◌||◌, Bool, true, false, List, [], ◌∷◌, refl, sym, ap, ◌∙◌, Option, None, Some, is_some}
use Rattle.std.proofs.lemmas.Bool.{false≢true}
use Rattle.std.specs.Coded.{Coded-set, Π_prop}
use mathlib.Core.Logic.{∥∥₁_elim}
use seplogic.Ra.Ura.{Ura}
use base.Logic.{SProp, ent, guard, guard_i, guard_e, via, with_fact}
use base.Fml.{Fml, ftrue}
use base.Stored.{Gv}
use types.Logic.{Logic}
use types.Kit.{‵, ◌⊛◌, given, ◌$◌, ◌∵◌, !, qed, check, learn, move, keep, drop, split3, fsplit, rewrite, use1, use2, use3, done}
use denote.RattleType.{RattleType}
use denote.Steps.{nothing}
use Rattle.thread_local_base.specs.Buckets.{Contents, IsTable, values}
use Rattle.thread_local_base.specs.Held.{is_held}
use Rattle.thread_local_base.specs.IdMoves.{IdMove, left_coded, held_after, published_in}
use Rattle.thread_local_ids.specs.Rights.{slot_key, note_key, noted_at, rights_own, note_owns, all_noted, is_out, AreNotedOut}
use Rattle.thread_local_ids.specs.Told.{told_of, tells, rows_tell}
use Rattle.thread_local_ids.specs.Sharings.{Sharing, first_of, is_first, left_of}
use Rattle.thread_local_ids.proofs.NotedElements.{at_alike}
use Rattle.thread_local_ids.proofs.NoteElements.{noted_out, note_taken}
use Rattle.thread_local_ids.proofs.ToldNotes.{tells_note}
use Rattle.thread_local_ids.proofs.ToldElements.{first_is, first_only}
use Rattle.thread_local_ids.proofs.Rows.{contents_tell}
use Rattle.thread_local_base.proofs.Signs.{signs}

none_is_not : (g : Gv) → ◌≡◌ {A = Option Gv} None (Some g) → ⊥
none_is_not g e = cc

-- what holds of each holds of all
module _ {M : Type 1} (𝓤 : Ura M) {A : Type 0} (φ : A → Type 0) (φp : (x : A) → IsProp (φ x)) (P Q : SProp 𝓤) where
  all_facts : ((x : A) → ent 𝓤 P (guard 𝓤 (φ x) Q)) → ent 𝓤 P (guard 𝓤 ((x : A) → φ x) P)
  all_facts so =
      with_fact 𝓤 ((x : A) → φ x) (Π_prop φp)
      (record { apply = λ a h. record { lower = λ x. ∥∥₁_elim ((so x).apply a h) (φp x) (λ t. t.0) } })
      (λ all. guard_i 𝓤 ((x : A) → φ x) P all)

module _ {M : Type 1} {𝓤 : Ura M} (𝓛 : Logic 𝓤) (R : RattleType) (table : ℕ) where
  open signs 𝓛 use {⟦◌⟧, ◌⊢◌, ◌∗◌}

  infix 26 ◌⊢◌
  infixr 35 ◌∗◌
  abbrev Here : Option ℕ
  Here = Some (first_of table)

  -- what is told at the end says what the note says
  told_left : (id : ℕ) (v : Option R.Denot) (left : Option Gv)
      → ⟦ tells R Here id v ⟧ ∗ ⟦ note_owns table id left ⟧ ⊢ guard 𝓤 (left ≡ left_of R v) ⟦ ftrue ⟧
  told_left id (Some x) left =
      qed 𝓛 (‵ (tells R Here id (Some x)) ∷ ‵ (note_owns table id left) ∷ []) ∵
      use2 𝓛 (given (left ≡ left_of R (Some x)) (‵ (tells R Here id (Some x)) ⊛ ‵ (note_owns table id left)))
      (tells_note 𝓛 R table id x left) $
      learn ! (λ same. check ! same $ drop ! $ nothing ! $ done !)
  told_left id None None =
      qed 𝓛 (‵ (tells R Here id None) ∷ ‵ (note_owns table id None) ∷ []) ∵ check ! refl $ drop ! $ drop ! $ nothing ! $ done !
  told_left id None (Some g) =
      let none : Option Gv = None in
      let N : Gv → Fml = noted_at (slot_key id) table id in
      qed 𝓛 (‵ (tells R Here id None) ∷ ‵ (note_owns table id (Some g)) ∷ []) ∵
      rewrite ! 0 (λ (s : Sharing). ‵ (told_of s id (left_coded.code none))) (first_is table) refl $
      move ! (1 ∷ []) $ fsplit ! $ move ! (2 ∷ 1 ∷ []) $
      use2 𝓛 (given (left_coded.code none ≡ left_coded.code (Some g)) (‵ (N (left_coded.code none)) ⊛ ‵ (N (left_coded.code (Some g)))))
      (at_alike 𝓛 (slot_key id) table id (left_coded.code none) (left_coded.code (Some g))) $
      learn ! (λ same. absurd (none_is_not g (left_coded.inj none (Some g) same)))

  module _ (contents : Contents R.Denot) (is : IsTable contents) (moves : List IdMove) (out : List ℕ) (noted : AreNotedOut out moves) where
    abbrev Rows : Fml
    Rows = rows_tell R Here 0 contents.rows

    abbrev All : SProp 𝓤
    All = ⟦ Rows ⟧ ∗ ⟦ rights_own table out ⟧ ∗ ⟦ all_noted table moves ⟧

    abbrev Says : ℕ → Type 0
    Says id = published_in moves id ≡ left_of R (values contents id)

    one_left : (id : ℕ) → id < 2 ^ 63 - 1 → is_held (held_after moves) id ≡ false → All ⊢ guard 𝓤 (Says id) ⟦ ftrue ⟧
    one_left id low free =
        let v : Option Gv = published_in moves id in
        let kept : is_out out (note_key id) ≡ is_some v = noted id low ∙ ap (λ (h : Bool). h || is_some v) free in
        let T : Fml = tells R Here id (values contents id) in
        qed 𝓛 (‵ Rows ∷ ‵ (rights_own table out) ∷ ‵ (all_noted table moves) ∷ []) ∵
        use1 𝓛 (‵ T) (contents_tell 𝓛 R Here contents is id low) $ move ! (1 ∷ 2 ∷ []) $
        use2 𝓛 (‵ (note_owns table id v) ⊛ ‵ (rights_own table (noted_out v id out)) ⊛ ‵ (all_noted table moves))
        (note_taken 𝓛 table moves out id v low refl kept) $
        split3 ! $ keep ! (3 ∷ 0 ∷ []) $
        use2 𝓛 (given (Says id) (‵ ftrue)) (told_left id (values contents id) v) $ learn ! (λ same. check ! same $ done !)

    abbrev AllSay : Type 0
    AllSay = (id : ℕ) → id < 2 ^ 63 - 1 → is_held (held_after moves) id ≡ false → Says id

    -- an id in range that isn't held
    abbrev Free : Type 0
    Free = (id : ℕ) × ((id < 2 ^ 63 - 1) × (is_held (held_after moves) id ≡ false))

    -- so it is of each id that isn't held
    all_left : All ⊢ guard 𝓤 AllSay All
    all_left =
        via 𝓤 (guard 𝓤 ((z : Free) → Says z.0) All)
        (all_facts 𝓤 (λ (z : Free). Says z.0)
        (λ z. Coded-set left_coded (published_in moves z.0) (left_of R (values contents z.0)))
        All ⟦ ftrue ⟧ (λ z. one_left z.0 z.1.0 z.1.1))
        (guard_e 𝓤 ((z : Free) → Says z.0) All (λ all. guard_i 𝓤 AllSay All (λ id low free. all (id, (low, free)))))

    -- where the sharing is the first
    pub left_if : (sharing : Option ℕ)
        → ⟦ rows_tell R sharing 0 contents.rows ⟧ ∗ ⟦ rights_own table out ⟧ ∗ ⟦ all_noted table moves ⟧
        ⊢ guard 𝓤 (is_first sharing table ≡ true → AllSay)
        (⟦ rows_tell R sharing 0 contents.rows ⟧ ∗ ⟦ rights_own table out ⟧ ∗ ⟦ all_noted table moves ⟧)
    left_if sharing = by_test (is_first sharing table) refl
      where
        by_test : (t : Bool) → is_first sharing table ≡ t
            → ⟦ rows_tell R sharing 0 contents.rows ⟧ ∗ ⟦ rights_own table out ⟧ ∗ ⟦ all_noted table moves ⟧
            ⊢ guard 𝓤 (is_first sharing table ≡ true → AllSay)
            (⟦ rows_tell R sharing 0 contents.rows ⟧ ∗ ⟦ rights_own table out ⟧ ∗ ⟦ all_noted table moves ⟧)
        by_test true is =
            qed 𝓛 (‵ (rows_tell R sharing 0 contents.rows) ∷ ‵ (rights_own table out) ∷ ‵ (all_noted table moves) ∷ []) ∵
            rewrite ! 0 (λ (z : Option ℕ). ‵ (rows_tell R z 0 contents.rows)) (first_only sharing table is) refl $
            use3 𝓛 (given AllSay (‵ Rows ⊛ ‵ (rights_own table out) ⊛ ‵ (all_noted table moves))) all_left $
            learn ! (λ all. check ! (λ _. all) $ split3 ! $
            rewrite ! 0 (λ (z : Option ℕ). ‵ (rows_tell R z 0 contents.rows)) (sym (first_only sharing table is)) refl $ done !)
        by_test false is =
            qed 𝓛 (‵ (rows_tell R sharing 0 contents.rows) ∷ ‵ (rights_own table out) ∷ ‵ (all_noted table moves) ∷ []) ∵
            check ! (λ so. absurd (false≢true (sym is ∙ so))) $ done !
