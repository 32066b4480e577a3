-- What lies with the word of the first ids: how each step on the word changes it. Assumes `Logic`.
use Rattle.std.proofs.Common.{◌≡◌, ◌≢◌, ℕ, ◌+◌, ◌-◌, ◌*◌, ◌/◌, ◌%◌, ◌^◌, ◌<◌, ◌≤◌, ◌==◌, ◌&&◌, Bool, true, false, List, [], ◌∷◌, length}
use Rattle.std.proofs.Common.{if◌then◌else◌, refl, sym, ap, subst, ◌∙◌, arith, min, eqb}
use Rattle.std.proofs.lemmas.Bool.{eqb-true}
use mathlib.Core.List.{IsPrefix}
use mathlib.Core.Logic.{dite}
use native.Mathlib.Decide.{ℕ_discrete}
use seplogic.Ra.Ura.{Ura}
use base.Logic.{SProp, upd, upd_i, guard, guard_i, id⊢}
use base.Fml.{GName, Lft, Share, Fml, ftrue, fsep, fex, flft, fbor}
use base.Shift.{Keyless}
use prog.Atomic.{either}
use types.Logic.{Logic}
use types.Kit.{‵, raw, ◌⊛◌, given, settle, frame, check, suffices, ◌$◌, ◌∵◌, !, qed, by, move, keep, drop, split, split3, fsplit}
use types.Kit.{fsplit3, fjoin, fpick, fpack, learn, rewrite, use1, use2, use3, done}
use denote.RawPtr.{block_ptr}
use denote.Steps.{nothing}
use Rattle.std.specs.Sync.RawAtomic.{asks, always}
use Rattle.thread_local_base.specs.Bits.{IsLowestUnset}
use Rattle.thread_local_base.specs.Fact.{fact}
use Rattle.thread_local_base.specs.Held.{is_held, least, with_least, without, HoldsAllBelow}
use Rattle.std.proofs.Common.{◌||◌, Option, None, Some, is_some}
use base.Stored.{Gv}
use Rattle.thread_local_base.specs.IdMoves.{IdMove, Take, Give, held_after, noted, published_in}
use Rattle.thread_local_ids.proofs.NoteElements.{publishing, publishing_by, noted_out, noted_back, note_taken, note_given, all_more}
use Rattle.thread_local_ids.proofs.NoteElements.{all_noted_keyless}
use Rattle.thread_local_ids.proofs.NoteLaws.{noted_taken, noted_given, beside_notes, held_publishing, out_noted, out_noted_back}
use Rattle.thread_local_ids.proofs.NoteLaws.{early_publishing, left_stays}
use Rattle.thread_local_base.specs.SharedWord.{word_invariant}
use Rattle.thread_local_base.proofs.HeldLaws.{least_free, is_held-without, length-without}
use Rattle.thread_local_base.proofs.IdMoveLaws.{after_take, after_give}
use Rattle.thread_local_base.proofs.SharedWord.{stepped}
use Rattle.thread_local_base.proofs.Signs.{signs}
use Rattle.thread_local_ids.specs.Rights.{is_out, less, right_owns, right_in, rights_own, history_owns, page_owns, tenure_of, taken_id}
use Rattle.thread_local_ids.specs.Rights.{note_key, note_owns, all_noted, AreNotedOut}
use Rattle.thread_local_ids.specs.FirstIds.{IsWordOf, IsSameBeyond, IsGivenBeyond, HasFurther, AreOutOf, IsTiedTo, IsReturn, Kept, is_full, word_with}
use Rattle.thread_local_ids.specs.FirstIds.{log_key, log_owns, ledger_owns, kept_with, lies_with}
use Rattle.thread_local_ids.proofs.FirstLaws as laws
use Rattle.thread_local_ids.proofs.Logs.{O, halved, joined, agree, grown}
use Rattle.thread_local_ids.proofs.MoveElements.{note_take, note_give, note_publish, page_of, page_is_early, history_once}
use Rattle.thread_local_ids.proofs.MoveElements.{history_keyless}
use Rattle.thread_local_ids.proofs.RightElements.{rights_cut, rights_join, rights_keyless}

module _ {M : Type 1} {𝓤 : Ura M} (𝓛 : Logic 𝓤) where
  open 𝓛 use {A}
  open signs 𝓛 use {⟦◌⟧, ◌⊢◌, ◌∗◌}

  infix 26 ◌⊢◌
  infixr 35 ◌∗◌
  -- ---- the log
  pub log_halved : (γ : GName) (log : List IdMove) → ⟦ log_owns γ true log ⟧ ⊢ ⟦ log_owns γ false log ⟧ ∗ ⟦ log_owns γ false log ⟧
  unfolding log_owns
  log_halved γ log = halved 𝓛 log_key γ log

  -- no two words are of one table
  word_once : (γ n m : ℕ) (Z : SProp 𝓤) → ⟦ lies_with γ n ⟧ ∗ ⟦ lies_with γ m ⟧ ⊢ Z
  word_once γ n m Z =
      qed 𝓛 (‵ (lies_with γ n) ∷ ‵ (lies_with γ m) ∷ []) ∵ fpick ! (λ s. fsplit ! $ fsplit ! $ move ! (3 ∷ []) $
      fpick ! (λ r. fsplit ! $ fsplit ! $ keep ! (0 ∷ 3 ∷ []) $ by ! (history_once 𝓛 γ r.0 s.0 Z)))

  pub tables_apart : (γ δ n m : ℕ) → ⟦ lies_with γ n ⟧ ∗ ⟦ lies_with δ m ⟧ ⊢ guard 𝓤 (γ ≢ δ) (⟦ lies_with γ n ⟧ ∗ ⟦ lies_with δ m ⟧)
  tables_apart γ δ n m =
      let Both : SProp 𝓤 = ⟦ lies_with γ n ⟧ ∗ ⟦ lies_with δ m ⟧ in
      dite (ℕ_discrete γ δ)
      (λ same. subst (λ (x : ℕ). ⟦ lies_with γ n ⟧ ∗ ⟦ lies_with x m ⟧ ⊢ guard 𝓤 (γ ≢ δ) Both) same (word_once γ n m (guard 𝓤 (γ ≢ δ) Both)))
      (λ differ. guard_i 𝓤 (γ ≢ δ) Both differ)

  log_agrees : (γ : GName) (a b : List IdMove)
      → ⟦ log_owns γ false a ⟧ ∗ ⟦ log_owns γ false b ⟧ ⊢ guard 𝓤 (a ≡ b) (⟦ log_owns γ false a ⟧ ∗ ⟦ log_owns γ false b ⟧)
  unfolding log_owns
  log_agrees γ a b = agree 𝓛 log_key γ a b

  log_joined : (γ : GName) (a : List IdMove) → ⟦ log_owns γ false a ⟧ ∗ ⟦ log_owns γ false a ⟧ ⊢ ⟦ log_owns γ true a ⟧
  unfolding log_owns
  log_joined γ a = joined 𝓛 log_key γ a

  log_whole_grows : (γ : GName) (a b : List IdMove) → IsPrefix a b → ⟦ log_owns γ true a ⟧ ⊢ upd 𝓤 ⟦ log_owns γ true b ⟧
  unfolding log_owns
  log_whole_grows γ a b early = grown 𝓛 log_key γ a b early

  log_grows : (γ : GName) (a b : List IdMove) → IsPrefix a b
      → ⟦ log_owns γ false a ⟧ ∗ ⟦ log_owns γ false a ⟧ ⊢ upd 𝓤 (⟦ log_owns γ false b ⟧ ∗ ⟦ log_owns γ false b ⟧)
  log_grows γ a b early =
      let Z = ⟦ log_owns γ false b ⟧ ∗ ⟦ log_owns γ false b ⟧ in
      qed 𝓛 (‵ (log_owns γ false a) ∷ ‵ (log_owns γ false a) ∷ []) ∵
      use2 𝓛 (‵ (log_owns γ true a)) (log_joined γ a) $
      use1 𝓛 (raw (upd 𝓤 ⟦ log_owns γ true b ⟧)) (log_whole_grows γ a b early) $
      settle 𝓛 Z (‵ (log_owns γ true b)) $
      use1 𝓛 (‵ (log_owns γ false b) ⊛ ‵ (log_owns γ false b)) (log_halved γ b) $ suffices ! _ (upd_i 𝓤 Z) $ split ! $ done !

  -- ---- the ledger: the history with all that it notes
  ledger_early : (γ : GName) (moves seen : List IdMove)
      → ⟦ ledger_owns γ moves ⟧ ∗ ⟦ page_owns γ seen ⟧
      ⊢ guard 𝓤 (IsPrefix seen moves) (⟦ ledger_owns γ moves ⟧ ∗ ⟦ page_owns γ seen ⟧)
  ledger_early γ moves seen =
      qed 𝓛 (‵ (ledger_owns γ moves) ∷ ‵ (page_owns γ seen) ∷ []) ∵ fsplit ! $ move ! (0 ∷ 2 ∷ []) $
      use2 𝓛 (given (IsPrefix seen moves) (‵ (history_owns γ moves) ⊛ ‵ (page_owns γ seen))) (page_is_early 𝓛 γ moves seen) $
      learn ! (λ so. check ! so $ split ! $ move ! (0 ∷ 2 ∷ []) $ fjoin ! $ done !)

  ledger_page : (γ : GName) (moves : List IdMove) → ⟦ ledger_owns γ moves ⟧ ⊢ ⟦ page_owns γ moves ⟧ ∗ ⟦ ledger_owns γ moves ⟧
  ledger_page γ moves =
      qed 𝓛 (‵ (ledger_owns γ moves) ∷ []) ∵ fsplit ! $
      use1 𝓛 (‵ (page_owns γ moves) ⊛ ‵ (history_owns γ moves)) (page_of 𝓛 γ moves) $ split ! $ frame ! $ fjoin ! $ done !

  -- ---- taking and giving back
  -- which rights are out once the least id is taken
  abbrev out_of : List IdMove → List ℕ → List ℕ
  out_of moves out = noted_out (published_in moves (taken_id moves)) (taken_id moves) (taken_id moves ∷ out)

  -- what a step leaves, by whether it took the least id after these moves, or saw them
  abbrev pub tried_owns : GName → List IdMove → Bool → Fml
  tried_owns γ moves t = right_in γ moves t false (published_in moves (taken_id moves))

  -- the rights of the least id go out, with its note, and its take is noted
  taken : (γ : GName) (moves : List IdMove) (out : List ℕ) → AreOutOf out (held_after moves) → AreNotedOut out moves
      → taken_id moves < 2 ^ 63 - 1
      → ⟦ ledger_owns γ moves ⟧ ∗ ⟦ rights_own γ out ⟧
      ⊢ upd 𝓤 (⟦ tried_owns γ moves true ⟧ ∗ ⟦ ledger_owns γ (noted moves Take) ⟧ ∗ ⟦ rights_own γ (out_of moves out) ⟧)
  taken γ moves out are notes low =
      let id : ℕ = taken_id moves in
      let v : Option Gv = published_in moves id in
      let more : List IdMove = noted moves Take in
      let out' : List ℕ = out_of moves out in
      let free : is_out out id ≡ false = are id low ∙ least_free (held_after moves) in
      let note_free : is_out (id ∷ out) (note_key id) ≡ is_some v =
      beside_notes out id id low ∙ notes id low ∙ ap (λ (b : Bool). b || is_some v) (least_free (held_after moves)) in
      let Z = ⟦ tried_owns γ moves true ⟧ ∗ ⟦ ledger_owns γ more ⟧ ∗ ⟦ rights_own γ out' ⟧ in
      qed 𝓛 (‵ (ledger_owns γ moves) ∷ ‵ (rights_own γ out) ∷ []) ∵ fsplit ! $
      use1 𝓛 (raw (upd 𝓤 (⟦ tenure_of γ moves ⟧ ∗ ⟦ history_owns γ more ⟧))) (note_take 𝓛 γ moves) $
      settle 𝓛 Z (‵ (tenure_of γ moves) ⊛ ‵ (history_owns γ more)) $ suffices ! _ (upd_i 𝓤 Z) $ split ! $
      -- [the tenure; the history; what is noted; the rights]
      move ! (3 ∷ []) $ use1 𝓛 (‵ (right_owns γ id) ⊛ ‵ (rights_own γ (id ∷ out))) (rights_cut 𝓛 γ out id (omega (arith, low)) free) $ split ! $
      -- [the right; the rights; the tenure; the history; what is noted]
      move ! (1 ∷ 4 ∷ []) $
      use2 𝓛 (‵ (note_owns γ id v) ⊛ ‵ (rights_own γ out') ⊛ ‵ (all_noted γ moves)) (note_taken 𝓛 γ moves (id ∷ out) id v low refl note_free) $
      split3 ! $
      -- [the note; the rights; what is noted; the right; the tenure; the history]
      move ! (3 ∷ 0 ∷ []) $ fjoin ! $
      -- [the right with its note; the rights; what is noted; the tenure; the history]
      move ! (3 ∷ 0 ∷ []) $ fjoin ! $ frame ! $
      -- [the rights; what is noted; the history]
      nothing ! $ use1 𝓛 (‵ (all_noted γ (Take ∷ []))) (id⊢ 𝓤 _) $ move ! (2 ∷ 0 ∷ []) $
      use2 𝓛 (‵ (all_noted γ more)) (all_more 𝓛 γ moves (Take ∷ [])) $
      move ! (2 ∷ 0 ∷ []) $ fjoin ! $ done !

  -- the history once it notes what a slot is left with
  history_with : (γ : GName) (moves : List IdMove) (id : ℕ) (v : Option Gv)
      → ⟦ history_owns γ moves ⟧ ⊢ upd 𝓤 ⟦ history_owns γ (publishing moves id v) ⟧
  history_with γ moves id None = upd_i 𝓤 ⟦ history_owns γ moves ⟧
  history_with γ moves id (Some g) = at (published_in moves id)
    where
      at : (p : Option Gv) → ⟦ history_owns γ moves ⟧ ⊢ upd 𝓤 ⟦ history_owns γ (publishing_by moves id g p) ⟧
      at None = note_publish 𝓛 γ moves id g
      at (Some h) = upd_i 𝓤 ⟦ history_owns γ moves ⟧

  -- what comes back with an id: its tenure, and the right with what its slot is left with
  abbrev pub gone : GName → List IdMove → Option Gv → Fml
  gone γ before left = right_in γ before true false left

  -- the moves with the return of an id, before which it is noted what its slot is left with
  abbrev with_return : List IdMove → List IdMove → Option Gv → List IdMove
  with_return moves before left = noted (publishing moves (taken_id before) left) (Give (taken_id before))

  abbrev MayReturn : List IdMove → List IdMove → Option Gv → Type 0
  MayReturn moves before left =
      (is_held (held_after moves) (taken_id before) ≡ true) × IsPrefix (noted before Take) moves
      × (published_in (publishing moves (taken_id before) left) (taken_id before) ≡ left)

  -- the rights to an id that was taken come back, with what its slot is left with, and its return is noted
  given_back : (γ : GName) (moves before : List IdMove) (out : List ℕ) (left : Option Gv) → AreOutOf out (held_after moves)
      → taken_id before < 2 ^ 63 - 1
      → ⟦ ledger_owns γ moves ⟧ ∗ ⟦ rights_own γ out ⟧ ∗ ⟦ gone γ before left ⟧
      ⊢ guard 𝓤 (MayReturn moves before left)
      (upd 𝓤 (⟦ page_owns γ (with_return moves before left) ⟧ ∗ ⟦ ledger_owns γ (with_return moves before left) ⟧
      ∗ ⟦ rights_own γ (noted_back left (taken_id before) (less out (taken_id before))) ⟧))
  given_back γ moves before out left are low =
      let id : ℕ = taken_id before in
      let since : List IdMove = publishing moves id left in
      let more : List IdMove = noted since (Give id) in
      let early : Type 0 = IsPrefix (noted before Take) moves in
      let back : List ℕ = less out id in
      let Says : Type 0 = (published_in since id ≡ left) × (is_some left ≡ false → is_out back (note_key id) ≡ true) in
      let Z = ⟦ page_owns γ more ⟧ ∗ ⟦ ledger_owns γ more ⟧ ∗ ⟦ rights_own γ (noted_back left id back) ⟧ in
      qed 𝓛 (‵ (ledger_owns γ moves) ∷ ‵ (rights_own γ out) ∷ ‵ (gone γ before left) ∷ []) ∵
      move ! (2 ∷ []) $ fsplit ! $ move ! (1 ∷ []) $ fsplit ! $
      -- [the right; its note; the tenure; the ledger; the rights]
      move ! (0 ∷ 4 ∷ []) $
      use2 𝓛 (given (is_out out id ≡ true) (‵ (rights_own γ back))) (rights_join 𝓛 γ out id (omega (arith, low))) $
      learn ! (λ off.
      let held : is_held (held_after moves) id ≡ true = sym (are id low) ∙ off in
      -- [the rights; the note; the tenure; the ledger]
      move ! (3 ∷ []) $ fsplit ! $ move ! (2 ∷ 1 ∷ 3 ∷ []) $
      use3 𝓛 (given Says (‵ (rights_own γ (noted_back left id back)) ⊛ ‵ (all_noted γ since))) (note_given 𝓛 γ moves back id left low) $
      learn ! (λ says. split ! $
      -- [the rights; what is noted; the history; the tenure]
      move ! (3 ∷ []) $ fsplit ! $ move ! (4 ∷ 0 ∷ []) $
      use2 𝓛 (given early (‵ (history_owns γ moves) ⊛ ‵ (page_owns γ (noted before Take)))) (page_is_early 𝓛 γ moves (noted before Take)) $
      learn ! (λ so. split ! $ check ! (held, so, says.0) $ move ! (1 ∷ 2 ∷ []) $ fjoin ! $ move ! (1 ∷ []) $
      -- [the history; the tenure; the rights; what is noted]
      use1 𝓛 (raw (upd 𝓤 ⟦ history_owns γ since ⟧)) (history_with γ moves id left) $ settle 𝓛 Z (‵ (history_owns γ since)) $ move ! (0 ∷ 1 ∷ []) $
      use2 𝓛 (raw (upd 𝓤 (⟦ page_owns γ more ⟧ ∗ ⟦ history_owns γ more ⟧)))
      (note_give 𝓛 γ since before (ap (λ h. is_held h id) (held_publishing moves id left) ∙ held)) $
      settle 𝓛 Z (‵ (page_owns γ more) ⊛ ‵ (history_owns γ more)) $ suffices ! _ (upd_i 𝓤 Z) $ split ! $ frame ! $
      -- [the history; the rights; what is noted]
      nothing ! $ use1 𝓛 (‵ (all_noted γ (Give id ∷ []))) (id⊢ 𝓤 _) $ move ! (3 ∷ 0 ∷ []) $
      use2 𝓛 (‵ (all_noted γ more)) (all_more 𝓛 γ since (Give id ∷ [])) $ move ! (1 ∷ 0 ∷ []) $ fjoin ! $ done !)))

  -- ---- what a step on the word changes
  abbrev pub took : GName → ℕ → List IdMove → Fml
  took γ id seen =
      fex (List IdMove) (λ before. fsep (fact (IsPrefix seen before × (id ≡ taken_id before))) (tried_owns γ before true))

  -- the least id is taken, which is a first one
  pub takes_first : (γ : GName) (n id : ℕ) (seen : List IdMove) → IsLowestUnset (n / 64) id → id < 58
      → ⟦ lies_with γ n ⟧ ∗ ⟦ page_owns γ seen ⟧ ⊢ upd 𝓤 (⟦ lies_with γ (word_with n id) ⟧ ∗ ⟦ took γ id seen ⟧)
  takes_first γ n id seen low first =
      let Z = ⟦ lies_with γ (word_with n id) ⟧ ∗ ⟦ took γ id seen ⟧ in
      qed 𝓛 (‵ (lies_with γ n) ∷ ‵ (page_owns γ seen) ∷ []) ∵ fpick ! (λ s. fsplit3 ! $ move ! (2 ∷ []) $ fsplit ! $ move ! (1 ∷ []) $
      let moves : List IdMove = s.0 in
      let out : List ℕ = s.1.0 in
      let log : List IdMove = s.1.1 in
      fpick ! (λ tied. drop ! $
      let more : List IdMove = noted moves Take in
      let is : id ≡ taken_id moves = laws.lowest_is_least n id (held_after moves) tied.word low first in
      let least_low : taken_id moves < 58 = subst (λ (k : ℕ). k < 58) is first in
      let range : taken_id moves < 2 ^ 63 - 1 = omega (arith, least_low) in
      let now : held_after more ≡ with_least (held_after moves) = after_take moves in
      let out' : List ℕ = out_of moves out in
      let tied' : IsTiedTo (word_with n id) more out' log = record {
        word = subst (IsWordOf (word_with n id)) (sym now) (laws.word_taken n id (held_after moves) tied.word low first);
        rights = subst (AreOutOf out') (sym now) (out_noted (taken_id moves ∷ out) (with_least (held_after moves))
            (taken_id moves) (published_in moves (taken_id moves))
            (laws.out_taken out (held_after moves) (taken_id moves) tied.rights refl));
        notes = noted_taken out moves (taken_id moves) (published_in moves (taken_id moves)) tied.notes refl range refl;
        beyond = subst (IsSameBeyond (held_after log)) (sym now) (laws.beyond_taken (held_after log) (held_after moves) tied.beyond least_low);
        peak = tied.peak ∙ sym (ap (λ (h : List Bool). length h - 58) now ∙ laws.peak_taken (held_after moves) least_low);
        early = O.trans log moves more tied.early (Take ∷ [], refl);
      } in
      -- [the log; the history; the rights; the page]
      move ! (1 ∷ 3 ∷ []) $
      use2 𝓛 (given (IsPrefix seen moves) (‵ (ledger_owns γ moves) ⊛ ‵ (page_owns γ seen))) (ledger_early γ moves seen) $
      learn ! (λ so. split ! $ move ! (1 ∷ []) $ drop ! $ move ! (0 ∷ 2 ∷ []) $
      use2 𝓛 (raw (upd 𝓤 (⟦ tried_owns γ moves true ⟧ ∗ ⟦ ledger_owns γ more ⟧ ∗ ⟦ rights_own γ out' ⟧)))
      (taken γ moves out tied.rights tied.notes range) $
      settle 𝓛 Z (‵ (tried_owns γ moves true) ⊛ ‵ (ledger_owns γ more) ⊛ ‵ (rights_own γ out')) $ suffices ! _ (upd_i 𝓤 Z) $ split3 ! $
      -- [what the take leaves; the history; the rights; the log]
      nothing ! $ fpack ! (IsPrefix seen moves × (id ≡ taken_id moves)) (λ _. ftrue) (so, is) $ move ! (0 ∷ 1 ∷ []) $ fjoin ! $
      fpack ! (List IdMove) (λ before. fsep (fact (IsPrefix seen before × (id ≡ taken_id before))) (tried_owns γ before true)) moves $
      nothing ! $ fpack ! (IsTiedTo (word_with n id) more out' log) (λ _. ftrue) tied' $ move ! (4 ∷ 0 ∷ []) $ fjoin ! $
      move ! (3 ∷ 0 ∷ []) $ fjoin ! $ move ! (2 ∷ 0 ∷ []) $ fjoin ! $ fpack ! Kept (kept_with γ (word_with n id)) (more, (out', log)) $
      frame ! $ done !)))

  -- a compare and exchange takes the least id where it writes, and sees the moves where it doesn't
  abbrev pub tried : GName → ℕ → List IdMove → Bool → Fml
  tried γ id seen t =
      fex (List IdMove) (λ before. fsep (fact (IsPrefix seen before × (t ≡ true → id ≡ taken_id before))) (tried_owns γ before t))

  tries_if : (γ : GName) (n old id : ℕ) (seen : List IdMove) (t : Bool) → (n == old) ≡ t → IsLowestUnset (old / 64) id → id < 58
      → ⟦ lies_with γ n ⟧ ∗ ⟦ page_owns γ seen ⟧ ⊢ upd 𝓤 (⟦ lies_with γ (either t (word_with old id) n) ⟧ ∗ ⟦ tried γ id seen t ⟧)
  tries_if γ n old id seen true e low first =
      let same : n ≡ old = eqb-true n old e in
      let Z = ⟦ lies_with γ (word_with old id) ⟧ ∗ ⟦ tried γ id seen true ⟧ in
      qed 𝓛 (‵ (lies_with γ n) ∷ ‵ (page_owns γ seen) ∷ []) ∵ rewrite ! 0 (λ (k : ℕ). ‵ (lies_with γ k)) same refl $
      use2 𝓛 (raw (upd 𝓤 (⟦ lies_with γ (word_with old id) ⟧ ∗ ⟦ took γ id seen ⟧))) (takes_first γ old id seen low first) $
      settle 𝓛 Z (‵ (lies_with γ (word_with old id)) ⊛ ‵ (took γ id seen)) $ suffices ! _ (upd_i 𝓤 Z) $ split ! $ frame ! $
      fpick ! (λ before. fsplit ! $ fpick ! (λ so. drop ! $
      nothing ! $ fpack ! (IsPrefix seen before × (true ≡ true → id ≡ taken_id before)) (λ _. ftrue) (so.0, λ _. so.1) $ fjoin ! $
      fpack ! (List IdMove) (λ m. fsep (fact (IsPrefix seen m × (true ≡ true → id ≡ taken_id m))) (tried_owns γ m true)) before $ done !))
  tries_if γ n old id seen false e low first =
      let Z = ⟦ lies_with γ n ⟧ ∗ ⟦ tried γ id seen false ⟧ in
      qed 𝓛 (‵ (lies_with γ n) ∷ ‵ (page_owns γ seen) ∷ []) ∵ suffices ! _ (upd_i 𝓤 Z) $ fpick ! (λ s. fsplit ! $ move ! (0 ∷ 2 ∷ []) $
      use2 𝓛 (given (IsPrefix seen s.0) (‵ (ledger_owns γ s.0) ⊛ ‵ (page_owns γ seen))) (ledger_early γ s.0 seen) $
      learn ! (λ so. split ! $ move ! (1 ∷ []) $ drop ! $
      use1 𝓛 (‵ (page_owns γ s.0) ⊛ ‵ (ledger_owns γ s.0)) (ledger_page γ s.0) $ split ! $
      -- [the page; the history; the rest]
      move ! (1 ∷ 2 ∷ []) $ fjoin ! $ fpack ! Kept (kept_with γ n) s $ frame ! $
      nothing ! $ fpack ! (IsPrefix seen s.0 × (false ≡ true → id ≡ taken_id s.0)) (λ _. ftrue) (so, λ no. cc) $ fjoin ! $
      fpack ! (List IdMove) (λ m. fsep (fact (IsPrefix seen m × (false ≡ true → id ≡ taken_id m))) (tried_owns γ m false)) s.0 $ done !))

  -- a load sees the moves, or takes the least id, which is a further one
  pub record Looked (n : ℕ) (seen log before : List IdMove) : Type 0 where
    pub early : IsPrefix seen before
    pub word : IsWordOf n (held_after before)
    pub beyond : IsSameBeyond (held_after log) (held_after before)
    pub peak : length (held_after log) - 58 ≡ length (held_after before) - 58

  abbrev pub looked : GName → ℕ → List IdMove → List IdMove → Bool → Fml
  looked γ n seen log t =
      fex (List IdMove) (λ before. fsep (fact (Looked n seen log before))
      (fsep (tried_owns γ before t) (log_owns γ false (if t then noted before Take else log))))

  looks_if : (γ : GName) (n : ℕ) (seen log : List IdMove) (t : Bool) → (t ≡ true → is_full n ≡ true × HasFurther (held_after log))
      → ⟦ lies_with γ n ⟧ ∗ ⟦ fsep (page_owns γ seen) (log_owns γ false log) ⟧ ⊢ upd 𝓤 (⟦ lies_with γ n ⟧ ∗ ⟦ looked γ n seen log t ⟧)
  looks_if γ n seen log true may =
      let Z = ⟦ lies_with γ n ⟧ ∗ ⟦ looked γ n seen log true ⟧ in
      qed 𝓛 (‵ (lies_with γ n) ∷ ‵ (fsep (page_owns γ seen) (log_owns γ false log)) ∷ []) ∵
      fpick ! (λ s. fsplit3 ! $ move ! (2 ∷ []) $ fsplit ! $ move ! (1 ∷ []) $
      let moves : List IdMove = s.0 in
      let out : List ℕ = s.1.0 in
      -- [the fact; the log; the history; the rights; the page and the log]
      fpick ! (λ tied. drop ! $ move ! (3 ∷ []) $ fsplit ! $ move ! (2 ∷ 1 ∷ []) $
      -- [the log; the other log; the page; the history; the rights]
      use2 𝓛 (given (s.1.1 ≡ log) (‵ (log_owns γ false s.1.1) ⊛ ‵ (log_owns γ false log))) (log_agrees γ s.1.1 log) $
      learn ! (λ same. split ! $ rewrite ! 0 (λ (l : List IdMove). ‵ (log_owns γ false l)) same refl $
      let more : List IdMove = noted moves Take in
      let held : List Bool = held_after moves in
      let now : held_after more ≡ with_least held = after_take moves in
      let beyond : IsSameBeyond (held_after log) held = subst (λ (l : List IdMove). IsSameBeyond (held_after l) held) same tied.beyond in
      let full : HoldsAllBelow 58 held = laws.full_holds n held tied.word (may refl).0 in
      let high : 58 ≤ least held = laws.full_least held full in
      let range : taken_id moves < 2 ^ 63 - 1 = laws.least_in_range (held_after log) held beyond (may refl).1 in
      let out' : List ℕ = out_of moves out in
      let seen_so : (early : IsPrefix seen moves) → Looked n seen log moves = λ early. record {
        early = early;
        word = tied.word;
        beyond = beyond;
        peak = subst (λ (l : List IdMove). length (held_after l) - 58 ≡ length held - 58) same tied.peak;
      } in
      let tied' : IsTiedTo n more out' more = record {
        word = subst (IsWordOf n) (sym now) (laws.word_stays n held (with_least held) tied.word (laws.low_taken held high) (laws.low_peak held high));
        rights = subst (AreOutOf out') (sym now) (out_noted (taken_id moves ∷ out) (with_least held)
            (taken_id moves) (published_in moves (taken_id moves))
            (laws.out_taken out held (taken_id moves) tied.rights refl));
        notes = noted_taken out moves (taken_id moves) (published_in moves (taken_id moves)) tied.notes refl range refl;
        beyond = λ id further. refl;
        peak = refl;
        early = O.same more;
      } in
      use2 𝓛 (raw (upd 𝓤 (⟦ log_owns γ false more ⟧ ∗ ⟦ log_owns γ false more ⟧))) (log_grows γ log more
      (O.trans log moves more (subst (λ (l : List IdMove). IsPrefix l moves) same tied.early) (Take ∷ [], refl))) $
      settle 𝓛 Z (‵ (log_owns γ false more) ⊛ ‵ (log_owns γ false more)) $ split ! $
      -- [the log; the other log; the page; the history; the rights]
      move ! (3 ∷ 2 ∷ []) $
      use2 𝓛 (given (IsPrefix seen moves) (‵ (ledger_owns γ moves) ⊛ ‵ (page_owns γ seen))) (ledger_early γ moves seen) $
      learn ! (λ so. split ! $ move ! (1 ∷ []) $ drop ! $ move ! (0 ∷ 3 ∷ []) $
      use2 𝓛 (raw (upd 𝓤 (⟦ tried_owns γ moves true ⟧ ∗ ⟦ ledger_owns γ more ⟧ ∗ ⟦ rights_own γ out' ⟧)))
      (taken γ moves out tied.rights tied.notes range) $
      settle 𝓛 Z (‵ (tried_owns γ moves true) ⊛ ‵ (ledger_owns γ more) ⊛ ‵ (rights_own γ out')) $ suffices ! _ (upd_i 𝓤 Z) $ split3 ! $
      -- [what the take leaves; the history; the rights; the log; the other log]
      move ! (0 ∷ 4 ∷ []) $ fjoin ! $ nothing ! $ fpack ! (Looked n seen log moves) (λ _. ftrue) (seen_so so) $ fjoin ! $
      fpack ! (List IdMove) (λ m. fsep (fact (Looked n seen log m)) (fsep (tried_owns γ m true) (log_owns γ false (noted m Take)))) moves $
      nothing ! $ fpack ! (IsTiedTo n more out' more) (λ _. ftrue) tied' $ move ! (4 ∷ 0 ∷ []) $ fjoin ! $
      move ! (3 ∷ 0 ∷ []) $ fjoin ! $ move ! (2 ∷ 0 ∷ []) $ fjoin ! $ fpack ! Kept (kept_with γ n) (more, (out', more)) $
      frame ! $ done !))))
  looks_if γ n seen log false may =
      let Z = ⟦ lies_with γ n ⟧ ∗ ⟦ looked γ n seen log false ⟧ in
      qed 𝓛 (‵ (lies_with γ n) ∷ ‵ (fsep (page_owns γ seen) (log_owns γ false log)) ∷ []) ∵ suffices ! _ (upd_i 𝓤 Z) $
      fpick ! (λ s. fsplit3 ! $ move ! (2 ∷ []) $ fsplit ! $ move ! (1 ∷ []) $
      let moves : List IdMove = s.0 in
      fpick ! (λ tied. drop ! $ move ! (3 ∷ []) $ fsplit ! $ move ! (2 ∷ 1 ∷ []) $
      -- [the log; the other log; the page; the history; the rights]
      use2 𝓛 (given (s.1.1 ≡ log) (‵ (log_owns γ false s.1.1) ⊛ ‵ (log_owns γ false log))) (log_agrees γ s.1.1 log) $
      learn ! (λ same. split ! $ move ! (3 ∷ 2 ∷ []) $
      use2 𝓛 (given (IsPrefix seen moves) (‵ (ledger_owns γ moves) ⊛ ‵ (page_owns γ seen))) (ledger_early γ moves seen) $
      learn ! (λ so. split ! $ move ! (1 ∷ []) $ drop ! $
      use1 𝓛 (‵ (page_owns γ moves) ⊛ ‵ (ledger_owns γ moves)) (ledger_page γ moves) $ split ! $
      -- [the page; the history; the log; the other log; the rights]
      let seen_so : Looked n seen log moves = record {
        early = so;
        word = tied.word;
        beyond = subst (λ (l : List IdMove). IsSameBeyond (held_after l) (held_after moves)) same tied.beyond;
        peak = subst (λ (l : List IdMove). length (held_after l) - 58 ≡ length (held_after moves) - 58) same tied.peak;
      } in
      move ! (0 ∷ 3 ∷ []) $ fjoin ! $ nothing ! $ fpack ! (Looked n seen log moves) (λ _. ftrue) seen_so $ fjoin ! $
      fpack ! (List IdMove) (λ m. fsep (fact (Looked n seen log m)) (fsep (tried_owns γ m false) (log_owns γ false log))) moves $
      -- [what was seen; the history; the log; the rights]
      nothing ! $ fpack ! (IsTiedTo n moves s.1.0 s.1.1) (λ _. ftrue) tied $ move ! (3 ∷ 0 ∷ []) $ fjoin ! $
      move ! (3 ∷ 0 ∷ []) $ fjoin ! $ move ! (2 ∷ 0 ∷ []) $ fjoin ! $ fpack ! Kept (kept_with γ n) s $
      frame ! $ done !))))

  -- an id is given back
  abbrev pub Returned : List IdMove → Option Gv → List IdMove → Type 0
  Returned before left more = IsReturn before (taken_id before) more × (published_in more (taken_id before) ≡ left)

  abbrev pub returned : GName → List IdMove → Option Gv → Fml
  returned γ before left = fex (List IdMove) (λ more. fsep (fact (Returned before left more)) (page_owns γ more))

  pub gives_first : (γ : GName) (n k : ℕ) (before : List IdMove) (left : Option Gv) → taken_id before < 58
      → k ≡ 64 * 2 ^ taken_id before % 2 ^ 64
      → ⟦ lies_with γ n ⟧ ∗ ⟦ gone γ before left ⟧ ⊢ upd 𝓤 (⟦ lies_with γ ((n + (2 ^ 64 - k)) % 2 ^ 64) ⟧ ∗ ⟦ returned γ before left ⟧)
  gives_first γ n k before left first k_is =
      let id : ℕ = taken_id before in
      let n' : ℕ = (n + (2 ^ 64 - k)) % 2 ^ 64 in
      let Z = ⟦ lies_with γ n' ⟧ ∗ ⟦ returned γ before left ⟧ in
      qed 𝓛 (‵ (lies_with γ n) ∷ ‵ (gone γ before left) ∷ []) ∵
      fpick ! (λ s. fsplit3 ! $ move ! (2 ∷ []) $ fsplit ! $ move ! (1 ∷ []) $
      let moves : List IdMove = s.0 in
      let out : List ℕ = s.1.0 in
      let log : List IdMove = s.1.1 in
      let since : List IdMove = publishing moves id left in
      let more : List IdMove = noted since (Give id) in
      let held : List Bool = held_after moves in
      let out' : List ℕ = noted_back left id (less out id) in
      let range : id < 2 ^ 63 - 1 = omega (arith, first) in
      let now : held_after more ≡ without held id = after_give since id ∙ ap (λ h. without h id) (held_publishing moves id left) in
      let later : IsPrefix moves more = O.trans moves since more (early_publishing moves id left) (Give id ∷ [], refl) in
      -- [the fact; the log; the history; the rights; what comes back]
      fpick ! (λ tied. drop ! $ move ! (1 ∷ 2 ∷ 3 ∷ []) $
      use3 𝓛 (given (MayReturn moves before left) (raw (upd 𝓤 (⟦ page_owns γ more ⟧ ∗ ⟦ ledger_owns γ more ⟧ ∗ ⟦ rights_own γ out' ⟧))))
      (given_back γ moves before out left tied.rights range) $ learn ! (λ so.
      let plain : k ≡ 64 * 2 ^ id = k_is ∙ laws.bit_in_word id first in
      let tied' : IsTiedTo n' more out' log = record {
        word = subst (IsWordOf n') (sym now) (subst (λ (j : ℕ). IsWordOf ((n + (2 ^ 64 - j)) % 2 ^ 64) (without held id)) (sym plain)
            (laws.word_given n id held tied.word first so.0));
        rights = subst (AreOutOf out') (sym now) (out_noted_back (less out id) (without held id) id left
            (laws.out_given out held id tied.rights));
        notes = noted_given out moves id left tied.notes range so.0 so.2;
        beyond = subst (IsSameBeyond (held_after log)) (sym now) (laws.beyond_given (held_after log) held id tied.beyond first);
        peak = tied.peak ∙ sym (ap (λ (h : List Bool). length h - 58) now ∙ ap (λ (j : ℕ). j - 58) (length-without held id));
        early = O.trans log moves more tied.early later;
      } in
      settle 𝓛 Z (‵ (page_owns γ more) ⊛ ‵ (ledger_owns γ more) ⊛ ‵ (rights_own γ out')) $ suffices ! _ (upd_i 𝓤 Z) $ split3 ! $
      -- [the page; the history; the rights; the log]
      nothing ! $ fpack ! (Returned before left more) (λ _. ftrue) (
        record { since = since; given = refl; early = O.trans (noted before Take) moves since so.1 (early_publishing moves id left) },
        left_stays since id ∙ so.2,
      ) $
      fjoin ! $ fpack ! (List IdMove) (λ m. fsep (fact (Returned before left m)) (page_owns γ m)) more $
      nothing ! $ fpack ! (IsTiedTo n' more out' log) (λ _. ftrue) tied' $ move ! (4 ∷ 0 ∷ []) $ fjoin ! $
      move ! (3 ∷ 0 ∷ []) $ fjoin ! $ move ! (2 ∷ 0 ∷ []) $ fjoin ! $ fpack ! Kept (kept_with γ n') (more, (out', log)) $
      frame ! $ done !)))

  -- a further id is given back
  abbrev pub ReturnedFurther : List IdMove → List IdMove → Option Gv → List IdMove → Type 0
  ReturnedFurther before log left more = Returned before left more × IsGivenBeyond (held_after log) (held_after more) (taken_id before)

  abbrev pub returned_further : GName → List IdMove → List IdMove → Option Gv → Fml
  returned_further γ before log left =
      fex (List IdMove) (λ more. fsep (fact (ReturnedFurther before log left more)) (fsep (page_owns γ more) (log_owns γ false more)))

  pub gives_further : (γ : GName) (n : ℕ) (before log : List IdMove) (left : Option Gv) → 58 ≤ taken_id before
      → taken_id before < 2 ^ 63 - 1
      → ⟦ lies_with γ n ⟧ ∗ ⟦ fsep (log_owns γ false log) (gone γ before left) ⟧
      ⊢ upd 𝓤 (⟦ lies_with γ n ⟧ ∗ ⟦ returned_further γ before log left ⟧)
  gives_further γ n before log left further range =
      let id : ℕ = taken_id before in
      let Z = ⟦ lies_with γ n ⟧ ∗ ⟦ returned_further γ before log left ⟧ in
      qed 𝓛 (‵ (lies_with γ n) ∷ ‵ (fsep (log_owns γ false log) (gone γ before left)) ∷ []) ∵
      fpick ! (λ s. fsplit3 ! $ move ! (2 ∷ []) $ fsplit ! $ move ! (1 ∷ []) $
      let moves : List IdMove = s.0 in
      let out : List ℕ = s.1.0 in
      let since : List IdMove = publishing moves id left in
      let more : List IdMove = noted since (Give id) in
      let held : List Bool = held_after moves in
      let out' : List ℕ = noted_back left id (less out id) in
      let now : held_after more ≡ without held id = after_give since id ∙ ap (λ h. without h id) (held_publishing moves id left) in
      let later : IsPrefix moves more = O.trans moves since more (early_publishing moves id left) (Give id ∷ [], refl) in
      fpick ! (λ tied. drop ! $ move ! (3 ∷ []) $ fsplit ! $ move ! (2 ∷ 0 ∷ []) $
      -- [the log; the other log; what comes back; the history; the rights]
      use2 𝓛 (given (s.1.1 ≡ log) (‵ (log_owns γ false s.1.1) ⊛ ‵ (log_owns γ false log))) (log_agrees γ s.1.1 log) $
      learn ! (λ same. split ! $ rewrite ! 0 (λ (l : List IdMove). ‵ (log_owns γ false l)) same refl $
      use2 𝓛 (raw (upd 𝓤 (⟦ log_owns γ false more ⟧ ∗ ⟦ log_owns γ false more ⟧))) (log_grows γ log more
      (O.trans log moves more (subst (λ (l : List IdMove). IsPrefix l moves) same tied.early) later)) $
      settle 𝓛 Z (‵ (log_owns γ false more) ⊛ ‵ (log_owns γ false more)) $ split ! $
      move ! (3 ∷ 4 ∷ 2 ∷ []) $
      use3 𝓛 (given (MayReturn moves before left) (raw (upd 𝓤 (⟦ page_owns γ more ⟧ ∗ ⟦ ledger_owns γ more ⟧ ∗ ⟦ rights_own γ out' ⟧))))
      (given_back γ moves before out left tied.rights range) $ learn ! (λ so.
      let tied' : IsTiedTo n more out' more = record {
        word = subst (IsWordOf n) (sym now) (laws.word_stays n held (without held id) tied.word (laws.low_given held id further)
            (ap (min 58) (length-without held id)));
        rights = subst (AreOutOf out') (sym now) (out_noted_back (less out id) (without held id) id left
            (laws.out_given out held id tied.rights));
        notes = noted_given out moves id left tied.notes range so.0 so.2;
        beyond = λ j _. refl;
        peak = refl;
        early = O.same more;
      } in
      let beyond : IsSameBeyond (held_after log) held = subst (λ (l : List IdMove). IsSameBeyond (held_after l) held) same tied.beyond in
      let was : IsGivenBeyond (held_after log) (held_after more) id = record {
        held = beyond id further ∙ so.0;
        at = λ j far. ap (λ (h : List Bool). is_held h j) now ∙ is_held-without held id j
            ∙ ap (λ (b : Bool). if id == j then false else b) (sym (beyond j far));
        peak = ap (λ (h : List Bool). length h - 58) now ∙ ap (λ (j : ℕ). j - 58) (length-without held id)
            ∙ sym (subst (λ (l : List IdMove). length (held_after l) - 58 ≡ length held - 58) same tied.peak);
      } in
      settle 𝓛 Z (‵ (page_owns γ more) ⊛ ‵ (ledger_owns γ more) ⊛ ‵ (rights_own γ out')) $ suffices ! _ (upd_i 𝓤 Z) $ split3 ! $
      -- [the page; the history; the rights; the log; the other log]
      move ! (0 ∷ 4 ∷ []) $ fjoin ! $
      nothing ! $ fpack ! (ReturnedFurther before log left more) (λ _. ftrue) (
        (
          record { since = since; given = refl; early = O.trans (noted before Take) moves since so.1 (early_publishing moves id left) },
          left_stays since id ∙ so.2,
        ),
        was,
      ) $
      fjoin ! $
      fpack ! (List IdMove) (λ m. fsep (fact (ReturnedFurther before log left m)) (fsep (page_owns γ m) (log_owns γ false m))) more $
      nothing ! $ fpack ! (IsTiedTo n more out' more) (λ _. ftrue) tied' $ move ! (4 ∷ 0 ∷ []) $ fjoin ! $
      move ! (3 ∷ 0 ∷ []) $ fjoin ! $ move ! (2 ∷ 0 ∷ []) $ fjoin ! $ fpack ! Kept (kept_with γ n) (more, (out', more)) $
      frame ! $ done !))))

  -- ---- the atomic steps
  module _ (γ b o : ℕ) (κ : Lft) (q : Share) where
    abbrev I : Fml
    I = word_invariant (lies_with γ) b (o + 0)

    pub sees : A.inv (fbor κ I) ∗ (A.lft κ q ∗ ⟦ ftrue ⟧)
        ⊢ asks 𝓛 (block_ptr b (o + 0)) (λ n. n) always (λ n. fsep (flft κ q) ftrue)
    sees = stepped 𝓛 (lies_with γ) b (o + 0) κ q (λ n. n) (λ _. ftrue) ftrue (λ n. upd_i 𝓤 (⟦ lies_with γ n ⟧ ∗ ⟦ ftrue ⟧))

    pub tries : (old new id : ℕ) (seen : List IdMove) → new ≡ word_with old id → IsLowestUnset (old / 64) id → id < 58
        → A.inv (fbor κ I) ∗ (A.lft κ q ∗ ⟦ page_owns γ seen ⟧)
        ⊢ asks 𝓛 (block_ptr b (o + 0)) (λ n. either (eqb n old) new n) always (λ n. fsep (flft κ q) (tried γ id seen (eqb n old)))
    tries old new id seen is low first =
        stepped 𝓛 (lies_with γ) b (o + 0) κ q (λ n. either (eqb n old) new n) (λ n. tried γ id seen (eqb n old)) (page_owns γ seen) (λ n.
        subst (λ (w : ℕ). ⟦ lies_with γ n ⟧ ∗ ⟦ page_owns γ seen ⟧
        ⊢ upd 𝓤 (⟦ lies_with γ (either (eqb n old) w n) ⟧ ∗ ⟦ tried γ id seen (eqb n old) ⟧)) (sym is)
        (tries_if γ n old id seen (eqb n old) refl low first))

    pub looks : (seen log : List IdMove) (takes : Bool) → (takes ≡ true → HasFurther (held_after log))
        → A.inv (fbor κ I) ∗ (A.lft κ q ∗ ⟦ fsep (page_owns γ seen) (log_owns γ false log) ⟧)
        ⊢ asks 𝓛 (block_ptr b (o + 0)) (λ n. n) always (λ n. fsep (flft κ q) (looked γ n seen log (takes && is_full n)))
    looks seen log takes has =
        stepped 𝓛 (lies_with γ) b (o + 0) κ q (λ n. n) (λ n. looked γ n seen log (takes && is_full n))
        (fsep (page_owns γ seen) (log_owns γ false log)) (λ n.
        looks_if γ n seen log (takes && is_full n) (λ both. (laws.both_right takes (is_full n) both, has (laws.both_left takes (is_full n) both))))

    pub gives : (k : ℕ) (before : List IdMove) (left : Option Gv) → taken_id before < 58 → k ≡ 64 * 2 ^ taken_id before % 2 ^ 64
        → A.inv (fbor κ I) ∗ (A.lft κ q ∗ ⟦ gone γ before left ⟧)
        ⊢ asks 𝓛 (block_ptr b (o + 0)) (λ n. (n + (2 ^ 64 - k)) % 2 ^ 64) always (λ n. fsep (flft κ q) (returned γ before left))
    gives k before left first k_is =
        stepped 𝓛 (lies_with γ) b (o + 0) κ q (λ n. (n + (2 ^ 64 - k)) % 2 ^ 64) (λ _. returned γ before left) (gone γ before left)
        (λ n. gives_first γ n k before left first k_is)

    pub gives_under_lock : (before log : List IdMove) (left : Option Gv) → 58 ≤ taken_id before → taken_id before < 2 ^ 63 - 1
        → A.inv (fbor κ I) ∗ (A.lft κ q ∗ ⟦ fsep (log_owns γ false log) (gone γ before left) ⟧)
        ⊢ asks 𝓛 (block_ptr b (o + 0)) (λ n. n) always (λ n. fsep (flft κ q) (returned_further γ before log left))
    gives_under_lock before log left further range =
        stepped 𝓛 (lies_with γ) b (o + 0) κ q (λ n. n) (λ _. returned_further γ before log left)
        (fsep (log_owns γ false log) (gone γ before left)) (λ n. gives_further γ n before log left further range)

pub log_keyless : (γ : GName) (whole : Bool) (log : List IdMove) → Keyless (log_owns γ whole log)
unfolding log_owns
log_keyless γ whole log = tt

pub lies_keyless : (γ n : ℕ) → Keyless (lies_with γ n)
lies_keyless γ n s =
    ((history_keyless γ s.0, all_noted_keyless γ s.0), (rights_keyless γ s.1.0, (log_keyless γ false s.1.1, λ _. tt)))
