-- What a new table begins with, under a fresh name: what lies with its word, one half of the log, its
-- first page, and the rights to its slots. Assumes `Logic`.
use Rattle.std.proofs.Common.{◌≡◌, ◌≢◌, ℕ, true, false, List, [], ◌∷◌, refl, arith}
use Rattle.std.proofs.lemmas.Bool.{ne_eqb}
use seplogic.Ra.Ura.{Ura}
use base.Logic.{SProp, ex, emp, upd, upd_i, id⊢}
use base.Fml.{GName, Fml, ftrue, fsep}
use types.Logic.{Logic}
use types.Kit.{‵, raw, ◌⊛◌, settle, suffices, ◌$◌, ◌∵◌, !, qed, move, pick, show, split, fjoin, fpack, use0, use1, use3, done}
use types.Kit as kit
use denote.Steps.{nothing}
use Rattle.thread_local_base.proofs.Signs.{signs}
use Rattle.thread_local_ids.specs.Rights.{is_out, moves_key, note_key, right_owns, rights_own, slots_own, history_owns}
use Rattle.thread_local_ids.specs.Rights.{page_with, all_noted, AreNotedOut}
use Rattle.thread_local_ids.specs.FirstIds.{AreOutOf, IsTiedTo, Kept, log_key, log_owns, kept_with, lies_with}
use Rattle.thread_local_ids.proofs.FirstLaws.{word_begins}
use Rattle.thread_local_ids.proofs.FirstElements.{log_halved}
use Rattle.thread_local_ids.proofs.Logs.{O}
use Rattle.thread_local_ids.proofs.MoveElements.{begins as history_begins}
use Rattle.thread_local_ids.proofs.RightElements.{rights_new, rights_cut}

-- the rights that a new table's are without
abbrev taken_out : List ℕ
taken_out = log_key ∷ moves_key ∷ []

none_out : (j : ℕ) → log_key ≢ j → moves_key ≢ j → is_out taken_out j ≡ false
none_out j a b = rw (ne_eqb log_key j a, ne_eqb moves_key j b) refl

none_out_of : AreOutOf taken_out []
none_out_of id low = none_out id (λ e. omega (arith, e, low)) (λ e. omega (arith, e, low))

none_noted : AreNotedOut taken_out []
none_noted id low = none_out (note_key id) (λ e. omega (arith, e, low)) (λ e. omega (arith, e, low))

module _ {M : Type 1} {𝓤 : Ura M} (𝓛 : Logic 𝓤) where
  open signs 𝓛 use {⟦◌⟧, ◌⊢◌, ◌∗◌}

  infix 26 ◌⊢◌
  infixr 35 ◌∗◌
  -- the right to the key of the log is the log
  log_begins : (γ : GName) → ⟦ right_owns γ log_key ⟧ ⊢ ⟦ log_owns γ true [] ⟧
  unfolding right_owns log_owns
  log_begins γ = id⊢ 𝓤 _

  word_lies : (γ : GName) → ⟦ history_owns γ [] ⟧ ∗ ⟦ rights_own γ taken_out ⟧ ∗ ⟦ log_owns γ false [] ⟧ ⊢ ⟦ lies_with γ 0 ⟧
  word_lies γ =
      let tied : IsTiedTo 0 [] taken_out [] = record {
        word = word_begins;
        rights = none_out_of;
        notes = none_noted;
        beyond = λ id _. refl;
        peak = refl;
        early = O.same [];
      } in
      qed 𝓛 (‵ (history_owns γ []) ∷ ‵ (rights_own γ taken_out) ∷ ‵ (log_owns γ false []) ∷ []) ∵
      nothing ! $ use1 𝓛 (‵ (all_noted γ [])) (id⊢ 𝓤 _) $ move ! (1 ∷ 0 ∷ []) $ fjoin ! $
      nothing ! $ fpack ! (IsTiedTo 0 [] taken_out []) (λ _. ftrue) tied $ move ! (3 ∷ 0 ∷ []) $ fjoin ! $
      move ! (2 ∷ 0 ∷ []) $ fjoin ! $ move ! (1 ∷ 0 ∷ []) $ fjoin ! $ fpack ! Kept (kept_with γ 0) ([], (taken_out, [])) $ done !

  abbrev pub begun : ℕ → GName → Fml
  begun room γ =
      fsep (lies_with γ 0) (fsep (log_owns γ false []) (fsep (page_with γ [] room) (slots_own γ 0)))

  abbrev cut : (γ : GName) (id : ℕ) (out : List ℕ) → kit.Item 𝓤
  cut γ id out = ‵ (right_owns γ id) ⊛ ‵ (rights_own γ (id ∷ out))

  pub begins : (room : ℕ) → emp 𝓤 ⊢ upd 𝓤 (ex 𝓤 (λ γ. ⟦ begun room γ ⟧))
  begins room =
      let New = λ (γ : GName). ⟦ rights_own γ [] ⟧ ∗ ⟦ slots_own γ 0 ⟧ in
      let Begun = λ (γ : GName). ⟦ begun room γ ⟧ in
      let Z : SProp 𝓤 = ex 𝓤 Begun in
      qed 𝓛 [] ∵ use0 𝓛 (raw (upd 𝓤 (ex 𝓤 New))) (rights_new 𝓛) $
      settle 𝓛 Z (kit.some (λ (γ : GName). ‵ (rights_own γ []) ⊛ ‵ (slots_own γ 0))) $ pick ! (λ γ. split ! $
      -- [the rights; those to the slots]
      use1 𝓛 (cut γ moves_key []) (rights_cut 𝓛 γ [] moves_key (omega arith) refl) $ split ! $
      use1 𝓛 (raw (upd 𝓤 (⟦ page_with γ [] room ⟧ ∗ ⟦ history_owns γ [] ⟧))) (history_begins 𝓛 γ room) $
      settle 𝓛 Z (‵ (page_with γ [] room) ⊛ ‵ (history_owns γ [])) $ split ! $ move ! (2 ∷ []) $
      -- [the rights; the page; the history; those to the slots]
      use1 𝓛 (cut γ log_key (moves_key ∷ [])) (rights_cut 𝓛 γ (moves_key ∷ []) log_key (omega arith) refl) $ split ! $
      use1 𝓛 (‵ (log_owns γ true [])) (log_begins γ) $
      use1 𝓛 (‵ (log_owns γ false []) ⊛ ‵ (log_owns γ false [])) (log_halved 𝓛 γ []) $ split ! $ move ! (2 ∷ []) $
      -- [the rights; the two halves; the page; the history; those to the slots]
      move ! (4 ∷ 0 ∷ 1 ∷ []) $ use3 𝓛 (‵ (lies_with γ 0)) (word_lies γ) $
      -- [what lies with the word; the other half; the page; those to the slots]
      move ! (2 ∷ 3 ∷ []) $ fjoin ! $ move ! (2 ∷ 0 ∷ []) $ fjoin ! $ move ! (1 ∷ 0 ∷ []) $ fjoin ! $
      suffices ! _ (upd_i 𝓤 Z) $ show ! Begun γ $ done !)
