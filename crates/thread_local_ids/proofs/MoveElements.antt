-- The moves of a table under its name: how they are appended to, and what pages show of them.
-- Assumes `Logic`.
use Rattle.std.proofs.Common.{◌≡◌, ◌≢◌, ℕ, ◌+◌, ◌≤◌, true, List, [], ◌∷◌, refl, sym, ap, ◌∙◌, subst, arith}
use native.Mathlib.Decide.{ℕ_discrete}
use mathlib.Core.Logic.{◌∨₁◌, dite}
use mathlib.Core.List.{IsPrefix}
use mathlib.Core.Option.{Option, none, some}
use base.Stored.{Gv}
use seplogic.Ra.Ura.{Ura}
use base.Fraction.{full_share}
use base.FractionLaws.{not-OpDef-full_share}
use base.Growing.{prefixes_in_line}
use base.Logic.{SProp, ex, guard, guard_i, upd, upd_i}
use Rattle.thread_local_ids.proofs.Logs.{O, shows, part_off, part_twice, grown}
use base.Fml.{GName, Fml, fown}
use base.Shift.{Keyless}
use types.Logic.{Logic}
use types.Keyed.{keyed}
use types.Owned.{own_new}
use types.Kit.{‵, raw, given, ◌⊛◌, ◌$◌, ◌∵◌, !, qed, by, move, keep, drop, split, fsplit, fjoin, fpick, fpack, pick}
use types.Kit.{learn, check, frame, rewrite, suffices, settle, use0, use1, use2, done}
use types.Kit as kit
use Rattle.thread_local_base.specs.Held.{is_held}
use Rattle.thread_local_base.specs.IdMoves.{IdMove, Take, Give, Publish, held_after, noted}
use Rattle.thread_local_ids.specs.Returns.{gives, counting, Count, count_of, counts, counts_own, counts_page, tenure_owns}
use Rattle.thread_local_base.proofs.IdMoveLaws.{held_apart}
use Rattle.thread_local_ids.proofs.ReturnLaws.{gives_apart, taken, page_off, page_again, not_given, count_once}
use Rattle.thread_local_ids.proofs.ReturnLaws.{given as given_count}
use Rattle.thread_local_ids.specs.Rights.{Element, moves_key, moves_own, right_owns, Head, kept, history_as, page_as, held_as}
use Rattle.thread_local_ids.specs.Rights.{history_owns, page_with, page_owns, held_owns, taken_id, tenure_of}
use Rattle.thread_local_base.proofs.Signs.{signs}

number : IdMove → ℕ
number Take = 0
number (Give n) = n
number (Publish id value) = 0

first : List IdMove → Head
first [] = (0, 0)
first (a ∷ []) = (0, 0)
first (a ∷ (b ∷ moves)) = (number a, number b)

rest : List IdMove → List IdMove
rest [] = []
rest (a ∷ []) = []
rest (a ∷ (b ∷ moves)) = moves

-- behind their first entries
behind : (δ ε : Head) (a b : List IdMove) → IsPrefix (kept δ a) (kept ε b) → IsPrefix a b
unfolding rest
behind δ ε a b h = (h.0, ap rest h.1)

same_first : (δ ε : Head) (a b c : List IdMove) → IsPrefix (kept δ a) c → IsPrefix (kept ε b) c → δ ≡ ε
unfolding first number
same_first δ ε a b c h k = ap first (h.1 ∙ sym k.1)

line : (δ ε : Head) (a b c : List IdMove) → IsPrefix (kept δ a) c → IsPrefix (kept ε b) c → IsPrefix a b ∨₁ IsPrefix b a
unfolding rest
line δ ε a b c h k = prefixes_in_line a b (rest c) (h.0, ap rest h.1) (k.0, ap rest k.1)

-- an id was given back no more often before
given_before : (before moves : List IdMove) (id : ℕ) → IsPrefix (noted before Take) moves → gives before id ≤ gives moves id
given_before before moves id early =
    let all : gives moves id ≡ gives (noted before Take) id + gives early.0 id =
    ap (λ (l : List IdMove). gives l id) (sym early.1) ∙ gives_apart (noted before Take) early.0 id in
    let same : gives (noted before Take) id ≡ gives before id + 0 = gives_apart before (Take ∷ []) id in
    omega (arith, all, same)

abbrev Line : List IdMove → List IdMove → Type 0
Line a b = IsPrefix a b ∨₁ IsPrefix b a

module _ {M : Type 1} {𝓤 : Ura M} (𝓛 : Logic 𝓤) where
  open signs 𝓛 use {⟦◌⟧, ◌⊢◌, ◌∗◌}

  infix 26 ◌⊢◌
  infixr 35 ◌∗◌
  abbrev whole : Head → List IdMove → Element
  whole δ moves = (some full_share, kept δ moves)

  abbrev part : Head → List IdMove → Element
  part δ moves = (none, kept δ moves)

  abbrev own : ℕ → Element → Fml
  own γ a = moves_own γ a

  -- whoever has the history has a page of what was done so far
  shown : (γ : GName) (moves : List IdMove) (δ : Head)
      → ⟦ history_as γ moves δ ⟧ ⊢ ⟦ page_with γ moves δ.1 ⟧ ∗ ⟦ history_as γ moves δ ⟧
  unfolding page_with
  shown γ moves δ =
      qed 𝓛 (‵ (history_as γ moves δ) ∷ []) ∵ fsplit ! $
      use1 𝓛 (‵ (own γ (part δ moves)) ⊛ ‵ (own γ (whole δ moves))) (part_off 𝓛 moves_key γ (kept δ moves) (kept δ moves) (O.same (kept δ moves))) $
      split ! $ move ! (2 ∷ []) $
      use1 𝓛 (‵ (counts_page δ.0 moves) ⊛ ‵ (counts_own δ.0 moves)) (page_off 𝓛 δ.0 moves) $ split ! $
      move ! (2 ∷ 0 ∷ []) $ fjoin ! $ fpack ! ℕ (λ d. page_as γ moves (d, δ.1)) δ.0 $ frame ! $
      move ! (1 ∷ 0 ∷ []) $ fjoin ! $ done !

  -- nothing was done yet where the right to the key of the moves was not used
  pub begins : (γ : GName) (room : ℕ) → ⟦ right_owns γ moves_key ⟧ ⊢ upd 𝓤 (⟦ page_with γ [] room ⟧ ∗ ⟦ history_owns γ [] ⟧)
  unfolding right_owns history_owns
  begins γ room =
      let Z : SProp 𝓤 = ⟦ page_with γ [] room ⟧ ∗ ⟦ history_owns γ [] ⟧ in
      qed 𝓛 (‵ (moves_own γ (some full_share, [])) ∷ []) ∵
      use0 𝓛 (raw (upd 𝓤 (ex 𝓤 (λ (d : GName). ⟦ counts_own d [] ⟧)))) (own_new 𝓛 (keyed counting) (counts [])) $
      settle 𝓛 Z (kit.some (λ (d : GName). ‵ (counts_own d []))) $ pick ! (λ d. move ! (1 ∷ []) $
      let δ : Head = (d, room) in
      use1 𝓛 (raw (upd 𝓤 ⟦ moves_own γ (whole δ []) ⟧)) (grown 𝓛 moves_key γ [] (kept δ []) (kept δ [], refl)) $
      settle 𝓛 Z (‵ (moves_own γ (whole δ []))) $ fjoin ! $
      use1 𝓛 (‵ (page_with γ [] room) ⊛ ‵ (history_as γ [] δ)) (shown γ [] δ) $ split ! $ move ! (1 ∷ []) $
      fpack ! Head (history_as γ []) δ $ move ! (1 ∷ 0 ∷ []) $ suffices ! _ (upd_i 𝓤 Z) $ done !)

  -- a page of what was done so far
  pub page_of : (γ : GName) (moves : List IdMove)
      → ⟦ history_owns γ moves ⟧ ⊢ ⟦ page_owns γ moves ⟧ ∗ ⟦ history_owns γ moves ⟧
  unfolding history_owns
  page_of γ moves =
      qed 𝓛 (‵ (history_owns γ moves) ∷ []) ∵ fpick ! (λ δ.
      use1 𝓛 (‵ (page_with γ moves δ.1) ⊛ ‵ (history_as γ moves δ)) (shown γ moves δ) $ split ! $
      fpack ! ℕ (page_with γ moves) δ.1 $ frame ! $ fpack ! Head (history_as γ moves) δ $ done !)

  -- a table has one history
  pub history_once : (γ : GName) (a b : List IdMove) (Z : SProp 𝓤) → ⟦ history_owns γ a ⟧ ∗ ⟦ history_owns γ b ⟧ ⊢ Z
  unfolding history_owns
  history_once γ a b Z =
      qed 𝓛 (‵ (history_owns γ a) ∷ ‵ (history_owns γ b) ∷ []) ∵ fpick ! (λ δ. fsplit ! $ move ! (2 ∷ []) $ fpick ! (λ ε. fsplit ! $
      keep ! (2 ∷ 0 ∷ []) $
      use2 𝓛 (given ⊥ (‵ (own γ (whole δ a)) ⊛ ‵ (own γ (whole ε b))))
      (shows 𝓛 moves_key γ (whole δ a) (whole ε b) ⊥ (λ d. not-OpDef-full_share full_share d.1.0.0)) $ learn ! (λ never. absurd never)))

  pub page_with_twice : (γ : GName) (moves : List IdMove) (room : ℕ)
      → ⟦ page_with γ moves room ⟧ ⊢ ⟦ page_with γ moves room ⟧ ∗ ⟦ page_with γ moves room ⟧
  unfolding page_with
  page_with_twice γ moves room =
      let at : ℕ → Fml = λ d. page_as γ moves (d, room) in
      qed 𝓛 (‵ (page_with γ moves room) ∷ []) ∵ fpick ! (λ d. fsplit ! $
      let δ : Head = (d, room) in
      use1 𝓛 (‵ (own γ (part δ moves)) ⊛ ‵ (own γ (part δ moves))) (part_twice 𝓛 moves_key γ (kept δ moves)) $
      split ! $ move ! (2 ∷ []) $
      use1 𝓛 (‵ (counts_page d moves) ⊛ ‵ (counts_page d moves)) (page_again 𝓛 d moves) $ split ! $
      move ! (2 ∷ 0 ∷ []) $ fjoin ! $ fpack ! ℕ at d $ frame ! $ move ! (1 ∷ 0 ∷ []) $ fjoin ! $ fpack ! ℕ at d $ done !)

  pub page_twice : (γ : GName) (moves : List IdMove)
      → ⟦ page_owns γ moves ⟧ ⊢ ⟦ page_owns γ moves ⟧ ∗ ⟦ page_owns γ moves ⟧
  page_twice γ moves =
      qed 𝓛 (‵ (page_owns γ moves) ∷ []) ∵ fpick ! (λ room.
      use1 𝓛 (‵ (page_with γ moves room) ⊛ ‵ (page_with γ moves room)) (page_with_twice γ moves room) $ split ! $
      fpack ! ℕ (page_with γ moves) room $ frame ! $ fpack ! ℕ (page_with γ moves) room $ done !)

  -- whoever holds an id has the page that ends with its take
  pub tenure_shows : (γ : GName) (before : List IdMove)
      → ⟦ tenure_of γ before ⟧ ⊢ ⟦ tenure_of γ before ⟧ ∗ ⟦ page_owns γ (noted before Take) ⟧
  tenure_shows γ before =
      qed 𝓛 (‵ (tenure_of γ before) ∷ []) ∵ fsplit ! $
      use1 𝓛 (‵ (page_owns γ (noted before Take)) ⊛ ‵ (page_owns γ (noted before Take))) (page_twice γ (noted before Take)) $
      split ! $ move ! (0 ∷ 2 ∷ []) $ fjoin ! $ done !

  -- the moves extend every page
  pub page_is_early : (γ : GName) (moves seen : List IdMove)
      → ⟦ history_owns γ moves ⟧ ∗ ⟦ page_owns γ seen ⟧
      ⊢ guard 𝓤 (IsPrefix seen moves) (⟦ history_owns γ moves ⟧ ∗ ⟦ page_owns γ seen ⟧)
  unfolding history_owns page_with
  page_is_early γ moves seen =
      qed 𝓛 (‵ (history_owns γ moves) ∷ ‵ (page_owns γ seen) ∷ []) ∵ fpick ! (λ δ. fsplit ! $ move ! (2 ∷ []) $
      fpick ! (λ room. fpick ! (λ d. fsplit ! $
      let ε : Head = (d, room) in
      -- [the page's moves; its counts; the history's moves; its counts]
      move ! (2 ∷ 0 ∷ []) $
      use2 𝓛 (given (IsPrefix seen moves) (‵ (own γ (whole δ moves)) ⊛ ‵ (own γ (part ε seen))))
      (shows 𝓛 moves_key γ (whole δ moves) (part ε seen) (IsPrefix seen moves)
      (λ k. behind ε δ seen moves (O.trans (kept ε seen) k.0.1 (kept δ moves) k.1.1.0.1 (k.1.1.1.0 tt)))) $
      learn ! (λ so. split ! $ move ! (0 ∷ 3 ∷ []) $ fjoin ! $ fpack ! Head (history_as γ moves) δ $
      move ! (1 ∷ 2 ∷ []) $ fjoin ! $ fpack ! ℕ (λ c. page_as γ seen (c, room)) d $ fpack ! ℕ (page_with γ seen) room $
      move ! (1 ∷ 0 ∷ []) $ check ! so $ done !))))

  -- of two pages one extends the other, and both say one room
  pub in_line_with : (γ : GName) (a b : List IdMove) (m n : ℕ)
      → ⟦ page_with γ a m ⟧ ∗ ⟦ page_with γ b n ⟧
      ⊢ guard 𝓤 (Line a b × (m ≡ n)) (⟦ page_with γ a m ⟧ ∗ ⟦ page_with γ b n ⟧)
  unfolding page_with
  in_line_with γ a b m n =
      qed 𝓛 (‵ (page_with γ a m) ∷ ‵ (page_with γ b n) ∷ []) ∵ fpick ! (λ c. fsplit ! $ move ! (2 ∷ []) $ fpick ! (λ d. fsplit ! $
      let δ : Head = (c, m) in
      let ε : Head = (d, n) in
      move ! (2 ∷ 0 ∷ []) $
      use2 𝓛 (given (Line a b × (m ≡ n)) (‵ (own γ (part δ a)) ⊛ ‵ (own γ (part ε b))))
      (shows 𝓛 moves_key γ (part δ a) (part ε b) (Line a b × (m ≡ n))
      (λ k. (line δ ε a b k.0.1 k.1.1.0.0 k.1.1.0.1, ap (λ (h : Head). h.1) (same_first δ ε a b k.0.1 k.1.1.0.0 k.1.1.0.1)))) $
      learn ! (λ so. split ! $ move ! (0 ∷ 3 ∷ []) $ fjoin ! $ fpack ! ℕ (λ e. page_as γ a (e, m)) c $
      move ! (1 ∷ 2 ∷ []) $ fjoin ! $ fpack ! ℕ (λ e. page_as γ b (e, n)) d $ move ! (1 ∷ 0 ∷ []) $ check ! so $ done !)))

  pub in_line : (γ : GName) (a b : List IdMove)
      → ⟦ page_owns γ a ⟧ ∗ ⟦ page_owns γ b ⟧
      ⊢ guard 𝓤 (Line a b) (⟦ page_owns γ a ⟧ ∗ ⟦ page_owns γ b ⟧)
  in_line γ a b =
      qed 𝓛 (‵ (page_owns γ a) ∷ ‵ (page_owns γ b) ∷ []) ∵ fpick ! (λ m. move ! (1 ∷ []) $ fpick ! (λ n. move ! (1 ∷ 0 ∷ []) $
      use2 𝓛 (given (Line a b × (m ≡ n)) (‵ (page_with γ a m) ⊛ ‵ (page_with γ b n))) (in_line_with γ a b m n) $
      learn ! (λ so. split ! $ fpack ! ℕ (page_with γ a) m $ move ! (1 ∷ []) $ fpack ! ℕ (page_with γ b) n $ move ! (1 ∷ 0 ∷ []) $
      check ! so.0 $ done !)))

  note_held : (γ : GName) (moves : List IdMove)
      → ⟦ history_owns γ moves ⟧
      ⊢ upd 𝓤 (⟦ held_owns γ (taken_id moves) (gives moves (taken_id moves)) ⟧ ∗ ⟦ history_owns γ (noted moves Take) ⟧)
  unfolding history_owns held_owns
  note_held γ moves =
      let id : ℕ = taken_id moves in
      let n : ℕ = gives moves id in
      let more : List IdMove = noted moves Take in
      let Z : SProp 𝓤 = ⟦ held_owns γ id n ⟧ ∗ ⟦ history_owns γ more ⟧ in
      qed 𝓛 (‵ (history_owns γ moves) ∷ []) ∵ fpick ! (λ δ. fsplit ! $
      use1 𝓛 (raw (upd 𝓤 ⟦ own γ (whole δ more) ⟧)) (grown 𝓛 moves_key γ (kept δ moves) (kept δ more) (Take ∷ [], refl)) $
      settle 𝓛 Z (‵ (own γ (whole δ more))) $
      use1 𝓛 (‵ (own γ (part δ [])) ⊛ ‵ (own γ (whole δ more))) (part_off 𝓛 moves_key γ (kept δ more) (kept δ []) (more, refl)) $ split ! $
      move ! (2 ∷ []) $ use1 𝓛 (‵ (tenure_owns δ.0 id n) ⊛ ‵ (counts_own δ.0 more)) (taken 𝓛 δ.0 moves id refl) $ split ! $
      -- [the count; the history's counts; the first entry; the moves]
      move ! (2 ∷ 0 ∷ []) $ fjoin ! $ fpack ! Head (held_as γ id n) δ $ move ! (2 ∷ 1 ∷ []) $ fjoin ! $ fpack ! Head (history_as γ more) δ $
      move ! (1 ∷ 0 ∷ []) $ suffices ! _ (upd_i 𝓤 Z) $ done !)

  -- the least id is taken
  pub note_take : (γ : GName) (moves : List IdMove)
      → ⟦ history_owns γ moves ⟧ ⊢ upd 𝓤 (⟦ tenure_of γ moves ⟧ ∗ ⟦ history_owns γ (noted moves Take) ⟧)
  note_take γ moves =
      let more : List IdMove = noted moves Take in
      let Z : SProp 𝓤 = ⟦ tenure_of γ moves ⟧ ∗ ⟦ history_owns γ more ⟧ in
      qed 𝓛 (‵ (history_owns γ moves) ∷ []) ∵
      use1 𝓛 (raw (upd 𝓤 (⟦ held_owns γ (taken_id moves) (gives moves (taken_id moves)) ⟧ ∗ ⟦ history_owns γ more ⟧))) (note_held γ moves) $
      settle 𝓛 Z (‵ (held_owns γ (taken_id moves) (gives moves (taken_id moves))) ⊛ ‵ (history_owns γ more)) $ split ! $ move ! (1 ∷ []) $
      use1 𝓛 (‵ (page_owns γ more) ⊛ ‵ (history_owns γ more)) (page_of γ more) $ split ! $
      move ! (0 ∷ 2 ∷ []) $ fjoin ! $ suffices ! _ (upd_i 𝓤 Z) $ done !

  -- an id is given back, which is held
  give_held : (γ : GName) (moves : List IdMove) (id n : ℕ) → is_held (held_after moves) id ≡ true → n ≤ gives moves id
      → ⟦ history_owns γ moves ⟧ ∗ ⟦ held_owns γ id n ⟧ ⊢ upd 𝓤 ⟦ history_owns γ (noted moves (Give id)) ⟧
  unfolding history_owns held_owns
  give_held γ moves id n held few =
      let more : List IdMove = noted moves (Give id) in
      let Z : SProp 𝓤 = ⟦ history_owns γ more ⟧ in
      qed 𝓛 (‵ (history_owns γ moves) ∷ ‵ (held_owns γ id n) ∷ []) ∵ fpick ! (λ δ. fsplit ! $ move ! (2 ∷ []) $ fpick ! (λ δ'. fsplit ! $
      -- [the first entry; the count; the history's moves; its counts]
      move ! (2 ∷ 0 ∷ []) $
      use2 𝓛 (given (δ' ≡ δ) (‵ (own γ (whole δ moves)) ⊛ ‵ (own γ (part δ' []))))
      (shows 𝓛 moves_key γ (whole δ moves) (part δ' []) (δ' ≡ δ) (λ d. same_first δ' δ [] moves d.0.1 d.1.1.0.1 d.1.1.0.0)) $
      learn ! (λ same. split ! $ move ! (1 ∷ []) $ drop ! $
      -- [the history's moves; the count; its counts]
      move ! (1 ∷ []) $ rewrite ! 0 (λ (d : Head). ‵ (tenure_owns d.0 id n)) same refl $ move ! (0 ∷ 2 ∷ []) $
      use2 𝓛 (raw (upd 𝓤 ⟦ counts_own δ.0 more ⟧)) (given_count 𝓛 δ.0 moves id n held few) $ settle 𝓛 Z (‵ (counts_own δ.0 more)) $ move ! (1 ∷ []) $
      use1 𝓛 (raw (upd 𝓤 ⟦ own γ (whole δ more) ⟧)) (grown 𝓛 moves_key γ (kept δ moves) (kept δ more) (Give id ∷ [], refl)) $
      settle 𝓛 Z (‵ (own γ (whole δ more))) $ fjoin ! $ fpack ! Head (history_as γ more) δ $ suffices ! _ (upd_i 𝓤 Z) $ done !)))

  -- the same, with the page that ends with it
  pub note_give : (γ : GName) (moves before : List IdMove) → is_held (held_after moves) (taken_id before) ≡ true
      → ⟦ history_owns γ moves ⟧ ∗ ⟦ tenure_of γ before ⟧
      ⊢ upd 𝓤 (⟦ page_owns γ (noted moves (Give (taken_id before))) ⟧ ∗ ⟦ history_owns γ (noted moves (Give (taken_id before))) ⟧)
  note_give γ moves before held =
      let id : ℕ = taken_id before in
      let more : List IdMove = noted moves (Give id) in
      let Z : SProp 𝓤 = ⟦ page_owns γ more ⟧ ∗ ⟦ history_owns γ more ⟧ in
      let n : ℕ = gives before id in
      let early : Type 0 = IsPrefix (noted before Take) moves in
      qed 𝓛 (‵ (history_owns γ moves) ∷ ‵ (tenure_of γ before) ∷ []) ∵ move ! (1 ∷ []) $ fsplit ! $
      -- [the page; the count; the history]
      move ! (2 ∷ 0 ∷ []) $
      use2 𝓛 (given early (‵ (history_owns γ moves) ⊛ ‵ (page_owns γ (noted before Take)))) (page_is_early γ moves (noted before Take)) $
      learn ! (λ so. split ! $ move ! (1 ∷ []) $ drop ! $
      use2 𝓛 (raw (upd 𝓤 ⟦ history_owns γ more ⟧))
      (give_held γ moves id n held (given_before before moves id so)) $
      settle 𝓛 Z (‵ (history_owns γ more)) $
      use1 𝓛 (‵ (page_owns γ more) ⊛ ‵ (history_owns γ more)) (page_of γ more) $ split ! $ suffices ! _ (upd_i 𝓤 Z) $ done !)

  -- a publishing changes no count
  same_counts : (moves : List IdMove) (id : ℕ) (g : Gv) → counts moves ≡ counts (noted moves (Publish id g))
  same_counts moves id g =
      let held : held_after (noted moves (Publish id g)) ≡ held_after moves = held_apart [] moves (Publish id g ∷ []) in
      let given : (j : ℕ) → gives (noted moves (Publish id g)) j ≡ gives moves j =
      λ j. (let e : gives (noted moves (Publish id g)) j ≡ gives moves j + 0 = gives_apart moves (Publish id g ∷ []) j in omega (arith, e)) in
      sym (λ i j. some (count_of (is_held (held i) j) (given j i)))

  pub note_publish : (γ : GName) (moves : List IdMove) (id : ℕ) (g : Gv)
      → ⟦ history_owns γ moves ⟧ ⊢ upd 𝓤 ⟦ history_owns γ (noted moves (Publish id g)) ⟧
  unfolding history_owns
  note_publish γ moves id g =
      let more : List IdMove = noted moves (Publish id g) in
      let Z : SProp 𝓤 = ⟦ history_owns γ more ⟧ in
      qed 𝓛 (‵ (history_owns γ moves) ∷ []) ∵ fpick ! (λ δ. fsplit ! $
      use1 𝓛 (raw (upd 𝓤 ⟦ own γ (whole δ more) ⟧)) (grown 𝓛 moves_key γ (kept δ moves) (kept δ more) (Publish id g ∷ [], refl)) $
      settle 𝓛 Z (‵ (own γ (whole δ more))) $ move ! (1 ∷ []) $
      rewrite ! 0 (λ (c : ℕ → Option Count). ‵ (fown (keyed counting) δ.0 c)) (same_counts moves id g) refl $
      move ! (1 ∷ 0 ∷ []) $ fjoin ! $ fpack ! Head (history_as γ more) δ $ suffices ! _ (upd_i 𝓤 Z) $ done !)

  -- while an id is held, no page says that it was given back since
  pub tenure_held : (γ : GName) (before later : List IdMove)
      → ⟦ tenure_of γ before ⟧ ∗ ⟦ page_owns γ later ⟧
      ⊢ guard 𝓤 (gives later (taken_id before) ≤ gives before (taken_id before)) (⟦ tenure_of γ before ⟧ ∗ ⟦ page_owns γ later ⟧)
  unfolding page_with held_owns
  tenure_held γ before later =
      let id : ℕ = taken_id before in
      let n : ℕ = gives before id in
      let Few : Type 0 = gives later id ≤ n in
      qed 𝓛 (‵ (tenure_of γ before) ∷ ‵ (page_owns γ later) ∷ []) ∵ fsplit ! $ move ! (1 ∷ []) $
      fpick ! (λ δ. fsplit ! $ move ! (3 ∷ []) $ fpick ! (λ room. fpick ! (λ d. fsplit ! $
      let ε : Head = (d, room) in
      -- [the page's moves; its counts; the first entries; the count; the own page]
      move ! (2 ∷ 0 ∷ []) $
      use2 𝓛 (given (δ ≡ ε) (‵ (own γ (part δ [])) ⊛ ‵ (own γ (part ε later))))
      (shows 𝓛 moves_key γ (part δ []) (part ε later) (δ ≡ ε) (λ k. same_first δ ε [] later k.0.1 k.1.1.0.0 k.1.1.0.1)) $
      learn ! (λ same. split ! $
      -- [the first entries; the page's moves; its counts; the count; the own page]
      move ! (3 ∷ []) $ rewrite ! 0 (λ (h : Head). ‵ (tenure_owns h.0 id n)) same refl $ move ! (0 ∷ 3 ∷ []) $
      use2 𝓛 (given Few (‵ (tenure_owns d id n) ⊛ ‵ (counts_page d later))) (not_given 𝓛 d id n later) $
      learn ! (λ few. split ! $
      -- [the count; the page's counts; the first entries; the page's moves; the own page]
      move ! (2 ∷ []) $ rewrite ! 0 (λ (h : Head). ‵ (own γ (part h []))) same refl $
      move ! (0 ∷ 1 ∷ []) $ fjoin ! $ fpack ! Head (held_as γ id n) ε $
      -- [what is held; the page's counts; its moves; the own page]
      move ! (2 ∷ 1 ∷ []) $ fjoin ! $ fpack ! ℕ (λ c. page_as γ later (c, room)) d $ fpack ! ℕ (page_with γ later) room $
      -- [the page; what is held; the own page]
      move ! (2 ∷ 1 ∷ []) $ fjoin ! $ check ! few $ done !)))))

  -- an id isn't held by two
  held_once : (γ : GName) (id n m : ℕ) (Z : SProp 𝓤) → ⟦ held_owns γ id n ⟧ ∗ ⟦ held_owns γ id m ⟧ ⊢ Z
  unfolding held_owns
  held_once γ id n m Z =
      qed 𝓛 (‵ (held_owns γ id n) ∷ ‵ (held_owns γ id m) ∷ []) ∵ fpick ! (λ δ. fsplit ! $ move ! (2 ∷ []) $ fpick ! (λ δ'. fsplit ! $
      -- [the first entry; the count; the other first entry; the other count]
      move ! (2 ∷ 0 ∷ []) $
      use2 𝓛 (given (δ ≡ δ') (‵ (own γ (part δ [])) ⊛ ‵ (own γ (part δ' []))))
      (shows 𝓛 moves_key γ (part δ []) (part δ' []) (δ ≡ δ') (λ d. same_first δ δ' [] [] d.0.1 d.1.1.0.0 d.1.1.0.1)) $
      learn ! (λ same. split ! $ keep ! (3 ∷ 2 ∷ []) $ rewrite ! 0 (λ (h : Head). ‵ (tenure_owns h.0 id n)) same refl $
      by ! (count_once 𝓛 δ'.0 id n m Z))))

  tenure_once : (γ : GName) (a b : List IdMove) → taken_id a ≡ taken_id b → (Z : SProp 𝓤) → ⟦ tenure_of γ a ⟧ ∗ ⟦ tenure_of γ b ⟧ ⊢ Z
  tenure_once γ a b same Z =
      qed 𝓛 (‵ (tenure_of γ a) ∷ ‵ (tenure_of γ b) ∷ []) ∵ fsplit ! $ move ! (2 ∷ []) $ fsplit ! $ keep ! (3 ∷ 1 ∷ []) $
      rewrite ! 0 (λ (id : ℕ). ‵ (held_owns γ id (gives a (taken_id a)))) same refl $
      by ! (held_once γ (taken_id b) (gives a (taken_id a)) (gives b (taken_id b)) Z)

  -- two tenures of one table are of different ids
  pub tenures_apart : (γ δ : GName) (a b : List IdMove)
      → ⟦ tenure_of γ a ⟧ ∗ ⟦ tenure_of δ b ⟧
      ⊢ guard 𝓤 (γ ≡ δ → taken_id a ≢ taken_id b) (⟦ tenure_of γ a ⟧ ∗ ⟦ tenure_of δ b ⟧)
  tenures_apart γ δ a b =
      let Both : SProp 𝓤 = ⟦ tenure_of γ a ⟧ ∗ ⟦ tenure_of δ b ⟧ in
      let Apart : Type 0 = γ ≡ δ → taken_id a ≢ taken_id b in
      dite (ℕ_discrete (taken_id a) (taken_id b))
      (λ e. dite (ℕ_discrete γ δ)
      (λ same.
      subst (λ (x : ℕ). ⟦ tenure_of γ a ⟧ ∗ ⟦ tenure_of x b ⟧ ⊢ guard 𝓤 Apart Both) same (tenure_once γ a b e (guard 𝓤 Apart Both)))
      (λ differ. guard_i 𝓤 Apart Both (λ same. absurd (differ same))))
      (λ differ. guard_i 𝓤 Apart Both (λ _. differ))

pub history_keyless : (γ : GName) (moves : List IdMove) → Keyless (history_owns γ moves)
unfolding history_owns
history_keyless γ moves = λ δ. (tt, tt)

pub page_with_keyless : (γ : GName) (moves : List IdMove) (room : ℕ) → Keyless (page_with γ moves room)
unfolding page_with
page_with_keyless γ moves room = λ d. (tt, tt)

pub page_keyless : (γ : GName) (moves : List IdMove) → Keyless (page_owns γ moves)
page_keyless γ moves = λ room. page_with_keyless γ moves room

pub held_keyless : (γ : GName) (id n : ℕ) → Keyless (held_owns γ id n)
unfolding held_owns
held_keyless γ id n = λ δ. (tt, tt)
