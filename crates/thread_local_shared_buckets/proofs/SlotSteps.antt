-- Steps on one slot under its bucket's invariant: ghost steps, and atomic ones on the word that has
-- the slot's flag. Assumes `Logic`.
use Rattle.std.proofs.Common.{◌≡◌, ℕ, ◌/◌, ◌%◌, ◌^◌, ◌<◌, Bool, [], ◌∷◌, is_some, refl, Option}
use seplogic.Ra.Ura.{Ura}
use base.Logic.{SProp, ex, all, all_e, guard, upd, upd_i, via, apply∗}
use base.Fml.{GName, Share, Fml, ftrue, fsep, fres, fbor, flft, flent}
use types.Logic.{Logic}
use types.Kit.{settle, ‵, raw, ◌⊛◌, given, some, show, frame, assume, suffices, ◌$◌, ◌∵◌, !, qed, move, drop, split}
use types.Kit.{split3, pick, fsplit, fsplit3, fjoin, fpick, fpack, group, learn, use0, use1, use2, use3, done}
use denote.RattleType.{RattleType}
use denote.RawPtr.{block_ptr, count_of}
use denote.Steps.{nothing}
use Rattle.std.specs.Sync.RawAtomic.{asks, always}
use Rattle.thread_local_base.proofs.Opened.{Lies}
use Rattle.thread_local_base.proofs.Opened as bucket_opened
use Rattle.thread_local_base.specs.Bits.{is_set, IsWordBut}
use Rattle.thread_local_base.proofs.Word.{same_bit}
use Rattle.thread_local_buckets.specs.Slots.{word_offset}
use Rattle.thread_local_shared_buckets.specs.Shared.{name_at, Who, block_code, age}
use Rattle.thread_local_shared_buckets.specs.Shared.{tracked_value, shared_slot_as, shared_slot, len}
use Rattle.thread_local_shared_buckets.specs.Shared.{bucket_invariant, stays, lies_with_slot, holds}
use Rattle.thread_local_shared_buckets.proofs.Inside as inside
use Rattle.thread_local_shared_buckets.proofs.Inside.{Next, quietly, slot_in}
use Rattle.thread_local_base.proofs.Signs.{signs}
use Rattle.thread_local_shared_buckets.proofs.Inside.{SlotAt}

module _ {M : Type 1} {𝓤 : Ura M} (𝓛 : Logic 𝓤) (R : RattleType) (slot : SlotAt R) where
  open slot use {d, t, wb, wo, s, i, k, e, b, low, at_k, at_e, at_b}
  open 𝓛 use {H, A}
  open signs 𝓛 use {⟦◌⟧, ◌⊢◌, ◌∗◌, ◌-∗◌}

  infix 26 ◌⊢◌
  infixr 35 ◌∗◌
  infixr 30 ◌-∗◌
  abbrev pub η : GName
  η = name_at s.names i

  abbrev pub I : Fml
  I = bucket_invariant R d t wb wo

  abbrev pub Which : Fml
  Which = fres t.which (block_code s)

  abbrev pub Slot : Bool → Fml
  Slot set = shared_slot R t b s.block_life d.sharing d.table set k e η

  abbrev pub Flags : ℕ → Fml
  Flags n = inside.Flags 𝓛 R slot n

  abbrev pub raised : Bool → Bool → Fml
  raised = inside.raised 𝓛 R slot

  abbrev pub Stays : Option R.Denot → Fml
  Stays v = stays R t b s.block_life d.sharing k e η v

  abbrev pub Had : Option R.Denot → Who → Fml
  Had v w = lies_with_slot R t b s.block_life d.sharing d.table k e η v w

  abbrev pub Holds : Option R.Denot → Fml
  Holds v = holds R t b s.block_life d.sharing k e η v

  abbrev pub Lent : Fml
  Lent = flent (age R t b s.block_life) (tracked_value R b e η)

  -- a slot after a step that keeps its value, and what the step gains
  abbrev pub Left : Option R.Denot → SProp 𝓤 → Who → SProp 𝓤
  Left v Q w = ⟦ Stays v ⟧ ∗ ⟦ Had v w ⟧ ∗ Q

  abbrev Back : (n : ℕ) → Next n (i % 64) → SProp 𝓤
  Back n = inside.Back 𝓛 R slot ⟦ I ⟧ n

  abbrev Out : ℕ → SProp 𝓤
  Out n = inside.Out 𝓛 R slot ⟦ I ⟧ n

  -- the slot and its word are put back
  pub again : (n m : ℕ) (z : Option R.Denot × Who) → m < 2 ^ 64
      → IsWordBut m n (i % 64) (is_some z.0)
      → ⟦ Flags m ⟧ ∗ ⟦ Lent ⟧ ∗ ⟦ Stays z.0 ⟧ ∗ ⟦ Had z.0 z.1 ⟧ ∗ all 𝓤 (Back n) ∗ ⟦ raised (is_set n (i % 64)) (is_some z.0) ⟧ ⊢ ⟦ I ⟧
  again n m z fits but =
      let set : Bool = is_some z.0 in
      let y : Next n (i % 64) = record { word = m; set = set; fits = fits; but = but } in
      let Raised : Fml = raised (is_set n (i % 64)) set in
      let T : SProp 𝓤 = ⟦ Flags m ⟧ ∗ ⟦ Slot set ⟧ ∗ ⟦ Raised ⟧ in
      qed 𝓛 (‵ (Flags m) ∷ ‵ Lent ∷ ‵ (Stays z.0) ∷ ‵ (Had z.0 z.1) ∷ raw (all 𝓤 (Back n)) ∷ ‵ Raised ∷ []) ∵
      move ! (2 ∷ 3 ∷ []) $ fjoin ! $ nothing ! $ fpack ! (set ≡ is_some z.0) (λ _. ftrue) refl $
      fjoin ! $
      fpack ! (Option R.Denot × Who)
      (shared_slot_as R t b s.block_life d.sharing d.table set k e η) z $
      move ! (2 ∷ 0 ∷ []) $ fjoin ! $ move ! (1 ∷ 0 ∷ 3 ∷ []) $ group ! 3 $ move ! (1 ∷ []) $
      use1 𝓛 (raw (Back n y)) (all_e 𝓤 (Back n) y) $ move ! (1 ∷ 0 ∷ []) $ use2 𝓛 (‵ I) (apply∗ 𝓤 T ⟦ I ⟧) $ done !

  -- a ghost step
  pub moved : (q : Share) (X Q : SProp 𝓤)
      → ((v : Option R.Denot) (w : Who) → ⟦ Stays v ⟧ ∗ ⟦ Had v w ⟧ ∗ X ⊢ ex 𝓤 (Left v Q))
      → A.inv (fbor t.life I) ∗ A.lft t.life q ∗ ⟦ Which ⟧ ∗ X ⊢ H.⇛ (Q ∗ A.lft t.life q)
  moved q X Q law =
      quietly 𝓛 t.life q I (⟦ Which ⟧ ∗ X) Q (qed 𝓛 (‵ I ∷ (‵ Which ⊛ raw X) ∷ []) ∵
      suffices ! _ (upd_i 𝓤 (⟦ I ⟧ ∗ Q)) $ move ! (1 ∷ []) $ split ! $ move ! (2 ∷ 0 ∷ []) $
      use2 𝓛 (some (λ (n : ℕ).
      given (n < 2 ^ 64) (‵ (Flags n) ⊛ ‵ (Slot (is_set n (i % 64))) ⊛ raw (all 𝓤 (Back n)))))
      (slot_in 𝓛 R slot) $
      pick ! (λ n. learn ! (λ fits. split3 ! $
      move ! (1 ∷ []) $ fsplit ! $ move ! (1 ∷ []) $ fpick ! (λ z. fsplit3 ! $ fpick ! (λ told. drop ! $
      -- [what stays; who has it; the loan; the word; the way back; X]
      move ! (0 ∷ 1 ∷ 5 ∷ []) $
      use3 𝓛 (some (λ (w : Who). ‵ (Stays z.0) ⊛ ‵ (Had z.0 w) ⊛ raw Q)) (law z.0 z.1) $
      pick ! (λ w. split3 ! $
      -- [what stays; who has it; Q; the loan; the word; the way back]
      use0 𝓛 (‵ (raised (is_set n (i % 64)) (is_some z.0))) (inside.unraised 𝓛 R slot (is_set n (i % 64)) (is_some z.0) told) $
      move ! (5 ∷ 4 ∷ 1 ∷ 2 ∷ 6 ∷ 0 ∷ []) $ group ! 6 $
      use1 𝓛 (‵ I) (again n n (z.0, w) fits (same_bit n (i % 64) (is_some z.0) told)) $ done !))))))

  -- an atomic step on the word of flags, which may change this slot's flag
  module _ (q : Share) (f : ℕ → ℕ) (after : ℕ → Fml) where
    abbrev pub Turned : ℕ → Option R.Denot → Option R.Denot × Who → SProp 𝓤
    Turned n v z =
        guard 𝓤 ((f n < 2 ^ 64) × IsWordBut (f n) n (i % 64) (is_some z.0))
        (⟦ Stays z.0 ⟧ ∗ ⟦ Had z.0 z.1 ⟧ ∗ ⟦ after n ⟧ ∗ ⟦ raised (is_set n (i % 64)) (is_some z.0) ⟧)

    pub stepped_by : (X : Fml)
        → ((n : ℕ) → n < 2 ^ 64 → (v : Option R.Denot) (w : Who) → is_set n (i % 64) ≡ is_some v
        → ⟦ Stays v ⟧ ∗ ⟦ Had v w ⟧ ∗ ⟦ X ⟧ ⊢ upd 𝓤 (ex 𝓤 (Turned n v)))
        → A.inv (fbor t.life I) ∗ (A.lft t.life q ∗ (⟦ Which ⟧ ∗ ⟦ X ⟧))
        ⊢ asks 𝓛 (block_ptr b (word_offset R (len R d) (count_of s.at) (i / 64))) f always
        (λ n. fsep (flft t.life q) (after n))
    stepped_by X law =
        let o : ℕ = word_offset R (len R d) (count_of s.at) (i / 64) in
        let L : ℕ → SProp 𝓤 = Lies 𝓛 t.life q I b o f after in
        bucket_opened.opened 𝓛 t.life q I b o f after (⟦ Which ⟧ ∗ ⟦ X ⟧) (qed 𝓛
        (‵ I ∷ (‵ Which ⊛ ‵ X) ∷ []) ∵
        suffices ! _ (upd_i 𝓤 (ex 𝓤 L)) $
        move ! (1 ∷ []) $ split ! $ move ! (2 ∷ 0 ∷ []) $
        use2 𝓛 (some (λ (n : ℕ).
        given (n < 2 ^ 64) (‵ (Flags n) ⊛ ‵ (Slot (is_set n (i % 64))) ⊛ raw (all 𝓤 (Back n)))))
        (slot_in 𝓛 R slot) $
        pick ! (λ n. learn ! (λ fits. split3 ! $
        show ! L n $ frame ! $ assume ! (‵ (Flags (f n))) $ let Then : SProp 𝓤 = ⟦ I ⟧ ∗ ⟦ after n ⟧ in
        move ! (1 ∷ []) $ fsplit ! $ move ! (1 ∷ []) $ fpick ! (λ z. fsplit3 ! $ fpick ! (λ told. drop ! $
        -- [what stays; who has it; the loan; the word; the way back; X]
        move ! (0 ∷ 1 ∷ 5 ∷ []) $ use3 𝓛 (raw (upd 𝓤 (ex 𝓤 (Turned n z.0)))) (law n fits z.0 z.1 told) $
        settle 𝓛 Then (some (λ (y : Option R.Denot × Who).
        given ((f n < 2 ^ 64) × IsWordBut (f n) n (i % 64) (is_some y.0))
        (‵ (Stays y.0) ⊛ ‵ (Had y.0 y.1) ⊛ ‵ (after n) ⊛ ‵ (raised (is_set n (i % 64)) (is_some y.0))))) $
        suffices ! _ (upd_i 𝓤 Then) $
        pick ! (λ y. learn ! (λ next. split3 ! $ move ! (2 ∷ []) $ split ! $
        -- [what is gained; what raises the flag; what stays; who has it; the loan; the word; the way back]
        move ! (5 ∷ 4 ∷ 2 ∷ 3 ∷ 6 ∷ 1 ∷ []) $ group ! 6 $ use1 𝓛 (‵ I) (again n (f n) y next.0 next.1) $ done !)))))))

    -- such a step that needs no update of its own
    pub stepped : (X : Fml)
        → ((n : ℕ) → n < 2 ^ 64 → (v : Option R.Denot) (w : Who) → is_set n (i % 64) ≡ is_some v
        → ⟦ Stays v ⟧ ∗ ⟦ Had v w ⟧ ∗ ⟦ X ⟧ ⊢ ex 𝓤 (Turned n v))
        → A.inv (fbor t.life I) ∗ (A.lft t.life q ∗ (⟦ Which ⟧ ∗ ⟦ X ⟧))
        ⊢ asks 𝓛 (block_ptr b (word_offset R (len R d) (count_of s.at) (i / 64))) f always
        (λ n. fsep (flft t.life q) (after n))
    stepped X law =
        stepped_by X (λ n fits v w told.
        via 𝓤 (ex 𝓤 (Turned n v)) (law n fits v w told) (upd_i 𝓤 (ex 𝓤 (Turned n v))))
