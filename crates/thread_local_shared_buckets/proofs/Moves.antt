-- The moves of a slot: it is claimed, its value is published, and its claim is given up. Assumes
-- `Logic`.
use Rattle.std.proofs.Common.{◌≡◌, ℕ, [], ◌∷◌, refl, sym, ap, Option, Some, None}
use seplogic.Ra.Ura.{Ura}
use base.Logic.{SProp, ent, sep, guard, upd, upd_i, via, guard_i}
use base.Stored.{Gv}
use base.Fml.{GName, Fml, fsep, fres}
use contract.Monad.{sep→conj, fact_use}
use types.Logic.{Logic, sem}
use types.Kit.{‵, raw, ◌⊛◌, given, settle, suffices, use1, check, ◌$◌, ◌∵◌, !, qed, by, move, keep, drop, split}
use types.Kit.{rewrite, fsplit, fsplit3, fjoin, fjoin3, learn, use2, use3, split3, done}
use denote.RattleType.{RattleType}
use Rattle.std.specs.Coded.{coded_option}
use Rattle.thread_local_ids.specs.Rights.{right_owns, note_owns}
use Rattle.thread_local_ids.proofs.RightElements.{right_once}
use Rattle.thread_local_shared_buckets.specs.Shared.{Turn, Who, free, claimed, early, value_code, pinned}
use Rattle.thread_local_shared_buckets.specs.Shared.{pinned_and_told, opened, holds, stays, lies_with_slot}
use Rattle.thread_local_ids.specs.Told.{tells}
use Rattle.thread_local_ids.specs.Sharings.{Belongs, left_after}
use Rattle.thread_local_ids.proofs.ToldElements.{tells_dup}
use Rattle.thread_local_ids.proofs.ToldNotes.{publishes_noted}
use Rattle.thread_local_base.proofs.Signs.{signs}
use Rattle.std.proofs.lemmas.Option.{same_Some}

module _ {M : Type 1} {𝓤 : Ura M} (𝓛 : Logic 𝓤) where
  -- a name says one thing for good
  pub res_alike : (γ : GName) (x y : Gv)
      → ent 𝓤 (sep 𝓤 (sem 𝓛 (fres γ x)) (sem 𝓛 (fres γ y)))
      (guard 𝓤 (x ≡ y) (sep 𝓤 (sem 𝓛 (fres γ x)) (sem 𝓛 (fres γ y))))
  res_alike γ x y = let Both : SProp 𝓤 = sep 𝓤 (sem 𝓛 (fres γ x)) (sem 𝓛 (fres γ y)) in
      fact_use 𝓤 _
      (via 𝓤 _ (sep→conj 𝓤 (sem 𝓛 (fres γ x)) (sem 𝓛 (fres γ y))) (𝓛.names.res_one γ x y))
      (guard_i 𝓤 (x ≡ y) Both)

module _ {M : Type 1} {𝓤 : Ura M} (𝓛 : Logic 𝓤) (R : RattleType) (t : Turn) (b ν : ℕ)
    (sharing : Option GName) (table k e : ℕ) (η : GName) where
  open signs 𝓛 use {⟦◌⟧, ◌⊢◌, ◌∗◌}

  infix 26 ◌⊢◌
  infixr 35 ◌∗◌
  abbrev pub Holds : Option R.Denot → Fml
  Holds v = holds R t b ν sharing k e η v

  abbrev pub Stays : Option R.Denot → Fml
  Stays v = stays R t b ν sharing k e η v

  abbrev pub Had : Option R.Denot → Who → Fml
  Had v w = lies_with_slot R t b ν sharing table k e η v w

  abbrev pub Right : Fml
  Right = right_owns table k

  abbrev pub Pass : Fml
  Pass = right_owns t.pass k

  -- no two rights are to the same id
  twice : (γ : GName) (Z : SProp 𝓤) → ⟦ right_owns γ k ⟧ ∗ ⟦ right_owns γ k ⟧ ⊢ Z
  twice γ Z = right_once 𝓛 γ k Z

  -- whoever has the right to the id of a slot claims the slot for that right
  pub claims : (v : Option R.Denot) (w : Who) → ⟦ Had v w ⟧ ∗ ⟦ Right ⟧ ⊢ ⟦ Had v claimed ⟧ ∗ ⟦ Holds v ⟧
  claims v free = qed 𝓛 (‵ (Had v free) ∷ ‵ Right ∷ []) ∵ fsplit ! $ move ! (2 ∷ 0 ∷ []) $ fjoin ! $ done !
  claims v claimed = qed 𝓛 (‵ (Had v claimed) ∷ ‵ Right ∷ []) ∵ fsplit ! $ keep ! (0 ∷ 2 ∷ []) $ by ! (twice table _)
  claims v early = qed 𝓛 (‵ (Had v early) ∷ ‵ Right ∷ []) ∵ fsplit ! $ keep ! (0 ∷ 2 ∷ []) $ by ! (twice table _)

  -- a claim with the pass finds its slot empty, where it was claimed early
  early_only : (Z : Option R.Denot → SProp 𝓤) → ⟦ Stays None ⟧ ∗ ⟦ Had None early ⟧ ∗ ⟦ Pass ⟧ ⊢ Z None
      → (v : Option R.Denot) (w : Who) → ⟦ Stays v ⟧ ∗ ⟦ Had v w ⟧ ∗ ⟦ Pass ⟧ ⊢ guard 𝓤 (v ≡ None) (Z v)
  early_only Z found v free =
      qed 𝓛 (‵ (Stays v) ∷ ‵ (Had v free) ∷ ‵ Pass ∷ []) ∵ drop ! $ fsplit ! $ keep ! (0 ∷ 2 ∷ []) $
      by ! (twice t.pass _)
  early_only Z found v claimed =
      qed 𝓛 (‵ (Stays v) ∷ ‵ (Had v claimed) ∷ ‵ Pass ∷ []) ∵ drop ! $ fsplit ! $
      keep ! (1 ∷ 2 ∷ []) $ by ! (twice t.pass _)
  early_only Z found (Some x) early =
      qed 𝓛 (‵ (Stays (Some x)) ∷ ‵ (Had (Some x) early) ∷ ‵ Pass ∷ []) ∵ fsplit3 ! $
      move ! (3 ∷ []) $ fsplit ! $ move ! (1 ∷ []) $ fsplit3 ! $ keep ! (0 ∷ 4 ∷ []) $
      by ! (twice t.vacant _)
  early_only Z found None early =
      qed 𝓛 (‵ (Stays None) ∷ ‵ (Had None early) ∷ ‵ Pass ∷ []) ∵ check ! refl $ by ! found

  -- it has the slot
  pub early_claims : (v : Option R.Denot) (w : Who)
      → ⟦ Stays v ⟧ ∗ ⟦ Had v w ⟧ ∗ ⟦ Pass ⟧
      ⊢ guard 𝓤 (v ≡ None) (⟦ Stays v ⟧ ∗ ⟦ Had v claimed ⟧ ∗ ⟦ Holds None ⟧)
  early_claims = early_only (λ u. ⟦ Stays u ⟧ ∗ ⟦ Had u claimed ⟧ ∗ ⟦ Holds None ⟧)
      (qed 𝓛 (‵ (Stays None) ∷ ‵ (Had None early) ∷ ‵ Pass ∷ []) ∵ move ! (1 ∷ []) $ fsplit ! $
      move ! (0 ∷ 3 ∷ []) $ fjoin ! $ move ! (2 ∷ 0 ∷ 1 ∷ []) $ done !)

  -- or it is given up, and has its right back
  pub early_gives_up : (v : Option R.Denot) (w : Who)
      → ⟦ Stays v ⟧ ∗ ⟦ Had v w ⟧ ∗ ⟦ Pass ⟧
      ⊢ guard 𝓤 (v ≡ None) (⟦ Stays v ⟧ ∗ ⟦ Had v free ⟧ ∗ ⟦ Right ⟧)
  early_gives_up = early_only (λ u. ⟦ Stays u ⟧ ∗ ⟦ Had u free ⟧ ∗ ⟦ Right ⟧)
      (qed 𝓛 (‵ (Stays None) ∷ ‵ (Had None early) ∷ ‵ Pass ∷ []) ∵ move ! (1 ∷ []) $ fsplit ! $
      move ! (3 ∷ 1 ∷ []) $ fjoin ! $ move ! (2 ∷ 0 ∷ 1 ∷ []) $ done !)

  -- a slot holds one value for good
  pub pinned_alike : (x y : R.Denot)
      → ⟦ pinned R η x ⟧ ∗ ⟦ pinned R η y ⟧ ⊢ guard 𝓤 (x ≡ y) (⟦ pinned R η x ⟧ ∗ ⟦ pinned R η y ⟧)
  pinned_alike x y = qed 𝓛 (‵ (pinned R η x) ∷ ‵ (pinned R η y) ∷ []) ∵
      use2 𝓛 (given (value_code R (Some x) ≡ value_code R (Some y))
      (‵ (pinned R η x) ⊛ ‵ (pinned R η y)))
      (res_alike 𝓛 η (value_code R (Some x)) (value_code R (Some y))) $
      learn ! (λ same. check ! (same_Some x y ((coded_option R.coded).inj (Some x) (Some y) same)) $ split ! $ done !)

  abbrev PinnedAndTold : R.Denot → Fml
  PinnedAndTold = pinned_and_told R sharing k η

  pub pinned_and_told_alike : (x y : R.Denot)
      → ⟦ PinnedAndTold x ⟧ ∗ ⟦ PinnedAndTold y ⟧
      ⊢ guard 𝓤 (x ≡ y) (⟦ PinnedAndTold x ⟧ ∗ ⟦ PinnedAndTold y ⟧)
  pinned_and_told_alike x y =
      qed 𝓛 (‵ (PinnedAndTold x) ∷ ‵ (PinnedAndTold y) ∷ []) ∵ fsplit ! $ move ! (2 ∷ []) $
      fsplit ! $ move ! (2 ∷ 0 ∷ []) $
      use2 𝓛 (given (x ≡ y) (‵ (pinned R η x) ⊛ ‵ (pinned R η y))) (pinned_alike x y) $
      learn ! (λ same. check ! same $ split ! $
      -- [the two pins; what is told of y, and of x]
      move ! (1 ∷ 2 ∷ []) $ fjoin ! $ move ! (1 ∷ 2 ∷ []) $ fjoin ! $ done !)

  -- the claim of a slot knows what the slot holds, and that it is claimed
  pub known : (v u : Option R.Denot) (w : Who)
      → ⟦ Stays v ⟧ ∗ ⟦ Had v w ⟧ ∗ ⟦ Holds u ⟧
      ⊢ guard 𝓤 (v ≡ u) (⟦ Stays v ⟧ ∗ ⟦ Had v claimed ⟧ ∗ ⟦ Holds u ⟧)
  known (Some x) (Some y) early =
      qed 𝓛 (‵ (Stays (Some x)) ∷ ‵ (Had (Some x) early) ∷ ‵ (Holds (Some y)) ∷ []) ∵ fsplit3 ! $
      move ! (3 ∷ []) $ fsplit ! $ move ! (1 ∷ []) $ fsplit3 ! $ keep ! (0 ∷ 4 ∷ []) $
      by ! (twice t.vacant _)
  known None None early =
      qed 𝓛 (‵ (Stays None) ∷ ‵ (Had None early) ∷ ‵ (Holds None) ∷ []) ∵ drop ! $ fsplit ! $
      move ! (1 ∷ []) $ fsplit3 ! $ move ! (4 ∷ []) $ fsplit3 ! $ keep ! (0 ∷ 3 ∷ []) $
      by ! (twice t.vacant _)
  known (Some x) (Some y) free =
      qed 𝓛 (‵ (Stays (Some x)) ∷ ‵ (Had (Some x) free) ∷ ‵ (Holds (Some y)) ∷ []) ∵ drop ! $
      fsplit ! $ move ! (1 ∷ []) $ fsplit3 ! $ move ! (4 ∷ []) $ fsplit3 ! $ keep ! (0 ∷ 3 ∷ []) $
      by ! (twice t.filled _)
  known (Some x) (Some y) claimed =
      qed 𝓛 (‵ (Stays (Some x)) ∷ ‵ (Had (Some x) claimed) ∷ ‵ (Holds (Some y)) ∷ []) ∵ fsplit3 ! $
      move ! (4 ∷ []) $ fsplit3 ! $ move ! (4 ∷ 1 ∷ []) $
      use2 𝓛 (given (x ≡ y) (‵ (PinnedAndTold x) ⊛ ‵ (PinnedAndTold y)))
      (pinned_and_told_alike x y) $
      learn ! (λ same. check ! (ap Some same) $ split ! $
      -- [the two; filled; by; vacant; opened; had]
      move ! (4 ∷ 0 ∷ 5 ∷ []) $ fjoin3 ! $ move ! (2 ∷ 1 ∷ 3 ∷ []) $ fjoin3 ! $ move ! (1 ∷ 2 ∷ 0 ∷ []) $ done !)
  known (Some x) None w =
      qed 𝓛 (‵ (Stays (Some x)) ∷ ‵ (Had (Some x) w) ∷ ‵ (Holds None) ∷ []) ∵ fsplit3 ! $
      move ! (4 ∷ []) $ fsplit3 ! $ keep ! (0 ∷ 3 ∷ []) $ by ! (twice t.vacant _)
  known None (Some y) w =
      qed 𝓛 (‵ (Stays None) ∷ ‵ (Had None w) ∷ ‵ (Holds (Some y)) ∷ []) ∵ move ! (2 ∷ []) $
      fsplit3 ! $ move ! (3 ∷ []) $ fsplit ! $ keep ! (0 ∷ 2 ∷ []) $ by ! (twice t.filled _)
  known None None free =
      qed 𝓛 (‵ (Stays None) ∷ ‵ (Had None free) ∷ ‵ (Holds None) ∷ []) ∵ drop ! $ fsplit ! $
      move ! (1 ∷ []) $ fsplit3 ! $ move ! (4 ∷ []) $ fsplit3 ! $ keep ! (0 ∷ 3 ∷ []) $
      by ! (twice t.vacant _)
  known None None claimed = qed 𝓛 (‵ (Stays None) ∷ ‵ (Had None claimed) ∷ ‵ (Holds None) ∷ []) ∵ check ! refl $ done !

  -- a claim is given up, and has its right back
  pub releases : (v u : Option R.Denot) (w : Who)
      → ⟦ Stays v ⟧ ∗ ⟦ Had v w ⟧ ∗ ⟦ Holds u ⟧
      ⊢ guard 𝓤 (v ≡ u) (⟦ Stays v ⟧ ∗ ⟦ Had v free ⟧ ∗ ⟦ Right ⟧)
  releases v u w =
      qed 𝓛 (‵ (Stays v) ∷ ‵ (Had v w) ∷ ‵ (Holds u) ∷ []) ∵
      use3 𝓛 (given (v ≡ u) (‵ (Stays v) ⊛ ‵ (Had v claimed) ⊛ ‵ (Holds u))) (known v u w) $
      learn ! (λ same. check ! same $ split3 ! $
      move ! (1 ∷ []) $ fsplit ! $ move ! (3 ∷ []) $
      rewrite ! 0 (λ (z : Option R.Denot). ‵ (Holds z)) (sym same) refl $ move ! (2 ∷ 0 ∷ []) $
      fjoin ! $ move ! (2 ∷ 0 ∷ 1 ∷ []) $ done !)

  module _ (left : Option Gv) (same : Belongs sharing table) where
    -- what stays with the slot once the value is published, and the note of its id
    abbrev pub Offer : R.Denot → Fml
    Offer x = fsep (fsep (right_owns t.vacant k) (fsep (pinned R η x) (opened R t b ν e x))) (note_owns table k left)

    -- what the claim has of it then, beside the value
    abbrev pub Gain : R.Denot → Fml
    Gain x = fsep (right_owns t.filled k) (fsep (tells R sharing k (Some x)) (note_owns table k (left_after R sharing table left (Some x))))

    abbrev Made : Option R.Denot → R.Denot → SProp 𝓤
    Made v x = guard 𝓤 (v ≡ None) (⟦ Stays (Some x) ⟧ ∗ ⟦ Had (Some x) claimed ⟧ ∗ ⟦ Gain x ⟧)

    -- the claim of a slot that holds no value publishes one
    pub publishes : (v : Option R.Denot) (w : Who) (x : R.Denot)
        → ⟦ Stays v ⟧ ∗ ⟦ Had v w ⟧ ∗ ⟦ Offer x ⟧ ⊢ upd 𝓤 (Made v x)
    publishes (Some z) w x =
        qed 𝓛 (‵ (Stays (Some z)) ∷ ‵ (Had (Some z) w) ∷ ‵ (Offer x) ∷ []) ∵ fsplit3 ! $
        move ! (4 ∷ []) $ fsplit ! $ fsplit3 ! $ keep ! (0 ∷ 4 ∷ []) $ by ! (twice t.vacant _)
    publishes None free x =
        qed 𝓛 (‵ (Stays None) ∷ ‵ (Had None free) ∷ ‵ (Offer x) ∷ []) ∵ drop ! $ fsplit ! $
        move ! (1 ∷ []) $ fsplit3 ! $ move ! (4 ∷ []) $ fsplit ! $ fsplit3 ! $ keep ! (0 ∷ 4 ∷ []) $
        by ! (twice t.vacant _)
    publishes None early x =
        qed 𝓛 (‵ (Stays None) ∷ ‵ (Had None early) ∷ ‵ (Offer x) ∷ []) ∵ drop ! $ fsplit ! $
        move ! (1 ∷ []) $ fsplit3 ! $ move ! (4 ∷ []) $ fsplit ! $ fsplit3 ! $ keep ! (0 ∷ 4 ∷ []) $
        by ! (twice t.vacant _)
    publishes None claimed x =
        let Told : Fml = tells R sharing k (Some x) in
        let Note : Fml = note_owns table k (left_after R sharing table left (Some x)) in
        let Z : SProp 𝓤 = Made None x in
        qed 𝓛 (‵ (Stays None) ∷ ‵ (Had None claimed) ∷ ‵ (Offer x) ∷ []) ∵ fsplit ! $
        move ! (3 ∷ []) $ fsplit ! $ move ! (3 ∷ 1 ∷ []) $
        use2 𝓛 (raw (upd 𝓤 (⟦ Told ⟧ ∗ ⟦ Note ⟧))) (publishes_noted 𝓛 R sharing table k left x same) $ settle 𝓛 Z (‵ Told ⊛ ‵ Note) $
        suffices ! _ (upd_i 𝓤 Z) $ split ! $ use1 𝓛 (‵ Told ⊛ ‵ Told) (tells_dup 𝓛 R sharing k (Some x)) $ split ! $
        move ! (3 ∷ []) $ fsplit3 ! $
        -- [vacant; the pin; opened; what is told, twice; the note; filled; who has it]
        move ! (1 ∷ 3 ∷ []) $ fjoin ! $ move ! (1 ∷ 0 ∷ 2 ∷ []) $ fjoin3 ! $ move ! (1 ∷ 2 ∷ []) $ fjoin ! $
        -- [what is told, with the note; what stays; filled; who has it]
        move ! (2 ∷ 0 ∷ []) $ fjoin ! $ check ! refl $ move ! (1 ∷ 2 ∷ 0 ∷ []) $ done !
