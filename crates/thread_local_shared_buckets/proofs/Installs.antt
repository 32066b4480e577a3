-- A claim that found its bucket missing has its slot once a block stands: with its value where the block
-- is its own, and else empty. Assumes `Logic`.
use Rattle.std.proofs.Common.{◌≡◌, ℕ, ◌+◌, ◌<◌, Bool, [], ◌∷◌, length, refl, sym, subst, Option, None, Some}
use seplogic.Ra.Ura.{Ura}
use base.Fml.{Lft, GName, Share, Fml, ftrue, fsep, fex, fbor, flft, fres, finv}
use base.Before.{before}
use types.Logic.{Logic}
use types.Na.{before_dup}
use types.Kit.{‵, ◌⊛◌, later, ◌$◌, ◌∵◌, !, qed, by, move, keep, drop, split, rewrite, group, fsplit, fjoin, fjoin3, fpick, fpack, await}
use types.Kit.{updating, now, use1, use2, done}
use denote.RattleType.{RattleType}
use denote.Param.Laws.{Laws}
use denote.RawPtr.{Ptr, block_ptr}
use denote.Steps.{nothing}
use Rattle.thread_local_ids.specs.Rights.{right_owns}
use Rattle.thread_local_ids.specs.Told.{tells}
use Rattle.thread_local_base.specs.Judged.{Judged}
use Rattle.thread_local_buckets.specs.Slots.{value_offset}
use Rattle.thread_local_base.specs.Fact.{fact}
use Rattle.thread_local_shared_buckets.specs.Announcing.{Announcing}
use Rattle.thread_local_shared_buckets.specs.Shared.{BucketView, Turn, StandingBlock, Sized, block_code, len, bucket_invariant, kept, loaded}
use Rattle.thread_local_shared_buckets.specs.Shared.{name_at, pinned, holds, by as lent_by}
use Rattle.thread_local_shared_buckets.proofs.Loads.{part, reaches}
use Rattle.thread_local_shared_buckets.proofs.Offers.{won_by, gained_of}
use Rattle.thread_local_base.specs.Learnt.{Vacant, Holding}
use Rattle.thread_local_shared_buckets.specs.Known.{found_as, state_of}
use Rattle.thread_local_shared_buckets.specs.Claims.{ClaimFields, claim_fields, IsOf, IsStateOf, value_at, has_slot, has_at, claim_owns}
use Rattle.thread_local_shared_buckets.proofs.ClaimSteps as steps
use Rattle.thread_local_base.proofs.Signs.{signs}
use Rattle.thread_local_shared_buckets.proofs.Inside.{placed}

module _ {M : Type 1} {𝓤 : Ura M} (𝓛 : Logic 𝓤) (R : RattleType) (d : BucketView) (t : Turn)
    (β : Lft) (wb wo pb o id i : ℕ) (sharing : Option ℕ) (word : Announcing) (reserved : Bool) where
  open 𝓛 use {H, A}
  open signs 𝓛 use {⟦◌⟧, ◌⊢◌, ◌∗◌}

  infix 26 ◌⊢◌
  infixr 35 ◌∗◌
  abbrev w : Ptr
  w = block_ptr wb wo

  abbrev p : Ptr
  p = block_ptr pb o

  -- the claim once the block stands
  abbrev pub Now : ClaimFields
  Now = claim_fields id i w (value_at R p i) sharing word reserved

  pub installs : (table : ℕ) (q : Share) (zz : StandingBlock × Share) → IsOf R table Now d →
      ⟦ part 𝓛 R d t p zz ⟧ ∗ ⟦ kept R d t wb (wo + 0) β ⟧ ∗ A.lft t.life q
      ∗ ⟦ right_owns t.pass id ⟧
      ⊢ H.⇛ (A.lft t.life q ∗ ⟦ claim_owns R β table Now Vacant 1 ⟧)
  installs table q zz of =
      let J : Fml = fbor t.life (bucket_invariant R d t wb (wo + 0)) in
      let none : Option R.Denot = None in
      let e : ℕ = value_offset R o i in
      qed 𝓛 (‵ (part 𝓛 R d t p zz) ∷ ‵ (kept R d t wb (wo + 0) β) ∷ ‵ (flft t.life q)
      ∷ ‵ (right_owns t.pass id) ∷ []) ∵
      updating ! $ move ! (1 ∷ []) $ fsplit ! $
      use1 𝓛 (‵ (before β t.life) ⊛ ‵ (before β t.life)) (before_dup 𝓛 β t.life) $ split ! $
      move ! (2 ∷ []) $ use1 𝓛 (‵ (finv J) ⊛ ‵ (finv J)) (𝓛.invs.inv_dup J) $ split ! $
      -- [the invariant, twice; before, twice; the part; the token; the pass]
      move ! (4 ∷ 2 ∷ []) $
      use2 𝓛 (later (‵ (fact ((zz.0.at ≡ p) × Sized R (len R d) p)) ⊛ ‵ (loaded R d t zz.0 β)))
      (reaches 𝓛 R d t β p zz) $
      await ! tt $ split ! $ fpick ! (λ there. drop ! $
      let s : StandingBlock = record zz.0 { at = p } in
      rewrite ! 0 (λ (k : StandingBlock). ‵ (loaded R d t k β))
      (λ j. record zz.0 { at = there.0 j }) refl $
      fsplit ! $ fpick ! (λ sized. move ! (1 ∷ []) $ fsplit ! $
      use1 𝓛 (‵ (fres t.which (block_code s)) ⊛ ‵ (fres t.which (block_code s)))
      (𝓛.names.res_dup t.which (block_code s)) $
      split ! $ move ! (1 ∷ 2 ∷ []) $ fjoin ! $ move ! (2 ∷ []) $
      fpack ! ((length s.names ≡ len R d) × Sized R (len R d) s.at) (λ _. ftrue) sized $ move ! (0 ∷ 1 ∷ []) $ fjoin ! $
      -- [the row; which block it is; the invariant, twice; before; the token; the pass]
      let low : i < length s.names = subst (λ (n : ℕ). i < n) (sym sized.0) of.4 in
      let Empty : Fml = steps.Holds 𝓛 R (placed d t wb (wo + 0) s i id e pb low of.3 refl refl) none in
      move ! (2 ∷ 5 ∷ 1 ∷ 6 ∷ []) $ group ! 4 $
      use1 𝓛 (later (‵ Empty ⊛ ‵ (flft t.life q)))
      (steps.comes_in 𝓛 R (placed d t wb (wo + 0) s i id e pb low of.3 refl refl) q) $
      await ! tt $ split ! $
      -- [what the slot holds; the token; the row; the invariant; before]
      move ! (2 ∷ 0 ∷ []) $ fjoin ! $ nothing ! $
      fpack ! (value_at R p i ≡ value_at R s.at i) (λ _. ftrue) refl $ fjoin ! $
      fpack ! StandingBlock (has_slot R d t β Now none) s $
      move ! (3 ∷ 2 ∷ []) $ fjoin ! $ fjoin ! $ nothing ! $
      fpack ! (IsOf R table Now d) (λ _. ftrue) of $ fjoin ! $
      fpack ! (BucketView × Turn) (has_at R β table Now Vacant) (d, t) $
      nothing ! $ fpack ! (IsStateOf R 1 Vacant) (λ _. ftrue) refl $ fjoin ! $ move ! (1 ∷ 0 ∷ []) $ now ! $ done !))

  -- the claim whose block was installed holds the value that the block came with
  installs_filled : (table : ℕ) (x : R.Denot) (η : GName) (zz : StandingBlock × Share) → IsOf R table Now d
      → zz.0.at ≡ p → name_at zz.0.names i ≡ η
      → ⟦ part 𝓛 R d t p zz ⟧ ∗ ⟦ kept R d t wb (wo + 0) β ⟧
      ∗ ⟦ fsep (right_owns t.filled id) (tells R d.sharing id (Some x)) ⟧
      ∗ ⟦ fsep (pinned R η x) (fex (Judged R) (lent_by R t pb zz.0.block_life (value_offset R o i) η x)) ⟧
      ⊢ H.⇛ ⟦ claim_owns R β table Now (Holding x) 2 ⟧
  installs_filled table x η zz of at named =
      let e : ℕ = value_offset R o i in
      let new : Option R.Denot = Some x in
      let Gain : Fml = fsep (right_owns t.filled id) (tells R d.sharing id new) in
      let Mine : Fml = fsep (pinned R η x) (fex (Judged R) (lent_by R t pb zz.0.block_life e η x)) in
      qed 𝓛 (‵ (part 𝓛 R d t p zz) ∷ ‵ (kept R d t wb (wo + 0) β) ∷ ‵ Gain ∷ ‵ Mine ∷ []) ∵
      updating ! $ move ! (1 ∷ []) $ fsplit ! $
      use1 𝓛 (‵ (before β t.life) ⊛ ‵ (before β t.life)) (before_dup 𝓛 β t.life) $ split ! $
      -- [before, twice; the invariant; the part; what the claim gets; what it had]
      move ! (3 ∷ 1 ∷ []) $
      use2 𝓛 (later (‵ (fact ((zz.0.at ≡ p) × Sized R (len R d) p)) ⊛ ‵ (loaded R d t zz.0 β)))
      (reaches 𝓛 R d t β p zz) $
      await ! tt $ split ! $ fpick ! (λ there. drop ! $
      let s : StandingBlock = record zz.0 { at = p } in
      rewrite ! 0 (λ (k : StandingBlock). ‵ (loaded R d t k β))
      (λ j. record zz.0 { at = there.0 j }) refl $
      -- [the row; before; the invariant; what the claim gets; what it had]
      move ! (3 ∷ []) $ fsplit ! $ move ! (5 ∷ []) $ fsplit ! $
      -- [pinned; by; filled; told; the row; before; the invariant]
      move ! (0 ∷ 3 ∷ []) $ fjoin ! $ move ! (2 ∷ 0 ∷ 1 ∷ []) $ fjoin3 ! $
      rewrite ! 0 (λ (η₁ : GName). ‵ (holds R t pb s.block_life d.sharing id e η₁ new)) (sym named) refl $
      -- [what the slot holds; the row; before; the invariant]
      move ! (1 ∷ 0 ∷ []) $ fjoin ! $ nothing ! $
      fpack ! (value_at R p i ≡ value_at R s.at i) (λ _. ftrue) refl $ fjoin ! $
      fpack ! StandingBlock (has_slot R d t β Now new) s $
      move ! (1 ∷ 2 ∷ []) $ fjoin ! $ fjoin ! $ nothing ! $
      fpack ! (IsOf R table Now d) (λ _. ftrue) of $ fjoin ! $
      fpack ! (BucketView × Turn) (has_at R β table Now (Holding x)) (d, t) $
      nothing ! $ fpack ! (IsStateOf R 2 (Holding x)) (λ _. ftrue) refl $ fjoin ! $ now ! $ done !)

  -- the claim whose own block was installed
  pub installs_own : (table : ℕ) (L : Laws R) (v : Option R.Denot) (η : GName) (q : Share) (zz : StandingBlock × Share)
      → IsOf R table Now d → zz.0.at ≡ p → name_at zz.0.names i ≡ η
      → ⟦ part 𝓛 R d t p zz ⟧ ∗ ⟦ kept R d t wb (wo + 0) β ⟧ ∗ A.lft t.life q ∗ ⟦ won_by 𝓛 R t d.sharing v id ⟧
      ∗ ⟦ gained_of 𝓛 R t pb zz.0.block_life o L v (value_offset R o i) η ⟧
      ⊢ H.⇛ (A.lft t.life q ∗ ⟦ claim_owns R β table Now (found_as v) (state_of (found_as v)) ⟧)
  installs_own table L None η q zz of at named =
      qed 𝓛 (‵ (part 𝓛 R d t p zz) ∷ ‵ (kept R d t wb (wo + 0) β) ∷ ‵ (flft t.life q) ∷ ‵ (right_owns t.pass id)
      ∷ ‵ ftrue ∷ []) ∵ keep ! (0 ∷ 1 ∷ 2 ∷ 3 ∷ []) $ by ! (installs table q zz of)
  installs_own table L (Some x) η q zz of at named =
      qed 𝓛 (‵ (part 𝓛 R d t p zz) ∷ ‵ (kept R d t wb (wo + 0) β) ∷ ‵ (flft t.life q)
      ∷ ‵ (won_by 𝓛 R t d.sharing (Some x) id)
      ∷ ‵ (gained_of 𝓛 R t pb zz.0.block_life o L (Some x) (value_offset R o i) η) ∷ []) ∵
      updating ! $ move ! (0 ∷ 1 ∷ 3 ∷ 4 ∷ []) $ group ! 4 $
      use1 𝓛 (later (‵ (claim_owns R β table Now (Holding x) 2))) (installs_filled table x η zz of at named) $
      await ! tt $ move ! (1 ∷ 0 ∷ []) $ now ! $ done !
