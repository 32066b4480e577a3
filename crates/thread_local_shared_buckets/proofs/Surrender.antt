-- A claim is given up, and has its right back. Assumes `Logic`.
use Rattle.std.proofs.Common.{◌≡◌, ℕ, ◌+◌, ◌<◌, Bool, true, false, [], ◌∷◌, length, refl, sym, subst, Option, None}
use Rattle.std.proofs.Common.{Some}
use seplogic.Ra.Ura.{Ura}
use base.Logic.{never_e}
use base.Fml.{Lft, Share, Fml, ffalse, fsep, fex, fbor, flft, finv}
use prog.Model.{Model}
use contract.Running.{Running}
use types.Logic.{Logic}
use types.Kit.{‵, ◌⊛◌, later, ◌$◌, ◌∵◌, !, qed, by, move, keep, drop, split, pick, rewrite, fsplit, fsplit3}
use types.Kit.{fpick, await, updating, now, use3, done}
use denote.RattleType.{RattleType}
use denote.RawPtr.{Ptr, block_of, count_of}
use Rattle.thread_local_base.proofs.Walking.{lends_token, returns_token}
use Rattle.thread_local_ids.specs.Rights.{right_owns}
use Rattle.thread_local_buckets.specs.Slots.{value_offset}
use Rattle.thread_local_base.specs.Fact.{fact}
use Rattle.thread_local_shared_buckets.specs.Shared.{BucketView, Turn, StandingBlock, bucket_invariant}
use Rattle.thread_local_base.specs.Learnt.{Learnt, Unknown, Missing, Standing, Vacant, Holding}
use Rattle.thread_local_shared_buckets.specs.Claims.{ClaimFields, IsOf, has_slot, has, claim_owns, claims_side}
use Rattle.thread_local_shared_buckets.proofs.Early as early
use Rattle.thread_local_shared_buckets.proofs.ClaimSteps as steps
use Rattle.thread_local_base.proofs.Signs.{signs}
use Rattle.thread_local_shared_buckets.proofs.Inside.{placed}

module _ {M : Type 1} {𝓤 : Ura M} (𝓛 : Logic 𝓤) (R : RattleType) (β : Lft) (table : ℕ) (c : ClaimFields) where
  open 𝓛 use {H, A}
  open signs 𝓛 use {⟦◌⟧, ◌⊢◌, ◌∗◌}

  infix 26 ◌⊢◌
  infixr 35 ◌∗◌
  abbrev w : Ptr
  w = c.bucket

  module _ (z : BucketView × Turn) (of : IsOf R table c z.0) (q : Share) where
    abbrev d : BucketView
    d = z.0

    abbrev t : Turn
    t = z.1

    abbrev J : Fml
    J = fbor t.life (bucket_invariant R d t (block_of w) (count_of w + 0))

    abbrev Right : Fml
    Right = right_owns d.table c.id

    waited : (looked : Bool)
        → A.inv J ∗ A.lft t.life q ∗ ⟦ claims_side looked d.table t.pass c.id ⟧
        ⊢ H.⇛ (⟦ Right ⟧ ∗ A.lft t.life q)
    waited true = early.gives_up 𝓛 R d t (block_of w) (count_of w + 0) c.index c.id of.4 of.3 q
    waited false =
        qed 𝓛 (‵ (finv J) ∷ ‵ (flft t.life q) ∷ ‵ Right ∷ []) ∵ updating ! $ now ! $
        keep ! (2 ∷ 1 ∷ []) $ done !

    waiting_gives : (looked : Bool)
        → A.inv J ∗ A.lft t.life q
        ∗ ⟦ fsep (fact (c.at ≡ c.bucket)) (claims_side looked d.table t.pass c.id) ⟧
        ⊢ H.⇛ (⟦ Right ⟧ ∗ A.lft t.life q)
    waiting_gives looked =
        qed 𝓛 (‵ (finv J) ∷ ‵ (flft t.life q)
        ∷ ‵ (fsep (fact (c.at ≡ c.bucket)) (claims_side looked d.table t.pass c.id)) ∷ []) ∵
        move ! (2 ∷ []) $ fsplit ! $ drop ! $ move ! (1 ∷ 2 ∷ 0 ∷ []) $ by ! (waited looked)

    slot_gives : (v : Option R.Denot)
        → A.inv J ∗ A.lft t.life q ∗ ⟦ fex StandingBlock (has_slot R d t β c v) ⟧
        ⊢ H.⇛ (⟦ Right ⟧ ∗ A.lft t.life q)
    slot_gives v =
        qed 𝓛 (‵ (finv J) ∷ ‵ (flft t.life q) ∷ ‵ (fex StandingBlock (has_slot R d t β c v)) ∷ []) ∵
        move ! (2 ∷ []) $ fpick ! (λ s. fsplit ! $ fpick ! (λ at. drop ! $ fsplit ! $ fsplit3 ! $
        fpick ! (λ sized. drop ! $
        -- [what is known of the block; it lasts; what the slot holds; the invariant; the token]
        let wb : ℕ = block_of w in
        let wo : ℕ = count_of w + 0 in
        let l : c.index < length s.names = subst (λ (n : ℕ). c.index < n) (sym sized.0) of.4 in
        let b : ℕ = block_of s.at in
        let e : ℕ = value_offset R (count_of s.at) c.index in
        keep ! (3 ∷ 4 ∷ 0 ∷ 2 ∷ []) $ by ! (steps.releases 𝓛 R (placed d t wb wo s c.index c.id e b l of.3 refl refl) q v))))

    gives : (l : Learnt R.Denot) → A.inv J ∗ A.lft t.life q ∗ ⟦ has R d t β c l ⟧ ⊢ H.⇛ (⟦ Right ⟧ ∗ A.lft t.life q)
    gives Unknown = waiting_gives false
    gives Missing = waiting_gives true
    gives Standing = qed 𝓛 (‵ (finv J) ∷ ‵ (flft t.life q) ∷ ‵ ffalse ∷ []) ∵ keep ! (2 ∷ []) $ by ! (never_e 𝓤 _)
    gives Vacant = slot_gives None
    gives (Holding x) = slot_gives (Some x)

  -- what a claim owns goes back, and the claim has its right again
  pub surrenders : {𝓜 : Model 𝓤 H} (𝓡 : Running 𝓤 H 𝓜) (l : Learnt R.Denot) (state : ℕ) (q : Share)
      → ⟦ claim_owns R β table c l state ⟧ ∗ A.lft β q ⊢ H.⇛ (⟦ right_owns table c.id ⟧ ∗ A.lft β q)
  surrenders {𝓜} 𝓡 l state q =
      qed 𝓛 (‵ (claim_owns R β table c l state) ∷ ‵ (flft β q) ∷ []) ∵ updating ! $ fsplit ! $
      drop ! $ fpick ! (λ z. fsplit ! $ fpick ! (λ of. drop ! $ fsplit ! $ fsplit ! $
      let life : Lft = z.1.life in
      -- [the sharing lasts; the invariant; what the claim has; the token]
      move ! (0 ∷ 3 ∷ []) $
      lends_token ! 𝓜 𝓡 β life q $ await ! tt $ pick ! (λ r. split ! $
      move ! (2 ∷ 0 ∷ 3 ∷ []) $
      use3 𝓛 (later (‵ (right_owns z.0.table c.id) ⊛ ‵ (flft life r))) (gives z of r l) $
      await ! tt $ split ! $ rewrite ! 0 (λ (n : ℕ). ‵ (right_owns n c.id)) of.2 refl $
      move ! (1 ∷ 2 ∷ []) $
      returns_token ! β life q r $ await ! tt $
      now ! $ move ! (1 ∷ 0 ∷ []) $ done !)))
