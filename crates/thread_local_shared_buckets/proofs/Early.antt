-- A claim that has the pass of its slot, in the two cases of its bucket's invariant: the bucket is
-- missing, or it stands. Assumes `Logic`.
use Rattle.std.proofs.Common.{◌≡◌, ℕ, zero, suc, ◌+◌, ◌%◌, ◌^◌, ◌<◌, Bool, true, false, [], ◌∷◌, length, refl, sym}
use Rattle.std.proofs.Common.{subst, arith, Option, None, is_some}
use seplogic.Ra.Ura.{Ura}
use base.Logic.{SProp, ex, all, upd, upd_i, id⊢, apply∗}
use base.Fml.{GName, Share, Fml, ftrue, fsep, fbor}
use types.Logic.{Logic}
use types.Kit.{‵, raw, ◌⊛◌, some, given, pick, drop, frame, assume, suffices, ◌$◌, ◌∵◌, !, qed, by, move, keep, split}
use types.Kit.{split3, rewrite, group, fsplit, fsplit3, fjoin, fjoin3, fpick, fpack, learn, use0, use1, use2, use3, done}
use denote.RattleType.{RattleType}
use denote.RawPtr.{Ptr, block_ptr, null_ptr, block_of, count_of}
use Rattle.std.specs.Sync.RawAtomic.Pointer.{cell}
use Rattle.thread_local_ids.specs.Rights.{right_owns}
use Rattle.thread_local_ids.proofs.RightElements.{right_once}
use Rattle.thread_local_base.specs.Bits.{is_set}
use Rattle.thread_local_base.proofs.Word.{same_bit}
use Rattle.thread_local_buckets.specs.Slots.{value_offset}
use Rattle.thread_local_shared_buckets.specs.Shared.{name_at, BucketView, Turn, StandingBlock, Who, free, stays, lies_with_slot}
use Rattle.thread_local_shared_buckets.specs.Shared.{unborn, all_unborn, slots_side, len, first, Sized, pending, standing}
use Rattle.thread_local_shared_buckets.specs.Shared.{beside_pointer, bucket_invariant}
use Rattle.thread_local_shared_buckets.specs.Claims.{claims_side}
use Rattle.thread_local_ids.specs.Told.{untold_in}
use Rattle.thread_local_shared_buckets.proofs.Inside.{Next, quietly}
use Rattle.thread_local_shared_buckets.proofs.Inside as inside
use Rattle.thread_local_shared_buckets.proofs.SlotSteps as steps
use Rattle.thread_local_shared_buckets.proofs.Moves as moves
use Rattle.thread_local_base.proofs.Signs.{signs}
use Rattle.thread_local_shared_buckets.proofs.Inside.{SlotAt, placed}

module _ {M : Type 1} {𝓤 : Ura M} (𝓛 : Logic 𝓤) (R : RattleType) where
  open 𝓛 use {H, A}
  open signs 𝓛 use {⟦◌⟧, ◌⊢◌, ◌∗◌, ◌-∗◌}

  infix 26 ◌⊢◌
  infixr 35 ◌∗◌
  infixr 30 ◌-∗◌
  -- one slot, taken out of those that have no block yet
  unborn_out : (sharing : Option GName) (table : ℕ) (t : Turn) (n k i k' : ℕ) → i < n → k' ≡ i + k
      → ⟦ all_unborn R sharing table t n k ⟧
      ⊢ ⟦ unborn R sharing table t k' ⟧
      ∗ (⟦ unborn R sharing table t k' ⟧ -∗ ⟦ all_unborn R sharing table t n k ⟧)
  unborn_out sharing table t zero k i k' l p = absurd (omega arith)
  unborn_out sharing table t (suc n) k zero k' l p =
      let U : ℕ → Fml = λ z. unborn R sharing table t z in
      let same : k ≡ k' = omega arith in
      qed 𝓛 (‵ (all_unborn R sharing table t (suc n) k) ∷ []) ∵ fsplit ! $
      rewrite ! 0 (λ (z : ℕ). ‵ (U z)) same refl $ frame ! $ assume ! (‵ (U k')) $
      rewrite ! 0 (λ (z : ℕ). ‵ (U z)) (sym same) refl $ fjoin ! $ done !
  unborn_out sharing table t (suc n) k (suc i) k' l p =
      let Rest : Fml = all_unborn R sharing table t n (suc k) in
      let One : Fml = unborn R sharing table t k' in
      qed 𝓛 (‵ (all_unborn R sharing table t (suc n) k) ∷ []) ∵ fsplit ! $ move ! (1 ∷ []) $
      use1 𝓛 (‵ One ⊛ raw (⟦ One ⟧ -∗ ⟦ Rest ⟧))
      (unborn_out sharing table t n (suc k) i k' (omega arith) (omega arith)) $
      split ! $ frame ! $
      assume ! (‵ One) $ use2 𝓛 (‵ Rest) (apply∗ 𝓤 ⟦ One ⟧ ⟦ Rest ⟧) $ move ! (1 ∷ 0 ∷ []) $ fjoin ! $ done !

  module _ (d : BucketView) (t : Turn) (wb wo i k : ℕ) (low : i < len R d) (at_k : k ≡ i + first R d) where
    abbrev pub I : Fml
    I = bucket_invariant R d t wb wo

    abbrev pub Unborn : Fml
    Unborn = unborn R d.sharing d.table t k

    abbrev pub place_in : StandingBlock → ℕ
    place_in s = value_offset R (count_of s.at) i

    -- the word of flags and the slot of a standing block, taken out of what holds them
    abbrev pub Out : (s : StandingBlock) → i < length s.names → SProp 𝓤 → ℕ → SProp 𝓤
    Out s l P = inside.Out 𝓛 R (placed d t wb wo s i k (place_in s) (block_of s.at) l at_k refl refl) P

    abbrev Pointed : Ptr → Fml
    Pointed p = fsep (cell wb wo p) (beside_pointer R d t p)

    module _ (X Z : SProp 𝓤) (null : ⟦ Unborn ⟧ ∗ (⟦ Unborn ⟧ -∗ ⟦ I ⟧) ∗ X ⊢ Z)
        (block : (s : StandingBlock) (l : i < length s.names) → ex 𝓤 (Out s l ⟦ I ⟧) ∗ X ⊢ Z) where
      in_bucket : (p : Ptr) → ⟦ Pointed p ⟧ ∗ X ⊢ Z
      in_bucket null_ptr =
          let All : Fml = all_unborn R d.sharing d.table t (len R d) (first R d) in
          let Free : Type 0 = d.reserved ≡ false in
          qed 𝓛 (‵ (Pointed null_ptr) ∷ raw X ∷ []) ∵ fsplit ! $ move ! (1 ∷ []) $ fsplit ! $
          fpick ! (λ h. move ! (1 ∷ []) $ fsplit ! $ move ! (1 ∷ []) $
          use1 𝓛 (‵ Unborn ⊛ raw (⟦ Unborn ⟧ -∗ ⟦ All ⟧))
          (unborn_out d.sharing d.table t (len R d) (first R d) i k low at_k) $
          split ! $
          -- [the slot; the way back; what is pending; nothing; the pointer; X]
          move ! (1 ∷ 2 ∷ 3 ∷ 4 ∷ []) $ group ! 4 $
          use1 𝓛 (raw (⟦ Unborn ⟧ -∗ ⟦ I ⟧)) (null_back h) $ move ! (1 ∷ 0 ∷ 2 ∷ []) $ by ! null)
        where
          null_back : d.reserved ≡ false
              → (⟦ Unborn ⟧ -∗ ⟦ all_unborn R d.sharing d.table t (len R d) (first R d) ⟧)
              ∗ ⟦ pending R d t ⟧ ∗ ⟦ ftrue ⟧ ∗ ⟦ cell wb wo null_ptr ⟧
              ⊢ (⟦ Unborn ⟧ -∗ ⟦ I ⟧)
          null_back h =
              let All : Fml = all_unborn R d.sharing d.table t (len R d) (first R d) in
              qed 𝓛 (raw (⟦ Unborn ⟧ -∗ ⟦ All ⟧) ∷ ‵ (pending R d t) ∷ ‵ ftrue
              ∷ ‵ (cell wb wo null_ptr) ∷ []) ∵
              assume ! (‵ Unborn) $
              use2 𝓛 (‵ All) (apply∗ 𝓤 ⟦ Unborn ⟧ ⟦ All ⟧) $ move ! (1 ∷ 0 ∷ []) $ fjoin ! $
              move ! (1 ∷ []) $ fpack ! (d.reserved ≡ false) (λ _. ftrue) h $ fjoin ! $
              move ! (1 ∷ 0 ∷ []) $ fjoin ! $ fpack ! Ptr Pointed null_ptr $ done !
      in_bucket (block_ptr x y) =
          let p : Ptr = block_ptr x y in
          qed 𝓛 (‵ (Pointed p) ∷ raw X ∷ []) ∵ fsplit ! $ move ! (1 ∷ []) $ fpick ! (λ z. fsplit ! $
          fpick ! (λ h.
          let l : i < length z.0.names = subst (λ (n : ℕ). i < n) (sym h.1) low in
          fpack ! ((z.0.at ≡ p) × (length z.0.names ≡ len R d) × Sized R (len R d) p)
          (λ _. ftrue) h $
          fjoin ! $
          let Whole : Fml = standing R d t p z in
          use1 𝓛 (raw (ex 𝓤 (Out z.0 l ⟦ Whole ⟧)))
          (inside.in_block 𝓛 R (placed d t wb wo z.0 i k (place_in z.0) (block_of z.0.at) l at_k refl refl)
          p z.1) $
          use2 𝓛 (raw (ex 𝓤 (Out z.0 l ⟦ I ⟧)))
          (inside.lifted 𝓛 R (placed d t wb wo z.0 i k (place_in z.0) (block_of z.0.at) l at_k refl refl)
          ⟦ Whole ⟧ ⟦ I ⟧ ⟦ cell wb wo p ⟧ (block_back x y z)) $
          by ! (block z.0 l)))
        where
          block_back : (x y : ℕ) (z : StandingBlock × Share)
              → ⟦ standing R d t (block_ptr x y) z ⟧ ∗ ⟦ cell wb wo (block_ptr x y) ⟧ ⊢ ⟦ I ⟧
          block_back x y z = qed 𝓛 (‵ (standing R d t (block_ptr x y) z) ∷ ‵ (cell wb wo (block_ptr x y)) ∷ []) ∵
              fpack ! (StandingBlock × Share) (standing R d t (block_ptr x y)) z $
              move ! (1 ∷ 0 ∷ []) $ fjoin ! $ fpack ! Ptr Pointed (block_ptr x y) $ done !

      -- the two cases of the pointer: null, or to a block
      pub by_bucket : ⟦ I ⟧ ∗ X ⊢ Z
      by_bucket = qed 𝓛 (‵ I ∷ raw X ∷ []) ∵ fpick ! (λ p. by ! (in_bucket p))

    abbrev Right : Fml
    Right = right_owns d.table k

    abbrev Pass : Fml
    Pass = right_owns t.pass k

    -- what stays with an empty slot
    abbrev Empty : Fml
    Empty = fsep (right_owns t.filled k) (untold_in d.sharing k)

    abbrev Swapped : SProp 𝓤
    Swapped = upd 𝓤 (⟦ I ⟧ ∗ ⟦ Right ⟧)

    -- the right comes back, in exchange for the pass
    unborn_gives_up : ⟦ Unborn ⟧ ∗ (⟦ Unborn ⟧ -∗ ⟦ I ⟧) ∗ ⟦ Pass ⟧ ⊢ Swapped
    unborn_gives_up =
        qed 𝓛 (‵ Unborn ∷ raw (⟦ Unborn ⟧ -∗ ⟦ I ⟧) ∷ ‵ Pass ∷ []) ∵ fsplit3 ! $ move ! (2 ∷ []) $
        fpick ! (λ w. by ! (swaps w))
      where
        swaps : (w : Bool)
            → ⟦ slots_side R w d.table t.pass k ⟧ ∗ ⟦ right_owns t.vacant k ⟧ ∗ ⟦ Empty ⟧
            ∗ (⟦ Unborn ⟧ -∗ ⟦ I ⟧) ∗ ⟦ Pass ⟧
            ⊢ Swapped
        swaps true =
            qed 𝓛 (‵ Right ∷ ‵ (right_owns t.vacant k) ∷ ‵ Empty ∷ raw (⟦ Unborn ⟧ -∗ ⟦ I ⟧)
            ∷ ‵ Pass ∷ []) ∵
            suffices ! _ (upd_i 𝓤 (⟦ I ⟧ ∗ ⟦ Right ⟧)) $ move ! (4 ∷ []) $
            fpack ! Bool (λ early. slots_side R early d.table t.pass k) false $
            move ! (2 ∷ 3 ∷ 0 ∷ []) $ fjoin3 ! $ move ! (0 ∷ 2 ∷ []) $
            use2 𝓛 (‵ I) (apply∗ 𝓤 ⟦ Unborn ⟧ ⟦ I ⟧) $ done !
        swaps false =
            qed 𝓛 (‵ Pass ∷ ‵ (right_owns t.vacant k) ∷ ‵ Empty ∷ raw (⟦ Unborn ⟧ -∗ ⟦ I ⟧)
            ∷ ‵ Pass ∷ []) ∵
            keep ! (0 ∷ 4 ∷ []) $ by ! (right_once 𝓛 t.pass k Swapped)

    born_gives_up : (s : StandingBlock) (l : i < length s.names) → ex 𝓤 (Out s l ⟦ I ⟧) ∗ ⟦ Pass ⟧ ⊢ Swapped
    born_gives_up s l =
        let b : ℕ = block_of s.at in
        let e : ℕ = place_in s in
        let η : GName = name_at s.names i in
        let bit : ℕ = i % 64 in
        let S : Option R.Denot → Fml = stays R t b s.block_life d.sharing k e η in
        let D : Option R.Denot → Who → Fml = lies_with_slot R t b s.block_life d.sharing d.table k e η in
        let at_slot : SlotAt R = placed d t wb wo s i k e b l at_k refl refl in
        let Flags : ℕ → Fml = inside.Flags 𝓛 R at_slot in
        let Slot : Bool → Fml = inside.Slot 𝓛 R (placed d t wb wo s i k e b l at_k refl refl) in
        let Back : (n : ℕ) → Next n bit → SProp 𝓤 = inside.Back 𝓛 R (placed d t wb wo s i k e b l at_k refl refl) ⟦ I ⟧ in
        qed 𝓛 (some (λ (n : ℕ).
        given (n < 2 ^ 64) (‵ (Flags n) ⊛ ‵ (Slot (is_set n bit)) ⊛ raw (all 𝓤 (Back n))))
        ∷ ‵ Pass ∷ []) ∵
        suffices ! _ (upd_i 𝓤 (⟦ I ⟧ ∗ ⟦ Right ⟧)) $ pick ! (λ n. learn ! (λ fits. split3 ! $
        -- [the word; the slot; the way back; the pass]
        move ! (1 ∷ []) $ fsplit ! $ move ! (1 ∷ []) $ fpick ! (λ z. fsplit3 ! $ fpick ! (λ is. drop ! $
        -- [what stands; who has it; the loan; the word; the way back; the pass]
        move ! (0 ∷ 1 ∷ 5 ∷ []) $
        use3 𝓛 (given (z.0 ≡ None) (‵ (S z.0) ⊛ ‵ (D z.0 free) ⊛ ‵ Right))
        (moves.early_gives_up 𝓛 R t b s.block_life d.sharing d.table k e η z.0 z.1) $
        learn ! (λ none. split3 ! $
        -- [what stands; who has it; the right; the loan; the word; the way back]
        use0 𝓛 (‵ (inside.raised 𝓛 R at_slot (is_set n bit) (is_some z.0))) (inside.unraised 𝓛 R at_slot (is_set n bit) (is_some z.0) is) $
        move ! (5 ∷ 4 ∷ 1 ∷ 2 ∷ 6 ∷ 0 ∷ []) $ group ! 6 $
        use1 𝓛 (‵ I) (steps.again 𝓛 R (placed d t wb wo s i k e b l at_k refl refl) n n (z.0, free) fits
        (same_bit n bit (is_some z.0) is)) $
        done !)))))

    -- a ghost step gives the claim up, in both cases
    pub gives_up : (q : Share) → A.inv (fbor t.life I) ∗ A.lft t.life q ∗ ⟦ Pass ⟧ ⊢ H.⇛ (⟦ Right ⟧ ∗ A.lft t.life q)
    gives_up q = quietly 𝓛 t.life q I ⟦ Pass ⟧ ⟦ Right ⟧ (by_bucket ⟦ Pass ⟧ Swapped unborn_gives_up born_gives_up)

    abbrev pub All : Fml
    All = all_unborn R d.sharing d.table t (len R d) (first R d)

    -- a claim that finds null lays its right down and takes the pass, unless it has the pass
    -- already
    pub comes : (looked : Bool) → ⟦ All ⟧ ∗ ⟦ claims_side looked d.table t.pass k ⟧ ⊢ ⟦ All ⟧ ∗ ⟦ Pass ⟧
    comes true = id⊢ 𝓤 _
    comes false =
        qed 𝓛 (‵ All ∷ ‵ Right ∷ []) ∵
        use1 𝓛 (‵ Unborn ⊛ raw (⟦ Unborn ⟧ -∗ ⟦ All ⟧))
        (unborn_out d.sharing d.table t (len R d) (first R d) i k low at_k) $
        split ! $ fsplit3 ! $ move ! (2 ∷ []) $ fpick ! (λ w. by ! (swaps w))
      where
        swaps : (w : Bool)
            → ⟦ slots_side R w d.table t.pass k ⟧ ∗ ⟦ right_owns t.vacant k ⟧ ∗ ⟦ Empty ⟧
            ∗ (⟦ Unborn ⟧ -∗ ⟦ All ⟧) ∗ ⟦ Right ⟧
            ⊢ ⟦ All ⟧ ∗ ⟦ Pass ⟧
        swaps false =
            qed 𝓛 (‵ Pass ∷ ‵ (right_owns t.vacant k) ∷ ‵ Empty ∷ raw (⟦ Unborn ⟧ -∗ ⟦ All ⟧)
            ∷ ‵ Right ∷ []) ∵
            move ! (4 ∷ []) $ fpack ! Bool (λ early. slots_side R early d.table t.pass k) true $
            move ! (2 ∷ 3 ∷ 0 ∷ []) $ fjoin3 ! $
            move ! (0 ∷ 2 ∷ []) $ use2 𝓛 (‵ All) (apply∗ 𝓤 ⟦ Unborn ⟧ ⟦ All ⟧) $ done !
        swaps true =
            qed 𝓛 (‵ Right ∷ ‵ (right_owns t.vacant k) ∷ ‵ Empty ∷ raw (⟦ Unborn ⟧ -∗ ⟦ All ⟧)
            ∷ ‵ Right ∷ []) ∵
            keep ! (0 ∷ 4 ∷ []) $ by ! (right_once 𝓛 d.table k (⟦ All ⟧ ∗ ⟦ Pass ⟧))
