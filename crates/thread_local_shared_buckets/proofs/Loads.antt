-- A load of a shared bucket's pointer, and what it hands out. Assumes `Logic`.
use Rattle.std.proofs.lemmas.Option.{none-some}
use Rattle.std.proofs.Common.{◌≡◌, ℕ, List, zero, suc, ◌+◌, ◌<◌, false, [], ◌∷◌, ◌++◌, length, sym, subst, refl, arith}
use Rattle.std.proofs.Common.{Option, Some, None, IsSome}
use seplogic.Ra.Ura.{Ura}
use base.Fraction.{left, right}
use base.Logic.{SProp, ent, sep, ex, guard, guard_i, upd_i}
use base.Fml.{GName, Lft, Share, Fml, ftrue, fsep, fex, flft, fres, fbor, Incl-refl}
use base.Before.{before}
use types.Logic.{Logic, sem}
use types.Kit.{by, keep, given, learn, rewrite, ‵, raw, ◌⊛◌, ◌$◌, ◌∵◌, !, qed, move, drop, use0, use1, use2, split}
use types.Kit.{check, fsplit, fsplit3, fjoin, fjoin3, fpick, fpack, show, frame, assume, suffices, updating, now, done}
use types.Tokens.{res_dup, bor_new, bor_fracture}
use types.Na.{before-Incl, before_lent}
use denote.RattleType.{RattleType}
use denote.RawPtr.{Ptr, block_ptr, null_ptr}
use denote.Steps.{nothing}
use denote.SharingLaws.{ends_shr_laws}
use Rattle.std.specs.Sync.RawAtomic.Pointer.{cell, asks_ptr}
use Rattle.thread_local_base.specs.Fact.{fact}
use Rattle.thread_local_ids.specs.Rights.{reached_owns}
use Rattle.thread_local_ids.specs.Told.{untold_in, tells}
use Rattle.thread_local_ids.proofs.ToldElements.{telling_alike}
use Rattle.thread_local_ids.proofs.ReachedElements.{reached_twice}
use Rattle.thread_local_ids.specs.TokenViews.{TokenView}
use Rattle.thread_local_ids.specs.TokenLists.{AllOf, tell_each}
use Rattle.thread_local_ids.proofs.TokenListLaws.{slot_agrees}
use Rattle.thread_local_shared_buckets.proofs.ChunkLooks.{all_from}
use Rattle.thread_local_shared_buckets.specs.Shared.{BucketView, Turn, StandingBlock, block_code, Sized, len, first, shown_by, grown}
use Rattle.thread_local_shared_buckets.specs.Shared.{all_unborn, standing, beside_pointer, bucket_invariant, loaded}
use Rattle.thread_local_base.proofs.Pointers.{Lies, opened}
use Rattle.thread_local_base.proofs.Signs.{signs}

module _ {M : Type 1} {𝓤 : Ura M} (𝓛 : Logic 𝓤) (R : RattleType) (sharing : Option GName)
    (named : IsSome sharing) (table : ℕ) (t : Turn) (x : R.Denot) (Z : SProp 𝓤) where
  -- nothing is told of the id of a slot that has no block yet
  pub unborn_untold : (n k i id : ℕ) → i < n → id ≡ i + k
      → ent 𝓤
      (sep 𝓤 (sem 𝓛 (all_unborn R sharing table t n k)) (sem 𝓛 (tells R sharing id (Some x)))) Z
  unborn_untold zero k i id near at = absurd (omega arith)
  unborn_untold (suc n) k zero id near at =
      let same : id ≡ k = omega arith in
      let Told : ℕ → Fml = λ j. tells R sharing j (Some x) in
      qed 𝓛 (‵ (all_unborn R sharing table t (suc n) k) ∷ ‵ (Told id) ∷ []) ∵ fsplit ! $ fsplit3 ! $
      move ! (1 ∷ []) $ fsplit ! $
      -- [filled; untold; vacant; what waits; the other slots; what is told]
      keep ! (1 ∷ 5 ∷ []) $ rewrite ! 1 (λ (j : ℕ). ‵ (Told j)) same refl $
      use2 𝓛 (given (None ≡ Some x) (‵ (untold_in sharing k) ⊛ ‵ (Told k)))
      (telling_alike 𝓛 R sharing named k None x) $
      learn ! (λ no. absurd (cc))
  unborn_untold (suc n) k (suc i) id near at =
      qed 𝓛 (‵ (all_unborn R sharing table t (suc n) k) ∷ ‵ (tells R sharing id (Some x)) ∷ []) ∵
      fsplit ! $ keep ! (1 ∷ 2 ∷ []) $
      by ! (unborn_untold n (suc k) i id (omega arith) (omega arith))

module _ {M : Type 1} {𝓤 : Ura M} (𝓛 : Logic 𝓤) (R : RattleType) (sharing : Option GName)
    (table : ℕ) (t : Turn) (tokens : List (TokenView R.Denot)) where
  -- no token is of this id
  abbrev NoToken : ℕ → Type 0
  NoToken k = AllOf sharing (λ p. p.id ≡ k → ⊥) tokens

  -- no token is of the id of a slot that has no block yet
  pub unborn_unlisted : (n k : ℕ)
      → ent 𝓤
      (sep 𝓤 (sem 𝓛 (all_unborn R sharing table t n k)) (sem 𝓛 (tell_each R tokens)))
      (guard 𝓤 ((i : ℕ) → i < n → NoToken (i + k))
      (sep 𝓤 (sem 𝓛 (all_unborn R sharing table t n k)) (sem 𝓛 (tell_each R tokens))))
  unborn_unlisted zero k = guard_i 𝓤 _ _ (λ i near. absurd (omega arith))
  unborn_unlisted (suc n) k =
      let Telling : Fml = tell_each R tokens in
      let Untold : Fml = untold_in sharing k in
      let Rest : Fml = all_unborn R sharing table t n (suc k) in
      let Says : Type 0 = AllOf sharing (λ p. p.id ≡ k → ◌≡◌ {A = Option R.Denot} None (Some p.value)) tokens in
      qed 𝓛 (‵ (all_unborn R sharing table t (suc n) k) ∷ ‵ Telling ∷ []) ∵ fsplit ! $ fsplit3 ! $
      move ! (1 ∷ []) $ fsplit ! $
      -- [filled; untold; vacant; what waits; the other slots; what the tokens tell]
      move ! (1 ∷ 5 ∷ []) $
      use2 𝓛 (given Says (‵ Untold ⊛ ‵ Telling)) (slot_agrees 𝓛 R sharing k None tokens) $
      learn ! (λ says. split ! $ move ! (2 ∷ 0 ∷ []) $ fjoin ! $ move ! (2 ∷ 0 ∷ 3 ∷ []) $ fjoin3 ! $
      -- [the slot; what the tokens tell; the other slots]
      move ! (2 ∷ 1 ∷ []) $
      use2 𝓛 (given ((i : ℕ) → i < n → NoToken (i + suc k)) (‵ Rest ⊛ ‵ Telling)) (unborn_unlisted n (suc k)) $
      learn ! (λ all. split ! $
      check ! (all_from NoToken n k (λ named i x low same at. none-some _ (says named i x low same at)) all) $
      move ! (2 ∷ 0 ∷ []) $ fjoin ! $ done !))

module _ {M : Type 1} {𝓤 : Ura M} (𝓛 : Logic 𝓤) (R : RattleType) (d : BucketView) (t : Turn)
    (tokens : List (TokenView R.Denot)) where
  -- no token is of a slot of the bucket
  abbrev pub NoneThere : Type 0
  NoneThere = (i : ℕ) → i < len R d → AllOf d.sharing (λ p. p.id ≡ i + first R d → ⊥) tokens

  pub none_there : ent 𝓤
      (sep 𝓤 (sem 𝓛 (all_unborn R d.sharing d.table t (len R d) (first R d))) (sem 𝓛 (tell_each R tokens)))
      (sep 𝓤 (sem 𝓛 (all_unborn R d.sharing d.table t (len R d) (first R d))) (sem 𝓛 (fact NoneThere)))
  none_there =
      let Unborn : Fml = all_unborn R d.sharing d.table t (len R d) (first R d) in
      qed 𝓛 (‵ Unborn ∷ ‵ (tell_each R tokens) ∷ []) ∵
      use2 𝓛 (given NoneThere (‵ Unborn ⊛ ‵ (tell_each R tokens)))
      (unborn_unlisted 𝓛 R d.sharing d.table t tokens (len R d) (first R d)) $
      learn ! (λ none. split ! $ move ! (1 ∷ []) $ drop ! $ nothing ! $
      fpack ! NoneThere (λ _. ftrue) none $ move ! (1 ∷ 0 ∷ []) $ done !)

  pub forgets : ent 𝓤 (sem 𝓛 (tell_each R tokens)) (sem 𝓛 ftrue)
  forgets = qed 𝓛 (‵ (tell_each R tokens) ∷ []) ∵ drop ! $ nothing ! $ done !

module _ {M : Type 1} {𝓤 : Ura M} (𝓛 : Logic 𝓤) (R : RattleType) (d : BucketView) (t : Turn) where
  open 𝓛 use {H, A}
  open signs 𝓛 use {⟦◌⟧, ◌⊢◌, ◌∗◌}

  infix 26 ◌⊢◌
  infixr 35 ◌∗◌
  -- a part of the token of the block's own lifetime, which block it is, and what it shows
  abbrev pub part : Ptr → StandingBlock × Share → Fml
  part p z =
      fsep (fact ((z.0.at ≡ p) × (length z.0.names ≡ len R d) × Sized R (len R d) p))
      (fsep (fres t.which (block_code z.0)) (fsep (flft (z.0.block_life ∷ []) z.1) (grown d)))

  -- what a load takes out of the invariant: `none` at null, and else `also` with a part of the
  -- token of the block's lifetime
  abbrev pub glimpse : Fml → Fml → Ptr → Fml
  glimpse none also null_ptr = fsep (fact (d.reserved ≡ false)) none
  glimpse none also (block_ptr pb po) = fsep (fex (StandingBlock × Share) (part (block_ptr pb po))) also

  pub parted : (p : Ptr) (z : StandingBlock × Share)
      → ⟦ standing R d t p z ⟧ ⊢ ⟦ standing R d t p (z.0, left z.1) ⟧ ∗ ⟦ part p (z.0, right z.1) ⟧
  parted p z =
      let ν : Lft = z.0.block_life ∷ [] in
      qed 𝓛 (‵ (standing R d t p z) ∷ []) ∵ fsplit ! $ fpick ! (λ so. drop ! $ fsplit3 ! $
      fsplit3 ! $ move ! (2 ∷ []) $
      use1 𝓛 (‵ (grown d) ⊛ ‵ (grown d)) (reached_twice 𝓛 d.table (shown_by d)) $ split ! $
      move ! (3 ∷ []) $ res_dup ! $ move ! (5 ∷ []) $
      use1 𝓛 (‵ (flft ν (left z.1)) ⊛ ‵ (flft ν (right z.1))) (𝓛.lfts.lft_split ν z.1) $ split ! $
      -- [the left half; the right; which, twice; what it shows, twice; its authority; the slots
      -- with the right to free]
      move ! (6 ∷ 2 ∷ 4 ∷ []) $ fjoin3 ! $ move ! (0 ∷ 1 ∷ 5 ∷ []) $ fjoin3 ! $ nothing ! $
      fpack ! ((z.0.at ≡ p) × (length z.0.names ≡ len R d) × Sized R (len R d) p) (λ _. ftrue) so $
      fjoin ! $ frame ! $
      move ! (0 ∷ 2 ∷ []) $ fjoin ! $ move ! (1 ∷ 0 ∷ []) $ nothing ! $
      fpack ! ((z.0.at ≡ p) × (length z.0.names ≡ len R d) × Sized R (len R d) p) (λ _. ftrue) so $
      fjoin3 ! $ done !)

  -- a standing block shows how many ids were held at once
  pub shows_held : (p : Ptr) (z : StandingBlock × Share) → ⟦ part p z ⟧ ⊢ ⟦ part p z ⟧ ∗ ⟦ reached_owns d.table (shown_by d) ⟧
  shows_held p z =
      let Held : Fml = reached_owns d.table (shown_by d) in
      qed 𝓛 (‵ (part p z) ∷ []) ∵ fsplit3 ! $ move ! (2 ∷ []) $ fsplit ! $ move ! (1 ∷ []) $
      use1 𝓛 (‵ Held ⊛ ‵ Held) (reached_twice 𝓛 d.table (shown_by d)) $ split ! $
      -- [how many, twice; the token; the fact; which block]
      move ! (2 ∷ 0 ∷ []) $ fjoin ! $ move ! (3 ∷ 0 ∷ []) $ fjoin ! $ move ! (2 ∷ 0 ∷ []) $ fjoin ! $ done !

  -- giving the part up for good makes the block last as long as the reader's lifetime
  pub reaches : (κ : Lft) (p : Ptr) (z : StandingBlock × Share)
      → ⟦ part p z ⟧ ∗ ⟦ before κ t.life ⟧
      ⊢ H.⇛ (⟦ fact ((z.0.at ≡ p) × Sized R (len R d) p) ⟧ ∗ ⟦ loaded R d t z.0 κ ⟧)
  reaches κ p z = let ν : Lft = z.0.block_life ∷ [] in let α : Lft = t.life in
      qed 𝓛 (‵ (part p z) ∷ ‵ (before κ α) ∷ []) ∵ updating ! $ fsplit3 ! $ fpick ! (λ so. drop ! $
      move ! (1 ∷ []) $ fsplit ! $ move ! (1 ∷ []) $ drop ! $ bor_new ! tt α $ bor_fracture ! tt (λ q. flft ν q) z.1 $ move ! (1 ∷ []) $
      drop ! $
      use0 𝓛 (‵ (before (ν ++ α) (ν ++ α))) (before-Incl 𝓛 (ν ++ α) (ν ++ α) (Incl-refl (ν ++ α))) $
      move ! (1 ∷ 0 ∷ []) $ use2 𝓛 (‵ (before α (ν ++ α))) (before_lent 𝓛 α ν (ν ++ α)) $
      move ! (2 ∷ 0 ∷ []) $
      use2 𝓛 (‵ (before κ (ν ++ α))) ((ends_shr_laws (ν ++ α)).mono M 𝓤 𝓛 κ α) $ move ! (1 ∷ 0 ∷ []) $ nothing ! $
      fpack ! ((length z.0.names ≡ len R d) × Sized R (len R d) z.0.at) (λ _. ftrue)
      (so.1, subst (Sized R (len R d)) (sym so.0) so.2) $
      fjoin3 ! $ nothing ! $
      fpack ! ((z.0.at ≡ p) × Sized R (len R d) p) (λ _. ftrue) (so.0, so.2) $ now ! $ done !)

  module _ (b o : ℕ) (s : Share) (X : SProp 𝓤) (none also : Fml)
      (at_null : ⟦ all_unborn R d.sharing d.table t (len R d) (first R d) ⟧ ∗ X
      ⊢ ⟦ all_unborn R d.sharing d.table t (len R d) (first R d) ⟧ ∗ ⟦ none ⟧)
      (at_block : X ⊢ ⟦ also ⟧) where
    abbrev J : Fml
    J = bucket_invariant R d t b o

    peek : (p : Ptr) → ⟦ beside_pointer R d t p ⟧ ∗ X ⊢ ⟦ beside_pointer R d t p ⟧ ∗ ⟦ glimpse none also p ⟧
    peek null_ptr =
        qed 𝓛 (‵ (beside_pointer R d t null_ptr) ∷ raw X ∷ []) ∵ fsplit3 ! $ fpick ! (λ so. drop ! $
        move ! (1 ∷ 2 ∷ []) $
        use2 𝓛 (‵ (all_unborn R d.sharing d.table t (len R d) (first R d)) ⊛ ‵ none) at_null $
        split ! $ move ! (2 ∷ 0 ∷ []) $ nothing ! $ fpack ! (d.reserved ≡ false) (λ _. ftrue) so $
        fjoin3 ! $ frame ! $
        nothing ! $ fpack ! (d.reserved ≡ false) (λ _. ftrue) so $ fjoin ! $ done !)
    peek (block_ptr pb po) =
        let p : Ptr = block_ptr pb po in
        qed 𝓛 (‵ (beside_pointer R d t p) ∷ raw X ∷ []) ∵ fpick ! (λ z.
        use1 𝓛 (‵ (standing R d t p (z.0, left z.1)) ⊛ ‵ (part p (z.0, right z.1))) (parted p z) $
        split ! $
        fpack ! (StandingBlock × Share) (standing R d t p) (z.0, left z.1) $ frame ! $
        fpack ! (StandingBlock × Share) (part p) (z.0, right z.1) $ move ! (1 ∷ []) $
        use1 𝓛 (‵ also) at_block $ move ! (1 ∷ 0 ∷ []) $ fjoin ! $ done !)

    pub reads : A.inv (fbor t.life J) ∗ (A.lft t.life s ∗ X)
        ⊢ asks_ptr 𝓛 (block_ptr b o) (λ p. p) (λ p. fsep (flft t.life s) (glimpse none also p))
    reads = let F : Ptr → SProp 𝓤 = Lies 𝓛 t.life s J b o Ptr (λ p. p) (λ p. p) (λ _. ftrue) (glimpse none also) in
        opened 𝓛 t.life s J b o Ptr (λ p. p) (λ p. p) (λ _. ftrue) (glimpse none also) X (qed 𝓛
        (‵ J ∷ raw X ∷ []) ∵
        suffices ! _ (upd_i 𝓤 (ex 𝓤 F)) $ fpick ! (λ p. fsplit ! $ show ! F p $ frame ! $
        nothing ! $ frame ! $
        assume ! (‵ (cell b o p)) $ suffices ! _ (upd_i 𝓤 (⟦ J ⟧ ∗ ⟦ glimpse none also p ⟧)) $
        move ! (1 ∷ 2 ∷ []) $
        use2 𝓛 (‵ (beside_pointer R d t p) ⊛ ‵ (glimpse none also p)) (peek p) $ split ! $
        move ! (2 ∷ 0 ∷ []) $ fjoin ! $ fpack ! Ptr (λ u. fsep (cell b o u) (beside_pointer R d t u)) p $ done !))
