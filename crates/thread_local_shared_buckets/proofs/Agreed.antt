-- A claim that has looked holds what is told of its id. Assumes `Logic`.
use Rattle.std.proofs.Common.{◌≡◌, ◌∙◌, ℕ, ◌+◌, ◌%◌, ◌^◌, ◌<◌, Bool, true, false, [], ◌∷◌, length, refl, sym, ap, subst}
use Rattle.std.proofs.Common.{Option, None, Some, IsSome}
use Rattle.std.proofs.lemmas.Bool.{false≢true}
use seplogic.Ra.Ura.{Ura}
use base.Logic.{SProp, ex, all, guard, upd, never_e}
use base.Stored.{Gv}
use base.Fml.{Lft, GName, Share, Fml, ftrue, ffalse, flft, fbor, finv}
use prog.Model.{Model}
use contract.Running.{Running}
use types.Logic.{Logic}
use types.Kit.{‵, raw, ◌⊛◌, some, given, later, pick, learn, check, ◌$◌, ◌∵◌, !, qed, by, move, keep, drop, split}
use types.Kit.{split3, rewrite, group, fsplit, fsplit3, fjoin, fjoin3, fpick, fpack, await, updating, now, use1, use2}
use types.Kit.{use3, done}
use denote.RattleType.{RattleType}
use denote.RawPtr.{block_of, count_of}
use denote.Steps.{nothing}
use Rattle.thread_local_base.proofs.Walking.{lends_token}
use Rattle.thread_local_ids.specs.Rights.{right_owns}
use Rattle.thread_local_base.specs.Bits.{is_set}
use Rattle.thread_local_buckets.specs.Slots.{value_offset}
use Rattle.thread_local_ids.specs.Rights.{note_owns}
use Rattle.thread_local_ids.specs.Told.{tells, untold_in}
use Rattle.thread_local_ids.specs.Sharings.{first_of, is_first, left_of}
use Rattle.thread_local_ids.proofs.ToldNotes.{untold_note, tells_note}
use Rattle.thread_local_ids.proofs.ToldElements.{first_only}
use Rattle.thread_local_ids.proofs.ToldElements.{tells_alike, telling_alike}
use Rattle.thread_local_base.specs.Learnt.{Learnt, Unknown, Missing, Standing, Vacant, Holding}
use Rattle.thread_local_shared_buckets.specs.Shared.{name_at, BucketView, Turn, StandingBlock, Who, stays, lies_with_slot, len}
use Rattle.thread_local_shared_buckets.specs.Shared.{bucket_invariant, kept}
use Rattle.thread_local_shared_buckets.specs.Shared as slots
use Rattle.thread_local_shared_buckets.proofs.Inside.{Next, quietly}
use Rattle.thread_local_shared_buckets.proofs.Inside as inside
use Rattle.thread_local_shared_buckets.proofs.SlotSteps as general
use Rattle.thread_local_shared_buckets.specs.Known.{HasLooked, value_held}
use Rattle.thread_local_shared_buckets.specs.Claims.{ClaimFields, IsOf, IsStateOf, value_at, has_slot, has, has_at, claim_owns}
use Rattle.thread_local_shared_buckets.proofs.Moves as moves
use Rattle.thread_local_shared_buckets.proofs.Early as early
use Rattle.thread_local_base.proofs.Signs.{signs}
use Rattle.thread_local_shared_buckets.proofs.Inside.{placed}

module _ {M : Type 1} {𝓤 : Ura M} (𝓛 : Logic 𝓤) (R : RattleType) where
  open 𝓛 use {H, A}
  open signs 𝓛 use {⟦◌⟧, ◌⊢◌, ◌∗◌, ◌-∗◌}

  infix 26 ◌⊢◌
  infixr 35 ◌∗◌
  infixr 30 ◌-∗◌
  -- Where something is told of an id that contradicts that it is untold.
  module _ (d : BucketView) (t : Turn) (wb wo i k : ℕ)
      (low : i < len R d) (at_k : k ≡ i + slots.first R d)
      (Told : Fml) (empty : (Z : SProp 𝓤) → ⟦ untold_in d.sharing k ⟧ ∗ ⟦ Told ⟧ ⊢ Z) where
    abbrev I : Fml
    I = bucket_invariant R d t wb wo

    abbrev Pass : Fml
    Pass = right_owns t.pass k

    -- no claim of the id has found its bucket missing
    abbrev Both : SProp 𝓤
    Both = ⟦ Pass ⟧ ∗ ⟦ Told ⟧

    abbrev Gone : SProp 𝓤
    Gone = upd 𝓤 (⟦ I ⟧ ∗ ⟦ ffalse ⟧)

    unborn_gone : ⟦ early.Unborn 𝓛 R d t wb wo i k low at_k ⟧
        ∗ (⟦ early.Unborn 𝓛 R d t wb wo i k low at_k ⟧ -∗ ⟦ I ⟧) ∗ Both
        ⊢ Gone
    unborn_gone =
        let U : Fml = early.Unborn 𝓛 R d t wb wo i k low at_k in
        qed 𝓛 (‵ U ∷ raw (⟦ U ⟧ -∗ ⟦ I ⟧) ∷ (‵ Pass ⊛ ‵ Told) ∷ []) ∵ move ! (2 ∷ []) $ split ! $
        move ! (2 ∷ []) $ fsplit3 ! $ move ! (1 ∷ []) $ fsplit ! $
        -- [filled; untold; vacant; what waits; the pass; what is told; the way back]
        keep ! (1 ∷ 5 ∷ []) $ by ! (empty Gone)

    born_gone : (s : StandingBlock) (l : i < length s.names)
        → ex 𝓤 (early.Out 𝓛 R d t wb wo i k low at_k s l ⟦ I ⟧) ∗ Both ⊢ Gone
    born_gone s l =
        let b : ℕ = block_of s.at in
        let e : ℕ = value_offset R (count_of s.at) i in
        let η : GName = name_at s.names i in
        let bit : ℕ = i % 64 in
        let S : Option R.Denot → Fml = stays R t b s.block_life d.sharing k e η in
        let D : Option R.Denot → Who → Fml = lies_with_slot R t b s.block_life d.sharing d.table k e η in
        let Flags : ℕ → Fml = inside.Flags 𝓛 R (placed d t wb wo s i k e b l at_k refl refl) in
        let Slot : _ → Fml = inside.Slot 𝓛 R (placed d t wb wo s i k e b l at_k refl refl) in
        let Back : (n : ℕ) → Next n bit → SProp 𝓤 = inside.Back 𝓛 R (placed d t wb wo s i k e b l at_k refl refl) ⟦ I ⟧ in
        let Empty : Fml = moves.Holds 𝓛 R t b s.block_life d.sharing d.table k e η None in
        qed 𝓛 (some (λ (n : ℕ).
        given (n < 2 ^ 64) (‵ (Flags n) ⊛ ‵ (Slot (is_set n bit)) ⊛ raw (all 𝓤 (Back n))))
        ∷ (‵ Pass ⊛ ‵ Told) ∷ []) ∵
        pick ! (λ n. learn ! (λ fits. split3 ! $
        -- [the word; the slot; the way back; the pass and what is told]
        move ! (1 ∷ []) $ fsplit ! $ move ! (1 ∷ []) $ fpick ! (λ z. fsplit3 ! $ drop ! $ move ! (5 ∷ []) $ split ! $
        -- [the pass; what is told; what stands; who has it; the loan; the word; the way back]
        move ! (2 ∷ 3 ∷ 0 ∷ []) $
        use3 𝓛 (given (z.0 ≡ None) (‵ (S z.0) ⊛ ‵ (D z.0 slots.claimed) ⊛ ‵ Empty))
        (moves.early_claims 𝓛 R t b s.block_life d.sharing d.table k e η z.0 z.1) $
        learn ! (λ none. split ! $
        rewrite ! 0 (λ (v : Option R.Denot). ‵ (S v)) none refl $ fsplit ! $ keep ! (1 ∷ 3 ∷ []) $ by ! (empty Gone)))))

    missing : (q : Share) → A.inv (fbor t.life I) ∗ A.lft t.life q ∗ Both ⊢ H.⇛ (⟦ ffalse ⟧ ∗ A.lft t.life q)
    missing q = quietly 𝓛 t.life q I Both ⟦ ffalse ⟧ (early.by_bucket 𝓛 R d t wb wo i k low at_k Both Gone unborn_gone born_gone)

    -- and none that its slot is vacant
    module _ (s : StandingBlock) (l : i < length s.names) where
      abbrev b : ℕ
      b = block_of s.at

      abbrev e : ℕ
      e = value_offset R (count_of s.at) i

      abbrev Holds : Option R.Denot → Fml
      Holds = general.Holds 𝓛 R (placed d t wb wo s i k e b l at_k refl refl)

      vacant : (q : Share)
          → A.inv (fbor t.life I) ∗ A.lft t.life q
          ∗ ⟦ general.Which 𝓛 R (placed d t wb wo s i k e b l at_k refl refl) ⟧ ∗ ⟦ Holds None ⟧
          ∗ ⟦ Told ⟧
          ⊢ H.⇛ (⟦ ffalse ⟧ ∗ A.lft t.life q)
      vacant q =
          let S : Option R.Denot → Fml = general.Stays 𝓛 R (placed d t wb wo s i k e b l at_k refl refl) in
          let D : Option R.Denot → Who → Fml = general.Had 𝓛 R (placed d t wb wo s i k e b l at_k refl refl) in
          general.moved 𝓛 R (placed d t wb wo s i k e b l at_k refl refl) q (⟦ Holds None ⟧ ∗ ⟦ Told ⟧)
          ⟦ ffalse ⟧ (λ v w.
          let F = general.Left 𝓛 R (placed d t wb wo s i k e b l at_k refl refl) v ⟦ ffalse ⟧ in
          qed 𝓛 (‵ (S v) ∷ ‵ (D v w) ∷ (‵ (Holds None) ⊛ ‵ Told) ∷ []) ∵ move ! (2 ∷ []) $ split ! $
          move ! (2 ∷ 3 ∷ 0 ∷ []) $
          use3 𝓛 (given (v ≡ None) (‵ (S v) ⊛ ‵ (D v slots.claimed) ⊛ ‵ (Holds None)))
          (moves.known 𝓛 R t b s.block_life d.sharing d.table k e (name_at s.names i) v None w) $
          learn ! (λ none. split ! $
          rewrite ! 0 (λ (u : Option R.Denot). ‵ (S u)) none refl $ fsplit ! $ keep ! (1 ∷ 3 ∷ []) $ by ! (empty (ex 𝓤 F))))

  module _ (β : Lft) (table : ℕ) (c : ClaimFields) (state : ℕ) where
    abbrev Own : Learnt R.Denot → Fml
    Own l = claim_owns R β table c l state

    -- a claim that has found no value contradicts what is told
    module _ (Told : Fml)
        (empty : (d : BucketView) → d.sharing ≡ c.sharing → (Z : SProp 𝓤) → ⟦ untold_in d.sharing c.id ⟧ ∗ ⟦ Told ⟧ ⊢ Z) where
      abbrev Contradicts : Learnt R.Denot → Type 1
      Contradicts l =
          (z : BucketView × Turn) → IsOf R table c z.0 → (q : Share)
          → A.inv (fbor z.1.life (bucket_invariant R z.0 z.1 (block_of c.bucket) (count_of c.bucket + 0)))
          ∗ A.lft z.1.life q ∗ ⟦ has R z.0 z.1 β c l ⟧ ∗ ⟦ Told ⟧
          ⊢ H.⇛ (⟦ ffalse ⟧ ∗ A.lft z.1.life q)

      never_vain : Contradicts Missing
      never_vain z of q =
          let J : Fml = fbor z.1.life (bucket_invariant R z.0 z.1 (block_of c.bucket) (count_of c.bucket + 0)) in
          qed 𝓛 (‵ (finv J) ∷ ‵ (flft z.1.life q) ∷ ‵ (has R z.0 z.1 β c Missing) ∷ ‵ Told ∷ []) ∵
          move ! (2 ∷ []) $ fsplit ! $ drop ! $ move ! (1 ∷ 2 ∷ 0 ∷ 3 ∷ []) $
          by ! (missing z.0 z.1 (block_of c.bucket) (count_of c.bucket + 0) c.index c.id of.4 of.3 Told (empty z.0 of.6) q)

      never_vacant : Contradicts Vacant
      never_vacant z of q =
          let J : Fml = fbor z.1.life (bucket_invariant R z.0 z.1 (block_of c.bucket) (count_of c.bucket + 0)) in
          qed 𝓛 (‵ (finv J) ∷ ‵ (flft z.1.life q) ∷ ‵ (has R z.0 z.1 β c Vacant) ∷ ‵ Told ∷ []) ∵
          move ! (2 ∷ []) $ fpick ! (λ s. fsplit ! $ fpick ! (λ at. drop ! $ fsplit ! $ fsplit3 ! $
          fpick ! (λ sized. drop ! $
          -- [what is known of the block; it lasts; what the slot holds; the invariant; the token;
          -- what is told]
          let l : c.index < length s.names = subst (λ (n : ℕ). c.index < n) (sym sized.0) of.4 in
          move ! (3 ∷ 4 ∷ 0 ∷ 2 ∷ 5 ∷ []) $ keep ! (0 ∷ 1 ∷ 2 ∷ 3 ∷ 4 ∷ []) $
          by ! (vacant z.0 z.1 (block_of c.bucket) (count_of c.bucket + 0)
          c.index c.id of.4 of.3 Told (empty z.0 of.6) s l q))))

      module _ {𝓜 : Model 𝓤 H} (𝓡 : Running 𝓤 H 𝓜) where
        never : (l : Learnt R.Denot) → Contradicts l → (q : Share) (Z : SProp 𝓤)
            → ⟦ Own l ⟧ ∗ ⟦ Told ⟧ ∗ A.lft β q ⊢ H.⇛ Z
        never l law q Z =
            qed 𝓛 (‵ (Own l) ∷ ‵ Told ∷ ‵ (flft β q) ∷ []) ∵ updating ! $ fsplit ! $ drop ! $
            fpick ! (λ z. fsplit ! $ fpick ! (λ of. drop ! $ fsplit ! $ fsplit ! $
            let life : Lft = z.1.life in
            -- [the sharing lasts; the invariant; what the claim has; what is told; the token]
            move ! (0 ∷ 4 ∷ []) $
            lends_token ! 𝓜 𝓡 β life q $ await ! tt $ pick ! (λ r. split ! $
            move ! (2 ∷ 0 ∷ 3 ∷ 4 ∷ []) $ group ! 4 $
            use1 𝓛 (later (‵ ffalse ⊛ ‵ (flft life r))) (law z of r) $ await ! tt $ split ! $
            use1 𝓛 (given ⊥ (‵ ftrue)) (never_e 𝓤 _) $ learn ! (λ no. absurd no))))

  module _ (x : R.Denot) (β : Lft) (table : ℕ) (c : ClaimFields) (state : ℕ) (named : IsSome c.sharing) where
    abbrev Tells : Fml
    Tells = tells R c.sharing c.id (Some x)

    abbrev Agreed : Share → Learnt R.Denot → SProp 𝓤
    Agreed q l = guard 𝓤 (l ≡ Holding x) (⟦ claim_owns R β table c l state ⟧ ∗ A.lft β q)

    -- nothing is told of the id of an empty slot
    none_told : (d : BucketView) → d.sharing ≡ c.sharing → (Z : SProp 𝓤) → ⟦ untold_in d.sharing c.id ⟧ ∗ ⟦ Tells ⟧ ⊢ Z
    none_told d same Z =
        qed 𝓛 (‵ (untold_in d.sharing c.id) ∷ ‵ Tells ∷ []) ∵
        rewrite ! 0 (λ (k : Option ℕ). ‵ (untold_in k c.id)) same refl $
        use2 𝓛 (given (None ≡ Some x) (‵ (untold_in c.sharing c.id) ⊛ ‵ Tells))
        (telling_alike 𝓛 R c.sharing named c.id None x) $
        learn ! (λ no. absurd (cc))

    agreed : (y : R.Denot) (q : Share)
        → ⟦ claim_owns R β table c (Holding y) state ⟧ ∗ ⟦ Tells ⟧ ∗ A.lft β q ⊢ Agreed q (Holding y)
    agreed y q =
        qed 𝓛 (‵ (claim_owns R β table c (Holding y) state) ∷ ‵ Tells ∷ ‵ (flft β q) ∷ []) ∵ fsplit ! $ fpick ! (λ kept_so.
        drop ! $ fpick ! (λ z. fsplit ! $ fpick ! (λ of. drop ! $ fsplit ! $ move ! (1 ∷ []) $
        fpick ! (λ s. fsplit ! $ fpick ! (λ at. drop ! $ fsplit ! $ move ! (1 ∷ []) $ fsplit3 ! $
        move ! (1 ∷ []) $ fsplit ! $ move ! (1 ∷ 6 ∷ []) $
        rewrite ! 0 (λ (k : Option ℕ). ‵ (tells R k c.id (Some y))) of.6 refl $
        use2 𝓛 (given (Some y ≡ Some x)
        (‵ (tells R c.sharing c.id (Some y)) ⊛ ‵ (tells R c.sharing c.id (Some x))))
        (tells_alike 𝓛 R c.sharing named c.id (Some y) (Some x)) $
        learn ! (λ same. split ! $
        -- [what is told, twice; the pin; filled; by; the row; kept; the token]
        rewrite ! 0 (λ (k : Option ℕ). ‵ (tells R k c.id (Some y))) (sym of.6) refl $
        move ! (2 ∷ 0 ∷ []) $ fjoin ! $ move ! (2 ∷ 0 ∷ 3 ∷ []) $ fjoin3 ! $ move ! (2 ∷ 0 ∷ []) $
        fjoin ! $ nothing ! $ fpack ! (c.at ≡ value_at R s.at c.index) (λ _. ftrue) at $ fjoin ! $
        fpack ! StandingBlock (has_slot R z.0 z.1 β c (Some y)) s $
        move ! (2 ∷ 0 ∷ []) $ fjoin ! $ nothing ! $ fpack ! (IsOf R table c z.0) (λ _. ftrue) of $
        fjoin ! $ fpack ! (BucketView × Turn) (has_at R β table c (Holding y)) z $
        nothing ! $ fpack ! (IsStateOf R state (Holding y)) (λ _. ftrue) kept_so $ fjoin ! $
        check !
        (ap (λ (o : Option R.Denot).
        elim o as (λ _. Learnt R.Denot) [ None ↦ Vacant | Some v ↦ Holding v ])
        same) $
        keep ! (0 ∷ 2 ∷ []) $ done !))))))

    module _ {𝓜 : Model 𝓤 H} (𝓡 : Running 𝓤 H 𝓜) where
      -- what a claim that has looked holds is what is told of its id
      pub agrees : (l : Learnt R.Denot) → HasLooked l → (q : Share)
          → ⟦ claim_owns R β table c l state ⟧ ∗ ⟦ Tells ⟧ ∗ A.lft β q ⊢ H.⇛ (Agreed q l)
      agrees Unknown known q = absurd known
      agrees Missing known q =
          never β table c state Tells none_told 𝓡 Missing (never_vain β table c state Tells none_told) q (Agreed q Missing)
      agrees Standing known q = absurd known
      agrees Vacant known q =
          never β table c state Tells none_told 𝓡 Vacant (never_vacant β table c state Tells none_told) q (Agreed q Vacant)
      agrees (Holding y) known q =
          qed 𝓛 (‵ (claim_owns R β table c (Holding y) state) ∷ ‵ Tells ∷ ‵ (flft β q) ∷ []) ∵ updating ! $
          use3 𝓛 (raw (Agreed q (Holding y))) (agreed y q) $ now ! $ done !

  -- What the note of an id says that the slot was published with, in the first sharing of a table.
  module _ (β : Lft) (table : ℕ) (c : ClaimFields) (state : ℕ) where
    abbrev Noted : Option Gv → Share → Learnt R.Denot → SProp 𝓤
    Noted left q l =
        guard 𝓤 (is_first c.sharing table ≡ true → left ≡ left_of R (value_held l))
        (⟦ claim_owns R β table c l state ⟧ ∗ ⟦ note_owns table c.id left ⟧ ∗ A.lft β q)

    module _ (first : c.sharing ≡ Some (first_of table)) where
      none_noted : (g : Gv) (d : BucketView) → d.sharing ≡ c.sharing → (Z : SProp 𝓤)
          → ⟦ untold_in d.sharing c.id ⟧ ∗ ⟦ note_owns table c.id (Some g) ⟧ ⊢ Z
      none_noted g d same Z =
          qed 𝓛 (‵ (untold_in d.sharing c.id) ∷ ‵ (note_owns table c.id (Some g)) ∷ []) ∵
          rewrite ! 0 (λ (k : Option ℕ). ‵ (untold_in k c.id)) (same ∙ first) refl $
          by ! (untold_note 𝓛 table c.id g Z)

      noted_so : (left : Option Gv) (y : R.Denot) (q : Share)
          → ⟦ claim_owns R β table c (Holding y) state ⟧ ∗ ⟦ note_owns table c.id left ⟧ ∗ A.lft β q
          ⊢ Noted left q (Holding y)
      noted_so left y q =
          qed 𝓛 (‵ (claim_owns R β table c (Holding y) state) ∷ ‵ (note_owns table c.id left) ∷ ‵ (flft β q) ∷ []) ∵
          fsplit ! $ fpick ! (λ kept_so.
          drop ! $ fpick ! (λ z. fsplit ! $ fpick ! (λ of. drop ! $ fsplit ! $ move ! (1 ∷ []) $
          fpick ! (λ s. fsplit ! $ fpick ! (λ at. drop ! $ fsplit ! $ move ! (1 ∷ []) $ fsplit3 ! $
          move ! (1 ∷ []) $ fsplit ! $ move ! (1 ∷ 6 ∷ []) $
          rewrite ! 0 (λ (k : Option ℕ). ‵ (tells R k c.id (Some y))) (of.6 ∙ first) refl $
          use2 𝓛 (given (left ≡ left_of R (Some y))
          (‵ (tells R (Some (first_of table)) c.id (Some y)) ⊛ ‵ (note_owns table c.id left)))
          (tells_note 𝓛 R table c.id y left) $
          learn ! (λ same. split ! $
          -- [what is told; the note; the pin; filled; by; the row; kept; the token]
          rewrite ! 0 (λ (k : Option ℕ). ‵ (tells R k c.id (Some y))) (sym (of.6 ∙ first)) refl $
          move ! (2 ∷ 0 ∷ []) $ fjoin ! $ move ! (2 ∷ 0 ∷ 3 ∷ []) $ fjoin3 ! $ move ! (2 ∷ 0 ∷ []) $
          fjoin ! $ nothing ! $ fpack ! (c.at ≡ value_at R s.at c.index) (λ _. ftrue) at $ fjoin ! $
          fpack ! StandingBlock (has_slot R z.0 z.1 β c (Some y)) s $
          move ! (2 ∷ 0 ∷ []) $ fjoin ! $ nothing ! $ fpack ! (IsOf R table c z.0) (λ _. ftrue) of $
          fjoin ! $ fpack ! (BucketView × Turn) (has_at R β table c (Holding y)) z $
          nothing ! $ fpack ! (IsStateOf R state (Holding y)) (λ _. ftrue) kept_so $ fjoin ! $
          check ! (λ (_ : is_first c.sharing table ≡ true). same) $ done !))))))

    module _ {𝓜 : Model 𝓤 H} (𝓡 : Running 𝓤 H 𝓜) where
      -- nothing has to be shown of another sharing
      another : (left : Option Gv) (l : Learnt R.Denot) (q : Share) → (is_first c.sharing table ≡ true → left ≡ left_of R (value_held l))
          → ⟦ claim_owns R β table c l state ⟧ ∗ ⟦ note_owns table c.id left ⟧ ∗ A.lft β q ⊢ H.⇛ (Noted left q l)
      another left l q so =
          qed 𝓛 (‵ (claim_owns R β table c l state) ∷ ‵ (note_owns table c.id left) ∷ ‵ (flft β q) ∷ []) ∵ updating ! $
          now ! $ check ! so $ done !

      in_vain : (left : Option Gv) (l : Learnt R.Denot) → value_held l ≡ None → (first : c.sharing ≡ Some (first_of table))
          → ((g : Gv) → Contradicts β table c state (note_owns table c.id (Some g)) (none_noted first g) l)
          → (q : Share)
          → ⟦ claim_owns R β table c l state ⟧ ∗ ⟦ note_owns table c.id left ⟧ ∗ A.lft β q ⊢ H.⇛ (Noted left q l)
      in_vain None l empty first law q = another None l q (λ _. ap (left_of R) (sym empty))
      in_vain (Some g) l empty first law q =
          never β table c state (note_owns table c.id (Some g)) (none_noted first g) 𝓡 l (law g) q (Noted (Some g) q l)

      first_noted : (left : Option Gv) (l : Learnt R.Denot) → HasLooked l → c.sharing ≡ Some (first_of table) → (q : Share)
          → ⟦ claim_owns R β table c l state ⟧ ∗ ⟦ note_owns table c.id left ⟧ ∗ A.lft β q ⊢ H.⇛ (Noted left q l)
      first_noted left Unknown known first q = absurd known
      first_noted left Missing known first q =
          in_vain left Missing refl first
          (λ g. never_vain β table c state (note_owns table c.id (Some g)) (none_noted first g)) q
      first_noted left Standing known first q = absurd known
      first_noted left Vacant known first q =
          in_vain left Vacant refl first
          (λ g. never_vacant β table c state (note_owns table c.id (Some g)) (none_noted first g)) q
      first_noted left (Holding y) known first q =
          qed 𝓛 (‵ (claim_owns R β table c (Holding y) state) ∷ ‵ (note_owns table c.id left) ∷ ‵ (flft β q) ∷ []) ∵
          updating ! $ use3 𝓛 (raw (Noted left q (Holding y))) (noted_so first left y q) $ now ! $ done !

      -- a claim that has looked holds what the note says
      pub notes : (left : Option Gv) (l : Learnt R.Denot) → HasLooked l → (q : Share)
          → ⟦ claim_owns R β table c l state ⟧ ∗ ⟦ note_owns table c.id left ⟧ ∗ A.lft β q ⊢ H.⇛ (Noted left q l)
      notes left l known q = by_test (is_first c.sharing table) refl
        where
          by_test : (t : Bool) → is_first c.sharing table ≡ t
              → ⟦ claim_owns R β table c l state ⟧ ∗ ⟦ note_owns table c.id left ⟧ ∗ A.lft β q ⊢ H.⇛ (Noted left q l)
          by_test true is = first_noted left l known (first_only c.sharing table is) q
          by_test false is = another left l q (λ so. absurd (false≢true (sym is ∙ so)))
