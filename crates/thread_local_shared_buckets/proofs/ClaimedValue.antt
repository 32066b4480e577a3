-- A `&` to a claim lends the value that its slot holds. Assumes `Logic`.
use Rattle.std.proofs.Common.{◌≡◌, ℕ, ◌+◌, [], ◌∷◌, ◌++◌, length, refl, sym, subst, Option, None, Some}
use mathlib.Core.Logic.{inl, inr}
use seplogic.Ra.Ura.{Ura}
use base.Fraction.{full_share}
use base.Logic.{SProp, upd_i, id⊢, guard_i}
use base.Fml.{Lft, GName, Share, Incl, Fml, ftrue, fsep, fseps, fex, fwand, fupd, fdead, fauth, fbor, fobor, flft, Incl-trans}
use base.Before.{before}
use contract.Monad.{fact_i, fact_use}
use contract.Monad as monad
use contract.BorrowLft.{meet_⊑_left, meet_⊑_right, ⊑_meet, lft_logic}
use ghost.Rules.{Toks, span}
use types.Logic.{Logic, lfts}
use types.Kit.{‵, raw, ◌⊛◌, given, later, group, ◌$◌, ◌∵◌, !, qed, by, move, keep, drop, use1, use2, use3, split}
use types.Kit.{split3, join, frame, fsplit, fsplit3, fjoin, fjoin3, fpick, fpack, learn, rewrite, assume, suffices}
use types.Kit.{await, updating, now, done}
use types.Tokens.{bor_open, obor_close, obor_alter}
use types.Na.{before_dup, before_shorten}
use denote.RattleType.{RattleType, RowLaws}
use denote.Memory.{part_at, shared_of}
use denote.RawPtr.{Ptr, InBlock, block_of, count_of}
use denote.Sharing.{ShrLaws, said, nothing, beside, some as any}
use denote.SharingLaws.{within_shr_laws, said_shr_laws, nothing_shr_laws, beside_shr_laws, some_shr_laws, held_shr_laws}
use denote.SharingLaws.{contraction, shortens}
use denote.Shares.{Shares}
use denote.Steps.{nothing as anything}
use Rattle.std.specs.Coded.{coded_option}
use denote.Struct.Lending.{Lends}
use Rattle.std.proofs.cell.BorrowLemmas.{by_one, unnest_before}
use Rattle.thread_local_base.specs.Judged.{Shareable, Judged}
use Rattle.thread_local_ids.specs.Rights.{right_owns}
use Rattle.thread_local_buckets.specs.Slots.{value_offset, content_at}
use Rattle.thread_local_base.specs.Fact.{fact}
use Rattle.thread_local_ids.specs.Told.{tells}
use Rattle.thread_local_ids.proofs.ToldElements.{tells_dup}
use Rattle.thread_local_ids.proofs.Twice.{tells_laws}
use Rattle.thread_local_shared_buckets.specs.Shared.{name_at, BucketView, Turn, StandingBlock, Sized, len, value_code}
use Rattle.thread_local_shared_buckets.specs.Shared.{pinned, tracked_value, age, kept, loaded}
use Rattle.thread_local_shared_buckets.specs.Shared as slots
use Rattle.thread_local_base.specs.Learnt.{Learnt, Unknown, Missing, Standing, Vacant, Holding}
use Rattle.thread_local_shared_buckets.specs.Known.{value_held}
use Rattle.thread_local_shared_buckets.specs.Claims.{ClaimFields, has_slot, IsStateOf, IsOf, has_at, claim_owns, value_at, lasts}
use Rattle.thread_local_shared_buckets.specs.Claims.{shows_value, claim_shares}
use Rattle.thread_local_base.proofs.Signs.{signs}

lasts_laws : (β : Lft) (R : RattleType) → RowLaws R → (b e : ℕ) (x : R.Denot) (j : Judged R) → ShrLaws (lasts R β b e x j)
lasts_laws β R L b e x (inl j) = held_shr_laws β (shared_of R x b e) (L x b e)
lasts_laws β R L b e x (inr j) = nothing_shr_laws

shown_laws : (β : Lft) (R : RattleType) → RowLaws R → (c : ClaimFields) (v : Option R.Denot) → ShrLaws (shows_value R β c v)
shown_laws β R L c None = nothing_shr_laws
shown_laws β R L c (Some x) =
    let b : ℕ = block_of c.at in
    let e : ℕ = count_of c.at in
    let S : Lft → Fml = shared_of R x b e in
    let W : Lft → Fml = denote.Sharing.within β S in
    let F : Judged R → Lft → Fml = lasts R β b e x in
    let Told : Lft → Fml = said (tells R c.sharing c.id (Some x)) in
    let In : Fml = fact (InBlock c.at) in
    beside_shr_laws (said In) (beside W (beside (any (Judged R) F) Told)) (said_shr_laws In (λ _. tt))
    (beside_shr_laws W (beside (any (Judged R) F) Told) (within_shr_laws β S (L x b e))
    (beside_shr_laws (any (Judged R) F) Told (some_shr_laws (Judged R) F (lasts_laws β R L b e x))
    (tells_laws R c.sharing c.id (Some x))))

pub claim_laws : (β : Lft) (R : RattleType) → RowLaws R
    → (c : ClaimFields) (l : Learnt R.Denot) (state : ℕ)
    → ShrLaws (claim_shares R β c l state)
claim_laws β R L c l state =
    beside_shr_laws (said (fact (IsStateOf R state l))) (shows_value R β c (value_held l))
    (said_shr_laws (fact (IsStateOf R state l)) (λ _. tt)) (shown_laws β R L c (value_held l))

module _ {M : Type 1} {𝓤 : Ura M} (𝓛 : Logic 𝓤) where
  open 𝓛 use {H, A}
  open signs 𝓛 use {⟦◌⟧, ◌⊢◌, ◌∗◌}

  infix 26 ◌⊢◌
  infixr 35 ◌∗◌
  module _ (β : Lft) (R : RattleType) (L : RowLaws R) (table : ℕ) (c : ClaimFields) (x : R.Denot)
      (state : ℕ) (ν : Lft) (inc : Incl ν β) where
    abbrev v : Option R.Denot
    v = Some x

    abbrev l : Learnt R.Denot
    l = Holding x

    abbrev C : Fml
    C = claim_owns R β table c l state

    abbrev At : BucketView × Turn → Fml
    At = has_at R β table c l

    abbrev w : Ptr
    w = c.bucket

    abbrev wo : ℕ
    wo = count_of w + 0

    abbrev b : ℕ
    b = block_of c.at

    abbrev e : ℕ
    e = count_of c.at

    -- the value is shared for as long as the bucket is borrowed, or it is borrowed with the claim
    abbrev pub Seen : Judged R → Fml
    Seen (inl j) = shared_of R x b e β
    Seen (inr j) = fbor ν (part_at R full_share x b e)

    abbrev pub Saw : Fml
    Saw = fex (Judged R) Seen

    module _ (told : IsStateOf R state l) (z : BucketView × Turn) (of : IsOf R table c z.0)
        (s : StandingBlock) (at : c.at ≡ value_at R s.at c.index) where
      abbrev d : BucketView
      d = z.0

      abbrev t : Turn
      t = z.1

      abbrev sb : ℕ
      sb = block_of s.at

      abbrev se : ℕ
      se = value_offset R (count_of s.at) c.index

      abbrev η : GName
      η = name_at s.names c.index

      abbrev life : Lft
      life = age R t sb s.block_life

      abbrev Value : Fml
      Value = tracked_value R sb se η

      abbrev By : Judged R → Fml
      By j = slots.by R t sb s.block_life se η x j

      abbrev Row : Fml
      Row = loaded R d t s β

      abbrev Kept : Fml
      Kept = kept R d t (block_of w) wo β

      abbrev Filled : Fml
      Filled = right_owns t.filled c.id

      abbrev Pin : Fml
      Pin = pinned R η x

      abbrev Told : Fml
      Told = tells R d.sharing c.id (Some x)

      abbrev Pinned : Fml
      Pinned = slots.pinned_and_told R d.sharing c.id η x

      -- the claim is put together again
      again : (j : Judged R) → ⟦ Kept ⟧ ∗ ⟦ Row ⟧ ∗ ⟦ Filled ⟧ ∗ ⟦ Pinned ⟧ ∗ ⟦ By j ⟧ ⊢ ⟦ C ⟧
      again j =
          qed 𝓛 (‵ Kept ∷ ‵ Row ∷ ‵ Filled ∷ ‵ Pinned ∷ ‵ (By j) ∷ []) ∵ move ! (4 ∷ []) $
          fpack ! (Judged R) By j $ move ! (3 ∷ 4 ∷ 0 ∷ []) $ fjoin3 ! $ move ! (2 ∷ 0 ∷ []) $
          fjoin ! $
          anything ! $ fpack ! (c.at ≡ value_at R s.at c.index) (λ _. ftrue) at $ fjoin ! $
          fpack ! StandingBlock (has_slot R d t β c v) s $ move ! (1 ∷ 0 ∷ []) $ fjoin ! $
          anything ! $ fpack ! (IsOf R table c d) (λ _. ftrue) of $ fjoin ! $
          fpack ! (BucketView × Turn) At z $ anything ! $
          fpack ! (IsStateOf R state l) (λ _. ftrue) told $ fjoin ! $ done !

      there : ◌≡◌ {A = ℕ × ℕ} (sb, se) (b, e)
      there = λ i. (block_of (sym at i), count_of (sym at i))

      value_back : (o : Option R.Denot)
          → ⟦ fauth η (value_code R o) ⟧
          ⊢ ⟦ fwand (fsep (fdead ν) (fseps (content_at R o sb se ∷ []))) (fupd Value) ⟧
      unfolding fseps
      value_back o =
          let Of : Fml = content_at R o sb se in
          qed 𝓛 (‵ (fauth η (value_code R o)) ∷ []) ∵
          assume ! (‵ (fsep (fdead ν) (fsep Of ftrue))) $ suffices ! ⟦ Value ⟧ (upd_i 𝓤 ⟦ Value ⟧) $
          fsplit3 ! $ keep ! (1 ∷ 3 ∷ []) $ fjoin ! $
          fpack ! (Option R.Denot) (λ c'. fsep (content_at R c' sb se) (fauth η (value_code R c'))) o $ done !

      -- the borrow of the value, once the slot is known to hold it
      lends_value : (σ : Shareable R → ⊥) (q : Share)
          → ⟦ fbor ν Value ⟧ ∗ A.lft ν q ∗ ⟦ Pinned ⟧ ⊢ H.⇛ (⟦ Saw ⟧ ∗ A.lft ν q)
      unfolding fseps
      lends_value σ q =
          qed 𝓛 (‵ (fbor ν Value) ∷ ‵ (flft ν q) ∷ ‵ Pinned ∷ []) ∵ updating ! $ move ! (2 ∷ []) $
          fsplit ! $ move ! (2 ∷ 3 ∷ 0 ∷ []) $ bor_open ! tt $ move ! (1 ∷ []) $ fpick ! (λ o.
          fsplit ! $ move ! (3 ∷ 1 ∷ []) $
          -- [what is known; the name; the memory; the open borrow]
          use2 𝓛
          (given (value_code R (Some x) ≡ value_code R o) (‵ Pin ⊛ ‵ (fauth η (value_code R o))))
          (𝓛.names.res_agree η (value_code R (Some x)) (value_code R o)) $
          learn ! (λ same. split ! $ drop ! $
          use1 𝓛 (‵ (fwand (fsep (fdead ν) (fseps (content_at R o sb se ∷ []))) (fupd Value)))
          (value_back o) $
          move ! (1 ∷ []) $ anything ! $ move ! (1 ∷ 0 ∷ []) $ fjoin ! $
          move ! (2 ∷ 0 ∷ 1 ∷ []) $ obor_alter ! tt (content_at R o sb se ∷ []) $
          use1 𝓛 (‵ (fbor ν (content_at R o sb se)) ⊛ ‵ ftrue) (id⊢ 𝓤 _) $ split ! $
          let is_x : o ≡ Some x = sym ((coded_option R.coded).inj (Some x) o same) in
          rewrite ! 0 (λ (o' : Option R.Denot). ‵ (fbor ν (content_at R o' sb se))) is_x refl $
          rewrite ! 0 (λ (y : ℕ × ℕ). ‵ (fbor ν (part_at R full_share x y.0 y.1))) there refl $
          fpack ! (Judged R) Seen (inr σ) $ now ! $ keep ! (0 ∷ 2 ∷ []) $ done !))

      way_back : (σ : Shareable R → ⊥)
          → ⟦ Kept ⟧ ∗ ⟦ Row ⟧ ∗ ⟦ Filled ⟧ ∗ ⟦ Pinned ⟧
          ⊢ ⟦ fwand (fsep (fdead ν) (fseps (fbor life Value ∷ []))) (fupd C) ⟧
      unfolding fseps
      way_back σ =
          qed 𝓛 (‵ Kept ∷ ‵ Row ∷ ‵ Filled ∷ ‵ Pinned ∷ []) ∵
          assume ! (‵ (fsep (fdead ν) (fsep (fbor life Value) ftrue))) $
          suffices ! ⟦ C ⟧ (upd_i 𝓤 ⟦ C ⟧) $ fsplit3 ! $ move ! (3 ∷ 4 ∷ 5 ∷ 6 ∷ 1 ∷ []) $
          group ! 5 $
          use1 𝓛 (‵ C) (again (inr σ)) $ keep ! (0 ∷ []) $ done !

      pinned_dup : ⟦ Pinned ⟧ ⊢ ⟦ Pinned ⟧ ∗ ⟦ Pinned ⟧
      pinned_dup =
          qed 𝓛 (‵ Pinned ∷ []) ∵ fsplit ! $
          use1 𝓛 (‵ Pin ⊛ ‵ Pin) (𝓛.names.res_dup η (value_code R (Some x))) $ split ! $
          move ! (2 ∷ []) $
          use1 𝓛 (‵ Told ⊛ ‵ Told) (tells_dup 𝓛 R d.sharing c.id (Some x)) $ split ! $
          move ! (2 ∷ 0 ∷ []) $ fjoin ! $ frame ! $ move ! (1 ∷ 0 ∷ []) $ fjoin ! $ done !

      lends_shared : (q : Share) (σ : Shareable R)
          → A.obor ν q C ∗ ⟦ Kept ⟧ ∗ ⟦ Row ⟧ ∗ ⟦ Filled ⟧ ∗ ⟦ Pinned ⟧ ∗ ⟦ By (inl σ) ⟧
          ⊢ H.⇛ (⟦ Saw ⟧ ∗ A.lft ν q)
      unfolding fseps
      lends_shared q σ =
          qed 𝓛 (‵ (fobor ν q C) ∷ ‵ Kept ∷ ‵ Row ∷ ‵ Filled ∷ ‵ Pinned ∷ ‵ (By (inl σ)) ∷ []) ∵
          updating ! $ move ! (2 ∷ []) $ fsplit ! $ move ! (1 ∷ []) $ fsplit ! $ move ! (1 ∷ []) $
          use1 𝓛 (‵ (before β life) ⊛ ‵ (before β life)) (before_dup 𝓛 β life) $ split ! $
          -- [β ends before, twice; what is known of the block; its size; the open borrow; kept;
          -- filled; pinned; by]
          move ! (2 ∷ 1 ∷ []) $ fjoin ! $ move ! (2 ∷ 0 ∷ []) $ fjoin ! $
          move ! (6 ∷ []) $
          use1 𝓛 (‵ (By (inl σ)) ⊛ ‵ (By (inl σ)))
          (contraction 𝓛 (shared_of R x sb se) (L x sb se) life) $
          split ! $
          -- [by; by; the row; β ends before; the open borrow; kept; filled; pinned]
          move ! (3 ∷ 0 ∷ []) $ use2 𝓛 (‵ (shared_of R x sb se β)) ((L x sb se).mono M 𝓤 𝓛 β life) $
          rewrite ! 0 (λ (y : ℕ × ℕ). ‵ (shared_of R x y.0 y.1 β)) there refl $
          fpack ! (Judged R) Seen (inl σ) $
          move ! (4 ∷ 2 ∷ 5 ∷ 6 ∷ 1 ∷ []) $ group ! 5 $ use1 𝓛 (‵ C) (again (inl σ)) $
          move ! (2 ∷ 0 ∷ []) $ obor_close ! tt $ now ! $ keep ! (2 ∷ 1 ∷ []) $ done !

      lends_borrowed : (q : Share) (σ : Shareable R → ⊥)
          → A.obor ν q C ∗ ⟦ Kept ⟧ ∗ ⟦ Row ⟧ ∗ ⟦ Filled ⟧ ∗ ⟦ Pinned ⟧ ∗ ⟦ By (inr σ) ⟧
          ⊢ H.⇛ (⟦ Saw ⟧ ∗ A.lft ν q)
      unfolding fseps
      lends_borrowed q σ =
          qed 𝓛 (‵ (fobor ν q C) ∷ ‵ Kept ∷ ‵ Row ∷ ‵ Filled ∷ ‵ Pinned ∷ ‵ (By (inr σ)) ∷ []) ∵
          updating ! $ move ! (2 ∷ []) $ fsplit ! $ move ! (1 ∷ []) $ fsplit ! $ move ! (1 ∷ []) $
          use1 𝓛 (‵ (before β life) ⊛ ‵ (before β life)) (before_dup 𝓛 β life) $ split ! $
          use1 𝓛 (‵ (before ν life)) (before_shorten 𝓛 β ν life inc) $ move ! (2 ∷ 1 ∷ []) $
          fjoin ! $ move ! (2 ∷ 0 ∷ []) $ fjoin ! $
          -- [the row; ν ends before; the open borrow; kept; filled; pinned; by]
          move ! (5 ∷ []) $ use1 𝓛 (‵ Pinned ⊛ ‵ Pinned) pinned_dup $ split ! $ move ! (5 ∷ 2 ∷ 6 ∷ 0 ∷ []) $ group ! 4 $
          use1 𝓛 (‵ (fwand (fsep (fdead ν) (fseps (fbor life Value ∷ []))) (fupd C))) (way_back σ) $
          anything ! $ move ! (5 ∷ 0 ∷ []) $ fjoin ! $ move ! (4 ∷ 0 ∷ 1 ∷ []) $
          obor_alter ! tt (fbor life Value ∷ []) $
          use1 𝓛 (‵ (fbor ν (fbor life Value)) ⊛ ‵ ftrue) (id⊢ 𝓤 _) $ split ! $
          move ! (4 ∷ 0 ∷ 2 ∷ []) $
          use3 𝓛 (later (‵ (fbor ν Value) ⊛ ‵ (flft ν q))) (unnest_before 𝓛 ν life q Value) $
          await ! tt $ split ! $
          move ! (0 ∷ 1 ∷ 3 ∷ []) $ use3 𝓛 (later (‵ Saw ⊛ ‵ (flft ν q))) (lends_value σ q) $
          await ! tt $ split ! $ now ! $ keep ! (0 ∷ 1 ∷ []) $ done !

      lends_by : (q : Share) (j : Judged R)
          → A.obor ν q C ∗ ⟦ Kept ⟧ ∗ ⟦ Row ⟧ ∗ ⟦ Filled ⟧ ∗ ⟦ Pinned ⟧ ∗ ⟦ By j ⟧
          ⊢ H.⇛ (⟦ Saw ⟧ ∗ A.lft ν q)
      lends_by q (inl σ) = lends_shared q σ
      lends_by q (inr σ) = lends_borrowed q σ

    -- what is told of its id
    abbrev pub Tells : Fml
    Tells = tells R c.sharing c.id (Some x)

    lends_at : (q : Share)
        → ⟦ fbor ν C ⟧ ∗ A.lft ν q
        ⊢ H.⇛ ((⟦ fact (IsStateOf R state l) ⟧ ∗ ⟦ fact (InBlock c.at) ⟧ ∗ ⟦ Tells ⟧ ∗ ⟦ Saw ⟧)
        ∗ A.lft ν q)
    lends_at q =
        qed 𝓛 (‵ (fbor ν C) ∷ ‵ (flft ν q) ∷ []) ∵ updating ! $ bor_open ! tt $ move ! (1 ∷ []) $
        fsplit ! $ fpick ! (λ told. move ! (1 ∷ []) $ fpick ! (λ z. fsplit ! $ fpick ! (λ of.
        move ! (1 ∷ []) $ fsplit ! $ move ! (1 ∷ []) $
        fpick ! (λ s. fsplit ! $ fpick ! (λ at. drop ! $ fsplit ! $ move ! (1 ∷ []) $ fsplit3 ! $
        let Known : Fml = slots.pinned_and_told R z.0.sharing c.id (name_at s.names c.index) x in
        -- [filled; published; by; the row; kept; nothing; nothing; the open borrow]
        move ! (1 ∷ []) $ use1 𝓛 (‵ Known ⊛ ‵ Known) (pinned_dup told z of s at) $ split ! $
        fsplit ! $ drop ! $ rewrite ! 0 (λ (k : Option ℕ). ‵ (tells R k c.id (Some x))) of.6 refl $
        -- [what is told; published; filled; by; the row; kept; nothing; nothing; the open borrow]
        move ! (4 ∷ []) $ fsplit ! $ fpick ! (λ sized.
        fpack ! ((length s.names ≡ len R z.0) × Sized R (len R z.0) s.at) (λ _. ftrue) sized $
        fjoin ! $
        move ! (4 ∷ []) $ fpick ! (λ j. move ! (8 ∷ 5 ∷ 1 ∷ 4 ∷ 3 ∷ 0 ∷ []) $ group ! 6 $
        use1 𝓛 (later (‵ Saw ⊛ ‵ (flft ν q))) (lends_by told z of s at q j) $ await ! tt $ split ! $
        -- [what was seen; the token; what is told]
        move ! (2 ∷ 0 ∷ []) $ join ! $ anything ! $
        fpack ! (InBlock c.at) (λ _. ftrue) (subst (λ (u : Ptr). InBlock u) (sym at) tt) $ join ! $
        anything ! $ fpack ! (IsStateOf R state l) (λ _. ftrue) told $ join ! $ join ! $ now ! $ keep ! (0 ∷ []) $ done !)))))))

  module _ (β : Lft) (R : RattleType) (L : RowLaws R) (l : Lft) (le : Incl l β)
      (shares : Shares 𝓛 R l) (table : ℕ) (c : ClaimFields) (state : ℕ) where
    -- the address of the slot's value: its allocation, and its offset there
    abbrev vb : ℕ
    vb = block_of c.at

    abbrev ve : ℕ
    ve = count_of c.at

    -- what a claim keeps at run time is true of it
    told_of : (t : Learnt R.Denot) → ⟦ claim_owns R β table c t state ⟧ ⊢ monad.fact 𝓤 (IsStateOf R state t)
    told_of t =
        qed 𝓛 (‵ (claim_owns R β table c t state) ∷ []) ∵ fsplit ! $
        fpick ! (λ told. by ! (fact_i 𝓤 (IsStateOf R state t) _ told))

    module _ (x : R.Denot) (κ : Lft) where
      abbrev ν : Lft
      ν = κ ++ β

      abbrev S : Lft → Fml
      S = shared_of R x vb ve

      abbrev Lasts : Judged R → Fml
      Lasts j = lasts R β vb ve x j κ

      abbrev pub Lent : Fml
      Lent = fsep (S ν) (fex (Judged R) Lasts)

      finish : (inc : Incl ν β) (ts : Toks) → Incl (span ts) l → Incl (span ts) ν → (j : Judged R)
          → ⟦ Seen β R L table c x state ν inc j ⟧ ∗ lfts 𝓛 ts ⊢ H.⇛ (⟦ Lent ⟧ ∗ lfts 𝓛 ts)
      finish inc ts sl sν (inl j) =
          qed 𝓛 (‵ (S β) ∷ raw (lfts 𝓛 ts) ∷ []) ∵ updating ! $
          use1 𝓛 (‵ (S β) ⊛ ‵ (S β)) (contraction 𝓛 S (L x vb ve) β) $ split ! $
          fpack ! (Judged R) Lasts (inl j) $ move ! (1 ∷ []) $
          use1 𝓛 (‵ (S ν)) (shortens 𝓛 S (L x vb ve) β ν inc) $ fjoin ! $ now ! $ done !
      finish inc ts sl sν (inr j) = qed 𝓛 (‵ (fbor ν (part_at R full_share x vb ve)) ∷ raw (lfts 𝓛 ts) ∷ []) ∵ updating ! $
          use2 𝓛 (later (‵ (S ν) ⊛ raw (lfts 𝓛 ts))) (shares x ν ts vb ve sl sν) $ await ! tt $ split ! $
          anything ! $ fpack ! (Judged R) Lasts (inr j) $ move ! (1 ∷ 0 ∷ []) $ fjoin ! $ now ! $ done !

    module _ (t : Learnt R.Denot) where
      abbrev P : Fml
      P = claim_owns R β table c t state

      abbrev Φ : Type 0
      Φ = IsStateOf R state t

      keeps_at : (κ : Lft) (q : Share) → A.bor κ P ∗ A.lft κ q ⊢ H.⇛ (⟦ fact Φ ⟧ ∗ A.lft κ q)
      keeps_at κ q = qed 𝓛 (‵ (fbor κ P) ∷ ‵ (flft κ q) ∷ []) ∵ updating ! $ bor_open ! tt $ move ! (1 ∷ []) $
          use1 𝓛 (given Φ (‵ P)) (fact_use 𝓤 _ (told_of t) (guard_i 𝓤 Φ ⟦ P ⟧)) $ learn ! (λ told.
          move ! (1 ∷ 0 ∷ []) $ obor_close ! tt $ drop ! $ anything ! $
          fpack ! Φ (λ _. ftrue) told $ now ! $ done !)

      -- a claim whose slot holds no value shows none
      shows_none : Lends 𝓛 P (beside (said (fact Φ)) nothing) l
      shows_none = λ κ ts inc sp.
          qed 𝓛 (‵ (fbor κ P) ∷ raw (lfts 𝓛 ts) ∷ []) ∵ updating ! $
          use2 𝓛 (later (‵ (fact Φ) ⊛ raw (lfts 𝓛 ts)))
          (by_one 𝓛 κ ts sp (A.bor κ P) ⟦ fact Φ ⟧ (keeps_at κ)) $
          await ! tt $ split ! $ anything ! $ move ! (1 ∷ 0 ∷ []) $ fjoin ! $ now ! $ done !

    lends_holding : (x : R.Denot) → Lends 𝓛 (claim_owns R β table c (Holding x) state) (claim_shares R β c (Holding x) state) l
    lends_holding x = λ κ ts inc sp.
        let ν : Lft = κ ++ β in
        let P : Fml = claim_owns R β table c (Holding x) state in
        let Told : Fml = fact (IsStateOf R state (Holding x)) in
        let In : Fml = fact (InBlock c.at) in
        let sm : Incl (span ts) ν = ⊑_meet (span ts) κ β sp (Incl-trans inc le) in
        let within : Incl ν β = meet_⊑_right κ β in
        let Known : Fml = tells R c.sharing c.id (Some x) in
        let Got : SProp 𝓤 = ⟦ Told ⟧ ∗ ⟦ In ⟧ ∗ ⟦ Known ⟧ ∗ ⟦ Saw β R L table c x state ν within ⟧ in
        qed 𝓛 (‵ (fbor κ P) ∷ raw (lfts 𝓛 ts) ∷ []) ∵ updating ! $
        use1 𝓛 (‵ (fbor ν P)) (𝓛.bors.bor_shorten κ ν P (meet_⊑_left κ β)) $
        use2 𝓛
        (later
        ((‵ Told ⊛ ‵ In ⊛ ‵ Known ⊛ ‵ (Saw β R L table c x state ν within)) ⊛ raw (lfts 𝓛 ts)))
        (by_one 𝓛 ν ts sm (A.bor ν P) Got (lends_at β R L table c x state ν within)) $
        await ! tt $
        split ! $ split3 ! $ move ! (2 ∷ []) $ split ! $ move ! (1 ∷ []) $ fpick ! (λ j.
        move ! (0 ∷ 4 ∷ []) $
        use2 𝓛 (later (‵ (Lent x κ) ⊛ raw (lfts 𝓛 ts))) (finish x κ within ts inc sm j) $
        await ! tt $ split ! $
        -- [what is shared; the tokens; what is told; what is kept; the block]
        fsplit ! $ move ! (1 ∷ 3 ∷ []) $ fjoin ! $ move ! (1 ∷ 0 ∷ []) $ fjoin ! $
        move ! (3 ∷ 0 ∷ []) $ fjoin ! $ move ! (2 ∷ 0 ∷ []) $ fjoin ! $ now ! $
        keep ! (0 ∷ 1 ∷ []) $ done !)

    -- a borrow of a claim becomes a `&` to the value that its slot holds
    pub lends_claim : (t : Learnt R.Denot) → Lends 𝓛 (claim_owns R β table c t state) (claim_shares R β c t state) l
    lends_claim (Holding x) = lends_holding x
    lends_claim Unknown = shows_none Unknown
    lends_claim Missing = shows_none Missing
    lends_claim Standing = shows_none Standing
    lends_claim Vacant = shows_none Vacant

    -- the same of a claim with the note of its id
    pub lends_noted : (N : Fml) (t : Learnt R.Denot) → Lends 𝓛 (fsep (claim_owns R β table c t state) N) (claim_shares R β c t state) l
    lends_noted N t = λ κ ts inc sp.
        let P : Fml = claim_owns R β table c t state in
        qed 𝓛 (‵ (fbor κ (fsep P N)) ∷ raw (lfts 𝓛 ts) ∷ []) ∵ updating ! $
        use2 𝓛 (later (‵ (fbor κ P) ⊛ raw (lfts 𝓛 ts)))
        (by_one 𝓛 κ ts sp (A.bor κ (fsep P N)) ⟦ fbor κ P ⟧ (λ q.
        qed 𝓛 (‵ (fbor κ (fsep P N)) ∷ ‵ (flft κ q) ∷ []) ∵ updating ! $
        use2 𝓛 (later (‵ (fbor κ P) ⊛ ‵ (fbor κ N) ⊛ ‵ (flft κ q))) ((lft_logic 𝓛).LftL_bor_split κ q P N) $
        await ! tt $ split3 ! $ now ! $ keep ! (0 ∷ 2 ∷ []) $ done !)) $
        await ! tt $ split ! $
        use2 𝓛 (later (‵ (claim_shares R β c t state κ) ⊛ raw (lfts 𝓛 ts))) (lends_claim t κ ts inc sp) $
        await ! tt $ split ! $ now ! $ done !
