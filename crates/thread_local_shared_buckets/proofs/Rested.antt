-- Brings the slots of a bucket from rest under the borrows of a turn, and back to rest once the
-- turn is over. Assumes `Logic`.
use Rattle.std.proofs.Common.{◌≡◌, ℕ, zero, suc, ◌+◌, Bool, true, false, List, [], ◌∷◌, length, refl, sym, ap, subst}
use Rattle.std.proofs.Common.{arith, Option, None, Some, is_some}
use Rattle.std.specs.Coded.{coded_option}
use mathlib.Core.Logic.{inl, inr}
use seplogic.Ra.Ura.{Ura}
use mir.Syntax.{Ty}
use mir.Val.{Val}
use mir.Raw.{raw as bare}
use base.Fraction.{full_share}
use base.Logic.{SProp, ex, guard, emp, id⊢, upd_i, never_e}
use base.Fml.{Lft, Incl, GName, Share, Fml, ftrue, fsep, fseps, fex, fwand, fupd, flft, fdead, fauth, fbor, flent, froom}
use ghost.Rules.{Toks, span}
use types.Logic.{Logic, lfts}
use types.Kit.{‵, raw, ◌⊛◌, some, given, later, ◌$◌, ◌∵◌, !, qed, by, move, keep, drop, use0, use1, use2, use3, split}
use types.Kit.{split3, join, group, fsplit, fsplit3, fjoin, fjoin3, fpick, fpack, pick, learn, check, show, frame}
use types.Kit.{each as for_each, assume, suffices, await, updating, now, rewrite, done}
use types.Tokens.{name_new, res_dup, res_agree, bor_new, lent_back, bor_open, obor_alter}
use denote.RattleType.{RattleType}
use denote.Memory.{part_of, part_at, cell_raw, raw_all, shared_of, lone}
use denote.SharingLaws.{contraction}
use denote.Steps.{nothing}
use denote.Param.{layout}
use denote.Param.Laws.{Laws}
use Rattle.std.proofs.cell.BorrowLemmas.{by_one}
use Rattle.thread_local_ids.specs.Rights.{right_owns}
use Rattle.thread_local_base.specs.Judged.{Shareable, Judged}
use Rattle.thread_local_base.specs.Bits.{is_set_in}
use Rattle.thread_local_buckets.specs.Slots.{value_offset, content_at, each, back, empty_slots}
use Rattle.thread_local_shared_buckets.specs.Shared.{Turn, Who, free, value_code, pinned, tracked_value, age}
use Rattle.thread_local_shared_buckets.specs.Shared.{shared_value, opened, by as lent_by, stays, lies_with_slot, shared_slot_as}
use Rattle.thread_local_shared_buckets.specs.Shared.{shared_slot, numbered_slot, slots_under, slots_side, all_unborn, due}
use Rattle.thread_local_shared_buckets.specs.Shared.{rests, slot_rests_as, slot_rests, slots_rest, block_rests}
use Rattle.thread_local_ids.specs.Told.{untold_in, tells, told_or_untold, all_told_or_untold}
use Rattle.thread_local_ids.proofs.ToldElements.{tells_dup}
use Rattle.thread_local_shared_buckets.proofs.ClaimTokens.{tokens_from, token_off}
use Rattle.thread_local_base.proofs.Signs.{signs}

module _ {M : Type 1} {𝓤 : Ura M} (𝓛 : Logic 𝓤) where
  open 𝓛 use {H, A}
  open signs 𝓛 use {⟦◌⟧, ◌⊢◌, ◌∗◌}

  infix 26 ◌⊢◌
  infixr 35 ◌∗◌
  cell_room : (τ : Ty) (vs : List Val) (b o : ℕ) → ⟦ cell_raw full_share (bare τ ∷ []) vs b o ⟧ ⊢ ⟦ froom (bare τ) b o ⟧
  cell_room τ [] b o = never_e 𝓤 _
  cell_room τ (v ∷ []) b o = 𝓛.laws.at_room (bare τ) b o v
  cell_room τ (v ∷ u ∷ vs) b o = never_e 𝓤 _

  part_room_at : (R : RattleType) (τ : Ty) (x : R.Denot) (b o : ℕ)
      → ⟦ part_of (raw_all (τ ∷ [])) R.own_val full_share x b o ⟧ ⊢ ⟦ froom (bare τ) b o ⟧
  unfolding part_of
  part_room_at R τ x b o =
      qed 𝓛 (‵ (fex (List Val)
      (λ vs. fsep (cell_raw full_share (bare τ ∷ []) vs b o) (R.own_val x vs)))
      ∷ []) ∵
      fpick ! (λ vs. fsplit ! $ keep ! (0 ∷ []) $ by ! (cell_room τ vs b o))

  -- the memory of a value is room, once the value is forgotten
  pub part_room : (R : RattleType) (L : Laws R) (x : R.Denot) (b o : ℕ)
      → ⟦ part_at R full_share x b o ⟧ ⊢ ⟦ froom (bare (lone R.mir)) b o ⟧
  part_room R L x b o =
      subst (λ (τs : List Ty).
      ⟦ part_of (raw_all τs) R.own_val full_share x b o ⟧ ⊢ ⟦ froom (bare (lone τs)) b o ⟧)
      (sym L.one) (part_room_at R (layout R) x b o)

  module _ (R : RattleType) (L : Laws R) (b e : ℕ) where
    emptied : (c : Option R.Denot) → ⟦ content_at R c b e ⟧ ⊢ ⟦ content_at R None b e ⟧
    emptied None = id⊢ 𝓤 _
    emptied (Some x) = part_room R L x b e

    -- the memory that is due from a sharing is taken back
    pub redeems : (owed : Bool) (v : Option R.Denot) → ⟦ rests R owed b e v ⟧ ⊢ H.⇛ ⟦ content_at R v b e ⟧
    redeems false v = 𝓛.laws.⇛_intro _
    redeems true None =
        qed 𝓛 (‵ (fex (Lft × GName) (due R b e None)) ∷ []) ∵ updating ! $ fpick ! (λ s. fsplit ! $
        lent_back ! tt $ fpick ! (λ c. fsplit ! $ now ! $ keep ! (0 ∷ []) $ by ! (emptied c)))
    redeems true (Some x) =
        qed 𝓛 (‵ (fex (Lft × GName) (due R b e (Some x))) ∷ []) ∵ updating ! $ fpick ! (λ s.
        fsplit ! $ move ! (1 ∷ []) $ fsplit ! $ lent_back ! tt $ fpick ! (λ c. fsplit ! $
        move ! (2 ∷ 1 ∷ []) $
        res_agree ! (coded_option R.coded) {x = Some x} {y = c}
        (λ z.
        drop ! $ drop ! $
        rewrite ! 0 (λ (u : Option R.Denot). ‵ (content_at R u b e)) (sym z) refl $ now ! $
        done !)))

  module _ (t : Turn) where
    -- the three tokens of an id
    abbrev pub tokens : ℕ → Fml
    tokens k = fsep (right_owns t.vacant k) (fsep (right_owns t.filled k) (right_owns t.pass k))

    -- the tokens of all ids from this one on
    abbrev pub all_tokens : ℕ → Fml
    all_tokens k = fsep (tokens_from t.vacant k) (fsep (tokens_from t.filled k) (tokens_from t.pass k))

    tokens_step : (k : ℕ) → ⟦ all_tokens k ⟧ ⊢ ⟦ tokens k ⟧ ∗ ⟦ all_tokens (suc k) ⟧
    tokens_step k =
        qed 𝓛 (‵ (all_tokens k) ∷ []) ∵ fsplit3 ! $
        use1 𝓛 (‵ (right_owns t.vacant k) ⊛ ‵ (tokens_from t.vacant (suc k)))
        (token_off 𝓛 t.vacant k) $
        split ! $ move ! (2 ∷ []) $
        use1 𝓛 (‵ (right_owns t.filled k) ⊛ ‵ (tokens_from t.filled (suc k)))
        (token_off 𝓛 t.filled k) $
        split ! $ move ! (4 ∷ []) $
        use1 𝓛 (‵ (right_owns t.pass k) ⊛ ‵ (tokens_from t.pass (suc k))) (token_off 𝓛 t.pass k) $ split ! $
        -- [pass; the passes; filled; all filled; vacant; all vacant]
        move ! (4 ∷ 2 ∷ 0 ∷ []) $ fjoin3 ! $ move ! (0 ∷ 3 ∷ 2 ∷ 1 ∷ []) $ frame ! $ done !

    -- the tokens make the slots of a bucket that has no block yet
    pub all_wait : (R : RattleType) (sharing : Option GName) (table n k : ℕ)
        → ⟦ all_tokens k ⟧ ∗ ⟦ all_told_or_untold R sharing k (empty_slots n) ⟧
        ⊢ ⟦ all_unborn R sharing table t n k ⟧
    all_wait R sharing table zero k = qed 𝓛 (‵ (all_tokens k) ∷ ‵ ftrue ∷ []) ∵ drop ! $ done !
    all_wait R sharing table (suc n) k =
        qed 𝓛 (‵ (all_tokens k) ∷ ‵ (all_told_or_untold R sharing k (empty_slots (suc n))) ∷ []) ∵
        use1 𝓛 (‵ (tokens k) ⊛ ‵ (all_tokens (suc k))) (tokens_step k) $ split ! $ fsplit3 ! $
        move ! (2 ∷ []) $
        fpack ! Bool (λ early. slots_side R early table t.pass k) false $ move ! (4 ∷ []) $ fsplit ! $
        -- [untold; the other slots; what waits; vacant; filled; the other tokens]
        move ! (4 ∷ 0 ∷ []) $ fjoin ! $ move ! (3 ∷ 0 ∷ 2 ∷ []) $ fjoin3 ! $ frame ! $
        move ! (1 ∷ 0 ∷ []) $ by ! (all_wait R sharing table n (suc k))

    -- what is told of slots that have no block yet
    pub none_born : (R : RattleType) (sharing : Option GName) (table n k : ℕ)
        → ⟦ all_unborn R sharing table t n k ⟧ ⊢ ⟦ all_told_or_untold R sharing k (empty_slots n) ⟧
    none_born R sharing table zero k = id⊢ 𝓤 _
    none_born R sharing table (suc n) k =
        qed 𝓛 (‵ (all_unborn R sharing table t (suc n) k) ∷ []) ∵ fsplit ! $ fsplit3 ! $
        move ! (1 ∷ []) $ fsplit ! $ keep ! (1 ∷ 4 ∷ []) $ move ! (1 ∷ []) $
        use1 𝓛 (‵ (all_told_or_untold R sharing (suc k) (empty_slots n)))
        (none_born R sharing table n (suc k)) $
        move ! (1 ∷ 0 ∷ []) $ fjoin ! $ done !

    module _ (R : RattleType) (L : Laws R) (b ν : ℕ) where
      abbrev κ : Lft
      κ = age R t b ν

      module _ (e : ℕ) (η : GName) where
        abbrev V : Fml
        V = tracked_value R b e η

        value_back : (x : R.Denot)
            → A.auth η (value_code R (Some x))
            ⊢ ⟦ fwand (fsep (fdead κ) (fseps (part_at R full_share x b e ∷ []))) (fupd V) ⟧
        unfolding fseps
        value_back x =
            qed 𝓛 (‵ (fauth η (value_code R (Some x))) ∷ []) ∵
            assume ! (‵ (fsep (fdead κ) (fsep (part_at R full_share x b e) ftrue))) $
            suffices ! ⟦ V ⟧ (upd_i 𝓤 ⟦ V ⟧) $ fsplit3 ! $ keep ! (1 ∷ 3 ∷ []) $ fjoin ! $
            fpack ! (Option R.Denot) (λ c. fsep (content_at R c b e) (fauth η (value_code R c))) (Some x) $ done !

        pins : (x : R.Denot) (q : Share)
            → (⟦ pinned R η x ⟧ ∗ A.bor κ V) ∗ A.lft κ q
            ⊢ H.⇛ (A.bor κ (part_at R full_share x b e) ∗ A.lft κ q)
        unfolding fseps
        pins x q = let Q : Fml = part_at R full_share x b e in
            qed 𝓛 ((‵ (pinned R η x) ⊛ ‵ (fbor κ V)) ∷ ‵ (flft κ q) ∷ []) ∵ updating ! $ split ! $
            move ! (1 ∷ 2 ∷ []) $ bor_open ! tt $ move ! (1 ∷ []) $ fpick ! (λ c. fsplit ! $
            move ! (3 ∷ 1 ∷ []) $
            res_agree ! (coded_option R.coded) {x = Some x} {y = c} (λ z. drop ! $
            rewrite ! 0 (λ (u : Option R.Denot). ‵ (fauth η (value_code R u))) (sym z) refl $
            rewrite ! 1 (λ (u : Option R.Denot). ‵ (content_at R u b e)) (sym z) refl $
            use1 𝓛 (‵ (fwand (fsep (fdead κ) (fseps (Q ∷ []))) (fupd V))) (value_back x) $
            nothing ! $ move ! (2 ∷ 0 ∷ []) $ fjoin ! $ move ! (2 ∷ 0 ∷ 1 ∷ []) $
            obor_alter ! tt (Q ∷ []) $
            use1 𝓛 (‵ (fbor κ Q) ⊛ ‵ ftrue) (id⊢ 𝓤 _) $ split ! $ now ! $ keep ! (0 ∷ 2 ∷ []) $ done !))

        -- the published value is shared for good
        pub freezes : (ts : Toks) → Incl (span ts) R.lives → Incl (span ts) κ → (x : R.Denot)
            → (⟦ pinned R η x ⟧ ∗ A.bor κ V) ∗ lfts 𝓛 ts
            ⊢ H.⇛ (⟦ shared_value R t b ν e x ⟧ ∗ lfts 𝓛 ts)
        freezes ts inc sp x = let Q : Fml = part_at R full_share x b e in
            qed 𝓛 ((‵ (pinned R η x) ⊛ ‵ (fbor κ V)) ∷ raw (lfts 𝓛 ts) ∷ []) ∵ updating ! $
            use2 𝓛 (later (‵ (fbor κ Q) ⊛ raw (lfts 𝓛 ts)))
            (by_one 𝓛 κ ts sp (⟦ pinned R η x ⟧ ∗ A.bor κ V) (A.bor κ Q) (pins x)) $
            await ! tt $
            use1 𝓛 (later (‵ (shared_value R t b ν e x) ⊛ raw (lfts 𝓛 ts)))
            (L.shares 𝓛 x κ ts b e inc sp) $
            await ! tt $ now ! $ done !

        pub opens_by : (x : R.Denot) → ⟦ shared_value R t b ν e x ⟧ ⊢ ⟦ opened R t b ν e x ⟧
        opens_by x =
            qed 𝓛 (‵ (shared_value R t b ν e x) ∷ []) ∵
            for_each ! (λ (_ : Shareable R). ⟦ shared_value R t b ν e x ⟧) (λ _. done !)

        opens_never : (x : R.Denot) → (Shareable R → ⊥) → emp 𝓤 ⊢ ⟦ opened R t b ν e x ⟧
        opens_never x refuted =
            qed 𝓛 [] ∵
            for_each ! (λ (_ : Shareable R). ⟦ shared_value R t b ν e x ⟧) (λ j. absurd (refuted j))

        -- a value that is being published: what stays with the slot, and what its claim has
        abbrev pub Published : Toks → R.Denot → SProp 𝓤
        Published ts x = ⟦ opened R t b ν e x ⟧ ∗ ⟦ fex (Judged R) (lent_by R t b ν e η x) ⟧ ∗ lfts 𝓛 ts

        pub publishes : (ts : Toks) → Incl (span ts) R.lives → Incl (span ts) κ → (x : R.Denot)
            → Judged R
            → (⟦ pinned R η x ⟧ ∗ A.bor κ V) ∗ lfts 𝓛 ts ⊢ H.⇛ (Published ts x)
        publishes ts inc sp x (inl j) =
            let S : Lft → Fml = shared_of R x b e in
            qed 𝓛 ((‵ (pinned R η x) ⊛ ‵ (fbor κ V)) ∷ raw (lfts 𝓛 ts) ∷ []) ∵ updating ! $
            use2 𝓛 (later (‵ (S κ) ⊛ raw (lfts 𝓛 ts))) (freezes ts inc sp x) $ await ! tt $
            split ! $ use1 𝓛 (‵ (S κ) ⊛ ‵ (S κ)) (contraction 𝓛 S (L.shr_laws x b e) κ) $ split ! $
            use1 𝓛 (‵ (opened R t b ν e x)) (opens_by x) $ move ! (1 ∷ []) $
            fpack ! (Judged R) (lent_by R t b ν e η x) (inl j) $ now ! $ move ! (1 ∷ 0 ∷ []) $
            done !
        publishes ts inc sp x (inr refuted) =
            qed 𝓛 ((‵ (pinned R η x) ⊛ ‵ (fbor κ V)) ∷ raw (lfts 𝓛 ts) ∷ []) ∵ updating ! $
            split ! $ drop ! $ fpack ! (Judged R) (lent_by R t b ν e η x) (inr refuted) $
            use0 𝓛 (‵ (opened R t b ν e x)) (opens_never x refuted) $ now ! $ done !

      module _ (sharing : Option GName) where
        -- a slot that a turn has begun for, without its flag: its loan, what stays, and what lies
        -- with it while nobody has it
        module _ (table k e : ℕ) (X : SProp 𝓤) where
          abbrev pub Born : Option R.Denot → GName → SProp 𝓤
          Born v η =
              ⟦ flent κ (tracked_value R b e η) ⟧ ∗ ⟦ stays R t b ν sharing k e η v ⟧
              ∗ ⟦ lies_with_slot R t b ν sharing table k e η v free ⟧ ∗ X

        born : (ts : Toks) → Incl (span ts) R.lives → Incl (span ts) κ → Judged R → (table k e : ℕ) (v : Option R.Denot)
            → ⟦ content_at R v b e ⟧ ∗ ⟦ tokens k ⟧ ∗ ⟦ told_or_untold R sharing k v ⟧ ∗ lfts 𝓛 ts
            ⊢ H.⇛ (ex 𝓤 (Born table k e (lfts 𝓛 ts) v))
        born ts inc sp j table k e None =
            qed 𝓛 (‵ (content_at R None b e) ∷ ‵ (tokens k) ∷ ‵ (untold_in sharing k)
            ∷ raw (lfts 𝓛 ts) ∷ []) ∵
            updating ! $ name_new ! tt (value_code R None) (λ η.
            -- [its name, in two halves; the room; the tokens; untold; the lifetimes]
            move ! (2 ∷ 1 ∷ []) $ fjoin ! $
            fpack ! (Option R.Denot) (λ c. fsep (content_at R c b e) (fauth η (value_code R c)))
            None $
            bor_new ! tt κ $
            move ! (3 ∷ []) $ fsplit3 ! $
            -- [vacant; filled; pass; the borrow; the way to its end; its name; untold; the lifetimes]
            move ! (1 ∷ 6 ∷ []) $ fjoin ! $ move ! (1 ∷ 5 ∷ 3 ∷ []) $ fjoin3 ! $ move ! (2 ∷ 0 ∷ []) $ fjoin ! $
            now ! $ show ! (Born table k e (lfts 𝓛 ts) None) η $ move ! (2 ∷ 1 ∷ 0 ∷ []) $ done !)
        born ts inc sp j table k e (Some x) =
            let Told : Fml = tells R sharing k (Some x) in
            qed 𝓛 (‵ (content_at R (Some x) b e) ∷ ‵ (tokens k) ∷ ‵ Told ∷ raw (lfts 𝓛 ts) ∷ []) ∵
            updating ! $ name_new ! tt (value_code R (Some x)) (λ η.
            move ! (2 ∷ 1 ∷ []) $ fjoin ! $
            fpack ! (Option R.Denot) (λ c. fsep (content_at R c b e) (fauth η (value_code R c)))
            (Some x) $
            bor_new ! tt κ $
            -- [the borrow; the way to its end; the name; the tokens; what is told; the lifetimes]
            move ! (2 ∷ []) $
            use1 𝓛 (‵ (pinned R η x)) (𝓛.names.obs-res η (value_code R (Some x))) $ res_dup ! $
            move ! (1 ∷ []) $ res_dup ! $ move ! (0 ∷ 3 ∷ []) $ join ! $ move ! (0 ∷ 6 ∷ []) $
            use2 𝓛
            (later (‵ (opened R t b ν e x) ⊛ ‵ (fex (Judged R) (lent_by R t b ν e η x))
            ⊛ raw (lfts 𝓛 ts)))
            (publishes e η ts inc sp x j) $
            await ! tt $ split3 ! $
            -- [opened; by; the lifetimes; pinned; pinned; the way to the end; the tokens; what is
            -- told]
            move ! (7 ∷ []) $
            use1 𝓛 (‵ Told ⊛ ‵ Told) (tells_dup 𝓛 R sharing k (Some x)) $ split ! $
            move ! (5 ∷ 0 ∷ []) $ fjoin ! $ move ! (5 ∷ 1 ∷ []) $ fjoin ! $
            move ! (6 ∷ []) $ fsplit3 ! $
            -- [vacant; filled; pass; published; published; opened; by; the lifetimes; the way to the
            -- end]
            move ! (0 ∷ 3 ∷ 5 ∷ []) $ fjoin3 ! $ move ! (1 ∷ 3 ∷ 4 ∷ []) $ fjoin3 ! $ move ! (2 ∷ 0 ∷ []) $ fjoin ! $
            now ! $ show ! (Born table k e (lfts 𝓛 ts) (Some x)) η $ move ! (3 ∷ 1 ∷ 0 ∷ 2 ∷ []) $ done !)

        -- a slot that lay at rest comes under the turn
        wakes_slot : (ts : Toks) → Incl (span ts) R.lives → Incl (span ts) κ → Judged R → (table : ℕ) (set : Bool) (k e : ℕ)
            → ⟦ slot_rests R sharing k set b e ⟧ ∗ ⟦ tokens k ⟧ ∗ lfts 𝓛 ts
            ⊢ H.⇛ (ex 𝓤
            (λ (η : GName). ⟦ shared_slot R t b ν sharing table set k e η ⟧ ∗ lfts 𝓛 ts))
        wakes_slot ts inc sp j table set k e =
            qed 𝓛 (‵ (slot_rests R sharing k set b e) ∷ ‵ (tokens k) ∷ raw (lfts 𝓛 ts) ∷ []) ∵
            updating ! $ fpick ! (λ s. fsplit3 ! $ fpick ! (λ is. drop ! $
            move ! (1 ∷ []) $ use1 𝓛 (later (‵ (content_at R s.0 b e))) (redeems R L b e s.1 s.0) $
            await ! tt $ move ! (0 ∷ 2 ∷ 1 ∷ 3 ∷ []) $ group ! 4 $
            use1 𝓛 (later (some (λ (η : GName).
            ‵ (flent κ (tracked_value R b e η)) ⊛ ‵ (stays R t b ν sharing k e η s.0)
            ⊛ ‵ (lies_with_slot R t b ν sharing table k e η s.0 free) ⊛ raw (lfts 𝓛 ts))))
            (born ts inc sp j table k e s.0) $
            await ! tt $ pick ! (λ η. split3 ! $ move ! (2 ∷ []) $ split ! $
            -- [had; the lifetimes; the way to the end; what stays]
            move ! (3 ∷ 0 ∷ []) $ fjoin ! $ nothing ! $
            fpack ! (set ≡ is_some s.0) (λ _. ftrue) is $ fjoin ! $
            fpack ! (Option R.Denot × Who) (shared_slot_as R t b ν sharing table set k e η)
            (s.0, free) $
            move ! (2 ∷ 0 ∷ []) $ fjoin ! $
            now ! $ show ! (λ (μ : GName). ⟦ shared_slot R t b ν sharing table set k e μ ⟧ ∗ lfts 𝓛 ts) η $ done !)))

        module _ (table k o : ℕ) (ns : List ℕ) where
          -- the slots of these names, from the index i on
          abbrev Slots : List ℕ → ℕ → Fml
          Slots names i = each (numbered_slot R t b ν sharing table k o ns) names i

          abbrev Woken : Toks → ℕ → ℕ → List ℕ → SProp 𝓤
          Woken ts n i names = guard 𝓤 (length names ≡ n) (⟦ Slots names i ⟧ ∗ lfts 𝓛 ts)

          wakes_slots : (ts : Toks) → Incl (span ts) R.lives → Incl (span ts) κ → Judged R → (n i : ℕ)
              → ⟦ slots_rest R sharing k n i b o ns ⟧ ∗ ⟦ all_tokens (i + k) ⟧ ∗ lfts 𝓛 ts
              ⊢ H.⇛ (ex 𝓤 (Woken ts n i))
          wakes_slots ts inc sp j zero i =
              qed 𝓛 (‵ ftrue ∷ ‵ (all_tokens (i + k)) ∷ raw (lfts 𝓛 ts) ∷ []) ∵ updating ! $ now ! $
              show ! (Woken ts 0 i) [] $ check ! refl $ keep ! (0 ∷ 2 ∷ []) $ done !
          wakes_slots ts inc sp j (suc n) i =
              let e : ℕ = value_offset R o i in
              let set : Bool = is_set_in ns i in
              let next : suc (i + k) ≡ suc i + k = omega arith in
              qed 𝓛 (‵ (slots_rest R sharing k (suc n) i b o ns) ∷ ‵ (all_tokens (i + k))
              ∷ raw (lfts 𝓛 ts) ∷ []) ∵
              updating ! $ fsplit ! $ move ! (2 ∷ []) $
              use1 𝓛 (‵ (tokens (i + k)) ⊛ ‵ (all_tokens (suc (i + k)))) (tokens_step (i + k)) $
              split ! $ move ! (1 ∷ []) $ rewrite ! 0 (λ (m : ℕ). ‵ (all_tokens m)) next refl $
              move ! (2 ∷ 1 ∷ 4 ∷ []) $
              use3 𝓛 (later (some (λ (η : GName).
              ‵ (shared_slot R t b ν sharing table set (i + k) e η) ⊛ raw (lfts 𝓛 ts))))
              (wakes_slot ts inc sp j table set (i + k) e) $
              await ! tt $ pick ! (λ η. split ! $ move ! (3 ∷ 2 ∷ 1 ∷ []) $
              use3 𝓛 (later (some (λ (names : List ℕ).
              given (length names ≡ n) (‵ (Slots names (suc i)) ⊛ raw (lfts 𝓛 ts)))))
              (wakes_slots ts inc sp j n (suc i)) $
              await ! tt $ pick ! (λ names. learn ! (λ long. split ! $
              move ! (2 ∷ 0 ∷ []) $ fjoin ! $ now ! $ show ! (Woken ts (suc n) i) (η ∷ names) $ check ! (ap suc long) $ done !)))

        -- a standing block: the slots of these names, of which the first is for the id k
        abbrev pub Block : (List ℕ → Fml) → ℕ → ℕ → ℕ → ℕ → List ℕ → Fml
        Block shown table k n o names =
            fsep (fex (List ℕ) (slots_under R n b o
            (λ ns. fsep (shown ns) (each (numbered_slot R t b ν sharing table k o ns) names 0))))
            (back R b o n)

        abbrev pub BlockWoken : Toks → (List ℕ → Fml) → ℕ → ℕ → ℕ → ℕ → List ℕ → SProp 𝓤
        BlockWoken ts shown table k n o names = guard 𝓤 (length names ≡ n) (⟦ Block shown table k n o names ⟧ ∗ lfts 𝓛 ts)

        -- a block that lay at rest comes under the turn
        pub wakes_block : (ts : Toks) → Incl (span ts) R.lives → Incl (span ts) κ → Judged R → (shown : List ℕ → Fml) (table k n o : ℕ)
            → ⟦ block_rests R sharing k shown n b o ⟧ ∗ ⟦ all_tokens k ⟧ ∗ lfts 𝓛 ts
            ⊢ H.⇛ (ex 𝓤 (BlockWoken ts shown table k n o))
        wakes_block ts inc sp j shown table k n o = let same : k ≡ 0 + k = omega arith in
            qed 𝓛 (‵ (block_rests R sharing k shown n b o) ∷ ‵ (all_tokens k) ∷ raw (lfts 𝓛 ts) ∷ []) ∵
            updating ! $ fsplit ! $ fpick ! (λ ns. fsplit3 ! $ move ! (2 ∷ []) $ fsplit ! $ move ! (5 ∷ []) $
            rewrite ! 0 (λ (m : ℕ). ‵ (all_tokens m)) same refl $
            -- [the tokens; what the flags show; the slots; that they are words of flags; the words; the
            -- way back; the lifetimes]
            move ! (2 ∷ 0 ∷ 6 ∷ []) $
            use3 𝓛 (later (some (λ (names : List ℕ).
            given (length names ≡ n) (‵ (Slots table k o ns names 0) ⊛ raw (lfts 𝓛 ts)))))
            (wakes_slots table k o ns ts inc sp j n 0) $
            await ! tt $
            pick ! (λ names. learn ! (λ long. split ! $ move ! (2 ∷ 0 ∷ []) $ fjoin ! $ move ! (2 ∷ 3 ∷ 0 ∷ []) $ fjoin3 ! $
            fpack ! (List ℕ) (slots_under R n b o (λ z. fsep (shown z) (Slots table k o z names 0))) ns $
            move ! (0 ∷ 2 ∷ []) $ fjoin ! $
            now ! $ show ! (BlockWoken ts shown table k n o) names $ check ! long $ done !)))

        owed : (k e : ℕ) (η : GName) (v : Option R.Denot)
            → A.dead κ ∗ ⟦ flent κ (tracked_value R b e η) ⟧ ∗ ⟦ stays R t b ν sharing k e η v ⟧
            ⊢ ⟦ told_or_untold R sharing k v ⟧ ∗ ⟦ rests R true b e v ⟧
        owed k e η None =
            qed 𝓛 (‵ (fdead κ) ∷ ‵ (flent κ (tracked_value R b e η))
            ∷ ‵ (stays R t b ν sharing k e η None) ∷ []) ∵
            fjoin ! $ fpack ! (Lft × GName) (due R b e None) (κ, η) $ move ! (1 ∷ []) $ fsplit ! $
            keep ! (1 ∷ 2 ∷ []) $ done !
        owed k e η (Some x) =
            qed 𝓛 (‵ (fdead κ) ∷ ‵ (flent κ (tracked_value R b e η))
            ∷ ‵ (stays R t b ν sharing k e η (Some x)) ∷ []) ∵
            fjoin ! $ move ! (1 ∷ []) $ fsplit3 ! $ move ! (1 ∷ []) $ fsplit ! $
            -- [pinned; what is told; vacant; opened; the loan]
            move ! (0 ∷ 4 ∷ []) $ fjoin ! $ fpack ! (Lft × GName) (due R b e (Some x)) (κ, η) $ keep ! (1 ∷ 0 ∷ []) $ done !

        -- a slot goes to rest once the turn is over
        rests_slot : (table : ℕ) (set : Bool) (k e : ℕ) (η : GName)
            → A.dead κ ∗ ⟦ shared_slot R t b ν sharing table set k e η ⟧
            ⊢ ⟦ slot_rests R sharing k set b e ⟧
        rests_slot table set k e η =
            qed 𝓛 (‵ (fdead κ) ∷ ‵ (shared_slot R t b ν sharing table set k e η) ∷ []) ∵
            move ! (1 ∷ []) $ fsplit ! $ move ! (1 ∷ []) $ fpick ! (λ s. fsplit3 ! $
            -- [the flag; what stays; had; the way to the end; dead]
            move ! (4 ∷ 3 ∷ 1 ∷ []) $
            use3 𝓛 (‵ (told_or_untold R sharing k s.0) ⊛ ‵ (rests R true b e s.0)) (owed k e η s.0) $
            split ! $ move ! (2 ∷ 0 ∷ 1 ∷ []) $ fjoin3 ! $
            fpack ! (Option R.Denot × Bool) (slot_rests_as R sharing k set b e) (s.0, true) $
            keep ! (0 ∷ []) $ done !)

        rests_slots : (table k o : ℕ) (ns names : List ℕ) (i : ℕ)
            → A.dead κ ∗ ⟦ Slots table k o ns names i ⟧
            ⊢ ⟦ slots_rest R sharing k (length names) i b o ns ⟧
        rests_slots table k o ns [] i = qed 𝓛 (‵ (fdead κ) ∷ ‵ ftrue ∷ []) ∵ drop ! $ done !
        rests_slots table k o ns (η ∷ names) i = let e : ℕ = value_offset R o i in let set : Bool = is_set_in ns i in
            qed 𝓛 (‵ (fdead κ) ∷ ‵ (Slots table k o ns (η ∷ names) i) ∷ []) ∵
            use1 𝓛 (‵ (fdead κ) ⊛ ‵ (fdead κ)) (𝓛.lfts.dead_dup κ) $ split ! $ move ! (2 ∷ []) $
            fsplit ! $
            move ! (2 ∷ 0 ∷ []) $
            use2 𝓛 (‵ (slot_rests R sharing (i + k) set b e)) (rests_slot table set (i + k) e η) $
            frame ! $ move ! (1 ∷ 0 ∷ []) $ by ! (rests_slots table k o ns names (suc i))

        -- a block goes to rest once the turn is over
        pub rests_block : (shown : List ℕ → Fml) (table k n o : ℕ) (names : List ℕ) → length names ≡ n
            → A.dead κ ∗ ⟦ Block shown table k n o names ⟧ ⊢ ⟦ block_rests R sharing k shown n b o ⟧
        rests_block shown table k n o names long =
            qed 𝓛 (‵ (fdead κ) ∷ ‵ (Block shown table k n o names) ∷ []) ∵ move ! (1 ∷ []) $ fsplit ! $
            fpick ! (λ ns. fsplit3 ! $ move ! (2 ∷ []) $ fsplit ! $
            -- [what the flags show; the slots; that they are words of flags; the words; the way back; dead]
            move ! (5 ∷ 1 ∷ []) $
            use2 𝓛 (‵ (slots_rest R sharing k (length names) 0 b o ns))
            (rests_slots table k o ns names 0) $
            rewrite ! 0 (λ (m : ℕ). ‵ (slots_rest R sharing k m 0 b o ns)) long refl $
            move ! (1 ∷ 0 ∷ []) $ fjoin ! $ move ! (1 ∷ 2 ∷ 0 ∷ []) $ fjoin3 ! $
            fpack ! (List ℕ) (slots_under R n b o (λ z. fsep (shown z) (slots_rest R sharing k n 0 b o z))) ns $ fjoin ! $
            done !)
